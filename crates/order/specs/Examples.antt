-- A list in order, by computing.
use Rattle.std.specs.Prelude.{ℕ, ◌≡◌, refl, List, [] as []ᴸ, ◌∷◌ as ◌∷ᴸ◌}
use Prim.Native.String.{String, [], ◌∷◌}
use Prim.Native.Char.{code}
use Rattle.laws.specs.Numbers.{le16, le32}
use Rattle.laws.specs.Keys.{eq_k}
use Rattle.laws.specs.Answers.{gives, refuses}
use Rattle.items.specs.Items.{item, name_item, name_list, item_at, end_at, is_item, passing, read_items, name_test, names_in}
use Rattle.counter.specs.Counter.{mark, after_hyphen, to_hyphen, is_digit, digits, number, signed, within, counter, rank}
use Rattle.lexical.specs.Bytes.{le_bytes}
use Rattle.sorting.specs.Names.{le_name}
use Rattle.sorting.specs.Sort.{insert, isort}
use Rattle.order.specs.Order.{in_order, capture_order}

abbrev ascii : String → List ℕ
ascii [] = []ᴸ
ascii (c ∷ s) = code c ∷ᴸ ascii s

two : List ℕ
two = ascii "mdr-packet-9-2-"

ten : List ℕ
ten = ascii "mdr-packet-0-10-"

z : List ℕ
z = ascii "z"

zz : List ℕ
zz = ascii "zz"

order :
    (capture_order (name_list (ten ∷ᴸ two ∷ᴸ zz ∷ᴸ two ∷ᴸ z ∷ᴸ []ᴸ)) ≡ gives (79 ∷ᴸ []ᴸ) (name_list (z ∷ᴸ zz ∷ᴸ two ∷ᴸ two ∷ᴸ ten ∷ᴸ []ᴸ)))
    × (capture_order (0 ∷ᴸ []ᴸ) ≡ refuses 20 (0 ∷ᴸ []ᴸ))
unfolding two ten z zz mark after_hyphen to_hyphen is_digit digits number signed within counter rank eq_k le_bytes le_name insert isort in_order capture_order item name_item name_list item_at end_at is_item passing read_items name_test names_in le16 le32
order = (refl, refl)
