-- Lists that are read by computing.
use Prim.Native.Nat.{ℕ}
use mathlib.Core.Path.{◌≡◌, refl}
use mathlib.Core.List.{List, [], ◌∷◌, ◌++◌}
use lib.ListN.{length}
use Rattle.laws.specs.Numbers.{le16, le32, le64}
use Rattle.items.specs.Items.{item, Span, span, span_item, span_list, name_item, name_list, item_at, end_at, is_item, well_formed, ill_formed, passing, read_items, span_test, span_of, spans_in, name_test, names_in}

ack : List ℕ
ack = 0x3E ∷ 0x01 ∷ 0x00 ∷ 0x00 ∷ 0x00 ∷ 0x00 ∷ 0x00 ∷ 0x01 ∷ 0x3C ∷ []

two : List Span
two = span 1 1500 ack ∷ span 0 70000 [] ∷ []

-- a span item with a body of 7 bytes
short : List ℕ
short = item 1 (1 ∷ 2 ∷ 3 ∷ 4 ∷ 5 ∷ 6 ∷ 7 ∷ [])

examples :
    (length (span_list (span 1 0 ack ∷ [])) ≡ 23)
    × (spans_in (0 ∷ []) ≡ ill_formed 0)
    × (names_in (0 ∷ []) ≡ ill_formed 0)
    × (spans_in [] ≡ well_formed [])
    × (spans_in (span_list two) ≡ well_formed two)
    × (spans_in (span_list two ++ short) ≡ ill_formed 37)
    × (spans_in (span_list two ++ name_item []) ≡ ill_formed 37)
    × (spans_in (span_list two ++ (1 ∷ 0 ∷ 0 ∷ 0 ∷ 1 ∷ 0 ∷ [])) ≡ ill_formed 37)
    × (names_in (name_list ((65 ∷ 66 ∷ []) ∷ [] ∷ [])) ≡ well_formed ((65 ∷ 66 ∷ []) ∷ [] ∷ []))
    × (names_in (span_list two) ≡ ill_formed 0)
unfolding ack two short item span_item span_list name_item name_list item_at end_at is_item passing read_items span_test span_of spans_in name_test names_in le16 le32 le64
examples = (refl, refl, refl, refl, refl, refl, refl, refl, refl, refl)
