-- Item lists: what an item, a span, a name and a fixture's wire are in bytes, and what a list of them holds.
use Rattle.std.specs.Prelude.{ℕ, zero, suc, ◌+◌, ◌-◌, Bool, false, cond, ◌||◌, List, [], ◌∷◌, ◌++◌, map, leb, eqb, length, take, drop}
use Rattle.laws.specs.Lists.{flat}
use Rattle.laws.specs.Numbers.{le, le16, le32, le64}
use Rattle.items.specs.declared.Direction.{Direction}
use Rattle.items.specs.declared.Direction.TheVariants.{Rx, Tx}

-- ---- writing

-- a length (4 bytes, the lowest first, counting the body), a kind (2 bytes, the lowest first) and a body
unfoldable pub item : ℕ → List ℕ → List ℕ
item kind body = le 4 (length body) ++ (le 2 kind ++ body)

-- what stands before the body
unfoldable pub item_head : ℕ → ℕ → List ℕ
item_head kind size = le 4 size ++ le 2 kind

-- rx is 1 for a span from the headset (Rx) and 0 for one to it (Tx); the time is in milliseconds
pub record Span : Type 0 where
  pub rx : ℕ
  pub time : ℕ
  pub wire : List ℕ

abbrev pub span : ℕ → ℕ → List ℕ → Span
span rx time wire = record { rx = rx; time = time; wire = wire }

unfoldable pub rx_of : Direction → ℕ
rx_of Rx = 1
rx_of Tx = 0

-- kind 1 is an Rx span and 2 a Tx span: milliseconds (8 bytes, the lowest first), then wire bytes
unfoldable pub span_item : Span → List ℕ
span_item s = item (2 - s.rx) (le 8 s.time ++ s.wire)

unfoldable pub span_list : List Span → List ℕ
span_list ss = flat (map span_item ss)

-- kind 3 is a name
unfoldable pub name_item : List ℕ → List ℕ
name_item n = item 3 n

unfoldable pub name_list : List (List ℕ) → List ℕ
name_list ns = flat (map name_item ns)

-- kind 4 is a fixture's wire
unfoldable pub wire_item : List ℕ → List ℕ
wire_item w = item 4 w

-- ---- reading

pub record Item : Type 0 where
  pub kind : ℕ
  pub body : List ℕ

-- the item at a place
unfoldable pub item_at : List ℕ → ℕ → Item
item_at l at = record { kind = le16 l (at + 4); body = take (le32 l at) (drop (at + 6) l) }

-- the place after it
unfoldable pub end_at : List ℕ → ℕ → ℕ
end_at l at = at + 6 + le32 l at

-- which kinds and bodies a list may have
abbrev pub Test : Type 0
Test = ℕ → List ℕ → Bool

-- the item at a place does not pass the end, and may stand in the list
unfoldable pub is_item : Test → List ℕ → ℕ → Bool
is_item ok l at = cond (leb (end_at l at) (length l)) (ok (item_at l at).kind (item_at l at).body) false

-- what a list holds, or the offset of the first item at which it is ill-formed
pub data Listed (A : Type 0) : Type 0 where
  well_formed : List A → Listed A
  ill_formed : ℕ → Listed A

abbrev pub more : {A : Type 0} → A → Listed A → Listed A
more x (well_formed xs) = well_formed (x ∷ xs)
more x (ill_formed n) = ill_formed n

abbrev pub mapped : {A B : Type 0} → (A → B) → Listed A → Listed B
mapped f (well_formed xs) = well_formed (map f xs)
mapped f (ill_formed n) = ill_formed n

-- the items of a list that begins at the offset, less the first bytes of it, which are passed over: those of an item after its first byte
unfoldable pub passing : Test → ℕ → ℕ → List ℕ → Listed Item
passing ok skip offset [] = well_formed []
passing ok zero offset (b ∷ bs) =
    cond (is_item ok (b ∷ bs) 0) (more (item_at (b ∷ bs) 0) (passing ok (le32 (b ∷ bs) 0 + 5) (suc offset) bs)) (ill_formed offset)
passing ok (suc skip) offset (b ∷ bs) = passing ok skip (suc offset) bs

-- a list over 16,777,216 bytes is ill-formed at 0
unfoldable pub read_items : Test → List ℕ → Listed Item
read_items ok l = cond (leb (length l) 16777216) (passing ok 0 0 l) (ill_formed 0)

-- ---- spans and names

unfoldable pub span_test : Test
span_test kind body = cond (leb 8 (length body)) (eqb kind 1 || eqb kind 2) false

unfoldable pub span_of : Item → Span
span_of x = record { rx = 2 - x.kind; time = le64 x.body 0; wire = drop 8 x.body }

unfoldable pub spans_in : List ℕ → Listed Span
spans_in l = mapped span_of (read_items span_test l)

unfoldable pub name_test : Test
name_test kind body = eqb kind 3

unfoldable pub names_in : List ℕ → Listed (List ℕ)
names_in l = mapped (λ (x : Item). x.body) (read_items name_test l)
