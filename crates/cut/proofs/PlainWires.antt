-- Wires that are sent as they are: those that unpack, have at most 65,536 bytes, and no 3C before their last byte. A packed frame is one; others have a bare 3E inside.
use Prim.Native.Nat.{ℕ, suc, ◌-◌, ◌≤◌}
use mathlib.Core.Path.{◌≡◌, refl, sym, ap, ◌∙◌}
use mathlib.Core.Bool.{true}
use mathlib.Core.List.{List, [], ◌∷◌, ◌++◌}
use native.Mathlib.Omega.{arith}
use lib.ListN.{length, get_or, take, drop, take-append-drop, length-take}
use lib.Seq.{drop-cons}
use lib.Dec.{leb, eqb}
use borrow.Author.Tests.{leb-true, eqb-true}
use Rattle.laws.proofs.Choice.{split_b, no_way}
use Rattle.laws.proofs.Lists.{drop_end}
use Rattle.laws.specs.Answers.{is_given}
use Rattle.mdr.specs.Frame.{unpack_of, unpacks_of}
use Rattle.cut.specs.Recording.{Framing}
use Rattle.cut.proofs.TwoParts.{all_rest}
use Rattle.cut.proofs.CutWires.{NoEnd, Wire, wired, Spanning}

pub record Passes (w : List ℕ) : Type 0 where
  pub unpacks : unpacks_of w ≡ true
  pub size : length w ≤ 65536
  pub once : NoEnd (take (length w - 1) w)

abbrev pub plain_wires : Framing
plain_wires = record { Form = List ℕ; on_wire = λ w. w; Allowed = Passes }

-- what unpacks has 9 bytes, begins with 3E and ends with 3C
record Ends (w : List ℕ) : Type 0 where
  least : 9 ≤ length w
  start : get_or w 0 0 ≡ 0x3E
  end : get_or w (length w - 1) 0 ≡ 0x3C

ends_of_law : (w : List ℕ) → unpacks_of w ≡ true → Ends w
unfolding unpacks_of unpack_of is_given
ends_of_law w u =
    split_b (leb 9 (length w))
    (λ a. split_b (eqb (get_or w 0 0) 0x3E)
    (λ b. split_b (eqb (get_or w (length w - 1) 0) 0x3C)
    (λ c. record { least = leb-true 9 (length w) a; start = eqb-true (get_or w 0 0) 0x3E b; end = eqb-true (get_or w (length w - 1) 0) 0x3C c })
    (λ c. no_way (rw (a, b, c) at u) refl))
    (λ b. no_way (rw (a, b) at u) refl))
    (λ a. no_way (rw a at u) refl)

plain_wire : (w : List ℕ) → Passes w → Wire w
plain_wire [] p = let e = (ends_of_law [] p.unpacks).least in absurd (omega arith)
plain_wire (x ∷ xs) p =
    let e : Ends (x ∷ xs) = ends_of_law (x ∷ xs) p.unpacks in
    let k : suc (length xs) - 1 ≡ suc (length xs - 1) = omega (arith, e.least) in
    let z : get_or xs (length xs - 1) 0 ≡ 0x3C = rw k at e.end in
    let y : drop (suc (length xs - 1)) xs ≡ [] = drop_end xs (suc (length xs - 1)) (omega (arith, e.least)) in
    let d : drop (length xs - 1) xs ≡ 0x3C ∷ [] = drop-cons xs (length xs - 1) 0 (omega (arith, e.least)) ∙ rw (z, y) in
    let q : xs ≡ take (length xs - 1) xs ++ (0x3C ∷ []) = sym (take-append-drop (length xs - 1) xs) ∙ ap (λ (l : List ℕ). take (length xs - 1) xs ++ l) d in
    let n : NoEnd (take (length xs - 1) xs) = all_rest (rw k at p.once) in
    let v : Wire (0x3E ∷ (take (length xs - 1) xs ++ (0x3C ∷ []))) = wired n (rw (length-take (length xs - 1) xs) (omega (arith, p.size))) in
    let s : x ∷ xs ≡ 0x3E ∷ (take (length xs - 1) xs ++ (0x3C ∷ [])) = ap (λ (y : ℕ). y ∷ xs) e.start ∙ ap (λ (l : List ℕ). 0x3E ∷ l) q in
    rw s v

pub plain_spans : Spanning plain_wires
plain_spans = record { wires = plain_wire; unpacks = λ w p. p.unpacks }
