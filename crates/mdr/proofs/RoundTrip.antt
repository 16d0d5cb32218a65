-- Pack then unpack gives the frame back: from the contract of the packing call to the definition of unpacking.
use Prim.Native.Nat.{ℕ, ◌≤◌}
use mathlib.Core.Path.{◌≡◌, ap, ◌∙◌}
use mathlib.Core.List.{List, [], ◌∷◌, ◌++◌}
use native.Mathlib.Omega.{arith}
use lib.ListN.{length, take, drop}
use lib.Seq.{take_at}
use lib.Dec.{leb}
use borrow.Author.Tests.{leb-true, le-leb}
use Rattle.laws.proofs.Choice.{split_b}
use Rattle.laws.specs.Answers.{Answer, accepted, gives, answer, output, Meets}
use Rattle.laws.specs.Stores.{filled}
use Rattle.mdr.specs.Frame.{packed, pack_of, unpack_of}
use Rattle.mdr.proofs.Wire.{round_trip}

module _ (t q : ℕ) (p d e : List ℕ) (a : Answer) (m : Meets (pack_of t q p) d a e) (n : ℕ) (told : a ≡ accepted (n ∷ [])) where
  -- a packing call that answered n left the frame's wire in the first n bytes
  pub packs_wire : (length p ≤ 32760) × (take n e ≡ packed t q p)
  unfolding pack_of answer output filled
  packs_wire =
      split_b (leb (length p) 32760)
      (λ h.
      let A = rw h at m.answers in
      let W = rw h at m.writes in
      split_b (leb (length (packed t q p)) (length d))
      (λ r.
      let B = rw r at A in
      let k : length (packed t q p) ≡ n = cc in
      (leb-true (length p) 32760 h, rw (rw r at W) (take_at (packed t q p) (drop (length (packed t q p)) d) n k)))
      (λ r. let B = rw r at A in let z : ◌≡◌ {A = ℕ} 0 1 = cc in absurd (omega arith)))
      (λ h. let A = rw h at m.answers in let z : ◌≡◌ {A = ℕ} 0 1 = cc in absurd (omega arith))

  -- so unpacking them gives the type, the sequence number and the payload
  pub packs_back : unpack_of (take n e) ≡ gives (t ∷ q ∷ length p ∷ []) p
  packs_back = ap unpack_of packs_wire.1 ∙ round_trip t q p (omega (arith, packs_wire.0))

  -- and so the unpacking call, lent room for the payload, answers and writes them
  pub calls_back :
      (x y : List ℕ) (b : Answer) → Meets (unpack_of (take n e)) x b y → length p ≤ length x →
      (b ≡ accepted (t ∷ q ∷ length p ∷ [])) × (y ≡ p ++ drop (length p) x)
  unfolding answer output filled
  calls_back x y b u h =
      let A = rw (packs_back, le-leb (length p) (length x) h) at u.answers in
      let W = rw (packs_back, le-leb (length p) (length x) h) at u.writes in
      (A, W)
