-- Laws of specs/Glance.
use Prim.Native.Nat.{ℕ}
use mathlib.Core.Path.{◌≡◌}
use mathlib.Core.List.{List, [], ◌∷◌, ◌++◌}
use native.Mathlib.Omega.{arith}
use lib.ListN.{get_or}
use Rattle.laws.specs.Answers.{accepted, refused, Outcome, gives, refuses}
use Rattle.mdr.specs.Told.{glance}
use Rattle.mdr.specs.Glance.{Seen}

three : (vs : List ℕ) (x t q n b : ℕ) → t ∷ q ∷ n ∷ b ∷ [] ≡ vs ++ (x ∷ []) → (vs ≡ t ∷ q ∷ n ∷ []) × (b ≡ x)
three [] x t q n b e = let z : ◌≡◌ {A = ℕ} 0 1 = cc in absurd (omega arith)
three (v ∷ []) x t q n b e = let z : ◌≡◌ {A = ℕ} 0 1 = cc in absurd (omega arith)
three (v ∷ w ∷ []) x t q n b e = let z : ◌≡◌ {A = ℕ} 0 1 = cc in absurd (omega arith)
three (v ∷ w ∷ y ∷ []) x t q n b e = (cc, cc)
three (v ∷ w ∷ y ∷ z ∷ []) x t q n b e = let z : ◌≡◌ {A = ℕ} 0 1 = cc in absurd (omega arith)
three (v ∷ w ∷ y ∷ z ∷ u ∷ us) x t q n b e = let z : ◌≡◌ {A = ℕ} 0 1 = cc in absurd (omega arith)

pub seen : (o : Outcome) (t q n b : ℕ) → accepted (t ∷ q ∷ n ∷ b ∷ []) ≡ glance o → Seen o t q n b
unfolding glance
seen (gives vs w) t q n b e =
    let f : t ∷ q ∷ n ∷ b ∷ [] ≡ vs ++ (get_or w 0 0 ∷ []) = cc in
    let r = three vs (get_or w 0 0) t q n b f in
    record { payload = w; given = rw r.0; first = r.1 }
seen (refuses m vs) t q n b e = let z : ◌≡◌ {A = ℕ} 0 1 = cc in absurd (omega arith)

pub seen_refused : (o : Outcome) (n : ℕ) (vs : List ℕ) → refused n vs ≡ glance o → o ≡ refuses n vs
unfolding glance
seen_refused (gives us w) n vs e = let z : ◌≡◌ {A = ℕ} 0 1 = cc in absurd (omega arith)
seen_refused (refuses m us) n vs e = cc
