-- The search for a byte, one at a time and many at once.
use Prim.Native.Nat.{ℕ, zero, suc, ◌+◌, ◌-◌, ◌<◌, ◌≤◌}
use mathlib.Core.Path.{◌≡◌, refl, sym, ap, ◌∙◌}
use mathlib.Core.Bool.{Bool, true, false, cond, ◌||◌, not}
use mathlib.Core.List.{List, [], ◌∷◌}
use native.Mathlib.Omega.{arith}
use lib.ListN.{length, get_or, take, drop, length-drop}
use lib.Seq.{drop-drop, length-take-le, take_all}
use lib.Dec.{eqb}
use borrow.Author.Tests.{eq-eqb, ne_eqb}
use Rattle.laws.proofs.Choice.{split_b, split≡, split≤, no_way}
use Rattle.laws.proofs.Lists.{drop_step, drop_end}
use Rattle.search.specs.Seek.{seek}
use Rattle.search.specs.Steps.{Without, Passed, Sought}

-- ---- one byte at a time

module _ (s : List ℕ) (i x : ℕ) where
  seek_hit : i < length s → get_or s i 0 ≡ x → seek x (drop i s) ≡ 0
  unfolding seek
  seek_hit h e = rw (drop_step s i h, eq-eqb (get_or s i 0) x e)

  seek_miss : i < length s → (get_or s i 0 ≡ x → ⊥) → seek x (drop i s) ≡ suc (seek x (drop (i + 1) s))
  unfolding seek
  seek_miss h e = rw (drop_step s i h, ne_eqb (get_or s i 0) x e)

  seek_end : length s ≤ i → seek x (drop i s) ≡ 0
  unfolding seek
  seek_end h = rw (drop_end s i h)

-- nothing found before a place
pub record Seeking (s : List ℕ) (x i : ℕ) : Type 0 where
  pub high : i ≤ length s
  pub same : i + seek x (drop i s) ≡ seek x s

pub seeking_start : (s : List ℕ) (x : ℕ) → Seeking s x 0
seeking_start s x = record { high = omega arith; same = omega arith }

-- ---- many bytes at once

-- the first x of the first m bytes, if they have one, is the first
seek_take : (x m : ℕ) (l : List ℕ) → seek x (take m l) < length (take m l) → seek x l ≡ seek x (take m l)
unfolding seek
seek_take x zero l h = absurd (omega arith)
seek_take x (suc m) [] h = absurd (omega arith)
seek_take x (suc m) (y ∷ l) h =
    split≡ y x
    (λ e. rw (eq-eqb y x e))
    (λ e. rw (ne_eqb y x e) (ap suc (seek_take x m l (omega (arith, rw (ne_eqb y x e) at h)))))

-- what has no x before m may be searched from m on
seek_skip : (x m : ℕ) (l : List ℕ) → m ≤ seek x l → seek x l ≡ m + seek x (drop m l)
unfolding seek
seek_skip x zero l h = omega arith
seek_skip x (suc m) [] h = absurd (omega arith)
seek_skip x (suc m) (y ∷ l) h =
    split≡ y x
    (λ e. absurd (omega (arith, rw (eq-eqb y x e) at h)))
    (λ e. rw (ne_eqb y x e) (omega (arith, seek_skip x m l (omega (arith, rw (ne_eqb y x e) at h)))))

pub seek_le : (x : ℕ) (l : List ℕ) → seek x l ≤ length l
unfolding seek
seek_le x [] = omega arith
seek_le x (y ∷ l) = split≡ y x (λ e. rw (eq-eqb y x e) (omega arith)) (λ e. rw (ne_eqb y x e) (omega (arith, seek_le x l)))

-- the first m bytes have no x, so the first x comes after them
seek_past : (x m : ℕ) (l : List ℕ) → seek x (take m l) ≡ length (take m l) → m ≤ length l → m ≤ seek x l
unfolding seek
seek_past x zero l e h = omega arith
seek_past x (suc m) [] e h = absurd (omega arith)
seek_past x (suc m) (y ∷ l) e h =
    split≡ y x
    (λ k. absurd (omega (arith, rw (eq-eqb y x k) at e)))
    (λ k. rw (ne_eqb y x k) (omega (arith, seek_past x m l (omega (arith, rw (ne_eqb y x k) at e)) (omega arith))))

-- an x at a place, so the first is not behind it
seek_most : (x i : ℕ) (l : List ℕ) → i < length l → get_or l i 0 ≡ x → seek x l ≤ i
unfolding seek
seek_most x i [] h e = absurd (omega arith)
seek_most x zero (y ∷ l) h e = rw (eq-eqb y x e) (omega arith)
seek_most x (suc i) (y ∷ l) h e =
    split≡ y x
    (λ k. rw (eq-eqb y x k) (omega arith))
    (λ k. rw (ne_eqb y x k) (omega (arith, seek_most x i l (omega arith) e)))

or_true : (b : Bool) → (b || true) ≡ true
or_true true = refl
or_true false = refl

or_false : (b : Bool) → (b || false) ≡ b
or_false true = refl
or_false false = refl

-- of i bytes, whether one is x
pub record Lacking (l : List ℕ) (x : ℕ) (found : Bool) (i : ℕ) : Type 0 where
  pub high : i ≤ length l
  pub none : found ≡ false → i + seek x (drop i l) ≡ seek x l
  pub some : found ≡ true → seek x l < length l

module _ (l : List ℕ) (x : ℕ) (found : Bool) (i : ℕ) (v : Lacking l x found i) where
  pub lacking_turn : i < length l → Lacking l x (found || eqb (get_or l i 0) x) (i + 1)
  lacking_turn h =
      split≡ (get_or l i 0) x
      (λ e. rw (eq-eqb (get_or l i 0) x e, or_true found) (record { high = omega arith; none = λ z. no_way refl z; some = λ z. omega (arith, seek_most x i l h e) }))
      (λ e. rw (ne_eqb (get_or l i 0) x e, or_false found) (record { high = omega arith; none = λ z. omega (arith, v.none z, seek_miss l i x h e); some = λ z. v.some z }))

  pub lacking_end : length l ≤ i → Without l x (not found)
  lacking_end h = split_b found
      (λ e. rw e (record { none = λ z. no_way z refl; some = λ z. v.some e }))
      (λ e. rw e (record { none = λ z. omega (arith, v.none e, v.high, seek_end l i x h); some = λ z. no_way refl z }))

pub record Placing (l : List ℕ) (x best i : ℕ) : Type 0 where
  pub high : i ≤ length l
  pub is : best ≡ i + seek x (drop i l)

pub placing_start : (l : List ℕ) (x : ℕ) → Placing l x (length l) (length l)
placing_start l x = record { high = omega arith; is = omega (arith, seek_end l (length l) x (omega arith)) }

module _ (l : List ℕ) (x best i : ℕ) (v : Placing l x best i) (h : 0 < i) where
  pub placing_hit : get_or l (i - 1) 0 ≡ x → Placing l x (i - 1) (i - 1)
  placing_hit e = record { high = omega (arith, v.high); is = omega (arith, seek_hit l (i - 1) x (omega (arith, v.high)) e) }

  pub placing_miss : (get_or l (i - 1) 0 ≡ x → ⊥) → Placing l x best (i - 1)
  placing_miss e =
      let k : i - 1 + 1 ≡ i = omega arith in
      record { high = omega (arith, v.high); is = omega (arith, v.is, rw k at (seek_miss l (i - 1) x (omega (arith, v.high)) e)) }

pub placing_end : (l : List ℕ) (x best i : ℕ) → Placing l x best i → i ≤ 0 → best ≡ seek x l
placing_end l x best i v h = let k : i ≡ 0 = omega arith in rw k at v.is ∙ omega arith

-- the first x, if it is among the first m bytes, is theirs
seek_within : (x m : ℕ) (l : List ℕ) → seek x l < m → m ≤ length l → seek x (take m l) ≡ seek x l
unfolding seek
seek_within x zero l h g = absurd (omega arith)
seek_within x (suc m) [] h g = absurd (omega arith)
seek_within x (suc m) (y ∷ l) h g =
    split≡ y x
    (λ e. rw (eq-eqb y x e))
    (λ e. rw (ne_eqb y x e) (ap suc (seek_within x m l (omega (arith, rw (ne_eqb y x e) at h)) (omega arith))))

-- nothing found in the first m bytes
pub skipped : (x m : ℕ) (s : List ℕ) → m ≤ length s → seek x (take m s) ≡ length (take m s) → seek x s ≡ m + seek x (drop m s)
skipped x m s h e = seek_skip x m s (seek_past x m s e h)

-- the last bytes of a list, if there is nothing before them
pub lasts : (x m : ℕ) (s : List ℕ) → m ≤ length s → length s - m ≤ seek x s → seek x s ≡ length s - m + seek x (take m (drop (length s - m) s))
lasts x m s h g =
    let l : length (drop (length s - m) s) ≤ m = simp length-drop (omega arith) in
    rw (take_all m (drop (length s - m) s) l) (seek_skip x (length s - m) s g)

-- the first sixteen of 16 to 32 bytes, or the last sixteen if the first have no x
pub later_is : (n at : ℕ) (b : Bool) → at ≡ n - 16 → b ≡ true → at ≡ cond b (n - 16) 0
later_is n at b e t = rw t e

pub sooner_is : (n at : ℕ) (b : Bool) → at ≡ 0 → b ≡ false → at ≡ cond b (n - 16) 0
sooner_is n at b e t = rw t e

module _ (s : List ℕ) (x at : ℕ) (b : Bool) (h : length s ≤ 32) (g : 16 ≤ length s) (w : Without (take 16 s) x b) (e : at ≡ cond b (length s - 16) 0) where
  half_found : seek x s ≡ at + seek x (take 16 (drop at s))
  half_found =
      split_b b
      (λ t. let k : at ≡ length s - 16 = rw t at e in
      rw k (lasts x 16 s g (omega (arith, seek_past x 16 s (w.none t) g))))
      (λ t. let k : at ≡ 0 = rw t at e in rw k (omega (arith, seek_take x 16 s (w.some t))))

  pub half_placed : (r : ℕ) → r ≡ seek x (take (at + 16 - at) (drop at s)) → at + r ≡ seek x s
  half_placed r q = let z : at + 16 - at ≡ 16 = omega arith in omega (arith, half_found, rw z at q)

  pub half_none : (c : Bool) → Without (take (at + 16 - at) (drop at s)) x c → c ≡ true → length s ≡ seek x s
  half_none c u t =
      let z : at + 16 - at ≡ 16 = omega arith in
      let v : Without (take 16 (drop at s)) x c = rw z at u in
      split_b b
      (λ y. let k : at ≡ length s - 16 = rw y at e in
      omega (arith, half_found, v.none t, length-take-le 16 (drop at s) (omega (arith, length-drop at s))))
      (λ y. let k : at ≡ 0 = rw y at e in
      absurd (omega (arith, w.some y, rw k at (v.none t))))

-- blocks of 32 bytes
module _ (s : List ℕ) (x i : ℕ) (v : Seeking s x i) where
  pub passed_last : (r : ℕ) → r ≡ length s - 32 → r ≤ i → Passed s x r
  passed_last r e g =
      rw e
      (split≤ 32 (length s)
      (λ h. record { high = omega arith; same = lasts x 32 s h (omega (arith, v.same)) })
      (λ h. let z : length s - 32 ≡ 0 = omega arith in rw z (record { high = omega arith; same = omega (arith, ap (seek x) (take_all 32 s (omega arith))) })))

  module _ (b : Bool) (h : i + 32 ≤ length s) (w : Without (take (i + 32 - i) (drop i s)) x b) where
    block : Without (take 32 (drop i s)) x b
    block = let z : i + 32 - i ≡ 32 = omega arith in rw z at w

    pub passed_block : b ≡ false → Passed s x i
    passed_block t = record { high = omega arith; same = omega (arith, v.same, seek_take x 32 (drop i s) (block.some t)) }

    pub seeking_block : b ≡ true → Seeking s x (i + 32)
    seeking_block t = record { high = h; same = next (rw (drop-drop 32 i s) at (skipped x 32 (drop i s) (omega (arith, length-drop i s)) (block.none t))) } where
      next : seek x (drop i s) ≡ 32 + seek x (drop (i + 32) s) → i + 32 + seek x (drop (i + 32) s) ≡ seek x s
      next e = omega (arith, v.same)

pub sought : (s : List ℕ) (x r : ℕ) → r ≡ seek x s → Sought s x r
sought s x r e = record { at = e; most = omega (arith, seek_le x s) }

-- the 32 bytes from a place on, or all that there are
module _ (s : List ℕ) (x at k : ℕ) (p : Passed s x at) (h : at + 32 ≤ length s → k ≡ at + 32) (g : length s ≤ at + 32 → k ≡ length s) where
  part_is : take (k - at) (drop at s) ≡ take 32 (drop at s)
  part_is =
      split≤ (at + 32) (length s)
      (λ m. let z : k - at ≡ 32 = omega (arith, h m) in rw z)
      (λ m. let z : k ≡ length s = g (omega arith) in
      rw z (take_all (length s - at) (drop at s) (simp length-drop (omega arith)) ∙ sym (take_all 32 (drop at s) (simp length-drop (omega arith)))))

  pub passed_found : (r : ℕ) → r ≡ seek x (take (k - at) (drop at s)) → Sought s x (at + r)
  passed_found r e = sought s x (at + r) (omega (arith, p.same, rw part_is at e))

-- some bytes looked at before the rest
module _ (x m : ℕ) (s : List ℕ) (h : m ≤ length s) (at : ℕ) (e : at ≡ seek x (take m s)) where
  pub soon_found : at < m → Sought s x at
  soon_found g = sought s x at (e ∙ sym (seek_take x m s (omega (arith, length-take-le m s h))))

  pub soon_past : m ≤ at → (r : ℕ) → Sought (drop m s) x r → Sought s x (m + r)
  soon_past g r q = sought s x (m + r) (omega (arith, q.at, skipped x m s h (omega (arith, length-take-le m s h, seek_le x (take m s)))))
