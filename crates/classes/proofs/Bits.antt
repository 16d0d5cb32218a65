-- Laws of the keys of rows and of their bits.
use mathlib.Core.Path.{◌≡◌, refl, sym, ◌∙◌}
use mathlib.Core.List.{List}
use mathlib.Core.Bool.{Bool, true, false, cond}
use Prim.Native.Nat.{ℕ, ◌+◌, ◌*◌, ◌/◌, ◌%◌, ◌<◌, ◌≤◌}
use native.Mathlib.Omega.{arith}
use native.Mathlib.Nat.{mod-lt}
use lib.Dec.{eqb}
use borrow.Author.Tests.{eq-eqb, ne_eqb, eqb-false, lt-ltb, le-ltb}
use Rattle.laws.proofs.Choice.{split≤}
use Rattle.laws.specs.Keys.{Key, eq_k}
use Rattle.laws.proofs.Keys.{ne_eq_k}
use Rattle.words.specs.Words.{word}
use Rattle.classes.specs.Keys.{words_of}
use Rattle.classes.specs.declared.Key.{Key as RowKey}
use Rattle.classes.specs.Bits.{second_of, turn_of, roots_of, Roots}
use Rattle.classes.specs.Classes.{key_at}
use Rattle.classes.specs.declared.Rows.{Rows}

-- ---- two keys, word by word

module _ (w : List ℕ) (x : Rows) (i : ℕ) (k : RowKey) (a : ℕ) where
  pub other_counts : a ≡ word w (x.at + 8 * i + 3) → (a ≡ k.counts → ⊥) → eq_k (key_at w x i) (words_of k) ≡ false
  unfolding key_at words_of
  other_counts p n = ne_eq_k _ _ (λ e. n (p ∙ (let z : word w (x.at + 8 * i + 3) ≡ k.counts = cc in z)))

  pub other_side : a ≡ word w (x.at + 8 * i + 1) → eqb a k.side ≡ false → eq_k (key_at w x i) (words_of k) ≡ false
  unfolding key_at words_of
  other_side p n = ne_eq_k _ _ (λ e. eqb-false a k.side n (p ∙ (let z : word w (x.at + 8 * i + 1) ≡ k.side = cc in z)))

  pub other_cid : a ≡ word w (x.at + 8 * i + 2) → eqb a k.cid ≡ false → eq_k (key_at w x i) (words_of k) ≡ false
  unfolding key_at words_of
  other_cid p n = ne_eq_k _ _ (λ e. eqb-false a k.cid n (p ∙ (let z : word w (x.at + 8 * i + 2) ≡ k.cid = cc in z)))

module _ (w : List ℕ) (x : Rows) (i : ℕ) (k : RowKey) (a b c d : ℕ) where
  pub same_dlci : a ≡ word w (x.at + 8 * i + 3) → a ≡ k.counts → b ≡ word w (x.at + 8 * i + 1) → eqb b k.side ≡ true → c ≡ word w (x.at + 8 * i + 2) → eqb c k.cid ≡ true → d ≡ word w (x.at + 8 * i) → eqb d k.dlci ≡ eq_k (key_at w x i) (words_of k)
  unfolding key_at words_of eq_k
  same_dlci ea ka eb kb ec kc ed = rw (sym ed, sym eb, kb, sym ec, kc, sym ea, eq-eqb a k.counts ka) (last (eqb d k.dlci)) where
    last : (t : Bool) → t ≡ cond t true false
    last true = refl
    last false = refl

-- ---- the bits of a key

pub turn_used : (k : Key) (bits : ℕ) → bits / 2 ≡ 1 → (r : ℕ) → r ≡ second_of k → r ≡ turn_of k bits
unfolding turn_of
turn_used k bits h r s = rw (eq-eqb (bits / 2) 1 h) s

pub turn_on : (k : Key) (bits : ℕ) → (bits / 2 ≡ 1 → ⊥) → bits / 2 ≡ turn_of k bits
unfolding turn_of
turn_on k bits h = rw (ne_eqb (bits / 2) 1 h)

-- ---- how many trees there are

module _ (n : ℕ) where
  pub roots_1 : n < 256 → 1 ≡ roots_of n
  unfolding roots_of
  roots_1 h = rw (lt-ltb n 256 h)

  pub roots_256 : 256 ≤ n → n < 4096 → 256 ≡ roots_of n
  unfolding roots_of
  roots_256 g h = rw (le-ltb n 256 g, lt-ltb n 4096 h)

  pub roots_4096 : 4096 ≤ n → n < 65536 → 4096 ≡ roots_of n
  unfolding roots_of
  roots_4096 g h = rw (le-ltb n 256 (omega arith), le-ltb n 4096 g, lt-ltb n 65536 h)

  pub roots_65536 : 65536 ≤ n → 65536 ≡ roots_of n
  unfolding roots_of
  roots_65536 g = rw (le-ltb n 256 (omega arith), le-ltb n 4096 (omega arith), le-ltb n 65536 g)

  pub one_tree : n < 256 → Roots n 1
  one_tree h = record { is = roots_1 h; some = omega arith }

  pub trees_256 : 256 ≤ n → n < 4096 → Roots n 256
  trees_256 g h = record { is = roots_256 g h; some = omega arith }

  pub trees_4096 : 4096 ≤ n → n < 65536 → Roots n 4096
  trees_4096 g h = record { is = roots_4096 g h; some = omega arith }

  pub trees_65536 : 65536 ≤ n → Roots n 65536
  trees_65536 g = record { is = roots_65536 g; some = omega arith }

  -- each of the cases
  pub roots_case : (P : ℕ → Type 0) → (n < 256 → P 1) → (256 ≤ n → P 256) → (4096 ≤ n → P 4096) → (65536 ≤ n → P 65536) → P (roots_of n)
  roots_case P a b c d =
      split≤ 256 n
      (λ g. split≤ 4096 n
      (λ h. split≤ 65536 n
      (λ k. rw (← roots_65536 k) (d k))
      (λ k. rw (← roots_4096 h k) (c h)))
      (λ h. rw (← roots_256 g h) (b g)))
      (λ g. rw (← roots_1 g) (a g))

  pub roots_some : 0 < roots_of n
  roots_some = roots_case (λ (m : ℕ). 0 < m) (λ h. omega arith) (λ h. omega arith) (λ h. omega arith) (λ h. omega arith)

  pub roots_few : 0 < n → roots_of n ≤ n
  roots_few l = roots_case (λ (m : ℕ). m ≤ n) (λ h. l) (λ h. h) (λ h. h) (λ h. h)

pub root_few : (n f : ℕ) → f % roots_of n < roots_of n
root_few n f = mod-lt f (roots_some n)
