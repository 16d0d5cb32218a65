-- What reading the header answers.
use Rattle.std.specs.Prelude.{Ok, Err}
use Prim.Native.Nat.{ℕ, ◌<◌, ◌≤◌}
use mathlib.Core.Path.{◌≡◌, refl, sym, ◌∙◌}
use mathlib.Core.Bool.{Bool, true, false}
use mathlib.Core.List.{List}
use native.Mathlib.Omega.{arith}
use lib.ListN.{length, take}
use lib.Dec.{leb, eqb}
use borrow.Author.Tests.{le-leb, lt-leb, leb-true, ne_eqb}
use Rattle.laws.proofs.Choice.{split_b, no_way}
use Rattle.laws.specs.Keys.{eq_k}
use Rattle.laws.specs.Numbers.{be32}
use Rattle.btsnoop.specs.Header.{magic, is_btsnoop, datalink, is_datalink}
use Rattle.btsnoop.specs.declared.HeaderError.TheVariants.{NotBtsnoop, Datalink}
use Rattle.btsnoop.specs.declared.Datalink as link
use Rattle.btsnoop.specs.declared.Datalink.TheVariants.{Hci, H4, Monitor}
use Rattle.btsnoop.specs.Headers.{datalink_by, header_of}

module _ (f : List ℕ) where
  pub begins_short : length f < 16 → false ≡ is_btsnoop f
  unfolding is_btsnoop
  begins_short h = rw (lt-leb 16 (length f) h)

  pub begins_not : 16 ≤ length f → (t : Bool) → t ≡ eq_k (take 8 f) magic → t ≡ false → t ≡ is_btsnoop f
  unfolding is_btsnoop
  begins_not h t e q = q ∙ rw (le-leb 16 (length f) h, sym e ∙ q)

  pub begins_version : 16 ≤ length f → (t : Bool) → t ≡ eq_k (take 8 f) magic → t ≡ true → (n : ℕ) → n ≡ be32 f 8 → eqb n 1 ≡ is_btsnoop f
  unfolding is_btsnoop
  begins_version h t e q n m = rw (le-leb 16 (length f) h, sym e ∙ q, m)

  -- a file that begins as it should has its 16 bytes
  pub begins_long : is_btsnoop f ≡ true → 16 ≤ length f
  unfolding is_btsnoop
  begins_long e = split_b (leb 16 (length f)) (λ q. leb-true 16 (length f) q) (λ q. no_way (rw q at e) refl)

module _ (f : List ℕ) (t : Bool) (e : t ≡ is_btsnoop f) where
  pub header_room : t ≡ true → 16 ≤ length f
  header_room q = begins_long f (sym e ∙ q)

  pub header_not : t ≡ false → Err NotBtsnoop ≡ header_of f
  unfolding header_of
  header_not q = rw (sym e ∙ q)

  module _ (q : t ≡ true) (n : ℕ) (m : n ≡ be32 f 12) (u : Bool) (z : u ≡ is_datalink n) where
    pub header_other : u ≡ false → Err (Datalink n) ≡ header_of f
    unfolding header_of datalink
    header_other h = rw (sym e ∙ q, ← m, sym z ∙ h)

    pub header_read : u ≡ true → (d : link.Datalink) → d ≡ datalink_by n → Ok d ≡ header_of f
    unfolding header_of datalink
    header_read h d k = rw (sym e ∙ q, ← m, sym z ∙ h, k)

-- ---- the datalink of a number

module _ (n : ℕ) where
  pub by_h4 : n ≡ 1002 → H4 ≡ datalink_by n
  by_h4 e = rw e

  pub by_monitor : n ≡ 2001 → Monitor ≡ datalink_by n
  by_monitor e = rw e

  pub by_other : (n ≡ 1002 → ⊥) → (n ≡ 2001 → ⊥) → Hci ≡ datalink_by n
  by_other a b = rw (ne_eqb n 1002 a, ne_eqb n 2001 b)

-- ---- what a header that was read tells

pub no_header : (f : List ℕ) → header_of f ≡ Err NotBtsnoop → is_btsnoop f ≡ false
unfolding header_of
no_header f e =
    split_b (is_btsnoop f)
    (λ a. split_b (is_datalink (datalink f))
    (λ b. let q = rw (a, b) at e in let z : ◌≡◌ {A = ℕ} 0 1 = cc in absurd (omega arith))
    (λ b. let q = rw (a, b) at e in let z : ◌≡◌ {A = ℕ} 0 1 = cc in absurd (omega arith)))
    (λ a. a)

pub other_link : (f : List ℕ) (n : ℕ) → header_of f ≡ Err (Datalink n) → (is_btsnoop f ≡ true) × (is_datalink (datalink f) ≡ false) × (n ≡ datalink f)
unfolding header_of
other_link f n e =
    split_b (is_btsnoop f)
    (λ a. split_b (is_datalink (datalink f))
    (λ b. let q = rw (a, b) at e in let z : ◌≡◌ {A = ℕ} 0 1 = cc in absurd (omega arith))
    (λ b. let q = rw (a, b) at e in (a, b, (let z : n ≡ datalink f = cc in z))))
    (λ a. let q = rw a at e in let z : ◌≡◌ {A = ℕ} 0 1 = cc in absurd (omega arith))

pub known_link : (f : List ℕ) (x : link.Datalink) → header_of f ≡ Ok x → (is_btsnoop f ≡ true) × (is_datalink (datalink f) ≡ true) × (x ≡ datalink_by (datalink f))
unfolding header_of
known_link f x e =
    split_b (is_btsnoop f)
    (λ a. split_b (is_datalink (datalink f))
    (λ b. let q = rw (a, b) at e in (a, b, (let z : x ≡ datalink_by (datalink f) = cc in z)))
    (λ b. let q = rw (a, b) at e in let z : ◌≡◌ {A = ℕ} 0 1 = cc in absurd (omega arith)))
    (λ a. let q = rw a at e in let z : ◌≡◌ {A = ℕ} 0 1 = cc in absurd (omega arith))
