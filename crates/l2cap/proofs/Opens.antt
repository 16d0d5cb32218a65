-- What is open: the row of a key, and what a fragment makes of it.
use Rattle.std.specs.Prelude.{Option, Some, None, SomeIff}
use mathlib.Core.Path.{◌≡◌, refl, sym, ap, ◌∙◌}
use mathlib.Core.Bool.{Bool, true, false, cond}
use Prim.Native.Nat.{ℕ, zero, suc, ◌+◌, ◌-◌, ◌*◌, ◌<◌, ◌≤◌}
use mathlib.Core.List.{List}
use native.Mathlib.Omega.{arith}
use lib.ListN.{length}
use lib.Dec.{eqb}
use Rattle.laws.proofs.Choice.{split≡}
use Rattle.words.specs.Words.{word, long, put_word}
use Rattle.words.proofs.Words.{length_put, word_put_same, word_put_other}
use Rattle.words.specs.Front.{Front}
use Rattle.words.proofs.Front.{front_then, front_put}
use Rattle.table.specs.Table.{Slot, none as no_row, some as row, find_in, lookup, second, Stored}
use Rattle.table.proofs.Table.{lookup_found, find_below, long_agree, store_old}
use Rattle.tree.proofs.Index.{find_agree}
use Rattle.fragments.specs.Links.{first_of}
use Rattle.l2cap.specs.Steps.{open_from, as_open, open_at, open_in, longer, grown, next_at, next_by, Arrive, first_word, got_word, SetOpen, put_open}
use Rattle.l2cap.specs.declared.Open.{Open}

pub never : {G : Type 0} {a g : ℕ} → None ≡ open_from a g → G
never e = let z : ◌≡◌ {A = ℕ} 0 1 = cc in absurd (omega arith)

abbrev first_in : Option Open → ℕ
first_in None = 0
first_in (Some pdu) = pdu.first

abbrev got_in : Option Open → ℕ
got_in None = 0
got_in (Some pdu) = pdu.got

pub same_open : (a g b h : ℕ) → open_from a g ≡ open_from b h → (a ≡ b) × (g ≡ h)
same_open a g b h e = (ap first_in e, ap got_in e)

-- ---- a row

pub as_zero : (a g : ℕ) → a ≡ 0 → as_open (row a g) ≡ None
unfolding as_open
as_zero zero g e = refl
as_zero (suc a) g e = absurd (omega arith)

pub as_pos : (a g : ℕ) → (a ≡ 0 → ⊥) → as_open (row a g) ≡ open_from (a - 1) g
unfolding as_open
as_pos zero g e = absurd (e refl)
as_pos (suc a) g e = let z : suc a - 1 ≡ a = omega arith in rw z

pub as_got : (s : Slot) (a g : ℕ) → as_open s ≡ open_from a g → second s ≡ g
unfolding as_open second
as_got no_row a g e = never e
as_got (row zero y) a g e = never e
as_got (row (suc x) y) a g e = (same_open x y a g e).1

pub as_blank : (s : Slot) → first_of s ≡ 0 → as_open s ≡ None
unfolding as_open first_of
as_blank no_row e = refl
as_blank (row zero g) e = refl
as_blank (row (suc a) g) e = absurd (omega (arith, e))

module _ (w : List ℕ) (at a : ℕ) (ae : a ≡ word w (at + 2)) where
  pub look_none : (r : Option ℕ) → SomeIff r (1 ≤ a) (a - 1) → r ≡ None → None ≡ open_in w at
  unfolding open_in
  look_none None h e = sym (as_zero (word w (at + 2)) (word w (at + 3)) (sym ae ∙ split≡ a 0 (λ z. z) (λ z. absurd (h (omega arith)))))
  look_none (Some j) h e = let z : ◌≡◌ {A = ℕ} 0 1 = cc in absurd (omega arith)

  pub look_some : (r : Option ℕ) → SomeIff r (1 ≤ a) (a - 1) → (j : ℕ) → r ≡ Some j → (g : ℕ) → g ≡ word w (at + 3) → open_from j g ≡ open_in w at
  unfolding open_in
  look_some None h j e g ge = let z : ◌≡◌ {A = ℕ} 0 1 = cc in absurd (omega arith)
  look_some (Some k) h j e g ge =
      let kj : k ≡ j = cc in
      let z : word w (at + 2) - 1 ≡ j = omega (arith, h.1, ae, kj) in
      sym (as_pos (word w (at + 2)) (word w (at + 3)) (λ t. omega (arith, h.0, ae, t)) ∙ rw (z, ge))

pub open_is : (w : List ℕ) (at y z a b : ℕ) → (y ≡ a) × (z ≡ b) → (v u : List ℕ) → v ≡ put_word w (at + 2) y → u ≡ put_word v (at + 3) z → u ≡ put_open w at a b
unfolding put_open
open_is w at y z a b e v u ev eu = rw (eu, ev, e.0, e.1)

-- the words that a row gets for what is open
pub words_some : (o : Option Open) (p : Open) → o ≡ Some p → (x : ℕ × ℕ) → x ≡ (p.first + 1, p.got) → (x.0 ≡ first_word o) × (x.1 ≡ got_word o)
unfolding first_word got_word
words_some o p e x h = rw (e, h) (refl, refl)

pub words_none : (o : Option Open) → o ≡ None → (x : ℕ × ℕ) → x ≡ (0, 0) → (x.0 ≡ first_word o) × (x.1 ≡ got_word o)
unfolding first_word got_word
words_none o e x h = rw (e, h) (refl, refl)

pub opens_first : (w : List ℕ) (at : ℕ) (o : Option Open) → SetOpen w at o → (p : Open) → o ≡ Some p → p.first + 1 < 4294967296
unfolding first_word
opens_first w at o s p e = rw e at s.first

-- ---- a fragment

module _ (w : List ℕ) (at i n : ℕ) (start : Bool) (se : start ≡ eqb (word w (6 * i + 1)) 1) (ne : n ≡ word w (6 * i + 3)) where
  pub arrive_start : start ≡ true → open_from i n ≡ next_by w at i
  unfolding next_by grown
  arrive_start h = rw (← se, h, ne)

  module _ (h : start ≡ false) (o : Option Open) (oe : o ≡ open_in w at) where
    pub arrive_closed : o ≡ None → None ≡ next_by w at i
    unfolding next_by grown longer
    arrive_closed e = rw (← se, h, ← oe, e)

    pub arrive_more : (a g : ℕ) → o ≡ open_from a g → open_from a (g + n) ≡ next_by w at i
    unfolding next_by grown longer
    arrive_more a g e = rw (← se, h, ← oe, e, ne)

    pub arrive_small : Arrive w at i → (a g : ℕ) → o ≡ open_from a g → g + n < 18446744073709551616
    unfolding open_in second
    arrive_small p a g e =
        let d : word w (at + 3) ≡ g = as_got (row (word w (at + 2)) (word w (at + 3))) a g (sym oe ∙ e) in
        omega (arith, p.sums)

-- ---- the row of a key

module _ (w : List ℕ) (b n k r : ℕ) (e : find_in w b k n ≡ Some r) where
  pub open_row : open_at w b n k ≡ open_in w (b + 4 * r)
  unfolding open_at open_in
  open_row = ap as_open (lookup_found w b k n r e)

  -- its values are set
  module _ (y z : ℕ) (room : 4 * (b + 4 * n) ≤ length w) (u : List ℕ) (eu : u ≡ put_open w (b + 4 * r) y z) where
    less : r < n
    less = find_below w b k n r e

    pub set_other : (j : ℕ) → (b + 4 * r + 2 ≡ j → ⊥) → (b + 4 * r + 3 ≡ j → ⊥) → word u j ≡ word w j
    unfolding put_open
    set_other j n2 n3 = rw eu (simp word_put_other)

    set_size : length u ≡ length w
    unfolding put_open
    set_size = rw eu (simp length_put)

    set_front : Front (4 * b) u w
    unfolding put_open
    set_front = rw eu (front_then (4 * b) _ _ w (front_put (4 * b) _ (b + 4 * r + 3) z (omega arith)) (front_put (4 * b) w (b + 4 * r + 2) y (omega arith)))

    set_first : word u (b + 4 * r + 2) ≡ y
    unfolding put_open
    set_first =
        let n3 : b + 4 * r + 3 ≡ b + 4 * r + 2 → ⊥ = λ t. omega arith in
        rw eu (word_put_other _ (b + 4 * r + 3) z (b + 4 * r + 2) n3 ∙ word_put_same w (b + 4 * r + 2) y (omega (arith, less)))

    set_last : word u (b + 4 * r + 3) ≡ z
    unfolding put_open
    set_last = rw eu (word_put_same _ (b + 4 * r + 3) z (simp length_put (omega (arith, less))))

    keys : (j : ℕ) → j < n → long u (b + 4 * j) ≡ long w (b + 4 * j)
    keys j h =
        long_agree u w (b + 4 * j)
        (set_other (b + 4 * j) (λ t. omega arith) (λ t. omega arith))
        (set_other (b + 4 * j + 1) (λ t. omega arith) (λ t. omega arith))

    pub set_stored : Stored w b n k y z u n
    set_stored = store_old w u b n k r y z e (record {
      keys = keys;
      first = set_first;
      last = set_last;
      firsts = λ j h q. set_other (b + 4 * j + 2) (λ t. q (omega arith)) (λ t. omega arith);
      lasts = λ j h q. set_other (b + 4 * j + 3) (λ t. omega arith) (λ t. q (omega arith));
    }) set_front set_size

    pub set_finds : (j : ℕ) → find_in u b j n ≡ find_in w b j n
    set_finds j = find_agree u w b j n keys

-- ---- what the next state says of the present one

-- no more is held than was, and what came
pub arrive_got : (w : List ℕ) (b live i a g : ℕ) → next_at w b live i ≡ open_from a g → g ≤ second (lookup w b live (word w (6 * i))) + word w (6 * i + 3)
unfolding next_at grown longer open_at
arrive_got w b live i a g e = go (as_open was) (λ x y q. as_got was x y q) (eqb (word w (6 * i + 1)) 1) e where
  was : Slot
  was = lookup w b live (word w (6 * i))

  go :
      (o : Option Open) → ((x y : ℕ) → o ≡ open_from x y → second was ≡ y) → (t : Bool) →
      cond t (open_from i (word w (6 * i + 3))) (longer o (word w (6 * i + 3))) ≡ open_from a g → g ≤ second was + word w (6 * i + 3)
  go o h true q = let y : word w (6 * i + 3) ≡ g = (same_open i (word w (6 * i + 3)) a g q).1 in omega arith
  go None h false q = never q
  go (Some pdu) h false q = let n : pdu.got + word w (6 * i + 3) ≡ g = (same_open pdu.first (pdu.got + word w (6 * i + 3)) a g q).1 in omega (arith, h pdu.first pdu.got refl)

-- nothing is open after the packet: nothing was
pub arrive_none : (w : List ℕ) (b live i : ℕ) → next_at w b live i ≡ None → open_at w b live (word w (6 * i)) ≡ None
unfolding next_at grown longer
arrive_none w b live i e = go (open_at w b live (word w (6 * i))) (eqb (word w (6 * i + 1)) 1) e where
  go : (o : Option Open) (t : Bool) → cond t (open_from i (word w (6 * i + 3))) (longer o (word w (6 * i + 3))) ≡ None → o ≡ None
  go None t q = refl
  go (Some pdu) true q = never (sym q)
  go (Some pdu) false q = never (sym q)
