-- Reading the ACL packet in an excerpt of a file.
use Rattle.std.specs.Prelude.{Option, Some, None, slice_get}
use Rattle.std.specs.Option.{option_copied, option_eq}
use Rattle.std.proofs.Common.{Bor}
use Prim.Native.Nat.{ℕ, ◌+◌, ◌-◌, ◌*◌, ◌/◌, ◌%◌, ◌<◌, ◌≤◌}
use mathlib.Core.Path.{◌≡◌, refl, sym, ap, ◌∙◌}
use mathlib.Core.Bool.{Bool, true, false, not, cond}
use mathlib.Core.List.{List, [], ◌∷◌}
use native.Mathlib.Omega.{arith}
use lib.ListN.{length, get_or, take, drop, length-drop}
use lib.Dec.{eqb}
use borrow.Author.Tests.{le-leb, lt-leb, eq-eqb, ne_eqb}
use Rattle.laws.proofs.Choice.{split≡, no_way}
use Rattle.laws.specs.Numbers.{le16}
use Rattle.words.specs.Fields.{field_of}
use Rattle.words.proofs.Fields.{field_value, field_none}
use Rattle.container.specs.Packets.{link_of, fragment, h4_packet}
use Rattle.acl.proofs.Parts.{drop_part, part_part}
use Rattle.acl.specs.declared.Fragment.{Fragment}
use Rattle.acl.specs.declared.excerpt.Excerpt.{Excerpt}
use Rattle.acl.specs.Reading.{AclIs, After, H4Is, StandsIn, bytes_in, end_of, packet_from, shown}

-- ---- what follows the first bytes

rest_stands : (f b c : List ℕ) (at to n : ℕ) → n ≤ length b → take (length b) (drop at f) ≡ b → c ≡ drop n b → to ≡ at + n → take (length c) (drop to f) ≡ c
rest_stands f b c at to n h s e p =
    let l : length c ≡ length b - n = rw e (length-drop n b) in
    let d : drop n (take (length b) (drop at f)) ≡ take (length b - n) (drop (at + n) f) = drop_part f at (length b) n h in
    rw (l, p, ← d, s) (sym e)

module _ (x : Excerpt) (n : ℕ) (y : Excerpt) (a : After x n y) (h : n ≤ length (bytes_in x)) where
  pub after_length : length (bytes_in y) ≡ length (bytes_in x) - n
  after_length = rw a.rest (length-drop n (bytes_in x))

  pub after_end : end_of y ≡ end_of x
  after_end = omega (arith, after_length, a.moved)

  pub after_stands : (f : List ℕ) → StandsIn f x → StandsIn f y
  after_stands f s = record { same = rest_stands f (bytes_in x) (bytes_in y) x.place y.place n h s.same a.rest a.moved }

-- ---- the fields of an ACL packet

one_at_most : (b : Bool) → cond b 1 0 ≤ 1
one_at_most true = omega arith
one_at_most false = omega arith

module _ (x : Excerpt) (index : ℕ) (rx : Bool) where
  abbrev b : List ℕ
  b = bytes_in x

  short : length b < 4 + le16 b 2 → AclIs x index (cond rx 1 0) None
  unfolding fragment shown
  short h = record { shows = λ f s time. rw (lt-leb (4 + le16 b 2) (length b) h); held = tt }

  pub acl_handle : (r : Option ℕ) → r ≡ field_of b 0 → r ≡ None → AclIs x index (cond rx 1 0) None
  acl_handle r e q = short (omega (arith, field_none b 0 r e q))

  pub acl_size : (r : Option ℕ) → r ≡ field_of b 2 → r ≡ None → AclIs x index (cond rx 1 0) None
  acl_size r e q = short (omega (arith, field_none b 2 r e q))

  pub acl_short : (r : Option ℕ) (v n : ℕ) → r ≡ field_of b 2 → r ≡ Some v → n ≡ v → length b < 4 + n → AclIs x index (cond rx 1 0) None
  acl_short r v n e q m h = short (omega (arith, (field_value b 2 v r e q).1))

  module _ (r s : Option ℕ) (handle v n key : ℕ) (start : Bool) (len : ℕ) (er : r ≡ field_of b 0) (qr : r ≡ Some handle) (es : s ≡ field_of b 2) (qs : s ≡ Some v) (en : n ≡ v)
      (h : 4 + n ≤ length b) (ek : key ≡ 2 * link_of index (handle % 4096) + cond rx 1 0) (et : start ≡ not (eqb (handle / 4096 % 4) 1)) (el : len ≡ v) where
    pub acl_packet : AclIs x index (cond rx 1 0) (Some (record { key = key; start = start; place = x.place + 4; len = len }))
    unfolding fragment shown packet_from
    acl_packet =
        let eh : handle ≡ le16 b 0 = (field_value b 0 handle r er qr).1 in
        let ev : v ≡ le16 b 2 = (field_value b 2 v s es qs).1 in
        let l : key / 2 ≡ link_of index (handle % 4096) = omega (arith, one_at_most rx) in
        let t : key % 2 ≡ cond rx 1 0 = omega (arith, one_at_most rx) in
        record {
          shows = λ f s time.
              let d : take (le16 b 2) (drop 4 b) ≡ take len (drop (x.place + 4) f) =
              ap (λ (l : List ℕ). take (le16 b 2) (drop 4 l)) (sym s.same) ∙ part_part f x.place (length b) 4 (le16 b 2) (omega arith) ∙ rw (el, ev) in
              rw (le-leb (4 + le16 b 2) (length b) (omega arith), d, l, t, et, eh);
          held = omega arith;
        }

-- ---- H4

not_there : ◌≡◌ {A = ℕ} 0 1 → ⊥
not_there z = omega arith

has_one : (b : List ℕ) → get_or b 0 0 ≡ 2 → 1 ≤ length b
has_one [] h = absurd (omega arith)
has_one (x ∷ b) h = omega arith

-- whether the first byte is there and is one that a place holds
pub first_is : (b : List ℕ) (r : Option (Bor ℕ)) → option_copied r ≡ slice_get b 0 → (k : Bor ℕ) → k.now ≡ 2 → option_eq (λ x y. eqb x.now y.now) r (Some k) ≡ eqb (get_or b 0 0) 2
first_is [] None e k q = refl
first_is [] (Some y) e k q = absurd (not_there cc)
first_is (x ∷ b) None e k q = absurd (not_there cc)
first_is (x ∷ b) (Some y) e k q = let z : y.now ≡ x = cc in rw (z, q)

module _ (x : Excerpt) (rx : Bool) (t : Bool) (et : t ≡ not (eqb (get_or (bytes_in x) 0 0) 2)) where
  two : t ≡ false → get_or (bytes_in x) 0 0 ≡ 2
  two q = split≡ (get_or (bytes_in x) 0 0) 2 (λ e. e) (λ n. no_way (et ∙ rw (ne_eqb (get_or (bytes_in x) 0 0) 2 n)) q)

  pub h4_some : t ≡ false → 1 ≤ length (bytes_in x)
  h4_some q = has_one (bytes_in x) (two q)

  pub h4_other : t ≡ true → H4Is x (cond rx 1 0) None
  unfolding shown h4_packet
  h4_other q = split≡ (get_or (bytes_in x) 0 0) 2
      (λ e. no_way q (et ∙ rw (eq-eqb (get_or (bytes_in x) 0 0) 2 e)))
      (λ n. record { shows = λ f s time. rw (ne_eqb (get_or (bytes_in x) 0 0) 2 n); held = tt })

  module _ (q : t ≡ false) (y : Excerpt) (a : After x 1 y) where
    pub h4_acl : (r : Option Fragment) → AclIs y 0 (cond rx 1 0) r → H4Is x (cond rx 1 0) r
    unfolding h4_packet
    h4_acl r m =
        let some : 1 ≤ length (bytes_in x) = h4_some q in
        record {
          shows = λ f s time. rw (eq-eqb (get_or (bytes_in x) 0 0) 2 (two q), ← a.rest) (m.shows f (after_stands x 1 y a some f s) time);
          held = rw (after_end x 1 y a some) at m.held;
        }
