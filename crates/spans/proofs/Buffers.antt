-- The next span of a buffer, and the loops that count and write spans.
use Rattle.std.specs.Prelude.{Option, Some, None}
use Rattle.std.specs.Borrow.{Bor}
use Prim.Native.Nat.{ℕ, suc, ◌+◌, ◌-◌, ◌*◌, ◌<◌, ◌≤◌}
use mathlib.Core.Path.{◌≡◌, refl, sym, ap, ◌∙◌}
use mathlib.Core.Bool.{true, false}
use mathlib.Core.List.{List, ◌++◌}
use native.Mathlib.Omega.{arith}
use lib.ListN.{length, take, drop, length-drop, take-append-drop}
use lib.Seq.{length-take-le}
use borrow.Author.Tests.{lt-ltb, le-ltb}
use Rattle.laws.specs.Stores.{Writes, Emitting}
use Rattle.laws.proofs.Stores.{emit_start, emit_turn, emit_room, emit_end}
use Rattle.items.specs.Items.{span, span_item, span_list}
use Rattle.items.proofs.Writing.{length_span, spans_none as list_none, spans_more as list_more}
use Rattle.search.specs.Seek.{seek}
use Rattle.search.specs.Steps.{Sought}
use Rattle.spans.specs.Scan.{begun, ended, spans_of, rest_of}
use Rattle.spans.proofs.Scanning.{spans_more, spans_none, rest_more, rest_none}
use Rattle.spans.specs.Parts.{SpanAt, RestAt, After, NextIs, tally_one, tally_all, Room, CountedIs, tagged, WritePre, WroteIs}
use Rattle.spans.specs.declared.Tally.{Tally}

-- ---- the next span of a buffer

-- c is b from the first 3E on, and e the place of its first 3C
module _ (b c : List ℕ) (s e : ℕ) (p : Sought b 0x3E s) (k : c ≡ drop s b) (q : Sought c 0x3C e) where
  begins : c ≡ begun b
  begins = k ∙ rw p.at

  within : length c ≤ length b
  within = omega (arith, ap length k, length-drop s b)

  last : (n : ℕ) → n ≡ length c → c ≡ drop (length b - n) b
  last n i = k ∙ ap (λ z. drop z b) (omega (arith, ap length k, length-drop s b, p.most))

  span_is : e < length c → SpanAt b (take (e + 1) c) (drop (e + 1) c)
  span_is h =
      let t : ended c ≡ true = lt-ltb (seek 0x3C c) (length c) (omega (arith, q.at)) in
      let u : ended (begun b) ≡ true = rw begins at t in
      let z : suc (seek 0x3C c) ≡ e + 1 = omega (arith, q.at) in
      record {
        spans = rw (spans_more b u) (rw (← begins, z));
        rest = rw (rest_more b u) (rw (← begins, z));
        some = omega (arith, length-take-le (e + 1) c (omega arith));
        fits = omega (arith, within, length-take-le (e + 1) c (omega arith), length-drop (e + 1) c);
        stands = take-append-drop (e + 1) c ∙ last (length (take (e + 1) c) + length (drop (e + 1) c)) (omega (arith, length-take-le (e + 1) c (omega arith), length-drop (e + 1) c));
      }

  rest_is : e ≡ length c → RestAt b c
  rest_is h =
      let t : ended c ≡ false = le-ltb (seek 0x3C c) (length c) (omega (arith, q.at)) in
      let u : ended (begun b) ≡ false = rw begins at t in
      record { spans = spans_none b u; rest = rest_none b u ∙ sym begins; fits = within; stands = last (length c) refl }

  pub next_is_span : (e ≡ length c → ⊥) → (w : Bor (List ℕ)) → w.now ≡ take (e + 1) c → (f : List ℕ) → f ≡ drop (e + 1) c → NextIs b (Some w) f
  unfolding After
  next_is_span n w i f j = record { after = rw (i, j) (span_is (omega (arith, q.most))) }

  pub next_is_rest : e ≡ length c → NextIs b None c
  unfolding After
  next_is_rest h = record { after = rest_is h }

module _ (b : List ℕ) (r : Option (Bor (List ℕ))) (e : List ℕ) (n : NextIs b r e) where
  pub span_at_law : (w : Bor (List ℕ)) → r ≡ Some w → SpanAt b w.now e
  unfolding After
  span_at_law w q = rw q at n.after

  pub rest_at : r ≡ None → RestAt b e
  unfolding After
  rest_at q = rw q at n.after

pub next_smaller : (b : List ℕ) (r : Option (Bor (List ℕ))) (e : List ℕ) → NextIs b r e → (w : Bor (List ℕ)) → r ≡ Some w → length e < length b
next_smaller b r e n w q = let a : SpanAt b w.now e = span_at_law b r e n w q in omega (arith, a.some, a.fits)

none_is : (x : Option (Bor (List ℕ))) → ((w : Bor (List ℕ)) → x ≡ Some w → ⊥) → x ≡ None
none_is None h = refl
none_is (Some w) h = absurd (h w refl)

-- ---- counting

-- so much is counted when e is still to be looked at
pub record Counting (b : List ℕ) (t₀ t : Tally) (e : List ℕ) : Type 0 where
  pub fewer : t.count ≤ t.bytes
  pub bytes : t.bytes + 15 * length e ≤ t₀.bytes + 15 * length b
  pub all : tally_all t (spans_of e) ≡ tally_all t₀ (spans_of b)
  pub left : rest_of e ≡ rest_of b
  pub fits : length e ≤ length b

pub counting_start : (b : List ℕ) (t : Tally) (n : ℕ) → Room t n → Counting b t t b
counting_start b t n r = record { fewer = r.fewer; bytes = omega arith; all = refl; left = refl; fits = omega arith }

module _ (b : List ℕ) (t₀ t : Tally) (e : List ℕ) (v : Counting b t₀ t e) (x : Option (Bor (List ℕ))) (f : List ℕ) (n : NextIs e x f) where
  pub counting_room : (w : Bor (List ℕ)) → x ≡ Some w → Room t₀ (length b) → Room t (length w.now)
  counting_room w q r = let a : SpanAt e w.now f = span_at_law e x f n w q in record { fewer = v.fewer; bytes = omega (arith, v.bytes, a.fits, r.bytes) }

  pub counting_turn : (w : Bor (List ℕ)) (r : Tally) → x ≡ Some w → r ≡ tally_one t w.now → Counting b t₀ r f
  unfolding tally_all tally_one
  counting_turn w r q k =
      let a : SpanAt e w.now f = span_at_law e x f n w q in
      record {
        fewer = rw k (omega (arith, v.fewer));
        bytes = rw k (omega (arith, v.bytes, a.some, a.fits));
        all = rw k (rw a.spans at v.all);
        left = sym a.rest ∙ v.left;
        fits = omega (arith, v.fits, a.fits);
      }

  pub counting_end : ((w : Bor (List ℕ)) → x ≡ Some w → ⊥) → CountedIs b t₀ (record { tally = t; rest = length f })
  unfolding tally_all
  counting_end q =
      let a : RestAt e f = rest_at e x f n (none_is x q) in
      record {
        all = rw a.spans at v.all;
        left = ap length (sym a.rest ∙ v.left);
        fewer = v.fewer;
        bytes = omega (arith, v.bytes);
        most = omega (arith, v.fits, a.fits);
      }

-- ---- writing

pub record Writing (b : List ℕ) (rx time : ℕ) (d₀ : List ℕ) (at₀ : ℕ) (d : List ℕ) (e : List ℕ) (at : ℕ) : Type 0 where
  pub left : rest_of e ≡ rest_of b
  pub fits : length e ≤ length b
  pub emits : Emitting d₀ at₀ (span_list (tagged rx time (spans_of b))) d at (span_list (tagged rx time (spans_of e)))

pub writing_start : (b : List ℕ) (rx time : ℕ) (d : List ℕ) (at : ℕ) → Writing b rx time d at d b at
writing_start b rx time d at = record { left = refl; fits = omega arith; emits = emit_start d at (span_list (tagged rx time (spans_of b))) }

module _ (b : List ℕ) (rx time : ℕ) (d₀ : List ℕ) (at₀ : ℕ) (d e : List ℕ) (at : ℕ) (v : Writing b rx time d₀ at₀ d e at) (x : Option (Bor (List ℕ))) (f : List ℕ) (n : NextIs e x f) where
  module _ (w : Bor (List ℕ)) (q : x ≡ Some w) where
    next_item : span_list (tagged rx time (spans_of e)) ≡ span_item (span rx time w.now) ++ span_list (tagged rx time (spans_of f))
    next_item = rw (span_at_law e x f n w q).spans (list_more (span rx time w.now) (tagged rx time (spans_of f)))

    pub writing_turn : (r : ℕ) (d' : List ℕ) → Writes d at (span_item (span rx time w.now)) r d' → Writing b rx time d₀ at₀ d' f r
    writing_turn r d' k =
        let a : SpanAt e w.now f = span_at_law e x f n w q in
        record {
          left = sym a.rest ∙ v.left;
          fits = omega (arith, v.fits, a.fits);
          emits = emit_turn d₀ at₀ _ d at _ v.emits _ _ r d' next_item k;
        }

    -- the room that the next item has
    pub writing_room : WritePre b rx time d₀ at₀ → at + 14 + length w.now ≤ length d
    writing_room h =
        let i : List ℕ = span_item (span rx time w.now) in
        let g : at + length i ≤ length d = emit_room d₀ at₀ _ d at _ v.emits i (span_list (tagged rx time (spans_of f))) next_item h.room in
        omega (arith, length_span (span rx time w.now))

  pub writing_end : ((w : Bor (List ℕ)) → x ≡ Some w → ⊥) → WroteIs b rx time d₀ at₀ (record { at = at; rest = length f }) d
  writing_end q =
      let a : RestAt e f = rest_at e x f n (none_is x q) in
      record {
        written = emit_end d₀ at₀ _ d at _ v.emits (rw a.spans list_none);
        left = ap length (sym a.rest ∙ v.left);
        most = omega (arith, v.fits, a.fits);
      }
