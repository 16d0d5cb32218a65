-- The walk that writes.
use Prim.Native.Nat.{ℕ, suc, ◌+◌, ◌-◌, ◌*◌, ◌<◌, ◌≤◌}
use mathlib.Core.Path.{◌≡◌, refl, sym, ap, ◌∙◌}
use mathlib.Core.Bool.{Bool, true, false}
use mathlib.Core.List.{List, [], ◌∷◌, ◌++◌}
use native.Mathlib.Omega.{arith}
use lib.ListN.{length, take, drop, length-append, length-drop}
use lib.Seq.{sets, length-sets, length-take-le, take_all}
use borrow.Author.Tests.{lt-ltb}
use Rattle.laws.specs.Numbers.{le}
use Rattle.laws.specs.Keyed.{run}
use Rattle.laws.specs.Stores.{Writes, Emitting}
use Rattle.laws.proofs.Stores.{sets_append, writes_then, writes_long, emit_start, emit_turn, emit_room, emit_end}
use Rattle.words.specs.Words.{word}
use Rattle.words.proofs.Front.{front_refl}
use Rattle.items.specs.Items.{Span, span, item, item_head, span_item, span_list}
use Rattle.items.proofs.Writing.{spans_none, spans_more, spans_append, length_head, length_span}
use Rattle.spans.specs.Scan.{spans_of, rest_of}
use Rattle.search.specs.Seek.{seek}
use Rattle.search.proofs.Searching.{seek_le}
use Rattle.spans.specs.Spans.{scanner, emptied, spans}
use Rattle.spans.specs.Parts.{tagged, WritePre as PartPre, WroteIs}
use Rattle.spans.specs.Scans.{Begins}
use Rattle.spans.specs.Bytewise.{AllQuiet}
use Rattle.spans.proofs.Bytewise.{quiet_emptied, closes_first}
use Rattle.spans.proofs.Scans.{silent, rest_le, all_left}
use Rattle.spans.specs.declared.Wrote.{Wrote}
use Rattle.split.specs.Last.{lastn}
use Rattle.split.specs.Rows.{piece, dlci_at, tail_at, len_at, bytes_at, held_in, held_of, stream_to, opened, Fits, joined, capped_length, ahead, all}
use Rattle.split.specs.Walks.{Lying, PutPre, GatherPre, Told, Moved}
use Rattle.split.specs.declared.Plan.{Plan}
use Rattle.split.proofs.Lasts.{length_lastn, lastn_zero, capped_small}
use Rattle.split.proofs.Tables.{length_bytes}
use Rattle.split.proofs.Steps.{own_key, own_fits, length_joined, joined_small, kept_own, moved_opens, moved_quiet, moved_fits}
use Rattle.split.proofs.Aheads.{opened_none, ahead_none, next_run, ahead_skip, opened_skip, fits_skip}
use Rattle.writing.specs.Writing.{Closes, items_of, items_from, WritePre, FirstOut, FirstWrote, RestPre, closed_item, ClosePre, ListPre}
use Rattle.writing.specs.declared.Onward.{Onward}

-- ---- a piece

-- the span of the first 3C, and what comes behind it
module _ (f w : List ℕ) (p : Plan) (l : Lying f w p) (i : ℕ) (out : List ℕ) (at : ℕ) (q : WritePre f w p i out at) (h e : ℕ) (y : Closes f w p i h e) where
  come : h ≤ length (stream_to f w p i)
  come = rw y.holds (own_fits f w p i q.own q.fits)

  closed_both : (spans_of (joined f w p i) ≡ (lastn h (stream_to f w p i) ++ take (e + 1) (bytes_at f w p i)) ∷ spans_of (drop (e + 1) (bytes_at f w p i))) × (rest_of (joined f w p i) ≡ rest_of (drop (e + 1) (bytes_at f w p i)))
  unfolding joined opened
  closed_both =
      let k : e + 1 ≡ suc (seek 0x3C (bytes_at f w p i)) = omega (arith, y.at) in
      let z : length (lastn h (stream_to f w p i)) ≡ h = length_lastn h (stream_to f w p i) come in
      rw (← y.holds, k)
      (closes_first (lastn h (stream_to f w p i)) (bytes_at f w p i)
      (rw y.holds (rw (← own_key w p i q.own) at (q.quiet.at (tail_at w p i))))
      (lt-ltb (seek 0x3C (bytes_at f w p i)) (length (bytes_at f w p i)) (omega (arith, y.at, y.high, length_bytes f w p l i q.row)))
      (λ g. y.first (sym z ∙ g)))

  closed_items : items_of f w p i ≡ closed_item f w p i h (e + 1) ++ items_from f w p i (e + 1)
  unfolding closed_item
  closed_items = rw closed_both.0 (spans_more (span (piece f w p i).rx (piece f w p i).time (lastn h (stream_to f w p i) ++ take (e + 1) (bytes_at f w p i))) (tagged (piece f w p i).rx (piece f w p i).time (spans_of (drop (e + 1) (bytes_at f w p i)))))

  closed_size : length (closed_item f w p i h (e + 1)) ≡ 14 + (h + (e + 1))
  unfolding closed_item
  closed_size =
      length_span (span (piece f w p i).rx (piece f w p i).time (lastn h (stream_to f w p i) ++ take (e + 1) (bytes_at f w p i)))
      ∙ rw (length-append (lastn h (stream_to f w p i)) (take (e + 1) (bytes_at f w p i)), length_lastn h (stream_to f w p i) come, length-take-le (e + 1) (bytes_at f w p i) (omega (arith, y.high, length_bytes f w p l i q.row)))

  pub closed_pre : ClosePre f w p i out at h (e + 1)
  closed_pre = record {
    row = q.row;
    come = come;
    small = omega (arith, y.holds, length_joined f w p i l q.row (own_fits f w p i q.own q.fits), joined_small f w p i l q.row (own_fits f w p i q.own q.fits) q.small);
    part = omega (arith, y.high);
    room = omega (arith, q.room, ap length closed_items, length-append (closed_item f w p i h (e + 1)) (items_from f w p i (e + 1)), closed_size);
  }

  pub closed_wrote : (to : ℕ) (out' : List ℕ) → Writes out at (closed_item f w p i h (e + 1)) to out' → FirstWrote f w p i out at (record { at = to; skip = e + 1 }) out'
  closed_wrote to out' k = record { done = closed_item f w p i h (e + 1); items = closed_items; writes = k; within = omega (arith, y.high); rest = closed_both.1 }

module _ (f w : List ℕ) (p : Plan) (l : Lying f w p) (i : ℕ) (out : List ℕ) (at e : ℕ) (q : FirstOut f w p i out at e) (h : ℕ) (eh : h ≡ held_of w p i) (x : List ℕ) (ex : x ≡ bytes_at f w p i) where
  pub first_some : 0 < length x
  first_some = omega (arith, q.high, ap length ex, length_bytes f w p l i q.pre.row)

  module _ (g : Bool) (b : Begins x h g) where
    closes : g ≡ true → Closes f w p i h e
    closes z = record { holds = eh; first = λ y. rw ex at (b.yes z y); at = q.is; high = q.high }

    pub first_pre : g ≡ true → ClosePre f w p i out at h (e + 1)
    first_pre z = closed_pre f w p l i out at q.pre h e (closes z)

    pub first_wrote : g ≡ true → (to : ℕ) (out' : List ℕ) → Writes out at (closed_item f w p i h (e + 1)) to out' → FirstWrote f w p i out at (record { at = to; skip = e + 1 }) out'
    first_wrote z = closed_wrote f w p l i out at q.pre h e (closes z)

    pub first_none : g ≡ false → FirstWrote f w p i out at (record { at = at; skip = 0 }) out
    unfolding joined
    first_none z =
        let y : joined f w p i ≡ bytes_at f w p i = rw (lastn_zero (held_of w p i) (stream_to f w p i) (sym eh ∙ b.no z)) in
        record { done = []; items = rw y; writes = record { next = omega arith; writes = refl }; within = omega arith; rest = rw y }

-- what comes behind it
module _ (f w : List ℕ) (p : Plan) (l : Lying f w p) (i : ℕ) (out : List ℕ) (at skip : ℕ) (q : RestPre f w p i out at skip) where
  abbrev tail : List ℕ
  tail = drop skip (bytes_at f w p i)

  tail_long : length tail ≡ len_at w p i - skip
  tail_long = length-drop skip (bytes_at f w p i) ∙ rw (length_bytes f w p l i q.row)

  -- all of it is held
  pub rest_none : (m : ℕ) → m ≡ len_at w p i → (r : ℕ) → r ≡ word w (p.held + i) → m - skip ≡ r → Writes out at (items_from f w p i skip) at out
  rest_none m em r er z =
      let a : length (rest_of tail) ≡ capped_length (length (rest_of tail)) = capped_small (length (rest_of tail)) (omega (arith, rest_le tail, tail_long)) in
      let b : word w (p.held + i) ≡ capped_length (length (rest_of tail)) = rw q.rest at q.told.holds in
      let k : length (rest_of tail) ≡ length tail = omega (arith, tail_long) in
      rw (all_left tail k, spans_none) (record { next = omega arith; writes = refl })

  module _ (m : ℕ) (em : m ≡ len_at w p i) (x : List ℕ) (ex : x ≡ bytes_at f w p i) where
    pub rest_part : skip + (m - skip) ≤ length x
    rest_part = omega (arith, q.within, ap length ex, length_bytes f w p l i q.row)

    module _ (y : List ℕ) (ey : y ≡ take (m - skip) (drop skip x)) (rx time : ℕ) (er : rx ≡ (piece f w p i).rx) (et : time ≡ (piece f w p i).time) where
      whole : y ≡ tail
      whole = ey ∙ rw ex (take_all (m - skip) tail (omega (arith, tail_long)))

      pub rest_pre : PartPre y rx time out at
      rest_pre = rw (whole, er, et) (record { room = q.room })

      pub rest_wrote : (c : Wrote) (out' : List ℕ) → WroteIs y rx time out at c out' → Writes out at (items_from f w p i skip) c.at out'
      rest_wrote c out' k = rw (whole, er, et) at k.written

module _ (f w : List ℕ) (p : Plan) (l : Lying f w p) (i : ℕ) (out : List ℕ) (at : ℕ) (q : WritePre f w p i out at) (e : ℕ) (ee : e ≡ word w (p.ends + i)) (m : ℕ) (em : m ≡ len_at w p i) where
  own_long : length (bytes_at f w p i) ≡ len_at w p i
  own_long = length_bytes f w p l i q.row

  end_is : e ≡ seek 0x3C (bytes_at f w p i)
  end_is = ee ∙ q.told.end

  -- no 3C
  pub write_none : e ≡ m → Writes out at (items_of f w p i) at out
  unfolding joined opened
  write_none z =
      let k : spans_of (joined f w p i) ≡ [] = silent (bytes_at f w p i) (sym end_is ∙ z ∙ em ∙ sym own_long) (lastn (held_of w p i) (stream_to f w p i)) (rw (← own_key w p i q.own) at (q.quiet.at (tail_at w p i))) in
      rw (k, spans_none) (record { next = omega arith; writes = refl })

  pub write_first : (e ≡ m → ⊥) → FirstOut f w p i out at e
  write_first n = record { pre = q; is = end_is; high = omega (arith, end_is, seek_le 0x3C (bytes_at f w p i), own_long) }

  module _ (r : Onward) (mid : List ℕ) (k : FirstWrote f w p i out at r mid) where
    pub write_rest : RestPre f w p i mid r.at r.skip
    write_rest = record {
      row = q.row;
      told = q.told;
      within = k.within;
      rest = k.rest;
      room = omega (arith, q.room, ap length k.items, length-append k.done (items_from f w p i r.skip), k.writes.next, writes_long out at _ r.at mid k.writes);
    }

    pub write_wrote : (to : ℕ) (out' : List ℕ) → Writes mid r.at (items_from f w p i r.skip) to out' → Writes out at (items_of f w p i) to out'
    write_wrote to out' g = rw k.items (writes_then out at _ r.at mid _ to out' k.writes g)

-- a span of what is held and the first bytes of a piece
module _ (f w : List ℕ) (p : Plan) (l : Lying f w p) (i : ℕ) (out : List ℕ) (at h k : ℕ) (q : ClosePre f w p i out at h k) where
  module _ (kind : ℕ) (a : ℕ) (d₁ : List ℕ) (w₁ : Writes out at (item_head kind (8 + h + k)) a d₁) where
    pub close_time : a + 8 ≤ length d₁
    close_time = omega (arith, w₁.next, length_head kind (8 + h + k), writes_long out at _ a d₁ w₁, q.room)

    module _ (time b : ℕ) (d₂ : List ℕ) (w₂ : Writes d₁ a (le 8 time) b d₂) where
      body_at : b ≡ a + 8
      body_at = w₂.next

      pub close_sum : b + h + k ≤ length out
      close_sum = omega (arith, w₁.next, length_head kind (8 + h + k), body_at, q.room)

      body_long : length d₂ ≡ length out
      body_long = writes_long d₁ a _ b d₂ w₂ ∙ writes_long out at _ a d₁ w₁

      pub close_gather : GatherPre f w p i h d₂ b
      close_gather = record { row = q.row; come = q.come; fits = omega (arith, close_sum, body_long) }

      pub close_put : (d₃ : List ℕ) → d₃ ≡ sets d₂ b (lastn h (stream_to f w p i)) → PutPre w p i 0 k d₃ (b + h)
      close_put d₃ e = record { row = q.row; part = omega (arith, q.part); fits = omega (arith, close_sum, ap length e ∙ length-sets d₂ b (lastn h (stream_to f w p i)), body_long) }

  module _ (rx kind time : ℕ) (er : rx ≡ (piece f w p i).rx) (ek : kind ≡ 2 - rx) (et : time ≡ (piece f w p i).time) where
    abbrev wire : List ℕ
    wire = lastn h (stream_to f w p i) ++ take k (bytes_at f w p i)

    wire_size : length wire ≡ h + k
    wire_size = length-append (lastn h (stream_to f w p i)) (take k (bytes_at f w p i)) ∙ rw (length_lastn h (stream_to f w p i) q.come, length-take-le k (bytes_at f w p i) (omega (arith, q.part, length_bytes f w p l i q.row)))

    item_is : closed_item f w p i h k ≡ item_head kind (8 + h + k) ++ (le 8 time ++ wire)
    unfolding closed_item span_item item item_head
    item_is =
        let z : length (le 8 (piece f w p i).time ++ wire) ≡ 8 + h + k = omega (arith, wire_size) in
        rw (et, ek, er, z)

    pub close_written : (a : ℕ) (d₁ : List ℕ) → Writes out at (item_head kind (8 + h + k)) a d₁ → (b : ℕ) (d₂ : List ℕ) → Writes d₁ a (le 8 time) b d₂ → (d₃ : List ℕ) → d₃ ≡ sets d₂ b (lastn h (stream_to f w p i)) → (d₄ : List ℕ) → d₄ ≡ sets d₃ (b + h) (take k (drop 0 (bytes_at f w p i))) → Writes out at (closed_item f w p i h k) (b + h + k) d₄
    close_written a d₁ w₁ b d₂ w₂ d₃ e₃ d₄ e₄ =
        let y : length (lastn h (stream_to f w p i)) ≡ h = length_lastn h (stream_to f w p i) q.come in
        let z : d₄ ≡ sets d₂ b wire = e₄ ∙ rw e₃ (sym (rw y at (sets_append d₂ b (lastn h (stream_to f w p i)) (take k (bytes_at f w p i))))) in
        rw item_is (writes_then out at _ a d₁ _ _ d₄ w₁ (writes_then d₁ a _ b d₂ wire (b + h + k) d₄ w₂ (record { next = omega (arith, wire_size); writes = z })))

-- ---- all pieces

pub record WritingTo (f w : List ℕ) (p : Plan) (out₀ out : List ℕ) (i at : ℕ) : Type 0 where
  pub within : i ≤ p.n
  pub fits : Fits f w p i
  pub quiet : AllQuiet (opened f w p i)
  pub emits : Emitting out₀ 0 (span_list (spans (all f w p))) out at (span_list (run scanner (opened f w p i) (ahead f w p i)))

pub writing_start : (f w : List ℕ) (p : Plan) (out : List ℕ) → WritingTo f w p out out 0 0
unfolding spans held_in
writing_start f w p out =
    let z : p.n - 0 ≡ p.n = omega arith in
    record {
      within = omega arith;
      fits = record { at = λ k. omega arith };
      quiet = rw (opened_none f w p) quiet_emptied;
      emits = rw (z, opened_none f w p) (emit_start out 0 (span_list (run scanner emptied (all f w p))));
    }

module _ (f w : List ℕ) (p : Plan) (l : Lying f w p) (out₀ out : List ℕ) (i at : ℕ) (v : WritingTo f w p out₀ out i at) where
  module _ (g : ListPre f w p out₀) (h : i < p.n) (x : ℕ) (ex : x ≡ dlci_at w p i) where
    module _ (e : x ≡ p.dlci) where
      own : dlci_at w p i ≡ p.dlci
      own = sym ex ∙ e

      told : Told f w p i
      told = g.told.at i h own

      moves : Moved f w p i w
      moves = record { kept = kept_own w p i; told = told }

      come_own : held_of w p i ≤ length (stream_to f w p i)
      come_own = own_fits f w p i own v.fits

      abbrev later : List Span
      later = run scanner (opened f w p (i + 1)) (ahead f w p (i + 1))

      next_items : span_list (run scanner (opened f w p i) (ahead f w p i)) ≡ items_of f w p i ++ span_list later
      next_items = rw (next_run f w p i h own w l (front_refl (4 * p.held) w) (moved_opens f w p i l h come_own w moves own)) (spans_append (tagged (piece f w p i).rx (piece f w p i).time (spans_of (joined f w p i))) later)

      pub writing_pre : WritePre f w p i out at
      writing_pre = record {
        row = h;
        small = g.small;
        own = own;
        fits = v.fits;
        quiet = v.quiet;
        told = told;
        room = emit_room out₀ 0 _ out at _ v.emits (items_of f w p i) (span_list later) next_items (omega (arith, g.room));
      }

      pub writing_turn : (out' : List ℕ) (r : ℕ) → Writes out at (items_of f w p i) r out' → WritingTo f w p out₀ out' (i + 1) r
      writing_turn out' r t = record {
        within = omega arith;
        fits = moved_fits f w p i l h come_own w moves own v.fits;
        quiet = moved_quiet f w p i l h come_own w moves own v.quiet;
        emits = emit_turn out₀ 0 _ out at _ v.emits (items_of f w p i) (span_list later) r out' next_items t;
      }

    pub writing_skip : (x ≡ p.dlci → ⊥) → WritingTo f w p out₀ out (i + 1) at
    writing_skip e =
        let d : dlci_at w p i ≡ p.dlci → ⊥ = λ z. e (ex ∙ z) in
        record {
          within = omega arith;
          fits = fits_skip f w p i h d v.fits;
          quiet = rw (opened_skip f w p i h d) v.quiet;
          emits = rw (ahead_skip f w p i h d, ← opened_skip f w p i h d) at v.emits;
        }

  pub writing_end : p.n ≤ i → Writes out₀ 0 (span_list (spans (all f w p))) at out
  unfolding run
  writing_end h = emit_end out₀ 0 _ out at _ v.emits (rw (ahead_none f w p i h) spans_none)
