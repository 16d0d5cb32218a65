-- The walk that counts.
use Prim.Native.Nat.{ℕ, ◌+◌, ◌-◌, ◌*◌, ◌<◌, ◌≤◌}
use mathlib.Core.Path.{◌≡◌, refl, sym, ap, ◌∙◌, fun_ext}
use mathlib.Core.Bool.{Bool, true, cond}
use mathlib.Core.List.{List, [], ◌∷◌, ◌++◌, append-nil, append_assoc, map}
use native.Mathlib.Omega.{arith}
use native.Mathlib.Numerals.{add-one}
use native.Mathlib.Nat.{zero-add, add-zero}
use lib.ListN.{length, take, drop, length-append}
use lib.Dec.{eqb, ltb}
use borrow.Author.Tests.{eq-eqb, ne_eqb, ltb-true}
use Rattle.laws.proofs.Choice.{split_b, split≡, no_way}
use Rattle.laws.specs.Keyed.{step, run, after}
use Rattle.laws.specs.Count.{nub}
use Rattle.laws.specs.Totals.{total}
use Rattle.words.specs.Front.{Front}
use Rattle.words.proofs.Front.{front_refl, front_then}
use Rattle.items.specs.Items.{Span, span_item, span_list}
use Rattle.items.proofs.Writing.{length_span, spans_none, spans_more}
use Rattle.mdr.specs.Frame.{unpacks_of}
use Rattle.channels.specs.Channels.{any}
use Rattle.spans.specs.Scan.{spans_of, rest_of}
use Rattle.search.specs.Seek.{seek}
use Rattle.search.proofs.Searching.{seek_le}
use Rattle.spans.specs.Spans.{scanner, emptied, spans, unfinished}
use Rattle.spans.specs.Parts.{tagged, bit, tally_one, tally_all, Room, CountedIs}
use Rattle.spans.specs.Bytewise.{AllQuiet}
use Rattle.spans.proofs.Bytewise.{quiet_emptied}
use Rattle.spans.specs.Scans.{ScanPre, ScannedIs}
use Rattle.spans.specs.Account.{cleared, left, taken_in}
use Rattle.spans.proofs.Scans.{rest_le, silent, silent_rest}
use Rattle.spans.specs.declared.Tally.{Tally}
use Rattle.spans.specs.declared.Counted.{Counted}
use Rattle.spans.specs.declared.Scanned.{Scanned}
use Rattle.split.specs.Last.{lastn}
use Rattle.split.specs.Rows.{piece, dlci_at, tail_at, len_at, bytes_at, held_in, held_of, stream_of, stream_to, opened, Fits, joined, capped_length, ahead, all, Laid}
use Rattle.split.specs.Walks.{Joined, Lying, Kept, AllTold, Moved}
use Rattle.split.specs.declared.Plan.{Plan}
use Rattle.split.proofs.Fronts.{dlci_front, tail_front, bytes_front, laid_front, laid_lying}
use Rattle.split.proofs.Lasts.{length_lastn, capped_le}
use Rattle.split.proofs.Tables.{length_bytes}
use Rattle.split.proofs.Steps.{own_key, own_fits, length_joined, joined_small, joined_kept, moved_opens, moved_quiet, moved_fits, joined_front, in_area}
use Rattle.split.proofs.Aheads.{opened_none, ahead_none, next_run, next_after, next_keys, ahead_skip, opened_skip, fits_skip}
use Rattle.measuring.specs.Counting.{keys_to, held_to, sign, live_to, left_to, Noted, AddPre, added, SumsTo, CountPre, CountHeld, Known, Behind, Stepped, CountIs}
use Rattle.measuring.specs.declared.Sums.{Sums}
use Rattle.measuring.proofs.Counts.{count_total, sign_zero, sign_le}
use Rattle.measuring.proofs.Accounts.{cleared_rest, cleared_from, next_taken, next_cleared}
use Rattle.measuring.proofs.Steps.{kept_over, all_told, keys_front, keys_skip, sums_skip, moved_sums}

-- ---- what is counted of a list of spans

unfoldable pub tally_spans : Tally → List Span → Tally
tally_spans t [] = t
tally_spans t (s ∷ ss) = tally_spans (tally_one t s.wire) ss

unfoldable pub nothing : Tally
nothing = record { count = 0; bytes = 0; frames = 0 }

tally_tagged : (t : Tally) (rx time : ℕ) (ws : List (List ℕ)) (ss : List Span) → tally_spans t (tagged rx time ws ++ ss) ≡ tally_spans (tally_all t ws) ss
unfolding tally_spans tally_all
tally_tagged t rx time [] ss = refl
tally_tagged t rx time (w ∷ ws) ss = tally_tagged (tally_one t w) rx time ws ss

tally_count : (t : Tally) (ss : List Span) → (tally_spans t ss).count ≡ t.count + length ss
unfolding tally_spans tally_one
tally_count t [] = omega arith
tally_count t (s ∷ ss) = tally_count (tally_one t s.wire) ss ∙ omega arith

tally_bytes : (t : Tally) (ss : List Span) → (tally_spans t ss).bytes ≡ t.bytes + length (span_list ss)
unfolding tally_spans tally_one
tally_bytes t [] = rw spans_none (omega arith)
tally_bytes t (s ∷ ss) = tally_bytes (tally_one t s.wire) ss ∙ rw (spans_more s ss) (omega (arith, length-append (span_item s) (span_list ss), length_span s))

tally_frame : (t : Tally) (ss : List Span) → (tally_spans t ss).frames ≡ cond (eqb t.frames 0) (bit (any (λ s. unpacks_of s.wire) ss)) t.frames
unfolding tally_spans tally_one any
tally_frame t [] = split≡ t.frames 0 (λ e. rw (eq-eqb t.frames 0 e) e) (λ e. rw (ne_eqb t.frames 0 e))
tally_frame t (s ∷ ss) =
    tally_frame (tally_one t s.wire) ss
    ∙ split≡ t.frames 0
    (λ e. rw (eq-eqb t.frames 0 e) (split_b (unpacks_of s.wire) (λ g. rw g) (λ g. rw g)))
    (λ e. rw (ne_eqb t.frames 0 e) (rw (ne_eqb t.frames 0 e)))

-- ---- a piece

pub known_none : (h : ℕ) (t : Tally) → h ≡ 0 → Known h t true
known_none h t e = record { yes = λ z g. absurd (omega arith); no = λ z. no_way refl z }

pub known_frame : (h : ℕ) (t : Tally) → (h ≡ 0 → ⊥) → Known h t (ltb 0 t.frames)
known_frame h t n = record { yes = λ z g. ltb-true 0 t.frames z; no = λ z. omega arith }

module _ (f w : List ℕ) (p : Plan) (i h : ℕ) (t : Tally) (q : CountHeld f w p i h t) where
  -- what is held
  abbrev held : List ℕ
  held = lastn h (stream_to f w p i)

  held_long : length held ≡ h
  held_long = length_lastn h (stream_to f w p i) q.come

  own_long : length (bytes_at f w p i) ≡ len_at w p i
  own_long = length_bytes f w p (laid_lying f w p q.laid) i q.row

  behind : joined f w p i ≡ held ++ bytes_at f w p i
  unfolding joined
  behind = rw q.holds

  module _ (x : List ℕ) (ex : x ≡ bytes_at f w p i) where
    pub behind_scan : (g : Bool) → Known h t g → g ≡ true → ScanPre x h t
    behind_scan g k z = record { room = rw (ex, own_long) q.room; known = k.yes z }

    pub behind_scanned : (c : Scanned) → ScannedIs x h t c → Behind f w p i h t w c
    behind_scanned c s = record {
      front = front_refl p.area w;
      end = s.end ∙ rw ex;
      low = omega (arith, s.end, seek_le 0x3C x, ap length ex, own_long);
      all = rw behind (rw ex at (s.all held q.quiet held_long));
      left = rw behind (rw ex at (s.left held q.quiet held_long));
      fewer = s.fewer;
      bytes = omega (arith, s.bytes, ap length ex, own_long);
    }

    module _ (e : ℕ) (ee : e ≡ seek 0x3C x) where
      low : e ≤ len_at w p i
      low = omega (arith, ee, seek_le 0x3C x, ap length ex, own_long)

      -- no 3C
      pub behind_none : 0 < h → (m : ℕ) → m ≡ len_at w p i → e ≡ m → Behind f w p i h t w (record { tally = t; end = e; rest = h + m })
      unfolding tally_all
      behind_none o m em z =
          let y : seek 0x3C (bytes_at f w p i) ≡ length (bytes_at f w p i) = rw ex at (sym ee ∙ z ∙ em ∙ sym own_long) in
          record {
            front = front_refl p.area w;
            end = ee ∙ rw ex;
            low = low;
            all = rw (behind, silent (bytes_at f w p i) y held q.quiet);
            left = rw (behind, silent_rest (bytes_at f w p i) y held q.quiet (omega (arith, held_long))) (omega (arith, length-append held (bytes_at f w p i), held_long, own_long));
            fewer = q.room.fewer;
            bytes = omega arith;
          }

      module _ (v : List ℕ) (n : ℕ) (j : Joined f w p i v n) where
        pub behind_room : Room t (length (take (p.area + n - p.area) (drop p.area v)))
        behind_room = rw (in_area f w p i v n j (p.area + n) refl, behind, length-append, held_long, own_long) q.room

        pub behind_counted : (c : Counted) → CountedIs (take (p.area + n - p.area) (drop p.area v)) t c → Behind f w p i h t v (record { tally = c.tally; end = e; rest = c.rest })
        behind_counted c k =
            let y : CountedIs (joined f w p i) t c = rw (in_area f w p i v n j (p.area + n) refl) at k in
            record {
              front = joined_front f w p i v n j;
              end = ee ∙ rw ex;
              low = low;
              all = y.all;
              left = y.left;
              fewer = y.fewer;
              bytes = omega (arith, y.bytes, ap length behind, length-append held (bytes_at f w p i), held_long, own_long);
            }

-- nothing was held and nothing is left
pub added_none : (s : Sums) (t : Tally) (m h n r : ℕ) → AddPre s m h n r → h + n ≡ 0 →
    record { tally = t; unfinished = s.unfinished; taken = s.taken + m; cleared = s.cleared; left = s.left } ≡ added s t m h n r
unfolding added
added_none s t m h n r p e =
    let eh : h ≡ 0 = omega arith in
    let en : n ≡ 0 = omega arith in
    let er : r ≡ 0 = omega (arith, p.part) in
    let a : s.unfinished ≡ s.unfinished + sign r - sign h = rw (eh, er) (omega arith) in
    let b : s.cleared ≡ s.cleared + (n - r) = omega arith in
    let c : s.left ≡ s.left + r - h = omega arith in
    rw (← a, ← b, ← c)

pub added_is : (s : Sums) (t : Tally) (m h n r o : ℕ) → o ≡ s.unfinished + sign r - sign h →
    record { tally = t; unfinished = o; taken = s.taken + m; cleared = s.cleared + (n - r); left = s.left + r - h } ≡ added s t m h n r
unfolding added
added_is s t m h n r o e = rw e

module _ (f w : List ℕ) (p : Plan) (i : ℕ) (s : Sums) (q : CountPre f w p i s) (h : ℕ) (eh : h ≡ held_of w p i) where
  lying : Lying f w p
  lying = laid_lying f w p q.laid

  fits : held_of w p i ≤ length (stream_to f w p i)
  fits = own_fits f w p i q.own q.fits

  small : h + len_at w p i ≤ 1048576
  small = omega (arith, length_joined f w p i lying q.row fits, joined_small f w p i lying q.row fits q.laid.sum)

  pub count_held : CountHeld f w p i h s.tally
  unfolding opened
  count_held = record {
    laid = q.laid;
    row = q.row;
    holds = eh;
    come = rw eh fits;
    quiet = rw eh (rw (← own_key w p i q.own) at (q.quiet.at (tail_at w p i)));
    room = record { fewer = q.sums.fewer; bytes = omega (arith, q.sums.bytes, q.row, q.laid.many, small) };
  }

  module _ (v : List ℕ) (c : Scanned) (b : Behind f w p i h s.tally v c) (lv : length v ≡ length w) where
    module _ (r : ℕ) (er : r ≡ capped_length c.rest) (u : List ℕ) (n : Noted v p i r c.end u) where
      kept : Kept w p i u
      kept = kept_over f w p i q.laid q.row v u lv b.front n.kept

      moves : Moved f w p i u
      moves = record {
        kept = kept;
        told = record {
          holds = n.holds ∙ er ∙ ap capped_length b.left ∙ rw (joined_kept f u w p lying i q.row kept i (omega arith));
          end = n.end ∙ b.end ∙ rw (bytes_front f u w p lying kept.front i q.row);
        };
      }

      held_moved : (g : ℕ → ℕ) → g 0 ≡ 0 → held_to g u p (i + 1) + g h ≡ held_to g w p i + g r
      held_moved g z = rw (eh, ← n.holds) (moved_sums f w p i lying q.row fits u moves q.own g z)

      lives : live_to u p (i + 1) + sign h ≡ s.unfinished + sign r
      lives = rw q.sums.live (held_moved sign (sym (sign_zero 0 (omega arith))))

      lefts : left_to u p (i + 1) + h ≡ s.left + r
      lefts = rw q.sums.left (held_moved (λ n. n) refl)

      part : r ≤ c.rest
      part = omega (arith, er, capped_le c.rest)

      rest : c.rest ≤ 1048576
      rest = omega (arith, b.left, rest_le (joined f w p i), joined_small f w p i lying q.row fits q.laid.sum)

      pub count_add : (m : ℕ) → m ≡ len_at w p i → AddPre s m h c.rest r
      count_add m em =
          let few : i < 1048576 = omega (arith, q.row, q.laid.many) in
          record {
            live = record { few = omega (arith, q.sums.few); less = omega (arith, lives) };
            part = part;
            held = omega (arith, lefts);
            taken = omega (arith, q.sums.taken, small);
            cleared = omega (arith, q.sums.cleared, rest);
            left = omega (arith, q.sums.most, part, rest);
          }

      pub count_stepped : (m : ℕ) → m ≡ len_at w p i → (o : Sums) → o ≡ added s c.tally m h c.rest r → Stepped f w p i s u o
      unfolding added
      count_stepped m em o eo =
          rw eo (record {
            moves = moves;
            sums = record {
              fewer = b.fewer;
              bytes = omega (arith, b.bytes, q.sums.bytes, small);
              few = omega (arith, q.sums.few, sign_le r);
              live = omega (arith, lives);
              taken = omega (arith, q.sums.taken, small);
              cleared = omega (arith, q.sums.cleared, rest);
              most = omega (arith, q.sums.most, part, rest);
              left = omega (arith, lefts);
            };
            all = b.all;
            takes = rw em;
            clears = rw (er, b.left, cleared_rest (rest_of (joined f w p i)));
          })

-- ---- all pieces

pub record CountingTo (f w₀ : List ℕ) (p : Plan) (w : List ℕ) (i : ℕ) (s : Sums) : Type 0 where
  pub within : i ≤ p.n
  pub laid : Laid f w p
  pub long : length w ≡ length w₀
  pub front : Front (4 * p.held) w w₀
  pub fits : Fits f w p i
  pub quiet : AllQuiet (opened f w p i)
  pub sums : SumsTo w p i s
  pub tallied : tally_spans s.tally (run scanner (opened f w p i) (ahead f w p i)) ≡ tally_spans nothing (spans (all f w₀ p))
  pub takes : s.taken + taken_in (ahead f w p i) ≡ taken_in (all f w₀ p)
  pub clears : s.cleared + cleared_from (opened f w p i) (ahead f w p i) ≡ cleared (all f w₀ p)
  pub ends : after scanner (opened f w p i) (ahead f w p i) ≡ after scanner emptied (all f w₀ p)
  pub keys : keys_to w p i ++ map (λ x. x.key) (ahead f w p i) ≡ map (λ x. x.key) (all f w₀ p)
  pub told : AllTold f w p i

start_from_nothing : (f w : List ℕ) (p : Plan) → Laid f w p → CountingTo f w p w 0 (record { tally = record { count = 0; bytes = 0; frames = 0 }; unfinished = 0; taken = 0; cleared = 0; left = 0 })
unfolding nothing spans held_to keys_to nub total held_in cleared
start_from_nothing f w p l =
    let z : p.n - 0 ≡ p.n = omega arith in
    record {
      within = omega arith;
      laid = l;
      long = refl;
      front = front_refl (4 * p.held) w;
      fits = record { at = λ k. omega arith };
      quiet = rw (opened_none f w p) quiet_emptied;
      sums = record { fewer = omega arith; bytes = omega arith; few = omega arith; live = refl; taken = omega arith; cleared = omega arith; most = omega arith; left = refl };
      tallied = rw (z, opened_none f w p);
      takes = rw z (zero-add (taken_in (all f w p)));
      clears = rw (z, opened_none f w p) (zero-add (cleared_from emptied (all f w p)));
      ends = rw (z, opened_none f w p);
      keys = rw z;
      told = record { at = λ i h. absurd (omega arith) };
    }

pub counting_start :
    (f w : List ℕ) (p : Plan) → Laid f w p → (c b m o t d l : ℕ) → c ≡ 0 → b ≡ 0 → m ≡ 0 → o ≡ 0 → t ≡ 0 → d ≡ 0 → l ≡ 0 →
    CountingTo f w p w 0 (record { tally = record { count = c; bytes = b; frames = m }; unfinished = o; taken = t; cleared = d; left = l })
counting_start f w p y c b m o t d l ec eb em eo et ed el = rw (ec, eb, em, eo, et, ed, el) (start_from_nothing f w p y)

module _ (f w₀ : List ℕ) (p : Plan) (w : List ℕ) (i : ℕ) (s : Sums) (v : CountingTo f w₀ p w i s) where
  here : Lying f w p
  here = laid_lying f w p v.laid

  module _ (h : i < p.n) (x : ℕ) (ex : x ≡ dlci_at w p i) where
    pub counting_pre : x ≡ p.dlci → CountPre f w p i s
    counting_pre d = record { laid = v.laid; row = h; own = sym ex ∙ d; fits = v.fits; quiet = v.quiet; sums = v.sums }

    pub counting_turn : x ≡ p.dlci → (u : List ℕ) (r : Sums) → Stepped f w p i s u r → CountingTo f w₀ p u (i + 1) r
    unfolding keys_to
    counting_turn e u r t =
        let d : dlci_at w p i ≡ p.dlci = sym ex ∙ e in
        let m : Moved f w p i u = t.moves in
        let F : Front (4 * p.held) u w = m.kept.front in
        let x : held_of w p i ≤ length (stream_to f w p i) = own_fits f w p i d v.fits in
        let k : opened f u p (i + 1) ≡ step scanner (opened f w p i) (piece f w p i) = moved_opens f w p i here h x u m d in
        let R : List Span = run scanner (opened f u p (i + 1)) (ahead f u p (i + 1)) in
        record {
          within = omega arith;
          laid = laid_front f u w p v.laid F m.kept.long;
          long = m.kept.long ∙ v.long;
          front = front_then (4 * p.held) u w w₀ F v.front;
          fits = moved_fits f w p i here h x u m d v.fits;
          quiet = moved_quiet f w p i here h x u m d v.quiet;
          sums = t.sums;
          tallied = rw (t.all, ← tally_tagged s.tally (piece f w p i).rx (piece f w p i).time (spans_of (joined f w p i)) R, ← next_run f w p i h d u here F k) v.tallied;
          takes = omega (arith, t.takes, next_taken f w p i h d u here F k, v.takes);
          clears = omega (arith, t.clears, next_cleared f w p i h d u here F k, v.clears);
          ends = sym (next_after f w p i h d u here F k) ∙ v.ends;
          keys = rw (
            add-one i,
            dlci_front f u w p here F i h,
            eq-eqb (dlci_at w p i) p.dlci d,
            tail_front f u w p here F i h,
            keys_front f u w p here F i (omega arith),
            append_assoc,
            ← add-one i,
            ← next_keys f w p i h d u here F k,
          ) v.keys;
          told = all_told f u w p here i h m.kept v.told m.told;
        }

    sums_next : (dlci_at w p i ≡ p.dlci → ⊥) → SumsTo w p (i + 1) s
    sums_next d = (let q : SumsTo w p i s = v.sums in record {
      fewer = q.fewer;
      bytes = omega (arith, q.bytes);
      few = omega (arith, q.few);
      live = q.live ∙ sym (sums_skip f w p i h d sign);
      taken = omega (arith, q.taken);
      cleared = omega (arith, q.cleared);
      most = omega (arith, q.most);
      left = q.left ∙ sym (sums_skip f w p i h d (λ n. n));
    })

    pub counting_skip : (x ≡ p.dlci → ⊥) → CountingTo f w₀ p w (i + 1) s
    counting_skip e =
        let d : dlci_at w p i ≡ p.dlci → ⊥ = λ z. e (ex ∙ z) in
        record {
          within = omega arith;
          laid = v.laid;
          long = v.long;
          front = v.front;
          fits = fits_skip f w p i h d v.fits;
          quiet = rw (opened_skip f w p i h d) v.quiet;
          sums = sums_next d;
          tallied = rw (ahead_skip f w p i h d, ← opened_skip f w p i h d) at v.tallied;
          takes = rw (ahead_skip f w p i h d) at v.takes;
          clears = rw (ahead_skip f w p i h d, ← opened_skip f w p i h d) at v.clears;
          ends = rw (ahead_skip f w p i h d, ← opened_skip f w p i h d) at v.ends;
          keys = rw (ahead_skip f w p i h d, ← keys_skip f w p i h d) at v.keys;
          told = record { at = λ j g z. split≡ j i (λ y. absurd (d (rw y at z))) (λ y. v.told.at j (omega arith) z) };
        }

  module _ (h : p.n ≤ i) where
    none : ahead f w p i ≡ []
    none = ahead_none f w p i h

    -- at the end the words have what the buffers hold
    held_end : (g : ℕ → ℕ) → held_to g w p i ≡ total (λ k. g (length (after scanner emptied (all f w₀ p) k))) (nub (map (λ x. x.key) (all f w₀ p)))
    unfolding held_to after opened
    held_end g = rw (← (rw none at v.ends), ← (rw (none, append-nil) at v.keys), fun_ext (λ k. ap g (length_lastn (held_in w p i (p.dlci ∷ k)) (stream_of f w p i (p.dlci ∷ k)) (v.fits.at k))))

    pub counting_end : CountIs f w₀ p w s
    unfolding unfinished left sign run total taken_in tally_spans nothing
    counting_end =
        let t : s.tally ≡ tally_spans nothing (spans (all f w₀ p)) = rw none at v.tallied in
        record {
          count = ap (λ (x : Tally). x.count) t ∙ tally_count nothing (spans (all f w₀ p)) ∙ omega arith;
          bytes = ap (λ (x : Tally). x.bytes) t ∙ tally_bytes nothing (spans (all f w₀ p)) ∙ omega arith;
          frame = ap (λ (x : Tally). x.frames) t ∙ tally_frame nothing (spans (all f w₀ p));
          live = v.sums.live ∙ held_end sign ∙ sym (count_total (λ k. ltb 0 (length (after scanner emptied (all f w₀ p) k))) (nub (map (λ x. x.key) (all f w₀ p))));
          takes = sym (add-zero s.taken) ∙ rw none at v.takes;
          clears = sym (add-zero s.cleared) ∙ rw none at v.clears;
          holds = v.sums.left ∙ held_end (λ n. n);
          front = v.front;
          told = (let y : i ≡ p.n = omega (arith, v.within) in rw y at v.told);
        }
