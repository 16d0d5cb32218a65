-- Laws of specs/Account: the four numbers add up to the bytes taken in, for every list of pieces; and how they are reckoned piece by piece.
use Prim.Native.Nat.{ℕ, zero, suc, ◌+◌, ◌*◌, ◌<◌}
use mathlib.Core.Path.{◌≡◌, refl, ◌∙◌}
use mathlib.Core.List.{List, [], ◌∷◌, ◌++◌, map}
use native.Mathlib.Omega.{arith}
use native.Mathlib.Nat.{zero-add}
use lib.ListN.{length, take, drop, length-append, length-drop}
use lib.Seq.{length-take-le}
use lib.Dec.{leb, ltb}
use borrow.Author.Tests.{ltb-true, lt-ltb, le-ltb}
use Rattle.laws.proofs.Choice.{split_b, split≤}
use Rattle.laws.specs.Lists.{All, all_nil, all_cons}
use Rattle.laws.specs.Keys.{Key}
use Rattle.laws.proofs.Keys.{eq_eq_k, ne_eq_k}
use Rattle.laws.specs.Keyed.{step, run, after}
use Rattle.laws.specs.Count.{nub, count}
use Rattle.laws.specs.Totals.{total, Among}
use Rattle.laws.proofs.Totals.{total_append, total_map, sum_one, among_nub}
use Rattle.items.specs.Items.{Span, span_item, span_list}
use Rattle.items.proofs.Writing.{length_span, spans_none as list_none, spans_more as list_more}
use Rattle.rfcomm.specs.Pieces.{Piece}
use Rattle.search.specs.Seek.{seek}
use Rattle.spans.specs.Scan.{begun, end, ended, spans_n, rest_n, spans_of, rest_of, capped}
use Rattle.spans.proofs.Scanning.{shorter}
use Rattle.search.proofs.Searching.{seek_le}
use Rattle.spans.specs.Spans.{scanner, emptied, spans, unfinished}
use Rattle.spans.specs.Account.{dropped_n, dropped_of, cleared_of, weighing, in_spans, dropped, cleared, left, taken_in}

-- ---- one buffer

begun_length : (b : List ℕ) → seek 0x3E b + length (begun b) ≡ length b
begun_length b = omega (arith, seek_le 0x3E b, length-drop (seek 0x3E b) b)

-- spans, dropped and the rest of a buffer are the buffer
rule_conserves : (n : ℕ) (b : List ℕ) → length b < n → total length (spans_n n b) + dropped_n n b + length (rest_n n b) ≡ length b
unfolding spans_n rest_n dropped_n total
rule_conserves zero b h = absurd (omega arith)
rule_conserves (suc n) b h =
    split_b (ended (begun b))
    (λ e.
    let s = shorter b e in
    let l : seek 0x3C (begun b) < length (begun b) = ltb-true (seek 0x3C (begun b)) (length (begun b)) e in
    let t : length (take (end (begun b)) (begun b)) ≡ end (begun b) = length-take-le (end (begun b)) (begun b) (omega arith) in
    let ih = rule_conserves n (drop (end (begun b)) (begun b)) (omega arith) in
    rw e (omega (arith, begun_length b, t, ih, length-drop (end (begun b)) (begun b))))
    (λ e. rw e (omega (arith, begun_length b)))

pub buffer_conserves : (b : List ℕ) → total length (spans_of b) + dropped_of b + length (rest_of b) ≡ length b
unfolding spans_of rest_of dropped_of
buffer_conserves b = rule_conserves (suc (length b)) b (omega arith)

pub cap_conserves : (b : List ℕ) → cleared_of b + length (capped b) ≡ length b
unfolding cleared_of capped
cap_conserves b = split_b (leb (length b) 65536) (λ e. rw e (omega arith)) (λ e. rw e (omega arith))

-- a piece behind a buffer
module _ (b x : List ℕ) where
  abbrev wires_in : ℕ
  wires_in = total length (spans_of (b ++ x))

  pub piece_conserves : wires_in + dropped_of (b ++ x) + cleared_of (rest_of (b ++ x)) + length (capped (rest_of (b ++ x))) ≡ length b + length x
  piece_conserves = omega (arith, buffer_conserves (b ++ x), cap_conserves (rest_of (b ++ x)), length-append b x)

-- ---- all pieces

-- from some buffers on
module _ (m : Key → List ℕ) (ps : List Piece) where
  abbrev in_spans_from : ℕ
  in_spans_from = total (λ s. length s.wire) (run scanner m ps)

  abbrev dropped_from : ℕ
  dropped_from = total (λ n. n) (run (weighing dropped_of) m ps)

  abbrev cleared_from : ℕ
  cleared_from = total (λ n. n) (run (weighing (λ b. cleared_of (rest_of b))) m ps)

  abbrev left_from : List Key → ℕ
  left_from ks = total (λ k. length (after scanner m ps k)) ks

-- the sum of the buffers changes where the piece came
buffers_step : (ks : List Key) (m : Key → List ℕ) (p : Piece) → Among (λ (p : Piece). p.key) ks p →
    length (capped (rest_of (m p.key ++ p.bytes))) + total (λ k. length (m k)) ks ≡ length (m p.key) + total (λ k. length (step scanner m p k)) ks
buffers_step ks m p a =
    sum_one p.key (λ k. length (m k)) (λ k. length (step scanner m p k))
    (λ j n. rw (ne_eq_k j p.key n))
    (length (capped (rest_of (m p.key ++ p.bytes)))) (length (m p.key))
    (rw (eq_eq_k p.key p.key refl) (omega arith))
    ks a.once

conserved_from : (ks : List Key) (m : Key → List ℕ) {ps : List Piece} → All (Among (λ (p : Piece). p.key) ks) ps →
    in_spans_from m ps + dropped_from m ps + cleared_from m ps + left_from m ps ks ≡ total (λ k. length (m k)) ks + taken_in ps
unfolding run after total taken_in
conserved_from ks m all_nil = omega arith
conserved_from ks m (all_cons {x = p} {xs = ps} a others) =
    let ih = conserved_from ks (step scanner m p) others in
    let w : total (λ (s : Span). length s.wire) (map (λ w. record { rx = p.rx; time = p.time; wire = w }) (spans_of (m p.key ++ p.bytes))) ≡ total length (spans_of (m p.key ++ p.bytes)) =
    total_map (λ (s : Span). length s.wire) (λ w. record { rx = p.rx; time = p.time; wire = w }) (spans_of (m p.key ++ p.bytes)) in
    rw (total_append (λ (s : Span). length s.wire) (map (λ w. record { rx = p.rx; time = p.time; wire = w }) (spans_of (m p.key ++ p.bytes))) (run scanner (step scanner m p) ps), w)
    (omega (arith, ih, piece_conserves (m p.key) p.bytes, buffers_step ks m p a))

nothing_held : (ks : List Key) → total (λ k. length (emptied k)) ks ≡ 0
unfolding total
nothing_held [] = refl
nothing_held (k ∷ ks) = rw (nothing_held ks)

-- "Their sum equals the information bytes of the pieces taken in"
pub conserved : (ps : List Piece) → in_spans ps + dropped ps + cleared ps + left ps ≡ taken_in ps
unfolding in_spans dropped cleared left spans
conserved ps = conserved_from (nub (map (λ p. p.key) ps)) emptied (among_nub (λ (p : Piece). p.key) ps) ∙ rw (nothing_held (nub (map (λ p. p.key) ps))) (zero-add (taken_in ps))

-- the list of the spans has 14 bytes more for each
pub list_length : (ss : List Span) → length (span_list ss) ≡ 14 * length ss + total (λ s. length s.wire) ss
unfolding total
list_length [] = rw list_none
list_length (s ∷ ss) = rw (list_more s ss) (omega (arith, length-append (span_item s) (span_list ss), length_span s, list_length ss))

-- ---- left and unfinished

none_counted : (f : Key → List ℕ) (ks : List Key) → count (λ k. ltb 0 (length (f k))) ks ≡ 0 → total (λ k. length (f k)) ks ≡ 0
unfolding count total
none_counted f [] h = refl
none_counted f (k ∷ ks) h =
    split≤ (length (f k)) 0
    (λ e. let z : count (λ k. ltb 0 (length (f k))) ks ≡ 0 = rw (le-ltb 0 (length (f k)) e) at h in omega (arith, none_counted f ks z))
    (λ e. absurd (let z : suc (count (λ k. ltb 0 (length (f k))) ks) ≡ 0 = rw (lt-ltb 0 (length (f k)) e) at h in omega arith))

none_added : (f : Key → List ℕ) (ks : List Key) → total (λ k. length (f k)) ks ≡ 0 → count (λ k. ltb 0 (length (f k))) ks ≡ 0
unfolding count total
none_added f [] h = refl
none_added f (k ∷ ks) h = rw (le-ltb 0 (length (f k)) (omega arith)) (none_added f ks (omega arith))

-- nothing is left just if no buffer is unfinished
pub left_none : (ps : List Piece) → (unfinished ps ≡ 0 → left ps ≡ 0) × (left ps ≡ 0 → unfinished ps ≡ 0)
unfolding left unfinished
left_none ps = (none_counted (after scanner emptied ps) (nub (map (λ p. p.key) ps)), none_added (after scanner emptied ps) (nub (map (λ p. p.key) ps)))

-- left may be added up over any list that has each piece's key once
pub left_over : (ks : List Key) (ps : List Piece) → All (Among (λ (p : Piece). p.key) ks) ps → left ps ≡ total (λ k. length (after scanner emptied ps k)) ks
unfolding in_spans dropped cleared spans
left_over ks ps a = omega (arith, conserved ps, conserved_from ks emptied a, nothing_held ks)
