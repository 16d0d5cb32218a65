-- The signs of the records counted in one pass.
use Rattle.std.specs.Prelude.{Option, Some, None}
use Prim.Native.Nat.{ℕ, ◌+◌, ◌-◌, ◌≤◌}
use mathlib.Core.Path.{◌≡◌, ap, ◌∙◌}
use mathlib.Core.Bool.{Bool, true, false}
use mathlib.Core.List.{List}
use native.Mathlib.Omega.{arith}
use Rattle.acl.specs.Reading.{between}
use Rattle.trace.proofs.Formats.{head_least}
use Rattle.trace.specs.Reader.{Starts}
use Rattle.trace.specs.Finding.{bytes_of, FoundHere, Reads}
use Rattle.trace.proofs.Finding.{reads_same, found_here, found_told, found_end, found_none}
use Rattle.trace.specs.declared.Trace.{Trace}
use Rattle.trace.specs.declared.reader.Reader.{Reader}
use Rattle.trace.specs.declared.record.Record.{Record}
use Rattle.signs.specs.Places.{records_at}
use Rattle.signs.specs.Recorded.{is_short, is_zeros, is_skipped, drops}
use Rattle.signs.specs.Gaps.{record_gaps}
use Rattle.signs.specs.Counting.{noted}
use Rattle.signs.proofs.Places.{rest_at, rest_start, rest_turn, rest_none}
use Rattle.signs.specs.declared.Gap.{Gap}
use Rattle.recorded.specs.Looking.{recorded_of, noted_if, looked, looked_all, no_gap, unseen, Risen, Bounded, Looks}
use Rattle.recorded.specs.declared.Seen.{Seen}
use Rattle.recorded.proofs.Tallies.{all_gaps}

-- ---- one record

if_most : (shows : Bool) (g : Gap) (at : ℕ) → (noted_if shows g at).many ≤ g.many + 1
unfolding noted_if noted
if_most true g at = omega arith
if_most false g at = omega arith

module _ (r : Record) (s : Seen) (p : Bounded s r.at) (here : ℕ) (eh : here ≡ drops r.trace.format (bytes_of r)) where
  pub look_done :
      (a : Bool) → a ≡ is_short r.trace.format (bytes_of r) → (short : Gap) → short ≡ noted_if a s.signs.short r.at →
      (dropped : Gap) → Risen s.last here s.signs.dropped r.at dropped →
      (b : Bool) → b ≡ is_skipped r.trace.format (bytes_of r) → (skipped : Gap) → skipped ≡ noted_if b s.signs.skipped r.at →
      (l : List ℕ) → l ≡ bytes_of r → (c : Bool) → c ≡ is_zeros l → (zeros : Gap) → zeros ≡ noted_if c s.signs.zeros r.at →
      Looks r s (record { signs = record { short = short; dropped = dropped; skipped = skipped; zeros = zeros }; last = here })
  unfolding looked
  look_done a ea short es dropped ed b eb skipped ek l el c ec zeros ez =
      let k : r.at + 16 ≤ r.end = omega (arith, head_least r.trace.format, r.whole.least) in
      record {
        is = rw (es, ed.is, ek, ez, ea, eb, ec, el, eh);
        bounded = record {
          short = omega (arith, ap (λ (x : Gap). x.many) es, if_most a s.signs.short r.at, p.short);
          dropped = omega (arith, ed.most, p.dropped);
          skipped = omega (arith, ap (λ (x : Gap). x.many) ek, if_most b s.signs.skipped r.at, p.skipped);
          zeros = omega (arith, ap (λ (x : Gap). x.many) ez, if_most c s.signs.zeros r.at, p.zeros);
        };
      }

-- ---- all records

-- the signs up to where a reader stands and the records from there on give what all of them do
pub record Looking (t : Trace) (s : Seen) (q : Reader) : Type 0 where
  pub trace : q.trace ≡ t
  pub bounded : Bounded s q.at
  pub same : looked_all t.format s (rest_at t.format t.file.now q.at) ≡ looked_all t.format unseen (records_at t.format t.file.now)

start_unseen : (t : Trace) (q : Reader) → Starts t q → Looking t unseen q
start_unseen t q h = record {
  trace = h.trace;
  bounded = record { short = omega arith; dropped = omega arith; skipped = omega arith; zeros = omega arith };
  same = rw (h.at, rest_start t.format t.file.now);
}

pub looking_start :
    (t : Trace) (q : Reader) → Starts t q → (a b c d : Gap) (n : ℕ) → a ≡ no_gap → b ≡ no_gap → c ≡ no_gap → d ≡ no_gap → n ≡ 0 →
    Looking t (record { signs = record { short = a; dropped = b; skipped = c; zeros = d }; last = n }) q
looking_start t q h a b c d n ea eb ec ed en = rw (ea, eb, ec, ed, en) (start_unseen t q h)

module _ (t : Trace) (q : Reader) (s : Seen) (l : Looking t s q) where
  module _ (x : Option Record) (z : Reader) (h : Reads q x z) where
    module _ (r : Record) (e : x ≡ Some r) where
      here : FoundHere t q.at r
      here = found_here t q l.trace x z h r e

      pub looking_turn : (n : Seen) → Looks r s n → Looking t n z
      unfolding looked_all
      looking_turn n k =
          let y : n ≡ looked t.format s q.at (between t.file.now q.at r.end) = k.is ∙ rw (here.same, here.starts) in
          let o : z.at ≡ r.end = found_end t q l.trace x z h r e in
          record {
            trace = reads_same t q l.trace x z h;
            bounded = rw o k.bounded;
            same = rw (o, y) (rw (rest_turn t.format t.file.now q.at r.end (found_told t q l.trace x z h r e)) at l.same);
          }

    pub looking_end : x ≡ None → recorded_of s.signs ≡ record_gaps t.format t.file.now
    unfolding looked_all
    looking_end n =
        let y : s ≡ looked_all t.format unseen (records_at t.format t.file.now) = rw (rest_none t.format t.file.now q.at (found_none t q l.trace x z h n)) at l.same in
        rw y (all_gaps t.format t.file.now)
