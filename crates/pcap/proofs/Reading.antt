-- The size, the time and the packet of a record that stands at a place of a file.
use Rattle.std.specs.Prelude.{Option, None}
use Prim.Native.Nat.{ℕ, ◌+◌, ◌*◌, ◌/◌, ◌<◌, ◌≤◌}
use mathlib.Core.Path.{◌≡◌, sym, ◌∙◌}
use mathlib.Core.Bool.{Bool, true, false, cond}
use mathlib.Core.List.{List, ◌++◌}
use native.Mathlib.Omega.{arith}
use lib.ListN.{length, drop, length-drop}
use lib.Seq.{drop-drop}
use lib.Dec.{eqb}
use borrow.Author.Tests.{eq-eqb, ne_eqb}
use Rattle.laws.proofs.Choice.{split≤}
use Rattle.laws.specs.Numbers.{be32}
use Rattle.acl.proofs.Parts.{be32_drop, le32_drop}
use Rattle.acl.proofs.Reading.{after_end, after_stands}
use Rattle.acl.specs.Reading.{After, H4Is, bytes_in, shown}
use Rattle.acl.specs.declared.Fragment.{Fragment}
use Rattle.acl.specs.declared.excerpt.Excerpt.{Excerpt}
use Rattle.pcap.specs.Header.{number}
use Rattle.pcap.specs.Records.{record_size}
use Rattle.pcap.specs.Packets.{milliseconds, directed_packet}
use Rattle.pcap.specs.Reading.{RecordIs}
use Rattle.pcap.proofs.Laws.{number_front, too_short}

-- ---- numbers after a place

module _ (f : List ℕ) (at : ℕ) where
  number_drop : (big : Bool) (i : ℕ) → number big (drop at f) i ≡ number big f (at + i)
  unfolding number
  number_drop true i = be32_drop f at i
  number_drop false i = le32_drop f at i

  pub size_at : (big : Bool) (m n : ℕ) → m ≡ number big f (at + 8) → n ≡ m → 16 + n ≡ record_size big (drop at f)
  unfolding record_size
  size_at big m n e q = rw (number_drop big 8, q, e)

  pub time_at : (big nano : Bool) (s x r : ℕ) → s ≡ number big f at → x ≡ number big f (at + 4) → (r ≡ cond nano (x / 1000000) (x / 1000)) × (r < 4294967296) → 1000 * s + r ≡ milliseconds big nano (drop at f)
  unfolding milliseconds
  time_at big nano s x r es ex er = let z : at + 0 ≡ at = omega arith in rw (number_drop big 0, number_drop big 4, z, er.0, es, ex)

-- what follows a record's head does not move its time
pub time_front : (big nano : Bool) (r x : List ℕ) → 16 ≤ length r → milliseconds big nano (r ++ x) ≡ milliseconds big nano r
unfolding milliseconds
time_front big nano r x h = rw (number_front big r x 0 (omega arith), number_front big r x 4 (omega arith))

-- ---- the packet

module _ (x : Excerpt) where
  abbrev b : List ℕ
  b = bytes_in x

  pub packet_short : 16 ≤ length b → length b < 20 → RecordIs x None
  unfolding shown
  packet_short h s = record { shows = λ f z time. rw (too_short time (drop 16 b) (omega (arith, length-drop 16 b))); held = tt }

  module _ (h : 20 ≤ length b) (way : ℕ) (e : way ≡ be32 b 16) where
    way_is : be32 (drop 16 b) 0 ≡ way
    way_is = be32_drop b 16 0 ∙ sym e

    pub packet_other : 2 ≤ way → RecordIs x None
    unfolding shown directed_packet
    packet_other g = record { shows = λ f s time. rw (way_is, ne_eqb way 0 (λ z. absurd (omega arith)), ne_eqb way 1 (λ z. absurd (omega arith))); held = tt }

    pub packet_directed : way < 2 → (y : Excerpt) → After x 20 y → (r : Option Fragment) → H4Is y (cond (eqb way 1) 1 0) r → RecordIs x r
    unfolding directed_packet
    packet_directed g y a r m = record {
      shows = λ f s time.
          let d = m.shows f (after_stands x 20 y a h f s) time in
          rw (way_is, drop-drop 4 16 b, ← a.rest) (split≤ 1 way
          (λ l. let z : way ≡ 1 = omega arith in rw (ne_eqb way 0 (λ y. absurd (omega arith)), eq-eqb way 1 z) (rw (eq-eqb way 1 z) at d))
          (λ l. let z : way ≡ 0 = omega arith in rw (eq-eqb way 0 z) (rw (ne_eqb way 1 (λ y. absurd (omega arith))) at d)));
      held = rw (after_end x 20 y a h) at m.held;
    }
