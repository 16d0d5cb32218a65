-- What the pass over the records holds and promises.
use Rattle.std.specs.Prelude.{ℕ, ◌+◌, ◌-◌, ◌*◌, ◌<◌, ◌≤◌, ◌≡◌, Bool, cond, List, [], ◌∷◌, ◌++◌, length, ltb}
use Rattle.trace.specs.Finding.{bytes_of}
use Rattle.trace.specs.declared.Format.{Format}
use Rattle.trace.specs.declared.record.Record.{Record}
use Rattle.signs.specs.Places.{Placed}
use Rattle.signs.specs.Recorded.{is_short, is_zeros, is_skipped, drops}
use Rattle.signs.specs.Counting.{gap_of, noted}
use Rattle.signs.specs.declared.Gap.{Gap}
use Rattle.recorded.specs.declared.Recorded.{Recorded}
use Rattle.recorded.specs.declared.Seen.{Seen}

-- the four signs as their numbers
abbrev pub recorded_of : Recorded → List ℕ
recorded_of r = gap_of r.short ++ (gap_of r.dropped ++ (gap_of r.skipped ++ gap_of r.zeros))

-- a file not over the size that is read
pub record Readable (f : List ℕ) : Type 0 where
  pub small : length f ≤ 1048576

-- ---- one record

-- one more if the sign shows
unfoldable pub noted_if : Bool → Gap → ℕ → Gap
noted_if shows g at = cond shows (noted g 1 at) g

-- as many more as a count rises from one record to the next
unfoldable pub noted_rise : ℕ → ℕ → Gap → ℕ → Gap
noted_rise before here g at = cond (ltb before here) (noted g (here - before) at) g

-- the signs with those of one record more
unfoldable pub looked : Format → Seen → ℕ → List ℕ → Seen
looked g s at r = record {
  signs = record {
    short = noted_if (is_short g r) s.signs.short at;
    dropped = noted_rise s.last (drops g r) s.signs.dropped at;
    skipped = noted_if (is_skipped g r) s.signs.skipped at;
    zeros = noted_if (is_zeros r) s.signs.zeros at;
  };
  last = drops g r;
}

-- ---- the records from a place on

abbrev pub no_gap : Gap
no_gap = record { many = 0; first = 0 }

-- before the first record
abbrev pub unseen : Seen
unseen = record { signs = record { short = no_gap; dropped = no_gap; skipped = no_gap; zeros = no_gap }; last = 0 }

unfoldable pub looked_all : Format → Seen → List (Placed (List ℕ)) → Seen
looked_all g s [] = s
looked_all g s (r ∷ rs) = looked_all g (looked g s r.at r.is) rs

-- ---- how large the numbers are

-- room to count one sign more, or one rise
pub record GapPre (g : Gap) : Type 0 where
  pub small : g.many < 9223372036854775808

pub record Risen (before here : ℕ) (g : Gap) (at : ℕ) (r : Gap) : Type 0 where
  pub is : r ≡ noted_rise before here g at
  pub most : r.many ≤ g.many + 4294967295

-- before a place: a record has 16 bytes at least
pub record Bounded (s : Seen) (at : ℕ) : Type 0 where
  pub short : 16 * s.signs.short.many ≤ at
  pub dropped : 16 * s.signs.dropped.many ≤ 4294967295 * at
  pub skipped : 16 * s.signs.skipped.many ≤ at
  pub zeros : 16 * s.signs.zeros.many ≤ at

pub record Looks (r : Record) (s t : Seen) : Type 0 where
  pub is : t ≡ looked r.trace.format s r.at (bytes_of r)
  pub bounded : Bounded t r.end
