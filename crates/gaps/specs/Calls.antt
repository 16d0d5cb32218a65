-- What the call answers: how many of each sign there are and where the first is, or a refusal.
use Rattle.std.specs.Prelude.{ℕ, Result, ◌≡◌, false, ◌&&◌, List, ◌++◌, length}
use Rattle.laws.specs.Answers.{Answer, accepted, refused, answered}
use Rattle.trace.specs.Formats.{container_of, format_of}
use Rattle.trace.specs.Headers.{told_refusal}
use Rattle.trace.specs.declared.Container.{Container}
use Rattle.trace.specs.declared.Refusal.{Refusal}
use Rattle.outcome.specs.Import.{Tail, fits, work_suffices}
use Rattle.opening.specs.Opening.{opened}
use Rattle.signs.specs.Gaps.{gaps}
use Rattle.signs.specs.Counting.{gap_of}
use Rattle.recorded.specs.Looking.{recorded_of}
use Rattle.telling.specs.Telling.{Told}
use Rattle.gaps.specs.declared.Signs.{Signs}

-- a refusal stays; else these values
unfoldable pub or_values : Answer → List ℕ → Answer
or_values (accepted vs) ws = accepted ws
or_values (refused n vs) ws = refused n vs

-- 1 to 5 (pcap: 21 and 22 for 3 and 4) as for import
unfoldable pub gaps_of : Container → List ℕ → ℕ → Tail → Answer
gaps_of b f work tail = or_values (opened (container_of b) f work tail) (gaps (format_of b f) f)

-- ---- as the code holds it

-- the seven signs as their numbers
abbrev pub signs_of : Signs → List ℕ
signs_of s = recorded_of s.recorded ++ (gap_of s.partial.stray ++ (gap_of s.partial.given_up ++ gap_of s.left))

abbrev pub told_signs : Signs → Answer
told_signs s = accepted (signs_of s)

abbrev pub told_gaps : Result Signs Refusal → Answer
told_gaps = answered told_signs told_refusal

-- the answer by the definition; work is unchanged after 1 and 2
pub record Finds (b : Container) (f w : List ℕ) (tail : Tail) (r : Result Signs Refusal) (w' : List ℕ) : Type 0 where
  pub answers : told_gaps r ≡ gaps_of b f (length w) tail
  pub spared : (fits f && work_suffices f (length w)) ≡ false → w' ≡ w

-- the same, told as a number and values
pub record GapsCalls (b : Container) (f w : List ℕ) (tail : Tail) (v : List ℕ) (r : ℕ) (w' v' : List ℕ) : Type 0 where
  pub tells : Told (gaps_of b f (length w) tail) v r v'
  pub spared : (fits f && work_suffices f (length w)) ≡ false → w' ≡ w
