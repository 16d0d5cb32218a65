-- What the call for one link promises.
use Rattle.std.specs.Prelude.{Result, ℕ, ◌≡◌, false, ◌&&◌, List, [], ◌∷◌, length}
use Rattle.laws.specs.Answers.{Answer, accepted, refused, answered, answer, Meets}
use Rattle.container.specs.Packets.{link_of}
use Rattle.trace.specs.Formats.{container_of}
use Rattle.trace.specs.Headers.{told_refusal}
use Rattle.trace.specs.declared.Container.{Container}
use Rattle.outcome.specs.Import.{fits, work_suffices}
use Rattle.telling.specs.Telling.{Calls}
use Rattle.links.specs.OneLink.{one_link}
use Rattle.links.specs.Alone.{AloneClaim}
use Rattle.onelink.specs.declared.LinkList.{LinkList}
use Rattle.onelink.specs.declared.LinkError.{LinkError}
use Rattle.onelink.specs.declared.LinkError.TheVariants.{Refused, NoLink, OutShort}

-- ---- as the code holds it: each case's number and values in document 02

-- spans, unfinished, bytes written
abbrev pub told_list : LinkList → Answer
told_list s = accepted (s.spans ∷ s.unfinished ∷ s.bytes ∷ [])

abbrev pub told_link_error : LinkError → Answer
told_link_error (Refused x) = told_refusal x
told_link_error NoLink = refused 23 []
told_link_error (OutShort needed) = refused 7 (needed ∷ [])

abbrev pub told_link : Result LinkList LinkError → Answer
told_link = answered told_list told_link_error

-- ---- the promises

-- Answer and output by the definition; work is unchanged after 1 and 2; and both depend on that link's packets alone.
pub record ListsLink (b : Container) (f w : List ℕ) (index handle d : ℕ) (out : List ℕ) (r : Result LinkList LinkError) (w' out' : List ℕ) : Type 0 where
  pub meets : Meets (one_link (container_of b) f (length w) index handle d) out (told_link r) out'
  pub spared : (fits f && work_suffices f (length w)) ≡ false → w' ≡ w
  pub alone : AloneClaim (λ B g n. one_link B g n index handle d) (link_of index handle) (container_of b) f (length w) out (told_link r) out'

-- the same, told as a number and values
pub record LinkCalls (b : Container) (f w : List ℕ) (index handle d : ℕ) (out v : List ℕ) (r : ℕ) (w' out' v' : List ℕ) : Type 0 where
  pub calls : Calls (one_link (container_of b) f (length w) index handle d) out out' v r v'
  pub spared : (fits f && work_suffices f (length w)) ≡ false → w' ≡ w
  pub alone : AloneClaim (λ B g n. one_link B g n index handle d) (link_of index handle) (container_of b) f (length w) out
      (answer (one_link (container_of b) f (length w) index handle d) (length out)) out'
