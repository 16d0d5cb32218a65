-- What reading a header answers, and why a trace is not read.
use Rattle.std.specs.Prelude.{ℕ, ◌≡◌, Result, Ok, Err, true, cond, List, [], ◌∷◌}
use Rattle.laws.specs.Answers.{Answer, refused}
use Rattle.container.specs.Container as container
use Rattle.btsnoop.specs.declared.HeaderError as btsnoop_header
use Rattle.btsnoop.specs.declared.HeaderError.TheVariants as btsnoop_says
use Rattle.pcap.specs.declared.HeaderError as pcap_header
use Rattle.pcap.specs.declared.HeaderError.TheVariants as pcap_says
use Rattle.trace.specs.Formats.{container_of, format_of}
use Rattle.trace.specs.declared.Container.{Container}
use Rattle.trace.specs.declared.Refusal.{Refusal}
use Rattle.trace.specs.declared.Refusal.TheVariants.{FileLong, WorkShort, NotBtsnoop, Datalink, NotPcap, LinkType, Truncated}
use Rattle.trace.specs.declared.Format.{Format}

-- why a header is not taken, as a trace's refusal
abbrev pub btsnoop_refusal : btsnoop_header.HeaderError → Refusal
btsnoop_refusal btsnoop_says.NotBtsnoop = NotBtsnoop
btsnoop_refusal (btsnoop_says.Datalink n) = Datalink n

abbrev pub pcap_refusal : pcap_header.HeaderError → Refusal
pcap_refusal pcap_says.NotPcap = NotPcap
pcap_refusal (pcap_says.LinkType n) = LinkType n

-- each case's number and values in documents 01 and 02
abbrev pub told_refusal : Refusal → Answer
told_refusal FileLong = refused 1 []
told_refusal WorkShort = refused 2 []
told_refusal NotBtsnoop = refused 3 []
told_refusal (Datalink n) = refused 4 (n ∷ [])
told_refusal NotPcap = refused 21 []
told_refusal (LinkType n) = refused 22 (n ∷ [])
told_refusal (Truncated offset) = refused 5 (offset ∷ [])

-- 3 (pcap: 21), 4 (22), in this order; else what is given
unfoldable pub headed : container.Container → List ℕ → Answer → Answer
headed C f a = cond (C.is_file f) (cond (C.is_taken (C.link_type f)) a (refused C.untaken (C.link_type f ∷ []))) (refused C.foreign [])

-- the header is read, or refused by the definition, whatever would be given
abbrev pub HeaderOf : Container → List ℕ → Result Format Refusal → Type 0
HeaderOf b f (Ok g) = ((container_of b).is_file f ≡ true) × ((container_of b).is_taken ((container_of b).link_type f) ≡ true) × (g ≡ format_of b f)
HeaderOf b f (Err x) = (a : Answer) → told_refusal x ≡ headed (container_of b) f a

pub record HeaderIs (b : Container) (f : List ℕ) (r : Result Format Refusal) : Type 0 where
  pub says : HeaderOf b f r
