-- Where import finds a DLCI, it lists the spans of that DLCI's pieces; and strict reading reads what is whole.
use Prim.Native.Nat.{ℕ}
use mathlib.Core.Path.{◌≡◌, refl}
use mathlib.Core.Bool.{true}
use mathlib.Core.List.{List}
use mathlib.Core.Option.{Option, none, some}
use native.Mathlib.Omega.{arith}
use Rattle.laws.proofs.Choice.{split_b}
use Rattle.laws.specs.Answers.{accepted, refused}
use Rattle.container.specs.Container.{Container, tail_offset}
use Rattle.trace.specs.Headers.{headed}
use Rattle.rfcomm.specs.Pieces.{Piece}
use Rattle.spans.specs.Spans.{spans, unfinished, on_dlci}
use Rattle.spans.specs.Account.{account_of}
use Rattle.outcome.specs.Import.{Options, Finding, found, missing, listed, chosen, file_pieces, file_wrong, read, strict, ends_well, outcome, fits, work_suffices}
use Rattle.opening.specs.Opening.{ends, heads, opened}
use Rattle.links.specs.Alone.{ReadsWhole}

-- ---- what strict reading asks

pub record Whole (C : Container) (f : List ℕ) (work : ℕ) : Type 0 where
  pub small : fits f ≡ true
  pub room : work_suffices f work ≡ true
  pub header : C.is_file f ≡ true
  pub known : C.is_taken (C.link_type f) ≡ true
  pub ended : ends_well C strict f ≡ true

not_accepted : {G : Type 0} {n : ℕ} {vs ws : List ℕ} → refused n vs ≡ accepted ws → G
not_accepted e = let z : ◌≡◌ {A = ℕ} 0 1 = cc in absurd (omega arith)

module _ (C : Container) (f : List ℕ) (work : ℕ) where
  pub whole_reads : Whole C f work → ReadsWhole C f work
  unfolding opened heads headed ends
  whole_reads h = rw (h.small, h.room, h.header, h.known, h.ended)

  pub reads_all : ReadsWhole C f work → Whole C f work
  unfolding opened heads headed ends
  reads_all h =
      split_b (fits f)
      (λ a. split_b (work_suffices f work)
      (λ b. split_b (C.is_file f)
      (λ c. split_b (C.is_taken (C.link_type f))
      (λ d. split_b (ends_well C strict f)
      (λ e. record { small = a; room = b; header = c; known = d; ended = e })
      (λ e. not_accepted (rw (a, b, c, d, e) at h)))
      (λ d. not_accepted (rw (a, b, c, d) at h)))
      (λ c. not_accepted (rw (a, b, c) at h)))
      (λ b. not_accepted (rw (a, b) at h)))
      (λ a. not_accepted (rw a at h))

-- ---- what import finds

pub not_found : {G : Type 0} {n : ℕ} {vs : List ℕ} {x : Finding} → missing n vs ≡ found x → G
not_found e = let z : ◌≡◌ {A = ℕ} 0 1 = cc in absurd (omega arith)

-- where it finds something, 1 to 5 do not refuse
pub outcome_read : (C : Container) (f : List ℕ) (o : Options) (x : Finding) → outcome C f o ≡ found x → read C f o ≡ found x
unfolding outcome
outcome_read C f o x e =
    split_b (C.is_file f)
    (λ a. split_b (C.is_taken (C.link_type f))
    (λ b. split_b (ends_well C o.tail f)
    (λ c. rw (a, b, c) at e)
    (λ c. not_found (rw (a, b, c) at e)))
    (λ b. not_found (rw (a, b) at e)))
    (λ a. not_found (rw a at e))

listed_found : (ps : List Piece) (wrongs : ℕ → ℕ) (end : ℕ) (o : Option ℕ) (x : Finding) → listed ps wrongs end o ≡ found x →
    (x.spans ≡ spans (on_dlci x.dlci ps)) × (x.unfinished ≡ unfinished (on_dlci x.dlci ps))
unfolding listed
listed_found ps wrongs end none x e = not_found e
listed_found ps wrongs end (some d) x e =
    let y : Finding = record { dlci = d; spans = spans (on_dlci d ps); unfinished = unfinished (on_dlci d ps); tail = end; wrong = wrongs d; account = account_of (on_dlci d ps) } in
    let q : found y ≡ found x = e in
    let a : y ≡ x = cc in
    rw (← a) (refl, refl)

-- its spans and its count are those of the pieces on the DLCI that it names
pub outcome_found : (C : Container) (f : List ℕ) (o : Options) (x : Finding) → outcome C f o ≡ found x →
    (x.spans ≡ spans (on_dlci x.dlci (file_pieces C o.judging f))) × (x.unfinished ≡ unfinished (on_dlci x.dlci (file_pieces C o.judging f)))
unfolding read
outcome_found C f o x e =
    listed_found (file_pieces C o.judging f) (file_wrong C o.judging f) (tail_offset C f) (chosen o.channel (file_pieces C o.judging f)) x (outcome_read C f o x e)
