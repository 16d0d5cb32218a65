-- What lies within a list: the bytes that a call says it wrote.
use Rattle.std.proofs.Common.{ℕ, ◌≤◌, ◌≡◌, refl, List, [], ◌∷◌, ◌++◌, length, take, drop, arith}
use lib.Dec.{leb}
use lib.ListN.{length-append}
use lib.Seq.{take-append_seam}
use Rattle.laws.proofs.Choice.{split_b}
use Rattle.laws.specs.Answers.{accepted, refused, Outcome, gives, refuses, answer, output, Meets}
use Rattle.laws.specs.Stores.{filled}
use Rattle.items.specs.Items.{Listed, well_formed, ill_formed, Span, spans_in, names_in}
use Rattle.fixtures.specs.Plan.{plans, plan_of}
use Rattle.fixtures.specs.Plan as plan
use Rattle.container.specs.Container as container
use Rattle.trace.specs.Formats.{container_of}
use Rattle.trace.specs.declared.Container.{Container}
use Rattle.outcome.specs.Import.{Found, found, missing, Options, fits, work_suffices, outcome, imported}
use Rattle.outcome.specs.Import as import
use Rattle.capture.specs.Calls.{Imported, Imports}
use Rattle.capture.specs.declared.Summary.{Summary}
use Rattle.std.specs.Prelude.{Ok}
use Rattle.traceprint.specs.Lies.{Lies}

-- ---- the bytes that a call wrote

pub not_accepted : {G : Type 0} {n : ℕ} {us vs : List ℕ} → accepted vs ≡ refused n us → G
not_accepted e = let z : ◌≡◌ {A = ℕ} 0 1 = cc in absurd (omega arith)

pub not_given : {G : Type 0} {n : ℕ} {us vs w : List ℕ} → refuses n us ≡ gives vs w → G
not_given e = let z : ◌≡◌ {A = ℕ} 0 1 = cc in absurd (omega arith)

-- a call that accepts was given bytes to write, and its output has room for them
pub record Given (o : Outcome) (vs out : List ℕ) : Type 0 where
  pub bytes : List ℕ
  pub gift : o ≡ gives vs bytes
  pub room : length bytes ≤ length out
  pub front : take (length bytes) out ≡ bytes

pub accepts : (o : Outcome) (d vs e : List ℕ) → Meets o d (accepted vs) e → Given o vs e
unfolding answer output filled
accepts (gives us w) d vs e m =
    split_b (leb (length w) (length d))
    (λ h.
    let q : accepted vs ≡ accepted us = rw h at m.answers in
    let a : e ≡ w ++ drop (length w) d = rw h at m.writes in
    record { bytes = w; gift = cc; room = rw a (omega (arith, length-append w (drop (length w) d))); front = rw a (take-append_seam w (drop (length w) d)) })
    (λ h. not_accepted (rw h at m.answers))
accepts (refuses n us) d vs e m = not_accepted m.answers

-- their number is among the values that import answers

abbrev pub values_of : Summary → List ℕ
values_of s = s.stream.dlci ∷ s.stream.spans ∷ s.stream.unfinished ∷ s.tail ∷ s.stream.bytes ∷ s.wrong ∷ s.stream.in_spans ∷ s.stream.dropped ∷ s.stream.cleared ∷ s.stream.left ∷ []

found_written : (x : Found) (s : Summary) (w : List ℕ) → import.given x ≡ gives (values_of s) w → s.stream.bytes ≡ length w
unfolding import.given
found_written (found y) s w e = cc
found_written (missing m vs) s w e = not_given e

pub imported_written : (C : container.Container) (f : List ℕ) (work : ℕ) (o : Options) (s : Summary) (w : List ℕ) → imported C f work o ≡ gives (values_of s) w → s.stream.bytes ≡ length w
unfolding imported
imported_written C f work o s w e =
    split_b (fits f)
    (λ a. split_b (work_suffices f work)
    (λ b. found_written (outcome C f o) s w (rw (a, b) at e))
    (λ b. not_given (rw (a, b) at e)))
    (λ a. not_given (rw a at e))

pub import_lies : (b : Container) (f work : List ℕ) (o : Options) (out : List ℕ) (r : Imported) (work' out' : List ℕ) → Imports b f work o out r work' out' → Lies r out'
import_lies b f work o out r work' out' i = record {
  within = λ s e.
      (let g = accepts (imported (container_of b) f (length work) o) out (values_of s) out' (rw e at i.meets) in
      let q = imported_written (container_of b) f (length work) o s g.bytes g.gift in
      omega (arith, g.room));
}

pub lies_within : (s : Summary) (out : List ℕ) → Lies (Ok s) out → s.stream.bytes ≤ length out
lies_within s out l = l.within s refl

-- and the last that planning answers

pub plans_last : (ss : Listed Span) (ns : Listed (List ℕ)) (n k : ℕ) (w : List ℕ) → plans ss ns ≡ gives (n ∷ k ∷ []) w → k ≡ length w
unfolding plan.given
plans_last (ill_formed m) ns n k w e = not_given e
plans_last (well_formed ss) (ill_formed m) n k w e = not_given e
plans_last (well_formed ss) (well_formed ns) n k w e = cc

pub plan_within : (spans excluded out out' : List ℕ) (n k : ℕ) → Meets (plan_of spans excluded) out (accepted (n ∷ k ∷ [])) out' → k ≤ length out'
unfolding plan_of
plan_within spans excluded out out' n k p =
    let g = accepts (plan_of spans excluded) out (n ∷ k ∷ []) out' p in
    let q = plans_last (spans_in spans) (names_in excluded) n k g.bytes g.gift in
    omega (arith, g.room)
