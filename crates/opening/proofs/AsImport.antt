-- Import is refused by 1 to 5 exactly where a trace does not open, in the same words; and each of these refusals has a number.
use Prim.Native.Nat.{ℕ}
use mathlib.Core.Path.{◌≡◌, refl}
use mathlib.Core.Bool.{true, ◌&&◌}
use mathlib.Core.List.{List, [], ◌∷◌}
use native.Mathlib.Omega.{arith}
use Rattle.laws.proofs.Choice.{split_b}
use Rattle.laws.specs.Answers.{Answer, accepted, refused}
use Rattle.container.specs.Container.{Container}
use Rattle.trace.specs.Headers.{told_refusal, headed}
use Rattle.trace.specs.declared.Refusal.{Refusal}
use Rattle.trace.specs.declared.Refusal.TheVariants.{FileLong, WorkShort, NotBtsnoop, Datalink, NotPcap, LinkType, Truncated}
use Rattle.outcome.specs.Import.{Options, Tail, ends_well, fits, work_suffices, read, outcome, given, imported}
use Rattle.opening.specs.Opening.{ends, heads, opened, or_given}

no_answer : {G : Type 0} → ◌≡◌ {A = ℕ} 0 1 → G
no_answer z = absurd (omega arith)

pub import_opened : (C : Container) (f : List ℕ) (work : ℕ) (o : Options) → imported C f work o ≡ or_given (opened C f work o.tail) (given (read C f o))
unfolding imported outcome given or_given opened heads headed ends
import_opened C f work o =
    split_b (fits f)
    (λ a. split_b (work_suffices f work)
    (λ b. split_b (C.is_file f)
    (λ c. split_b (C.is_taken (C.link_type f))
    (λ d. split_b (ends_well C o.tail f)
    (λ e. rw (a, b, c, d, e))
    (λ e. rw (a, b, c, d, e)))
    (λ d. rw (a, b, c, d)))
    (λ c. rw (a, b, c)))
    (λ b. rw (a, b)))
    (λ a. rw a)

-- what opens has a size that is taken, and work enough
pub opened_sized : (C : Container) (f : List ℕ) (work : ℕ) (tail : Tail) (vs : List ℕ) → opened C f work tail ≡ accepted vs → (fits f && work_suffices f work) ≡ true
unfolding opened
opened_sized C f work tail vs q =
    split_b (fits f)
    (λ a. split_b (work_suffices f work)
    (λ b. rw (a, b))
    (λ b. let z : refused 2 [] ≡ accepted vs = rw (a, b) at q in no_answer cc))
    (λ a. let z : refused 1 [] ≡ accepted vs = rw a at q in no_answer cc)

-- a refusal is told by a number and values
pub record Refusing (a : Answer) : Type 0 where
  pub number : ℕ
  pub values : List ℕ
  pub is : a ≡ refused number values

pub refusing : (x : Refusal) → Refusing (told_refusal x)
refusing FileLong = record { number = 1; values = []; is = refl }
refusing WorkShort = record { number = 2; values = []; is = refl }
refusing NotBtsnoop = record { number = 3; values = []; is = refl }
refusing (Datalink n) = record { number = 4; values = n ∷ []; is = refl }
refusing NotPcap = record { number = 21; values = []; is = refl }
refusing (LinkType n) = record { number = 22; values = n ∷ []; is = refl }
refusing (Truncated n) = record { number = 5; values = n ∷ []; is = refl }
