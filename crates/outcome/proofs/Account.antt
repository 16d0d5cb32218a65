-- The four numbers of an accepted file add up to the information bytes of the pieces taken in; and the bytes written are those in spans, and 14 for each span.
use Prim.Native.Nat.{ℕ, ◌+◌, ◌*◌}
use mathlib.Core.Path.{◌≡◌, refl}
use mathlib.Core.List.{List}
use mathlib.Core.Option.{Option, none, some}
use native.Mathlib.Omega.{arith}
use lib.ListN.{length}
use Rattle.laws.proofs.Choice.{split_b}
use Rattle.laws.specs.Totals.{total}
use Rattle.items.specs.Items.{span_list}
use Rattle.container.specs.Container.{Container, tail_offset}
use Rattle.rfcomm.specs.Pieces.{Piece}
use Rattle.spans.specs.Spans.{spans, on_dlci}
use Rattle.spans.specs.Account.{in_spans, account_values, taken_in}
use Rattle.spans.proofs.Account.{conserved, list_length}
use Rattle.outcome.specs.Import.{Options, Finding, Found, found, missing, chosen, listed, file_wrong, file_pieces, read, ends_well, outcome}

-- what is said of a finding, from the pieces it was made of; of a refusal nothing
pub record Accounted (ps : List Piece) (x : Finding) : Type 0 where
  pub sum : total (λ n. n) (account_values x.account) ≡ taken_in (on_dlci x.dlci ps)
  pub written : length (span_list x.spans) ≡ x.account.in_spans + 14 * length x.spans

abbrev Told : List Piece → Found → Type 0
Told ps (found x) = Accounted ps x
Told ps (missing n vs) = n ≡ n

told_listed_law : (ps : List Piece) (wrongs : ℕ → ℕ) (tail : ℕ) (d : Option ℕ) → Told ps (listed ps wrongs tail d)
unfolding listed total in_spans
told_listed_law ps wrongs tail none = refl
told_listed_law ps wrongs tail (some d) = record { sum = omega (arith, conserved (on_dlci d ps)); written = omega (arith, list_length (spans (on_dlci d ps))) }

module _ (C : Container) (f : List ℕ) (o : Options) where
  abbrev ps : List Piece
  ps = file_pieces C o.judging f

  told_outcome : Told ps (outcome C f o)
  unfolding outcome read
  told_outcome =
      split_b (C.is_file f)
      (λ e. rw e
      (split_b (C.is_taken (C.link_type f))
      (λ g. rw g
      (split_b (ends_well C o.tail f)
      (λ h. rw h (told_listed_law ps (file_wrong C o.judging f) (tail_offset C f) (chosen o.channel ps)))
      (λ h. rw h)))
      (λ g. rw g)))
      (λ e. rw e)

  -- for every file that is accepted
  pub accounted : (x : Finding) → outcome C f o ≡ found x → Accounted ps x
  accounted x e = rw e at told_outcome
