-- The call is refused exactly where import is by 1 to 5 (pcap: 21 and 22 for 3 and 4), in the same words; elsewhere import gives its spans, or is refused by 6 or 7.
use Prim.Native.Nat.{ℕ}
use mathlib.Core.Path.{◌≡◌, refl, ◌∙◌}
use mathlib.Core.List.{List}
use Rattle.laws.proofs.Choice.{no_way}
use Rattle.laws.specs.Answers.{Answer, accepted, refused, refuses}
use Rattle.trace.specs.Formats.{container_of, format_of}
use Rattle.trace.specs.declared.Container.{Container}
use Rattle.outcome.specs.Import.{Options, read, given, imported}
use Rattle.opening.specs.Opening.{opened, or_given}
use Rattle.opening.proofs.AsImport.{import_opened}
use Rattle.signs.specs.Gaps.{gaps}
use Rattle.gaps.specs.Calls.{or_values, gaps_of}

was_refused : (a : Answer) (ws : List ℕ) (n : ℕ) (vs : List ℕ) → or_values a ws ≡ refused n vs → a ≡ refused n vs
unfolding or_values
was_refused (accepted us) ws n vs e = no_way refl cc
was_refused (refused m us) ws n vs e = e

module _ (b : Container) (f : List ℕ) (work : ℕ) (o : Options) where
  pub refused_as_import : (n : ℕ) (vs : List ℕ) → gaps_of b f work o.tail ≡ refused n vs → imported (container_of b) f work o ≡ refuses n vs
  unfolding gaps_of or_given
  refused_as_import n vs e = import_opened (container_of b) f work o ∙ rw (was_refused (opened (container_of b) f work o.tail) (gaps (format_of b f) f) n vs e)

  pub read_as_import : (vs : List ℕ) → gaps_of b f work o.tail ≡ accepted vs → imported (container_of b) f work o ≡ given (read (container_of b) f o)
  unfolding gaps_of or_given or_values
  read_as_import vs e = import_opened (container_of b) f work o ∙ go (opened (container_of b) f work o.tail) e where
    go : (a : Answer) → or_values a (gaps (format_of b f) f) ≡ accepted vs → or_given a (given (read (container_of b) f o)) ≡ given (read (container_of b) f o)
    go (accepted us) q = refl
    go (refused m us) q = no_way refl cc
