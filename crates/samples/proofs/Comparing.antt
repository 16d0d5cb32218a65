-- An output compared: what was written, and then what stood there before.
use Prim.Native.Nat.{ℕ, ◌≤◌}
use mathlib.Core.Path.{◌≡◌, sym, ap, ◌∙◌}
use mathlib.Core.Bool.{Bool, true}
use mathlib.Core.List.{List}
use lib.ListN.{length, get_or, take}
use borrow.Author.Tests.{lt-ltb, le-ltb}
use Rattle.std.proofs.Common.{nat_eq}
use Rattle.std.proofs.lemmas.List.{get_or-take}
use Rattle.std.specs.Cmp.Lexicographic.{same_text}
use Rattle.std.specs.List.{starts_with}
use Rattle.laws.proofs.Choice.{split≤}
use Rattle.samples.specs.Samples.{Untouched, output_of, Compared}

module _ (w e : List ℕ) (b : Bool) (v : b ≡ starts_with nat_eq e w) (t : b ≡ true) where
  starts : w ≡ take (length w) e
  starts = same_text w (take (length w) e) (sym t ∙ v)

  pub compared_rest : length w ≤ length e → (r : Bool) → (r ≡ true → Untouched (length w) e) → Compared w e r
  unfolding output_of
  compared_rest fits r rest = record {
    holds = λ k. record {
      fits = fits;
      bytes = λ j l. split≤ (length w) j
          (λ h. rw (le-ltb j (length w) h) (rest k j l h))
          (λ h. rw (lt-ltb j (length w) h) (sym (get_or-take (length w) e j 0 h) ∙ ap (λ (x : List ℕ). get_or x j 0) (sym starts)));
    };
  }
