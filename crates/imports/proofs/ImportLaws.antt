-- From the code's answer to what a caller gets.
use Prim.Native.Nat.{ℕ}
use mathlib.Core.Path.{◌≡◌, subst}
use mathlib.Core.List.{List, [], ◌∷◌}
use lib.ListN.{length}
use Rattle.trace.specs.Formats.{container_of}
use Rattle.trace.specs.declared.Container.{Container}
use Rattle.trace.specs.declared.Container.TheVariants.{Btsnoop}
use Rattle.outcome.specs.Import.{Options, imported}
use Rattle.options.specs.Numbers.{container_in}
use Rattle.options.proofs.Numbers.{container_two}
use Rattle.capture.specs.Options.{options_of}
use Rattle.capture.specs.declared.Options as code
use Rattle.std.specs.Prelude.{Result}
use Rattle.capture.specs.Calls.{told_imported, Imported, Imports, told_sizing, Sizing}
use Rattle.capture.specs.declared.FindError.{FindError}
use Rattle.capture.specs.declared.Sizes.{Sizes}
use Rattle.telling.specs.Telling.{Told}
use Rattle.telling.proofs.TellLaws.{calls}
use Rattle.imports.specs.Imports.{ImportCalls, SizesCalls}
use Rattle.imports.specs.Numbers.{options_in, options_number, AsOptions}

-- ---- the calls

told :
    (b : Container) (f w : List ℕ) (o : Options) (out : List ℕ) (i : Imported) (w' out' : List ℕ) → Imports b f w o out i w' out' →
    (v : List ℕ) (r : ℕ) (v' : List ℕ) → Told (told_imported i) v r v' → ImportCalls b f w out o v r w' out' v'
told b f w o out i w' out' m v r v' t = record {
  calls = calls (imported (container_of b) f (length w) o) out (told_imported i) out' m.meets v r v' t;
  spared = m.spared;
  cut = rw m.meets.answers at m.cut;
}

-- by a list of options
pub import_calls :
    (l : List ℕ) (o : code.Options) → AsOptions l o → (f w out : List ℕ) (i : Imported) (w' out' : List ℕ) → Imports o.container f w (options_of o) out i w' out' →
    (v : List ℕ) (r : ℕ) (v' : List ℕ) → Told (told_imported i) v r v' → ImportCalls (container_in l) f w out (options_in l) v r w' out' v'
import_calls l o a f w out i w' out' m v r v' t =
    subst (λ (b : Container). ImportCalls b f w out (options_in l) v r w' out' v') a.container
    (subst (λ (z : Options). ImportCalls o.container f w out z v r w' out' v') a.chosen (told o.container f w (options_of o) out i w' out' m v r v' t))

-- by two numbers
pub import_two :
    (channel tolerant : ℕ) (l : List ℕ) → l ≡ channel ∷ tolerant ∷ [] → (f w out v : List ℕ) (r : ℕ) (w' out' v' : List ℕ) → ImportCalls (container_in l) f w out (options_in l) v r w' out' v' →
    ImportCalls Btsnoop f w out (options_number channel tolerant) v r w' out' v'
import_two channel tolerant l e f w out v r w' out' v' m =
    subst (λ (b : Container). ImportCalls b f w out (options_number channel tolerant) v r w' out' v') (container_two channel tolerant)
    (subst (λ (k : List ℕ). ImportCalls (container_in k) f w out (options_in k) v r w' out' v') e m)

-- ---- sizes

sizing :
    (b : Container) (f w : List ℕ) (o : Options) (i : Result Sizes FindError) (w' : List ℕ) → Sizing b f w o i w' → (v : List ℕ) (r : ℕ) (v' : List ℕ) → Told (told_sizing i) v r v' → SizesCalls b f w o v r w' v'
sizing b f w o i w' m v r v' t = record {
  tells = rw m.answers at t;
  spared = m.spared;
  foretells = rw m.answers at m.foretells;
  cut = rw m.answers at m.cut;
}

pub sizes_calls :
    (l : List ℕ) (o : code.Options) → AsOptions l o → (f w : List ℕ) (i : Result Sizes FindError) (w' : List ℕ) → Sizing o.container f w (options_of o) i w' →
    (v : List ℕ) (r : ℕ) (v' : List ℕ) → Told (told_sizing i) v r v' → SizesCalls (container_in l) f w (options_in l) v r w' v'
sizes_calls l o a f w i w' m v r v' t =
    subst (λ (b : Container). SizesCalls b f w (options_in l) v r w' v') a.container
    (subst (λ (z : Options). SizesCalls o.container f w z v r w' v') a.chosen (sizing o.container f w (options_of o) i w' m v r v' t))
