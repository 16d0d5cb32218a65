-- What a caller gets of an import with a lent list of stretches.
use Prim.Native.Nat.{ℕ, ◌≤◌}
use mathlib.Core.Path.{◌≡◌, ap, subst, sym, ◌∙◌}
use mathlib.Core.Bool.{true, false}
use mathlib.Core.List.{List, [], ◌∷◌}
use lib.ListN.{length}
use Rattle.laws.specs.Answers.{Answer, accepted, refused, answer}
use Rattle.laws.proofs.Choice.{split_b, no_way}
use Rattle.trace.specs.Formats.{container_of}
use Rattle.trace.specs.declared.Container.{Container}
use Rattle.trace.specs.declared.Container.TheVariants.{Btsnoop}
use Rattle.options.specs.Numbers.{container_in}
use Rattle.options.proofs.Numbers.{container_two}
use Rattle.outcome.specs.Import.{Options, fits, work_suffices, places_suffice, imported, imported_in}
use Rattle.outcome.proofs.Import.{same_in}
use Rattle.places.specs.Places.{suffices, file_stretches, places_after, listed_by, ToldIn}
use Rattle.stretches.specs.Filled.{filled, stretches_to}
use Rattle.stretches.proofs.Filling.{filled_is, length_to}
use Rattle.stretches.specs.declared.Stretch.{Stretch}
use Rattle.imports.specs.Imports.{ImportCalls}
use Rattle.imports.specs.Numbers.{options_in, options_number}
use Rattle.places.specs.Stretches.{StretchCalls}

-- the places filled from a list in words are those after the answer
places_are : (a : Answer) (l s : List Stretch) (w : List ℕ) (n : ℕ) → n ≤ length s → stretches_to w n ≡ listed_by a l → filled w n s ≡ places_after a l s
unfolding listed_by places_after
places_are (accepted vs) l s w n h e =
    let z : n ≡ length l = sym (length_to w n) ∙ ap length e in
    filled_is w n s h ∙ rw (e, z)
places_are (refused m vs) l s w n h e =
    let z : n ≡ 0 = sym (length_to w n) ∙ ap length e in
    rw z

pub stretch_calls :
    (b : Container) (f w : List ℕ) (s : List Stretch) (out : List ℕ) (o : Options) (v : List ℕ) (r listed : ℕ) (w' out' v' : List ℕ) → ToldIn b f w (length s) out o v r listed w' out' v' →
    (s' : List Stretch) → s' ≡ filled w' listed s → StretchCalls b f w s out o v r w' s' out' v'
stretch_calls b f w s out o v r listed w' out' v' m s' e = record {
  calls = m.calls;
  spared = m.spared;
  places = e ∙ places_are (answer (imported_in (container_of b) f (length w) (length s) o) (length out)) (file_stretches b f o) s w' listed m.few m.list;
  cut = m.cut;
}

-- by two numbers
pub stretch_two :
    (channel tolerant : ℕ) (l : List ℕ) → l ≡ channel ∷ tolerant ∷ [] → (f w : List ℕ) (s : List Stretch) (out v : List ℕ) (r : ℕ) (w' : List ℕ) (s' : List Stretch) (out' v' : List ℕ) →
    StretchCalls (container_in l) f w s out (options_in l) v r w' s' out' v' → StretchCalls Btsnoop f w s out (options_number channel tolerant) v r w' s' out' v'
stretch_two channel tolerant l e f w s out v r w' s' out' v' m =
    subst (λ (b : Container). StretchCalls b f w s out (options_number channel tolerant) v r w' s' out' v') (container_two channel tolerant)
    (subst (λ (k : List ℕ). StretchCalls (container_in k) f w s out (options_in k) v r w' s' out' v') e m)

-- After 1 and 2 the places are as they were.
pub places_spared :
    (b : Container) (f w : List ℕ) (s : List Stretch) (out : List ℕ) (o : Options) (v : List ℕ) (r : ℕ) (w' : List ℕ) (s' : List Stretch) (out' v' : List ℕ) →
    suffices f (length w) (length s) ≡ false → StretchCalls b f w s out o v r w' s' out' v' → s' ≡ s
unfolding suffices imported_in imported answer places_after
places_spared b f w s out o v r w' s' out' v' h m =
    m.places ∙ split_b (fits f)
    (λ a. split_b (places_suffice f (length s))
    (λ c. split_b (work_suffices f (length w)) (λ d. no_way (rw (a, c, d)) h) (λ d. rw (a, c, d)))
    (λ c. rw (a, c)))
    (λ a. rw a)

-- With enough places, on every input, it is what the call without a list promises.
pub as_import :
    (b : Container) (f w : List ℕ) (s : List Stretch) (out : List ℕ) (o : Options) (v : List ℕ) (r : ℕ) (w' : List ℕ) (s' : List Stretch) (out' v' : List ℕ) →
    places_suffice f (length s) ≡ true → StretchCalls b f w s out o v r w' s' out' v' → ImportCalls b f w out o v r w' out' v'
unfolding suffices
as_import b f w s out o v r w' s' out' v' h m =
    let e : imported_in (container_of b) f (length w) (length s) o ≡ imported (container_of b) f (length w) o = same_in (container_of b) f (length w) (length s) o h in
    record {
      calls = rw e at m.calls;
      spared = λ k. m.spared (split_b (fits f) (λ a. rw (a, h) (split_b (work_suffices f (length w)) (λ c. no_way (rw (a, c)) k) (λ c. rw c))) (λ a. rw a));
      cut = rw e at (m.cut h);
    }
