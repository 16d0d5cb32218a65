-- Each refusal of import with places, and what it gives where none is met.
use Prim.Native.Nat.{ℕ, ◌*◌, ◌/◌, ◌<◌, ◌≤◌}
use mathlib.Core.Path.{◌≡◌, refl, subst, ◌∙◌}
use mathlib.Core.Bool.{true}
use mathlib.Core.Logic.{⊎_elim}
use mathlib.Core.List.{List, []}
use native.Mathlib.Omega.{arith}
use lib.ListN.{length}
use borrow.Author.Tests.{le-leb, lt-leb}
use Rattle.laws.proofs.Choice.{split_b, no_way}
use Rattle.laws.specs.Answers.{refused, Outcome, Meets}
use Rattle.laws.proofs.Answers.{meets_refused, meets_as}
use Rattle.trace.specs.Formats.{container_of}
use Rattle.trace.specs.Headers.{told_refusal}
use Rattle.trace.proofs.Formats.{lawful}
use Rattle.trace.specs.declared.Container.{Container}
use Rattle.trace.specs.declared.Refusal.{Refusal}
use Rattle.trace.specs.declared.Refusal.TheVariants.{FileLong, WorkShort, NotBtsnoop, Datalink, NotPcap, LinkType, Truncated}
use Rattle.options.specs.Numbers.{container_in}
use Rattle.outcome.specs.Import.{Options, file_pieces, fits, work_suffices, places_suffice, imported, imported_in}
use Rattle.outcome.proofs.Import.{same_in}
use Rattle.opening.specs.Opening.{Sized, Unsized}
use Rattle.cut.specs.Claim.{CutClaim}
use Rattle.cut.proofs.Theorem.{cut_claim}
use Rattle.split.specs.Rows.{Laid}
use Rattle.split.specs.declared.Plan.{Plan}
use Rattle.streams.specs.Streams.{plan_of, Leaves}
use Rattle.capture.specs.Options.{options_of}
use Rattle.capture.specs.declared.Options as code
use Rattle.std.specs.Prelude.{Result, Ok, Err, IsErrAnd}
use Rattle.capture.specs.Calls.{told_imported, Imported, Imports}
use Rattle.capture.specs.declared.Summary.{Summary}
use Rattle.capture.specs.declared.ImportError.{ImportError}
use Rattle.capture.specs.declared.ImportError.TheVariants.{Refused, NoStream, OutShort}
use Rattle.stretches.specs.Filled.{stretches_to}
use Rattle.stretches.specs.Listing.{SpreadPre, OpenListed}
use Rattle.stretches.specs.declared.Stretch.{Stretch}
use Rattle.telling.specs.Telling.{Told}
use Rattle.telling.proofs.TellLaws.{calls}
use Rattle.imports.specs.Numbers.{options_in, AsOptions}
use Rattle.places.specs.Places.{suffices, open_on, file_stretches, listed_by, summed, listed_of, ImportsIn, ToldIn}
use Rattle.places.specs.declared.Placed.{Placed}

-- a refusal lists nothing

refusal_lists : (x : Refusal) (l : List Stretch) → [] ≡ listed_by (told_refusal x) l
unfolding listed_by
refusal_lists FileLong l = refl
refusal_lists WorkShort l = refl
refusal_lists NotBtsnoop l = refl
refusal_lists (Datalink n) l = refl
refusal_lists NotPcap l = refl
refusal_lists (LinkType n) l = refl
refusal_lists (Truncated at) l = refl

error_lists : (e : ImportError) (l : List Stretch) → [] ≡ listed_by (told_imported (Err e)) l
unfolding listed_by
error_lists (Refused x) l = refusal_lists x l
error_lists NoStream l = refl
error_lists (OutShort n) l = refl

module _ (b : Container) (f w : List ℕ) (places : ℕ) (o : Options) (out : List ℕ) where
  abbrev O : Outcome
  O = imported_in (container_of b) f (length w) places o

  cut_in : (r : Imported) (out' : List ℕ) → Meets O out (told_imported r) out' → places_suffice f places ≡ true → CutClaim (container_of b) f (length w) o out (told_imported r) out'
  cut_in r out' m h = cut_claim (lawful b) f (length w) o out (told_imported r) out' (rw (same_in (container_of b) f (length w) places o h) at m)

  refused_in : (r : Imported) (n : ℕ) → told_imported r ≡ refused n [] → Meets O out (told_imported r) out → ImportsIn b f w places o out r 0 w out
  unfolding stretches_to listed_by
  refused_in r n e m = record { meets = m; spared = λ e. refl; list = rw e; few = omega arith; cut = cut_in r out m }

  in_long : 1048576 < length f → ImportsIn b f w places o out (Err (Refused FileLong)) 0 w out
  unfolding imported_in fits
  in_long h = refused_in (Err (Refused FileLong)) 1 refl (meets_refused O out 1 [] (rw (lt-leb (length f) 1048576 h)))

  in_short : length f ≤ 1048576 → length w < 8 * length f → ImportsIn b f w places o out (Err (Refused WorkShort)) 0 w out
  unfolding imported_in imported fits work_suffices
  in_short h g = refused_in (Err (Refused WorkShort)) 2 refl (meets_refused O out 2 [] (split_b (places_suffice f places) (λ e. rw (le-leb (length f) 1048576 h, lt-leb (8 * length f) (length w) g, e)) (λ e. rw (le-leb (length f) 1048576 h, lt-leb (8 * length f) (length w) g, e))))

  pub in_unsized : (x : Refusal) → Unsized f w x → ImportsIn b f w places o out (Err (Refused x)) 0 w out
  in_unsized x s = ⊎_elim (λ l. rw l.1 (in_long l.0)) (λ l. rw l.2 (in_short l.0 l.1)) s

  pub in_few : length f ≤ 1048576 → places < length f / 24 → ImportsIn b f w places o out (Err (Refused WorkShort)) 0 w out
  unfolding imported_in fits places_suffice
  in_few h g = refused_in (Err (Refused WorkShort)) 2 refl (meets_refused O out 2 [] (rw (le-leb (length f) 1048576 h, lt-leb (length f / 24) places g)))

  -- after an import
  module _ (size : Sized f w) (k : length f / 24 ≤ places) (r : Imported) (v out' : List ℕ) (m : Imports b f w o out r v out') where
    in_met : (listed : ℕ) (w' : List ℕ) → stretches_to w' listed ≡ listed_by (told_imported r) (file_stretches b f o) → listed ≤ length f / 24 → ImportsIn b f w places o out r listed w' out'
    unfolding fits work_suffices places_suffice suffices
    in_met listed w' l n =
        let q : places_suffice f places ≡ true = le-leb (length f / 24) places k in
        let s : suffices f (length w) places ≡ true = rw (le-leb (length f) 1048576 size.small, le-leb (8 * length f) (length w) size.room, le-leb (length f / 24) places k) in
        let p = meets_as O (imported (container_of b) f (length w) o) out (same_in (container_of b) f (length w) places o q) m.meets in
        record { meets = p; spared = λ e. no_way s e; list = l; few = omega (arith, n); cut = cut_in r out' p }

    -- no spans
    pub in_none : (e : ImportError) → r ≡ Err e → (z : Result Placed ImportError) → IsErrAnd z (λ y. y ≡ e) → ImportsIn b f w places o out (summed z) (listed_of z) v out'
    unfolding stretches_to
    in_none e q (Ok p) i = absurd i
    in_none e q (Err y) i = rw (i, ← q) (in_met 0 v (rw q (error_lists e (file_stretches b f o))) (omega arith))

    module _ (s : Summary) (q : r ≡ Ok s) where
      left : Leaves f (file_pieces (container_of b) o.judging f) o.channel s.pieces v s.stream.dlci
      left = m.left.at s q

      pub in_plan : (length f / 4 ≤ 1048576) × (s.pieces ≤ 1048576)
      in_plan = (omega (arith, size.small), omega (arith, size.small, left.kept.few))

      module _ (p : Plan) (ep : p ≡ plan_of (length f / 4) s.pieces s.stream.dlci) where
        laid : Laid f v p
        laid = rw ep left.kept.laid

        pub in_room : SpreadPre v p
        unfolding plan_of
        in_room = record {
          room = record {
            low = rw ep (omega (arith, left.kept.few));
            after = rw ep (omega arith);
            rows = laid.rows;
            chain = laid.chain;
            ends = laid.ends;
            words = omega (arith, laid.area, laid.room);
            many = laid.many;
          };
          linked = laid.linked;
        }

        pub in_listed : (u : List ℕ) (listed : ℕ) → OpenListed v p u listed → ImportsIn b f w places o out (Ok s) listed u out'
        unfolding plan_of listed_by file_stretches open_on
        in_listed u listed l =
            let z : p.n ≡ s.pieces = rw ep in
            rw (← q) (in_met listed u (l.list f laid (rw ep left.kept.told) ∙ rw (ep, q, left.is, left.pieces)) (omega (arith, l.few, left.kept.few)))

told :
    (b : Container) (f w : List ℕ) (places : ℕ) (o : Options) (out : List ℕ) (i : Imported) (listed : ℕ) (w' out' : List ℕ) → ImportsIn b f w places o out i listed w' out' →
    (v : List ℕ) (r : ℕ) (v' : List ℕ) → Told (told_imported i) v r v' → ToldIn b f w places out o v r listed w' out' v'
told b f w places o out i listed w' out' m v r v' t = record {
  calls = calls (imported_in (container_of b) f (length w) places o) out (told_imported i) out' m.meets v r v' t;
  spared = m.spared;
  list = rw m.meets.answers at m.list;
  few = m.few;
  cut = λ h. rw m.meets.answers at (m.cut h);
}

-- by a list of options
told_in :
    (l : List ℕ) (o : code.Options) → AsOptions l o → (f w : List ℕ) (places : ℕ) (out : List ℕ) (i : Imported) (listed : ℕ) (w' out' : List ℕ) → ImportsIn o.container f w places (options_of o) out i listed w' out' →
    (v : List ℕ) (r : ℕ) (v' : List ℕ) → Told (told_imported i) v r v' → ToldIn (container_in l) f w places out (options_in l) v r listed w' out' v'
told_in l o a f w places out i listed w' out' m v r v' t =
    subst (λ (b : Container). ToldIn b f w places out (options_in l) v r listed w' out' v') a.container
    (subst (λ (z : Options). ToldIn o.container f w places out z v r listed w' out' v') a.chosen (told o.container f w places (options_of o) out i listed w' out' m v r v' t))

-- what was given is told, or why nothing was
module _ (l : List ℕ) (o : code.Options) (a : AsOptions l o) (f w : List ℕ) (places : ℕ) (out : List ℕ) (x : Result Placed ImportError) (w' out' : List ℕ) (m : ImportsIn o.container f w places (options_of o) out (summed x) (listed_of x) w' out') (v : List ℕ) (r : ℕ) (v' : List ℕ) where
  pub told_placed : (p : Placed) → x ≡ Ok p → Told (told_imported (Ok p.summary)) v r v' → ToldIn (container_in l) f w places out (options_in l) v r p.listed w' out' v'
  told_placed p e t = told_in l o a f w places out (Ok p.summary) p.listed w' out' (rw e at m) v r v' t

  pub told_error : (y : ImportError) → x ≡ Err y → Told (told_imported (Err y)) v r v' → ToldIn (container_in l) f w places out (options_in l) v r 0 w' out' v'
  told_error y e t = told_in l o a f w places out (Err y) 0 w' out' (rw e at m) v r v' t
