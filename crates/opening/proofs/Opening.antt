-- Each refusal, and what is read where none is met.
use Rattle.std.specs.Prelude.{⊤, Result, Ok, Err}
use Prim.Native.Nat.{ℕ, ◌*◌, ◌<◌, ◌≤◌}
use mathlib.Core.Path.{◌≡◌, refl, ◌∙◌}
use mathlib.Core.Logic.{inl, inr, ⊎_elim}
use mathlib.Core.List.{List}
use native.Mathlib.Omega.{arith}
use lib.ListN.{length}
use borrow.Author.Tests.{le-leb, lt-leb}
use Rattle.laws.proofs.Choice.{no_way}
use Rattle.trace.specs.Formats.{container_of, format_of}
use Rattle.trace.specs.Headers.{headed, HeaderIs}
use Rattle.trace.proofs.Formats.{lawful, head_of, tail_of_law}
use Rattle.trace.proofs.Headers.{header_as}
use Rattle.trace.specs.declared.Container.{Container}
use Rattle.trace.specs.declared.Format.{Format}
use Rattle.trace.specs.declared.Trace.{Trace}
use Rattle.trace.specs.declared.Refusal.{Refusal}
use Rattle.trace.specs.declared.Refusal.TheVariants.{FileLong, WorkShort}
use Rattle.packets.specs.Adding.{Which, ReadPre}
use Rattle.outcome.specs.Import.{ends_well, fits, work_suffices}
use Rattle.outcome.specs.Import as import
use Rattle.opening.specs.Opening.{ends, heads, opened, Sized, Unsized, SizesChecked, Opens, HeaderOpens, ends_by, RecordsOpen}
use Rattle.opening.specs.declared.Opened.{Opened}

no_read : {G : Type 0} → ◌≡◌ {A = ℕ} 0 1 → G
no_read z = absurd (omega arith)

-- a file's header says how it ends
ends_by_law : (b : Container) (f : List ℕ) (tail : import.Tail) → ends_by (format_of b f) f tail ≡ ends (container_of b) f tail
unfolding ends ends_well
ends_by_law b f import.strict = rw (tail_of_law b f)
ends_by_law b f import.tolerant = refl

-- ---- from the header on

module _ (b : Container) (f : List ℕ) (h : Result Format Refusal) (m : HeaderIs b f h) where
  header_pre : (w : List ℕ) → Sized f w → (g : Format) → h ≡ Ok g → ReadPre g f w
  header_pre w size g q =
      let k = header_as b f h (Ok g) m q in
      let l : (container_of b).head ≤ length f = (lawful b).long f k.0 in
      record { some = rw (k.2, head_of b f) l; small = size.small; room = size.room }

  module _ (tail : import.Tail) (only : Which) where
    header_refused : (x : Refusal) → h ≡ Err x → (u : List ℕ) → HeaderOpens b f tail only (Err x) u
    unfolding heads
    header_refused x q u = record { answers = header_as b f h (Err x) m q (ends (container_of b) f tail); read = λ t e. no_read cc }

    header_read : (t : Trace) → t.file.now ≡ f → h ≡ Ok t.format → (r : Result Opened Refusal) (u : List ℕ) → RecordsOpen t tail only r u → HeaderOpens b f tail only r u
    unfolding heads headed
    header_read t s q r u o =
        let k = header_as b f h (Ok t.format) m q in
        record {
          answers = rw (k.0, k.1) (o.answers ∙ rw (s, k.2) (ends_by_law b f tail));
          read = λ x e. let y = o.read x e in record { file = rw y.0 s; says = rw y.0 k.2; reads = rw (y.0, ← s) y.1 };
        }

-- ---- the call

module _ (f w : List ℕ) where
  pub sizes_long : 1048576 < length f → SizesChecked f w (Err FileLong)
  sizes_long h = inl (h, refl)

  pub sizes_short : length f ≤ 1048576 → length w < 8 * length f → SizesChecked f w (Err WorkShort)
  sizes_short h g = inr (h, g, refl)

  pub sizes_fit : length f ≤ 1048576 → 8 * length f ≤ length w → SizesChecked f w (Ok tt)
  sizes_fit h g = record { small = h; room = g }

  pub unsized : (r : Result ⊤ Refusal) → SizesChecked f w r → (x : Refusal) → r ≡ Err x → Unsized f w x
  unsized r s x e = rw e at s

  pub sized : (r : Result ⊤ Refusal) → SizesChecked f w r → (u : ⊤) → r ≡ Ok u → Sized f w
  sized r s u e = rw e at s

module _ (b : Container) (f w : List ℕ) (tail : import.Tail) (only : Which) where
  open_long : 1048576 < length f → Opens b f w tail only (Err FileLong) w
  unfolding opened fits
  open_long h = record { answers = rw (lt-leb (length f) 1048576 h); read = λ t e. no_read cc; spared = λ e. refl }

  open_short : length f ≤ 1048576 → length w < 8 * length f → Opens b f w tail only (Err WorkShort) w
  unfolding opened fits work_suffices
  open_short h g = record {
    answers = rw (le-leb (length f) 1048576 h, lt-leb (8 * length f) (length w) g);
    read = λ t e. no_read cc;
    spared = λ e. refl;
  }

  pub open_unsized : (x : Refusal) → Unsized f w x → Opens b f w tail only (Err x) w
  open_unsized x s = ⊎_elim (λ l. rw l.1 (open_long l.0)) (λ l. rw l.2 (open_short l.0 l.1)) s

  open_read : Sized f w → (r : Result Opened Refusal) (w' : List ℕ) → HeaderOpens b f tail only r w' → Opens b f w tail only r w'
  unfolding opened fits work_suffices
  open_read s r w' m = record {
    answers = rw (le-leb (length f) 1048576 s.small, le-leb (8 * length f) (length w) s.room) m.answers;
    read = m.read;
    spared = λ e. no_way (rw (le-leb (length f) 1048576 s.small, le-leb (8 * length f) (length w) s.room)) e;
  }

module _ (b : Container) (f w : List ℕ) (s : Sized f w) (k : Result Format Refusal) (m : HeaderIs b f k) where
  pub sized_pre : (x : Format) → k ≡ Ok x → ReadPre x f w
  sized_pre x q = header_pre b f k m w s x q

  module _ (tail : import.Tail) (only : Which) where
    pub sized_refused : (x : Refusal) → k ≡ Err x → Opens b f w tail only (Err x) w
    sized_refused x q = open_read b f w tail only s (Err x) w (header_refused b f k m tail only x q w)

    pub sized_read : (t : Trace) → t.file.now ≡ f → k ≡ Ok t.format → (r : Result Opened Refusal) (u : List ℕ) → RecordsOpen t tail only r u → Opens b f w tail only r u
    sized_read t e q r u o = open_read b f w tail only s r u (header_read b f k m tail only t e q r u o)
