-- From the walks to the call: the signs found, and each refusal.
use Rattle.std.specs.Prelude.{Result, Ok, Err, None}
use Prim.Native.Nat.{ℕ}
use mathlib.Core.Path.{◌≡◌, refl, sym, ◌∙◌}
use mathlib.Core.List.{List, [], ◌++◌}
use lib.ListN.{length}
use Rattle.laws.proofs.Choice.{no_way}
use Rattle.laws.specs.Answers.{accepted}
use Rattle.trace.specs.Formats.{container_of, format_of}
use Rattle.trace.specs.Headers.{told_refusal}
use Rattle.trace.specs.declared.Container.{Container}
use Rattle.trace.specs.declared.Format.{Format}
use Rattle.trace.specs.declared.Refusal.{Refusal}
use Rattle.trace.specs.declared.Refusal.TheVariants.{FileLong, WorkShort, NotBtsnoop, Datalink, NotPcap, LinkType, Truncated}
use Rattle.packets.specs.PacketTable.{Read}
use Rattle.packets.specs.Adding.{asked}
use Rattle.outcome.specs.Import.{Tail}
use Rattle.opening.specs.Opening.{opened, Opens}
use Rattle.opening.proofs.AsImport.{opened_sized}
use Rattle.opening.specs.declared.Opened.{Opened}
use Rattle.signs.specs.Places.{packets_at}
use Rattle.signs.specs.Partial.{left_open}
use Rattle.signs.specs.Gaps.{record_gaps, packet_gaps, gaps}
use Rattle.signs.specs.Counting.{Counted}
use Rattle.signs.specs.Following.{Followed}
use Rattle.signs.proofs.Counting.{counted_gap}
use Rattle.signs.proofs.PlaceOrder.{places_many}
use Rattle.signs.specs.declared.Gap.{Gap}
use Rattle.recorded.specs.Looking.{recorded_of}
use Rattle.recorded.specs.declared.Recorded.{Recorded}
use Rattle.following.specs.Passing.{FollowedTo}
use Rattle.following.specs.declared.Partial.{Partial}
use Rattle.gaps.specs.Calls.{or_values, gaps_of, signs_of, Finds}
use Rattle.gaps.specs.declared.Signs.{Signs}

-- ---- the walks

pub find_followed : (g : Format) (f : List ℕ) (count : ℕ) (u : List ℕ) (p : Partial) → FollowedTo g f count u p → Followed g f u (length (packets_at g f))
find_followed g f count u p t = rw (places_many g f u count t.followed.list) t.followed

join : {a b c d : List ℕ} → a ≡ b → c ≡ d → a ++ c ≡ b ++ d
join e h = rw (e, h)

pub find_all :
    (g : Format) (f : List ℕ) (r : Recorded) → recorded_of r ≡ record_gaps g f → (count : ℕ) (u : List ℕ) (p : Partial) → FollowedTo g f count u p →
    (l : Gap) → Counted (left_open (packets_at g f)) l → signs_of (record { recorded = r; partial = p; left = l }) ≡ gaps g f
unfolding gaps packet_gaps
find_all g f r er count u p t l c = join er (join t.stray (join t.given (counted_gap l (left_open (packets_at g f)) c)))

-- ---- the call

-- a refusal stays
stays : (y : Refusal) (ws : List ℕ) → told_refusal y ≡ or_values (told_refusal y) ws
unfolding or_values
stays FileLong ws = refl
stays WorkShort ws = refl
stays NotBtsnoop ws = refl
stays (Datalink n) ws = refl
stays NotPcap ws = refl
stays (LinkType n) ws = refl
stays (Truncated n) ws = refl

-- a trace opened so
module _ (b : Container) (f w : List ℕ) (tail : Tail) (x : Result Opened Refusal) (v : List ℕ) (op : Opens b f w tail None x v) where
  pub find_refused : (y : Refusal) → x ≡ Err y → Finds b f w tail (Err y) v
  unfolding gaps_of
  find_refused y e =
      let z : told_refusal y ≡ opened (container_of b) f (length w) tail = rw e at op.answers in
      record { answers = rw (← z) (stays y (gaps (format_of b f) f)); spared = op.spared }

  module _ (t : Opened) (e : x ≡ Ok t) where
    pub find_packets : Read t.trace.format t.trace.file.now v t.packets.count
    unfolding asked
    find_packets = let r = (op.read t e).reads in rw (op.read t e).file (record { tabled = r.tabled; list = r.list })

    reads : opened (container_of b) f (length w) tail ≡ accepted []
    reads = sym op.answers ∙ rw e

    pub find_found : (s : Signs) → signs_of s ≡ gaps t.trace.format t.trace.file.now → (u : List ℕ) → Finds b f w tail (Ok s) u
    unfolding gaps_of or_values
    find_found s es u = record {
      answers = rw (reads, es, (op.read t e).says, (op.read t e).file);
      spared = λ h. no_way (opened_sized (container_of b) f (length w) tail [] reads) h;
    }
