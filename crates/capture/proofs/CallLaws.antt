-- From the passes to the calls: each refusal, what is found where none is met, and what import and sizes make of it.
use Rattle.std.specs.Prelude.{Result, Ok, Err, None, ok_or}
use Rattle.std.specs.Result.{result_ok}
use Prim.Native.Nat.{ℕ, ◌<◌, ◌≤◌}
use mathlib.Core.Path.{◌≡◌, refl, sym, ap, ◌∙◌}
use mathlib.Core.List.{List, []}
use native.Mathlib.Omega.{arith}
use lib.ListN.{length, get_or}
use Rattle.laws.proofs.Choice.{no_way}
use Rattle.laws.specs.Answers.{accepted, Meets}
use Rattle.laws.specs.Stores.{Writes}
use Rattle.laws.proofs.Answers.{meets_refused, meets_short, meets_wrote}
use Rattle.trace.specs.Formats.{container_of, format_of}
use Rattle.trace.proofs.Formats.{lawful}
use Rattle.trace.specs.declared.Container.{Container}
use Rattle.trace.specs.declared.Refusal.{Refusal}
use Rattle.packets.specs.Adding.{ReadTo}
use Rattle.packets.specs.declared.Packets.{Packets}
use Rattle.gathering.specs.Gathering.{Gathers}
use Rattle.gathering.specs.declared.Gathered.{Gathered}
use Rattle.streams.specs.Streams.{ChoosesStream, Choice, kept_list, WriteListPre}
use Rattle.streams.specs.declared.Stream.{Stream}
use Rattle.outcome.specs.Import.{imported}
use Rattle.outcome.specs.Import as import
use Rattle.outcome.specs.Sizes.{sizes, sized}
use Rattle.outcome.proofs.Sizes.{foretells}
use Rattle.cut.proofs.Theorem.{cut_claim}
use Rattle.cut.proofs.SizesLeft.{sizes_claim}
use Rattle.opening.specs.Opening.{opened, or_given, Opens}
use Rattle.opening.proofs.AsImport.{import_opened, opened_sized, Refusing}
use Rattle.opening.proofs.AsImport as opening
use Rattle.opening.specs.declared.Opened.{Opened}
use Rattle.capture.specs.Options.{options_of}
use Rattle.capture.specs.Calls.{told_find_error, list_on, with_list, Stands, Finds, PacketsFind, unfound, told_imported, Imported, Left, Imports, told_sizing, Sizing}
use Rattle.capture.specs.Passes.{Passes}
use Rattle.capture.specs.declared.FindError.{FindError}
use Rattle.capture.specs.declared.FindError.TheVariants.{Refused, NoStream}
use Rattle.capture.specs.declared.ImportError.TheVariants.{OutShort}
use Rattle.capture.specs.declared.Options.{Options}
use Rattle.capture.specs.declared.Summary.{Summary}
use Rattle.capture.specs.declared.Sizes.{Sizes}
use Rattle.capture.proofs.PassLaws.{passed_none, passed_some}

-- ---- from the packets on

module _
    (f w : List ℕ) (p : Packets) (o : Options) (rp : ReadTo (format_of o.container f) f None w p) (u : List ℕ) (g : Gathered) (ga : Gathers o.fcs f w p.count u g)
    (y : List ℕ) (c : Choice) (cs : ChoosesStream f u g.pieces o.channel y c) (l : Result Stream FindError) (z : c ≡ result_ok l) (k : l ≡ ok_or c NoStream) where
  passes : Passes f o p g c y
  passes = record { w₁ = w; w₂ = u; read_packets = rp; gather = ga; choose_stream = cs }

  pub packets_none : (e : FindError) → l ≡ Err e → PacketsFind o.container f (options_of o) (Err e) y
  packets_none e q =
      let n : c ≡ None = z ∙ ap result_ok q in
      let i : e ≡ NoStream = (let j : ◌≡◌ {A = Result Stream FindError} (Err e) (Err NoStream) = sym q ∙ k ∙ ap (λ (y : Choice). ok_or y NoStream) n in cc) in
      rw i (passed_none f o p g c y passes n)

  pub packets_some : (s : Stream) → l ≡ Ok s → (n : ℕ) → n ≡ get_or g.wrong s.dlci 0 → PacketsFind o.container f (options_of o) (Ok (record { stream = s; records = p.records; pdus = g.pdus; pieces = g.pieces; tail = p.tail; wrong = n })) y
  packets_some s q n en = passed_some f o p g c y passes s (z ∙ ap result_ok q) n en

-- ---- what is found

pub find_needs : (b : Container) (f w : List ℕ) (t : import.Tail) (x : Result Opened Refusal) (v : List ℕ) → Opens b f w t None x v → (o : Opened) → x ≡ Ok o → ReadTo (format_of b f) f None v o.packets
find_needs b f w t x v op o e = let r = op.read o e in rw r.says at r.reads

-- why nothing is found is told by a number and values
refusing : (e : FindError) → Refusing (told_find_error e)
refusing (Refused y) = opening.refusing y
refusing NoStream = record { number = 6; values = []; is = refl }

-- a trace opened so
module _ (b : Container) (f w : List ℕ) (o : import.Options) (x : Result Opened Refusal) (v : List ℕ) (op : Opens b f w o.tail None x v) where
  pub find_refused : (y : Refusal) → x ≡ Err y → Finds b f w o (Err (Refused y)) v
  unfolding or_given
  find_refused y e = record {
    gives = import_opened (container_of b) f (length w) o ∙ rw (← op.answers, e, (refusing (Refused y)).is);
    found = λ s k. no_way refl cc;
    spared = op.spared;
  }

  -- it is read
  module _ (t : Opened) (e : x ≡ Ok t) where
    reads : opened (container_of b) f (length w) o.tail ≡ accepted []
    reads = sym op.answers ∙ rw e

    pub find_read : (r : Result Summary FindError) (w' : List ℕ) → PacketsFind b f o r w' → Finds b f w o r w'
    unfolding or_given
    find_read r w' m = record {
      gives = import_opened (container_of b) f (length w) o ∙ rw reads m.gives;
      found = m.found;
      spared = λ h. no_way (opened_sized (container_of b) f (length w) o.tail [] reads) h;
    }

-- ---- import

-- why nothing is found is why nothing is imported
told_unfound : (e : FindError) → told_imported (Err (unfound e)) ≡ told_find_error e
told_unfound (Refused y) = refl
told_unfound NoStream = refl

module _ (b : Container) (f w : List ℕ) (o : import.Options) (out : List ℕ) (x : Result Summary FindError) (v : List ℕ) (m : Finds b f w o x v) where
  imports_by : (r : Imported) (out' : List ℕ) → Meets (imported (container_of b) f (length w) o) out (told_imported r) out' → Left b f o r v → Imports b f w o out r v out'
  imports_by r out' y l = record { meets = y; spared = m.spared; left = l; cut = cut_claim (lawful b) f (length w) o out (told_imported r) out' y }

  pub import_refused : (e : FindError) → x ≡ Err e → Imports b f w o out (Err (unfound e)) v out
  import_refused e q =
      let r = refusing e in
      let g : imported (container_of b) f (length w) o ≡ with_list (told_find_error e) [] = rw q at m.gives in
      imports_by (Err (unfound e)) out (rw (told_unfound e, r.is) (meets_refused _ out r.number r.values (rw r.is at g))) (record { at = λ s k. no_way refl cc })

  module _ (s : Summary) (q : x ≡ Ok s) where
    stands : Stands b f o s v
    stands = m.found s q

    pub import_short : length out < s.stream.bytes → Imports b f w o out (Err (OutShort s.stream.bytes)) v out
    import_short h = imports_by (Err (OutShort s.stream.bytes)) out (meets_short _ out _ (list_on b f o s.stream.dlci) s.stream.bytes (rw q at m.gives) stands.needed h) (record { at = λ s k. no_way refl cc })

    module _ (h : s.stream.bytes ≤ length out) where
      same_list : kept_list f v s.pieces s.stream.dlci ≡ list_on b f o s.stream.dlci
      same_list = rw stands.left.pieces

      pub import_room : WriteListPre f v s.pieces s.stream.dlci out
      import_room = record { kept = stands.left.kept; room = rw same_list (omega (arith, stands.needed)) }

      pub import_written : (r : ℕ) (out' : List ℕ) → Writes out 0 (kept_list f v s.pieces s.stream.dlci) r out' → Imports b f w o out (Ok s) v out'
      import_written r out' y =
          imports_by (Ok s) out' (meets_wrote _ out _ (list_on b f o s.stream.dlci) r out' (rw q at m.gives) (omega (arith, stands.needed)) (rw same_list at y))
          (record { at = λ t k. (let z : t ≡ s = cc in rw z stands.left) })

-- ---- sizes

module _ (b : Container) (f w : List ℕ) (o : import.Options) (x : Result Summary FindError) (v : List ℕ) (m : Finds b f w o x v) where
  sizing_by : (r : Result Sizes FindError) → told_sizing r ≡ sized (container_of b) f (length w) o → Sizing b f w o r v
  sizing_by r e = record {
    answers = e;
    spared = m.spared;
    foretells = rw e (foretells (container_of b) f (length w) o);
    cut = rw e (sizes_claim (lawful b) f (length w) o);
  }

  pub sizing_refused : (e : FindError) → x ≡ Err e → Sizing b f w o (Err e) v
  unfolding sized sizes
  sizing_refused e q = sizing_by (Err e) (rw (m.gives, q, (refusing e).is))

  pub sizing_found : (s : Summary) → x ≡ Ok s → Sizing b f w o (Ok (record { needed = s.stream.bytes; records = s.records; pdus = s.pdus; pieces = s.pieces })) v
  unfolding sized sizes
  sizing_found s q = sizing_by (Ok (record { needed = s.stream.bytes; records = s.records; pdus = s.pdus; pieces = s.pieces })) (rw (m.gives, q, ← (m.found s q).needed, ← (m.found s q).counts))
