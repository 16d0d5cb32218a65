-- The passes of import fit together: what each needs is what those before it left, and together they read the file.
use Prim.Native.Nat.{ℕ, ◌*◌, ◌/◌, ◌<◌}
use mathlib.Core.Path.{◌≡◌, refl, sym, ap, ◌∙◌}
use mathlib.Core.List.{List, [], ◌∷◌}
use lib.ListN.{length, get_or}
use Rattle.laws.proofs.Choice.{no_way}
use Rattle.container.specs.Container.{packets_in, records, tail_offset}
use Rattle.trace.specs.Formats.{container_of}
use Rattle.trace.proofs.Formats.{packets_of_law, records_of, tail_of_law}
use Rattle.packets.specs.PacketTable.{packets_from}
use Rattle.packets.specs.Adding.{asked}
use Rattle.packets.specs.declared.Packets.{Packets}
use Rattle.l2cap.specs.Pdus.{pdus}
use Rattle.rfcomm.specs.Pieces.{judged, Piece}
use mathlib.Core.Option.{Option}
use Rattle.rfcomm.proofs.PieceRows.{length_pieces}
use Rattle.gathering.specs.declared.Gathered.{Gathered}
use Rattle.outcome.specs.Import.{chosen, file_pieces, file_wrong, read}
use Rattle.outcome.specs.Sizes.{counts}
use Rattle.streams.specs.Streams.{channel_of, table_pieces, choice_of, Choice}
use Rattle.streams.proofs.Listing.{given_none, given_some, list_needed}
use Rattle.streams.specs.declared.Stream.{Stream}
use Rattle.std.specs.Prelude.{Some, None, Ok, Err}
use Rattle.capture.specs.Options.{options_of}
use Rattle.capture.specs.Calls.{Stands, PacketsFind}
use Rattle.capture.specs.Passes.{count_of, Passes}
use Rattle.capture.specs.declared.FindError.TheVariants.{NoStream}
use Rattle.capture.specs.declared.Options.{Options}
use Rattle.capture.specs.declared.Summary.{Summary}

module _ (f : List ℕ) (o : Options) (p : Packets) (g : Gathered) (c : Choice) (w' : List ℕ) (s : Passes f o p g c w') where
  abbrev all_pieces : List Piece
  all_pieces = file_pieces (container_of o.container) (options_of o).judging f

  abbrev wrongs : ℕ → ℕ
  wrongs = file_wrong (container_of o.container) (options_of o).judging f

  abbrev tail : ℕ
  tail = tail_offset (container_of o.container) f

  -- by the definition
  abbrev dlci : Option ℕ
  dlci = chosen (channel_of o.channel) all_pieces

  -- the packets in the table are the file's
  file_packets : packets_from f s.w₁ 0 p.count ≡ packets_in (container_of o.container) f
  unfolding asked
  file_packets = s.read_packets.list ∙ packets_of_law o.container f

  -- and so are the pieces
  file_pieces_law : table_pieces f s.w₂ g.pieces ≡ all_pieces
  unfolding file_pieces judged
  file_pieces_law = rw file_packets at s.gather.pieced.list

  -- and the wrong frames
  file_wrong_law : (d : ℕ) → d < 64 → count_of g.wrong d ≡ wrongs d
  unfolding judged
  file_wrong_law d h = rw file_packets at (s.gather.wrongs d h)

  -- and how many there are of each
  file_counts : p.records ∷ g.pdus ∷ g.pieces ∷ [] ≡ counts (container_of o.container) (options_of o).judging f
  unfolding counts
  file_counts =
      let r : p.records ≡ length (records (container_of o.container) f) = s.read_packets.records ∙ ap length (records_of o.container f) in
      let q : g.pdus ≡ length (pdus (packets_in (container_of o.container) f)) = rw file_packets at s.gather.many in
      let n : g.pieces ≡ length all_pieces = sym (length_pieces f s.w₂ (5 * (length f / 4)) 0 g.pieces) ∙ ap length file_pieces_law in
      rw (← r, ← q, ← n)

  choice : c ≡ choice_of all_pieces dlci
  choice = rw file_pieces_law at s.choose_stream.chooses

  -- no DLCI is chosen
  pub passed_none : c ≡ None → PacketsFind o.container f (options_of o) (Err NoStream) w'
  unfolding read
  passed_none e = record {
    gives = given_none all_pieces dlci wrongs tail (sym e ∙ choice);
    found = λ x k. no_way refl cc;
  }

  -- one is
  module _ (x : Stream) (e : c ≡ Some x) (n : ℕ) (en : n ≡ get_or g.wrong x.dlci 0) where
    wrong_is : n ≡ wrongs x.dlci
    wrong_is = en ∙ file_wrong_law x.dlci (s.choose_stream.small x e)

    tail_is : p.tail ≡ tail
    tail_is = s.read_packets.tail ∙ tail_of_law o.container f

    abbrev pub summary : Summary
    summary = record { stream = x; records = p.records; pdus = g.pdus; pieces = g.pieces; tail = p.tail; wrong = n }

    stands : Stands o.container f (options_of o) summary w'
    stands = record {
      needed = list_needed all_pieces dlci wrongs tail x (sym e ∙ choice);
      counts = file_counts;
      left = rw file_pieces_law at (s.choose_stream.left x e);
    }

    pub passed_some : PacketsFind o.container f (options_of o) (Ok summary) w'
    unfolding read
    passed_some = record {
      gives = rw (tail_is, wrong_is) (given_some all_pieces dlci wrongs tail x (sym e ∙ choice));
      found = λ y k. (let z : y ≡ summary = cc in rw z stands);
    }
