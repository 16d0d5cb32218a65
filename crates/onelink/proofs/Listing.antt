-- From the passes to the call: each refusal, and the list where none is met.
use Rattle.std.specs.Prelude.{Result, Ok, Err, Some}
use Prim.Native.Nat.{ℕ, ◌<◌, ◌≤◌}
use mathlib.Core.Path.{◌≡◌, sym, ap, subst, ◌∙◌}
use mathlib.Core.Bool.{Bool, true, false, cond, ◌&&◌}
use mathlib.Core.List.{List, [], ◌∷◌}
use native.Mathlib.Omega.{arith}
use lib.ListN.{length}
use Rattle.laws.proofs.Choice.{no_way}
use Rattle.laws.specs.Answers.{accepted, gives, refuses, Outcome, Meets}
use Rattle.laws.specs.Stores.{Writes}
use Rattle.laws.proofs.Answers.{meets_refused, meets_short, meets_wrote}
use Rattle.items.specs.Items.{span_list}
use Rattle.container.specs.Packets.{Packet, link_of}
use Rattle.trace.specs.Formats.{container_of}
use Rattle.trace.specs.Headers.{told_refusal}
use Rattle.trace.proofs.Formats.{packets_of_law}
use Rattle.trace.specs.declared.Container.{Container}
use Rattle.trace.specs.declared.Refusal.{Refusal}
use Rattle.packets.specs.PacketTable.{packets_from, Tabled}
use Rattle.packets.specs.Adding.{asked}
use Rattle.rfcomm.specs.Pieces.{judged}
use Rattle.gathering.specs.Gathering.{Gathers}
use Rattle.gathering.specs.declared.Gathered.{Gathered}
use Rattle.spans.specs.Spans.{spans, on_dlci}
use Rattle.outcome.specs.Import.{strict, fits, work_suffices}
use Rattle.opening.specs.Opening.{opened, or_given, Opens}
use Rattle.opening.proofs.AsImport.{opened_sized, refusing}
use Rattle.opening.specs.declared.Opened.{Opened}
use Rattle.streams.specs.Streams as streams
use Rattle.streams.specs.Streams.{table_pieces, stream_of, CountsStream, kept_list, WriteListPre}
use Rattle.streams.proofs.Streams.{tabled}
use Rattle.streams.specs.declared.Stream.{Stream}
use Rattle.links.specs.OneLink.{pieces_of, may_ask, listed_of, own, one_link}
use Rattle.links.proofs.Independence.{link_alone}
use Rattle.options.specs.Numbers.{container_in}
use Rattle.telling.specs.Telling.{Told}
use Rattle.telling.proofs.TellLaws.{calls}
use Rattle.onelink.specs.Calls.{told_link, ListsLink, LinkCalls}
use Rattle.onelink.specs.declared.LinkList.{LinkList}
use Rattle.onelink.specs.declared.LinkError.{LinkError}
use Rattle.onelink.specs.declared.LinkError.TheVariants.{Refused, NoLink, OutShort}

module _ (b : Container) (f w : List ℕ) (index handle d : ℕ) (out : List ℕ) (n : ℕ) (en : n ≡ link_of index handle) (x : Result Opened Refusal) (v : List ℕ) (op : Opens b f w strict (Some n) x v) where
  -- what the call gives, by the definition
  abbrev due : Outcome
  due = one_link (container_of b) f (length w) index handle d

  lists_by : (r : Result LinkList LinkError) (w' out' : List ℕ) → Meets due out (told_link r) out' → ((fits f && work_suffices f (length w)) ≡ false → w' ≡ w) → ListsLink b f w index handle d out r w' out'
  lists_by r w' out' m s = record { meets = m; spared = s; alone = link_alone index handle d (container_of b) f (length w) out (told_link r) out' m }

  -- 1 to 5
  pub list_refused : (y : Refusal) → x ≡ Err y → ListsLink b f w index handle d out (Err (Refused y)) v out
  unfolding one_link or_given
  list_refused y e =
      let r = refusing y in
      let z : opened (container_of b) f (length w) strict ≡ told_refusal y = sym op.answers ∙ rw e in
      let g : due ≡ refuses r.number r.values = rw (z, r.is) in
      lists_by (Err (Refused y)) v out (rw r.is (meets_refused due out r.number r.values g)) op.spared

  -- the trace is read
  module _ (t : Opened) (e : x ≡ Ok t) where
    reads : opened (container_of b) f (length w) strict ≡ accepted []
    reads = sym op.answers ∙ rw e

    spared : (w' : List ℕ) → (fits f && work_suffices f (length w)) ≡ false → w' ≡ w
    spared w' h = no_way (opened_sized (container_of b) f (length w) strict [] reads) h

    pub list_packets : Tabled f v t.packets.count
    list_packets = (op.read t e).reads.tabled

    -- the packets in the table are those of the link
    abbrev packets : List Packet
    packets = own (container_of b) (link_of index handle) f

    own_packets : packets_from f v 0 t.packets.count ≡ packets
    unfolding asked own
    own_packets = (op.read t e).reads.list ∙ rw ((op.read t e).says, packets_of_law b f, en)

    due_read : due ≡ cond (may_ask handle d) (listed_of d packets) (refuses 23 [])
    unfolding one_link or_given
    due_read = rw reads

    module _ (q : Bool) (eq : q ≡ may_ask handle d) where
      -- 23
      pub list_none : q ≡ false → ListsLink b f w index handle d out (Err NoLink) v out
      list_none k =
          let g : due ≡ refuses 23 [] = due_read ∙ rw (← eq, k) in
          lists_by (Err NoLink) v out (meets_refused due out 23 [] g) (spared v)

      module _ (k : q ≡ true) (u : List ℕ) (g : Gathered) (ga : Gathers false f v t.packets.count u g) where
        pub list_pieces : streams.Tabled f u g.pieces
        list_pieces = tabled f u g.pieces _ ga.pieced

        -- and so are the pieces
        own_pieces : table_pieces f u g.pieces ≡ pieces_of packets
        unfolding pieces_of judged
        own_pieces = rw own_packets at ga.pieced.list

        module _ (y : List ℕ) (s : Stream) (cs : CountsStream f u g.pieces d y s) where
          abbrev list : List ℕ
          list = span_list (spans (on_dlci d (pieces_of packets)))

          counts : s ≡ stream_of (pieces_of packets) d
          counts = rw own_pieces at cs.counts

          due_list : due ≡ gives (s.spans ∷ s.unfinished ∷ s.bytes ∷ []) list
          unfolding listed_of stream_of
          due_list =
              let v : Stream → List ℕ = λ x. x.spans ∷ x.unfinished ∷ x.bytes ∷ [] in
              due_read ∙ rw (← eq, k) (sym (ap (λ (x : Stream). gives (v x) list) counts))

          needed : s.bytes ≡ length list
          unfolding stream_of
          needed = ap (λ (x : Stream). x.bytes) counts

          -- 7
          pub list_short : length out < s.bytes → ListsLink b f w index handle d out (Err (OutShort s.bytes)) y out
          list_short h = lists_by (Err (OutShort s.bytes)) y out (meets_short due out _ list s.bytes due_list needed h) (spared y)

          module _ (h : s.bytes ≤ length out) where
            same_list : kept_list f y g.pieces d ≡ list
            same_list = rw (cs.pieces, own_pieces)

            pub list_room : WriteListPre f y g.pieces d out
            list_room = record { kept = cs.kept; room = rw same_list (omega (arith, needed)) }

            pub list_written : (r : ℕ) (out' : List ℕ) → Writes out 0 (kept_list f y g.pieces d) r out' → ListsLink b f w index handle d out (Ok (record { spans = s.spans; unfinished = s.unfinished; bytes = s.bytes })) y out'
            list_written r out' z =
                lists_by (Ok (record { spans = s.spans; unfinished = s.unfinished; bytes = s.bytes })) y out'
                (meets_wrote due out _ list r out' due_list (omega (arith, needed)) (rw same_list at z))
                (spared y)

-- ---- the call

told :
    (b : Container) (f w : List ℕ) (index handle d : ℕ) (out : List ℕ) (i : Result LinkList LinkError) (w' out' : List ℕ) → ListsLink b f w index handle d out i w' out' →
    (v : List ℕ) (r : ℕ) (v' : List ℕ) → Told (told_link i) v r v' → LinkCalls b f w index handle d out v r w' out' v'
told b f w index handle d out i w' out' m v r v' t = record {
  calls = calls (one_link (container_of b) f (length w) index handle d) out (told_link i) out' m.meets v r v' t;
  spared = m.spared;
  alone = rw m.meets.answers at m.alone;
}

pub link_calls :
    (l : List ℕ) (b : Container) → b ≡ container_in l → (f w : List ℕ) (index handle d : ℕ) (out : List ℕ) (i : Result LinkList LinkError) (w' out' : List ℕ) → ListsLink b f w index handle d out i w' out' →
    (v : List ℕ) (r : ℕ) (v' : List ℕ) → Told (told_link i) v r v' → LinkCalls (container_in l) f w index handle d out v r w' out' v'
link_calls l b e f w index handle d out i w' out' m v r v' t = subst (λ (c : Container). LinkCalls c f w index handle d out v r w' out' v') e (told b f w index handle d out i w' out' m v r v' t)
