-- The file with only one link's records holds the same packets of that link, and is read as whole: the same answer.
use Prim.Native.Nat.{ℕ, zero, suc, pred, ◌+◌, ◌*◌, ◌≤◌}
use mathlib.Core.Path.{◌≡◌, refl, sym, ap, ◌∙◌}
use mathlib.Core.Bool.{Bool, true}
use mathlib.Core.List.{List, [], ◌∷◌, ◌++◌}
use mathlib.Core.Option.{Option, none, some}
use native.Mathlib.Omega.{arith}
use lib.ListN.{length, take, drop, length-append, take-append-drop}
use lib.Seq.{length-take-le}
use lib.Dec.{eqb}
use borrow.Author.Tests.{le-leb, leb-true, eqb-true, eq-eqb}
use Rattle.laws.proofs.Choice.{split_b}
use Rattle.laws.specs.Keyed.{keep}
use Rattle.laws.specs.Lists.{flat, All, all_nil, all_cons}
use Rattle.laws.specs.Chop.{chop, chop_from}
use Rattle.container.specs.Packets.{Packet, packets, link_of, of_link}
use Rattle.container.specs.Container.{Container, Lawful, is_whole, records_in, records, tail_offset, packets_in}
use Rattle.container.proofs.Records.{IsRecord, size_take, packets_written, tail_written}
use Rattle.channels.specs.Tried.{source}
use Rattle.rfcomm.specs.Pieces.{unchecked}
use Rattle.outcome.specs.Import.{Tail, strict, by_source, Finding, found, file_pieces, ends_well, outcome, fits, work_suffices}
use Rattle.links.specs.OneLink.{pieces_of, own, own_pieces, own_spans, own_unfinished, one_link}
use Rattle.links.specs.Alone.{ReadsWhole}
use Rattle.links.specs.Only.{is_of, link_records, only}
use Rattle.links.proofs.Found.{Whole, whole_reads, reads_all, outcome_found}
use Rattle.links.proofs.Independence.{outcome_alone}

-- ---- what is kept

-- a second time the same test keeps all
keep_twice : {A : Type 0} (q : A → Bool) (xs : List A) → keep q (keep q xs) ≡ keep q xs
unfolding keep
keep_twice q [] = refl
keep_twice q (x ∷ xs) = split_b (q x) (λ e. rw e (rw (e, keep_twice q xs))) (λ e. rw e (keep_twice q xs))

all_keep : {A : Type 0} (P : A → Type 0) (q : A → Bool) {xs : List A} → All P xs → All P (keep q xs)
unfolding keep
all_keep P q all_nil = all_nil
all_keep P q (all_cons {x = x} {xs = xs} e a) = split_b (q x) (λ b. rw b (all_cons e (all_keep P q a))) (λ b. rw b (all_keep P q a))

keep_shorter : (q : List ℕ → Bool) (rs : List (List ℕ)) → length (flat (keep q rs)) ≤ length (flat rs)
unfolding keep
keep_shorter q [] = omega arith
keep_shorter q (r ∷ rs) =
    split_b (q r)
    (λ e. rw e (omega (arith, keep_shorter q rs, length-append r (flat rs), length-append r (flat (keep q rs)))))
    (λ e. rw e (omega (arith, keep_shorter q rs, length-append r (flat rs))))

-- ---- whole records

chop_all : (whole : List ℕ → Bool) (size : List ℕ → ℕ) (P : List ℕ → Type 0) → ((b : List ℕ) → whole b ≡ true → P (take (size b) b)) →
    (s : ℕ) (b : List ℕ) → All P (chop_from whole size s b)
unfolding chop_from
chop_all whole size P h zero [] = all_nil
chop_all whole size P h (suc s) [] = all_nil
chop_all whole size P h (suc s) (x ∷ xs) = chop_all whole size P h s xs
chop_all whole size P h zero (x ∷ xs) =
    split_b (whole (x ∷ xs))
    (λ e. rw e (all_cons (h (x ∷ xs) e) (chop_all whole size P h (pred (size (x ∷ xs))) xs)))
    (λ e. rw e all_nil)

-- the records of a file are records by themselves
pub records_whole : (C : Container) → Lawful C → (f : List ℕ) → All (IsRecord (C.size f)) (records C f)
unfolding records records_in chop is_whole
records_whole C L f =
    chop_all (is_whole (C.size f)) (C.size f) (IsRecord (C.size f))
    (λ b e.
    let g : C.size f b ≤ length b = leb-true (C.size f b) (length b) e in
    size_take C L f (C.size f b) b (L.least f b) g ∙ sym (length-take-le (C.size f b) b g)) 0 (drop C.head f)

-- ---- the packets of a link's records

packets_kept : (l : ℕ) (read : List ℕ → Option Packet) (rs : List (List ℕ)) → packets read (keep (λ r. is_of l (read r)) rs) ≡ of_link l (packets read rs)
unfolding packets keep of_link is_of
packets_kept l read [] = refl
packets_kept l read (r ∷ rs) = by (packets_kept l read rs) (read r) refl
  where
    by : packets read (keep (λ r. is_of l (read r)) rs) ≡ of_link l (packets read rs) → (o : Option Packet) → read r ≡ o →
        packets read (keep (λ r. is_of l (read r)) (r ∷ rs)) ≡ of_link l (packets read (r ∷ rs))
    by h none e = rw (e, h)
    by h (some a) e = split_b (eqb a.link l) (λ q. rw (e, q) (rw (e, h))) (λ q. rw (e, q) h)

-- the packets of a link are those of its own records
pub own_packets : (C : Container) (l : ℕ) (f : List ℕ) → own C l f ≡ packets (C.packet f) (link_records C l f)
unfolding own packets_in link_records
own_packets C l f = sym (packets_kept l (C.packet f) (records C f))

-- two files of a container whose records are read alike (btsnoop: by one datalink; pcap: by one magic) and that hold the same records of a link, in the
-- same order, hold the same packets of it, however their other records differ
pub records_alone : (C : Container) (l : ℕ) (f g : List ℕ) → C.packet f ≡ C.packet g → link_records C l f ≡ link_records C l g → own C l f ≡ own C l g
records_alone C l f g e k = own_packets C l f ∙ rw (e, k) (sym (own_packets C l g))

-- ---- a file's header, and any bytes after it: only the header tells how the file is read

module _ (C : Container) (L : Lawful C) (f : List ℕ) (long : C.head ≤ length f) where
  head_long : length (take C.head f) ≡ C.head
  head_long = length-take-le C.head f long

  head_size : C.size (take C.head f) ≡ C.size f
  head_size = sym (L.sizes_front (take C.head f) (drop C.head f) head_long) ∙ ap (λ (x : List ℕ). C.size x) (take-append-drop C.head f)

  head_packet : C.packet (take C.head f) ≡ C.packet f
  head_packet = sym (L.packets_front (take C.head f) (drop C.head f) head_long) ∙ ap (λ (x : List ℕ). C.packet x) (take-append-drop C.head f)

  head_file : (x : List ℕ) → C.is_file (take C.head f ++ x) ≡ C.is_file f
  head_file x =
      L.file_front (take C.head f) x head_long
      ∙ sym (L.file_front (take C.head f) (drop C.head f) head_long)
      ∙ ap (λ (y : List ℕ). C.is_file y) (take-append-drop C.head f)

  head_link : (x : List ℕ) → C.link_type (take C.head f ++ x) ≡ C.link_type f
  head_link x =
      L.link_front (take C.head f) x head_long
      ∙ sym (L.link_front (take C.head f) (drop C.head f) head_long)
      ∙ ap (λ (y : List ℕ). C.link_type y) (take-append-drop C.head f)

-- ---- the file with only one link's records

module _ (C : Container) (L : Lawful C) (l : ℕ) (f : List ℕ) (long : C.head ≤ length f) where
  only_whole : All (IsRecord (C.size (take C.head f))) (link_records C l f)
  unfolding link_records
  only_whole = rw (head_size C L f long) (all_keep (IsRecord (C.size f)) (λ r. is_of l (C.packet f r)) (records_whole C L f))

  -- all its packets are of the link
  only_packets : packets_in C (only C l f) ≡ own C l f
  unfolding only
  only_packets =
      packets_written C L (take C.head f) (head_long C L f long) (link_records C l f) only_whole
      ∙ rw (head_packet C L f long) (sym (own_packets C l f))

  -- it holds the same packets of the link
  pub own_records : own C l (only C l f) ≡ own C l f
  unfolding own of_link
  own_records = rw only_packets (keep_twice (λ (a : Packet). eqb a.link l) (packets_in C f))

  only_ends : ends_well C strict (only C l f) ≡ true
  unfolding ends_well only
  only_ends =
      eq-eqb (tail_offset C (take C.head f ++ flat (link_records C l f))) (length (take C.head f ++ flat (link_records C l f)))
      (tail_written C L (take C.head f) (head_long C L f long) (link_records C l f) only_whole)

  only_shorter : ends_well C strict f ≡ true → length (only C l f) ≤ length f
  unfolding ends_well tail_offset link_records only
  only_shorter e =
      omega (
        arith,
        length-append (take C.head f) (flat (keep (λ r. is_of l (C.packet f r)) (records C f))),
        head_long C L f long,
        keep_shorter (λ r. is_of l (C.packet f r)) (records C f),
        eqb-true (C.head + length (flat (records C f))) (length f) e,
      )

  -- import of it joins the pieces of that link's packets alone
  only_pieces : file_pieces C (unchecked source) (only C l f) ≡ pieces_of (own C l f)
  unfolding file_pieces pieces_of
  only_pieces = rw only_packets

  -- how an importer judges one link's list: where import of that file finds a DLCI, on any channel, its spans and its count are the link's of that DLCI
  pub import_only : (channel : Option ℕ) (tail : Tail) (x : Finding) → outcome C (only C l f) (by_source channel tail) ≡ found x →
      (x.spans ≡ own_spans C l x.dlci f) × (x.unfinished ≡ own_unfinished C l x.dlci f)
  unfolding own_spans own_unfinished own_pieces
  import_only channel tail x e = rw (← only_pieces) (outcome_found C (only C l f) (by_source channel tail) x e)

-- strict reading does not refuse it by 1 to 5, with the same work
pub only_reads : (C : Container) → Lawful C → (l : ℕ) (f : List ℕ) (work : ℕ) → ReadsWhole C f work → ReadsWhole C (only C l f) work
unfolding fits work_suffices only
only_reads C L l f work r =
    let h : Whole C f work = reads_all C f work r in
    let long : C.head ≤ length f = L.long f h.header in
    let short : length (only C l f) ≤ length f = only_shorter C L l f long h.ended in
    whole_reads C (only C l f) work (record {
      small = le-leb (length (only C l f)) 1048576 (omega (arith, leb-true (length f) 1048576 h.small));
      room = le-leb (8 * length (only C l f)) work (omega (arith, leb-true (8 * length f) work h.room));
      header = head_file C L f long (flat (link_records C l f)) ∙ h.header;
      known = rw (head_link C L f long (flat (link_records C l f))) h.known;
      ended = only_ends C L l f long;
    })

-- the same answer as for the file with only that link's records
pub only_same : (C : Container) → Lawful C → (f : List ℕ) (work index handle d : ℕ) → ReadsWhole C f work →
    one_link C (only C (link_of index handle) f) work index handle d ≡ one_link C f work index handle d
only_same C L f work index handle d r =
    outcome_alone index handle d C (only C (link_of index handle) f) work C f work (only_reads C L (link_of index handle) f work r) r
    (own_records C L (link_of index handle) f (L.long f (reads_all C f work r).header))
