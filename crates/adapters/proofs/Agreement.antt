-- A file read with other numbers for its links gives the same, if no two of its links get one number. So a trace in which each handle has one index
-- is read as document 01 reads it, by the handle alone.
use Prim.Native.Nat.{ℕ, ◌+◌, ◌*◌, ◌/◌, ◌%◌, ◌<◌}
use mathlib.Core.Path.{◌≡◌, refl, sym, ap, ◌∙◌, fun_ext}
use mathlib.Core.Logic.{◌≢◌}
use mathlib.Core.Bool.{cond}
use mathlib.Core.List.{List, [], ◌∷◌, map, Memᴰ}
use mathlib.Core.Option.{Option, none, some}
use native.Mathlib.Omega.{arith}
use lib.ListN.{length, get_or, drop}
use lib.Dec.{leb, eqb}
use borrow.Author.Tests.{eq-eqb, ne_eqb}
use Rattle.laws.proofs.Choice.{split_b, split≡}
use Rattle.laws.specs.Lists.{All, all_nil, all_cons}
use Rattle.laws.specs.Numbers.{be32, le16}
use Rattle.container.specs.Packets.{Packet, link_of, fragment, h4_packet, or_none, packets}
use Rattle.container.specs.Container.{Container, records, tail_offset, packets_in}
use Rattle.btsnoop.specs.Header.{datalink}
use Rattle.btsnoop.specs.Packets.{milliseconds, hci_packet, monitor_packet, packet_of}
use Rattle.btsnoop.specs.Records.{btsnoop}
use Rattle.outcome.specs.Import.{Tail, strict, tolerant, Options, file_pieces, file_wrong, read, ends_well, outcome, imported, imported_in}
use Rattle.cut.proofs.TwoParts.{all_map, all_at}
use Rattle.adapters.specs.Links.{relinked, if_there, relinking, by_handle, OneIndexEach, OneIndex}
use Rattle.adapters.proofs.Renamed.{read_renamed}

-- ---- two containers with one outcome

module _ (C D : Container) (f : List ℕ) (work : ℕ) (o : Options) (e : outcome D f o ≡ outcome C f o) where
  imported_by : imported D f work o ≡ imported C f work o
  unfolding imported
  imported_by = rw e

  imported_in_by : (places : ℕ) → imported_in D f work places o ≡ imported_in C f work places o
  unfolding imported_in
  imported_in_by places = rw imported_by

-- ---- a container read with other numbers for its links

module _ (ρ : ℕ → ℕ) where
  or_none_law : (o : Option Packet) (ps : List Packet) → or_none (if_there ρ o) (map (relinked ρ) ps) ≡ map (relinked ρ) (or_none o ps)
  unfolding if_there
  or_none_law none ps = refl
  or_none_law (some p) ps = refl

  packets_mapped : (g : List ℕ → Option Packet) (rs : List (List ℕ)) → packets (λ r. if_there ρ (g r)) rs ≡ map (relinked ρ) (packets g rs)
  unfolding packets
  packets_mapped g [] = refl
  packets_mapped g (r ∷ rs) = rw (packets_mapped g rs) (or_none_law (g r) (packets g rs))

module _ (ρ : ℕ → ℕ) (C : Container) (f : List ℕ) where
  pub packets_relinked : packets_in (relinking ρ C) f ≡ map (relinked ρ) (packets_in C f)
  unfolding packets_in records
  packets_relinked = packets_mapped ρ (C.packet f) (records C f)

  tail_relinked : tail_offset (relinking ρ C) f ≡ tail_offset C f
  unfolding tail_offset records
  tail_relinked = refl

  ends_relinked : (t : Tail) → ends_well (relinking ρ C) t f ≡ ends_well C t f
  unfolding ends_well
  ends_relinked strict = rw tail_relinked
  ends_relinked tolerant = refl

  -- all but what is read is told by the header and the sizes of records, which are the same
  outcome_by : (o : Options) → read (relinking ρ C) f o ≡ read C f o → outcome (relinking ρ C) f o ≡ outcome C f o
  unfolding outcome
  outcome_by o e = rw (ends_relinked o.tail, tail_relinked, e)

-- ---- links renamed one to one

module _ (ρ : ℕ → ℕ) (one : (x y : ℕ) → ρ x ≡ ρ y → x ≡ y) (C : Container) (f : List ℕ) where
  pub outcome_renamed : (o : Options) → outcome (relinking ρ C) f o ≡ outcome C f o
  outcome_renamed o = outcome_by ρ C f o (read_renamed ρ one C (relinking ρ C) f f o (packets_relinked ρ C f) (tail_relinked ρ C f))

  pub imported_renamed : (work : ℕ) (o : Options) → imported (relinking ρ C) f work o ≡ imported C f work o
  imported_renamed work o = imported_by C (relinking ρ C) f work o (outcome_renamed o)

  pub imported_in_renamed : (work places : ℕ) (o : Options) → imported_in (relinking ρ C) f work places o ≡ imported_in C f work places o
  imported_in_renamed work places o = imported_in_by C (relinking ρ C) f work o (outcome_renamed o) places

-- ---- links renamed one to one as far as the file has them

-- no two links of the packets get one number
abbrev pub Apart : (ℕ → ℕ) → List Packet → Type 0
Apart ρ ps = All (λ p. All (λ q. ρ p.link ≡ ρ q.link → p.link ≡ q.link) ps) ps

all_in : {A : Type 0} {P : A → Type 0} (xs : List A) → ((x : A) → Memᴰ x xs → P x) → All P xs
all_in [] g = all_nil
all_in (x ∷ xs) g = all_cons (g x (Memᴰ.head refl)) (all_in xs (λ y m. g y (Memᴰ.tail m)))

-- Such a renaming is undone, but for doubling, by one that is one to one everywhere: a number that no link of the packets gets becomes odd.
module _ (ρ : ℕ → ℕ) where
  unfoldable undone : List Packet → ℕ → ℕ
  undone [] y = 2 * y + 1
  undone (p ∷ ps) y = cond (eqb (ρ p.link) y) (2 * p.link) (undone ps y)

  undone_either :
      {G : Type 0} (ps : List Packet) (y : ℕ) →
      (undone ps y ≡ 2 * y + 1 → G) → ((x : ℕ) → ρ x ≡ y → undone ps y ≡ 2 * x → G) → G
  unfolding undone
  undone_either [] y odd even = odd refl
  undone_either (p ∷ ps) y odd even =
      split≡ (ρ p.link) y
      (λ e. even p.link e (rw (eq-eqb (ρ p.link) y e)))
      (λ n.
      let s : undone (p ∷ ps) y ≡ undone ps y = rw (ne_eqb (ρ p.link) y n) in
      undone_either ps y (λ e. odd (s ∙ e)) (λ x h e. even x h (s ∙ e)))

  undone_one : (ps : List Packet) (y z : ℕ) → undone ps y ≡ undone ps z → y ≡ z
  undone_one ps y z e =
      undone_either ps y
      (λ a. undone_either ps z (λ b. omega (arith, a, b, e)) (λ x h b. absurd (omega (arith, a, b, e))))
      (λ w g a. undone_either ps z
      (λ b. absurd (omega (arith, a, b, e)))
      (λ x h b. let q : w ≡ x = omega (arith, a, b, e) in sym g ∙ ap ρ q ∙ h))

  undone_at :
      (p : Packet) {qs : List Packet} → Memᴰ p qs → All (λ q. ρ p.link ≡ ρ q.link → p.link ≡ q.link) qs →
      undone qs (ρ p.link) ≡ 2 * p.link
  unfolding undone
  undone_at p (Memᴰ.head {x = q} e) (all_cons a rest) = rw (e, eq-eqb (ρ q.link) (ρ q.link) refl)
  undone_at p (Memᴰ.tail {x = q} m) (all_cons a rest) =
      split≡ (ρ q.link) (ρ p.link)
      (λ e. rw (eq-eqb (ρ q.link) (ρ p.link) e, a (sym e)))
      (λ n. rw (ne_eqb (ρ q.link) (ρ p.link) n) (undone_at p m rest))

  undone_mapped :
      (ps : List Packet) {qs : List Packet} → All (λ q. undone ps (ρ q.link) ≡ 2 * q.link) qs →
      map (relinked (undone ps)) (map (relinked ρ) qs) ≡ map (relinked (λ x. 2 * x)) qs
  undone_mapped ps all_nil = refl
  undone_mapped ps (all_cons e es) = rw (e, undone_mapped ps es)

  all_undone : (ps : List Packet) → Apart ρ ps → map (relinked (undone ps)) (map (relinked ρ) ps) ≡ map (relinked (λ x. 2 * x)) ps
  all_undone ps a = undone_mapped ps (all_in ps (λ p m. undone_at p m (all_at m a)))

module _ (ρ : ℕ → ℕ) (C : Container) (f : List ℕ) (a : Apart ρ (packets_in C f)) where
  -- both are read as the file with its links doubled
  read_apart : (o : Options) → read (relinking ρ C) f o ≡ read C f o
  read_apart o =
      let double : ℕ → ℕ = λ x. 2 * x in
      let M : Container = relinking double C in
      let u : ℕ → ℕ = undone ρ (packets_in C f) in
      let e : packets_in M f ≡ map (relinked u) (packets_in (relinking ρ C) f) =
      packets_relinked double C f ∙ sym (all_undone ρ (packets_in C f) a) ∙ ap (map (relinked u)) (sym (packets_relinked ρ C f)) in
      sym (read_renamed u (undone_one ρ (packets_in C f)) (relinking ρ C) M f f o e (tail_relinked double C f ∙ sym (tail_relinked ρ C f)))
      ∙ read_renamed double (λ x y q. omega (arith, q)) C M f f o (packets_relinked double C f) (tail_relinked double C f)

  pub outcome_apart : (o : Options) → outcome (relinking ρ C) f o ≡ outcome C f o
  outcome_apart o = outcome_by ρ C f o (read_apart o)

-- ---- by the handle alone

bare_link : (index handle : ℕ) → link_of index (handle % 4096) % 4096 ≡ link_of 0 (handle % 4096)
bare_link index handle = omega arith

fragment_bare : (index rx time : ℕ) (b : List ℕ) → if_there (λ l. l % 4096) (fragment index rx time b) ≡ fragment 0 rx time b
unfolding fragment if_there
fragment_bare index rx time b = split_b (leb (4 + le16 b 2) (length b)) (λ e. rw (e, bare_link index (le16 b 0))) (λ e. rw e)

fragment_index : (index rx time : ℕ) (b : List ℕ) → fragment index rx time b ≡ if_there (link_of index) (fragment 0 rx time b)
unfolding fragment if_there
fragment_index index rx time b =
    let z : link_of index (link_of 0 (le16 b 0 % 4096)) ≡ link_of index (le16 b 0 % 4096) = omega arith in
    split_b (leb (4 + le16 b 2) (length b)) (λ e. rw (e, z)) (λ e. rw e)

-- a monitor's record is read as if its index were 0
pub monitor_bare : (flags time : ℕ) (b : List ℕ) → if_there (λ l. l % 4096) (monitor_packet flags time b) ≡ monitor_packet (flags % 65536) time b
unfolding monitor_packet if_there
monitor_bare flags time b =
    let m : flags % 65536 % 65536 ≡ flags % 65536 = omega arith in
    let d : flags % 65536 / 65536 ≡ 0 = omega arith in
    split_b (eqb (flags % 65536) 4)
    (λ p. rw (m, d, p) (fragment_bare (flags / 65536) 0 time b))
    (λ p. split_b (eqb (flags % 65536) 5) (λ q. rw (m, d, p, q) (fragment_bare (flags / 65536) 1 time b)) (λ q. rw (m, d, p, q)))

-- and with an index it holds the packet of index 0, its link renamed
pub monitor_index :
    (index low time : ℕ) (b : List ℕ) → low < 65536 →
    monitor_packet (65536 * index + low) time b ≡ if_there (link_of index) (monitor_packet low time b)
unfolding monitor_packet if_there
monitor_index index low time b h =
    let m : (65536 * index + low) % 65536 ≡ low = omega arith in
    let d : (65536 * index + low) / 65536 ≡ index = omega arith in
    let n : low % 65536 ≡ low = omega arith in
    let o : low / 65536 ≡ 0 = omega arith in
    split_b (eqb low 4)
    (λ p. rw (m, d, n, o, p) (fragment_index index 0 time b))
    (λ p. split_b (eqb low 5) (λ q. rw (m, d, n, o, p, q) (fragment_index index 1 time b)) (λ q. rw (m, d, n, o, p, q)))

h4_bare : (rx time : ℕ) (b : List ℕ) → if_there (λ l. l % 4096) (h4_packet rx time b) ≡ h4_packet rx time b
unfolding h4_packet if_there
h4_bare rx time b = split_b (eqb (get_or b 0 0) 2) (λ e. rw e (fragment_bare 0 rx time (drop 1 b))) (λ e. rw e)

-- 1001 and 1002 have index 0: the link is the handle
pub hci_bare : (datalink flags time : ℕ) (b : List ℕ) → if_there (λ l. l % 4096) (hci_packet datalink flags time b) ≡ hci_packet datalink flags time b
unfolding hci_packet if_there
hci_bare datalink flags time b =
    split_b (eqb (flags / 2 % 2) 1)
    (λ p. rw p)
    (λ p. split_b (eqb datalink 1002) (λ q. rw (p, q) (h4_bare (flags % 2) time b)) (λ q. rw (p, q) (fragment_bare 0 (flags % 2) time b)))

-- ---- document 01's reading

-- a trace in which each handle has one index gives what it gives by the handle alone
pub agrees : (f : List ℕ) (o : Options) → OneIndexEach (packets_in btsnoop f) → outcome by_handle f o ≡ outcome btsnoop f o
agrees f o a = outcome_apart (λ l. l % 4096) btsnoop f a o

pub agrees_imported :
    (f : List ℕ) (work : ℕ) (o : Options) → OneIndexEach (packets_in btsnoop f) →
    imported by_handle f work o ≡ imported btsnoop f work o
agrees_imported f work o a = imported_by btsnoop by_handle f work o (agrees f o a)

pub agrees_imported_in :
    (f : List ℕ) (work places : ℕ) (o : Options) → OneIndexEach (packets_in btsnoop f) →
    imported_in by_handle f work places o ≡ imported_in btsnoop f work places o
agrees_imported_in f work places o a = imported_in_by btsnoop by_handle f work o (agrees f o a) places

one_each : (index : ℕ) {ps : List Packet} → OneIndex index ps → OneIndexEach ps
one_each index a = all_map (λ p e. all_map (λ q d h. omega (arith, e, d, h)) a) a

-- so does a trace whose packets share one index
pub agrees_one : (index : ℕ) (f : List ℕ) (o : Options) → OneIndex index (packets_in btsnoop f) → outcome by_handle f o ≡ outcome btsnoop f o
agrees_one index f o a = agrees f o (one_each index a)

packet_bare : (link : ℕ) (r : List ℕ) → link ≢ 2001 → if_there (λ l. l % 4096) (packet_of link r) ≡ packet_of link r
unfolding packet_of
packet_bare link r n = rw (ne_eqb link 2001 n) (hci_bare link (be32 r 8) (milliseconds r) (drop 24 r))

-- and any trace of a datalink without an index
pub no_index : (f : List ℕ) (o : Options) → datalink f ≢ 2001 → outcome by_handle f o ≡ outcome btsnoop f o
unfolding packets_in records read file_pieces
no_index f o n =
    let e : packets_in by_handle f ≡ packets_in btsnoop f =
    ap (λ (g : List ℕ → Option Packet). packets g (records btsnoop f)) (fun_ext (λ r. packet_bare (datalink f) r n)) in
    let w : file_wrong by_handle o.judging f ≡ file_wrong btsnoop o.judging f = fun_ext (λ d. rw e) in
    outcome_by (λ l. l % 4096) btsnoop f o (rw (e, w, tail_relinked (λ l. l % 4096) btsnoop f))
