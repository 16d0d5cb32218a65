-- What the definitions say with each container's words put in: for btsnoop they are document 01's, with 3, 4, 16 and the datalink.
use Prim.Native.Nat.{ℕ, ◌+◌, ◌*◌, ◌/◌, ◌≤◌}
use mathlib.Core.Path.{◌≡◌, refl}
use mathlib.Core.Bool.{true, cond}
use mathlib.Core.List.{List, [], ◌∷◌}
use mathlib.Core.Option.{Option, some}
use lib.ListN.{length, drop}
use Rattle.laws.specs.Lists.{flat, All}
use Rattle.laws.specs.Answers.{Answer, Meets}
use Rattle.container.specs.Packets.{packets}
use Rattle.container.specs.Container.{records_in, records, tail_offset, packets_in}
use Rattle.btsnoop.specs.Header.{is_btsnoop, datalink, is_datalink}
use Rattle.btsnoop.specs.Records.{record_size, btsnoop}
use Rattle.btsnoop.specs.Packets.{packet_of}
use Rattle.pcap.specs.Header.{is_big, is_nano, is_pcap, link_of, is_link}
use Rattle.pcap.specs.Records as pcap_records
use Rattle.pcap.specs.Packets as pcap_packets
use Rattle.pcap.specs.Pcap.{pcap}
use Rattle.l2cap.specs.Pdus.{pdus}
use Rattle.channels.specs.Tried.{source}
use Rattle.rfcomm.specs.Pieces.{Judging, unchecked, judged_by, kinds, wrong_on, pieces}
use Rattle.outcome.specs.Import.{Tail, tolerant, Options, by_source, missing, file_pieces, file_wrong, read, ends_well, outcome, imported}
use Rattle.cut.specs.Recording.{Record, Recording, rows, file, cut}
use Rattle.cut.specs.Left.{left_from, records_left, tail_left, sent, sent_in}
use Rattle.cut.specs.Honest.{pdus_in, Honest}
use Rattle.cut.proofs.ByValue.{HonestByValue, claim_by_value}
use Rattle.btsnoop.proofs.Laws.{lawful}
use Rattle.cut.specs.Claim.{list_left, AsLeft, CutClaim}

-- ---- btsnoop

module _ (f : List ℕ) (o : Options) where
  pub btsnoop_reading :
      (records btsnoop f ≡ records_in record_size (drop 16 f)) × (tail_offset btsnoop f ≡ 16 + length (flat (records btsnoop f))) ×
      (file_pieces btsnoop o.judging f ≡ pieces (judged_by o.judging (pdus (packets (packet_of (datalink f)) (records btsnoop f))))) ×
      (file_wrong btsnoop o.judging f ≡ λ d. wrong_on d (kinds (judged_by o.judging (pdus (packets (packet_of (datalink f)) (records btsnoop f)))))) ×
      (outcome btsnoop f o ≡
      cond (is_btsnoop f) (cond (is_datalink (datalink f)) (cond (ends_well btsnoop o.tail f) (read btsnoop f o) (missing 5 (tail_offset btsnoop f ∷ []))) (missing 4 (datalink f ∷ []))) (missing 3 []))
  unfolding records tail_offset packets_in file_pieces outcome
  btsnoop_reading = (refl, refl, refl, refl, refl)

  pub pcap_reading :
      (records pcap f ≡ records_in (pcap_records.record_size (is_big f)) (drop 24 f)) × (tail_offset pcap f ≡ 24 + length (flat (records pcap f))) ×
      (file_pieces pcap o.judging f ≡ pieces (judged_by o.judging (pdus (packets (pcap_packets.packet_of (is_big f) (is_nano f)) (records pcap f))))) ×
      (file_wrong pcap o.judging f ≡ λ d. wrong_on d (kinds (judged_by o.judging (pdus (packets (pcap_packets.packet_of (is_big f) (is_nano f)) (records pcap f)))))) ×
      (outcome pcap f o ≡
      cond (is_pcap f) (cond (is_link (link_of f)) (cond (ends_well pcap o.tail f) (read pcap f o) (missing 5 (tail_offset pcap f ∷ []))) (missing 22 (link_of f ∷ []))) (missing 21 []))
  unfolding records tail_offset packets_in file_pieces outcome
  pcap_reading = (refl, refl, refl, refl, refl)

module _ (R : Recording btsnoop) (n : ℕ) (rs : List Record) (by : Judging) where
  pub btsnoop_left :
      (records_left R n ≡ left_from 16 n R.records) × (tail_left R n ≡ 16 + length (flat (rows (records_left R n)))) ×
      (sent_in R rs ≡ sent (packet_of (datalink R.header)) rs) × (pdus_in R rs ≡ pdus (packets (packet_of (datalink R.header)) (rows rs)))
  unfolding records_left tail_left pdus_in
  btsnoop_left = (refl, refl, refl, refl)

  -- the two rules that speak of the container
  pub btsnoop_honest : Honest by R → (length R.header ≡ 16) × (is_btsnoop R.header ≡ true) × (is_datalink (datalink R.header) ≡ true) × All (λ (r : Record). record_size r.bytes ≡ length r.bytes) R.records
  btsnoop_honest H = (H.header.0, H.header.1, H.header.2, H.whole)

module _ (R : Recording pcap) (n : ℕ) (rs : List Record) (by : Judging) where
  pub pcap_left :
      (records_left R n ≡ left_from 24 n R.records) × (tail_left R n ≡ 24 + length (flat (rows (records_left R n)))) ×
      (sent_in R rs ≡ sent (pcap_packets.packet_of (is_big R.header) (is_nano R.header)) rs)
  unfolding records_left tail_left
  pcap_left = (refl, refl, refl)

  pub pcap_honest : Honest by R → (length R.header ≡ 24) × (is_pcap R.header ≡ true) × (is_link (link_of R.header) ≡ true) × All (λ (r : Record). pcap_records.record_size (is_big R.header) r.bytes ≡ length r.bytes) R.records
  pcap_honest H = (H.header.0, H.header.1, H.header.2, H.whole)

-- ---- the claims

module _ (lent : List ℕ) (work : ℕ) (o : Options) (out : List ℕ) (answer : Answer) (out' : List ℕ) where
  pub btsnoop_says :
      CutClaim btsnoop lent work o out answer out' →
      (R : Recording btsnoop) → Honest o.judging R → (n : ℕ) → 16 ≤ n → n ≤ length (file R) →
      lent ≡ cut R n → o.channel ≡ some (R.d / 2) → o.tail ≡ tolerant → 8 * n ≤ work → length (list_left R n) ≤ length out →
      AsLeft o.judging R n out answer out'
  btsnoop_says c = c

  pub pcap_says :
      CutClaim pcap lent work o out answer out' →
      (R : Recording pcap) → Honest o.judging R → (n : ℕ) → 24 ≤ n → n ≤ length (file R) →
      lent ≡ cut R n → o.channel ≡ some (R.d / 2) → o.tail ≡ tolerant → 8 * n ≤ work → length (list_left R n) ≤ length out →
      AsLeft o.judging R n out answer out'
  pcap_says c = c

-- the claim in document 01's own words: btsnoop, packed frames, and the source's channel rule with FCS unchecked, by which a PDU's place does not matter
pub source_says :
    (lent : List ℕ) (work : ℕ) (channel : Option ℕ) (tail : Tail) (out : List ℕ) (answer : Answer) (out' : List ℕ) → Meets (imported btsnoop lent work (by_source channel tail)) out answer out' →
    (R : Recording btsnoop) → HonestByValue R → (n : ℕ) → 16 ≤ n → n ≤ length (file R) →
    lent ≡ cut R n → channel ≡ some (R.d / 2) → tail ≡ tolerant → 8 * n ≤ work → length (list_left R n) ≤ length out →
    AsLeft (unchecked source) R n out answer out'
source_says = claim_by_value lawful
