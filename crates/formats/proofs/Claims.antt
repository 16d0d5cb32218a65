-- The claim of the cut for each container, from the one theorem; for both channel rules, FCS checked or not.
use Prim.Native.Nat.{ℕ}
use mathlib.Core.List.{List}
use Rattle.laws.specs.Answers.{Answer, Meets}
use Rattle.btsnoop.specs.Records.{btsnoop}
use Rattle.btsnoop.proofs.Laws as btsnoop_laws
use Rattle.pcap.specs.Pcap.{pcap}
use Rattle.pcap.proofs.Laws as pcap_laws
use Rattle.outcome.specs.Import.{Options, imported}
use Rattle.cut.specs.Claim.{CutClaim}
use Rattle.cut.proofs.Theorem.{cut_claim}

module _ (lent : List ℕ) (work : ℕ) (o : Options) (out : List ℕ) (a : Answer) (out' : List ℕ) where
  -- every n from 16 to the file's length
  pub btsnoop_claim : Meets (imported btsnoop lent work o) out a out' → CutClaim btsnoop lent work o out a out'
  btsnoop_claim m = cut_claim btsnoop_laws.lawful lent work o out a out' m

  -- every n from 24
  pub pcap_claim : Meets (imported pcap lent work o) out a out' → CutClaim pcap lent work o out a out'
  pcap_claim m = cut_claim pcap_laws.lawful lent work o out a out' m
