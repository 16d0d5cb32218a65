use native.Mathlib.Omega.{arith}
use Rattle.pcap.proofs.Headers.{encoding_short, big_micro_is, big_nano_is, little_micro_is, little_nano_is, no_magic}
use Rattle.pcap.proofs.encoding_of.Goals as goal

pub returns-then-file-lt24 : goal.returns-then-file-lt24
returns-then-file-lt24 c = search encoding_short

pub returns-in_default : goal.returns-in_default
returns-in_default c = search no_magic

pub returns-in-2712847316 : goal.returns-in-2712847316
returns-in-2712847316 c = big_micro_is _ (omega arith) _ c.get_be32.ensures (λ k. omega (arith, c.type_inv.file k)) (omega arith)

pub returns-in-2712812621 : goal.returns-in-2712812621
returns-in-2712812621 c = big_nano_is _ (omega arith) _ c.get_be32.ensures (λ k. omega (arith, c.type_inv.file k)) (omega arith)

pub returns-in-3569595041 : goal.returns-in-3569595041
returns-in-3569595041 c = little_micro_is _ (omega arith) _ c.get_be32.ensures (λ k. omega (arith, c.type_inv.file k)) (omega arith)

pub returns-in-1295823521 : goal.returns-in-1295823521
returns-in-1295823521 c = little_nano_is _ (omega arith) _ c.get_be32.ensures (λ k. omega (arith, c.type_inv.file k)) (omega arith)
