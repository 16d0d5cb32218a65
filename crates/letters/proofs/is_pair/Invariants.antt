use Prim.Native.Nat.{◌+◌, ◌*◌}
use Rattle.letters.proofs.Stems.{Pairing}
use Rattle.letters.proofs.is_pair.Given as goal

abbrev pub invariant-loop-p : goal.invariant-loop-p
invariant-loop-p l = Pairing (256 * l.stem + l.ending) l.found l.p-index
