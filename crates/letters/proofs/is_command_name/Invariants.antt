use Rattle.letters.proofs.Stems.{Trying}
use Rattle.letters.proofs.is_command_name.Given as goal

abbrev pub invariant-loop-stem : goal.invariant-loop-stem
invariant-loop-stem l = Trying l.name l.stem
