use Rattle.trace.proofs.Finding.{next_whole, next_less, next_can}
use Rattle.trace.proofs.reader.ReaderIterator.next.Goals as goal

pub invariant_of-found : goal.invariant_of-found
invariant_of-found c = record { whole = search next_whole }

pub returns-clause-goes : goal.returns-clause-goes
returns-clause-goes c = record {
  on = λ _. (search next_can, tt, search next_less);
  keeps = search next_can;
  rests = λ _. tt;
}
