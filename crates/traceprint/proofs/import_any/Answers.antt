-- What import wrote lies in its output.
use Rattle.streams.specs.Streams as streams
use Rattle.traceprint.proofs.Within.{import_lies}
use Rattle.traceprint.proofs.import_any.Goals as goal

pub returns-clause-lies : goal.returns-clause-lies
returns-clause-lies c = import_lies _ _ _ _ _ _ _ _ c.import.ensures

pub returns-clause-meets : goal.returns-clause-meets
unfolding streams.channel_of
returns-clause-meets c = c.import.ensures.meets
