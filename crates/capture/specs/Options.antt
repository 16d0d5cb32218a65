-- What a caller of import chooses: the code's options, and the definition's that they stand for.
use Rattle.channels.specs.Tried.{source}
use Rattle.outcome.specs.Import as import
use Rattle.opening.specs.Opening.{tail_of}
use Rattle.streams.specs.Streams.{channel_of}
use Rattle.capture.specs.declared.Options.{Options}

-- beside the container; the code has the source's channel rule alone
abbrev pub options_of : Options → import.Options
options_of o = record { channel = channel_of o.channel; tail = tail_of o.tail; judging = record { rule = source; fcs = o.fcs } }
