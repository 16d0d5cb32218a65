-- The passes by which import finds its spans, in order: the first opens the trace, three gather the pieces, the last chooses. Each finds in work what the one
-- before it left there.
use Rattle.std.specs.Prelude.{ℕ, None, List, get_or}
use Rattle.trace.specs.Formats.{format_of}
use Rattle.packets.specs.Adding.{ReadTo}
use Rattle.packets.specs.declared.Packets.{Packets}
use Rattle.gathering.specs.Gathering.{Gathers}
use Rattle.gathering.specs.declared.Gathered.{Gathered}
use Rattle.streams.specs.Streams.{ChoosesStream, Choice}
use Rattle.capture.specs.declared.Options.{Options}

-- the number at each place of a list: of wrong frames on each DLCI
abbrev pub count_of : List ℕ → ℕ → ℕ
count_of wrong d = get_or wrong d 0

-- what the passes promise, with what they give and the work that they leave
pub record Passes (f : List ℕ) (o : Options) (p : Packets) (g : Gathered) (c : Choice) (w₃ : List ℕ) : Type 0 where
  -- the table of packets, of every link
  pub w₁ : List ℕ
  pub read_packets : ReadTo (format_of o.container f) f None w₁ p
  -- so many PDUs and pieces, the table of these; and how many frames have a wrong FCS
  pub w₂ : List ℕ
  pub gather : Gathers o.fcs f w₁ p.count w₂ g
  -- the DLCI chosen
  pub choose_stream : ChoosesStream f w₂ g.pieces o.channel w₃ c
