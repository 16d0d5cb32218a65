-- The options of import by number, in a list: the channel, the tail rule, the container, whether FCS is checked. What a list lacks has its default:
-- any channel, strict, btsnoop, unchecked.
use Rattle.std.specs.Prelude.{ℕ, ◌≡◌, cond, List, [], ◌∷◌, get_or, leb}
use Rattle.std.proofs.Math.Option.{Option, none, some}
use Rattle.channels.specs.Tried.{source}
use Rattle.outcome.specs.Import.{Options}
use Rattle.options.specs.Numbers.{tail_in, container_in, fcs_in}
use Rattle.capture.specs.Options.{options_of}
use Rattle.capture.specs.declared.Options as code

-- over 255 is any
unfoldable pub channel_number : ℕ → Option ℕ
channel_number n = cond (leb n 255) (some n) none

abbrev pub options_in : List ℕ → Options
options_in l = record { channel = channel_number (get_or l 0 256); tail = tail_in l; judging = record { rule = source; fcs = fcs_in l } }

-- those of the calls that take two numbers: FCS is unchecked
abbrev pub options_number : ℕ → ℕ → Options
options_number channel tail = options_in (channel ∷ tail ∷ [])

-- the code's options are those of a list
pub record AsOptions (l : List ℕ) (o : code.Options) : Type 0 where
  pub chosen : options_of o ≡ options_in l
  pub container : o.container ≡ container_in l
