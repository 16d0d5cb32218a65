-- The parts of a name, its length, and the name of a wire that was looked at.
use Rattle.std.specs.Prelude.{◌≡◌, List, ◌++◌, ℕ, ◌+◌, ◌<◌, length}
use Rattle.mdr.specs.Types.{type_of}
use Rattle.commands.specs.Text.{ascii}
use Rattle.names.specs.Digits.{decimal, decimal6, hex2}
use Rattle.commands.specs.Labels.{type_name, command_name}
use Rattle.names.specs.Names.{way_name, name_len}
use Rattle.mdr.specs.declared.Frame.{Frame}

-- mdr-packet-<ms>-<counter>-<rx|tx>
unfoldable pub head_of : ℕ → ℕ → ℕ → List ℕ
head_of ms counter rx = ascii "mdr-packet-" ++ decimal ms ++ ascii "-" ++ decimal6 counter ++ ascii "-" ++ way_name rx

abbrev pub head_len : ℕ → ℕ → ℕ
head_len ms counter = 15 + length (decimal ms) + length (decimal6 counter)

-- <label><NAME>-<hex>
unfoldable pub part_of : List ℕ → List ℕ → ℕ → List ℕ
part_of label name b = label ++ name ++ ascii "-" ++ hex2 b

abbrev pub part_len : List ℕ → List ℕ → ℕ
part_len label name = 3 + length label + length name

-- .type-<NAME>-<hex>
unfoldable pub type_part : ℕ → List ℕ
type_part kind = part_of (ascii ".type-") (type_name (type_of kind)) kind

abbrev pub type_len : ℕ → ℕ
type_len kind = 9 + length (type_name (type_of kind))

-- .seq-<hex>
unfoldable pub seq_part : ℕ → List ℕ
seq_part seq = ascii ".seq-" ++ hex2 seq

-- .cmd-<NAME>-<hex>
unfoldable pub command_part : Frame → List ℕ
command_part f = part_of (ascii ".cmd-") (command_name f) f.first

abbrev pub command_len : Frame → ℕ
command_len f = 8 + length (command_name f)

-- a length as the code has it, with a bound that spares callers a sum that wraps
pub record NameLen (ms counter : ℕ) (f : Frame) (r : ℕ) : Type 0 where
  pub is : r ≡ name_len ms counter f
  pub small : r < 10000
