-- The name of a frame with its stamp.
use Rattle.std.specs.Prelude.{List, ℕ}
use Rattle.items.specs.Items.{rx_of}
use Rattle.mdr.specs.declared.Frame.{Frame}
use Rattle.names.specs.Names.{frame_name}
use Rattle.names.specs.declared.Stamp.{Stamp}

abbrev pub name_with : Stamp → Frame → List ℕ
name_with stamp f = frame_name stamp.ms stamp.counter (rx_of stamp.direction) f
