-- The name of a type, and the name of a frame's command in the table that the type selects.
use Rattle.std.specs.Prelude.{cond, List, [], ℕ, eqb}
use Rattle.mdr.specs.declared.DataType.{DataType}
use Rattle.mdr.specs.declared.DataType.TheVariants.{Data, Ack, DataMcNo1, DataIcd, DataEv, DataMdr, DataCommon, DataMdrNo2, Shot, ShotMcNo1, ShotIcd, ShotEv, ShotMdr, ShotCommon, ShotMdrNo2, Unknown}
use Rattle.mdr.specs.Types.{byte_of}
use Rattle.commands.specs.Text.{ascii}
use Rattle.commands.specs.Commands.{Entry, t1, t2, name_in}
use Rattle.mdr.specs.declared.Frame.{Frame}

-- sixteen cases: fifteen values and the rest
unfoldable pub type_name : DataType → List ℕ
type_name Data = ascii "DATA"
type_name Ack = ascii "ACK"
type_name DataMcNo1 = ascii "DATA_MC_NO1"
type_name DataIcd = ascii "DATA_ICD"
type_name DataEv = ascii "DATA_EV"
type_name DataMdr = ascii "DATA_MDR"
type_name DataCommon = ascii "DATA_COMMON"
type_name DataMdrNo2 = ascii "DATA_MDR_NO2"
type_name Shot = ascii "SHOT"
type_name ShotMcNo1 = ascii "SHOT_MC_NO1"
type_name ShotIcd = ascii "SHOT_ICD"
type_name ShotEv = ascii "SHOT_EV"
type_name ShotMdr = ascii "SHOT_MDR"
type_name ShotCommon = ascii "SHOT_COMMON"
type_name ShotMdrNo2 = ascii "SHOT_MDR_NO2"
type_name (Unknown b) = ascii "UNKNOWN"

-- the table that a type byte selects; the other types have none
unfoldable pub table_of : ℕ → List Entry
table_of b = cond (eqb b (byte_of DataMdr)) t1 (cond (eqb b (byte_of DataMdrNo2)) t2 [])

-- a frame is its type byte, its sequence number, its payload's length, and the payload's first byte, 0 if it has none

unfoldable pub command_name : Frame → List ℕ
command_name f = cond (eqb f.size 0) (ascii "NO_COMMAND") (name_in (table_of f.kind) f.first)
