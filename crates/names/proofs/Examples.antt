-- Names that are found by computing.
use Prim.Native.Nat.{ℕ}
use Prim.Native.String.{String}
use mathlib.Core.Path.{◌≡◌, refl}
use mathlib.Core.List.{List, [], ◌∷◌}
use Rattle.laws.specs.Answers.{Outcome, refuses}
use Rattle.laws.specs.Numbers.{be32}
use Rattle.mdr.specs.Sum.{checksum_of}
use Rattle.mdr.specs.Frame.{judged, unpack_of}
use Rattle.mdr.specs.Types.{type_of}
use Rattle.commands.specs.Text.{ascii}
use Rattle.names.specs.Digits.{hex_digit, hex2, decimal, decimal6, digits}
use Rattle.commands.specs.Commands.{t1, t2, name_in}
use Rattle.commands.specs.Labels.{type_name, table_of, command_name}
use Rattle.names.specs.Names.{way_name, frame_name, given, fixture_name}

-- a frame without payload, of a type and with the sum that belongs to it
empty : ℕ → List ℕ
empty t = 0x3E ∷ t ∷ 0x00 ∷ 0x00 ∷ 0x00 ∷ 0x00 ∷ 0x00 ∷ t ∷ 0x3C ∷ []

-- a frame with a payload of one byte
single : ℕ → ℕ → ℕ → ℕ → List ℕ
single t q b sum = 0x3E ∷ t ∷ q ∷ 0x00 ∷ 0x00 ∷ 0x00 ∷ 0x01 ∷ b ∷ sum ∷ 0x3C ∷ []

text : String → Outcome
text s = given (ascii s)

examples :
    (fixture_name 0 1 1 (empty 0x01) ≡ text "mdr-packet-0-000001-rx.type-ACK-01.seq-00.cmd-NO_COMMAND-00.bin")
    × (fixture_name 1700000000123 1234567 0 (single 0x0C 0x01 0xD9 0xE7) ≡ text "mdr-packet-1700000000123-1234567-tx.type-DATA_MDR-0c.seq-01.cmd-GENERAL_SETTING_NTNY_PARAM-d9.bin")
    × (fixture_name 7 42 1 (single 0x0E 0x00 0x5A 0x69) ≡ text "mdr-packet-7-000042-rx.type-DATA_MDR_NO2-0e.seq-00.cmd-SAFE_LISTENING_GET_EXTENDED_PARAM-5a.bin")
    × (fixture_name 7 42 1 (single 0x0E 0x00 0x00 0x0F) ≡ text "mdr-packet-7-000042-rx.type-DATA_MDR_NO2-0e.seq-00.cmd-UNKNOWN-00.bin")
    × (fixture_name 7 42 1 (single 0x2D 0x00 0x06 0x34) ≡ text "mdr-packet-7-000042-rx.type-UNKNOWN-2d.seq-00.cmd-UNKNOWN-06.bin")
    × (fixture_name 7 42 1 [] ≡ refuses 10 [])
    × (fixture_name 7 42 1 (single 0x0C 0x00 0x06 0x14) ≡ refuses 17 (0x14 ∷ 0x13 ∷ []))
unfolding empty single text fixture_name unpack_of judged checksum_of be32 type_of frame_name type_name command_name table_of name_in t1 t2 way_name decimal digits decimal6 hex2 hex_digit
examples = (refl, refl, refl, refl, refl, refl, refl)
