-- The name of a fixture: mdr-packet-<ms>-<counter>-<rx|tx>.type-<NAME>-<hex>.seq-<hex>.cmd-<NAME>-<hex>.bin
use Rattle.std.specs.Prelude.{cond, List, [], ◌∷◌, ◌++◌, ℕ, ◌+◌, eqb, length, get_or, Option, Some, None}
use Rattle.laws.specs.Answers.{Outcome, gives, refuses}
use Rattle.mdr.specs.Types.{type_of}
use Rattle.mdr.specs.Frame.{unpack_of}
use Rattle.commands.specs.Text.{ascii}
use Rattle.commands.specs.Labels.{type_name, command_name}
use Rattle.names.specs.Digits.{decimal, decimal6, hex2}
use Rattle.mdr.specs.declared.Frame.{Frame}

unfoldable pub way_name : ℕ → List ℕ
way_name rx = cond (eqb rx 1) (ascii "rx") (ascii "tx")

-- of milliseconds, a counter, rx (1 from the headset, 0 to it), and a frame
unfoldable pub frame_name : ℕ → ℕ → ℕ → Frame → List ℕ
frame_name ms counter rx f =
    ascii "mdr-packet-" ++ decimal ms ++ ascii "-" ++ decimal6 counter ++ ascii "-" ++ way_name rx
    ++ ascii ".type-" ++ type_name (type_of f.kind) ++ ascii "-" ++ hex2 f.kind
    ++ ascii ".seq-" ++ hex2 f.seq
    ++ ascii ".cmd-" ++ command_name f ++ ascii "-" ++ hex2 f.first
    ++ ascii ".bin"

-- its length: the same both ways
unfoldable pub name_len : ℕ → ℕ → Frame → ℕ
name_len ms counter f = 43 + length (decimal ms) + length (decimal6 counter) + length (type_name (type_of f.kind)) + length (command_name f)

-- the frame that unpacking gives: its first two values are type and sequence number
abbrev pub frame_of : List ℕ → List ℕ → Frame
frame_of values payload = record { kind = get_or values 0 0; seq = get_or values 1 0; size = length payload; first = get_or payload 0 0 }

-- what a look at a wire sees: the frame that unpacking gives, or none
abbrev pub look_of : Outcome → Option Frame
look_of (gives values payload) = Some (frame_of values payload)
look_of (refuses n values) = None

unfoldable pub look_at : List ℕ → Option Frame
look_at wire = look_of (unpack_of wire)

-- a name, with its length as the answer
abbrev pub given : List ℕ → Outcome
given name = gives (length name ∷ []) name

abbrev pub named : ℕ → ℕ → ℕ → Outcome → Outcome
named ms counter rx (gives values payload) = given (frame_name ms counter rx (frame_of values payload))
named ms counter rx (refuses n values) = refuses n values

-- refused as unpacking refuses
unfoldable pub fixture_name : ℕ → ℕ → ℕ → List ℕ → Outcome
fixture_name ms counter rx wire = named ms counter rx (unpack_of wire)
