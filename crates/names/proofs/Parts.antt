-- Laws of specs/Parts.
use mathlib.Core.Path.{◌≡◌}
use mathlib.Core.List.{List, ◌++◌, append_assoc}
use Prim.Native.Nat.{ℕ}
use native.Mathlib.Omega.{arith}
use lib.Dec.{eqb}
use lib.ListN.{length, length-append}
use Rattle.laws.proofs.Choice.{split_b}
use Rattle.laws.specs.Answers.{Outcome, gives, refuses}
use Rattle.mdr.specs.Types.{type_of}
use Rattle.mdr.specs.Frame.{unpack_of}
use Rattle.commands.specs.Text.{ascii}
use Rattle.names.specs.Digits.{hex2}
use Rattle.names.proofs.Digits.{length_hex}
use Rattle.commands.specs.Labels.{type_name, command_name}
use Rattle.names.specs.Names.{way_name, frame_name, name_len, frame_of, look_of, look_at, given, named, fixture_name}
use Rattle.mdr.specs.declared.Frame.{Frame}
use Rattle.std.specs.Prelude.{Some}
use Rattle.names.specs.Parts.{head_of, head_len, part_of, part_len, type_part, type_len, seq_part, command_part, command_len}

regroup : (h a b c d s q e f g i j : List ℕ) → h ++ a ++ b ++ c ++ d ++ s ++ q ++ e ++ f ++ g ++ i ++ j ≡ h ++ (a ++ b ++ c ++ d) ++ (s ++ q) ++ (e ++ f ++ g ++ i) ++ j
regroup h a b c d s q e f g i j = simp append_assoc

pub name_parts : (ms counter rx : ℕ) (f : Frame) → frame_name ms counter rx f ≡ head_of ms counter rx ++ type_part f.kind ++ seq_part f.seq ++ command_part f ++ ascii ".bin"
unfolding frame_name head_of type_part seq_part command_part part_of
name_parts ms counter rx f =
    regroup (head_of ms counter rx) (ascii ".type-") (type_name (type_of f.kind)) (ascii "-") (hex2 f.kind) (ascii ".seq-") (hex2 f.seq) (ascii ".cmd-") (command_name f) (ascii "-") (hex2 f.first) (ascii ".bin")

pub length_way : (rx : ℕ) → length (way_name rx) ≡ 2
unfolding way_name
length_way rx = split_b (eqb rx 1) (λ e. rw e) (λ e. rw e)

pub length_head : (ms counter rx : ℕ) → length (head_of ms counter rx) ≡ head_len ms counter
unfolding head_of
length_head ms counter rx = simp length-append (omega (arith, length_way rx))

pub length_part : (label name : List ℕ) (b : ℕ) → length (part_of label name b) ≡ part_len label name
unfolding part_of
length_part label name b = simp length-append (omega (arith, length_hex b))

pub length_type : (kind : ℕ) → length (type_part kind) ≡ type_len kind
unfolding type_part
length_type kind = omega (arith, length_part (ascii ".type-") (type_name (type_of kind)) kind)

pub length_seq : (seq : ℕ) → length (seq_part seq) ≡ 7
unfolding seq_part
length_seq seq = omega (arith, length_hex seq)

pub length_command : (f : Frame) → length (command_part f) ≡ command_len f
unfolding command_part
length_command f = omega (arith, length_part (ascii ".cmd-") (command_name f) f.first)

pub length_frame_name : (ms counter rx : ℕ) (f : Frame) → length (frame_name ms counter rx f) ≡ name_len ms counter f
unfolding frame_name name_len
length_frame_name ms counter rx f = simp length-append (omega (arith, length_way rx, length_hex f.kind, length_hex f.seq, length_hex f.first))

-- ---- naming a wire that was looked at

fixture_named : (ms counter rx : ℕ) (o : Outcome) (f : Frame) → look_of o ≡ Some f → named ms counter rx o ≡ given (frame_name ms counter rx f)
fixture_named ms counter rx (gives values payload) f e = let q : frame_of values payload ≡ f = cc in rw q
fixture_named ms counter rx (refuses n values) f e = let z : ◌≡◌ {A = ℕ} 0 1 = cc in absurd (omega arith)

pub fixture_seen : (ms counter rx : ℕ) (wire : List ℕ) (f : Frame) → look_at wire ≡ Some f → fixture_name ms counter rx wire ≡ given (frame_name ms counter rx f)
unfolding fixture_name look_at
fixture_seen ms counter rx wire f e = fixture_named ms counter rx (unpack_of wire) f e
