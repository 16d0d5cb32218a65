-- Document 01's examples of the refusals 10 to 18, with the values they carry.
use mathlib.Core.Path.{◌≡◌, refl}
use mathlib.Core.List.{[], ◌∷◌}
use lib.ListN.{replicate}
use Rattle.laws.specs.Numbers.{be32}
use Rattle.laws.specs.Answers.{refuses}
use Rattle.mdr.specs.Sum.{checksum_of}
use Rattle.mdr.specs.Escape.{within, escape}
use Rattle.mdr.specs.Frame.{pack_of, judged, unpack_of}
use Rattle.mdr.specs.Told.{told_error, glance}
use Rattle.mdr.specs.declared.UnpackError.TheVariants.{BadEscapee, LengthMismatch, BadChecksum}

pub examples :
    (unpack_of [] ≡ refuses 10 [])
    × (unpack_of (0x00 ∷ 0x00 ∷ 0x00 ∷ 0x00 ∷ 0x00 ∷ 0x00 ∷ 0x00 ∷ 0x00 ∷ 0x00 ∷ []) ≡ refuses 11 [])
    × (unpack_of (0x3E ∷ 0x00 ∷ 0x00 ∷ 0x00 ∷ 0x00 ∷ 0x00 ∷ 0x00 ∷ 0x00 ∷ 0x00 ∷ []) ≡ refuses 12 [])
    × (unpack_of (0x3E ∷ 0x00 ∷ 0x00 ∷ 0x00 ∷ 0x00 ∷ 0x00 ∷ 0x00 ∷ 0x3D ∷ 0x3C ∷ []) ≡ refuses 13 [])
    × (unpack_of (0x3E ∷ 0x3D ∷ 0x00 ∷ 0x00 ∷ 0x00 ∷ 0x00 ∷ 0x00 ∷ 0x00 ∷ 0x3C ∷ []) ≡ refuses 14 (0x00 ∷ []))
    × (unpack_of (0x3E ∷ 0x3D ∷ 0x2C ∷ 0x00 ∷ 0x00 ∷ 0x00 ∷ 0x00 ∷ 0x00 ∷ 0x3C ∷ []) ≡ refuses 15 [])
    × (unpack_of (0x3E ∷ 0x01 ∷ 0x00 ∷ 0x00 ∷ 0x00 ∷ 0x00 ∷ 0x01 ∷ 0x02 ∷ 0x3C ∷ []) ≡ refuses 16 (1 ∷ 0 ∷ []))
    × (unpack_of (0x3E ∷ 0x01 ∷ 0x00 ∷ 0x00 ∷ 0x00 ∷ 0x00 ∷ 0x00 ∷ 0x02 ∷ 0x3C ∷ []) ≡ refuses 17 (2 ∷ 1 ∷ []))
unfolding unpack_of judged within checksum_of be32
examples = (refl, refl, refl, refl, refl, refl, refl, refl)

-- those with values, as the cases of the answer tell them
pub cases :
    (glance (unpack_of (0x3E ∷ 0x3D ∷ 0x00 ∷ 0x00 ∷ 0x00 ∷ 0x00 ∷ 0x00 ∷ 0x00 ∷ 0x3C ∷ [])) ≡ told_error (BadEscapee 0x00))
    × (glance (unpack_of (0x3E ∷ 0x01 ∷ 0x00 ∷ 0x00 ∷ 0x00 ∷ 0x00 ∷ 0x01 ∷ 0x02 ∷ 0x3C ∷ [])) ≡ told_error (LengthMismatch 1 0))
    × (glance (unpack_of (0x3E ∷ 0x01 ∷ 0x00 ∷ 0x00 ∷ 0x00 ∷ 0x00 ∷ 0x00 ∷ 0x02 ∷ 0x3C ∷ [])) ≡ told_error (BadChecksum 2 1))
unfolding unpack_of judged within checksum_of be32 glance
cases = (refl, refl, refl)

pub too_long : pack_of 0x01 0x00 (replicate 32761 0x00) ≡ refuses 18 []
unfolding pack_of
too_long = refl

-- the three bytes that are escaped, between two that are not
pub escapes : escape (0x3B ∷ 0x3C ∷ 0x3D ∷ 0x3E ∷ 0x3F ∷ []) ≡ 0x3B ∷ 0x3D ∷ 0x2C ∷ 0x3D ∷ 0x2D ∷ 0x3D ∷ 0x2E ∷ 0x3F ∷ []
unfolding within
escapes = refl
