-- For each case of the answers document 01's number and the values it carries.
use Rattle.std.specs.Prelude.{ℕ, [], ◌∷◌, ◌++◌, get_or, Result}
use Rattle.laws.specs.Answers.{Answer, accepted, refused, answered, wrote, Outcome, gives, refuses}
use Rattle.mdr.specs.declared.Unpacked.{Unpacked}
use Rattle.mdr.specs.declared.UnpackError.{UnpackError}
use Rattle.mdr.specs.declared.UnpackError.TheVariants as unpacking
use Rattle.mdr.specs.declared.PackError.{PackError}
use Rattle.mdr.specs.declared.PackError.TheVariants as packing
use Rattle.mdr.specs.declared.Frame.{Frame}

-- why a wire does not unpack
abbrev pub told_error : UnpackError → Answer
told_error unpacking.TooShort = refused 10 []
told_error unpacking.NoStart = refused 11 []
told_error unpacking.NoEnd = refused 12 []
told_error unpacking.TrailingSentry = refused 13 []
told_error (unpacking.BadEscapee b) = refused 14 (b ∷ [])
told_error unpacking.BodyTooShort = refused 15 []
told_error (unpacking.LengthMismatch declared actual) = refused 16 (declared ∷ actual ∷ [])
told_error (unpacking.BadChecksum declared computed) = refused 17 (declared ∷ computed ∷ [])
told_error (unpacking.OutShort needed) = refused 7 (needed ∷ [])

-- type, sequence number, payload length
abbrev pub told_unpacked : Unpacked → Answer
told_unpacked u = accepted (u.kind ∷ u.seq ∷ u.len ∷ [])

abbrev pub told : Result Unpacked UnpackError → Answer
told = answered told_unpacked told_error

-- why a frame is not packed
abbrev pub told_pack_error : PackError → Answer
told_pack_error packing.TooLong = refused 18 []
told_pack_error (packing.OutShort needed) = refused 7 (needed ∷ [])

-- the wire's length
abbrev pub told_packed : Result ℕ PackError → Answer
told_packed = answered wrote told_pack_error

-- type, sequence number, payload length, and the payload's first byte
abbrev pub told_frame : Frame → Answer
told_frame f = accepted (f.kind ∷ f.seq ∷ f.size ∷ f.first ∷ [])

abbrev pub told_inspected : Result Frame UnpackError → Answer
told_inspected = answered told_frame told_error

-- what a look at a wire answers, where no output is lent: the payload's first byte follows the values, 0 where it has none
unfoldable pub glance : Outcome → Answer
glance (gives vs w) = accepted (vs ++ (get_or w 0 0 ∷ []))
glance (refuses n vs) = refused n vs
