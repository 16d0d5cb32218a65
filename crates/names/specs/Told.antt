-- For each case of naming's answer document 01's number and the values it carries.
use Rattle.std.specs.Prelude.{ℕ, Result}
use Rattle.laws.specs.Answers.{Answer, answered, wrote}
use Rattle.mdr.specs.declared.UnpackError.{UnpackError}
use Rattle.mdr.specs.Told.{told_error}

-- the name's length; refused as unpacking refuses
abbrev pub told_named : Result ℕ UnpackError → Answer
told_named = answered wrote told_error
