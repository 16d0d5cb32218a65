-- What a key has, as the code reads it.
use Rattle.std.specs.Prelude.{ℕ, ◌+◌, ◌<◌, ◌≤◌, List, length}
use Rattle.fragments.specs.Bytes.{begun}
use Rattle.fragments.specs.declared.begun.Begun.{Begun}

abbrev pub bytes_of : Begun → List ℕ
bytes_of b = begun b.file.now b.rows.now b.first b.upto

pub record Paste (b : Begun) (i left : ℕ) (out : List ℕ) (at : ℕ) : Type 0 where
  pub before : i < b.upto
  pub room : at + left ≤ length out
