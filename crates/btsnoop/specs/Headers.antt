-- What reading the header answers: the datalink, or why it is not taken.
use Rattle.std.specs.Prelude.{ℕ, Result, Ok, Err, cond, List, eqb}
use Rattle.btsnoop.specs.Header.{is_btsnoop, datalink, is_datalink}
use Rattle.btsnoop.specs.declared.Datalink as link
use Rattle.btsnoop.specs.declared.Datalink.TheVariants.{Hci, H4, Monitor}
use Rattle.btsnoop.specs.declared.HeaderError.{HeaderError}
use Rattle.btsnoop.specs.declared.HeaderError.TheVariants.{NotBtsnoop, Datalink}

-- the number of a datalink that is read
abbrev pub number_of : link.Datalink → ℕ
number_of Hci = 1001
number_of H4 = 1002
number_of Monitor = 2001

-- the datalink as which a number is read: one that is none of the three is read as the first
abbrev pub datalink_by : ℕ → link.Datalink
datalink_by n = cond (eqb n 2001) Monitor (cond (eqb n 1002) H4 Hci)

unfoldable pub header_of : List ℕ → Result link.Datalink HeaderError
header_of f = cond (is_btsnoop f) (cond (is_datalink (datalink f)) (Ok (datalink_by (datalink f))) (Err (Datalink (datalink f)))) (Err NotBtsnoop)
