-- The frame's type byte: fifteen values and the rest, which is carried as it stands.
use Rattle.std.specs.Prelude.{ℕ, ◌≡◌, Bool, true, false, cond, List, [], ◌∷◌, eqb}
use Rattle.mdr.specs.declared.DataType.{DataType}
use Rattle.mdr.specs.declared.DataType.TheVariants.{Data, Ack, DataMcNo1, DataIcd, DataEv, DataMdr, DataCommon, DataMdrNo2, Shot, ShotMcNo1, ShotIcd, ShotEv, ShotMdr, ShotCommon, ShotMdrNo2, Unknown}

abbrev pub byte_of : DataType → ℕ
byte_of Data = 0x00
byte_of Ack = 0x01
byte_of DataMcNo1 = 0x02
byte_of DataIcd = 0x09
byte_of DataEv = 0x0A
byte_of DataMdr = 0x0C
byte_of DataCommon = 0x0D
byte_of DataMdrNo2 = 0x0E
byte_of Shot = 0x10
byte_of ShotMcNo1 = 0x12
byte_of ShotIcd = 0x19
byte_of ShotEv = 0x1A
byte_of ShotMdr = 0x1C
byte_of ShotCommon = 0x1D
byte_of ShotMdrNo2 = 0x1E
byte_of (Unknown b) = b

-- the fifteen that have a name
abbrev pub kinds : List DataType
kinds = Data ∷ Ack ∷ DataMcNo1 ∷ DataIcd ∷ DataEv ∷ DataMdr ∷ DataCommon ∷ DataMdrNo2 ∷ Shot ∷ ShotMcNo1 ∷ ShotIcd ∷ ShotEv ∷ ShotMdr ∷ ShotCommon ∷ ShotMdrNo2 ∷ []

-- the one of a list that has the byte, or unknown
abbrev pub kind_in : ℕ → List DataType → DataType
kind_in b [] = Unknown b
kind_in b (t ∷ ts) = cond (eqb b (byte_of t)) t (kind_in b ts)

abbrev pub listed_in : ℕ → List DataType → Bool
listed_in b [] = false
listed_in b (t ∷ ts) = cond (eqb b (byte_of t)) true (listed_in b ts)

unfoldable pub type_of : ℕ → DataType
type_of b = kind_in b kinds

unfoldable pub listed : ℕ → Bool
listed b = listed_in b kinds

-- no listed value is carried as unknown
abbrev pub Carried : DataType → Type 0
Carried Data = Unit
Carried Ack = Unit
Carried DataMcNo1 = Unit
Carried DataIcd = Unit
Carried DataEv = Unit
Carried DataMdr = Unit
Carried DataCommon = Unit
Carried DataMdrNo2 = Unit
Carried Shot = Unit
Carried ShotMcNo1 = Unit
Carried ShotIcd = Unit
Carried ShotEv = Unit
Carried ShotMdr = Unit
Carried ShotCommon = Unit
Carried ShotMdrNo2 = Unit
Carried (Unknown b) = listed b ≡ false
