-- The file header, 24 bytes: the magic (4 bytes), version, time zone, accuracy and snap length (16, not looked at), the link type (4).
-- The magic tells the byte order of all numbers, and whether fractions are microseconds or nanoseconds.
use Rattle.std.specs.Prelude.{ℕ, Bool, cond, ◌&&◌, ◌||◌, List, [], ◌∷◌, length, take, leb, eqb}
use Rattle.laws.specs.Keys.{eq_k}
use Rattle.laws.specs.Numbers.{le32, be32}

-- A1B2C3D4, microseconds; A1B23C4D, nanoseconds; each in either byte order
abbrev pub big_micro : List ℕ
big_micro = 0xA1 ∷ 0xB2 ∷ 0xC3 ∷ 0xD4 ∷ []

abbrev pub little_micro : List ℕ
little_micro = 0xD4 ∷ 0xC3 ∷ 0xB2 ∷ 0xA1 ∷ []

abbrev pub big_nano : List ℕ
big_nano = 0xA1 ∷ 0xB2 ∷ 0x3C ∷ 0x4D ∷ []

abbrev pub little_nano : List ℕ
little_nano = 0x4D ∷ 0x3C ∷ 0xB2 ∷ 0xA1 ∷ []

abbrev pub begins : List ℕ → List ℕ → Bool
begins f magic = eq_k (take 4 f) magic

-- the highest byte first; else the lowest
unfoldable pub is_big : List ℕ → Bool
is_big f = begins f big_micro || begins f big_nano

unfoldable pub is_little : List ℕ → Bool
is_little f = begins f little_micro || begins f little_nano

-- fractions are nanoseconds; else microseconds
unfoldable pub is_nano : List ℕ → Bool
is_nano f = begins f big_nano || begins f little_nano

-- 24 bytes and one of the four magics; else refusal 21
unfoldable pub is_pcap : List ℕ → Bool
is_pcap f = leb 24 (length f) && (is_big f || is_little f)

-- the 4 bytes at a place, by the byte order
unfoldable pub number : Bool → List ℕ → ℕ → ℕ
number big b i = cond big (be32 b i) (le32 b i)

-- all 4 bytes
unfoldable pub link_of : List ℕ → ℕ
link_of f = number (is_big f) f 20

-- else refusal 22, with the number
unfoldable pub is_link : ℕ → Bool
is_link n = eqb n 201
