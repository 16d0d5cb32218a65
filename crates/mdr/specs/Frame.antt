-- A frame's wire, and what unpacking and packing ask for.
use Rattle.std.specs.Prelude.{ℕ, ◌-◌, ◌/◌, ◌%◌, List, [], ◌∷◌, ◌++◌, Bool, cond, length, get_or, take, drop, leb, eqb}
use Rattle.laws.specs.Numbers.{be32}
use Rattle.laws.specs.Answers.{Outcome, gives, refuses, is_given}
use Rattle.mdr.specs.Sum.{checksum_of}
use Rattle.mdr.specs.Escape.{escape, unescape}

-- ---- packing

-- type, sequence number, and the payload's length in 4 bytes, big-endian
unfoldable pub head_of : ℕ → ℕ → ℕ → List ℕ
head_of t q n = t ∷ q ∷ (n / 256 / 256 / 256 % 256) ∷ (n / 256 / 256 % 256) ∷ (n / 256 % 256) ∷ (n % 256) ∷ []

-- what the sum is of
unfoldable pub summed_of : ℕ → ℕ → List ℕ → List ℕ
summed_of t q p = head_of t q (length p) ++ p

unfoldable pub body_of : ℕ → ℕ → List ℕ → List ℕ
body_of t q p = summed_of t q p ++ (checksum_of (summed_of t q p) ∷ [])

-- the wire of a frame: type, sequence number, payload
unfoldable pub packed : ℕ → ℕ → List ℕ → List ℕ
packed t q p = 0x3E ∷ (escape (body_of t q p) ++ (0x3C ∷ []))

-- ---- checks in their order

-- go on where the test holds, else this refusal
abbrev pub checked : Bool → Outcome → Outcome → Outcome
checked test refusal rest = cond test rest refusal

-- 18
unfoldable pub pack_of : ℕ → ℕ → List ℕ → Outcome
pack_of t q p = checked (leb (length p) 32760) (refuses 18 []) (gives (length (packed t q p) ∷ []) (packed t q p))

-- ---- unpacking

-- the length field, the sum that stands last, and the sum of what stands before it
abbrev pub declared_of : List ℕ → ℕ
declared_of body = be32 body 2

abbrev pub last_of : List ℕ → ℕ
last_of body = get_or body (length body - 1) 0

abbrev pub computed_of : List ℕ → ℕ
computed_of body = checksum_of (take (length body - 1) body)

abbrev pub payload_of : List ℕ → List ℕ
payload_of body = take (length body - 7) (drop 6 body)

-- 15, 17, 16; then type, sequence number, payload length, and the payload
unfoldable pub judged : List ℕ → Outcome
judged body =
    checked (leb 7 (length body)) (refuses 15 [])
    (checked (eqb (last_of body) (computed_of body)) (refuses 17 (last_of body ∷ computed_of body ∷ []))
    (checked (eqb (declared_of body) (length body - 7)) (refuses 16 (declared_of body ∷ (length body - 7) ∷ []))
    (gives (get_or body 0 0 ∷ get_or body 1 0 ∷ (length body - 7) ∷ []) (payload_of body))))

-- what follows where unescaping did not refuse
abbrev pub bodied : Outcome → Outcome
bodied (gives vs body) = judged body
bodied (refuses n vs) = refuses n vs

-- 10, 11, 12; then 13 or 14 by unescaping
unfoldable pub unpack_of : List ℕ → Outcome
unpack_of w =
    checked (leb 9 (length w)) (refuses 10 [])
    (checked (eqb (get_or w 0 0) 0x3E) (refuses 11 [])
    (checked (eqb (get_or w (length w - 1) 0) 0x3C) (refuses 12 [])
    (bodied (unescape (take (length w - 2) (drop 1 w))))))

unfoldable pub unpacks_of : List ℕ → Bool
unpacks_of w = is_given (unpack_of w)
