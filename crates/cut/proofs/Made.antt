-- Bytes of recordings for the examples: a header, records of ACL packets on datalink 1002, PDUs, RFCOMM frames.
use Prim.Native.Nat.{ℕ, zero, suc, ◌+◌, ◌*◌, ◌/◌, ◌%◌}
use mathlib.Core.List.{List, [], ◌∷◌, ◌++◌}
use lib.ListN.{length, take, drop}
use Rattle.laws.specs.Numbers.{le}
use Rattle.items.specs.declared.Direction.{Direction}
use Rattle.items.specs.declared.Direction.TheVariants.{Rx, Tx}
use Rattle.btsnoop.specs.Header.{magic}
use Rattle.cut.specs.Recording.{Frame, free, part, last, Record}

abbrev pub be : ℕ → ℕ → List ℕ
be zero v = []
be (suc k) v = be k (v / 256) ++ (v % 256 ∷ [])

abbrev pub header_of : ℕ → List ℕ
header_of n = magic ++ (be 4 1 ++ be 4 n)

-- a record with flags, a timestamp and a packet; with milliseconds from 1970 on
abbrev pub stamped : ℕ → ℕ → List ℕ → List ℕ
stamped flags at b = be 4 (length b) ++ (be 4 (length b) ++ (be 4 flags ++ (be 4 0 ++ (be 8 at ++ b))))

abbrev pub row : ℕ → ℕ → List ℕ → List ℕ
row flags ms b = stamped flags (0x00dcddb30f2f8000 + 1000 * ms) b

abbrev pub flags_of : Direction → ℕ
flags_of Rx = 1
flags_of Tx = 0

-- a fragment: its handle and boundary flag
abbrev pub acl : ℕ → ℕ → List ℕ → List ℕ
acl h flag b = 2 ∷ (le 2 (h + 4096 * flag) ++ (le 2 (length b) ++ b))

abbrev pub pdu : ℕ → List ℕ → List ℕ
pdu cid b = le 2 (length b) ++ (le 2 cid ++ b)

abbrev pub uih_on : ℕ → List ℕ → List ℕ
uih_on e i = (4 * e + 1) ∷ 0xEF ∷ (2 * length i + 1) ∷ (i ++ (0 ∷ []))

abbrev pub sabm_on : ℕ → List ℕ
sabm_on e = (4 * e + 1) ∷ 0x3F ∷ 1 ∷ 0 ∷ []

-- signalling, by an identifier: a request (PSM, source), a response (destination, source, result); an end (destination, source)
abbrev pub request_by : ℕ → ℕ → ℕ → List ℕ
request_by id psm source = 0x02 ∷ id ∷ 4 ∷ 0 ∷ (le 2 psm ++ le 2 source)

abbrev pub response_by : ℕ → ℕ → ℕ → ℕ → List ℕ
response_by id dest source result = 0x03 ∷ id ∷ 8 ∷ 0 ∷ (le 2 dest ++ (le 2 source ++ (le 2 result ++ le 2 0)))

abbrev pub end_of : ℕ → ℕ → List ℕ
end_of dest source = 0x07 ∷ 9 ∷ 4 ∷ 0 ∷ (le 2 dest ++ le 2 source)

abbrev pub request_of : ℕ → ℕ → List ℕ
request_of psm source = request_by 1 psm source

abbrev pub response_of : ℕ → ℕ → ℕ → List ℕ
response_of dest source result = response_by 1 dest source result

-- ---- records

-- a PDU that is not a data PDU, in one packet
abbrev pub freely : ℕ → Direction → ℕ → ℕ → List ℕ → Record
freely h t ms cid b = record { bytes = row (flags_of t) ms (acl h 2 (pdu cid b)); mark = free }

-- a data PDU in one packet
abbrev pub sends : ℕ → Direction → ℕ → ℕ → ℕ → List ℕ → Record
sends h t ms cid d i = record { bytes = row (flags_of t) ms (acl h 2 (pdu cid (uih_on d i))); mark = last i }

-- a data PDU in two packets: its first k bytes, then the rest
abbrev pub starts : ℕ → Direction → ℕ → ℕ → ℕ → List ℕ → ℕ → Record
starts h t ms cid d i k = record { bytes = row (flags_of t) ms (acl h 2 (take k (pdu cid (uih_on d i)))); mark = part }

abbrev pub ends_with : ℕ → Direction → ℕ → ℕ → ℕ → List ℕ → ℕ → Record
ends_with h t ms cid d i k = record { bytes = row (flags_of t) ms (acl h 1 (drop k (pdu cid (uih_on d i)))); mark = last i }

abbrev pub frame_of : ℕ → ℕ → List ℕ → Frame
frame_of t q p = record { type = t; seq = q; payload = p }

-- a value for each direction, Rx first
abbrev pub each : {A : Type 0} → A → A → Direction → A
each x y Rx = x
each x y Tx = y
