-- Counters, by computing.
use Rattle.std.specs.Prelude.{Some, None, ℕ, ◌≡◌, refl, List, [] as []ᴸ, ◌∷◌ as ◌∷ᴸ◌}
use Prim.Native.String.{String, [], ◌∷◌}
use Prim.Native.Char.{code}
use Rattle.laws.specs.Keys.{eq_k}
use Rattle.counter.specs.Counter.{mark, after_hyphen, to_hyphen, is_digit, digits, number, signed, within, counter}

abbrev ascii : String → List ℕ
ascii [] = []ᴸ
ascii (c ∷ s) = code c ∷ᴸ ascii s

counters :
    (counter (ascii "mdr-packet-1700000000000-000042-rx.bin") ≡ Some 42)
    × (counter (ascii "mdr-packet-0-+7-") ≡ Some 7)
    × (counter (ascii "mdr-packet-0-007") ≡ Some 7)
    × (counter (ascii "mdr-packet-0-4294967295-") ≡ Some 4294967295)
    × (counter (ascii "mdr-packet-0-4294967296-") ≡ None)
    × (counter (ascii "mdr-packet-0--7") ≡ None)
    × (counter (ascii "mdr-packet-0-+-7") ≡ None)
    × (counter (ascii "mdr-packet--7-") ≡ Some 7)
    × (counter (ascii "mdr-packet-7") ≡ None)
    × (counter (ascii "mdr-packet-0-7a-") ≡ None)
    × (counter (ascii "Mdr-packet-0-7-") ≡ None)
unfolding mark after_hyphen to_hyphen is_digit digits number signed within counter eq_k
counters = (refl, refl, refl, refl, refl, refl, refl, refl, refl, refl, refl)
