-- The rule on one buffer: drop the bytes before the first 3E (all, if there is none), take through the first 3C, repeat.
use Rattle.std.specs.Prelude.{ℕ, zero, suc, Bool, cond, List, [], ◌∷◌, length, take, drop, leb, ltb}
use Rattle.search.specs.Seek.{seek}

-- from the first 3E on
abbrev pub begun : List ℕ → List ℕ
begun b = drop (seek 0x3E b) b

-- through the first 3C
abbrev pub end : List ℕ → ℕ
end c = suc (seek 0x3C c)

-- there is a 3C
abbrev pub ended : List ℕ → Bool
ended c = ltb (seek 0x3C c) (length c)

-- repeated n times at most; each time takes a byte
unfoldable pub spans_n : ℕ → List ℕ → List (List ℕ)
spans_n zero b = []
spans_n (suc n) b = cond (ended (begun b)) (take (end (begun b)) (begun b) ∷ spans_n n (drop (end (begun b)) (begun b))) []

unfoldable pub rest_n : ℕ → List ℕ → List ℕ
rest_n zero b = []
rest_n (suc n) b = cond (ended (begun b)) (rest_n n (drop (end (begun b)) (begun b))) (begun b)

-- the spans taken from a buffer, and what is left in it
unfoldable pub spans_of : List ℕ → List (List ℕ)
spans_of b = spans_n (suc (length b)) b

unfoldable pub rest_of : List ℕ → List ℕ
rest_of b = rest_n (suc (length b)) b

-- with no 3C, over 65,536 bytes clears the buffer
unfoldable pub capped : List ℕ → List ℕ
capped b = cond (leb (length b) 65536) b []
