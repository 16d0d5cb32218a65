-- A list of stretches whose first places are filled from words.
use Rattle.std.specs.Prelude.{ℕ, zero, suc, ◌+◌, ◌*◌, ◌/◌, cond, List, [], ◌∷◌, ◌++◌, length, ltb}
use Rattle.words.specs.Words.{word}
use Rattle.stretches.specs.declared.Stretch.{Stretch}

abbrev pub blank : Stretch
blank = record { way = 0; cid = 0; dlci = 0; sessions = 0; links = 0; held = 0 }

-- the stretch in the six words from word 6 * i on, or zeros where they are not there
unfoldable pub stretch_at : List ℕ → ℕ → Stretch
stretch_at w i =
    cond (ltb i (length w / 24))
    (record { way = word w (6 * i); cid = word w (6 * i + 1); dlci = word w (6 * i + 2); sessions = word w (6 * i + 3); links = word w (6 * i + 4); held = word w (6 * i + 5) })
    blank

-- the first n places filled by f
abbrev pub filled_by : (ℕ → Stretch) → ℕ → List Stretch → List Stretch
filled_by f zero xs = xs
filled_by f (suc n) [] = []
filled_by f (suc n) (x ∷ xs) = f 0 ∷ filled_by (λ j. f (suc j)) n xs

abbrev pub filled : List ℕ → ℕ → List Stretch → List Stretch
filled w n xs = filled_by (stretch_at w) n xs

-- the first n stretches in words
unfoldable pub stretches_to : List ℕ → ℕ → List Stretch
stretches_to w zero = []
stretches_to w (suc n) = stretches_to w n ++ (stretch_at w n ∷ [])
