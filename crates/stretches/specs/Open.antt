-- The stretches that are open at the end: each key whose buffer is not empty then, in the order of first pieces.
use Rattle.std.specs.Prelude.{ℕ, ◌+◌, ◌*◌, not, List, [], ◌∷◌, map, length, get_or, ltb}
use Rattle.laws.specs.Keys.{Key, eq_k}
use Rattle.laws.specs.Keyed.{after, keep}
use Rattle.rfcomm.specs.Pieces.{Piece}
use Rattle.spans.specs.Spans.{scanner, emptied}
use Rattle.stretches.specs.declared.Stretch.{Stretch}

-- each key once, at its first place
unfoldable pub firsts : List Key → List Key
firsts [] = []
firsts (k ∷ ks) = k ∷ keep (λ j. not (eq_k j k)) (firsts ks)

-- of a DLCI's key (link, CID, sessions, links, direction), with so many bytes held
unfoldable pub stretch_of : ℕ → Key → ℕ → Stretch
stretch_of d k h = record { way = 2 * get_or k 0 0 + get_or k 4 0; cid = get_or k 1 0; dlci = d; sessions = get_or k 2 0; links = get_or k 3 0; held = h }

-- of those keys that hold something, by what each holds
unfoldable pub open_of : ℕ → (Key → ℕ) → List Key → List Stretch
open_of d held ks = map (λ k. stretch_of d k (held k)) (keep (λ k. ltb 0 (held k)) ks)

-- the bytes in the buffer of a key, after pieces
abbrev pub held_after : List Piece → Key → ℕ
held_after ps k = length (after scanner emptied ps k)

-- of the pieces of a DLCI
unfoldable pub open_stretches : ℕ → List Piece → List Stretch
open_stretches d ps = open_of d (held_after ps) (firsts (map (λ p. p.key) ps))
