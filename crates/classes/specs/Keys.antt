-- The key of a row, as its four words.
use Rattle.std.specs.Prelude.{List, [], ◌∷◌, ℕ}
use Rattle.classes.specs.declared.Key.{Key}

unfoldable pub words_of : Key → List ℕ
words_of k = k.dlci ∷ k.side ∷ k.cid ∷ k.counts ∷ []
