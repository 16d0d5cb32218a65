-- What the program prints.
use Rattle.std.specs.Prelude.{ℕ, List, ◌++◌, codes, decimal}

-- a sample's name, how many of its cases were replayed, and how many differ
abbrev pub sample_line : List ℕ → ℕ → ℕ → List ℕ
sample_line name cases differences = name ++ (codes ": " ++ (decimal cases ++ (codes " cases replayed, " ++ (decimal differences ++ codes " differences\n"))))
