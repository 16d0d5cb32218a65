-- What is computed over whole tables: each name is its stem and its ending, each part is what stands at its place in the run, no part
-- stands twice, and how many bytes the tables take.
use mathlib.Core.Path.{◌≡◌, refl}
use mathlib.Core.Bool.{Bool, true, false, cond}
use mathlib.Core.List.{List, [], ◌∷◌, map}
use Prim.Native.Nat.{ℕ, suc, ◌+◌, ◌*◌, ◌/◌, ◌%◌}
use lib.Dec.{leb, ltb, eqb}
use lib.ListN.{length, take, drop}
use Rattle.laws.specs.Keys.{eq_k}
use Rattle.laws.specs.Lists.{flat}
use Rattle.commands.specs.Commands.{t1, t2}
use Rattle.commands.specs.Labels.{type_name}
use Rattle.commands.specs.Numbers.{all_codes, commands, others, all_names}
use Rattle.letters.specs.Run.{endings, stems, parts, inner, part_at, is_among, begins, ending_in, all_letters, all_starts, all_lens, joined, all_pairs}

-- two lists of numbers, place by place
abbrev pub zipped : {A : Type 0} → (ℕ → ℕ → A) → List ℕ → List ℕ → List A
zipped f [] ys = []
zipped f (x ∷ xs) [] = []
zipped f (x ∷ xs) (y ∷ ys) = f x y ∷ zipped f xs ys

-- ---- each of the 246 names is its stem and its ending

pub names_joined : map joined all_pairs ≡ all_names
unfolding all_pairs all_names commands others type_name t1 t2 parts endings stems part_at ending_in eq_k begins
names_joined = refl

-- ---- each part is what stands in the run from its start on, as long as its length

pub parts_spelled : zipped (λ s n. take n (drop s all_letters)) all_starts all_lens ≡ parts
unfolding all_letters all_starts all_lens parts endings stems inner begins eq_k
parts_spelled = refl

-- each start and length stay within so many letters
abbrev pub inside : ℕ → List ℕ → List ℕ → Bool
inside n [] ls = true
inside n (s ∷ ss) [] = false
inside n (s ∷ ss) (l ∷ ls) = cond (leb (s + l) n) (inside n ss ls) false

pub all_inside : inside 596 all_starts all_lens ≡ true
unfolding all_letters all_starts all_lens parts endings stems inner begins eq_k
all_inside = refl

-- ---- none twice: no two parts are equal, and the letters of no part stand at a second place

abbrev pub distinct : List (List ℕ) → Bool
distinct [] = true
distinct (l ∷ ls) = cond (is_among l ls) false (distinct ls)

pub parts_distinct : distinct parts ≡ true
unfolding parts endings stems eq_k
parts_distinct = refl

-- at how many places some letters stand in a list
abbrev pub places : List ℕ → List ℕ → ℕ
places p [] = 0
places p (x ∷ l) = cond (begins p (x ∷ l)) (suc (places p l)) (places p l)

-- each of some parts stands at one place of a run, but for the empty one
abbrev pub once_in : List ℕ → List (List ℕ) → Bool
once_in run [] = true
once_in run ([] ∷ ps) = once_in run ps
once_in run ((x ∷ p) ∷ ps) = cond (eqb (places (x ∷ p) run) 1) (once_in run ps) false

pub parts_once : once_in all_letters parts ≡ true
unfolding all_letters parts endings stems inner begins eq_k
parts_once = refl

-- ---- which numbers are stems, and which are endings

abbrev pub passes : (ℕ → Bool) → List ℕ → Bool
passes test [] = true
passes test (x ∷ l) = cond (test x) (passes test l) false

-- a stem's number is 36 or more, and below hi; an ending's is below 36
abbrev pub is_below : ℕ → ℕ → Bool
is_below hi w = cond (leb 36 (w / 256)) (cond (ltb (w / 256) hi) (ltb (w % 256) 36) false) false

pub all_below : passes (is_below 63) all_pairs ≡ true
unfolding all_pairs all_names commands others type_name t1 t2 parts endings stems part_at ending_in eq_k begins
all_below = refl

pub commands_below : passes (is_below 59) (take 229 all_pairs) ≡ true
unfolding all_pairs all_names commands others type_name t1 t2 parts endings stems part_at ending_in eq_k begins
commands_below = refl

-- ---- how many there are, and how many bytes all constants take: a start and a pair have two, all others one

pub names_count : length all_names ≡ 246
unfolding all_names commands others type_name t1 t2
names_count = refl

pub parts_count : length parts ≡ 63
unfolding parts endings stems
parts_count = refl

pub endings_count : length endings ≡ 36
unfolding endings
endings_count = refl

pub letters_count : length all_letters ≡ 596
unfolding all_letters parts endings stems inner eq_k
letters_count = refl

pub bytes_count : length all_letters + 2 * length all_starts + length all_lens + 2 * length all_pairs + length all_codes ≡ 1506
unfolding all_letters all_starts all_lens all_pairs all_codes all_names commands others type_name t1 t2 parts endings stems inner begins eq_k
bytes_count = refl

-- with the letters of every name one after another, a start and a length for each
pub bytes_of_whole_names : length (flat all_names) + 2 * length all_names + length all_names + length all_codes ≡ 5373
unfolding all_codes all_names commands others type_name t1 t2
bytes_of_whole_names = refl
