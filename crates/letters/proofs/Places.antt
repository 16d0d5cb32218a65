-- Where each part stands in the run of letters.
use mathlib.Core.Path.{◌≡◌, refl, sym, ◌∙◌}
use mathlib.Core.Bool.{true, cond}
use mathlib.Core.List.{List, [], ◌∷◌}
use Prim.Native.Nat.{ℕ, zero, suc, ◌+◌, ◌-◌, ◌<◌, ◌≤◌}
use native.Mathlib.Omega.{arith}
use lib.Dec.{leb}
use lib.ListN.{length, get_or, take, drop, length-map, length-take}
use borrow.Author.Tests.{leb-true}
use Rattle.laws.proofs.Choice.{split_b, no_way}
use Rattle.letters.specs.Run.{parts, part_at, inner, is_among, starts_of, all_letters, all_starts, all_lens, PartIs}
use Rattle.letters.proofs.Computed.{zipped, parts_spelled, inside, all_inside, parts_count, letters_count}

-- ---- what a test over a whole table says of each entry

zipped_at : {A : Type 0} (f : ℕ → ℕ → A) (d : A) (xs ys : List ℕ) (i : ℕ) → i < length xs → i < length ys → get_or (zipped f xs ys) i d ≡ f (get_or xs i 0) (get_or ys i 0)
zipped_at f d [] ys i h g = absurd (omega arith)
zipped_at f d (x ∷ xs) [] i h g = absurd (omega arith)
zipped_at f d (x ∷ xs) (y ∷ ys) zero h g = refl
zipped_at f d (x ∷ xs) (y ∷ ys) (suc i) h g = zipped_at f d xs ys i (omega arith) (omega arith)

inside_at : (n : ℕ) (ss ls : List ℕ) (i : ℕ) → inside n ss ls ≡ true → i < length ss → get_or ss i 0 + get_or ls i 0 ≤ n
inside_at n [] ls i e h = absurd (omega arith)
inside_at n (s ∷ ss) [] i e h = no_way refl (sym e)
inside_at n (s ∷ ss) (l ∷ ls) zero e h = split_b (leb (s + l) n) (λ q. leb-true (s + l) n q) (λ q. no_way e (rw q))
inside_at n (s ∷ ss) (l ∷ ls) (suc i) e h =
    split_b (leb (s + l) n) (λ q. inside_at n ss ls i (rw q at e) (omega arith)) (λ q. no_way e (rw q))

-- ---- lengths

starts_of_law : (at : ℕ) (ps : List (List ℕ)) → length (starts_of at ps) ≡ length ps
starts_of_law at [] = refl
starts_of_law at (p ∷ ps) = rw (starts_of_law (cond (is_among p inner) at (at + length p)) ps)

starts_count : length all_starts ≡ 63
unfolding all_starts
starts_count = starts_of_law 0 parts ∙ parts_count

lens_count : length all_lens ≡ 63
unfolding all_lens
lens_count = length-map parts length ∙ parts_count

pub start_reach : (p : ℕ) → p < 63 → (ss : List ℕ) → ss ≡ all_starts → p < length ss
start_reach p h ss t = rw t (omega (arith, starts_count))

pub len_reach : (p : ℕ) → p < 63 → (ls : List ℕ) → ls ≡ all_lens → p < length ls
len_reach p h ls t = rw t (omega (arith, lens_count))

-- ---- a part as the code has it

spells : (p : ℕ) → p < 63 → take (get_or all_lens p 0) (drop (get_or all_starts p 0) all_letters) ≡ part_at p
unfolding part_at
spells p h =
    sym (zipped_at (λ s n. take n (drop s all_letters)) [] all_starts all_lens p (omega (arith, starts_count)) (omega (arith, lens_count)))
    ∙ rw parts_spelled

module _ (p : ℕ) (h : p < 63) (ss ls l : List ℕ) (e : ss ≡ all_starts) (f : ls ≡ all_lens) (g : l ≡ all_letters) where
  pub part_within : get_or ss p 0 + get_or ls p 0 ≤ length l
  part_within = rw (e, f, g) (omega (arith, inside_at 596 all_starts all_lens p all_inside (omega (arith, starts_count)), letters_count))

  pub part_is : get_or ls p 0 < 256 → PartIs p (take (get_or ss p 0 + get_or ls p 0 - get_or ss p 0) (drop (get_or ss p 0) l))
  part_is small =
      let n : get_or ss p 0 + get_or ls p 0 - get_or ss p 0 ≡ get_or all_lens p 0 = rw f (omega arith) in
      let s : get_or ss p 0 ≡ get_or all_starts p 0 = rw e in
      record {
        is = rw (n, s, g) (spells p h);
        small = omega (arith, small, length-take (get_or ss p 0 + get_or ls p 0 - get_or ss p 0) (drop (get_or ss p 0) l));
      }
