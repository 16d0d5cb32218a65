use Rattle.std.proofs.Common.{◌≡◌, ◌≤◌, ℕ, List, [], ◌∷◌, length, refl, ◌∙◌, arith}
use lib.Dec.{eqb, ltb}
use borrow.Author.Tests.{ltb-false}
use Rattle.std.specs.List.{position, position_or_len}
use Rattle.std.specs.Option.{unwrap_or}
use Rattle.std.specs.Prelude.{not}
use Rattle.std.proofs.lemmas.List.Sums.{prefix_len-le-length}
use Rattle.laws.proofs.Choice.{split_b}
use Rattle.search.specs.Seek.{seek}
use Rattle.search.proofs.find_few.Goals as goal

seek_is : (x : ℕ) (s : List ℕ) → position_or_len (λ b. eqb b x) s ≡ seek x s
unfolding seek
seek_is x [] = refl
seek_is x (y ∷ s) = split_b (eqb y x) (λ e. rw e) (λ e. rw e (let ih = seek_is x s in omega arith))

found : (x : ℕ) (s : List ℕ) → unwrap_or (position (λ b. eqb b x) s) (length s) ≡ seek x s
found x s =
    split_b (ltb (position_or_len (λ b. eqb b x) s) (length s))
    (λ e. rw e (seek_is x s))
    (λ e.
    let low = ltb-false _ _ e in
    let most : position_or_len (λ b. eqb b x) s ≤ length s = prefix_len-le-length (λ b. not (eqb b x)) s in
    let z : length s ≡ position_or_len (λ b. eqb b x) s = omega arith in
    rw e (z ∙ seek_is x s))

pub returns : goal.returns
returns c = rw (c.unwrap_or.ensures, c.first_place.ensures) (found c.args.x c.args.s.now)
