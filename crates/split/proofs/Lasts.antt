-- Laws of the last n of a list; what the rule leaves is a back of the buffer.
use Prim.Native.Nat.{ℕ, zero, suc, ◌+◌, ◌-◌, ◌<◌, ◌≤◌, min}
use mathlib.Core.Path.{◌≡◌, refl, sym, ap, ◌∙◌}
use mathlib.Core.List.{List, [], ◌++◌, append_assoc}
use native.Mathlib.Omega.{arith}
use lib.ListN.{length, take, drop, length-append, length-drop, take-append-drop}
use lib.Seq.{drop-append-le, drop-append-add, drop-drop, drop-length}
use borrow.Author.Tests.{le-leb, lt-leb}
use Rattle.laws.proofs.Choice.{split_b, split≤}
use Rattle.laws.proofs.Lists.{drop_end}
use Rattle.search.specs.Seek.{seek}
use Rattle.spans.specs.Scan.{begun, end, ended, rest_n, rest_of, capped}
use Rattle.split.specs.Last.{lastn}
use Rattle.split.specs.Rows.{capped_length}

pub length_lastn : (n : ℕ) (l : List ℕ) → n ≤ length l → length (lastn n l) ≡ n
unfolding lastn
length_lastn n l h = simp length-drop (omega arith)

pub lastn_zero : (n : ℕ) (l : List ℕ) → n ≡ 0 → lastn n l ≡ []
unfolding lastn
lastn_zero n l h = drop_end l (length l - n) (omega arith)

-- the part that comes from a front, and that from a back
pub lastn_append : (n m : ℕ) (a b : List ℕ) → n ≤ length a + length b → m ≡ min n (length b) → lastn n (a ++ b) ≡ lastn (n - m) a ++ drop (length b - m) b
unfolding lastn
lastn_append n m a b h e =
    split≤ (length b) n
    (λ g. let z : length a + length b - n ≡ length a - (n - m) = omega arith in
    let y : length b - m ≡ 0 = omega arith in
    rw (length-append a b, z, y) (drop-append-le (length a - (n - m)) a b (omega arith)))
    (λ g. let z : length a + length b - n ≡ length a + (length b - m) = omega arith in
    let y : length a - (n - m) ≡ length a = omega arith in
    rw (length-append a b, z, y, drop-length a) (drop-append-add a b (length b - m)))

-- nothing in front is seen
lastn_front : (n : ℕ) (a b : List ℕ) → n ≤ length b → lastn n (a ++ b) ≡ lastn n b
unfolding lastn
lastn_front n a b h = let z : length a + length b - n ≡ length a + (length b - n) = omega arith in rw (length-append a b, z) (drop-append-add a b (length b - n))

pub lastn_lastn : (r h : ℕ) (s x : List ℕ) → r ≤ length (lastn h s ++ x) → lastn r (s ++ x) ≡ lastn r (lastn h s ++ x)
unfolding lastn
lastn_lastn r h s x g = ap (λ (l : List ℕ). lastn r (l ++ x)) (sym (take-append-drop (length s - h) s)) ∙ rw (append_assoc (take (length s - h) s) (drop (length s - h) s) x) (go g) where
  go : r ≤ length (lastn h s ++ x) → lastn r (take (length s - h) s ++ (drop (length s - h) s ++ x)) ≡ lastn r (lastn h s ++ x)
  go g = lastn_front r (take (length s - h) s) (lastn h s ++ x) g

lastn_drop : (r k : ℕ) (b : List ℕ) → r ≤ length (drop k b) → lastn r (drop k b) ≡ lastn r b
unfolding lastn
lastn_drop r k b h =
    let l : length (drop k b) ≡ length b - k = length-drop k b in
    split≤ k (length b)
    (λ g. let z : k + (length (drop k b) - r) ≡ length b - r = omega arith in rw (drop-drop (length (drop k b) - r) k b, z))
    (λ g. rw (drop-drop (length (drop k b) - r) k b) (drop_end b (k + (length (drop k b) - r)) (omega arith) ∙ sym (drop_end b (length b - r) (omega arith))))

lastn_of : (k : ℕ) (b : List ℕ) → lastn (length (drop k b)) b ≡ drop k b
unfolding lastn
lastn_of k b =
    let l : length (drop k b) ≡ length b - k = length-drop k b in
    split≤ k (length b)
    (λ g. let z : length b - length (drop k b) ≡ k = omega arith in rw z)
    (λ g. drop_end b (length b - length (drop k b)) (omega arith) ∙ sym (drop_end b k (omega arith)))

back : (n : ℕ) (b : List ℕ) → (length (rest_n n b) ≤ length b) × (lastn (length (rest_n n b)) b ≡ rest_n n b)
unfolding rest_n
back zero b = (omega arith, lastn_zero 0 b refl)
back (suc n) b =
    split_b (ended (begun b))
    (λ e. let m : ℕ = end (begun b) in
    let ih : (length (rest_n n (drop m (begun b))) ≤ length (drop m (begun b))) × (lastn (length (rest_n n (drop m (begun b)))) (drop m (begun b)) ≡ rest_n n (drop m (begun b))) = back n (drop m (begun b)) in
    let k : length (drop m (begun b)) ≤ length (begun b) = simp length-drop (omega arith) in
    let j : length (begun b) ≤ length b = simp length-drop (omega arith) in
    rw e (omega (arith, ih.0), sym (lastn_drop (length (rest_n n (drop m (begun b)))) (seek 0x3E b) b (omega (arith, ih.0))) ∙ sym (lastn_drop (length (rest_n n (drop m (begun b)))) m (begun b) ih.0) ∙ ih.1))
    (λ e. rw e (simp length-drop (omega arith), lastn_of (seek 0x3E b) b))

pub rest_back : (b : List ℕ) → lastn (length (rest_of b)) b ≡ rest_of b
unfolding rest_of
rest_back b = (back (suc (length b)) b).1

-- ---- over 65,536 bytes clears the buffer

pub capped_le : (n : ℕ) → capped_length n ≤ n
unfolding capped_length
capped_le n = split≤ n 65536 (λ h. rw (le-leb n 65536 h) (omega arith)) (λ h. rw (lt-leb n 65536 h) (omega arith))

pub capped_back : (b : List ℕ) → lastn (capped_length (length (rest_of b))) b ≡ capped (rest_of b)
unfolding capped capped_length
capped_back b =
    split≤ (length (rest_of b)) 65536
    (λ h. rw (le-leb (length (rest_of b)) 65536 h) (rest_back b))
    (λ h. rw (lt-leb (length (rest_of b)) 65536 h) (lastn_zero 0 b refl))

pub capped_small : (n : ℕ) → n ≤ 65536 → n ≡ capped_length n
unfolding capped_length
capped_small n h = rw (le-leb n 65536 h)

pub capped_large : (n : ℕ) → 65536 < n → 0 ≡ capped_length n
unfolding capped_length
capped_large n h = rw (lt-leb n 65536 h)
