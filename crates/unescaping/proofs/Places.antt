-- Reading a byte of a sound escaped part, and how many bytes a part stands for.
use Rattle.std.proofs.Common.{◌≡◌, ℕ, suc, ◌+◌, ◌<◌, ◌≤◌, Bool, true, false, eqb, List, [], ◌∷◌, ◌++◌, length, get_or, drop, refl, ap, ◌∙◌, append-nil, arith, length-drop, eq-eqb, ne_eqb}
use Rattle.laws.proofs.Choice.{split_b}
use Rattle.laws.proofs.Lists.{drop_step}
use Rattle.laws.specs.Answers.{Outcome, gives, refuses}
use Rattle.mdr.specs.Escape.{escapee, push, unescape, unescape_from}
use Rattle.mdr.proofs.Escaping.{within_range}
use Rattle.unescaping.specs.Places.{bytes_of, ahead, GotIs}
use Rattle.unescaping.specs.Flaws.{sentries}
use Rattle.unescaping.specs.declared.Got.{Got}
use Rattle.unescaping.proofs.Unescaping.{unescape_bare, pushes_gives}

bytes_push : (b : ℕ) (o : Outcome) → 1 ≤ length (bytes_of (push b o)) → bytes_of (push b o) ≡ b ∷ bytes_of o
bytes_push b (gives vs bs) h = refl
bytes_push b (refuses n vs) h = absurd (omega arith)

-- ---- the first byte of a part

first_plain : (b : ℕ) (bs : List ℕ) → 1 ≤ length (ahead (b ∷ bs)) → (b ≡ 0x3D → ⊥) → ahead (b ∷ bs) ≡ b ∷ ahead bs
unfolding ahead
first_plain b bs h n = rw (ne_eqb b 0x3D n) (bytes_push b (unescape bs) (rw (ne_eqb b 0x3D n) at h))

first_escapee : (b e : ℕ) (es : List ℕ) → 1 ≤ length (ahead (b ∷ e ∷ es)) → b ≡ 0x3D → escapee e ≡ true
unfolding ahead
first_escapee b e es h q = split_b (escapee e) (λ t. t) (λ t. let z = rw (eq-eqb b 0x3D q, t) at h in absurd (omega arith))

first_escaped : (b e : ℕ) (es : List ℕ) → 1 ≤ length (ahead (b ∷ e ∷ es)) → b ≡ 0x3D → ahead (b ∷ e ∷ es) ≡ (e + 0x10) ∷ ahead es
unfolding ahead
first_escaped b e es h q =
    let t = first_escapee b e es h q in
    rw (eq-eqb b 0x3D q, t) (bytes_push (e + 0x10) (unescape es) (rw (eq-eqb b 0x3D q, t) at h))

-- after a 3D there is an escapee
first_more : (b : ℕ) (bs : List ℕ) → 1 ≤ length (ahead (b ∷ bs)) → b ≡ 0x3D → 1 ≤ length bs
unfolding ahead
first_more b [] h q = let z = rw (eq-eqb b 0x3D q) at h in absurd (omega arith)
first_more b (e ∷ es) h q = omega arith

some_inside : (s : List ℕ) → 1 ≤ length (ahead s) → 1 ≤ length s
unfolding ahead
some_inside [] h = absurd (omega arith)
some_inside (b ∷ bs) h = omega arith

-- ---- the byte at a place

module _ (s : List ℕ) (i : ℕ) (h : 1 ≤ length (ahead (drop i s))) where
  pub got_inside : i < length s
  got_inside = omega (arith, some_inside (drop i s) h, length-drop i s)

  here : drop i s ≡ get_or s i 0 ∷ drop (i + 1) s
  here = drop_step s i got_inside

  pub got_second : get_or s i 0 ≡ 0x3D → i + 1 < length s
  got_second q = omega (arith, first_more (get_or s i 0) (drop (i + 1) s) (rw here at h) q, length-drop (i + 1) s)

  there : get_or s i 0 ≡ 0x3D → drop i s ≡ get_or s i 0 ∷ get_or s (i + 1) 0 ∷ drop (i + 2) s
  there q =
      let k : i + 1 + 1 ≡ i + 2 = omega arith in
      here ∙ ap (λ (l : List ℕ). get_or s i 0 ∷ l) (rw k at (drop_step s (i + 1) (got_second q)))

  pub got_fits : get_or s i 0 ≡ 0x3D → get_or s (i + 1) 0 ≤ 0x2E
  got_fits q =
      let r = within_range 0x2C 0x2E (get_or s (i + 1) 0) (first_escapee (get_or s i 0) (get_or s (i + 1) 0) (drop (i + 2) s) (rw (there q) at h) q) in
      omega arith

  pub got_plain : (get_or s i 0 ≡ 0x3D → ⊥) → (g : Got) → g.byte ≡ get_or s i 0 → g.next ≡ i + 1 → GotIs s i g
  got_plain n g p q =
      let f = ap ahead here ∙ first_plain (get_or s i 0) (drop (i + 1) s) (rw here at h) n in
      record { on = omega arith; within = omega (arith, got_inside); step = rw (p, q) f }

  pub got_escaped : get_or s i 0 ≡ 0x3D → (g : Got) → g.byte ≡ get_or s (i + 1) 0 + 0x10 → g.next ≡ i + 2 → GotIs s i g
  got_escaped y g p q =
      let f = ap ahead (there y) ∙ first_escaped (get_or s i 0) (get_or s (i + 1) 0) (drop (i + 2) s) (rw (there y) at h) y in
      record { on = omega arith; within = omega (arith, got_second y); step = rw (p, q) f }

-- ---- how many bytes a part stands for

push_most : (b n : ℕ) (o : Outcome) → length (bytes_of o) ≤ n → length (bytes_of (push b o)) ≤ suc n
push_most b n (gives vs bs) h = omega arith
push_most b n (refuses m vs) h = omega arith

bytes_most : (p : Bool) (l : List ℕ) → length (bytes_of (unescape_from p l)) ≤ length l
bytes_most false [] = omega arith
bytes_most true [] = omega arith
bytes_most false (b ∷ bs) =
    let t = bytes_most true bs in
    let f = push_most b (length bs) (unescape_from false bs) (bytes_most false bs) in
    split_b (eqb b 0x3D) (λ e. rw e (omega arith)) (λ e. rw e f)
bytes_most true (b ∷ bs) =
    let f = push_most (b + 0x10) (length bs) (unescape_from false bs) (bytes_most false bs) in
    split_b (escapee b) (λ e. rw e f) (λ e. rw e (omega arith))

pub ahead_most : (s : List ℕ) → length (ahead s) ≤ length s
unfolding ahead
ahead_most s = bytes_most false s

-- where nothing is escaped, the bytes are those that stand there
pub ahead_bare : (s : List ℕ) → sentries s ≡ 0 → ahead s ≡ s
unfolding ahead
ahead_bare s e =
    let u : unescape (s ++ []) ≡ gives [] (s ++ []) = unescape_bare s [] e ∙ pushes_gives s [] [] in
    ap bytes_of (rw append-nil at u)
