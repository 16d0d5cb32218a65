-- What a sound escaped part is: its bytes, their number and sum, its last byte.
use Rattle.std.proofs.Common.{◌≡◌, ℕ, ◌+◌, ◌*◌, ◌≤◌, Bool, true, false, cond, eqb, List, [], ◌∷◌, ◌++◌, length, refl, ap, ◌∙◌, arith, ne_eqb, eqb-true}
use borrow.Author.Tests.{eqb-false}
use Rattle.laws.proofs.Choice.{split_b, no_way}
use Rattle.laws.specs.Answers.{Outcome, gives, refuses}
use Rattle.mdr.specs.Sum.{total}
use Rattle.mdr.specs.Escape.{within, escapee, push, unescape, unescape_from}
use Rattle.mdr.proofs.Escaping.{within_range}
use Rattle.unescaping.specs.Flaws.{sentries}

-- the two tests for a 3D
pub sentry : (b : ℕ) → eqb b 0x3D ≡ true → within 0x3D 0x3D b ≡ true
unfolding within
sentry b e = rw (eqb-true b 0x3D e)

pub no_sentry : (b : ℕ) → eqb b 0x3D ≡ false → within 0x3D 0x3D b ≡ false
no_sentry b e =
    split_b (within 0x3D 0x3D b)
    (λ p. let r = within_range 0x3D 0x3D b p in absurd (eqb-false b 0x3D e (omega arith)))
    (λ p. p)

pub escapee_other : (b : ℕ) → escapee b ≡ true → within 0x3D 0x3D b ≡ false
escapee_other b e = let r = within_range 0x2C 0x2E b e in no_sentry b (ne_eqb b 0x3D (λ q. omega arith))

-- a byte in front of what was given
pub record Behind (b : ℕ) (o : Outcome) (B : List ℕ) : Type 0 where
  pub rest : List ℕ
  pub was : o ≡ gives [] rest
  pub is : B ≡ b ∷ rest

pub behind : (b : ℕ) (o : Outcome) (B : List ℕ) → push b o ≡ gives [] B → Behind b o B
behind b (gives vs bs) B e = record { rest = bs; was = (let q : vs ≡ [] = cc in rw q); is = cc }
behind b (refuses n vs) B e = let z : ◌≡◌ {A = ℕ} 0 1 = cc in absurd (omega arith)

-- how long, and which sum: each 3D goes, and the byte after it grows by 16
pub record Weighed (p : Bool) (s B : List ℕ) : Type 0 where
  pub long : length B + sentries s ≡ length s
  pub heavy : total B + 45 * sentries s ≡ total s + cond p 16 0

pub weighed : (p : Bool) (s B : List ℕ) → unescape_from p s ≡ gives [] B → Weighed p s B
weighed false [] B e = let q : B ≡ [] = cc in rw q (record { long = omega arith; heavy = omega arith })
weighed true [] B e = let z : ◌≡◌ {A = ℕ} 0 1 = cc in absurd (omega arith)
weighed false (b ∷ bs) B e =
    split_b (eqb b 0x3D)
    (λ t.
    let ih = weighed true bs B (rw t at e) in
    let q = eqb-true b 0x3D t in
    let k : ◌≡◌ {A = ℕ} (cond (within 0x3D 0x3D b) 1 0) 1 = rw (sentry b t) in
    record { long = omega (arith, ih.long); heavy = omega (arith, ih.heavy) })
    (λ t.
    let v = behind b (unescape_from false bs) B (rw t at e) in
    let ih = weighed false bs v.rest v.was in
    let k : ◌≡◌ {A = ℕ} (cond (within 0x3D 0x3D b) 1 0) 0 = rw (no_sentry b t) in
    record { long = omega (arith, ih.long, ap length v.is); heavy = omega (arith, ih.heavy, ap total v.is) })
weighed true (b ∷ bs) B e =
    split_b (escapee b)
    (λ t.
    let v = behind (b + 0x10) (unescape_from false bs) B (rw t at e) in
    let ih = weighed false bs v.rest v.was in
    let k : ◌≡◌ {A = ℕ} (cond (within 0x3D 0x3D b) 1 0) 0 = rw (escapee_other b t) in
    record { long = omega (arith, ih.long, ap length v.is); heavy = omega (arith, ih.heavy, ap total v.is) })
    (λ t. let f = rw t at e in let z : ◌≡◌ {A = ℕ} 0 1 = cc in absurd (omega arith))

-- the last byte: the one before it tells whether it is escaped
abbrev pub closing : ℕ → ℕ → ℕ
closing x y = y + cond (eqb x 0x3D) 0x10 0

pub record Ends (x y : ℕ) (B : List ℕ) : Type 0 where
  pub front : List ℕ
  pub is : B ≡ front ++ (closing x y ∷ [])
  pub small : eqb x 0x3D ≡ true → y ≤ 0x2E

ends_more : (b : ℕ) (B rest : List ℕ) (x y : ℕ) → B ≡ b ∷ rest → Ends x y rest → Ends x y B
ends_more b B rest x y e v = record { front = b ∷ v.front; is = e ∙ ap (λ (l : List ℕ). b ∷ l) v.is; small = v.small }

-- one byte, no 3D before it
ends_one : (x y : ℕ) (B : List ℕ) → eqb x 0x3D ≡ false → unescape_from false (y ∷ []) ≡ gives [] B → Ends x y B
ends_one x y B n e =
    let k : y + 0 ≡ y = omega arith in
    split_b (eqb y 0x3D)
    (λ t. let f = rw t at e in let z : ◌≡◌ {A = ℕ} 0 1 = cc in absurd (omega arith))
    (λ t. let f = rw t at e in record { front = []; is = rw (n, k) (cc); small = λ q. no_way q n })

ends_two : (p : Bool) (x y : ℕ) (B : List ℕ) → unescape_from p (x ∷ y ∷ []) ≡ gives [] B → Ends x y B
ends_two false x y B e =
    split_b (eqb x 0x3D)
    (λ t.
    let f = rw t at e in
    split_b (escapee y)
    (λ u.
    let g = rw u at f in
    let r = within_range 0x2C 0x2E y u in
    record { front = []; is = rw t (cc); small = λ q. omega arith })
    (λ u. let g = rw u at f in let z : ◌≡◌ {A = ℕ} 0 1 = cc in absurd (omega arith)))
    (λ t.
    let v = behind x (unescape_from false (y ∷ [])) B (rw t at e) in
    ends_more x B v.rest x y v.is (ends_one x y v.rest t v.was))
ends_two true x y B e =
    split_b (escapee x)
    (λ t.
    let v = behind (x + 0x10) (unescape_from false (y ∷ [])) B (rw t at e) in
    let r = within_range 0x2C 0x2E x t in
    ends_more (x + 0x10) B v.rest x y v.is (ends_one x y v.rest (ne_eqb x 0x3D (λ q. omega arith)) v.was))
    (λ t. let f = rw t at e in let z : ◌≡◌ {A = ℕ} 0 1 = cc in absurd (omega arith))

pub ends : (p : Bool) (a : List ℕ) (x y : ℕ) (B : List ℕ) → unescape_from p (a ++ (x ∷ y ∷ [])) ≡ gives [] B → Ends x y B
ends p [] x y B e = ends_two p x y B e
ends false (b ∷ bs) x y B e =
    split_b (eqb b 0x3D)
    (λ t. ends true bs x y B (rw t at e))
    (λ t.
    let v = behind b (unescape_from false (bs ++ (x ∷ y ∷ []))) B (rw t at e) in
    ends_more b B v.rest x y v.is (ends false bs x y v.rest v.was))
ends true (b ∷ bs) x y B e =
    split_b (escapee b)
    (λ t.
    let v = behind (b + 0x10) (unescape_from false (bs ++ (x ∷ y ∷ []))) B (rw t at e) in
    ends_more (b + 0x10) B v.rest x y v.is (ends false bs x y v.rest v.was))
    (λ t. let f = rw t at e in let z : ◌≡◌ {A = ℕ} 0 1 = cc in absurd (omega arith))

-- ---- bytes put in front of what follows

abbrev pub pushes : List ℕ → Outcome → Outcome
pushes [] o = o
pushes (b ∷ bs) o = push b (pushes bs o)

pub pushes_gives : (a vs bs : List ℕ) → pushes a (gives vs bs) ≡ gives vs (a ++ bs)
pushes_gives [] vs bs = refl
pushes_gives (x ∷ a) vs bs = rw (pushes_gives a vs bs)

pub pushes_refuses : (a : List ℕ) (n : ℕ) (vs : List ℕ) → pushes a (refuses n vs) ≡ refuses n vs
pushes_refuses [] n vs = refl
pushes_refuses (x ∷ a) n vs = rw (pushes_refuses a n vs)

pub pushes_more : (a : List ℕ) (b : ℕ) (o : Outcome) → pushes (a ++ (b ∷ [])) o ≡ pushes a (push b o)
pushes_more [] b o = refl
pushes_more (x ∷ a) b o = rw (pushes_more a b o)

-- a part without a 3D stands as it is
pub unescape_bare : (a b : List ℕ) → sentries a ≡ 0 → unescape (a ++ b) ≡ pushes a (unescape b)
unescape_bare [] b e = refl
unescape_bare (x ∷ a) b e =
    split_b (eqb x 0x3D)
    (λ t. let k : ◌≡◌ {A = ℕ} (cond (within 0x3D 0x3D x) 1 0) 1 = rw (sentry x t) in absurd (omega arith))
    (λ t. rw (t, unescape_bare a b (omega arith)))
