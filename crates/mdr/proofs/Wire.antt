-- Laws of specs/Wire.
use Prim.Native.Nat.{ℕ, suc, ◌+◌, ◌-◌, ◌*◌, ◌/◌, ◌%◌, ◌<◌, ◌≤◌}
use mathlib.Core.Path.{◌≡◌, refl, sym, ap, ◌∙◌}
use mathlib.Core.List.{List, [], ◌∷◌, ◌++◌}
use mathlib.Core.Bool.{true}
use native.Mathlib.Omega.{arith}
use lib.ListN.{length, get_or, take, drop, length-append, length-drop}
use lib.Seq.{take_at, get_or_at, length-take-le}
use lib.Dec.{leb, eqb}
use borrow.Author.Tests.{le-leb, lt-leb, eq-eqb}
use Rattle.laws.proofs.Choice.{split_b, split≤}
use Rattle.laws.specs.Numbers.{be32}
use Rattle.laws.specs.Answers.{Outcome, gives, refuses, is_given}
use Rattle.mdr.specs.Sum.{checksum_of}
use Rattle.mdr.specs.Escape.{escape, unescape}
use Rattle.mdr.specs.Frame.{head_of, summed_of, body_of, packed, declared_of, last_of, computed_of, payload_of, judged, bodied, unpack_of, unpacks_of}
use Rattle.mdr.specs.Escaping.{specials}
use Rattle.mdr.proofs.Escaping.{escape_quiet, count_most, escape_length, unescape_escape}
use Rattle.mdr.specs.Wire.{Framed, inner_of}

-- ---- a body that is judged a frame, a wire that is judged by its body

pub judged_whole : (B : List ℕ) → 7 ≤ length B → last_of B ≡ computed_of B → declared_of B ≡ length B - 7 → judged B ≡ gives (get_or B 0 0 ∷ get_or B 1 0 ∷ (length B - 7) ∷ []) (payload_of B)
unfolding judged
judged_whole B h s d = rw (le-leb 7 (length B) h, eq-eqb (last_of B) (computed_of B) s, eq-eqb (declared_of B) (length B - 7) d)

pub wire_body : (w : List ℕ) → 9 ≤ length w → get_or w 0 0 ≡ 0x3E → get_or w (length w - 1) 0 ≡ 0x3C → unpack_of w ≡ bodied (unescape (take (length w - 2) (drop 1 w)))
unfolding unpack_of
wire_body w h s e = rw (le-leb 9 (length w) h, eq-eqb (get_or w 0 0) 0x3E s, eq-eqb (get_or w (length w - 1) 0) 0x3C e)

-- what a wire gives is a payload of the length answered
judged_length : (B : List ℕ) (t q n : ℕ) (p : List ℕ) → judged B ≡ gives (t ∷ q ∷ n ∷ []) p → length p ≡ n
unfolding judged
judged_length B t q n p e =
    split≤ 7 (length B)
    (λ h.
    let a = rw (le-leb 7 (length B) h) at e in
    split_b (eqb (last_of B) (computed_of B))
    (λ u.
    let b = rw u at a in
    split_b (eqb (declared_of B) (length B - 7))
    (λ v.
    let c = rw v at b in
    let x : payload_of B ≡ p = cc in
    let y : length B - 7 ≡ n = cc in
    sym (ap length x) ∙ length-take-le (length B - 7) (drop 6 B) (omega (arith, length-drop 6 B)) ∙ y)
    (λ v. let c = rw v at b in let z : ◌≡◌ {A = ℕ} 0 1 = cc in absurd (omega arith)))
    (λ u. let b = rw u at a in let z : ◌≡◌ {A = ℕ} 0 1 = cc in absurd (omega arith)))
    (λ h. let a = rw (lt-leb 7 (length B) h) at e in let z : ◌≡◌ {A = ℕ} 0 1 = cc in absurd (omega arith))

bodied_length : (o : Outcome) (t q n : ℕ) (p : List ℕ) → bodied o ≡ gives (t ∷ q ∷ n ∷ []) p → length p ≡ n
bodied_length (gives vs B) t q n p e = judged_length B t q n p e
bodied_length (refuses m vs) t q n p e = let z : ◌≡◌ {A = ℕ} 0 1 = cc in absurd (omega arith)

pub unpacked_length : (w : List ℕ) (t q n : ℕ) (p : List ℕ) → unpack_of w ≡ gives (t ∷ q ∷ n ∷ []) p → length p ≡ n
unfolding unpack_of
unpacked_length w t q n p e =
    split_b (leb 9 (length w))
    (λ a.
    let e₁ = rw a at e in
    split_b (eqb (get_or w 0 0) 0x3E)
    (λ b.
    let e₂ = rw b at e₁ in
    split_b (eqb (get_or w (length w - 1) 0) 0x3C)
    (λ c. bodied_length (unescape (take (length w - 2) (drop 1 w))) t q n p (rw c at e₂))
    (λ c. let f = rw c at e₂ in let z : ◌≡◌ {A = ℕ} 0 1 = cc in absurd (omega arith)))
    (λ b. let f = rw b at e₁ in let z : ◌≡◌ {A = ℕ} 0 1 = cc in absurd (omega arith)))
    (λ a. let f = rw a at e in let z : ◌≡◌ {A = ℕ} 0 1 = cc in absurd (omega arith))

-- ---- the body

pub be32_back : (n : ℕ) → n < 4294967296 → 16777216 * (n / 256 / 256 / 256 % 256) + 65536 * (n / 256 / 256 % 256) + 256 * (n / 256 % 256) + n % 256 ≡ n
be32_back n h = omega arith

module _ (t q : ℕ) (p : List ℕ) where
  summed_length : length (summed_of t q p) ≡ 6 + length p
  unfolding summed_of head_of
  summed_length = omega arith

  body_length : length (body_of t q p) ≡ 7 + length p
  unfolding body_of
  body_length = omega (arith, length-append (summed_of t q p) (checksum_of (summed_of t q p) ∷ []), summed_length)

  body_sum : last_of (body_of t q p) ≡ computed_of (body_of t q p)
  unfolding body_of
  body_sum =
      let k : length (summed_of t q p) ≡ length (body_of t q p) - 1 = omega (arith, body_length, summed_length) in
      get_or_at (summed_of t q p) (checksum_of (summed_of t q p)) [] 0 (length (body_of t q p) - 1) k
      ∙ ap checksum_of (sym (take_at (summed_of t q p) _ (length (body_of t q p) - 1) k))

  body_payload : payload_of (body_of t q p) ≡ p
  unfolding body_of summed_of head_of
  body_payload = take_at p _ (length (body_of t q p) - 7) (omega (arith, body_length))

  judged_body : length p < 4294967296 → judged (body_of t q p) ≡ gives (t ∷ q ∷ length p ∷ []) p
  unfolding body_of summed_of head_of be32
  judged_body h =
      let k : length (body_of t q p) - 7 ≡ length p = omega (arith, body_length) in
      judged_whole (body_of t q p) (omega (arith, body_length)) body_sum (be32_back (length p) h ∙ sym k) ∙ rw (body_payload, k)

module _ (t q : ℕ) (p : List ℕ) where
  pub packed_framed : Framed (packed t q p) (inner_of t q p)
  unfolding packed inner_of
  packed_framed = record { is = refl; quiet = escape_quiet (body_of t q p) }

  -- two marks, seven bytes, the payload, and one more for each byte escaped
  pub packed_length : length (packed t q p) ≡ 9 + length p + specials (body_of t q p)
  unfolding packed
  packed_length = omega (arith, length-append (escape (body_of t q p)) (0x3C ∷ []), escape_length (body_of t q p), body_length t q p)

  pub packed_least : 9 + length p ≤ length (packed t q p)
  packed_least = omega (arith, packed_length)

  pub packed_most : length (packed t q p) ≤ 2 + 2 * (7 + length p)
  packed_most = omega (arith, packed_length, count_most 0x3C 0x3E (body_of t q p), body_length t q p)

  -- unpacking a packed frame gives the frame
  pub round_trip : length p < 4294967296 → unpack_of (packed t q p) ≡ gives (t ∷ q ∷ length p ∷ []) p
  unfolding packed
  round_trip h =
      let E : List ℕ = escape (body_of t q p) in
      let w : List ℕ = 0x3E ∷ (E ++ (0x3C ∷ [])) in
      let l : length w ≡ length E + 2 = omega (arith, length-append E (0x3C ∷ [])) in
      let m : 7 ≤ length E = omega (arith, escape_length (body_of t q p), body_length t q p) in
      let last : get_or (E ++ (0x3C ∷ [])) (length E) 0 ≡ 0x3C = get_or_at E 0x3C [] 0 (length E) refl in
      let k : length w - 1 ≡ suc (length E) = omega (arith, l) in
      wire_body w (omega arith) refl (rw k last)
      ∙ rw (take_at E (0x3C ∷ []) (length w - 2) (omega arith), unescape_escape (body_of t q p)) (judged_body t q p h)

  pub packed_unpacks : length p < 4294967296 → unpacks_of (packed t q p) ≡ true
  unfolding unpacks_of is_given
  packed_unpacks h = rw (round_trip h)
