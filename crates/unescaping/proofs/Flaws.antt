-- Where escaping is first broken: pair by pair, part by part, and what unescaping says of it.
use Rattle.std.proofs.Common.{◌≡◌, ℕ, zero, suc, ◌+◌, ◌-◌, ◌%◌, ◌<◌, ◌≤◌, Bool, true, false, cond, not, eqb, List, [], ◌∷◌, length, get_or, take, drop, sym, refl, ap, ◌∙◌, subst, arith, length-drop, length-take-le, take-take, drop-drop, take-append-drop, append-nil, eq-eqb, ne_eqb, eqb-true}
use lib.Seq.{take-nil, take-length}
use Rattle.std.proofs.lemmas.List.{take_rest}
use borrow.Author.Tests.{eqb-false}
use Rattle.laws.proofs.Choice.{split_b, no_way}
use Rattle.laws.proofs.Lists.{drop_step, drop_end}
use Rattle.laws.specs.Answers.{refused, Outcome, gives, refuses}
use Rattle.mdr.specs.Escape.{within, escapee, push, unescape}
use Rattle.mdr.proofs.Escaping.{within_range}
use Rattle.blocks.specs.Blocks.{Tallied}
use Rattle.unescaping.specs.Flaws.{sentries, Measured, is_breach, breaches, breaches_after, flaw_of, FrontPart, KeptIf, LastPart, SoundIf, EndOf, ScannedIs}
use Rattle.unescaping.specs.Places.{bytes_of}
use Rattle.blocks.specs.declared.Totals.{Totals}
use Rattle.unescaping.specs.declared.Scanned.{Scanned}
use Rattle.std.specs.Prelude.{Result, Ok, Err}
use Rattle.std.specs.Int.{from_bool}
use Rattle.mdr.specs.declared.UnpackError.{UnpackError}
use Rattle.mdr.specs.declared.UnpackError.TheVariants.{TrailingSentry, BadEscapee}
use Rattle.mdr.specs.Told.{told_error}
use Rattle.blocks.proofs.Counting.{bit, Tallying, tally_part, tally_end}
use Rattle.unescaping.proofs.Unescaping.{sentry}

-- ---- what unescaping says

-- a part is unescaped, or refused as told
abbrev tells : Result Unit UnpackError → Outcome → Type 0
tells (Ok u) o = o ≡ gives [] (bytes_of o)
tells (Err e) o = (n : ℕ) × ((vs : List ℕ) × ((told_error e ≡ refused n vs) × (o ≡ refuses n vs)))

tells_push : (f : Result Unit UnpackError) (b : ℕ) (o : Outcome) → tells f o → tells f (push b o)
tells_push (Ok u) b (gives vs bs) e = let q : vs ≡ [] = cc in rw q
tells_push (Ok u) b (refuses n vs) e = let z : ◌≡◌ {A = ℕ} 0 1 = cc in absurd (omega arith)
tells_push (Err x) b o (n, (vs, (p, q))) = (n, (vs, (p, rw q)))

escapee_plain : (e : ℕ) → escapee e ≡ true → eqb e 0x3D ≡ false
escapee_plain e u = let r = within_range 0x2C 0x2E e u in ne_eqb e 0x3D (λ q. omega arith)

flaw_tells : (s : List ℕ) → tells (flaw_of s) (unescape s)
unfolding flaw_of
flaw_tells [] = refl
flaw_tells (b ∷ []) = split_b (eqb b 0x3D) (λ t. rw t (13, ([], (refl, refl)))) (λ t. rw t refl)
flaw_tells (b ∷ e ∷ es) =
    let ih = flaw_tells (e ∷ es) in
    let jh = flaw_tells es in
    split_b (eqb b 0x3D)
    (λ t.
    split_b (escapee e)
    (λ u. rw (t, u, escapee_plain e u) (tells_push (flaw_of es) (e + 0x10) (unescape es) jh))
    (λ u. rw (t, u) (14, ((e ∷ []), (refl, refl)))))
    (λ t. rw t (tells_push (flaw_of (e ∷ es)) b (unescape (e ∷ es)) ih))

pub told_as : (s : List ℕ) (f : Result Unit UnpackError) → f ≡ flaw_of s → tells f (unescape s)
told_as s f p = subst (λ (x : Result Unit UnpackError). tells x (unescape s)) (sym p) (flaw_tells s)

-- ---- from pair to pair

module _ (b e : ℕ) where
  pub breach_plain : (b ≡ 0x3D → ⊥) → eqb b 0x3D ≡ is_breach b e
  unfolding is_breach
  breach_plain n = rw (ne_eqb b 0x3D n)

  pub breach_is : b ≡ 0x3D → (t : Bool) → t ≡ escapee e → not t ≡ is_breach b e
  unfolding is_breach
  breach_is p true q = rw (eq-eqb b 0x3D p, sym q)
  breach_is p false q = rw (eq-eqb b 0x3D p, sym q)

-- a pair that is kept is passed
flaw_pass : (b e : ℕ) (es : List ℕ) → is_breach b e ≡ false → flaw_of (b ∷ e ∷ es) ≡ flaw_of (e ∷ es)
unfolding flaw_of is_breach
flaw_pass b e es h =
    split_b (eqb b 0x3D)
    (λ t. split_b (escapee e) (λ u. rw (t, u)) (λ u. no_way refl (rw (t, u) at h)))
    (λ t. rw t)

-- a sound part has only such
flaw_kept : (b e : ℕ) (es : List ℕ) → flaw_of (b ∷ e ∷ es) ≡ Ok tt → (is_breach b e ≡ false) × (flaw_of (e ∷ es) ≡ Ok tt)
unfolding flaw_of is_breach
flaw_kept b e es h =
    split_b (eqb b 0x3D)
    (λ t.
    split_b (escapee e)
    (λ u. (rw (t, u), rw (t, u) at h))
    (λ u. let f : Err (BadEscapee e) ≡ Ok tt = rw (t, u) at h in let z : ◌≡◌ {A = ℕ} 0 1 = cc in absurd (omega arith)))
    (λ t. (rw t, rw t at h))

none : (t : Bool) (n : ℕ) → cond t 1 0 + n ≡ 0 → t ≡ false
none true n e = absurd (omega arith)
none false n e = refl

-- ---- over many bytes

clean_over : (l : List ℕ) (n : ℕ) → n < length l → breaches (take (suc n) l) ≡ 0 → flaw_of l ≡ flaw_of (drop n l)
clean_over l zero h e = refl
clean_over [] (suc n) h e = absurd (omega arith)
clean_over (b ∷ []) (suc n) h e = absurd (omega arith)
clean_over (b ∷ x ∷ bs) (suc n) h e =
    flaw_pass b x bs (none (is_breach b x) (breaches_after x (take n bs)) e)
    ∙ clean_over (x ∷ bs) n (omega arith) (let z : breaches_after x (take n bs) ≡ 0 = omega arith in z)

bare_kept : (b e : ℕ) (n : ℕ) → cond (within 0x3D 0x3D b) 1 0 + n ≡ 0 → is_breach b e ≡ false
unfolding is_breach
bare_kept b e n h =
    split_b (eqb b 0x3D)
    (λ t. no_way (sentry b t) (none (within 0x3D 0x3D b) n h))
    (λ t. rw t)

-- no 3D, no broken pair
bare_breaches : (l : List ℕ) (n : ℕ) → sentries (take n l) ≡ 0 → breaches (take (suc n) l) ≡ 0
bare_breaches [] n e = refl
bare_breaches (b ∷ bs) zero e = refl
bare_breaches (b ∷ []) (suc n) e = refl
bare_breaches (b ∷ x ∷ bs) (suc n) e =
    let ih : breaches_after x (take n bs) ≡ 0 = bare_breaches (x ∷ bs) n (let z : sentries (take n (x ∷ bs)) ≡ 0 = omega arith in z) in
    let k : is_breach b x ≡ false = bare_kept b x (sentries (take n (x ∷ bs))) e in
    rw k (omega arith)

sound_breaches : (l : List ℕ) (n : ℕ) → flaw_of l ≡ Ok tt → breaches (take n l) ≡ 0
sound_breaches [] n e = rw take-nil
sound_breaches (b ∷ bs) zero e = refl
sound_breaches (b ∷ []) (suc zero) e = refl
sound_breaches (b ∷ []) (suc (suc n)) e = refl
sound_breaches (b ∷ x ∷ bs) (suc zero) e = refl
sound_breaches (b ∷ x ∷ bs) (suc (suc n)) e =
    let k = flaw_kept b x bs e in
    let ih : breaches_after x (take n bs) ≡ 0 = sound_breaches (x ∷ bs) (suc n) k.1 in
    rw k.0 (omega arith)

bare_flaw : (l : List ℕ) → sentries l ≡ 0 → flaw_of l ≡ Ok tt
unfolding flaw_of
bare_flaw [] e = refl
bare_flaw (b ∷ bs) e =
    split_b (eqb b 0x3D)
    (λ t. no_way (sentry b t) (none (within 0x3D 0x3D b) (sentries bs) e))
    (λ t. rw t (bare_flaw bs (omega arith)))

nothing : (l : List ℕ) → length l ≡ 0 → l ≡ []
nothing [] n = refl
nothing (b ∷ bs) n = absurd (omega arith)

none_flaw : flaw_of [] ≡ Ok tt
unfolding flaw_of
none_flaw = refl

-- the last byte
one_flaw : (x : ℕ) → (x ≡ 0x3D → ⊥) → flaw_of (x ∷ []) ≡ Ok tt
unfolding flaw_of
one_flaw x n = rw (ne_eqb x 0x3D n)

last_one : (l : List ℕ) (i : ℕ) → i + 1 ≡ length l → drop i l ≡ get_or l i 0 ∷ []
last_one l i h = drop_step l i (omega arith) ∙ rw (drop_end l (i + 1) (omega arith))

-- ---- the loop that counts broken pairs

pub record Breaking (l : List ℕ) (found i : ℕ) : Type 0 where
  pub few : i + 1 ≤ length l
  pub most : found ≤ i
  pub counted : found + breaches (drop i l) ≡ breaches l

pub break_start : (l : List ℕ) → 1 ≤ length l → Breaking l 0 0
break_start l h = record { few = omega arith; most = omega arith; counted = omega arith }

breaches_step : (l : List ℕ) (i : ℕ) → i + 1 < length l → breaches (drop i l) ≡ cond (is_breach (get_or l i 0) (get_or l (i + 1) 0)) 1 0 + breaches (drop (i + 1) l)
breaches_step l i h =
    let e = drop_step l (i + 1) h in
    ap breaches (drop_step l i (omega arith)) ∙ rw e

module _ (l : List ℕ) (found i : ℕ) (s : Breaking l found i) where
  pub break_turn : i < length l - 1 → (t : Bool) → t ≡ is_breach (get_or l i 0) (get_or l (i + 1) 0) → (x : ℕ) → x ≡ from_bool t → Breaking l (found + x) (i + 1)
  break_turn h t q x o =
      let b = bit t in record {
        few = omega arith;
        most = omega (arith, o, b.1);
        counted = omega (arith, o, rw q at b.0, breaches_step l i (omega arith), ap from_bool q);
      }

  pub break_end : length l - 1 ≤ i → found ≡ breaches l
  break_end h = omega (arith, ap breaches (last_one l i (omega (arith, s.few))))

-- ---- the loop that stops at the first: r is what is left

module _ (s r t : List ℕ) (b : ℕ) (c : flaw_of r ≡ flaw_of s) (p : r ≡ b ∷ t) where
  pub flaw_plain : (b ≡ 0x3D → ⊥) → flaw_of t ≡ flaw_of s
  unfolding flaw_of
  flaw_plain n = sym (ap flaw_of p ∙ rw (ne_eqb b 0x3D n)) ∙ c

  pub flaw_trailing : b ≡ 0x3D → length t ≡ 0 → Err TrailingSentry ≡ flaw_of s
  unfolding flaw_of
  flaw_trailing q n = sym (ap flaw_of p ∙ rw (nothing t n, eq-eqb b 0x3D q)) ∙ c

  module _ (u : List ℕ) (e : ℕ) (q : b ≡ 0x3D) (v : t ≡ e ∷ u) (w : Bool) (x : w ≡ escapee e) where
    pub flaw_bad : w ≡ false → Err (BadEscapee e) ≡ flaw_of s
    unfolding flaw_of
    flaw_bad y = sym (ap flaw_of (p ∙ ap (λ (l : List ℕ). b ∷ l) v) ∙ rw (eq-eqb b 0x3D q, sym x ∙ y)) ∙ c

    pub flaw_pair : w ≡ true → flaw_of u ≡ flaw_of s
    unfolding flaw_of
    flaw_pair y = sym (ap flaw_of (p ∙ ap (λ (l : List ℕ). b ∷ l) v) ∙ rw (eq-eqb b 0x3D q, sym x ∙ y, escapee_plain e (sym x ∙ y))) ∙ c

pub flaw_end : (s r : List ℕ) → flaw_of r ≡ flaw_of s → length r ≡ 0 → Ok tt ≡ flaw_of s
flaw_end s r c n = sym (ap flaw_of (nothing r n) ∙ none_flaw) ∙ c

-- ---- a part before the last, the last part

front_all : (l : List ℕ) (hits : ℕ) → FrontPart l hits → breaches (take (suc (length l - 1)) l) ≡ breaches l
front_all l hits p = let k : suc (length l - 1) ≡ length l = omega (arith, p.some) in rw (k, take-length l)

module _ (l : List ℕ) (hits : ℕ) (p : FrontPart l hits) where
  pub kept_bare : hits ≡ 0 → KeptIf l true
  kept_bare e = record { none = λ z. sym (front_all l hits p) ∙ bare_breaches l (length l - 1) (sym p.found ∙ e); some = λ z. no_way refl z }

  pub kept_if : (found : ℕ) → found ≡ breaches l → KeptIf l (eqb found 0)
  kept_if found e = record {
    none = λ z. sym e ∙ eqb-true found 0 z;
    some = λ z. let n = eqb-false found 0 z in let m : (breaches l ≡ 0 → ⊥) = λ q. n (e ∙ q) in omega arith;
  }

module _ (l : List ℕ) (hits : ℕ) (p : LastPart l hits) where
  pub sound_bare : hits ≡ 0 → SoundIf l true
  sound_bare e = record { is = λ z. bare_flaw l (sym p.found ∙ e) }

  pub sound_kept : (get_or l (length l - 1) 0 ≡ 0x3D → ⊥) → (found : ℕ) → found ≡ breaches l → SoundIf l (eqb found 0)
  sound_kept n found e =
      let i : ℕ = length l - 1 in
      let k : suc i ≡ length l = omega (arith, p.some) in
      let m : i + 1 ≡ length l = omega (arith, p.some) in record {
        is = λ z.
            let q : breaches l ≡ 0 = sym e ∙ eqb-true found 0 z in
            clean_over l i (omega (arith, p.some)) (rw (k, take-length l) q) ∙ rw (last_one l i m) (one_flaw (get_or l i 0) n);
      }

pub sound_unknown : (l : List ℕ) → SoundIf l false
sound_unknown l = record { is = λ z. no_way z refl }

-- ---- what is left

end_all : (s : List ℕ) → EndOf s s
end_all s = let e : length s - length s ≡ 0 = omega arith in record { few = omega arith; is = rw e }

end_less : (s rest : List ℕ) → EndOf s rest → (k : ℕ) → k ≤ length rest → EndOf s (drop k rest)
end_less s rest p k h =
    let n = length-drop k rest in
    let e : length s - length rest + k ≡ length s - length (drop k rest) = omega (arith, n, p.few) in record {
      few = omega (arith, n, p.few);
      is = ap (drop k) p.is ∙ drop-drop k (length s - length rest) s ∙ ap (λ (i : ℕ). drop i s) e;
    }

-- ---- the scan

pub record Scanning (s : List ℕ) (sum hits : ℕ) (rest : List ℕ) : Type 0 where
  pub left : 1 ≤ length rest
  pub tallies : Tallying s 0x3D 0x3D sum hits rest
  pub part : EndOf s rest
  pub clean : flaw_of rest ≡ flaw_of s

pub scan_start : (s : List ℕ) → 7 ≤ length s → Scanning s 0 0 s
scan_start s h = record {
  left = omega arith;
  tallies = record { most = omega arith; small = omega arith; summed = omega arith; counted = omega arith };
  part = end_all s;
  clean = refl;
}

-- a part of k bytes, looked at with the byte after it
front_part : (rest : List ℕ) (k : ℕ) → k < length rest → k < 256 → (t : Totals) → Tallied (take k rest) 0x3D 0x3D t → FrontPart (take (suc k) rest) t.hits
front_part rest k h l t w =
    let n = length-take-le (suc k) rest (omega arith) in
    let e : length (take (suc k) rest) - 1 ≡ k = omega arith in record {
      some = omega arith;
      few = omega arith;
      found = w.hits ∙ ap sentries (sym (ap (λ (m : ℕ). take m (take (suc k) rest)) e ∙ take-take k (suc k) rest (omega arith)));
    }

pub part_long : (rest : List ℕ) → 192 < length rest → length (take 192 rest) ≡ 192
part_long rest h = length-take-le 192 rest (omega arith)

module _ (s : List ℕ) (sum hits : ℕ) (rest : List ℕ) (v : Scanning s sum hits rest) where
  pub scan_fits : 192 < length rest → (t : Totals) → Tallied (take 192 rest) 0x3D 0x3D t → hits + t.hits < length s
  scan_fits h t w = omega (arith, v.tallies.most, w.most, part_long rest h)

  pub scan_front : 192 < length rest → (t : Totals) → Tallied (take 192 rest) 0x3D 0x3D t → FrontPart (take 193 rest) t.hits
  scan_front h t w = front_part rest 192 h (omega arith) t w

  pub scan_kept : 192 < length rest → (t : Totals) → Tallied (take 192 rest) 0x3D 0x3D t → (y : Bool) → KeptIf (take 193 rest) y → y ≡ true
      → (sum' : ℕ) → sum' ≡ (sum + t.sum) % 256 → Scanning s sum' (hits + t.hits) (take (length rest - 192) (drop 192 rest))
  scan_kept h t w y u z sum' p =
      rw take_rest (record {
        left = omega (arith, length-drop 192 rest);
        tallies = tally_part s 0x3D 0x3D sum hits rest v.tallies (take 192 rest) (drop 192 rest) (sym (take-append-drop 192 rest)) t w sum' p;
        part = end_less s rest v.part 192 (omega arith);
        clean = sym (clean_over rest 192 h (u.none z)) ∙ v.clean;
      })

  pub scan_broken : (y : Bool) → KeptIf (take 193 rest) y → y ≡ false → (r : Scanned) → r.rest.now ≡ rest → ScannedIs s r
  scan_broken y u z r e = record {
    part = rw e v.part;
    clean = rw e v.clean;
    counts = λ f.
        let m : breaches (take 193 rest) ≡ 0 = sound_breaches rest 193 (v.clean ∙ f) in
        absurd (omega (arith, u.some z));
  }

  last_part : (t : Totals) → Tallied rest 0x3D 0x3D t → 7 ≤ length s → (r : Scanned) → r.sum ≡ (sum + t.sum) % 256 → r.hits ≡ hits + t.hits → Measured s r.sum r.hits
  last_part t w h r p q =
      let x = tally_part s 0x3D 0x3D sum hits rest v.tallies rest [] (sym (append-nil rest)) t w r.sum p in
      let u = tally_end s 0x3D 0x3D r.sum (hits + t.hits) [] x refl (record { sum = r.sum; hits = r.hits }) refl q in
      record { long = h; summed = u.sum; found = u.hits }

  pub scan_sound : (t : Totals) → Tallied rest 0x3D 0x3D t → 7 ≤ length s → (y : Bool) → SoundIf rest y → y ≡ true
      → (r : Scanned) → r.sum ≡ (sum + t.sum) % 256 → r.hits ≡ hits + t.hits → r.rest.now ≡ take (length rest - length rest) (drop (length rest) rest) → ScannedIs s r
  scan_sound t w h y u z r p q e =
      let n : r.rest.now ≡ [] = e ∙ take_rest rest (length rest) ∙ drop_end rest (length rest) (omega arith) in
      let m : r.rest.now ≡ drop (length rest) rest = e ∙ take_rest rest (length rest) in record {
        part = rw m (end_less s rest v.part (length rest) (omega arith));
        clean = rw n (none_flaw ∙ sym (u.is z)) ∙ v.clean;
        counts = λ x. last_part t w h r p q;
      }
