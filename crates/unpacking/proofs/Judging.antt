-- What each way out of judging a frame shows, over plain lists and numbers.
use Prim.Native.Nat.{ℕ, suc, ◌+◌, ◌-◌, ◌*◌, ◌/◌, ◌%◌, ◌<◌, ◌≤◌}
use mathlib.Core.Path.{◌≡◌, refl, sym, ap, ◌∙◌, subst}
use mathlib.Core.Bool.{Bool, true, false}
use mathlib.Core.List.{List, [], ◌∷◌, ◌++◌, append-nil}
use native.Mathlib.Nat.{add-mul-mod_self_left, add-mod-mod}
use native.Mathlib.Omega.{arith}
use lib.ListN.{length, get_or, take, drop, take-append-drop, length-append}
use lib.Seq.{sets-eq, take-suc, take-length, length-take-le, get_or_at, get_or-take}
use borrow.Author.Tests.{eqb-true, le-leb, lt-leb, eq-eqb, ne_eqb}
use lib.Dec.{eqb}
use Rattle.laws.proofs.Lists.{drop_step, drop_end}
use Rattle.std.proofs.lemmas.List.{take_rest}
use Rattle.laws.specs.Numbers.{be32}
use Rattle.laws.specs.Answers.{refused, Outcome, refuses}
use Rattle.mdr.specs.Sum.{total, checksum_of}
use Rattle.mdr.specs.Escape.{unescape}
use Rattle.mdr.specs.Frame.{declared_of, last_of, computed_of, judged, bodied, unpack_of}
use Rattle.mdr.proofs.Escaping.{count_append}
use Rattle.mdr.proofs.Wire.{judged_whole, wire_body}
use Rattle.blocks.specs.Blocks.{Bare}
use Rattle.unescaping.specs.Flaws.{sentries, Measured, flaw_of, ScannedIs}
use Rattle.unescaping.specs.Places.{ahead, Sound, Filled}
use Rattle.unpacking.specs.Readings.{HeaderIs, Summed, RefusedBy, Reads}
use Rattle.unpacking.specs.declared.Header.{Header}
use Rattle.unpacking.specs.declared.head.Head.{Head}
use Rattle.unescaping.specs.declared.Scanned.{Scanned}
use Rattle.mdr.specs.declared.UnpackError.{UnpackError}
use Rattle.mdr.specs.declared.UnpackError.TheVariants.{TooShort, NoStart, NoEnd, BodyTooShort, LengthMismatch, BadChecksum}
use Rattle.std.specs.Prelude.{Result, Ok, Err}
use Rattle.blocks.proofs.Counting.{total_append}
use Rattle.unescaping.proofs.Flaws.{told_as}
use Rattle.unescaping.proofs.Places.{ahead_bare}
use Rattle.unescaping.proofs.Unescaping.{weighed, closing, Ends, ends}

-- ---- the header

header_front : (s d e : List ℕ) (used : ℕ) → 6 ≤ length (ahead s) → length d ≡ 6 → Filled s d 0 6 used e → e ≡ take 6 (ahead s)
header_front s d e used h n v =
    let w : List ℕ = take 6 (ahead s) in
    let m : length w ≡ 6 = length-take-le 6 (ahead s) h in
    v.writes ∙ sets-eq w d 0 (omega arith) ∙ rw (drop_end d (0 + length w) (omega arith)) (append-nil w)

pub header_is : (s d e : List ℕ) (used : ℕ) → 6 ≤ length (ahead s) → length d ≡ 6 → Filled s d 0 6 used e
    → (h : Header) → h.kind ≡ get_or e 0 0 → h.seq ≡ get_or e 1 0 → h.declared ≡ be32 e 2
    → h.rest.bytes.now ≡ take (length s - used) (drop used s) → HeaderIs s h
unfolding be32
header_is s d e used l n v h p q r t =
    let f = header_front s d e used l n v in
    let g : (i : ℕ) → i < 6 → get_or e i 0 ≡ get_or (ahead s) i 0 = λ i j. ap (λ (x : List ℕ). get_or x i 0) f ∙ get_or-take 6 (ahead s) i 0 j in record {
      kind = p ∙ g 0 (omega arith);
      seq = q ∙ g 1 (omega arith);
      declared = r ∙ rw (g 2 (omega arith), g 3 (omega arith), g 4 (omega arith), g 5 (omega arith));
      rest = rw (t, take_rest) v.rest;
    }

module _ (s : List ℕ) (t : Bool) (v : Bare 0x3D 0x3D s t) (y : t ≡ true) where
  -- nor is anything escaped after a place
  pub rest_bare : (k : ℕ) → Bare 0x3D 0x3D (take (length s - k) (drop k s)) true
  rest_bare k = rw take_rest (record { none = λ e. omega (arith, v.none y, ap sentries (take-append-drop k s), count_append 0x3D 0x3D (take k s) (drop k s)) })

  pub header_bare : (h : Header) → h.kind ≡ get_or s 0 0 → h.seq ≡ get_or s 1 0 → h.declared ≡ be32 s 2
      → h.rest.bytes.now ≡ take (length s - 6) (drop 6 s) → HeaderIs s h
  unfolding be32
  header_bare h p q r e =
      let z = ahead_bare s (v.none y) in
      record { kind = rw (z, p); seq = rw (z, q); declared = rw (z, r); rest = rw (e, z) (ahead_bare (take (length s - 6) (drop 6 s)) ((rest_bare 6).none refl) ∙ take_rest s 6) }

-- ---- the last byte, and the sum of the others

last_two : (s : List ℕ) → 2 ≤ length s → s ≡ take (length s - 2) s ++ (get_or s (length s - 2) 0 ∷ get_or s (length s - 1) 0 ∷ [])
last_two s h =
    let i : ℕ = length s - 2 in
    let k : i + 1 ≡ length s - 1 = omega arith in
    let e : drop i s ≡ get_or s i 0 ∷ get_or s (length s - 1) 0 ∷ []
    = drop_step s i (omega arith) ∙ rw k (ap (λ (l : List ℕ). get_or s i 0 ∷ l) (drop_step s (length s - 1) (omega arith) ∙ rw (drop_end s (length s - 1 + 1) (omega arith)))) in
    sym (rw e at (take-append-drop i s))

pub sound_ends : (s : List ℕ) → Sound s → 2 ≤ length s → Ends (get_or s (length s - 2) 0) (get_or s (length s - 1) 0) (ahead s)
sound_ends s v h = ends false (take (length s - 2) s) (get_or s (length s - 2) 0) (get_or s (length s - 1) 0) (ahead s) (sym (ap unescape (last_two s h)) ∙ v.is)

ends_last : (x y : ℕ) (B : List ℕ) → Ends x y B → (1 ≤ length B) × (closing x y ≡ last_of B)
ends_last x y B v =
    let n : length B ≡ length v.front + 1 = ap length v.is ∙ length-append v.front (closing x y ∷ []) in
    (omega arith, sym (ap (λ (l : List ℕ). get_or l (length B - 1) 0) v.is ∙ get_or_at v.front (closing x y) [] 0 (length B - 1) (omega arith)))

pub last_plain : (s : List ℕ) → 2 ≤ length s → Sound s → (get_or s (length s - 2) 0 ≡ 0x3D → ⊥) → get_or s (length s - 1) 0 ≡ last_of (ahead s)
last_plain s h v n =
    let k : get_or s (length s - 1) 0 + 0 ≡ get_or s (length s - 1) 0 = omega arith in
    rw (ne_eqb (get_or s (length s - 2) 0) 0x3D n, k) at (ends_last _ _ _ (sound_ends s v h)).1

pub last_escaped : (s : List ℕ) → 2 ≤ length s → Sound s → get_or s (length s - 2) 0 ≡ 0x3D → get_or s (length s - 1) 0 + 0x10 ≡ last_of (ahead s)
last_escaped s h v e = rw (eq-eqb (get_or s (length s - 2) 0) 0x3D e) at (ends_last _ _ _ (sound_ends s v h)).1

pub last_fits : (s : List ℕ) → 2 ≤ length s → Sound s → get_or s (length s - 2) 0 ≡ 0x3D → get_or s (length s - 1) 0 ≤ 0x2E
last_fits s h v e = (sound_ends s v h).small (eq-eqb (get_or s (length s - 2) 0) 0x3D e)

total_last : (B : List ℕ) → 1 ≤ length B → total B ≡ total (take (length B - 1) B) + last_of B
total_last B h =
    let k : suc (length B - 1) ≡ length B = omega arith in
    let e : B ≡ take (length B - 1) B ++ (last_of B ∷ []) = sym (take-length B) ∙ rw k at (take-suc B (length B - 1) 0 (omega arith)) in
    let z = ap total e ∙ total_append (take (length B - 1) B) (last_of B ∷ []) in
    omega arith

sums : (B : List ℕ) (n sum last : ℕ) → n ≡ length B → 1 ≤ length B → last ≡ last_of B → (sum + last) % 256 ≡ total B % 256 → sum < 256 → Summed B n sum last
unfolding checksum_of
sums B n sum last p h q e l = record { long = p; summed = omega (arith, total_last B h); ends = q }

pub bare_if : (s : List ℕ) (raw hits : ℕ) → Measured s raw hits → Bare 0x3D 0x3D s (eqb hits 0)
bare_if s raw hits m = record { none = λ e. sym m.found ∙ eqb-true hits 0 e }

off_is : (h : ℕ) → h % 256 * 45 % 256 ≡ 45 * h % 256
off_is h =
    let e : 45 * h ≡ h % 256 * 45 + 256 * (45 * (h / 256)) = omega arith in
    sym (ap (λ (n : ℕ). n % 256) e ∙ add-mul-mod_self_left (h % 256 * 45) 256 (45 * (h / 256)))

-- what is left of a sum after an addend, wrapping in eight bits
taken_off : (a x t : ℕ) → (a + x % 256) % 256 ≡ (t + x) % 256 → a < 256 → a ≡ t % 256
taken_off a x t e l = omega (arith, sym (add-mod-mod a x 256) ∙ e)

module _ (s : List ℕ) (raw hits : ℕ) (m : Measured s raw hits) (v : Sound s) where
  pub sound_few : hits ≤ length s
  sound_few = omega (arith, m.found, (weighed false s (ahead s) v.is).long)

  pub sound_summed : (last sum : ℕ) → last ≡ last_of (ahead s) → ((sum + last) % 256 + hits % 256 * 45 % 256) % 256 ≡ raw → sum < 256 → Summed (ahead s) (length s - hits) sum last
  sound_summed last sum q p l =
      let w = weighed false s (ahead s) v.is in
      let k : total (ahead s) + 45 * hits ≡ total s = omega (arith, w.heavy, m.found) in
      let y : (sum + last) % 256 ≡ total (ahead s) % 256 = taken_off ((sum + last) % 256) (45 * hits) (total (ahead s)) (rw (sym (off_is hits), k) (p ∙ m.summed)) (omega arith) in
      sums (ahead s) (length s - hits) sum last
      (omega (arith, w.long, m.found))
      (ends_last _ _ _ (sound_ends s v (omega (arith, m.long)))).0
      q
      y
      l

-- ---- what the body says

refused_by : (o : Outcome) (n : ℕ) (vs : List ℕ) → o ≡ refuses n vs → RefusedBy o (refused n vs)
refused_by o n vs e = record { number = n; values = vs; is = e; tells = refl }

module _ (s : List ℕ) (n sum last : ℕ) (m : Summed (ahead s) n sum last) where
  pub judge_short : n < 7 → Reads (judged (ahead s)) (Err BodyTooShort)
  unfolding judged
  judge_short h = record { is = refused_by _ 15 [] (rw (lt-leb 7 (length (ahead s)) (omega (arith, m.long)))) }

  pub judge_sum : 7 ≤ n → (last ≡ sum → ⊥) → Reads (judged (ahead s)) (Err (BadChecksum last sum))
  unfolding judged
  judge_sum h e = record { is = refused_by _ 17 (last ∷ sum ∷ []) (rw (le-leb 7 (length (ahead s)) (omega (arith, m.long)), ne_eqb (last_of (ahead s)) (computed_of (ahead s)) (λ q. e (m.ends ∙ q ∙ sym m.summed)), m.ends, m.summed)) }

  pub judge_length : 7 ≤ n → last ≡ sum → (h : Header) → HeaderIs s h → (h.declared ≡ n - 7 → ⊥) → Reads (judged (ahead s)) (Err (LengthMismatch h.declared (n - 7)))
  unfolding judged
  judge_length h e x p q = record { is = refused_by _ 16 (x.declared ∷ (n - 7) ∷ []) (rw (le-leb 7 (length (ahead s)) (omega (arith, m.long)), eq-eqb (last_of (ahead s)) (computed_of (ahead s)) (sym m.ends ∙ e ∙ m.summed), ne_eqb (declared_of (ahead s)) (length (ahead s) - 7) (λ v. q (p.declared ∙ v ∙ ap (λ (k : ℕ). k - 7) (sym m.long))), p.declared, m.long)) }

  pub judge_whole : 7 ≤ n → last ≡ sum → (h : Header) → HeaderIs s h → h.declared ≡ n - 7
      → (r : Head) → r.kind ≡ h.kind → r.seq ≡ h.seq → r.len ≡ n - 7 → r.part.bytes.now ≡ h.rest.bytes.now → Reads (judged (ahead s)) (Ok r)
  judge_whole h e x p q r a b c d =
      let k : length (ahead s) - 7 ≡ n - 7 = ap (λ (j : ℕ). j - 7) (sym m.long) in
      let w = judged_whole (ahead s) (omega (arith, m.long)) (sym m.ends ∙ e ∙ m.summed) (sym p.declared ∙ q ∙ sym k) in
      record { is = record { given = w ∙ rw (a, b, c, d, p.kind, p.seq, p.rest, k) } }

-- ---- from the body to the escaped part, from there to the wire

pub reads_as_law : (o o' : Outcome) (r : Result Head UnpackError) → o ≡ o' → Reads o' r → Reads o r
reads_as_law o o' r e v = subst (λ (x : Outcome). Reads x r) (sym e) v

pub body_sound : (s : List ℕ) (r : Result Head UnpackError) → Sound s → Reads (judged (ahead s)) r → Reads (bodied (unescape s)) r
body_sound s r v w = reads_as_law _ _ r (rw v.is) w

module _ (s : List ℕ) where
  pub body_flawed : (e : UnpackError) → Err e ≡ flaw_of s → Reads (bodied (unescape s)) (Err e)
  body_flawed e p = let t = told_as s (Err e) p in record { is = record { number = t.0; values = t.1.0; is = ap bodied t.1.1.1; tells = t.1.1.0 } }

  pub flaw_sound : Ok tt ≡ flaw_of s → Sound s
  unfolding ahead
  flaw_sound p = record { is = told_as s (Ok tt) p }

  pub scanned_counts : (r : Scanned) → ScannedIs s r → Ok tt ≡ flaw_of r.rest.now → Measured s r.sum r.hits
  scanned_counts r v p = v.counts (sym (p ∙ v.clean))

module _ (w : List ℕ) where
  pub wire_short : length w < 9 → Reads (unpack_of w) (Err TooShort)
  unfolding unpack_of
  wire_short h = record { is = refused_by _ 10 [] (rw (lt-leb 9 (length w) h)) }

  pub wire_start : 9 ≤ length w → (get_or w 0 0 ≡ 0x3E → ⊥) → Reads (unpack_of w) (Err NoStart)
  unfolding unpack_of
  wire_start h s = record { is = refused_by _ 11 [] (rw (le-leb 9 (length w) h, ne_eqb (get_or w 0 0) 0x3E s)) }

  pub wire_end : 9 ≤ length w → get_or w 0 0 ≡ 0x3E → (get_or w (length w - 1) 0 ≡ 0x3C → ⊥) → Reads (unpack_of w) (Err NoEnd)
  unfolding unpack_of
  wire_end h s e = record { is = refused_by _ 12 [] (rw (le-leb 9 (length w) h, eq-eqb (get_or w 0 0) 0x3E s, ne_eqb (get_or w (length w - 1) 0) 0x3C e)) }

  pub wire_whole : 9 ≤ length w → get_or w 0 0 ≡ 0x3E → get_or w (length w - 1) 0 ≡ 0x3C → (r : Result Head UnpackError) → Reads (bodied (unescape (take (length w - 1 - 1) (drop 1 w)))) r → Reads (unpack_of w) r
  wire_whole h s e r v =
      let k : length w - 2 ≡ length w - 1 - 1 = omega arith in
      reads_as_law _ _ r (wire_body w h s e ∙ rw k) v
