-- Storing escaped bytes, and a frame's parts one after another.
use Rattle.std.proofs.Common.{◌≡◌, ℕ, ◌+◌, ◌-◌, ◌/◌, ◌%◌, ◌<◌, ◌≤◌, Bool, true, false, cond, eqb, List, [], ◌∷◌, ◌++◌, length, get_or, take, drop, set, sym, refl, ap, ◌∙◌, append_assoc, add-one, arith, length-append, length-drop, take-append-drop, take-add, eqb-true, le-leb}
use borrow.Author.Tests.{lt-leb}
use Rattle.std.proofs.lemmas.List.{take_rest}
use lib.Seq.{drop-drop, take-append_seam, drop-append_seam}
use Rattle.laws.proofs.Choice.{split_b}
use Rattle.laws.proofs.Lists.{drop_step, drop_end}
use Rattle.laws.specs.Stores.{Writes, Emitting}
use Rattle.laws.proofs.Stores.{writes_then, writes_long, emit_start, emit_turn, emit_room, emit_end}
use Rattle.laws.specs.Answers.{accepted, refused, gives, Meets}
use Rattle.laws.proofs.Answers.{meets_refused, meets_short, meets_wrote}
use Rattle.mdr.specs.Sum.{checksum_of}
use Rattle.mdr.specs.Escape.{special, escape_byte, escape}
use Rattle.mdr.specs.Escaping.{count_in, specials}
use Rattle.mdr.proofs.Escaping.{within_range, count_append, escape_append, escape_length}
use Rattle.mdr.specs.Frame.{head_of, summed_of, body_of, packed, pack_of}
use Rattle.mdr.proofs.Wire.{packed_length}
use Rattle.std.specs.Int.{from_bool, to_be_bytes, w64}
use Rattle.blocks.specs.Blocks.{Tallied, Bare, Full}
use Rattle.packing.specs.Escapes.{RanIs, MixedIs, framed}
use Rattle.blocks.specs.declared.Totals.{Totals}
use Rattle.packing.specs.declared.Ran.{Ran}
use Rattle.blocks.proofs.Counting.{bit, total_append}

-- ---- one byte

pub put_least : (b : ℕ) (t : Bool) → t ≡ special b → t ≡ true → 0x10 ≤ b
put_least b t q e = let r = within_range 0x3C 0x3E b (sym q ∙ e) in omega arith

module _ (out : List ℕ) (at b : ℕ) (t : Bool) (q : t ≡ special b) where
  pub put_room : t ≡ true → at + length (escape_byte b) ≤ length out → at + 2 ≤ length out
  put_room e h = rw (sym q ∙ e) at h

  pub put_space : t ≡ false → at + length (escape_byte b) ≤ length out → at + 1 ≤ length out
  put_space e h = rw (sym q ∙ e) at h

  pub put_special : t ≡ true → Writes out at (escape_byte b) (at + 2) (set (set out at 0x3D) (at + 1) (b - 0x10))
  put_special e = rw (sym q ∙ e) (record { next = refl; writes = rw add-one })

  pub put_plain : t ≡ false → Writes out at (escape_byte b) (at + 1) (set out at b)
  put_plain e = rw (sym q ∙ e) (record { next = refl; writes = refl })

-- ---- the rest of a part is still to be stored

pub record Escaping (out₀ : List ℕ) (at₀ : ℕ) (part out : List ℕ) (at : ℕ) (rest : List ℕ) : Type 0 where
  pub emits : Emitting out₀ at₀ (escape part) out at (escape rest)

pub escape_start : (out : List ℕ) (at : ℕ) (part : List ℕ) → Escaping out at part out at part
escape_start out at part = record { emits = emit_start out at (escape part) }

escape_split : (l : List ℕ) (k : ℕ) → escape l ≡ escape (take k l) ++ escape (drop k l)
escape_split l k = ap escape (sym (take-append-drop k l)) ∙ escape_append (take k l) (drop k l)

pub escape_least : (l : List ℕ) → length l ≤ length (escape l)
escape_least l = omega (arith, escape_length l)

-- byte by byte
module _ (out₀ : List ℕ) (at₀ : ℕ) (part out : List ℕ) (at i : ℕ) (s : Escaping out₀ at₀ part out at (drop i part)) where
  pub escape_room : i < length part → at₀ + length (escape part) ≤ length out₀ → at + length (escape_byte (get_or part i 0)) ≤ length out
  escape_room h l = emit_room out₀ at₀ (escape part) out at (escape (drop i part)) s.emits (escape_byte (get_or part i 0)) (escape (drop (i + 1) part)) (ap escape (drop_step part i h)) l

  pub escape_turn : i < length part → (r : ℕ) (out' : List ℕ) → Writes out at (escape_byte (get_or part i 0)) r out' → Escaping out₀ at₀ part out' r (drop (i + 1) part)
  escape_turn h r out' v = record { emits = emit_turn out₀ at₀ (escape part) out at (escape (drop i part)) s.emits (escape_byte (get_or part i 0)) (escape (drop (i + 1) part)) r out' (ap escape (drop_step part i h)) v }

  pub escape_end : length part ≤ i → Writes out₀ at₀ (escape part) at out
  escape_end h = emit_end out₀ at₀ (escape part) out at (escape (drop i part)) s.emits (ap escape (drop_end part i h))

-- ---- a part without a byte to escape

escape_bare : (l : List ℕ) → specials l ≡ 0 → escape l ≡ l
escape_bare [] e = refl
escape_bare (b ∷ bs) e =
    split_b (special b)
    (λ t. let k : ◌≡◌ {A = ℕ} (cond (special b) 1 0) 1 = rw t in absurd (omega arith))
    (λ t. rw (t, escape_bare bs (omega arith)))

pub bare_as : (l : List ℕ) (t : Bool) (out : List ℕ) (at r : ℕ) (out' : List ℕ) → Bare 0x3C 0x3E l t → t ≡ true → Writes out at l r out' → Writes out at (escape l) r out'
bare_as l t out at r out' v y w = rw (escape_bare l (v.none y)) w

pub bare_room : (l : List ℕ) (t : Bool) (out : List ℕ) (at : ℕ) → Bare 0x3C 0x3E l t → t ≡ true → at + length (escape l) ≤ length out → at + length l ≤ length out
bare_room l t out at v y h = rw (escape_bare l (v.none y)) at h

-- ---- block by block: bare, or part by part

module _ (out₀ : List ℕ) (at₀ : ℕ) (part out : List ℕ) (at : ℕ) (rest : List ℕ) (s : Escaping out₀ at₀ part out at rest) where
  pub rest_room : at₀ + length (escape part) ≤ length out₀ → at + length (escape rest) ≤ length out
  rest_room l = omega (arith, s.emits.next, s.emits.long)

  pub bare_space : (k : ℕ) → k ≤ length rest → at₀ + length (escape part) ≤ length out₀ → at + k ≤ length out
  bare_space k h l = omega (arith, rest_room l, escape_least rest)

  part_turn : (k r : ℕ) (out' : List ℕ) → Writes out at (escape (take k rest)) r out' → Escaping out₀ at₀ part out' r (take (length rest - k) (drop k rest))
  part_turn k r out' v = rw take_rest (record { emits = emit_turn out₀ at₀ (escape part) out at (escape rest) s.emits (escape (take k rest)) (escape (drop k rest)) r out' (escape_split rest k) v })

  pub bare_turn : (k : ℕ) (t : Bool) → Bare 0x3C 0x3E (take k rest) t → t ≡ true → (r : ℕ) (out' : List ℕ) → Writes out at (take k rest) r out' → Escaping out₀ at₀ part out' r (take (length rest - k) (drop k rest))
  bare_turn k t v z r out' w = part_turn k r out' (bare_as (take k rest) t out at r out' v z w)

  pub mixed_turn : (r : Ran) (out' : List ℕ) → MixedIs rest out at r out' → Escaping out₀ at₀ part out' r.at (take (length rest - r.used) (drop r.used rest))
  mixed_turn r out' v = part_turn r.used r.at out' v.ran.writes

-- ---- a run of blocks

pub record Running (part out₀ : List ℕ) (at₀ : ℕ) (out : List ℕ) (at i : ℕ) : Type 0 where
  pub few : i ≤ length part
  pub long : length out ≡ length out₀
  pub done : Writes out₀ at₀ (escape (take i part)) at out

pub run_start : (part out : List ℕ) (at : ℕ) → Running part out at out at 0
run_start part out at = record { few = omega arith; long = refl; done = record { next = omega arith; writes = refl } }

escape_cut : (l : List ℕ) (i k : ℕ) → escape (take (i + k) l) ≡ escape (take i l) ++ escape (take (i + k - i) (drop i l))
escape_cut l i k = let e : i + k - i ≡ k = omega arith in rw e (ap escape (take-add i k l) ∙ escape_append (take i l) (take k (drop i l)))

escape_front : (l : List ℕ) (i : ℕ) → length (escape (take i l)) ≤ length (escape l)
escape_front l i =
    let e = ap escape (sym (take-append-drop i l)) ∙ escape_append (take i l) (drop i l) in
    omega (arith, ap length e, length-append (escape (take i l)) (escape (drop i l)))

module _ (part out₀ : List ℕ) (at₀ : ℕ) (out : List ℕ) (at i : ℕ) (s : Running part out₀ at₀ out at i) where
  pub run_room : (k : ℕ) → k ≤ length part - i → at₀ + length (escape part) ≤ length out₀ → at + length (escape (take (i + k - i) (drop i part))) ≤ length out
  run_room k h l = omega (arith, s.done.next, s.long, escape_front part (i + k), ap length (escape_cut part i k), length-append (escape (take i part)) (escape (take (i + k - i) (drop i part))))

  pub run_turn : (k : ℕ) → k ≤ length part - i → (r : ℕ) (out' : List ℕ) → Writes out at (escape (take (i + k - i) (drop i part))) r out' → Running part out₀ at₀ out' r (i + k)
  run_turn k h r out' w = record {
    few = omega (arith, s.few);
    long = writes_long out at (escape (take (i + k - i) (drop i part))) r out' w ∙ s.long;
    done = rw (escape_cut part i k) (writes_then out₀ at₀ (escape (take i part)) at out (escape (take (i + k - i) (drop i part))) r out' s.done w);
  }

  pub run_end : (r : Ran) → r.used ≡ i → r.at ≡ at → RanIs part out₀ at₀ r out
  run_end r p q = record { few = omega (arith, s.few); writes = rw (p, q) s.done }

-- chunk by chunk
pub record Chunking (part out₀ : List ℕ) (at₀ : ℕ) (out : List ℕ) (at used : ℕ) (rest : List ℕ) : Type 0 where
  pub run : Running part out₀ at₀ out at used
  pub left : drop used part ≡ rest

pub chunk_start : (part out : List ℕ) (at : ℕ) → Chunking part out at out at 0 part
chunk_start part out at = record { run = run_start part out at; left = refl }

module _ (part out₀ : List ℕ) (at₀ : ℕ) (out : List ℕ) (at used : ℕ) (rest : List ℕ) (s : Chunking part out₀ at₀ out at used rest) where
  module _ (x rest' : List ℕ) (e : rest ≡ x ++ rest') (n : length x ≡ 16) where
    chunk_long : 16 ≤ length part - used
    chunk_long = omega (arith, n, length-drop used part, ap length (s.left ∙ e), length-append x rest')

    chunk_front : take (used + 16 - used) (drop used part) ≡ x
    chunk_front = let k : used + 16 - used ≡ 16 = omega arith in rw (k, s.left, e, ← n) (take-append_seam x rest')

    chunk_rest : drop (used + 16) part ≡ rest'
    chunk_rest = sym (drop-drop 16 used part) ∙ rw (s.left, e, ← n) (drop-append_seam x rest')

    pub chunk_room : at₀ + length (escape part) ≤ length out₀ → at + length (escape x) ≤ length out
    chunk_room l = rw chunk_front at (run_room part out₀ at₀ out at used s.run 16 chunk_long l)

    pub chunk_turn : (r : ℕ) (out' : List ℕ) → Writes out at (escape x) r out' → Chunking part out₀ at₀ out' r (used + 16) rest'
    chunk_turn r out' w = record {
      run = run_turn part out₀ at₀ out at used s.run 16 chunk_long r out' (rw chunk_front w);
      left = chunk_rest;
    }

  pub chunk_end : (r : Ran) → r.used ≡ used → r.at ≡ at → RanIs part out₀ at₀ r out
  chunk_end r p q = run_end part out₀ at₀ out at used s.run r p q

-- the first block, and what goes on
module _ (l d : List ℕ) (at : ℕ) where
  pub first_room : at + length (escape l) ≤ length d → at + length (escape (take 16 l)) ≤ length d
  first_room h = omega (arith, escape_front l 16)

  pub more_room : at + length (escape l) ≤ length d → (r : ℕ) (e : List ℕ) → Writes d at (escape (take 16 l)) r e → r + length (escape (take (length l - 16) (drop 16 l))) ≤ length e
  more_room h r e w = rw take_rest (omega (arith, w.next, writes_long d at (escape (take 16 l)) r e w, ap length (escape_split l 16), length-append (escape (take 16 l)) (escape (drop 16 l))))

  pub first_only : 16 ≤ length l → (r : Ran) (e : List ℕ) → Writes d at (escape (take 16 l)) r.at e → r.used ≡ 16 → MixedIs l d at r e
  first_only h r e w q = record { least = omega arith; ran = record { few = omega arith; writes = rw q w } }

  pub first_more : 16 ≤ length l → (k : ℕ) (e : List ℕ) → Writes d at (escape (take 16 l)) k e → (q : Ran) (g : List ℕ) → RanIs (take (length l - 16) (drop 16 l)) e k q g → (r : Ran) → r.used ≡ 16 + q.used → r.at ≡ q.at → MixedIs l d at r g
  first_more h k e w q g v r x y =
      let u : RanIs (drop 16 l) e k q g = rw take_rest at v in
      let z : escape (take (16 + q.used) l) ≡ escape (take 16 l) ++ escape (take q.used (drop 16 l)) = ap escape (take-add 16 q.used l) ∙ escape_append (take 16 l) (take q.used (drop 16 l)) in record {
        least = omega arith;
        ran = record {
          few = omega (arith, u.few, length-drop 16 l);
          writes = rw (x, y, z) (writes_then d at (escape (take 16 l)) k e (escape (take q.used (drop 16 l))) q.at g w u.writes);
        };
      }

-- every byte of a block is escaped
pub full_is : (l : List ℕ) (t : Bool) → Full 0x3C 0x3E l t → t ≡ true → count_in 0x3C 0x3E l ≡ length l
full_is l t v z = v.all z

-- ---- a frame's parts

pub head_bytes : (k q n : ℕ) (l : List ℕ) → l ≡ to_be_bytes w64 n → k ∷ q ∷ get_or l 4 0 ∷ get_or l 5 0 ∷ get_or l 6 0 ∷ get_or l 7 0 ∷ [] ≡ head_of k q n
unfolding head_of
head_bytes k q n l e =
    let a : n / 256 / 256 / 256 % 256 ≡ n / 16777216 % 256 = omega arith in
    let b : n / 256 / 256 % 256 ≡ n / 65536 % 256 = omega arith in
    rw (a, b, e) refl

framed_length : (head p : List ℕ) (sum : ℕ) → length (framed head p sum) ≡ 1 + length (escape head) + length (escape p) + length (escape_byte sum ++ (0x3C ∷ []))
unfolding framed
framed_length head p sum = simp length-append (omega arith)

pub starts : (head d : List ℕ) (r : ℕ) (d' : List ℕ) (q : ℕ) (d'' : List ℕ) → Writes d 0 (0x3E ∷ []) r d' → Writes d' r (escape head) q d'' → Writes d 0 (0x3E ∷ escape head) q d''
starts head d r d' q d'' v w = writes_then d 0 (0x3E ∷ []) r d' (escape head) q d'' v w

pub end_room : (sum at : ℕ) (d : List ℕ) → at + length (escape_byte sum ++ (0x3C ∷ [])) ≤ length d → at + length (escape_byte sum) ≤ length d
end_room sum at d h = omega (arith, length-append (escape_byte sum) (0x3C ∷ []))

pub end_space : (sum at : ℕ) (d : List ℕ) (r : ℕ) (d' : List ℕ) → at + length (escape_byte sum ++ (0x3C ∷ [])) ≤ length d → Writes d at (escape_byte sum) r d' → r < length d'
end_space sum at d r d' h v = omega (arith, length-append (escape_byte sum) (0x3C ∷ []), v.next, writes_long d at (escape_byte sum) r d' v)

pub closes : (sum at : ℕ) (d : List ℕ) (r : ℕ) (d' : List ℕ) (q : ℕ) (d'' : List ℕ) → Writes d at (escape_byte sum) r d' → Writes d' r (0x3C ∷ []) q d'' → Writes d at (escape_byte sum ++ (0x3C ∷ [])) q d''
closes sum at d r d' q d'' v w = writes_then d at (escape_byte sum) r d' (0x3C ∷ []) q d'' v w

module _ (head p : List ℕ) (sum : ℕ) (d : List ℕ) (f : length (framed head p sum) ≤ length d) where
  pub room_1 : 1 + length (escape head) ≤ length d
  room_1 = omega (arith, framed_length head p sum)

  pub room_2 : (a : ℕ) (d' : List ℕ) → Writes d 0 (0x3E ∷ escape head) a d' → a + length (escape p) ≤ length d'
  room_2 a d' w = omega (arith, framed_length head p sum, w.next, writes_long d 0 (0x3E ∷ escape head) a d' w)

  pub room_3 : (a : ℕ) (d' : List ℕ) (b : ℕ) (d'' : List ℕ) → Writes d 0 (0x3E ∷ escape head) a d' → Writes d' a (escape p) b d'' → b + length (escape_byte sum ++ (0x3C ∷ [])) ≤ length d''
  room_3 a d' b d'' w v = omega (arith, framed_length head p sum, w.next, writes_long d 0 (0x3E ∷ escape head) a d' w, v.next, writes_long d' a (escape p) b d'' v)

  pub whole : (a : ℕ) (d' : List ℕ) (b : ℕ) (d'' : List ℕ) (r : ℕ) (d''' : List ℕ) → Writes d 0 (0x3E ∷ escape head) a d' → Writes d' a (escape p) b d'' → Writes d'' b (escape_byte sum ++ (0x3C ∷ [])) r d''' → Writes d 0 (framed head p sum) r d'''
  unfolding framed
  whole a d' b d'' r d''' w v u = writes_then d 0 (0x3E ∷ escape head) a d' (escape p ++ (escape_byte sum ++ (0x3C ∷ []))) r d''' w (writes_then d' a (escape p) b d'' (escape_byte sum ++ (0x3C ∷ [])) r d''' v u)

-- ---- the whole frame

module _ (t q : ℕ) (p : List ℕ) where
  packed_framed_as : packed t q p ≡ framed (head_of t q (length p)) p (checksum_of (summed_of t q p))
  unfolding packed framed body_of summed_of
  packed_framed_as = simp (escape_append, append_assoc)

  pub pack_long : 32760 < length p → (d : List ℕ) → Meets (pack_of t q p) d (refused 18 []) d
  unfolding pack_of
  pack_long h d = meets_refused (pack_of t q p) d 18 [] (rw (lt-leb (length p) 32760 h))

  given : length p ≤ 32760 → pack_of t q p ≡ gives (length (packed t q p) ∷ []) (packed t q p)
  unfolding pack_of
  given h = rw (le-leb (length p) 32760 h)

pub bare_if : (l : List ℕ) (lo hi : ℕ) (t : Totals) → Tallied l lo hi t → Bare lo hi l (eqb t.hits 0)
bare_if l lo hi t v = record { none = λ e. sym v.hits ∙ eqb-true t.hits 0 e }

-- header and payload counted, the sum known
module _ (k q : ℕ) (p head : List ℕ) (h t : Totals) (sum m : ℕ) (e : head ≡ head_of k q (length p)) (v : Tallied head 0x3C 0x3E h) (w : Tallied p 0x3C 0x3E t) (s : sum ≡ (h.sum + t.sum) % 256) (b : Bool) (y : b ≡ special sum) (o : m ≡ from_bool b) where
  sum_is : sum ≡ checksum_of (summed_of k q p)
  unfolding checksum_of summed_of
  sum_is = rw (← e) (omega (arith, v.sum, w.sum, total_append head p))

  framed_is : packed k q p ≡ framed head p sum
  framed_is = packed_framed_as k q p ∙ rw (sym sum_is, sym e)

  one_is : m ≡ cond (special sum) 1 0
  one_is = o ∙ (bit b).0 ∙ ap (λ (t : Bool). cond t 1 0) y

  needed_is : 9 + length p + h.hits + t.hits + m ≡ length (packed k q p)
  unfolding body_of summed_of
  needed_is =
      let c : specials (body_of k q p) ≡ specials (head_of k q (length p)) + specials p + (cond (special sum) 1 0 + 0)
      = rw (sym sum_is) (simp (count_append 0x3C 0x3E)) in
      let x : specials (head_of k q (length p)) ≡ h.hits = rw (← e) (sym v.hits) in
      omega (arith, packed_length k q p, w.hits, one_is)

  pub frame_room : (d : List ℕ) → 9 + length p + h.hits + t.hits + m ≤ length d → length (framed head p sum) ≤ length d
  frame_room d l = rw (← framed_is) (omega (arith, needed_is))

  pub pack_short : length p ≤ 32760 → (d : List ℕ) → length d < 9 + length p + h.hits + t.hits + m → Meets (pack_of k q p) d (refused 7 ((9 + length p + h.hits + t.hits + m) ∷ [])) d
  pack_short l d n = meets_short (pack_of k q p) d (length (packed k q p) ∷ []) (packed k q p) (9 + length p + h.hits + t.hits + m) (given k q p l) needed_is n

  pub pack_wrote : length p ≤ 32760 → (d : List ℕ) → 9 + length p + h.hits + t.hits + m ≤ length d → (r : ℕ) (d' : List ℕ) → Writes d 0 (framed head p sum) r d' → Meets (pack_of k q p) d (accepted ((9 + length p + h.hits + t.hits + m) ∷ [])) d'
  pack_wrote l d n r d' u = rw needed_is (meets_wrote (pack_of k q p) d (length (packed k q p) ∷ []) (packed k q p) r d' (given k q p l) (omega (arith, needed_is)) (rw framed_is u))
