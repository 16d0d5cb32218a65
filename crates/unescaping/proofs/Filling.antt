-- Storing unescaped bytes.
use Rattle.std.proofs.Common.{◌≡◌, ℕ, ◌+◌, ◌-◌, ◌*◌, ◌/◌, ◌%◌, ◌<◌, ◌≤◌, Bool, true, List, ◌++◌, length, take, drop, set, sym, refl, ap, ◌∙◌, zero-add, arith, length-drop, length-take-le, drop-drop, take_at, take-add, take-append-drop, drop_at}
use Rattle.std.proofs.lemmas.List.{take_rest}
use lib.Seq.{sets, length-sets}
use Rattle.laws.specs.Stores.{Writes}
use Rattle.laws.proofs.Stores.{sets_append}
use Rattle.laws.specs.Answers.{Outcome, gives, refuses}
use Rattle.mdr.specs.Escape.{unescape}
use Rattle.unescaping.specs.Places.{bytes_of, ahead, GotIs, Filled}
use Rattle.blocks.specs.Blocks.{Bare}
use Rattle.unescaping.specs.Pairs.{Paired, DenseIf, halves}
use Rattle.unescaping.specs.declared.Got.{Got}
use Rattle.unescaping.proofs.Unescaping.{unescape_bare, pushes, pushes_gives, pushes_refuses}
use Rattle.unescaping.proofs.Pairs.{unescape_pairs, halves_length}
use Rattle.unescaping.proofs.Places.{ahead_most}

filled_then : (s d : List ℕ) (at k r : ℕ) (e : List ℕ) (l q : ℕ) (g : List ℕ) → k ≤ length (ahead s) → Filled s d at k r e → Filled (drop r s) e (at + k) l q g → Filled s d at (k + l) (r + q) g
filled_then s d at k r e l q g h a b =
    let A : List ℕ = ahead s in
    let n : length (take k A) ≡ k = length-take-le k A h in record {
      within = omega (arith, a.within, b.within, length-drop r s);
      rest = ap ahead (sym (drop-drop q r s)) ∙ b.rest ∙ rw a.rest (drop-drop l k A);
      writes = b.writes ∙ rw (a.rest, a.writes, take-add k l A) (sym (sets_append d at (take k A) (take l (drop k A)) ∙ rw n));
    }

-- k of count bytes are stored, and r bytes stand for them
pub record Filling (s d : List ℕ) (at count r : ℕ) (e : List ℕ) (k : ℕ) : Type 0 where
  pub few : k ≤ count
  pub room : count ≤ length (ahead s)
  pub long : length e ≡ length d
  pub left : length (ahead (drop r s)) ≡ length (ahead s) - k
  pub done : Filled s d at k r e

module _ (s d : List ℕ) (at count r : ℕ) (e : List ℕ) (k : ℕ) (f : Filling s d at count r e k) where
  pub fill_room : k < count → 1 ≤ length (ahead (drop r s))
  fill_room h = omega (arith, f.left, f.room)

  fill_more : (l q : ℕ) (g : List ℕ) → k + l ≤ count → Filled (drop r s) e (at + k) l q g → Filling s d at count (r + q) g (k + l)
  fill_more l q g h v =
      let x : Filled s d at (k + l) (r + q) g = filled_then s d at k r e l q g (omega (arith, f.room, f.few)) f.done v in record {
        few = h;
        room = f.room;
        long = ap length v.writes ∙ length-sets e (at + k) (take l (ahead (drop r s))) ∙ f.long;
        left = omega (arith, ap length x.rest, length-drop (k + l) (ahead s));
        done = x;
      }

  pub fill_turn : k < count → (g : Got) → GotIs s r g → Filling s d at count g.next (set e (at + k) g.byte) (k + 1)
  fill_turn h g v =
      let z : r + (g.next - r) ≡ g.next = omega (arith, v.on) in
      let y : drop (g.next - r) (drop r s) ≡ drop g.next s = drop-drop (g.next - r) r s ∙ ap (λ (n : ℕ). drop n s) z in
      rw z at (fill_more 1 (g.next - r) (set e (at + k) g.byte) (omega arith) (record {
        within = omega (arith, v.within, length-drop r s);
        rest = rw (y, v.step) refl;
        writes = rw v.step refl;
      }))

-- the same from the front of the output: so many blocks of sixteen, and the rest
module _ (s d : List ℕ) (count r : ℕ) (e : List ℕ) (b : ℕ) (f : Filling s d 0 count r e (16 * b)) where
  pub fill_blocks : b < count / 16 → (q : ℕ) (g : List ℕ) → Filled (take (length s - r) (drop r s)) e (16 * b) 16 q g → Filling s d 0 count (r + q) g (16 * (b + 1))
  fill_blocks h q g v =
      let z : 16 * b + 16 ≡ 16 * (b + 1) = omega arith in
      let u : Filled (drop r s) e (16 * b) 16 q g = rw take_rest at v in
      rw z at (fill_more s d 0 count r e (16 * b) f 16 q g (omega arith) (rw zero-add u))

  pub fill_rest : b ≡ count / 16 → (q : ℕ) (g : List ℕ) → Filled (take (length s - r) (drop r s)) e (16 * (count / 16)) (count % 16) q g → Filled s d 0 count (r + q) g
  fill_rest h q g v =
      let z : 16 * b + count % 16 ≡ count = omega arith in
      let u : Filled (drop r s) e (16 * (count / 16)) (count % 16) q g = rw take_rest at v in
      rw z at (filled_then s d 0 (16 * b) r e (count % 16) q g (omega (arith, f.room, f.few)) f.done (rw (zero-add, h) u))

-- ---- a part without a 3D

bytes_pushes : (a : List ℕ) (o : Outcome) → 1 ≤ length (bytes_of (pushes a o)) → bytes_of (pushes a o) ≡ a ++ bytes_of o
bytes_pushes a (gives vs bs) h = rw (pushes_gives a vs bs)
bytes_pushes a (refuses n vs) h = let e = ap (λ (o : Outcome). length (bytes_of o)) (pushes_refuses a n vs) in absurd (omega arith)

ahead_pushes : (s a b : List ℕ) → 1 ≤ length (ahead s) → unescape s ≡ pushes a (unescape b) → ahead s ≡ a ++ ahead b
unfolding ahead
ahead_pushes s a b n u = ap bytes_of u ∙ bytes_pushes a (unescape b) (omega (arith, ap (λ (o : Outcome). length (bytes_of o)) u))

cut : (s : List ℕ) (k : ℕ) → unescape s ≡ unescape (take k s ++ drop k s)
cut s k = ap unescape (sym (take-append-drop k s))

-- k bytes stand for sixteen, a
block_is : (s : List ℕ) (k : ℕ) (a : List ℕ) → k ≤ length s → ahead s ≡ a ++ ahead (drop k s) → length a ≡ 16 → (d : List ℕ) (at r : ℕ) (e : List ℕ) → Writes d at a r e → Filled s d at 16 k e
block_is s k a h u n d at r e w = record {
  within = h;
  rest = sym (ap (drop 16) u ∙ drop_at a (ahead (drop k s)) 16 n);
  writes = w.writes ∙ ap (λ (l : List ℕ). sets d at l) (sym (ap (take 16) u ∙ take_at a (ahead (drop k s)) 16 n));
}

-- sixteen bytes at once
pub block_inside : (s : List ℕ) → 16 ≤ length (ahead s) → 16 ≤ length s
block_inside s h = omega (arith, ahead_most s)

pub block_long : (s : List ℕ) → 16 ≤ length (ahead s) → length (take 16 s) ≡ 16
block_long s h = length-take-le 16 s (block_inside s h)

pub block_bare : (s d : List ℕ) (at : ℕ) (t : Bool) (r : ℕ) (e : List ℕ) → 16 ≤ length (ahead s) → Bare 0x3D 0x3D (take 16 s) t → t ≡ true → Writes d at (take 16 s) r e → Filled s d at 16 16 e
block_bare s d at t r e h v z w =
    let u = ahead_pushes s (take 16 s) (drop 16 s) (omega arith) (cut s 16 ∙ unescape_bare (take 16 s) (drop 16 s) (v.none z)) in
    block_is s 16 (take 16 s) (block_inside s h) u (block_long s h) d at r e w

-- sixteen escaped bytes at once
module _ (s : List ℕ) (t : Bool) (v : DenseIf s t) (z : t ≡ true) where
  pub dense_inside : 32 ≤ length s
  dense_inside = v.within z

  pub dense_long : length (take 32 s) ≡ 32
  dense_long = length-take-le 32 s dense_inside

  pub dense_paired : Paired (take 32 s)
  dense_paired = v.is z

  pub block_dense : (d : List ℕ) (at r : ℕ) (e : List ℕ) → 16 ≤ length (ahead s) → Writes d at (halves (take 32 s)) r e → Filled s d at 16 32 e
  block_dense d at r e h w =
      let u = ahead_pushes s (halves (take 32 s)) (drop 32 s) (omega arith) (cut s 32 ∙ unescape_pairs (take 32 s) (drop 32 s) dense_long dense_paired) in
      block_is s 32 (halves (take 32 s)) dense_inside u (halves_length (take 32 s) 16 dense_long) d at r e w
