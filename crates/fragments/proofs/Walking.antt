-- The packets of a key are walked again: a byte of what they bring, a number in it, and the bytes joined.
use mathlib.Core.Path.{◌≡◌, refl, sym, ap, ◌∙◌}
use mathlib.Core.List.{List, [], ◌∷◌, ◌++◌, append_assoc, append-nil}
use Prim.Native.Nat.{ℕ, zero, suc, ◌+◌, ◌-◌, ◌*◌, ◌<◌, ◌≤◌, min}
use native.Mathlib.Omega.{arith}
use mathlib.Core.Bool.{Bool, true, false, cond}
use lib.ListN.{length, get_or, take, drop, length-take, length-drop, get_or-append}
use lib.Seq.{length-take-le, take_all, take-nil, take-take, get_or-append-add, get_or-take, get_or-drop}
use lib.Dec.{eqb}
use borrow.Author.Tests.{eq-eqb, ne_eqb}
use Rattle.laws.proofs.Choice.{split≡, split≤}
use Rattle.laws.specs.Numbers.{le16, le32}
use Rattle.laws.specs.Stores.{Writes, Emitting}
use Rattle.laws.proofs.Stores.{emit_turn, emit_end}
use native.Mathlib.Numerals.{add-one}
use Rattle.words.specs.Words.{word}
use Rattle.words.specs.Front.{Front}
use Rattle.words.proofs.Front.{front_word}
use Rattle.container.specs.Packets.{Packet}
use Rattle.packets.specs.PacketTable.{packet_at, packets_from}
use Rattle.packets.proofs.PacketFrames.{packets_next, packets_none, packets_snoc, packets_front}
use Rattle.fragments.specs.Links.{soonest, tag_at}
use Rattle.fragments.proofs.Chains.{soonest_from, soonest_tag, soonest_agree, soonest_skip, tag_full, tag_key}
use Rattle.fragments.specs.Bytes.{number_of, piece_of, gathered, since, begun, Walk, InWork}

-- ---- one packet

pub number_at : (f w : List ℕ) (i : ℕ) → number_of (packet_at f w i) ≡ word w (6 * i)
unfolding packet_at
number_at f w i = omega arith

module _ (f w : List ℕ) (k i : ℕ) where
  pub piece_other : (word w (6 * i) ≡ k → ⊥) → piece_of k (packet_at f w i) ≡ []
  unfolding piece_of
  piece_other h = rw (number_at f w i, ne_eqb (word w (6 * i)) k h)

  pub piece_own : word w (6 * i) ≡ k → piece_of k (packet_at f w i) ≡ (packet_at f w i).bytes
  unfolding piece_of
  piece_own h = rw (number_at f w i, eq-eqb (word w (6 * i)) k h)

  -- a packet without bytes
  pub piece_empty : word w (6 * i + 3) ≡ 0 → piece_of k (packet_at f w i) ≡ []
  unfolding packet_at
  piece_empty e = split≡ (word w (6 * i)) k (λ h. piece_own h ∙ rw e) piece_other

pub bytes_are : (f w : List ℕ) (i : ℕ) → (packet_at f w i).bytes ≡ take (word w (6 * i + 3)) (drop (word w (6 * i + 2)) f)
unfolding packet_at
bytes_are f w i = refl

pub bytes_length : (f w : List ℕ) (i : ℕ) → word w (6 * i + 2) + word w (6 * i + 3) ≤ length f → length (packet_at f w i).bytes ≡ word w (6 * i + 3)
bytes_length f w i h = rw (bytes_are f w i) (length-take-le (word w (6 * i + 3)) (drop (word w (6 * i + 2)) f) (simp length-drop (omega arith)))

-- ---- since, from its front and from its end

pub since_stop : (f w : List ℕ) (k i upto : ℕ) → upto ≤ i → since f w k i upto ≡ []
unfolding since gathered
since_stop f w k i upto h = rw (packets_none f w i upto h)

pub since_cons : (f w : List ℕ) (k i upto : ℕ) → i < upto → since f w k i upto ≡ piece_of k (packet_at f w i) ++ since f w k (i + 1) upto
unfolding since gathered
since_cons f w k i upto h = rw (packets_next f w i upto h)

gathered_append : (k : ℕ) (xs ys : List Packet) → gathered k (xs ++ ys) ≡ gathered k xs ++ gathered k ys
unfolding gathered
gathered_append k [] ys = refl
gathered_append k (x ∷ xs) ys = rw (gathered_append k xs ys, append_assoc)

pub since_snoc : (f w : List ℕ) (k i upto : ℕ) → i ≤ upto → since f w k i (upto + 1) ≡ since f w k i upto ++ piece_of k (packet_at f w upto)
unfolding since gathered
since_snoc f w k i upto h =
    let z : upto + 1 - i ≡ suc (upto - i) = omega arith in
    let y : i + (upto - i) ≡ upto = omega arith in
    rw (z, packets_snoc f w i (upto - i), y, gathered_append k (packets_from f w i (upto - i)) (packet_at f w upto ∷ []), append-nil)

-- from a packet of the key
pub since_own : (f w : List ℕ) (k i upto : ℕ) → i < upto → word w (6 * i) ≡ k → since f w k i upto ≡ (packet_at f w i).bytes ++ since f w k (i + 1) upto
since_own f w k i upto h e = since_cons f w k i upto h ∙ rw (piece_own f w k i e)

pub since_one : (f w : List ℕ) (k i : ℕ) → since f w k i (i + 1) ≡ piece_of k (packet_at f w i)
since_one f w k i =
    since_cons f w k i (i + 1) (omega arith)
    ∙ (let z : since f w k (i + 1) (i + 1) ≡ [] = since_stop f w k (i + 1) (i + 1) (omega arith) in rw (z, append-nil))

pub since_front : (n : ℕ) (f u w : List ℕ) (k i upto : ℕ) → 24 * upto ≤ n → i ≤ upto → Front n u w → since f u k i upto ≡ since f w k i upto
unfolding since
since_front n f u w k i upto h l a = ap (gathered k) (packets_front n f u w i (upto - i) (omega arith) a)

-- ---- from a packet to the next of its key

module _ (f w l : List ℕ) (first upto : ℕ) (p : Walk f w l first upto) (i : ℕ) (h : i < upto) where
  pub fit : word w (6 * i + 2) + word w (6 * i + 3) ≤ length f
  fit = p.fits.fits i h

  module _ (r : ℕ) (e : word l (2 * i) ≡ r + 1) where
    link_to : min r upto ≡ soonest (tag_at w (word w (6 * i))) (word w (6 * i)) (suc i) (upto - suc i)
    link_to = omega (arith, p.next i h)

    pub link_more : i < r
    link_more = omega (arith, link_to, soonest_from (tag_at w (word w (6 * i))) (word w (6 * i)) (suc i) (upto - suc i))

    module _ (k : ℕ) (m : word w (6 * i) ≡ k) where
      pub link_key : r < upto → word w (6 * r) ≡ k
      link_key u =
          let a : ℕ = word w (6 * i) in
          let z : r ≡ soonest (tag_at w a) a (suc i) (upto - suc i) = omega (arith, link_to) in
          tag_key w a r (rw z (soonest_tag (tag_at w a) a (suc i) (upto - suc i) (rw (← z) (omega arith)))) ∙ m

      -- packets in between do not have the key
      pub since_jump : since f w k (i + 1) upto ≡ since f w k r upto
      since_jump = ap (λ (j : ℕ). since f w k j upto) (add-one i) ∙ passed ∙ cut where
        nothing : (j : ℕ) → (tag_at w (word w (6 * i)) j ≡ word w (6 * i) → ⊥) → piece_of k (packet_at f w j) ≡ []
        nothing j n =
            split≡ (word w (6 * j + 3)) 0
            (λ z. piece_empty f w k j z)
            (λ z. piece_other f w k j (λ x. n (tag_full w (word w (6 * i)) j z ∙ x ∙ sym m)))

        skip : (j : ℕ) → (tag_at w (word w (6 * i)) j ≡ word w (6 * i) → ⊥) → since f w k j upto ≡ since f w k (suc j) upto
        skip j n =
            split≤ upto j
            (λ u. since_stop f w k j upto u ∙ sym (since_stop f w k (suc j) upto (omega arith)))
            (λ u. since_cons f w k j upto u ∙ rw (nothing j n, add-one))

        passed : since f w k (suc i) upto ≡ since f w k (min r upto) upto
        passed =
            rw link_to
            (soonest_skip (λ j. since f w k j upto) (tag_at w (word w (6 * i))) (word w (6 * i)) (suc i) (upto - suc i) skip)

        cut : since f w k (min r upto) upto ≡ since f w k r upto
        cut =
            split≤ upto r
            (λ u. since_stop f w k (min r upto) upto (omega arith) ∙ sym (since_stop f w k r upto u))
            (λ u. let z : min r upto ≡ r = omega arith in rw z)

      -- what it has from packet i on
      pub since_next : since f w k i upto ≡ (packet_at f w i).bytes ++ since f w k r upto
      since_next = since_own f w k i upto h m ∙ rw since_jump

-- ---- a byte of what a key has

past : (a b : List ℕ) (j : ℕ) → length a ≤ j → get_or (a ++ b) j 0 ≡ get_or b (j - length a) 0
past a b j h = let z : length a + (j - length a) ≡ j = omega arith in rw z at (get_or-append-add a b (j - length a) 0)

-- a byte of what a key has from one of its packets on, that lies in this one
byte_here :
    (f w : List ℕ) (k i upto j : ℕ) → i < upto → word w (6 * i) ≡ k → word w (6 * i + 2) + word w (6 * i + 3) ≤ length f → j < word w (6 * i + 3) →
    get_or (since f w k i upto) j 0 ≡ get_or f (word w (6 * i + 2) + j) 0
byte_here f w k i upto j h e fit l =
    rw (since_own f w k i upto h e)
    (get_or-append (packet_at f w i).bytes (since f w k (i + 1) upto) 0 j (omega (arith, bytes_length f w i fit))
    ∙ rw (bytes_are f w i) (get_or-take (word w (6 * i + 3)) (drop (word w (6 * i + 2)) f) j 0 l ∙ get_or-drop (word w (6 * i + 2)) f j 0))

-- the byte is number j of what the key has from packet i on
pub record Seeking (f w : List ℕ) (first upto at i j : ℕ) : Type 0 where
  pub mine : i < upto → word w (6 * i) ≡ word w (6 * first)
  pub same : get_or (since f w (word w (6 * first)) i upto) j 0 ≡ get_or (begun f w first upto) at 0

module _ (f w l : List ℕ) (first upto : ℕ) (p : Walk f w l first upto) (at : ℕ) where
  module _ (i j : ℕ) (s : Seeking f w first upto at i j) where
    module _ (h : i < upto) (n : ℕ) (ne : n ≡ word w (6 * i + 3)) where
      module _ (r : ℕ) (e : word l (2 * i) ≡ r + 1) where
        pub seek_less : upto - r < upto - i
        seek_less = omega (arith, link_more f w l first upto p i h r e)

        pub seek_turn : n ≤ j → Seeking f w first upto at r (j - n)
        seek_turn le =
            let k : ℕ = word w (6 * first) in
            let b : List ℕ = (packet_at f w i).bytes in
            let own : since f w k i upto ≡ b ++ since f w k r upto = since_next f w l first upto p i h r e k (s.mine h) in
            let long : length b ≡ n = bytes_length f w i (fit f w l first upto p i h) ∙ sym ne in
            record {
              mine = link_key f w l first upto p i h r e k (s.mine h);
              same = sym (rw (own, past b (since f w k r upto) j (omega (arith, long)), long)) ∙ s.same;
            }

      module _ (lt : j < n) (m : ℕ) (me : m ≡ word w (6 * i + 2)) where
        pub seek_here : get_or f (m + j) 0 ≡ get_or (begun f w first upto) at 0
        seek_here = rw me (sym (byte_here f w (word w (6 * first)) i upto j h (s.mine h) (fit f w l first upto p i h) (omega arith)) ∙ s.same)

    pub seek_end : upto ≤ i → 0 ≡ get_or (begun f w first upto) at 0
    seek_end h = sym (rw (since_stop f w (word w (6 * first)) i upto h)) ∙ s.same

  -- both bytes of a number lie in the first packet
  module _ (n : ℕ) (ne : n ≡ word w (6 * first + 3)) (le : at + 2 ≤ n) (s : ℕ) (se : s ≡ word w (6 * first + 2)) where
    pub half_here : (r : ℕ) → r ≡ le16 f (s + at) → r ≡ le16 (begun f w first upto) at
    unfolding le16
    half_here r e =
        let z : s + at + 1 ≡ s + (at + 1) = omega arith in
        e ∙ rw (z, se) (rw (
          byte_here f w (word w (6 * first)) first upto at p.before refl (fit f w l first upto p first p.before) (omega arith),
          byte_here f w (word w (6 * first)) first upto (at + 1) p.before refl (fit f w l first upto p first p.before) (omega arith),
        ))

-- ---- one packet's bytes stored

take_min : (a b : ℕ) (l : List ℕ) → take a (take b l) ≡ take (min b a) l
take_min a b l =
    split≤ a b
    (λ h. let z : min b a ≡ a = omega arith in rw z (take-take a b l h))
    (λ h. let z : min b a ≡ b = omega arith in rw z (take_all a (take b l) (simp length-take (omega arith))))

module _
    (f w : List ℕ) (i left : ℕ) (out : List ℕ) (at : ℕ)
    (b n s : ℕ) (be : b ≡ word w (6 * i + 3)) (ne : n ≡ min b left) (se : s ≡ word w (6 * i + 2)) where
  module _ (p : List ℕ) (e : p ≡ take n (drop s f)) where
    pub paste_is : (r : ℕ) (u : List ℕ) → Writes out at p r u → Writes out at (take left (packet_at f w i).bytes) r u
    paste_is r u v =
        let q : p ≡ take left (packet_at f w i).bytes =
        e ∙ sym (ap (take left) (bytes_are f w i) ∙ take_min left (word w (6 * i + 3)) (drop (word w (6 * i + 2)) f) ∙ rw (ne, be, se)) in
        rw q at v

-- ---- joining

take_app : (n : ℕ) (a b : List ℕ) → take n (a ++ b) ≡ take n a ++ take (n - length a) b
take_app zero a b = let z : 0 - length a ≡ 0 = omega arith in rw z
take_app (suc n) [] b = let z : suc n - 0 ≡ suc n = omega arith in rw z
take_app (suc n) (x ∷ a) b = let z : suc n - suc (length a) ≡ n - length a = omega arith in rw (z, take_app n a b)

pub record Gathering (f w : List ℕ) (first upto need : ℕ) (out₀ out : List ℕ) (i at : ℕ) : Type 0 where
  pub mine : i < upto → word w (6 * i) ≡ word w (6 * first)
  pub ends : at ≤ need
  pub emits : Emitting out₀ 0 (take need (begun f w first upto)) out at (take (need - at) (since f w (word w (6 * first)) i upto))

module _ (f w l : List ℕ) (first upto : ℕ) (p : Walk f w l first upto) (need : ℕ) (out₀ : List ℕ) where
  module _ (out : List ℕ) (i at : ℕ) (g : Gathering f w first upto need out₀ out i at) where
    module _ (h : i < upto) (r : ℕ) (e : word l (2 * i) ≡ r + 1) where
      pub gather_less : upto - r < upto - i
      gather_less = omega (arith, link_more f w l first upto p i h r e)

      pub gather_turn : (to : ℕ) (u : List ℕ) → Writes out at (take (need - at) (packet_at f w i).bytes) to u → Gathering f w first upto need out₀ u r to
      gather_turn to u v =
          let k : ℕ = word w (6 * first) in
          let n : ℕ = need - at in
          let b : List ℕ = (packet_at f w i).bytes in
          let short : length (take n b) ≡ min n (length b) = length-take n b in
          let left : n - length b ≡ need - to = omega (arith, v.next, short, g.ends) in
          let eq : take n (since f w k i upto) ≡ take n b ++ take (need - to) (since f w k r upto) =
          ap (take n) (since_next f w l first upto p i h r e k (g.mine h)) ∙ take_app n b (since f w k r upto) ∙ rw left in
          record {
            mine = link_key f w l first upto p i h r e k (g.mine h);
            ends = omega (arith, v.next, short, g.ends);
            emits =
                emit_turn out₀ 0 (take need (begun f w first upto)) out at (take n (since f w k i upto)) g.emits
                (take n b) (take (need - to) (since f w k r upto)) to u eq v;
          }

    pub gather_end : upto ≤ i → Writes out₀ 0 (take need (begun f w first upto)) at out
    gather_end h =
        let k : ℕ = word w (6 * first) in
        emit_end out₀ 0 (take need (begun f w first upto)) out at (take (need - at) (since f w k i upto)) g.emits
        (rw (since_stop f w k i upto h) (take-nil (need - at)))

-- ---- what work has

-- the first of more rows, cut at some of them
soonest_cut : (b : ℕ → ℕ) (h i m n : ℕ) → n ≤ m → min (soonest b h i m) (i + n) ≡ soonest b h i n
unfolding soonest
soonest_cut b h i m zero l = omega (arith, soonest_from b h i m)
soonest_cut b h i zero (suc n) l = absurd (omega arith)
soonest_cut b h i (suc m) (suc n) l = go (eqb (b i) h) (soonest_cut b h (suc i) m n (omega arith)) where
  go : (t : Bool) → min (soonest b h (suc i) m) (suc i + n) ≡ soonest b h (suc i) n → min (cond t i (soonest b h (suc i) m)) (i + suc n) ≡ cond t i (soonest b h (suc i) n)
  go true e = omega arith
  go false e = let z : i + suc n ≡ suc i + n = omega arith in rw z e

word_drop : (w : List ℕ) (n i j : ℕ) → j ≡ n + i → word (drop (4 * n) w) i ≡ word w j
unfolding word le32
word_drop w n i j e =
    let d : (k : ℕ) → get_or (drop (4 * n) w) k 0 ≡ get_or w (4 * n + k) 0 = λ k. get_or-drop (4 * n) w k 0 in
    let z0 : 4 * n + 4 * i ≡ 4 * j = omega arith in
    let z1 : 4 * n + (4 * i + 1) ≡ 4 * j + 1 = omega arith in
    let z2 : 4 * n + (4 * i + 2) ≡ 4 * j + 2 = omega arith in
    let z3 : 4 * n + (4 * i + 3) ≡ 4 * j + 3 = omega arith in
    rw (d (4 * i), d (4 * i + 1), d (4 * i + 2), d (4 * i + 3), z0, z1, z2, z3)

module _ (f w : List ℕ) (q first upto : ℕ) (p : InWork f w q first upto) where
  pub work_inside : 28 * q ≤ length w
  work_inside = omega (arith, p.quarter, p.tabled.room)

  pub work_rows : 24 * upto ≤ length w
  work_rows = omega (arith, p.tabled.total, p.tabled.room)

  -- rows that are as those in work, and the links behind them
  module _ (u l : List ℕ) (fr : Front (24 * upto) u w) (long : 24 * upto ≤ length u) (le : l ≡ drop (28 * q) w) where
    same : (j n : ℕ) → j < upto → n < 6 → word u (6 * j + n) ≡ word w (6 * j + n)
    same j n h m = front_word (24 * upto) u w (6 * j + n) (omega arith) fr

    key : (j : ℕ) → j < upto → word u (6 * j) ≡ word w (6 * j)
    key j h = front_word (24 * upto) u w (6 * j) (omega arith) fr

    tag : (k j : ℕ) → j < upto → tag_at w k j ≡ tag_at u k j
    unfolding tag_at
    tag k j h = rw (key j h, same j 3 h (omega arith))

    link : (i : ℕ) → word l (2 * i) ≡ word w (7 * q + 2 * i)
    link i = let z : 4 * (7 * q) ≡ 28 * q = omega arith in rw (le, ← z) (word_drop w (7 * q) (2 * i) (7 * q + 2 * i) refl)

    pub work_walk : Walk f u l first upto
    work_walk = record {
      fits = record { fits = λ i h. rw (same i 2 h (omega arith), same i 3 h (omega arith)) (p.tabled.fits.fits i h) };
      small = p.tabled.small;
      table = long;
      room = rw le (simp length-drop (omega (arith, p.quarter, p.tabled.total, p.tabled.room)));
      next = λ i h.
          let k : ℕ = word w (6 * i) in
          let n : ℕ = p.linked.count - suc i in
          let m : ℕ = upto - suc i in
          let a : word l (2 * i) ≡ suc (soonest (tag_at w k) k (suc i) n) = link i ∙ p.linked.next i (omega (arith, p.linked.most)) in
          let b : min (soonest (tag_at w k) k (suc i) n) (suc i + m) ≡ soonest (tag_at w k) k (suc i) m = soonest_cut (tag_at w k) k (suc i) n m (omega (arith, p.linked.most)) in
          let c : soonest (tag_at w k) k (suc i) m ≡ soonest (tag_at u k) k (suc i) m = soonest_agree (tag_at w k) (tag_at u k) k (suc i) m (λ j lo hi. tag k j (omega arith)) in
          rw (key i h) (omega (arith, a, b, c));
      before = p.before;
    }

    pub work_bytes : begun f u first upto ≡ begun f w first upto
    work_bytes = rw (key first p.before) (since_front (24 * upto) f u w (word w (6 * first)) first upto (omega arith) (omega (arith, p.before)) fr)
