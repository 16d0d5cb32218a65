-- Laws of specs/PduFrames.
use mathlib.Core.Path.{◌≡◌, refl, ap, ◌∙◌}
use mathlib.Core.Bool.{Bool, true, false, cond}
use mathlib.Core.List.{List, [], ◌∷◌, ◌++◌}
use Prim.Native.Nat.{ℕ, zero, suc, ◌+◌, ◌-◌, ◌*◌, ◌/◌, ◌%◌, ◌<◌, ◌≤◌}
use native.Mathlib.Nat.{add-zero}
use native.Mathlib.Omega.{arith}
use native.Mathlib.Numerals.{add-one}
use lib.ListN.{length, take, drop, length-drop}
use lib.Seq.{length-take-le}
use lib.Dec.{eqb}
use borrow.Author.Tests.{eq-eqb, ne_eqb}
use Rattle.laws.proofs.Choice.{split≤}
use Rattle.words.specs.Words.{word}
use Rattle.words.specs.Front.{Front}
use Rattle.words.proofs.Front.{front_word, front_less, front_part}
use Rattle.table.specs.Table.{Agree}
use Rattle.table.proofs.Table.{long_agree}
use Rattle.l2cap.specs.Pdus.{Pdu}
use Rattle.l2cap.specs.PduTable.{pdu_at, pdus_from, pays_of, Inside, Reassembled}
use Rattle.l2cap.specs.PduFrames.{Lent, Placed}

-- ---- one PDU at a time

pub pdus_next : (f w : List ℕ) (b i made : ℕ) → i < made → pdus_from f w b i (made - i) ≡ pdu_at f w (b + 7 * i) ∷ pdus_from f w b (i + 1) (made - (i + 1))
unfolding pdus_from
pdus_next f w b i made h = let z : made - i ≡ suc (made - (i + 1)) = omega arith in rw (z, add-one)

pub pdus_none : (f w : List ℕ) (b i made : ℕ) → made ≤ i → pdus_from f w b i (made - i) ≡ []
unfolding pdus_from
pdus_none f w b i made h = let z : made - i ≡ 0 = omega arith in rw z

snoc_from : (f w : List ℕ) (b i m : ℕ) → pdus_from f w b i (suc m) ≡ pdus_from f w b i m ++ (pdu_at f w (b + 7 * (i + m)) ∷ [])
unfolding pdus_from
snoc_from f w b i zero = rw add-zero
snoc_from f w b i (suc m) = let z : i + suc m ≡ suc i + m = omega arith in rw (z, snoc_from f w b (suc i) m)

pub pdus_snoc : (f w : List ℕ) (b m : ℕ) → pdus_from f w b 0 (m + 1) ≡ pdus_from f w b 0 m ++ (pdu_at f w (b + 7 * m) ∷ [])
pdus_snoc f w b m = let z : 0 + m ≡ m = omega arith in rw (add-one, snoc_from f w b 0 m, z)

pub length_pdus : (f w : List ℕ) (b i m : ℕ) → length (pdus_from f w b i m) ≡ m
unfolding pdus_from
length_pdus f w b i zero = refl
length_pdus f w b i (suc m) = ap suc (length_pdus f w b (suc i) m)

pub pays_next : (w : List ℕ) (b i : ℕ) → pays_of w b (i + 1) ≡ pays_of w b i + word w (b + 7 * i + 4)
unfolding pays_of
pays_next w b i = rw add-one

pub pays_mono : (w : List ℕ) (b i j : ℕ) → i ≤ j → pays_of w b i ≤ pays_of w b j
unfolding pays_of
pays_mono w b i zero h = let z : i ≡ 0 = omega arith in rw z (omega arith)
pays_mono w b i (suc j) h = split≤ i j (λ l. omega (arith, pays_mono w b i j l)) (λ l. let z : i ≡ suc j = omega arith in rw z (omega arith))

-- ---- the fields of a row

module _ (f w : List ℕ) (at : ℕ) where
  pub link_at : (pdu_at f w at).link ≡ word w at / 2
  unfolding pdu_at
  link_at = refl

  pub rx_at : (pdu_at f w at).rx ≡ word w at % 2
  unfolding pdu_at
  rx_at = refl

  pub cid_at : (pdu_at f w at).cid ≡ word w (at + 1)
  unfolding pdu_at
  cid_at = refl

  pub payload_work : word w (at + 2) ≡ 1 → (pdu_at f w at).payload ≡ take (word w (at + 4)) (drop (word w (at + 3)) w)
  unfolding pdu_at
  payload_work e = rw (eq-eqb (word w (at + 2)) 1 e)

  pub payload_file : (word w (at + 2) ≡ 1 → ⊥) → (pdu_at f w at).payload ≡ take (word w (at + 4)) (drop (word w (at + 3)) f)
  unfolding pdu_at
  payload_file e = rw (ne_eqb (word w (at + 2)) 1 e)

pub inside_top : (f w : List ℕ) (at top top' : ℕ) → top ≤ top' → Inside f w at top → Inside f w at top'
inside_top f w at top top' h p = record { inside = go (eqb (word w (at + 2)) 1) p.inside; cid = p.cid } where
  go : (t : Bool) → word w (at + 3) + word w (at + 4) ≤ cond t top (length f) → word w (at + 3) + word w (at + 4) ≤ cond t top' (length f)
  go true q = let r : word w (at + 3) + word w (at + 4) ≤ top = q in omega arith
  go false q = q

pub reassembled_lent : (f w : List ℕ) (made : ℕ) (ps : List Pdu) → Reassembled f w made ps → (j : ℕ) → j < made → Lent f w (2 * (length f / 4) + 7 * j)
reassembled_lent f w made ps r j h = record {
  room = omega (arith, r.few, r.room);
  inside = inside_top f w (2 * (length f / 4) + 7 * j) (8 * (length f / 4)) (length w) (omega (arith, r.room)) (r.placed j h);
}

module _ (f w : List ℕ) (at : ℕ) (p : Lent f w at) where
  pub payload_length : length (pdu_at f w at).payload ≡ word w (at + 4)
  unfolding pdu_at
  payload_length = go (eqb (word w (at + 2)) 1) p.inside.inside where
    go : (t : Bool) → word w (at + 3) + word w (at + 4) ≤ cond t (length w) (length f) → length (take (word w (at + 4)) (drop (word w (at + 3)) (cond t w f))) ≡ word w (at + 4)
    go true q = length-take-le (word w (at + 4)) (drop (word w (at + 3)) w) (simp length-drop (omega arith))
    go false q = length-take-le (word w (at + 4)) (drop (word w (at + 3)) f) (simp length-drop (omega arith))

inside_agree : (f u w : List ℕ) (at top : ℕ) → Agree at (at + 7) u w → Inside f w at top → Inside f u at top
inside_agree f u w at top a p = record {
  inside = rw (a (at + 2) (omega arith) (omega arith), a (at + 3) (omega arith) (omega arith), a (at + 4) (omega arith) (omega arith)) p.inside;
  cid = rw (a (at + 1) (omega arith) (omega arith)) p.cid;
}

pub placed_agree : (f u w : List ℕ) (b n top top' : ℕ) → top ≤ top' → Agree b (b + 7 * n) u w → Placed f w b n top → Placed f u b n top'
placed_agree f u w b n top top' h a p j l =
    inside_top f u (b + 7 * j) top top' h (inside_agree f u w (b + 7 * j) top (λ k lo hi. a k (omega arith) (omega arith)) (p j l))

pdu_agree : (f u w : List ℕ) (at top : ℕ) → Agree at (at + 7) u w → Front top u w → Inside f w at top → pdu_at f u at ≡ pdu_at f w at
unfolding pdu_at
pdu_agree f u w at top a s p =
    rw (
      a at (omega arith) (omega arith),
      a (at + 1) (omega arith) (omega arith),
      a (at + 2) (omega arith) (omega arith),
      a (at + 3) (omega arith) (omega arith),
      a (at + 4) (omega arith) (omega arith),
      long_agree u w (at + 5) (a (at + 5) (omega arith) (omega arith)) (a (at + 5 + 1) (omega arith) (omega arith)),
      go (eqb (word w (at + 2)) 1) p.inside,
    ) where
      go :
          (t : Bool) → word w (at + 3) + word w (at + 4) ≤ cond t top (length f) →
          take (word w (at + 4)) (drop (word w (at + 3)) (cond t u f)) ≡ take (word w (at + 4)) (drop (word w (at + 3)) (cond t w f))
      go true q = front_part top u w (word w (at + 3)) (word w (at + 4)) q s
      go false q = refl

pub pdus_agree : (f u w : List ℕ) (b i m n top : ℕ) → i + m ≤ n → Agree b (b + 7 * n) u w → Front top u w → Placed f w b n top → pdus_from f u b i m ≡ pdus_from f w b i m
unfolding pdus_from
pdus_agree f u w b i zero n top h a s p = refl
pdus_agree f u w b i (suc m) n top h a s p =
    rw (
      pdu_agree f u w (b + 7 * i) top (λ j lo hi. a j (omega arith) (omega arith)) s (p i (omega arith)),
      pdus_agree f u w b (suc i) m n top (omega arith) a s p,
    )

pub pays_agree : (u w : List ℕ) (b n : ℕ) → Agree b (b + 7 * n) u w → pays_of u b n ≡ pays_of w b n
unfolding pays_of
pays_agree u w b zero a = refl
pays_agree u w b (suc n) a = rw (a (b + 7 * n + 4) (omega arith) (omega arith), pays_agree u w b n (λ j lo hi. a j lo (omega arith)))

-- what a write behind the table leaves: this is all that a later pass needs
pub reassembled_front : (f u w : List ℕ) (made : ℕ) (ps : List Pdu) → Front (12 * (length f / 4)) u w → length u ≡ length w → Reassembled f w made ps → Reassembled f u made ps
reassembled_front f u w made ps fr l r =
    let q : ℕ = length f / 4 in
    let ag : Agree (2 * q) (2 * q + 7 * made) u w = (λ j lo hi. front_word (12 * q) u w j (omega (arith, r.few)) fr) in
    record {
      list = pdus_agree f u w (2 * q) 0 made made (8 * q) (omega arith) ag (front_less (8 * q) (12 * q) u w (omega arith) fr) r.placed ∙ r.list;
      placed = placed_agree f u w (2 * q) made (8 * q) (8 * q) (omega arith) ag r.placed;
      few = rw (pays_agree u w (2 * q) made ag) r.few;
      small = r.small;
      room = rw l r.room;
    }
