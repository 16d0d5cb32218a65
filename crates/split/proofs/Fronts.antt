-- What lies below the lengths held stays, and so does what is read from it.
use Prim.Native.Nat.{ℕ, zero, suc, ◌+◌, ◌*◌, ◌<◌, ◌≤◌}
use mathlib.Core.Path.{◌≡◌, refl, sym, ap, ◌∙◌}
use mathlib.Core.List.{List}
use native.Mathlib.Omega.{arith}
use lib.ListN.{length}
use Rattle.laws.specs.Keys.{Key}
use Rattle.words.specs.Words.{word}
use Rattle.words.specs.Front.{Front}
use Rattle.words.proofs.Front.{front_word}
use Rattle.rfcomm.specs.Pieces.{Piece}
use Rattle.rfcomm.specs.PieceTable.{piece_at, pieces_from, infos_of, Within}
use Rattle.rfcomm.proofs.PieceRows.{piece_front, pieces_front, infos_front, within_front}
use Rattle.split.specs.Rows.{row_of, piece, dlci_at, tail_at, key_at, len_at, bytes_at, stream_of, held_in, newest_of, Linked, Laid}
use Rattle.split.specs.Walks.{Lying}
use Rattle.split.specs.declared.Plan.{Plan}

module _ (f u w : List ℕ) (p : Plan) (l : Lying f w p) (s : Front (4 * p.held) u w) where
  piece_same : (i : ℕ) → i < p.n → piece f u p i ≡ piece f w p i
  piece_same i h = piece_front (4 * p.held) f u w (row_of p i) (omega (arith, l.chained.rows)) s (4 * p.held) (omega arith) (l.within i h)

  pub dlci_front : (i : ℕ) → i < p.n → dlci_at u p i ≡ dlci_at w p i
  unfolding piece_at
  dlci_front i h = ap (λ (x : Piece). x.dlci) (piece_same i h)

  pub tail_front : (i : ℕ) → i < p.n → tail_at u p i ≡ tail_at w p i
  unfolding piece_at tail_at
  tail_front i h = ap (λ (x : Piece). x.key) (piece_same i h)

  pub key_front : (i : ℕ) → i < p.n → key_at u p i ≡ key_at w p i
  unfolding key_at
  key_front i h = rw (dlci_front i h, tail_front i h)

  pub len_front : (i : ℕ) → i < p.n → len_at u p i ≡ len_at w p i
  len_front i h = rw (front_word (4 * p.held) u w (row_of p i + 5) (omega (arith, l.chained.rows)) s)

  pub bytes_front : (i : ℕ) → i < p.n → bytes_at f u p i ≡ bytes_at f w p i
  unfolding piece_at bytes_at
  bytes_front i h = ap (λ (x : Piece). x.bytes) (piece_same i h)

  -- the pieces from the i-th on
  pub table_front : (i k : ℕ) → i + k ≤ p.n → pieces_from f u p.rows i k ≡ pieces_from f w p.rows i k
  table_front i k h = pieces_front (4 * p.held) f u w p.rows i k (4 * p.held) (omega (arith, l.chained.rows)) s (omega arith) (λ j o. l.within j (omega arith))

  pub stream_front : (i : ℕ) (k : Key) → i ≤ p.n → stream_of f u p i k ≡ stream_of f w p i k
  unfolding stream_of
  stream_front zero k h = refl
  stream_front (suc i) k h = rw (stream_front i k (omega arith), key_front i (omega arith), bytes_front i (omega arith))

  -- with the lengths held before i also the same
  pub held_front : (i : ℕ) (k : Key) → i ≤ p.n → ((j : ℕ) → j < i → word u (p.held + j) ≡ word w (p.held + j)) → held_in u p i k ≡ held_in w p i k
  unfolding held_in
  held_front zero k h g = refl
  held_front (suc i) k h g = rw (held_front i k (omega arith) (λ j q. g j (omega arith)), key_front i (omega arith), g i (omega arith))

  pub newest_front : (k : Key) (i : ℕ) → i ≤ p.n → newest_of (λ j. key_at u p j) k i ≡ newest_of (λ j. key_at w p j) k i
  unfolding newest_of
  newest_front k zero h = refl
  newest_front k (suc i) h = rw (key_front i (omega arith), newest_front k i (omega arith))

  pub linked_front : Linked u p
  linked_front = record {
    before = λ i h. front_word (4 * p.held) u w (p.chain + i) (omega (arith, l.chained.chain)) s ∙ l.chained.linked.before i h ∙ sym (rw (key_front i h) (newest_front (key_at w p i) i (omega arith)));
  }

  within_same : (i : ℕ) → i < p.n → Within f u (row_of p i) (4 * p.held)
  within_same i h = within_front (4 * p.held) f u w (row_of p i) (4 * p.held) (omega (arith, l.chained.rows)) s (l.within i h)

  infos_same : infos_of u p.rows p.n ≡ infos_of w p.rows p.n
  infos_same = infos_front (4 * p.held) u w p.rows p.n (omega (arith, l.chained.rows)) s

  -- the tables alone
  pub lying_front : 4 * (p.ends + p.n) ≤ length u → Lying f u p
  lying_front e = record {
    chained = record { rows = l.chained.rows; chain = l.chained.chain; linked = linked_front; ends = l.chained.ends; words = e };
    within = within_same;
  }

pub laid_lying : (f w : List ℕ) (p : Plan) → Laid f w p → Lying f w p
laid_lying f w p l = record {
  chained = record { rows = l.rows; chain = l.chain; linked = l.linked; ends = l.ends; words = omega (arith, l.area, l.room) };
  within = l.within;
}

pub laid_front : (f u w : List ℕ) (p : Plan) → Laid f w p → Front (4 * p.held) u w → length u ≡ length w → Laid f u p
laid_front f u w p l s e =
    let k = laid_lying f w p l in
    record {
      rows = l.rows;
      chain = l.chain;
      linked = linked_front f u w p k s;
      ends = l.ends;
      area = l.area;
      many = l.many;
      sum = rw (infos_same f u w p k s) l.sum;
      room = rw (infos_same f u w p k s, e) l.room;
      within = within_same f u w p k s;
    }
