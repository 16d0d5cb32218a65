-- A PDU's row: what is written, and what a payload lent from it is.
use mathlib.Core.Path.{◌≡◌, refl, sym, ap, ◌∙◌}
use mathlib.Core.Bool.{Bool, true, false, cond}
use mathlib.Core.Logic.{⊎_elim, ◌⊎◌}
use mathlib.Core.List.{List}
use Prim.Native.Nat.{ℕ, suc, ◌+◌, ◌*◌, ◌/◌, ◌%◌, ◌<◌, ◌≤◌}
use native.Mathlib.Nat.{add-zero}
use native.Mathlib.Omega.{arith}
use native.Mathlib.Numerals.{add-one}
use lib.ListN.{length, get_or, take, drop}
use lib.Dec.{eqb}
use Rattle.std.specs.Int.{from_bool}
use Rattle.words.specs.Words.{word, long, put_word, put_long}
use Rattle.words.specs.Front.{Front}
use Rattle.words.specs.Rows.{put_words}
use Rattle.words.proofs.Rows.{length_puts, front_puts, puts_below, puts_above, word_puts}
use Rattle.l2cap.specs.PduTable.{pdu_at, Inside}
use Rattle.l2cap.proofs.PduFrames.{payload_work, payload_file}
use Rattle.l2cap.specs.Steps.{words_of, put_pdu}
use Rattle.l2cap.specs.declared.Row.{Row}

-- ---- the row

-- a bit in a word, as the code writes it, and as it is read
bit_of : (b : Bool) → from_bool b ≡ cond b 1 0
bit_of true = refl
bit_of false = refl

bit_is : (b : Bool) → eqb (cond b 1 0) 1 ≡ b
bit_is true = refl
bit_is false = refl

pub row_is :
    (w : List ℕ) (at : ℕ) (p : Row) (w1 w2 w3 w4 w5 w6 : List ℕ) (j : ℕ) → j ≡ from_bool p.joined → w1 ≡ put_word w at p.key → w2 ≡ put_word w1 (at + 1) p.cid →
    w3 ≡ put_word w2 (at + 2) j → w4 ≡ put_word w3 (at + 3) p.start → w5 ≡ put_word w4 (at + 4) p.len → w6 ≡ put_long w5 (at + 5) p.time → w6 ≡ put_pdu w at p
unfolding put_pdu words_of put_words put_long
row_is w at p w1 w2 w3 w4 w5 w6 j ej e1 e2 e3 e4 e5 e6 =
    let z1 : at + 1 ≡ suc at = omega arith in
    let z2 : at + 2 ≡ suc (suc at) = omega arith in
    let z3 : at + 3 ≡ suc (suc (suc at)) = omega arith in
    let z4 : at + 4 ≡ suc (suc (suc (suc at))) = omega arith in
    let z5 : at + 5 ≡ suc (suc (suc (suc (suc at)))) = omega arith in
    rw (e6, e5, e4, e3, e2, e1, ej, bit_of p.joined, z1, z2, z3, z4, z5, add-one)

module _ (w : List ℕ) (at : ℕ) (p : Row) where
  pub row_outside : (j : ℕ) → ((j < at) ⊎ (at + 7 ≤ j)) → word (put_pdu w at p) j ≡ word w j
  unfolding put_pdu words_of
  row_outside j h = ⊎_elim (λ g. puts_below (words_of p) w at j g) (λ g. puts_above (words_of p) w at j g) h

  pub row_length : length (put_pdu w at p) ≡ length w
  unfolding put_pdu
  row_length = length_puts (words_of p) w at

  pub row_front : (n : ℕ) → n ≤ 4 * at → Front n (put_pdu w at p) w
  unfolding put_pdu
  row_front n h = front_puts n (words_of p) w at h

  module _ (room : 4 * at + 28 ≤ length w) where
    row_at : (j : ℕ) → j < 7 → word (put_pdu w at p) (at + j) ≡ get_or (words_of p) j 0
    unfolding put_pdu words_of
    row_at j h = word_puts (words_of p) w at j (omega arith) h

    row_key : word (put_pdu w at p) at ≡ p.key
    unfolding words_of
    row_key = rw add-zero at (row_at 0 (omega arith))

    pub row_len : word (put_pdu w at p) (at + 4) ≡ p.len
    unfolding words_of
    row_len = row_at 4 (omega arith)

    row_joined : eqb (word (put_pdu w at p) (at + 2)) 1 ≡ p.joined
    unfolding words_of
    row_joined = ap (λ (n : ℕ). eqb n 1) (row_at 2 (omega arith)) ∙ bit_is p.joined

    row_time : long (put_pdu w at p) (at + 5) ≡ p.time
    unfolding long words_of
    row_time =
        let z : at + 5 + 1 ≡ at + 6 = omega arith in
        rw (z, row_at 5 (omega arith), row_at 6 (omega arith)) (omega arith)

    -- what the new row says; d is where its payload lies
    pub row_new :
        (f d : List ℕ) → cond p.joined (put_pdu w at p) f ≡ d →
        pdu_at f (put_pdu w at p) at ≡ record { link = p.key / 2; rx = p.key % 2; time = p.time; cid = p.cid; payload = take p.len (drop p.start d) }
    unfolding pdu_at words_of
    row_new f d e = rw (row_key, row_at 1 (omega arith), row_joined, row_at 3 (omega arith), row_at 4 (omega arith), row_time, e)

    pub row_inside : (f : List ℕ) (top : ℕ) → p.cid < 65536 → p.start + p.len ≤ cond p.joined top (length f) → Inside f (put_pdu w at p) at top
    unfolding words_of
    row_inside f top hc h = record { inside = rw (row_joined, row_at 3 (omega arith), row_at 4 (omega arith)) h; cid = rw (row_at 1 (omega arith)) hc }

-- ---- a payload lent

pub got_work :
    (f w : List ℕ) (at p s n : ℕ) (r : List ℕ) → p ≡ word w (at + 2) → s ≡ word w (at + 3) → n ≡ word w (at + 4) → p ≡ 1 → r ≡ take n (drop s w) → r ≡ (pdu_at f w at).payload
got_work f w at p s n r pe se ne e q = q ∙ (rw (ne, se) (sym (payload_work f w at (sym pe ∙ e))))

pub got_file :
    (f w : List ℕ) (at p s n : ℕ) (r : List ℕ) → p ≡ word w (at + 2) → s ≡ word w (at + 3) → n ≡ word w (at + 4) → (p ≡ 1 → ⊥) → r ≡ take n (drop s f) → r ≡ (pdu_at f w at).payload
got_file f w at p s n r pe se ne e q = q ∙ (rw (ne, se) (sym (payload_file f w at (λ z. e (pe ∙ z)))))
