-- Laws of specs/Passing.
use Prim.Native.Nat.{ℕ, ◌+◌, ◌*◌, ◌/◌, ◌≤◌}
use mathlib.Core.Path.{◌≡◌}
use mathlib.Core.List.{List}
use native.Mathlib.Omega.{arith}
use lib.ListN.{length}
use Rattle.words.specs.Words.{word}
use Rattle.words.specs.Front.{Front}
use Rattle.words.proofs.Front.{front_word, front_less}
use Rattle.table.specs.Table.{lookup}
use Rattle.table.proofs.Table.{long_agree, lookup_agree}
use Rattle.tree.proofs.Index.{indexed_agree, stands_same}
use Rattle.l2cap.specs.Pdus.{Pdu}
use Rattle.l2cap.specs.PduTable.{pdus_from, Reassembled}
use Rattle.l2cap.proofs.PduFrames.{reassembled_front}
use Rattle.channels.specs.Signals.{Signal, signals}
use Rattle.channels.specs.ChannelTable.{channel_key, channel_index, Tells}
use Rattle.channels.specs.Passing.{Tries, Signalled}

-- what the pass requires, from what reassembly leaves
pub reassembled_own : (f w : List ℕ) (made : ℕ) (ps : List Pdu) → Reassembled f w made ps → Reassembled f w made (pdus_from f w (2 * (length f / 4)) 0 made)
reassembled_own f w made ps r = rw r.list r

-- ---- what a write behind the tables leaves

pub tells_front : (ss : List Signal) (u w : List ℕ) (b n : ℕ) → Front (4 * (b + 4 * n)) u w → Tells ss w b n → Tells ss u b n
tells_front ss u w b n fr t = record {
  names = λ link rx cid p q. rw (same (channel_key link rx cid)) (t.names link rx cid p q);
  admits = λ link rx cid p q. rw (same (channel_key link rx cid)) (t.admits link rx cid p q);
} where
  same : (k : ℕ) → lookup u b n k ≡ lookup w b n k
  same k = lookup_agree u w b n k (λ j lo hi. front_word (4 * (b + 4 * n)) u w j (omega arith) fr)

tries_front : (u w : List ℕ) (q n : ℕ) → 3 * q + 4 * n ≤ 5 * q → Front (20 * q) u w → ((j : ℕ) → 6 * q + (6 * q) / 7 ≤ j → word u j ≡ word w j) → length u ≡ length w → Tries w q n → Tries u q n
unfolding channel_index
tries_front u w q n few fr above l t = record {
  small = t.small;
  indexed = indexed_agree w (channel_index q) n t.indexed u
      (λ j h. long_agree u w (3 * q + 4 * j) (front_word (20 * q) u w (3 * q + 4 * j) (omega arith) fr) (front_word (20 * q) u w (3 * q + 4 * j + 1) (omega arith) fr))
      (λ j h g. above j h);
  stands = stands_same u w (channel_index q) n l t.stands;
}

-- the index stands in the last area and a seventh of the one before, which have to stay too
pub signalled_front : (f u w : List ℕ) (made : ℕ) (ps : List Pdu) (rows : ℕ) → Front (20 * (length f / 4)) u w → ((j : ℕ) → 6 * (length f / 4) + (6 * (length f / 4)) / 7 ≤ j → word u j ≡ word w j) → length u ≡ length w → Signalled f w made ps rows → Signalled f u made ps rows
signalled_front f u w made ps rows fr above l s =
    let q : ℕ = length f / 4 in
    record {
      pdus = reassembled_front f u w made ps (front_less (12 * q) (20 * q) u w (omega arith) fr) l s.pdus;
      tells = tells_front (signals ps) u w (3 * q) rows (front_less (4 * (3 * q + 4 * rows)) (20 * q) u w (omega (arith, s.few)) fr) s.tells;
      few = s.few;
      tries = tries_front u w q rows s.few fr above l s.tries;
    }
