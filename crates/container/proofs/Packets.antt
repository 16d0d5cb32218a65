-- The bytes of an ACL packet lie among those that it was read from, after its four bytes of fields. A link is one index and one handle.
use Prim.Native.Nat.{ℕ, ◌+◌, ◌%◌, ◌/◌, ◌<◌, ◌≤◌}
use mathlib.Core.Path.{◌≡◌, ap}
use mathlib.Core.List.{List}
use mathlib.Core.Option.{Option, none, some}
use native.Mathlib.Omega.{arith}
use lib.ListN.{length, get_or, take, drop, length-drop}
use lib.Seq.{length-take-le}
use lib.Dec.{leb, eqb}
use borrow.Author.Tests.{leb-true}
use Rattle.laws.proofs.Choice.{split_b}
use Rattle.laws.specs.Numbers.{le16}
use Rattle.container.specs.Packets.{Packet, link_of, fragment, h4_packet}

pub not_some : {G : Type 0} {p : Packet} → ◌≡◌ {A = Option Packet} none (some p) → G
not_some e = let z : ◌≡◌ {A = ℕ} 0 1 = cc in absurd (omega arith)

pub fragment_room : (index rx time : ℕ) (b : List ℕ) (p : Packet) → fragment index rx time b ≡ some p → 4 + length p.bytes ≤ length b
unfolding fragment
fragment_room index rx time b p e =
    split_b (leb (4 + le16 b 2) (length b))
    (λ q.
    let h : 4 + le16 b 2 ≤ length b = leb-true (4 + le16 b 2) (length b) q in
    let x : some _ ≡ some p = rw q at e in
    let y : take (le16 b 2) (drop 4 b) ≡ p.bytes = cc in
    let l : length (take (le16 b 2) (drop 4 b)) ≡ le16 b 2 = length-take-le (le16 b 2) (drop 4 b) (simp length-drop (omega arith)) in
    omega (arith, ap length y))
    (λ q. not_some (rw q at e))

pub h4_room : (rx time : ℕ) (b : List ℕ) (p : Packet) → h4_packet rx time b ≡ some p → 5 + length p.bytes ≤ length b
unfolding h4_packet
h4_room rx time b p e =
    split_b (eqb (get_or b 0 0) 2)
    (λ q. let h = fragment_room 0 rx time (drop 1 b) p (rw q at e) in omega (arith, length-drop 1 b))
    (λ q. not_some (rw q at e))

-- ---- links

-- a link is one index and one handle
pub link_one : (index handle index₂ handle₂ : ℕ) → handle < 4096 → handle₂ < 4096 → link_of index handle ≡ link_of index₂ handle₂ → (index ≡ index₂) × (handle ≡ handle₂)
link_one index handle index₂ handle₂ h h₂ e = (omega (arith, e), omega (arith, e))

-- which are read off it
pub link_parts : (index handle : ℕ) → handle < 4096 → (link_of index handle / 4096 ≡ index) × (link_of index handle % 4096 ≡ handle)
link_parts index handle h = (omega arith, omega arith)

-- it takes 28 bits: with the direction 29, so that it fits a word
pub link_most : (index handle : ℕ) → index < 65536 → handle < 4096 → link_of index handle < 268435456
link_most index handle i h = omega arith

-- with index 0 it is the handle
pub link_first : (handle : ℕ) → link_of 0 handle ≡ handle
link_first handle = omega arith
