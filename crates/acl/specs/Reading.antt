-- Reading the ACL packet in an excerpt of a file.
use Rattle.std.specs.Prelude.{ℕ, ◌+◌, ◌-◌, ◌/◌, ◌%◌, ◌≤◌, ◌≡◌, Option as Maybe, Some, None, List, length, take, drop}
use Rattle.std.proofs.Math.Option.{Option, none, some}
use Rattle.container.specs.Packets.{Packet, fragment, h4_packet}
use Rattle.acl.specs.declared.Fragment.{Fragment}
use Rattle.acl.specs.declared.excerpt.Excerpt.{Excerpt}

-- the bytes of the file from one place up to another
abbrev pub between : List ℕ → ℕ → ℕ → List ℕ
between f lo end = take (end - lo) (drop lo f)

-- ---- an excerpt

abbrev pub bytes_in : Excerpt → List ℕ
bytes_in x = x.bytes.now

-- where it ends
abbrev pub end_of : Excerpt → ℕ
end_of x = x.place + length (bytes_in x)

-- a file has its bytes at its place
pub record StandsIn (f : List ℕ) (x : Excerpt) : Type 0 where
  pub same : take (length (bytes_in x)) (drop x.place f) ≡ bytes_in x

-- one is what follows the first n bytes of another
pub record After (x : Excerpt) (n : ℕ) (y : Excerpt) : Type 0 where
  pub rest : bytes_in y ≡ drop n (bytes_in x)
  pub moved : y.place ≡ x.place + n

-- ---- the packet

-- the packet that fields stand for
unfoldable pub packet_from : List ℕ → ℕ → Fragment → Packet
packet_from f time g = record { link = g.key / 2; rx = g.key % 2; start = g.start; time = time; bytes = take g.len (drop g.place f) }

unfoldable pub shown : List ℕ → ℕ → Maybe Fragment → Option Packet
shown f time (Some g) = some (packet_from f time g)
shown f time None = none

-- its data ends before the record does
abbrev pub Held : ℕ → Maybe Fragment → Type 0
Held end (Some g) = g.place + g.len ≤ end
Held end None = Unit {0}

-- what reading answers, against a definition for every time, in each file that the excerpt is of
pub record AclIs (x : Excerpt) (index rx : ℕ) (r : Maybe Fragment) : Type 0 where
  pub shows : (f : List ℕ) → StandsIn f x → (time : ℕ) → fragment index rx time (bytes_in x) ≡ shown f time r
  pub held : Held (end_of x) r

pub record H4Is (x : Excerpt) (rx : ℕ) (r : Maybe Fragment) : Type 0 where
  pub shows : (f : List ℕ) → StandsIn f x → (time : ℕ) → h4_packet rx time (bytes_in x) ≡ shown f time r
  pub held : Held (end_of x) r
