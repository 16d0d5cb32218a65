-- Other numbers for the links of a file, and document 01's reading of it, which knows no adapter.
use Rattle.std.specs.Prelude.{ℕ, ◌/◌, ◌%◌, ◌≡◌, List}
use Rattle.std.proofs.Math.Option.{Option, none, some}
use Rattle.laws.specs.Lists.{All}
use Rattle.container.specs.Packets.{Packet}
use Rattle.container.specs.Container.{Container}
use Rattle.btsnoop.specs.Records.{btsnoop}

-- a packet with another number for its link
abbrev pub relinked : (ℕ → ℕ) → Packet → Packet
relinked ρ p = record { link = ρ p.link; rx = p.rx; start = p.start; time = p.time; bytes = p.bytes }

unfoldable pub if_there : (ℕ → ℕ) → Option Packet → Option Packet
if_there ρ none = none
if_there ρ (some p) = some (relinked ρ p)

-- a container read with other numbers for its links
abbrev pub relinking : (ℕ → ℕ) → Container → Container
relinking ρ C = record {
  head = C.head;
  is_file = C.is_file;
  foreign = C.foreign;
  link_type = C.link_type;
  is_taken = C.is_taken;
  untaken = C.untaken;
  size = C.size;
  packet = λ f r. if_there ρ (C.packet f r);
}

-- document 01's: a link is the handle alone, whichever adapter's it is
abbrev pub by_handle : Container
by_handle = relinking (λ l. l % 4096) btsnoop

-- no handle is seen under two indexes
abbrev pub OneIndexEach : List Packet → Type 0
OneIndexEach ps = All (λ p. All (λ q. p.link % 4096 ≡ q.link % 4096 → p.link ≡ q.link) ps) ps

-- all packets are one adapter's
abbrev pub OneIndex : ℕ → List Packet → Type 0
OneIndex index ps = All (λ p. p.link / 4096 ≡ index) ps
