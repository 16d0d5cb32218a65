-- Reading the packet of one record.
use Rattle.std.specs.Prelude.{ℕ, Option, ◌≡◌, List, drop}
use Rattle.acl.specs.Reading.{StandsIn, bytes_in, end_of, shown, Held}
use Rattle.acl.specs.declared.Fragment.{Fragment}
use Rattle.acl.specs.declared.excerpt.Excerpt.{Excerpt}
use Rattle.pcap.specs.Packets.{directed_packet}

-- what reading answers, against the definition for every time, in each file that the excerpt is of
pub record RecordIs (x : Excerpt) (r : Option Fragment) : Type 0 where
  pub shows : (f : List ℕ) → StandsIn f x → (time : ℕ) → directed_packet time (drop 16 (bytes_in x)) ≡ shown f time r
  pub held : Held (end_of x) r
