-- Reading the packet of one record.
use Rattle.std.specs.Prelude.{ℕ, Option, ◌≡◌, List}
use Rattle.acl.specs.Reading.{StandsIn, bytes_in, end_of, shown, Held}
use Rattle.acl.specs.declared.Fragment.{Fragment}
use Rattle.acl.specs.declared.excerpt.Excerpt.{Excerpt}
use Rattle.btsnoop.specs.Headers.{number_of}
use Rattle.btsnoop.specs.declared.Datalink.{Datalink}
use Rattle.btsnoop.specs.Packets.{milliseconds, hci_packet, monitor_packet, packet_of}

-- what reading answers, against a definition for every time, in each file that the excerpt is of
pub record MonitorIs (x : Excerpt) (flags : ℕ) (r : Option Fragment) : Type 0 where
  pub shows : (f : List ℕ) → StandsIn f x → (time : ℕ) → monitor_packet flags time (bytes_in x) ≡ shown f time r
  pub held : Held (end_of x) r

pub record HciIs (x : Excerpt) (d : Datalink) (flags : ℕ) (r : Option Fragment) : Type 0 where
  pub shows : (f : List ℕ) → StandsIn f x → (time : ℕ) → hci_packet (number_of d) flags time (bytes_in x) ≡ shown f time r
  pub held : Held (end_of x) r

pub record RecordIs (x : Excerpt) (d : Datalink) (r : Option Fragment) : Type 0 where
  pub shows : (f : List ℕ) → StandsIn f x → packet_of (number_of d) (bytes_in x) ≡ shown f (milliseconds (bytes_in x)) r
  pub held : Held (end_of x) r
