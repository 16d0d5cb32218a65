-- Reading the packet of one record.
use Rattle.std.specs.Prelude.{Option, None}
use Prim.Native.Nat.{ℕ, ◌/◌, ◌%◌, ◌≤◌}
use mathlib.Core.Path.{◌≡◌, refl, sym, ◌∙◌, fun_ext}
use native.Mathlib.Omega.{arith}
use mathlib.Core.Bool.{cond}
use lib.ListN.{length}
use lib.Dec.{eqb}
use borrow.Author.Tests.{eq-eqb, ne_eqb}
use Rattle.laws.proofs.Choice.{split≡}
use Rattle.laws.specs.Numbers.{be32}
use Rattle.acl.proofs.Reading.{after_end, after_stands}
use Rattle.acl.specs.Reading.{AclIs, After, H4Is, bytes_in, shown}
use Rattle.acl.specs.declared.Fragment.{Fragment}
use Rattle.acl.specs.declared.excerpt.Excerpt.{Excerpt}
use Rattle.btsnoop.specs.Headers.{number_of, datalink_by}
use Rattle.btsnoop.specs.declared.Datalink.{Datalink}
use Rattle.btsnoop.specs.declared.Datalink.TheVariants.{Hci, H4, Monitor}
use Rattle.btsnoop.specs.Packets.{milliseconds, hci_packet, monitor_packet, packet_of}
use Rattle.btsnoop.specs.Reading.{HciIs, MonitorIs, RecordIs}

not_there : ◌≡◌ {A = ℕ} 0 1 → ⊥
not_there z = omega arith

-- a low bit, from whether it is set
low_bit : (n : ℕ) → cond (eqb (n % 2) 1) 1 0 ≡ n % 2
low_bit n = split≡ (n % 2) 1 (λ e. rw (eq-eqb (n % 2) 1 e) (sym e)) (λ e. rw (ne_eqb (n % 2) 1 e) (omega arith))

-- ---- the two kinds of record

module _ (x : Excerpt) (flags : ℕ) where
  module _ (index : ℕ) (i : index ≡ flags / 65536) where
    pub monitor_tx : flags % 65536 ≡ 4 → (r : Option Fragment) → AclIs x index 0 r → MonitorIs x flags r
    unfolding monitor_packet
    monitor_tx e r a = record { shows = λ f s time. rw (eq-eqb (flags % 65536) 4 e, ← i) (a.shows f s time); held = a.held }

    pub monitor_rx : flags % 65536 ≡ 5 → (r : Option Fragment) → AclIs x index 1 r → MonitorIs x flags r
    unfolding monitor_packet
    monitor_rx e r a = record { shows = λ f s time. rw (ne_eqb (flags % 65536) 4 (λ z. omega arith), eq-eqb (flags % 65536) 5 e, ← i) (a.shows f s time); held = a.held }

  pub monitor_none : (flags % 65536 ≡ 4 → ⊥) → (flags % 65536 ≡ 5 → ⊥) → MonitorIs x flags None
  unfolding monitor_packet shown
  monitor_none n m = record { shows = λ f s time. rw (ne_eqb (flags % 65536) 4 n, ne_eqb (flags % 65536) 5 m); held = tt }

  hci_skip : (d : Datalink) → flags / 2 % 2 ≡ 1 → HciIs x d flags None
  unfolding hci_packet shown
  hci_skip d e = record { shows = λ f s time. rw (eq-eqb (flags / 2 % 2) 1 e); held = tt }

  module _ (n : flags / 2 % 2 ≡ 1 → ⊥) where
    hci_h4 : (d : Datalink) → d ≡ H4 → (r : Option Fragment) → H4Is x (cond (eqb (flags % 2) 1) 1 0) r → HciIs x d flags r
    unfolding hci_packet
    hci_h4 d q r a = record { shows = λ f s time. rw (q, ne_eqb (flags / 2 % 2) 1 n, ← low_bit flags) (a.shows f s time); held = a.held }

    hci_plain : (d : Datalink) → (d ≡ H4 → ⊥) → (r : Option Fragment) → AclIs x 0 (cond (eqb (flags % 2) 1) 1 0) r → HciIs x d flags r
    unfolding hci_packet
    hci_plain Hci q r a = record { shows = λ f s time. rw (ne_eqb (flags / 2 % 2) 1 n, ← low_bit flags) (a.shows f s time); held = a.held }
    hci_plain H4 q r a = absurd (q refl)
    hci_plain Monitor q r a = record { shows = λ f s time. rw (ne_eqb (flags / 2 % 2) 1 n, ← low_bit flags) (a.shows f s time); held = a.held }

-- ---- the record

module _ (x : Excerpt) (h : 24 ≤ length (bytes_in x)) (flags : ℕ) (e : flags ≡ be32 (bytes_in x) 8) (y : Excerpt) (a : After x 24 y) where
  pub record_monitor : (d : Datalink) → d ≡ Monitor → (r : Option Fragment) → MonitorIs y flags r → RecordIs x d r
  unfolding packet_of
  record_monitor d q r m = record {
    shows = λ f s. rw (q, ← e, ← a.rest) (m.shows f (after_stands x 24 y a h f s) (milliseconds (bytes_in x)));
    held = rw (after_end x 24 y a h) at m.held;
  }

  record_hci : (d : Datalink) → (d ≡ Monitor → ⊥) → (r : Option Fragment) → HciIs y d flags r → RecordIs x d r
  unfolding packet_of
  record_hci Hci q r m = record {
    shows = λ f s. rw (← e, ← a.rest) (m.shows f (after_stands x 24 y a h f s) (milliseconds (bytes_in x)));
    held = rw (after_end x 24 y a h) at m.held;
  }
  record_hci H4 q r m = record {
    shows = λ f s. rw (← e, ← a.rest) (m.shows f (after_stands x 24 y a h f s) (milliseconds (bytes_in x)));
    held = rw (after_end x 24 y a h) at m.held;
  }
  record_hci Monitor q r m = absurd (q refl)

  pub record_skip : (d : Datalink) → (d ≡ Monitor → ⊥) → flags / 2 % 2 ≡ 1 → RecordIs x d None
  record_skip d q s = record_hci d q None (hci_skip y flags d s)

  module _ (n : flags / 2 % 2 ≡ 1 → ⊥) where
    pub record_h4 : (d : Datalink) → d ≡ H4 → (r : Option Fragment) → H4Is y (cond (eqb (flags % 2) 1) 1 0) r → RecordIs x d r
    record_h4 d q r m = record_hci d (λ z. let e : H4 ≡ Monitor = sym q ∙ z in absurd (not_there cc)) r (hci_h4 y flags n d q r m)

    pub record_plain : (d : Datalink) → d ≡ Hci → (r : Option Fragment) → AclIs y 0 (cond (eqb (flags % 2) 1) 1 0) r → RecordIs x d r
    record_plain d q r m = record_hci d (λ z. let e : Hci ≡ Monitor = sym q ∙ z in absurd (not_there cc)) r (hci_plain y flags n d (λ z. let e : Hci ≡ H4 = sym q ∙ z in absurd (not_there cc)) r m)

-- ---- by the datalink as which a number is read, a record is read as by the number, whichever it is

pub read_as : (n : ℕ) → packet_of (number_of (datalink_by n)) ≡ packet_of n
unfolding packet_of hci_packet
read_as n = fun_ext (λ r. split≡ n 2001
    (λ e. rw e)
    (λ e. split≡ n 1002
    (λ q. rw q)
    (λ q. rw (ne_eqb n 2001 e, ne_eqb n 1002 q))))
