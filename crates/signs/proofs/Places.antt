-- Walking the records of a file with their places.
use Prim.Native.Nat.{ℕ, ◌+◌, ◌-◌}
use mathlib.Core.Path.{◌≡◌, refl, ap, ◌∙◌}
use mathlib.Core.List.{List, [], ◌∷◌, ◌++◌, map}
use mathlib.Core.Option.{Option, none, some}
use native.Mathlib.Omega.{arith}
use lib.ListN.{length, drop, length-drop}
use lib.Seq.{length-take-le}
use Rattle.container.specs.Container as container
use Rattle.container.specs.Packets.{Packet, or_none, packets}
use Rattle.acl.specs.Reading.{between}
use Rattle.trace.specs.Formats.{container_of, format_of, file_head, packet_by, records_from, records_by, packets_by}
use Rattle.trace.proofs.Formats.{records_of, packets_of_law}
use Rattle.trace.specs.Walk.{RecordAt}
use Rattle.trace.specs.declared.Container.{Container}
use Rattle.trace.specs.declared.Format.{Format}
use Rattle.signs.specs.Places.{Placed, placed, placed_packet, placed_packets, records_at, packets_at}

module _ (g : Format) (f : List ℕ) where
  -- the records still to come from a place on
  abbrev pub rest_at : ℕ → List (Placed (List ℕ))
  rest_at at = placed at (records_from g f at)

  pub rest_start : rest_at (file_head g) ≡ records_at g f
  unfolding records_at
  rest_start = refl

  -- the packets among all records
  pub packets_start : placed_packets (packet_by g) (rest_at (file_head g)) ≡ packets_at g f
  unfolding packets_at records_at
  packets_start = refl

  module _ (at : ℕ) where
    module _ (e : ℕ) (r : RecordAt g f at e) where
      pub record_length : at + length (between f at e) ≡ e
      record_length =
          let k : length (between f at e) ≡ e - at = length-take-le (e - at) (drop at f) (simp length-drop (omega (arith, r.most))) in
          omega (arith, r.least)

      pub rest_turn : rest_at at ≡ record { at = at; is = between f at e } ∷ rest_at e
      unfolding placed
      rest_turn = rw (r.list, record_length)

      -- the packets still to come: that of the record, if it holds one, and those after it
      pub rest_packets :
          (read : List ℕ → Option Packet) →
          placed_packets read (rest_at at) ≡ placed_packet at (read (between f at e)) ++ placed_packets read (rest_at e)
      unfolding placed_packets
      rest_packets read = rw rest_turn

    pub rest_none : records_from g f at ≡ [] → rest_at at ≡ []
    unfolding placed
    rest_none e = rw e

-- ---- without their places they are the records and packets of import

pub placed_are : (at : ℕ) (rs : List (List ℕ)) → map (λ (r : Placed (List ℕ)). r.is) (placed at rs) ≡ rs
unfolding placed
placed_are at [] = refl
placed_are at (r ∷ rs) = ap (λ t. r ∷ t) (placed_are (at + length r) rs)

pub packets_are : (read : List ℕ → Option Packet) (rs : List (Placed (List ℕ))) → map (λ (a : Placed Packet). a.is) (placed_packets read rs) ≡ packets read (map (λ (r : Placed (List ℕ)). r.is) rs)
unfolding placed_packets packets placed_packet
packets_are read [] = refl
packets_are read (r ∷ rs) = go (packets_are read rs) (read r.is) where
  go :
      map (λ (a : Placed Packet). a.is) (placed_packets read rs) ≡ packets read (map (λ (x : Placed (List ℕ)). x.is) rs) → (o : Option Packet) →
      map (λ (a : Placed Packet). a.is) (placed_packet r.at o ++ placed_packets read rs) ≡ or_none o (packets read (map (λ (x : Placed (List ℕ)). x.is) rs))
  go e none = e
  go e (some p) = ap (λ t. p ∷ t) e

pub file_packets : (g : Format) (f : List ℕ) → map (λ (a : Placed Packet). a.is) (packets_at g f) ≡ packets_by g f
unfolding packets_at records_at
file_packets g f = packets_are (packet_by g) (placed (file_head g) (records_by g f)) ∙ rw (placed_are (file_head g) (records_by g f))

-- of a file of a container
module _ (b : Container) (f : List ℕ) where
  pub import_records : map (λ (r : Placed (List ℕ)). r.is) (records_at (format_of b f) f) ≡ container.records (container_of b) f
  unfolding records_at
  import_records = placed_are (file_head (format_of b f)) (records_by (format_of b f) f) ∙ records_of b f

  pub import_packets : map (λ (a : Placed Packet). a.is) (packets_at (format_of b f) f) ≡ container.packets_in (container_of b) f
  import_packets = file_packets (format_of b f) f ∙ packets_of_law b f
