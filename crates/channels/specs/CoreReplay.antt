-- Bluetooth Core's rule as a pass can follow it: what is known after some PDUs, and what one signal more makes of it.
use Rattle.std.specs.Prelude.{Bool, true, false, cond, eqb}
use mathlib.Core.List.{List, [], ◌∷◌, reverse_aux}
use Rattle.std.proofs.Math.Option.{Option, none, some}
use Rattle.laws.specs.Keys.{Key}
use Rattle.laws.specs.Keyed.{put}
use Rattle.l2cap.specs.Pdus.{Pdu}
use Rattle.channels.specs.Core.{CoreSignal, connects, succeeds, disconnects, core_signals, latest, holds}

pub record Known : Type 0 where
  -- of the latest request that is known by a key: the channel of its source, if it is for PSM 3
  pub asked : Key → Option Key
  -- the channels that hold
  pub held : Key → Bool

-- what some PDUs leave known
abbrev pub known : List Pdu → Known
known ps = record { asked = λ k. latest k (reverse_aux (core_signals ps) []); held = λ t. holds ps t }

abbrev pub holding : Option Key → Key → (Key → Bool) → Key → Bool
holding none destination held = held
holding (some source) destination held = put (put held source true) destination true

-- one signal more
unfoldable pub noted : Known → CoreSignal → Known
noted s (connects k psm source) = record { asked = put s.asked k (cond (eqb psm 3) (some source) none); held = s.held }
noted s (succeeds k destination) = record { asked = s.asked; held = holding (s.asked k) destination s.held }
noted s (disconnects destination source) = record { asked = s.asked; held = put (put s.held destination false) source false }

unfoldable pub noted_all : Known → List CoreSignal → Known
noted_all s [] = s
noted_all s (x ∷ xs) = noted_all (noted s x) xs
