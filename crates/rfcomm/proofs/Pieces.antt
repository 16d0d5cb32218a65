-- Laws of specs/Pieces.
use mathlib.Core.Path.{◌≡◌, refl}
use mathlib.Core.Bool.{Bool}
use mathlib.Core.List.{List, [], ◌∷◌, ◌++◌, map}
use Rattle.l2cap.specs.Pdus.{Pdu}
use Rattle.channels.specs.Signals.{signals}
use Rattle.channels.specs.Tried.{source, tried_by}
use Rattle.rfcomm.specs.Pieces.{kind_by, judged_from, judged_by, judged, kind_of, told}

from_source : (fcs : Bool) (all before ps : List Pdu) → judged_from (record { rule = source; fcs = fcs }) all before ps ≡ map (told fcs (signals all)) ps
unfolding judged_from kind_by tried_by kind_of
from_source fcs all before [] = refl
from_source fcs all before (p ∷ ps) = rw (from_source fcs all (before ++ (p ∷ [])) ps)

pub judged_is : (fcs : Bool) (ps : List Pdu) → judged fcs ps ≡ map (told fcs (signals ps)) ps
unfolding judged judged_by
judged_is fcs ps = from_source fcs ps [] ps
