-- Laws of specs/Replay.
use mathlib.Core.Path.{◌≡◌, refl, sym, ◌∙◌}
use mathlib.Core.Bool.{Bool}
use mathlib.Core.List.{List, [], ◌∷◌, ◌++◌, append_assoc}
use Rattle.l2cap.specs.Pdus.{Pdu}
use Rattle.channels.specs.Signals.{signals}
use Rattle.channels.specs.Tried.{core}
use Rattle.channels.specs.CoreReplay.{known}
use Rattle.channels.proofs.CoreReplay.{known_next}
use Rattle.channels.proofs.CoreNamed.{core_verdict}
use Rattle.rfcomm.specs.Pieces.{kind_by, judged_from, judged_by}
use Rattle.rfcomm.specs.Replay.{tried_known, kind_known, replayed}

kind_known_law : (fcs : Bool) (all before : List Pdu) (p : Pdu) (ps : List Pdu) → all ≡ (before ++ (p ∷ [])) ++ ps → kind_by (record { rule = core; fcs = fcs }) (before ++ (p ∷ [])) all p ≡ kind_known fcs (signals all) (known (before ++ (p ∷ []))) p
unfolding kind_by kind_known tried_known
kind_known_law fcs all before p ps e = rw (e, core_verdict (before ++ (p ∷ [])) ps p)

replay_from : (fcs : Bool) (all before ps : List Pdu) → all ≡ before ++ ps → judged_from (record { rule = core; fcs = fcs }) all before ps ≡ replayed fcs (signals all) (known before) ps
unfolding judged_from replayed
replay_from fcs all before [] e = refl
replay_from fcs all before (p ∷ ps) e =
    let e' : all ≡ (before ++ (p ∷ [])) ++ ps = e ∙ sym (append_assoc before (p ∷ []) ps) in
    rw (replay_from fcs all (before ++ (p ∷ [])) ps e', kind_known_law fcs all before p ps e', ← known_next before p)

pub replay : (fcs : Bool) (ps : List Pdu) → judged_by (record { rule = core; fcs = fcs }) ps ≡ replayed fcs (signals ps) (known []) ps
unfolding judged_by
replay fcs ps = replay_from fcs ps [] ps refl
