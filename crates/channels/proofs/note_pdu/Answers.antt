use Rattle.channels.proofs.Walk.{not_signalling, noting_pre, noting_more, noting_done}
use native.Mathlib.Omega.{arith}
use Rattle.channels.proofs.note_pdu.Goals as goal

pub returns-then-get32-ne1 : goal.returns-then-get32-ne1
returns-then-get32-ne1 c = record { noted = not_signalling _ _ _ _ _ c.requires.pre _ c.get32.ensures c.if-get32-ne1.true; indexed = c.requires.indexed }

pub pdu_step-step-requires : goal.pdu_step-step-requires
pdu_step-step-requires c = noting_pre _ _ _ _ _ c.requires.pre _ _ _ c.loop-at.invariant.noting (omega arith)

pub loop-at-preserved : goal.loop-at-preserved
loop-at-preserved c = noting_more _ _ _ _ c.requires _ _ _ c.loop-at.invariant (omega arith) _ c.pdu_step-step.ensures _ _ c.note.ensures

pub returns : goal.returns
returns c = noting_done _ _ _ _ c.requires _ _ _ c.loop-at.invariant _ c.get32.ensures c.if-get32-ne1.false (omega arith)
