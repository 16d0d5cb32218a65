use Rattle.measuring.proofs.Counting.{count_held, count_add, count_stepped}
use native.Mathlib.Omega.{arith}
use Rattle.measuring.proofs.count_piece.Goals as goal

pub count_behind-c-requires : goal.count_behind-c-requires
count_behind-c-requires c = search count_held

pub add_piece-requires : goal.add_piece-requires
add_piece-requires c = count_add _ _ _ _ _ c.requires _ c.held_before-h.ensures _ _ c.count_behind-c.ensures (omega arith) _ c.capped-r.ensures _ c.note.ensures _ c.length_of-m.ensures

pub returns : goal.returns
returns c = count_stepped _ _ _ _ _ c.requires _ c.held_before-h.ensures _ _ c.count_behind-c.ensures (omega arith) _ c.capped-r.ensures _ c.note.ensures _ c.length_of-m.ensures _ c.add_piece.ensures
