use Rattle.unescaping.proofs.Flaws.{scan_start, part_long, scan_front, scan_kept, scan_broken, scan_fits, scan_sound}
use Rattle.std.proofs.Common.{sym, refl, arith}
use Rattle.unescaping.proofs.scan.Goals as goal

pub loop-rest-init : goal.loop-rest-init
loop-rest-init c = search scan_start

pub slice_bounds-tally_few-end : goal.slice_bounds-tally_few-end
slice_bounds-tally_few-end c = sym (part_long _ c.loop-rest-test.true)

pub tally_few-t-requires : goal.tally_few-t-requires
tally_few-t-requires c = omega (arith, part_long _ c.loop-rest-test.true)

pub is_kept-requires : goal.is_kept-requires
is_kept-requires c = scan_front _ _ _ _ c.loop-rest.invariant c.loop-rest-test.true _ c.tally_few-t.ensures

pub returns-then-not-is_kept : goal.returns-then-not-is_kept
returns-then-not-is_kept c = scan_broken _ _ _ _ c.loop-rest.invariant _ c.is_kept.ensures c.if-not-is_kept.true _ refl

pub overflow_add-hits : goal.overflow_add-hits
overflow_add-hits c = omega (arith, scan_fits _ _ _ _ c.loop-rest.invariant c.loop-rest-test.true _ c.tally_few-t.ensures)

pub loop-rest-preserved : goal.loop-rest-preserved
loop-rest-preserved c = scan_kept _ _ _ _ c.loop-rest.invariant c.loop-rest-test.true _ c.tally_few-t.ensures _ c.is_kept.ensures c.if-not-is_kept.false _ refl

pub returns-then-is_sound : goal.returns-then-is_sound
returns-then-is_sound c = scan_sound _ _ _ _ c.loop-rest.invariant _ c.tally_few-t-2.ensures c.requires _ c.is_sound.ensures c.if-is_sound.true _ refl refl refl
