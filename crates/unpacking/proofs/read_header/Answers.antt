use Rattle.std.proofs.Common.{refl, arith}
use Rattle.unescaping.proofs.Places.{ahead_most}
use Rattle.unpacking.proofs.Judging.{header_bare}
use Rattle.unpacking.proofs.read_header.Goals as goal

pub bounds-s-0 : goal.bounds-s-0
bounds-s-0 c = omega (arith, ahead_most c.args.part.bytes.now)

pub bounds-s-1 : goal.bounds-s-1
bounds-s-1 c = omega (arith, ahead_most c.args.part.bytes.now)

pub get_be32-requires : goal.get_be32-requires
get_be32-requires c = omega (arith, ahead_most c.args.part.bytes.now)

pub slice_bounds-result-count : goal.slice_bounds-result-count
slice_bounds-result-count c = omega (arith, ahead_most c.args.part.bytes.now)

pub slice_bounds-result-start : goal.slice_bounds-result-start
slice_bounds-result-start c = omega (arith, ahead_most c.args.part.bytes.now)

pub returns-then-part : goal.returns-then-part
returns-then-part c = header_bare _ _ c.args.part.unescaped c.if-part.true _ refl refl (cc) refl
