use mathlib.Core.Path.{refl}
use Rattle.streams.proofs.Choosing.{choosing_start, choosing_small, choosing_skip, choosing_known, choosing_laid, choosing_bad, choosing_account, choosing_found, choosing_end}
use native.Mathlib.Omega.{arith}
use Rattle.streams.proofs.choose_dlci.Goals as goal
use Rattle.streams.proofs.choose_dlci.Goals.{then-not-on_channel-via-then-not-on_channel, then-not-on_channel-via-else-not-on_channel+then-tried-k}

pub loop-i-init : goal.loop-i-init
loop-i-init c = choosing_start _ _ _ _

pub bounds-tried-k : goal.bounds-tried-k
bounds-tried-k c = choosing_small _ _ _ _ _ _ _ c.loop-i.invariant c.requires c.loop-i-test.true _ c.get32-d.ensures

pub loop-i-preserved-then-not-on_channel : goal.loop-i-preserved-then-not-on_channel
loop-i-preserved-then-not-on_channel c =
    elim c.then-not-on_channel.branch [
      | then-not-on_channel-via-then-not-on_channel w ↦ choosing_skip _ _ _ _ _ _ _ c.loop-i.invariant c.requires c.loop-i-test.true _ c.get32-d.ensures _ c.on_channel.ensures w.if-not-on_channel.true
      | then-not-on_channel-via-else-not-on_channel+then-tried-k w ↦ choosing_known _ _ _ _ _ _ _ c.loop-i.invariant c.requires c.loop-i-test.true _ c.get32-d.ensures _ c.on_channel.ensures w.if-not-on_channel.false w.if-tried-k.true
    ]

pub bounds-tried-k-in-loop-i : goal.bounds-tried-k-in-loop-i
bounds-tried-k-in-loop-i c = choosing_small _ _ _ _ _ _ _ c.loop-i.invariant c.requires c.loop-i-test.true _ c.get32-d.ensures

pub count_spans-s-requires : goal.count_spans-s-requires
count_spans-s-requires c = choosing_laid _ _ _ _ _ _ _ c.loop-i.invariant c.requires c.loop-i-test.true _ c.get32-d.ensures _ c.on_channel.ensures c.if-not-on_channel.false _ c.plan-p.ensures

pub stream_of-requires : goal.stream_of-requires
stream_of-requires c = choosing_account _ _ _ _ _ _ _ c.loop-i.invariant c.requires c.loop-i-test.true _ c.get32-d.ensures _ c.on_channel.ensures c.if-not-on_channel.false _ c.plan-p.ensures _ _ c.count_spans-s.ensures

pub returns-then-s-gt0 : goal.returns-then-s-gt0
returns-then-s-gt0 c = choosing_found _ _ _ _ _ _ _ c.loop-i.invariant c.requires c.loop-i-test.true _ c.get32-d.ensures _ c.on_channel.ensures c.if-not-on_channel.false _ c.plan-p.ensures _ _ c.count_spans-s.ensures c.if-s-gt0.true _ c.stream_of.ensures

pub loop-i-preserved : goal.loop-i-preserved
loop-i-preserved c = choosing_bad _ _ _ _ _ _ _ c.loop-i.invariant c.requires c.loop-i-test.true _ c.get32-d.ensures _ c.on_channel.ensures c.if-not-on_channel.false _ c.plan-p.ensures _ _ c.count_spans-s.ensures c.if-s-gt0.false (omega arith) _ refl

pub returns : goal.returns
returns c = choosing_end _ _ _ _ _ _ _ c.loop-i.invariant c.loop-i-test.false
