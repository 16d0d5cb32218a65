use Rattle.streams.proofs.Listing.{write_plan, write_lying, write_pre, written}
use Rattle.streams.proofs.write_list.Goals as goal

pub plan-p-requires : goal.plan-p-requires
plan-p-requires c = search write_plan

pub invariant_of-write_spans : goal.invariant_of-write_spans
invariant_of-write_spans c = record { lying = write_lying _ _ _ _ _ c.requires _ c.plan-p.ensures }

pub write_spans-requires : goal.write_spans-requires
write_spans-requires c = search write_pre

pub returns : goal.returns
returns c = search written
