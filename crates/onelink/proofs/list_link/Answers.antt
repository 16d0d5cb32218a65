use Rattle.laws.proofs.Exits.{handed_up}
use Rattle.onelink.proofs.Listing.{list_refused, list_packets, list_none, list_pieces, list_short, list_room, list_written}
use Rattle.onelink.proofs.list_link.Goals as goal

pub returns-in_err-opened : goal.returns-in_err-opened
returns-in_err-opened c = rw (handed_up _ c.from_residual.ensures.1) (list_refused _ _ _ c.args.asked.index c.args.asked.handle c.args.asked.dlci c.args.out.now _ c.link_of.ensures _ _ c.open_trace.ensures _ c.in_err-opened.was)

pub returns-then-not-may_ask : goal.returns-then-not-may_ask
returns-then-not-may_ask c = list_none _ _ _ c.args.asked.index c.args.asked.handle c.args.asked.dlci c.args.out.now _ c.link_of.ensures _ _ c.open_trace.ensures _ c.in_ok-opened.was _ c.may_ask.ensures c.if-not-may_ask.true

pub gather-g-requires : goal.gather-g-requires
gather-g-requires c = list_packets _ _ _ c.args.asked.index c.args.asked.handle c.args.asked.dlci c.args.out.now _ c.link_of.ensures _ _ c.open_trace.ensures _ c.in_ok-opened.was

pub count_stream-s-requires : goal.count_stream-s-requires
count_stream-s-requires c = list_pieces _ _ _ c.args.asked.index c.args.asked.handle c.args.asked.dlci c.args.out.now _ c.link_of.ensures _ _ c.open_trace.ensures _ c.in_ok-opened.was _ c.may_ask.ensures c.if-not-may_ask.false _ _ c.gather-g.ensures

pub returns-then-out-needed : goal.returns-then-out-needed
returns-then-out-needed c =
    list_short _ _ _ c.args.asked.index c.args.asked.handle c.args.asked.dlci c.args.out.now _ c.link_of.ensures _ _ c.open_trace.ensures _ c.in_ok-opened.was _ c.may_ask.ensures c.if-not-may_ask.false _ _ c.gather-g.ensures _ _ c.count_stream-s.ensures c.if-out-needed.true

pub write_list-requires : goal.write_list-requires
write_list-requires c =
    list_room _ _ _ c.args.asked.index c.args.asked.handle c.args.asked.dlci c.args.out.now _ c.link_of.ensures _ _ c.open_trace.ensures _ c.in_ok-opened.was _ c.may_ask.ensures c.if-not-may_ask.false _ _ c.gather-g.ensures _ _ c.count_stream-s.ensures c.if-out-needed.false

pub returns : goal.returns
returns c =
    list_written _ _ _ c.args.asked.index c.args.asked.handle c.args.asked.dlci c.args.out.now _ c.link_of.ensures _ _ c.open_trace.ensures _ c.in_ok-opened.was _ c.may_ask.ensures c.if-not-may_ask.false _ _ c.gather-g.ensures _ _ c.count_stream-s.ensures c.if-out-needed.false _ _ c.write_list.ensures
