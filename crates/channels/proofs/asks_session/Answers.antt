use mathlib.Core.Path.{refl, ◌∙◌}
use Rattle.std.proofs.Common.{rules, tests}
use Rattle.std.proofs.lemmas.Iterator.Consumers.{YieldsList-from_first}
use Rattle.std.proofs.lemmas.Iterator.Search.{any_from_yields_List}
use Rattle.channels.specs.Channels.{asks_rfcomm}
use Rattle.channels.specs.Reading.{commands_left}
use Rattle.channels.proofs.Payloads.{any_is}
use Rattle.channels.proofs.asks_session.Goals as goal

pub returns : goal.returns
returns c =
    any_from_yields_List asks_rfcomm c.any.new.self _ c.any.result c.any.ensures.ran (YieldsList-from_first (λ x. x.now) commands_left {s = record { rest = c.args.s }} _ refl) (λ x b q k. search (rules, tests)) ∙ any_is asks_rfcomm _
