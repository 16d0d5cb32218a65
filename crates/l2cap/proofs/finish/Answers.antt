use mathlib.Core.Bool.{true}
use mathlib.Core.Path.{ap, ◌∙◌}
use Prim.Native.Nat.{ℕ, ◌+◌}
use Rattle.l2cap.proofs.Finishing.{finish_join, joined_is, finish_file, finish_work}
use native.Mathlib.Omega.{arith}
use Rattle.l2cap.proofs.finish.Goals as goal
use Rattle.l2cap.proofs.finish.Goals.{then-first-i, else-first-i}

pub join-n-requires : goal.join-n-requires
join-n-requires c = finish_join _ _ _ _ _ _ _ c.requires _ c.split_at_mut-rows.ensures.front _ c.split_at_mut-rows.ensures.back

pub returns : goal.returns
returns c =
    let cid = rw c.in_work.ensures at (c.from-cid.ensures ∙ c.half.ensures) in
    elim c.if-first-i.branch [
      | then-first-i w ↦ finish_file _ _ _ _ _ _ _ c.requires _ _ _ c.get32-key.ensures cid (omega arith) c.get64-time.ensures _ w.if-first-i.true w.place_of.ensures _ w.joined-is _ _ w.w-is c.put_pdu.ensures
      | else-first-i w ↦ finish_work _ _ _ _ _ _ _ c.requires _ _ _ c.get32-key.ensures cid (omega arith) c.get64-time.ensures _ _ (w.joined-is ∙ ap (λ (s : ℕ). (true, s, c.args.t.top + w.join-n.result)) (omega arith)) _ _ _ w.w-is
          (joined_is _ _ _ _ _ _ _ c.requires _ w.split_at_mut-rows.ensures.front _ w.split_at_mut-rows.ensures.back _ _ w.join-n.ensures) c.put_pdu.ensures
    ]
