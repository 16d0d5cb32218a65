use Rattle.acl.proofs.Reading.{acl_handle, acl_size, acl_short, acl_packet}
use Rattle.acl.proofs.excerpt.Excerpt.read_fragment.Goals as goal

pub returns-in_err-handle : goal.returns-in_err-handle
returns-in_err-handle c = rw c.from_residual.ensures (search (acl_handle, c.in_err-handle.was))

pub returns-in_err-size : goal.returns-in_err-size
returns-in_err-size c = rw c.from_residual-in_err-size.ensures (search (acl_size, c.in_err-size.was))

pub returns-then-self-from : goal.returns-then-self-from
returns-then-self-from c = search (acl_short, c.in_ok-size.was)

pub returns : goal.returns
returns c = search (acl_packet, c.in_ok-handle.was, c.in_ok-size.was)
