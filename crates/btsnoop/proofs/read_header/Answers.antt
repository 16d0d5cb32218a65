use Rattle.btsnoop.proofs.Headers.{header_room, header_not, header_other, header_read}
use native.Mathlib.Omega.{arith}
use Rattle.btsnoop.proofs.read_header.Goals as goal

pub returns-then-not-is_btsnoop : goal.returns-then-not-is_btsnoop
returns-then-not-is_btsnoop c = search header_not

pub get_be32-n-requires : goal.get_be32-n-requires
get_be32-n-requires c = omega (arith, header_room c.args.file.now _ c.is_btsnoop.ensures c.if-not-is_btsnoop.false)

pub returns-then-not-is_datalink : goal.returns-then-not-is_datalink
returns-then-not-is_datalink c = search header_other

pub returns : goal.returns
returns c = search header_read
