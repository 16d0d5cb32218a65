use Rattle.std.proofs.Common.{◌≡◌, ◌+◌, arith}
use Rattle.laws.specs.Numbers.{le32, le64}
use Rattle.words.proofs.get_le64.Goals as goal

pub returns : goal.returns
unfolding le32 le64
returns c =
    let n1 : c.args.at + 4 + 1 ≡ c.args.at + 5 = omega arith in
    let n2 : c.args.at + 4 + 2 ≡ c.args.at + 6 = omega arith in
    let n3 : c.args.at + 4 + 3 ≡ c.args.at + 7 = omega arith in
    rw (n1, n2, n3) (omega arith)
