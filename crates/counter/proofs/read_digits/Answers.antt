use Rattle.counter.proofs.Reading.{read_digit, read_over, read_hyphen, read_other, read_end}
use native.Mathlib.Omega.{arith}
use Rattle.counter.proofs.read_digits.Goals as goal

pub returns-in-45 : goal.returns-in-45
returns-in-45 c = read_hyphen _ _ _ c.loop-b.invariant c.loop-b-test.true (omega arith)

pub returns-in_default : goal.returns-in_default
returns-in_default c =
    read_other _ _ _ c.loop-b.invariant c.loop-b-test.true (λ e. omega arith) (λ p q. omega arith)

pub returns-in_default-2 : goal.returns-in_default-2
returns-in_default-2 c =
    read_other _ _ _ c.loop-b.invariant c.loop-b-test.true (λ e. omega arith) (λ p q. omega arith)

pub returns-then-from-v : goal.returns-then-from-v
returns-then-from-v c =
    read_over _ _ _ c.loop-b.invariant c.loop-b-test.true (omega arith) (omega arith) (omega arith)

pub loop-b-preserved : goal.loop-b-preserved
loop-b-preserved c =
    rw c.from.ensures (read_digit _ _ _ c.loop-b.invariant c.loop-b-test.true (omega arith) (omega arith) (omega arith))

pub returns : goal.returns
returns c = search read_end
