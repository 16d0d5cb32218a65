-- The check of TS 07.10, bit by bit: reversed polynomial 0xE0, start 0xFF, complement. For UIH it is over address and control.
use Rattle.std.specs.Prelude.{ℕ, zero, suc, ◌-◌, ◌/◌, ◌%◌, cond, List, [], ◌∷◌, eqb}
use Rattle.std.specs.Int.Bits.{bit_xor}

-- one bit falls out at the low end, and where it is 1 the polynomial comes in
unfoldable pub shift_one : ℕ → ℕ
shift_one r = cond (eqb (r % 2) 1) (bit_xor (r / 2) 0xE0) (r / 2)

unfoldable pub shifted : ℕ → ℕ → ℕ
shifted zero r = r
shifted (suc n) r = shifted n (shift_one r)

-- the register after some bytes: each is added, and its eight bits fall out, the lowest first
unfoldable pub register : ℕ → List ℕ → ℕ
register r [] = r
register r (b ∷ bs) = register (shifted 8 (bit_xor r b)) bs

-- from all ones; the complement of what stands at the end
unfoldable pub fcs_of : List ℕ → ℕ
fcs_of bs = 0xFF - register 0xFF bs
