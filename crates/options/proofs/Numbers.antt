-- From numbers to options.
use Prim.Native.Nat.{ℕ, zero, suc, ◌≤◌, ◌<◌}
use mathlib.Core.Path.{◌≡◌, refl, sym}
use mathlib.Core.Bool.{Bool, false}
use mathlib.Core.List.{List, [], ◌∷◌}
use native.Mathlib.Nat.{le_of_suc-le-suc, not-suc-le-zero}
use lib.ListN.{length, get_or, get_or-eq_default}
use borrow.Author.Tests.{eq-eqb, ne_eqb}
use Rattle.opening.specs.Opening.{tail_of}
use Rattle.opening.specs.declared.Tail.{Tail}
use Rattle.opening.specs.declared.Tail.TheVariants.{Strict, Tolerant}
use Rattle.trace.specs.declared.Container.{Container}
use Rattle.trace.specs.declared.Container.TheVariants.{Btsnoop, Pcap}
use Rattle.options.specs.Numbers.{tail_number, tail_in, container_number, container_in, fcs_number, fcs_in}

pub tail_strict : (n : ℕ) → n ≡ 0 → tail_of Strict ≡ tail_number n
unfolding tail_number
tail_strict n e = rw (eq-eqb n 0 e)

pub tail_tolerant : (n : ℕ) → (n ≡ 0 → ⊥) → tail_of Tolerant ≡ tail_number n
unfolding tail_number
tail_tolerant n e = rw (ne_eqb n 0 e)

pub container_btsnoop : (n : ℕ) → n ≡ 0 → Btsnoop ≡ container_number n
unfolding container_number
container_btsnoop n e = rw (eq-eqb n 0 e)

pub container_pcap : (n : ℕ) → (n ≡ 0 → ⊥) → Pcap ≡ container_number n
unfolding container_number
container_pcap n e = rw (ne_eqb n 0 e)

pub tail_in_law : (l : List ℕ) (n : ℕ) → n ≡ get_or l 1 0 → (t : Tail) → tail_of t ≡ tail_number n → tail_of t ≡ tail_in l
tail_in_law l n e t q = rw (← e) q

pub container_in_law : (l : List ℕ) (n : ℕ) → n ≡ get_or l 2 0 → (b : Container) → b ≡ container_number n → b ≡ container_in l
container_in_law l n e b q = rw (← e) q

pub fcs_in_law : (l : List ℕ) (n : ℕ) → n ≡ get_or l 3 0 → (b : Bool) → b ≡ fcs_number n → b ≡ fcs_in l
fcs_in_law l n e b q = rw (← e) q

-- a list of two options, or none, is of btsnoop, and leaves FCS unchecked
pub container_two : (a b : ℕ) → container_in (a ∷ b ∷ []) ≡ Btsnoop
unfolding container_number
container_two a b = refl

pub fcs_two : (a b : ℕ) → fcs_in (a ∷ b ∷ []) ≡ false
unfolding fcs_number
fcs_two a b = refl
