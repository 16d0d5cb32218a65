-- Options by number, in a list: the channel, the tail rule, the container, whether FCS is checked. What a list lacks has its default: any channel,
-- strict, btsnoop, unchecked.
use Rattle.std.specs.Prelude.{ℕ, Bool, cond, not, List, get_or, eqb}
use Rattle.outcome.specs.Import.{Tail, strict, tolerant}
use Rattle.trace.specs.declared.Container.{Container}
use Rattle.trace.specs.declared.Container.TheVariants.{Btsnoop, Pcap}

-- 0 is strict, any other tolerant
unfoldable pub tail_number : ℕ → Tail
tail_number n = cond (eqb n 0) strict tolerant

-- 0 is btsnoop, any other pcap
unfoldable pub container_number : ℕ → Container
container_number n = cond (eqb n 0) Btsnoop Pcap

-- 0 is off, any other on
unfoldable pub fcs_number : ℕ → Bool
fcs_number n = not (eqb n 0)

abbrev pub tail_in : List ℕ → Tail
tail_in l = tail_number (get_or l 1 0)

abbrev pub container_in : List ℕ → Container
container_in l = container_number (get_or l 2 0)

abbrev pub fcs_in : List ℕ → Bool
fcs_in l = fcs_number (get_or l 3 0)
