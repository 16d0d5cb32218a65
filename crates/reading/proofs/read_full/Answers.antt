-- What a read put after the front is what it took of the input.
use Rattle.std.proofs.Common.{rules, ◌≡◌, ℕ, ◌+◌, ◌≤◌, List, ◌++◌, length, take, drop, ap, sym, ◌∙◌, subst, arith, drop_at, length-take-le}
use Rattle.std.specs.Io.KnownBytes.{Consumes}
use Rattle.std.proofs.KnownBytes.{Consumes-trans}
use lib.Seq.{take-add, take-append-le, take-append_seam}
use Rattle.reading.proofs.read_full.Goals as goal

taken : (d n : ℕ) (a b r : List ℕ) → length a ≡ d → n ≤ length b → take (d + n) (a ++ (b ++ r)) ≡ a ++ take n b
taken d n a b r p h =
    let front : take d (a ++ (b ++ r)) ≡ a = subst (λ (k : ℕ). take k (a ++ (b ++ r)) ≡ a) p (take-append_seam a (b ++ r)) in
    let rest : take n (drop d (a ++ (b ++ r))) ≡ take n b = ap (take n) (drop_at a (b ++ r) d p) ∙ take-append-le n b r h in
    let whole = take-add d n (a ++ (b ++ r)) in
    cc

pub loop-done-preserved : goal.loop-done-preserved
loop-done-preserved g c =
    let same = length-take-le c.loop-done.done c.loop-done.buf (omega arith) in
    record {
      within = search rules;
      bytes = subst (Consumes _ _) (sym (taken _ c.in_ok-n.n _ c.read.new.buf _ same c.in_ok-n.ensures.bound.0)) (Consumes-trans _ _ _ _ _ c.loop-done.invariant.bytes c.in_ok-n.ensures.bytes.0);
    }
