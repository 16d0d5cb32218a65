-- A sign counted while packets are read.
use Rattle.std.specs.Prelude.{Option, Some, None}
use Prim.Native.Nat.{ℕ, ◌+◌, ◌≤◌}
use mathlib.Core.Path.{◌≡◌, refl}
use mathlib.Core.Bool.{Bool, true, false, cond}
use mathlib.Core.List.{List, [], ◌∷◌, ◌++◌, append_assoc, append-nil}
use native.Mathlib.Omega.{arith}
use Rattle.laws.specs.Keys.{Key}
use Rattle.laws.specs.Keyed.{step, run}
use Rattle.container.specs.Packets.{Packet}
use Rattle.l2cap.specs.Steps.{held_of}
use Rattle.l2cap.specs.declared.Open.{Open}
use Rattle.signs.specs.Places.{Placed}
use Rattle.signs.specs.Partial.{Begun, begun_at, placed_key, following, nothing, stray_out, given_up_out}
use Rattle.signs.specs.Counting.{Counted, noted}
use Rattle.signs.specs.declared.Gap.{Gap}
use Rattle.signs.proofs.Counting.{counted_none, counted_one}
use Rattle.following.specs.Showing.{shown_by}
use Rattle.following.specs.declared.Partial.{Partial}
use Rattle.following.proofs.Begun.{began_of}

-- The places where it showed so far are counted, and with those still to come they are all. After i packets it came i times at most.
pub record Met (out : Begun → Placed Packet → List ℕ) (ps rest : List (Placed Packet)) (m : Key → Begun) (i : ℕ) (g : Gap) : Type 0 where
  pub ats : List ℕ
  pub counted : Counted ats g
  pub few : g.many ≤ i
  pub whole : ats ++ run (following out) m rest ≡ run (following out) nothing ps

module _ (out : Begun → Placed Packet → List ℕ) (ps : List (Placed Packet)) where
  pub met_start : Met out ps ps nothing 0 (record { many = 0; first = 0 })
  met_start = record { ats = []; counted = counted_none; few = omega arith; whole = refl }

  module _ (rest : List (Placed Packet)) (m : Key → Begun) (i : ℕ) (g : Gap) where
    pub met_turn :
        (a : Placed Packet) → Met out ps (a ∷ rest) m i g → (h : Gap) → ((ats : List ℕ) → Counted ats g → Counted (ats ++ out (m (placed_key a)) a) h) →
        h.many ≤ g.many + 1 → Met out ps rest (step (following out) m a) (i + 1) h
    unfolding run
    met_turn a v h c n = record {
      ats = v.ats ++ out (m (placed_key a)) a;
      counted = c v.ats v.counted;
      few = omega (arith, v.few);
      whole = rw append_assoc v.whole;
    }

  pub met_end : (m : Key → Begun) (i : ℕ) (g : Gap) → Met out ps [] m i g → Counted (run (following out) nothing ps) g
  unfolding run
  met_end m i g v = rw (← v.whole, append-nil) v.counted

-- what a packet shows, counted as the machines say it
module _ (f w : List ℕ) (ps : List (Placed Packet)) (k i : ℕ) (g : Partial) (a : Placed Packet) where
  pub stray_counted :
      (o : Option Open) (ats : List ℕ) → Counted ats g.stray →
      Counted (ats ++ stray_out (begun_at (began_of ps o) (held_of f w k i o)) a) (shown_by o a.is.start a.at g).stray
  unfolding stray_out begun_at held_of shown_by
  stray_counted None ats c = go a.is.start where
    go :
        (t : Bool) →
        Counted (ats ++ cond t [] (a.at ∷ [])) (cond {A = Partial} t g (record { stray = noted g.stray 1 a.at; given_up = g.given_up })).stray
    go true = rw append-nil c
    go false = counted_one g.stray ats a.at c
  stray_counted (Some pdu) ats c = go a.is.start where
    go :
        (t : Bool) →
        Counted (ats ++ []) (cond {A = Partial} t (record { stray = g.stray; given_up = noted g.given_up 1 a.at }) g).stray
    go true = rw append-nil c
    go false = rw append-nil c

  pub given_counted :
      (o : Option Open) (ats : List ℕ) → Counted ats g.given_up →
      Counted (ats ++ given_up_out (begun_at (began_of ps o) (held_of f w k i o)) a) (shown_by o a.is.start a.at g).given_up
  unfolding given_up_out begun_at held_of shown_by
  given_counted None ats c = go a.is.start where
    go :
        (t : Bool) →
        Counted (ats ++ []) (cond {A = Partial} t g (record { stray = noted g.stray 1 a.at; given_up = g.given_up })).given_up
    go true = rw append-nil c
    go false = rw append-nil c
  given_counted (Some pdu) ats c = go a.is.start where
    go :
        (t : Bool) →
        Counted (ats ++ cond t (a.at ∷ []) []) (cond {A = Partial} t (record { stray = g.stray; given_up = noted g.given_up 1 a.at }) g).given_up
    go true = counted_one g.given_up ats a.at c
    go false = rw append-nil c

-- a packet shows a sign once at most
pub shown_few :
    (o : Option Open) (t : Bool) (at : ℕ) (g : Partial) →
    ((shown_by o t at g).stray.many ≤ g.stray.many + 1) × ((shown_by o t at g).given_up.many ≤ g.given_up.many + 1)
unfolding shown_by noted
shown_few None true at g = (omega arith, omega arith)
shown_few None false at g = (omega arith, omega arith)
shown_few (Some pdu) true at g = (omega arith, omega arith)
shown_few (Some pdu) false at g = (omega arith, omega arith)
