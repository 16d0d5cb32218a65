-- The steps of a range of packets.
use mathlib.Core.Path.{◌≡◌, refl, ◌∙◌}
use mathlib.Core.List.{List}
use Prim.Native.Nat.{ℕ, ◌+◌, ◌*◌, ◌<◌, ◌≤◌}
use native.Mathlib.Omega.{arith}
use lib.ListN.{length}
use Rattle.words.specs.Words.{word}
use Rattle.words.proofs.Front.{front_word}
use Rattle.packets.proofs.PacketFrames.{tabled_less, tabled_front}
use Rattle.fragments.proofs.Chains.{linked_less, linked_agree}
use Rattle.l2cap.specs.Steps.{Step, Stepped, Run, Ran, stays, steps}
use Rattle.l2cap.specs.declared.Tables.{Tables}

-- ---- what is needed from packet i on

module _ (f w : List ℕ) (q : ℕ) (t : Tables) (i upto : ℕ) (p : Run f w q t i upto) where
  pub range_low : 24 * upto ≤ 4 * q
  range_low = omega (arith, p.tabled.total, p.ready.quarter)

  pub range_step : i < upto → Step f w q t i
  range_step h = record {
    ready = p.ready;
    tabled = tabled_less f w (i + 1) upto (omega arith) p.tabled;
    linked = linked_less w q (i + 1) upto (omega arith) p.linked;
    seats = record { row = λ j l. p.seats.row j (omega arith) };
  }

  pub range_turn : i < upto → (u : List ℕ) (r : Tables) → Stepped f w q t i u r → Run f u q r (i + 1) upto
  range_turn h u r st = record {
    within = omega arith;
    ready = st.ready;
    tabled = tabled_front (4 * q) f u w upto range_low st.front st.size p.tabled;
    linked = linked_agree u w q upto (λ j l. front_word (4 * q) u w j (omega arith) st.front) st.beyond p.linked;
    seats = record {
      row = λ j l.
          let a : word u (6 * j) ≡ word w (6 * j) = front_word (4 * q) u w (6 * j) (omega (arith, range_low)) st.front in
          rw (a, st.beyond (7 * q + 2 * j + 1) (omega arith)) (st.finds (word w (6 * j)) ∙ p.seats.row j l);
    };
  }

-- ---- the steps from one packet up to another

module _ (f : List ℕ) (q : ℕ) (w : List ℕ) (t : Tables) (from : ℕ) where
  pub ran_size : {u : List ℕ} {r : Tables} {i : ℕ} → Ran f q w t from u r i → length u ≡ length w
  ran_size stays = refl
  ran_size (steps ran st) = st.size ∙ ran_size ran

  ran_up : {u : List ℕ} {r : Tables} {i : ℕ} → Ran f q w t from u r i → from ≤ i
  ran_up stays = omega arith
  ran_up (steps ran st) = omega (arith, ran_up ran)

  ran_none : {u : List ℕ} {r : Tables} {i : ℕ} → Ran f q w t from u r i → i ≡ from → (u ≡ w) × (r ≡ t)
  ran_none stays e = (refl, refl)
  ran_none (steps ran st) e = absurd (omega (arith, ran_up ran))

  ran_last : {u : List ℕ} {r : Tables} {i : ℕ} → Ran f q w t from u r i → i ≡ from + 1 → Stepped f w q t from u r
  ran_last stays e = absurd (omega arith)
  ran_last (steps {v} {s} {i} {u} {r} ran st) e =
      let a : i ≡ from = omega arith in
      let b = ran_none ran a in
      rw (a, b.0, b.1) at st

  pub ran_one : (u : List ℕ) (r : Tables) → Ran f q w t from u r (from + 1) → Stepped f w q t from u r
  ran_one u r ran = ran_last ran refl

-- ---- the loop: the packets before i are read

pub record Ranging (f w₀ : List ℕ) (q : ℕ) (t₀ : Tables) (from upto : ℕ) (w : List ℕ) (t : Tables) (i : ℕ) : Type 0 where
  pub run : Run f w q t i upto
  pub ran : Ran f q w₀ t₀ from w t i

pub ranging_start : (f w : List ℕ) (q : ℕ) (t : Tables) (from upto : ℕ) → Run f w q t from upto → Ranging f w q t from upto w t from
ranging_start f w q t from upto p = record { run = p; ran = stays }

module _
    (f w₀ : List ℕ) (q : ℕ) (t₀ : Tables) (from upto : ℕ) (w : List ℕ) (t : Tables) (i : ℕ)
    (v : Ranging f w₀ q t₀ from upto w t i) where
  pub ranging_step : i < upto → Step f w q t i
  ranging_step h = range_step f w q t i upto v.run h

  pub ranging_turn : i < upto → (u : List ℕ) (r : Tables) → Stepped f w q t i u r → Ranging f w₀ q t₀ from upto u r (i + 1)
  ranging_turn h u r st = record { run = range_turn f w q t i upto v.run h u r st; ran = steps v.ran st }
