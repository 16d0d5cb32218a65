-- What is open with the place where it began, as the rows have it: a step of reassembly is a step of the machine.
use Rattle.std.specs.Prelude.{Option as Maybe, Some, None}
use Prim.Native.Nat.{ℕ, ◌+◌, ◌*◌}
use mathlib.Core.Path.{◌≡◌, refl, sym, ap, ◌∙◌}
use mathlib.Core.Bool.{Bool, true, false, cond}
use mathlib.Core.Logic.{⊎_elim}
use mathlib.Core.List.{List}
use mathlib.Core.Option.{Option, none, some}
use lib.Dec.{eqb}
use borrow.Author.Tests.{eq-eqb, ne_eqb}
use Rattle.laws.proofs.Choice.{split≡}
use Rattle.words.specs.Words.{word}
use Rattle.container.specs.Packets.{Packet}
use Rattle.packets.specs.PacketTable.{packet_at}
use Rattle.fragments.specs.Bytes.{number_of}
use Rattle.fragments.proofs.Walking.{number_at}
use Rattle.l2cap.specs.Pdus.{still_open}
use Rattle.l2cap.specs.Steps.{open_from, open_at, longer, grown, next_at, held_of, map_of, after, Stepped}
use Rattle.l2cap.specs.declared.Open.{Open}
use Rattle.l2cap.specs.declared.Tables.{Tables}
use Rattle.signs.specs.Places.{Placed}
use Rattle.signs.specs.Partial.{Begun, bytes_of, place_of, begun_at, goes_on}
use Rattle.signs.specs.Following.{place_at, begun_place, open_place}

-- where it began; 0 if nothing is open
unfoldable pub began_of : List (Placed Packet) → Maybe Open → ℕ
began_of ps None = 0
began_of ps (Some pdu) = place_at ps pdu.first

-- the state of a key, given as one number, with i packets read
unfoldable pub begun_in : List ℕ → List ℕ → ℕ → ℕ → List (Placed Packet) → ℕ → ℕ → Begun
begun_in f w b live ps i k = begun_at (began_of ps (open_at w b live k)) (map_of f w b live i k)

bytes_begun : (at : ℕ) (x : Option (List ℕ)) → bytes_of (begun_at at x) ≡ x
unfolding bytes_of begun_at
bytes_begun at none = refl
bytes_begun at (some b) = refl

module _ (f w : List ℕ) (ps : List (Placed Packet)) (k i : ℕ) where
  place_begun : (o : Maybe Open) → place_of (begun_at (began_of ps o) (held_of f w k i o)) ≡ began_of ps o
  unfolding place_of begun_at began_of held_of
  place_begun None = refl
  place_begun (Some pdu) = refl

  pub begun_place_law : (o : Maybe Open) → open_place ps o ≡ begun_place (begun_at (began_of ps o) (held_of f w k i o))
  unfolding open_place begun_at began_of held_of
  begun_place_law None = refl
  begun_place_law (Some pdu) = refl

module _ (f w : List ℕ) (b live : ℕ) (ps : List (Placed Packet)) (i k : ℕ) where
  place_in : place_of (begun_in f w b live ps i k) ≡ began_of ps (open_at w b live k)
  unfolding begun_in map_of
  place_in = place_begun f w ps k i (open_at w b live k)

  bytes_in_law : bytes_of (begun_in f w b live ps i k) ≡ map_of f w b live i k
  unfolding begun_in
  bytes_in_law = bytes_begun (began_of ps (open_at w b live k)) (map_of f w b live i k)

-- a start begins anew, a continuation where it was
began_grown : (ps : List (Placed Packet)) (start i n : ℕ) (o : Maybe Open) → began_of ps (grown start o i n) ≡ cond (eqb start 1) (place_at ps i) (began_of ps o)
unfolding grown began_of longer
began_grown ps start i n o = go (eqb start 1) o where
  go : (t : Bool) (x : Maybe Open) → began_of ps (cond t (open_from i n) (longer x n)) ≡ cond t (place_at ps i) (began_of ps x)
  go true x = refl
  go false None = refl
  go false (Some pdu) = refl

pub start_is : (f w : List ℕ) (i : ℕ) → (packet_at f w i).start ≡ eqb (word w (6 * i + 1)) 1
unfolding packet_at
start_is f w i = refl

pub number_is : (f w : List ℕ) (i : ℕ) (a : Placed Packet) → a.is ≡ packet_at f w i → number_of a.is ≡ word w (6 * i)
number_is f w i a e = ap (λ (p : Packet). number_of p) e ∙ number_at f w i

module _
    (f w : List ℕ) (q : ℕ) (t : Tables) (i : ℕ) (u : List ℕ) (r : Tables) (st : Stepped f w q t i u r)
    (ps : List (Placed Packet)) (a : Placed Packet) (here : place_at ps i ≡ a.at) (is : a.is ≡ packet_at f w i) where
  -- the bytes at hand are what the machine has
  held_own : map_of f u (3 * q) r.live (i + 1) (word w (6 * i)) ≡ still_open (after f w (3 * q) t.live i)
  held_own = ap (λ (m : ℕ → Option (List ℕ)). m (word w (6 * i))) st.map ∙ rw (number_at f w i, eq-eqb (word w (6 * i)) (word w (6 * i)) refl)

  held_other : (k : ℕ) → (word w (6 * i) ≡ k → ⊥) → map_of f u (3 * q) r.live (i + 1) k ≡ map_of f w (3 * q) t.live i k
  held_other k n =
      ap (λ (m : ℕ → Option (List ℕ)). m k) st.map ∙ rw (number_at f w i, ne_eqb k (word w (6 * i)) (λ z. n (sym z)))

  -- so is where it began
  began_next : began_of ps (next_at w (3 * q) t.live i) ≡ cond a.is.start a.at (began_of ps (open_at w (3 * q) t.live (word w (6 * i))))
  unfolding next_at
  began_next =
      began_grown ps (word w (6 * i + 1)) i (word w (6 * i + 3)) (open_at w (3 * q) t.live (word w (6 * i)))
      ∙ rw (here, is, start_is f w i)

  held_none : open_at u (3 * q) r.live (word w (6 * i)) ≡ None → map_of f u (3 * q) r.live (i + 1) (word w (6 * i)) ≡ none
  unfolding map_of held_of
  held_none e = rw e

  began_own :
      begun_at (began_of ps (open_at u (3 * q) r.live (word w (6 * i)))) (map_of f u (3 * q) r.live (i + 1) (word w (6 * i)))
      ≡ begun_at (cond a.is.start a.at (began_of ps (open_at w (3 * q) t.live (word w (6 * i))))) (map_of f u (3 * q) r.live (i + 1) (word w (6 * i)))
  unfolding begun_at
  began_own = ⊎_elim
      (λ e. rw (held_none e))
      (λ e. ap (λ x. begun_at x (map_of f u (3 * q) r.live (i + 1) (word w (6 * i)))) (ap (began_of ps) e ∙ began_next))
      st.own

  goes_own :
      goes_on (begun_in f w (3 * q) t.live ps i (word w (6 * i))) a
      ≡ begun_at (cond a.is.start a.at (began_of ps (open_at w (3 * q) t.live (word w (6 * i))))) (still_open (after f w (3 * q) t.live i))
  unfolding goes_on
  goes_own =
      rw (place_in f w (3 * q) t.live ps i (word w (6 * i)), bytes_in_law f w (3 * q) t.live ps i (word w (6 * i)), is, number_at f w i)

  -- a step of reassembly is a step of the machine
  pub begun_step :
      (k : ℕ) →
      begun_in f u (3 * q) r.live ps (i + 1) k
      ≡ cond (eqb k (number_of a.is)) (goes_on (begun_in f w (3 * q) t.live ps i (number_of a.is)) a) (begun_in f w (3 * q) t.live ps i k)
  unfolding begun_in
  begun_step k = split≡ (word w (6 * i)) k
      (λ e.
      rw (← e, number_is f w i a is, eq-eqb (word w (6 * i)) (word w (6 * i)) refl)
      (began_own ∙ ap (begun_at (cond a.is.start a.at (began_of ps (open_at w (3 * q) t.live (word w (6 * i)))))) held_own ∙ sym goes_own))
      (λ e. rw (number_is f w i a is, ne_eqb k (word w (6 * i)) (λ z. e (sym z)), st.others k e, held_other k e))
