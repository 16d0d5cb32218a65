-- What the functions over one buffer promise.
use Rattle.std.specs.Prelude.{Option, Some, None, ℕ, ◌+◌, ◌-◌, ◌*◌, ◌<◌, ◌≤◌, ◌≡◌, Bool, cond, eqb, List, [], ◌∷◌, ◌++◌, map, length, drop}
use Rattle.std.specs.Borrow.{Bor}
use Rattle.laws.specs.Stores.{Writes}
use Rattle.items.specs.Items.{Span, span_list}
use Rattle.mdr.specs.Frame.{unpacks_of}
use Rattle.spans.specs.Scan.{spans_of, rest_of}
use Rattle.spans.specs.declared.Tally.{Tally}
use Rattle.spans.specs.declared.Counted.{Counted}
use Rattle.spans.specs.declared.Wrote.{Wrote}

-- ---- the walk: a buffer b, the next span, which stands in b, and what is then to be looked at: all that stands behind it

pub record SpanAt (b w e : List ℕ) : Type 0 where
  pub spans : spans_of b ≡ w ∷ spans_of e
  pub rest : rest_of b ≡ rest_of e
  pub some : 0 < length w
  pub fits : length w + length e ≤ length b
  pub stands : w ++ e ≡ drop (length b - (length w + length e)) b

pub record RestAt (b e : List ℕ) : Type 0 where
  pub spans : spans_of b ≡ []
  pub rest : rest_of b ≡ e
  pub fits : length e ≤ length b
  pub stands : e ≡ drop (length b - length e) b

unfoldable pub After : List ℕ → Option (Bor (List ℕ)) → List ℕ → Type 0
After b (Some w) e = SpanAt b w.now e
After b None e = RestAt b e

pub record NextIs (b : List ℕ) (r : Option (Bor (List ℕ))) (e : List ℕ) : Type 0 where
  pub after : After b r e

-- ---- counting

abbrev pub bit : Bool → ℕ
bit b = cond b 1 0

-- one span more, of the wire w
unfoldable pub tally_one : Tally → List ℕ → Tally
tally_one t w = record { count = t.count + 1; bytes = t.bytes + 14 + length w; frames = cond (eqb t.frames 0) (bit (unpacks_of w)) t.frames }

unfoldable pub tally_all : Tally → List (List ℕ) → Tally
tally_all t [] = t
tally_all t (w ∷ ws) = tally_all (tally_one t w) ws

-- n bytes more can be counted: a span takes a byte at least, and its item 14 more
pub record Room (t : Tally) (n : ℕ) : Type 0 where
  pub fewer : t.count ≤ t.bytes
  pub bytes : t.bytes + 15 * n < 4611686018427387904

pub record CountedIs (b : List ℕ) (t : Tally) (r : Counted) : Type 0 where
  pub all : r.tally ≡ tally_all t (spans_of b)
  pub left : r.rest ≡ length (rest_of b)
  pub fewer : r.tally.count ≤ r.tally.bytes
  pub bytes : r.tally.bytes ≤ t.bytes + 15 * length b
  pub most : r.rest ≤ length b

-- ---- writing

-- the spans of a buffer, with a direction and a time
abbrev pub tagged : ℕ → ℕ → List (List ℕ) → List Span
tagged rx time ws = map (λ w. record { rx = rx; time = time; wire = w }) ws

pub record WritePre (b : List ℕ) (rx time : ℕ) (d : List ℕ) (at : ℕ) : Type 0 where
  pub room : at + length (span_list (tagged rx time (spans_of b))) ≤ length d

pub record WroteIs (b : List ℕ) (rx time : ℕ) (d : List ℕ) (at : ℕ) (r : Wrote) (e : List ℕ) : Type 0 where
  pub written : Writes d at (span_list (tagged rx time (spans_of b))) r.at e
  pub left : r.rest ≡ length (rest_of b)
  pub most : r.rest ≤ length b
