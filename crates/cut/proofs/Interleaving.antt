-- The data PDUs of several link directions, interleaved: the scanner's spans are the frames closed, in order, its buffers hold what is mid-frame,
-- and nothing is dropped or cleared.
use Prim.Native.Nat.{ℕ, ◌+◌}
use mathlib.Core.Path.{◌≡◌, refl, sym, ◌∙◌}
use mathlib.Core.List.{List, [], ◌∷◌, ◌++◌, append_assoc, map}
use native.Mathlib.Omega.{arith}
use native.Mathlib.Nat.{add-zero}
use lib.ListN.{length, take, drop, length-append}
use lib.Seq.{drop-drop, drop-append_seam}
use Rattle.laws.specs.Lists.{All}
use Rattle.laws.proofs.Lists.{flat_append}
use Rattle.laws.specs.Keys.{Key, eq_k}
use Rattle.laws.proofs.Keys.{split_k, eq_eq_k, ne_eq_k}
use Rattle.laws.specs.Keyed.{of, step, run, after}
use Rattle.laws.specs.Totals.{total}
use Rattle.rfcomm.specs.Pieces.{Piece}
use Rattle.spans.specs.Scan.{spans_of, rest_of, capped}
use Rattle.spans.specs.Bytewise.{held}
use Rattle.spans.specs.Spans.{scanner}
use Rattle.spans.specs.Account.{dropped_of, cleared_of, weighing}
use Rattle.cut.specs.Left.{Data, data_key, information_of, closed_in, closing}
use Rattle.cut.proofs.TwoParts.{map_append, of_append}
use Rattle.cut.proofs.CutWires.{Wire, Begun, stream, piece_next, piece_out, piece_none}

-- ---- lists of data PDUs in two parts

pub information_append : (k : Key) (xs ys : List Data) → information_of k (xs ++ ys) ≡ information_of k xs ++ information_of k ys
information_append k xs ys = rw (of_append data_key k xs ys, map_append (λ (x : Data). x.information) (of data_key k xs) (of data_key k ys), flat_append)

-- ---- link directions

abbrev pub plain : ℕ → ℕ → Key
plain h r = h ∷ r ∷ []

-- what each link direction sends: the wires W, and perhaps a beginning P
pub record Framed (W : ℕ → ℕ → List (List ℕ)) (P : ℕ → ℕ → List ℕ) : Type 0 where
  pub whole : (h r : ℕ) → All Wire (W h r)
  pub begun : (h r : ℕ) → Begun (P h r)

-- the piece that a data PDU brings, with a stretch for each link direction
abbrev pub as_piece : ℕ → (ℕ → ℕ → Key) → Data → Piece
as_piece d F x = record { dlci = d; key = F x.link x.rx; rx = x.rx; time = x.time; bytes = x.information }

-- different link directions have different stretches
abbrev pub Apart : (ℕ → ℕ → Key) → Type 0
Apart F = (h r h' r' : ℕ) → eq_k (F h r) (F h' r') ≡ eq_k (plain h r) (plain h' r')

pub came_after : (W : ℕ → ℕ → List (List ℕ)) (came : Key → ℕ) (xs : List Data) (k : Key) → after (closing W) came xs k ≡ came k + length (information_of k xs)
unfolding after of
came_after W came [] k = sym (add-zero (came k))
came_after W came (x ∷ xs) k =
    rw (came_after W (step (closing W) came x) xs k)
    (split_k (data_key x) k
    (λ e. rw (e, eq_eq_k k k refl, length-append) (omega arith))
    (λ n. rw (ne_eq_k k (data_key x) (λ q. n (sym q)), ne_eq_k (data_key x) k n)))

module _ (W : ℕ → ℕ → List (List ℕ)) (P : ℕ → ℕ → List ℕ) (S : Framed W P) (d : ℕ) (F : ℕ → ℕ → Key) (apart : Apart F) where
  -- the buffers hold what has come; what is still to come is in the data PDUs, and perhaps more behind them
  pub record Fed (m : Key → List ℕ) (came : Key → ℕ) (xs : List Data) : Type 0 where
    pub holds : (h r : ℕ) → m (F h r) ≡ held [] (take (came (plain h r)) (stream (W h r) (P h r)))
    pub rest : ℕ → ℕ → List ℕ
    pub comes : (h r : ℕ) → drop (came (plain h r)) (stream (W h r) (P h r)) ≡ information_of (plain h r) xs ++ rest h r

  module _ (m : Key → List ℕ) (came : Key → ℕ) (x : Data) (xs : List Data) (f : Fed m came (x ∷ xs)) where
    comes_here : drop (came (data_key x)) (stream (W x.link x.rx) (P x.link x.rx)) ≡ x.information ++ (information_of (data_key x) xs ++ f.rest x.link x.rx)
    unfolding of
    comes_here = f.comes x.link x.rx ∙ rw (eq_eq_k (data_key x) (data_key x) refl, append_assoc)

    out_here : spans_of (m (F x.link x.rx) ++ x.information) ≡ closed_in 0 (came (data_key x)) (came (data_key x) + length x.information) (W x.link x.rx)
    out_here =
        rw (f.holds x.link x.rx)
        (piece_out (W x.link x.rx) (P x.link x.rx) (S.whole x.link x.rx) (S.begun x.link x.rx) (came (data_key x)) x.information (information_of (data_key x) xs ++ f.rest x.link x.rx) comes_here)

    next_here : capped (rest_of (m (F x.link x.rx) ++ x.information)) ≡ held [] (take (came (data_key x) + length x.information) (stream (W x.link x.rx) (P x.link x.rx)))
    next_here =
        rw (f.holds x.link x.rx)
        (piece_next (W x.link x.rx) (P x.link x.rx) (S.whole x.link x.rx) (S.begun x.link x.rx) (came (data_key x)) x.information (information_of (data_key x) xs ++ f.rest x.link x.rx) comes_here)

    none_here : dropped_of (m (F x.link x.rx) ++ x.information) + cleared_of (rest_of (m (F x.link x.rx) ++ x.information)) ≡ 0
    none_here =
        rw (f.holds x.link x.rx)
        (piece_none (W x.link x.rx) (P x.link x.rx) (S.whole x.link x.rx) (S.begun x.link x.rx) (came (data_key x)) x.information (information_of (data_key x) xs ++ f.rest x.link x.rx) comes_here)

    rest_here : drop (came (data_key x) + length x.information) (stream (W x.link x.rx) (P x.link x.rx)) ≡ information_of (data_key x) xs ++ f.rest x.link x.rx
    rest_here = sym (drop-drop (length x.information) (came (data_key x)) (stream (W x.link x.rx) (P x.link x.rx))) ∙ rw comes_here (drop-append_seam x.information _)

    fed_next : Fed (step scanner m (as_piece d F x)) (step (closing W) came x) xs
    unfolding of
    fed_next = record {
      holds = λ h r.
          rw (apart h r x.link x.rx)
          (split_k (plain h r) (data_key x)
          (λ e. let eh : h ≡ x.link = cc in let er : r ≡ x.rx = cc in rw (eq_eq_k (plain h r) (data_key x) e, eh, er) next_here)
          (λ n. rw (ne_eq_k (plain h r) (data_key x) n) (f.holds h r)));
      rest = f.rest;
      comes = λ h r.
          split_k (plain h r) (data_key x)
          (λ e. let eh : h ≡ x.link = cc in let er : r ≡ x.rx = cc in rw (eq_eq_k (plain h r) (data_key x) e, eh, er) rest_here)
          (λ n. rw (ne_eq_k (plain h r) (data_key x) n) (rw (ne_eq_k (data_key x) (plain h r) (λ q. n (sym q))) at (f.comes h r)));
    }

  -- the spans are the frames closed
  pub fed_run : (m : Key → List ℕ) (came : Key → ℕ) (xs : List Data) → Fed m came xs → run scanner m (map (as_piece d F) xs) ≡ run (closing W) came xs
  unfolding run
  fed_run m came [] f = refl
  fed_run m came (x ∷ xs) f = rw (fed_run (step scanner m (as_piece d F x)) (step (closing W) came x) xs (fed_next m came x xs f), out_here m came x xs f)

  -- the buffers at the end
  pub fed_after : (m : Key → List ℕ) (came : Key → ℕ) (xs : List Data) → Fed m came xs → (h r : ℕ) → after scanner m (map (as_piece d F) xs) (F h r) ≡ held [] (take (after (closing W) came xs (plain h r)) (stream (W h r) (P h r)))
  unfolding after
  fed_after m came [] f h r = f.holds h r
  fed_after m came (x ∷ xs) f h r = fed_after (step scanner m (as_piece d F x)) (step (closing W) came x) xs (fed_next m came x xs f) h r

  -- nothing is dropped, nothing cleared
  pub fed_none : (m : Key → List ℕ) (came : Key → ℕ) (xs : List Data) → Fed m came xs →
      total (λ n. n) (run (weighing dropped_of) m (map (as_piece d F) xs)) + total (λ n. n) (run (weighing (λ b. cleared_of (rest_of b))) m (map (as_piece d F) xs)) ≡ 0
  unfolding run total
  fed_none m came [] f = refl
  fed_none m came (x ∷ xs) f = omega (arith, none_here m came x xs f, fed_none (step scanner m (as_piece d F x)) (step (closing W) came x) xs (fed_next m came x xs f))
