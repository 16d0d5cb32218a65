-- A second reading of where every byte went: byte by byte, for each stretch and direction by itself. Added up, it gives the same four numbers.
use Prim.Native.Nat.{ℕ, suc, ◌+◌}
use mathlib.Core.Path.{◌≡◌, sym, ap, ◌∙◌}
use mathlib.Core.Bool.{false, cond}
use mathlib.Core.List.{List, [], ◌∷◌, ◌++◌, map}
use native.Mathlib.Omega.{arith}
use native.Mathlib.Nat.{zero-add, add-zero}
use lib.ListN.{length, length-append}
use lib.Dec.{leb, eqb}
use borrow.Author.Tests.{eq-eqb, ne_eqb}
use Rattle.laws.proofs.Choice.{split_b, split≡}
use Rattle.laws.specs.Keys.{Key}
use Rattle.laws.specs.Keyed.{of, run1, after, after1}
use Rattle.laws.proofs.Keyed.{after_at}
use Rattle.laws.specs.Count.{nub}
use Rattle.laws.specs.Totals.{total}
use Rattle.laws.proofs.Totals.{total_append, total_map, total_same, among_nub, total_run}
use Rattle.items.specs.Items.{Span}
use Rattle.rfcomm.specs.Pieces.{Piece}
use Rattle.spans.specs.Scan.{spans_of, rest_of, capped}
use Rattle.spans.specs.Spans.{scanner, emptied, spans}
use Rattle.spans.specs.Bytewise.{feed, emit, held, emitted, Quiet}
use Rattle.spans.proofs.Bytewise.{quiet_nil, quiet_held, quiet_capped, next_is_law, out_is}
use Rattle.spans.specs.Account.{dropped_of, cleared_of, weighing, in_spans, dropped, cleared, left}
use Rattle.spans.proofs.Account.{buffer_conserves}

-- ---- the reading

-- the bytes held, and those that went into spans, were dropped, were cleared
pub record Went : Type 0 where
  pub holding : ℕ
  pub in_spans : ℕ
  pub dropped : ℕ
  pub cleared : ℕ

abbrev pub went : ℕ → ℕ → ℕ → ℕ → Went
went h i d c = record { holding = h; in_spans = i; dropped = d; cleared = c }

-- with nothing held a 3E is held and any other byte is dropped; with something held a 3C makes a span of it, and any other byte is held too
unfoldable pub byte : Went → ℕ → Went
byte w x =
    cond (eqb w.holding 0)
    (cond (eqb x 0x3E) (went 1 w.in_spans w.dropped w.cleared) (went 0 w.in_spans (w.dropped + 1) w.cleared))
    (cond (eqb x 0x3C) (went 0 (w.in_spans + (w.holding + 1)) w.dropped w.cleared) (went (w.holding + 1) w.in_spans w.dropped w.cleared))

unfoldable pub bytes : Went → List ℕ → Went
bytes w [] = w
bytes w (x ∷ xs) = bytes (byte w x) xs

-- over 65,536 bytes held at the end of a piece are cleared
unfoldable pub at_end : Went → Went
at_end w = cond (leb w.holding 65536) w (went 0 w.in_spans w.dropped (w.cleared + w.holding))

-- the pieces of one stretch and direction
unfoldable pub walk : Went → List Piece → Went
walk w [] = w
walk w (p ∷ ps) = walk (at_end (bytes w p.bytes)) ps

unfoldable pub went_at : List Piece → Key → Went
went_at ps k = walk (went 0 0 0 0) (of (λ p. p.key) k ps)

-- ---- one piece

-- what one byte drops
drop_one : List ℕ → ℕ → ℕ
drop_one [] x = cond (eqb x 0x3E) 0 1
drop_one (a ∷ h) x = 0

drops : List ℕ → List ℕ → ℕ
drops h [] = 0
drops h (x ∷ xs) = drop_one h x + drops (feed h x) xs

byte_is : (h : List ℕ) (x i d c : ℕ) → byte (went (length h) i d c) x ≡ went (length (feed h x)) (i + total length (emit h x)) (d + drop_one h x) c
unfolding byte feed emit drop_one total
byte_is [] x i d c =
    split≡ x 0x3E
    (λ e. rw (eq-eqb x 0x3E e) (rw (add-zero i, add-zero d)))
    (λ e. rw (ne_eqb x 0x3E e) (rw (add-zero i)))
byte_is (a ∷ h) x i d c =
    let z : eqb (suc (length h)) 0 ≡ false = ne_eqb (suc (length h)) 0 (λ q. omega arith) in
    let n : length (h ++ (x ∷ [])) ≡ length h + 1 = length-append h (x ∷ []) in
    let s : suc (length h) + 1 ≡ suc (length h + 1) = omega arith in
    split≡ x 0x3C
    (λ e. rw (z, eq-eqb x 0x3C e) (rw (n, s, add-zero d, add-zero (suc (length h + 1)))))
    (λ e. rw (z, ne_eqb x 0x3C e) (rw (n, s, add-zero i, add-zero d)))

bytes_is : (h xs : List ℕ) (i d c : ℕ) → bytes (went (length h) i d c) xs ≡ went (length (held h xs)) (i + total length (emitted h xs)) (d + drops h xs) c
unfolding bytes held emitted drops total
bytes_is h [] i d c = rw (add-zero i, add-zero d)
bytes_is h (x ∷ xs) i d c =
    let e : total length (emit h x ++ emitted (feed h x) xs) ≡ total length (emit h x) + total length (emitted (feed h x) xs) = total_append length (emit h x) (emitted (feed h x) xs) in
    let a : i + (total length (emit h x) + total length (emitted (feed h x) xs)) ≡ i + total length (emit h x) + total length (emitted (feed h x) xs) = omega arith in
    let b : d + (drop_one h x + drops (feed h x) xs) ≡ d + drop_one h x + drops (feed h x) xs = omega arith in
    rw (byte_is h x i d c, e, a, b) (bytes_is (feed h x) xs (i + total length (emit h x)) (d + drop_one h x) c)

-- each byte goes one way
one_way : (h : List ℕ) (x : ℕ) → total length (emit h x) + drop_one h x + length (feed h x) ≡ length h + 1
unfolding emit drop_one feed total
one_way [] x =
    split≡ x 0x3E
    (λ e. rw (eq-eqb x 0x3E e))
    (λ e. rw (ne_eqb x 0x3E e))
one_way (a ∷ h) x =
    split≡ x 0x3C
    (λ e. rw (eq-eqb x 0x3C e) (omega (arith, length-append h (x ∷ []))))
    (λ e. rw (ne_eqb x 0x3C e) (omega (arith, length-append h (x ∷ []))))

all_ways : (h xs : List ℕ) → total length (emitted h xs) + drops h xs + length (held h xs) ≡ length h + length xs
unfolding emitted held drops total
all_ways h [] = omega arith
all_ways h (x ∷ xs) = omega (arith, one_way h x, all_ways (feed h x) xs, total_append length (emit h x) (emitted (feed h x) xs))

-- so what the rule drops is what is dropped byte by byte
drops_is : (b x : List ℕ) → Quiet b → dropped_of (b ++ x) ≡ drops b x
drops_is b x q = omega (arith, buffer_conserves (b ++ x), all_ways b x, ap (total length) (out_is b x q), ap length (next_is_law b x q), length-append b x)

-- ---- the pieces of one key

end_is : (b : List ℕ) (i d c : ℕ) → at_end (went (length b) i d c) ≡ went (length (capped b)) i d (c + cleared_of b)
unfolding at_end capped cleared_of
end_is b i d c = split_b (leb (length b) 65536) (λ e. rw (e, add-zero c)) (λ e. rw e)

-- what one key's spans, drops and clearings add up to
module _ (b : List ℕ) (ps : List Piece) where
  abbrev spans1 : ℕ
  spans1 = total (λ s. length s.wire) (run1 scanner b ps)

  abbrev dropped1 : ℕ
  dropped1 = total (λ n. n) (run1 (weighing dropped_of) b ps)

  abbrev cleared1 : ℕ
  cleared1 = total (λ n. n) (run1 (weighing (λ b. cleared_of (rest_of b))) b ps)

module _ (b : List ℕ) (q : Quiet b) (p : Piece) (i d c : ℕ) where
  piece_is : at_end (bytes (went (length b) i d c) p.bytes) ≡ went (length (capped (rest_of (b ++ p.bytes)))) (i + total length (spans_of (b ++ p.bytes))) (d + dropped_of (b ++ p.bytes)) (c + cleared_of (rest_of (b ++ p.bytes)))
  piece_is = rw (next_is_law b p.bytes q, out_is b p.bytes q, drops_is b p.bytes q, bytes_is b p.bytes i d c) (end_is (held b p.bytes) (i + total length (emitted b p.bytes)) (d + drops b p.bytes) c)

  quiet_next : Quiet (capped (rest_of (b ++ p.bytes)))
  quiet_next = rw (next_is_law b p.bytes q) (quiet_capped (held b p.bytes) (quiet_held p.bytes b q))

walk_is : (b : List ℕ) → Quiet b → (ps : List Piece) (i d c : ℕ) → walk (went (length b) i d c) ps ≡ went (length (after1 scanner b ps)) (i + spans1 b ps) (d + dropped1 b ps) (c + cleared1 b ps)
unfolding walk after1 run1 total
walk_is b q [] i d c = rw (add-zero i, add-zero d, add-zero c)
walk_is b q (p ∷ ps) i d c =
    let w : total (λ (s : Span). length s.wire) (map (λ w. record { rx = p.rx; time = p.time; wire = w }) (spans_of (b ++ p.bytes)) ++ run1 scanner (capped (rest_of (b ++ p.bytes))) ps) ≡ total length (spans_of (b ++ p.bytes)) + spans1 (capped (rest_of (b ++ p.bytes))) ps =
    total_append (λ (s : Span). length s.wire) (map (λ w. record { rx = p.rx; time = p.time; wire = w }) (spans_of (b ++ p.bytes))) (run1 scanner (capped (rest_of (b ++ p.bytes))) ps) ∙ rw (total_map (λ (s : Span). length s.wire) (λ w. record { rx = p.rx; time = p.time; wire = w }) (spans_of (b ++ p.bytes))) in
    let x : i + (total length (spans_of (b ++ p.bytes)) + spans1 (capped (rest_of (b ++ p.bytes))) ps) ≡ i + total length (spans_of (b ++ p.bytes)) + spans1 (capped (rest_of (b ++ p.bytes))) ps = omega arith in
    let y : d + (dropped_of (b ++ p.bytes) + dropped1 (capped (rest_of (b ++ p.bytes))) ps) ≡ d + dropped_of (b ++ p.bytes) + dropped1 (capped (rest_of (b ++ p.bytes))) ps = omega arith in
    let z : c + (cleared_of (rest_of (b ++ p.bytes)) + cleared1 (capped (rest_of (b ++ p.bytes))) ps) ≡ c + cleared_of (rest_of (b ++ p.bytes)) + cleared1 (capped (rest_of (b ++ p.bytes))) ps = omega arith in
    rw (piece_is b q p i d c, w, x, y, z)
    (walk_is (capped (rest_of (b ++ p.bytes))) (quiet_next b q p i d c) ps (i + total length (spans_of (b ++ p.bytes))) (d + dropped_of (b ++ p.bytes)) (c + cleared_of (rest_of (b ++ p.bytes))))

-- ---- all keys

-- the different stretches and directions of pieces
abbrev pub keys_of : List Piece → List Key
keys_of ps = nub (map (λ p. p.key) ps)

module _ (ps : List Piece) where
  at_key : (k : Key) → went_at ps k ≡ went (length (after scanner emptied ps k)) (spans1 [] (of (λ p. p.key) k ps)) (dropped1 [] (of (λ p. p.key) k ps)) (cleared1 [] (of (λ p. p.key) k ps))
  unfolding went_at
  at_key k =
      walk_is [] quiet_nil (of (λ p. p.key) k ps) 0 0 0
      ∙ rw (zero-add (spans1 [] (of (λ p. p.key) k ps)), zero-add (dropped1 [] (of (λ p. p.key) k ps)), zero-add (cleared1 [] (of (λ p. p.key) k ps)), after_at scanner emptied ps k)

  -- the walk of every key, added up, gives the four numbers
  pub spans_walked : in_spans ps ≡ total (λ k. (went_at ps k).in_spans) (keys_of ps)
  unfolding in_spans spans
  spans_walked = total_run scanner (λ s. length s.wire) (keys_of ps) emptied (among_nub (λ (p : Piece). p.key) ps) ∙ total_same (λ k. spans1 [] (of (λ p. p.key) k ps)) (λ k. (went_at ps k).in_spans) (λ k. sym (ap (λ (w : Went). w.in_spans) (at_key k))) (keys_of ps)

  pub dropped_walked : dropped ps ≡ total (λ k. (went_at ps k).dropped) (keys_of ps)
  unfolding dropped
  dropped_walked = total_run (weighing dropped_of) (λ n. n) (keys_of ps) emptied (among_nub (λ (p : Piece). p.key) ps) ∙ total_same (λ k. dropped1 [] (of (λ p. p.key) k ps)) (λ k. (went_at ps k).dropped) (λ k. sym (ap (λ (w : Went). w.dropped) (at_key k))) (keys_of ps)

  pub cleared_walked : cleared ps ≡ total (λ k. (went_at ps k).cleared) (keys_of ps)
  unfolding cleared
  cleared_walked = total_run (weighing (λ b. cleared_of (rest_of b))) (λ n. n) (keys_of ps) emptied (among_nub (λ (p : Piece). p.key) ps) ∙ total_same (λ k. cleared1 [] (of (λ p. p.key) k ps)) (λ k. (went_at ps k).cleared) (λ k. sym (ap (λ (w : Went). w.cleared) (at_key k))) (keys_of ps)

  pub left_walked : left ps ≡ total (λ k. (went_at ps k).holding) (keys_of ps)
  unfolding left
  left_walked = total_same (λ k. length (after scanner emptied ps k)) (λ k. (went_at ps k).holding) (λ k. sym (ap (λ (w : Went). w.holding) (at_key k))) (keys_of ps)
