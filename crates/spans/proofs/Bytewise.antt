-- Laws of specs/Bytewise.
use Prim.Native.Nat.{ℕ, zero, suc, ◌<◌}
use mathlib.Core.Path.{◌≡◌, refl, ◌∙◌}
use mathlib.Core.Bool.{cond, true, false}
use mathlib.Core.List.{List, [], ◌∷◌, ◌++◌, append_assoc, append-nil, map}
use native.Mathlib.Omega.{arith}
use lib.ListN.{length, take, drop, get_or}
use lib.Dec.{ltb, leb}
use borrow.Author.Tests.{eq-eqb, ne_eqb, lt-ltb, le-ltb}
use Rattle.laws.proofs.Choice.{split_b, split≡, split≤, no_way}
use Rattle.laws.specs.Keys.{Key}
use Rattle.laws.proofs.Keys.{split_k, eq_eq_k, ne_eq_k}
use Rattle.laws.specs.Keyed.{step, run, after}
use Rattle.rfcomm.specs.Pieces.{Piece}
use Rattle.search.specs.Seek.{seek}
use Rattle.spans.specs.Scan.{begun, end, ended, spans_n, rest_n, spans_of, rest_of, capped}
use Rattle.spans.proofs.Scanning.{shorter}
use Rattle.spans.specs.Spans.{scanner, emptied, spans, unfinished}
use Rattle.spans.specs.Bytewise.{feed, emit, held, emitted, by_bytes, Quiet, AllQuiet}
use Rattle.laws.specs.Count.{count, nub}

pub held_append : (h a b : List ℕ) → held h (a ++ b) ≡ held (held h a) b
unfolding held
held_append h [] b = refl
held_append h (x ∷ a) b = held_append (feed h x) a b

pub emitted_append : (h a b : List ℕ) → emitted h (a ++ b) ≡ emitted h a ++ emitted (held h a) b
unfolding emitted held
emitted_append h [] b = refl
emitted_append h (x ∷ a) b = rw (emitted_append (feed h x) a b, append_assoc)

-- ---- the rule on a buffer is the scan of it from nothing

ltb_suc : (a b : ℕ) → ltb (suc a) (suc b) ≡ ltb a b
ltb_suc a b =
    split≤ b a
    (λ h. rw (le-ltb a b h) (le-ltb (suc a) (suc b) (omega arith)))
    (λ h. rw (lt-ltb a b h) (lt-ltb (suc a) (suc b) (omega arith)))

-- with nothing held, what stands before the first 3E is dropped
outside : (b : List ℕ) → (emitted [] b ≡ emitted [] (begun b)) × (held [] b ≡ held [] (begun b))
unfolding emitted held feed emit seek
outside [] = (refl, refl)
outside (x ∷ b) =
    split≡ x 0x3E
    (λ e. (rw (eq-eqb x 0x3E e) (rw (eq-eqb x 0x3E e)), rw (eq-eqb x 0x3E e) (rw (eq-eqb x 0x3E e, held))))
    (λ e. (rw (ne_eqb x 0x3E) (outside b).0, rw (ne_eqb x 0x3E) (outside b).1))

-- with something held, bytes are held through the first 3C
inside :
    (a : ℕ) (h c : List ℕ) →
    (emitted (a ∷ h) c ≡ cond (ended c) ((a ∷ (h ++ take (end c) c)) ∷ emitted [] (drop (end c) c)) []) × (held (a ∷ h) c ≡ cond (ended c) (held [] (drop (end c) c)) (a ∷ (h ++ c)))
unfolding emitted held feed emit seek
inside a h [] = (refl, rw append-nil)
inside a h (x ∷ c) =
    split≡ x 0x3C
    (λ e. (rw (eq-eqb x 0x3C e, lt-ltb 0 (suc (length c)) (omega arith)), rw (eq-eqb x 0x3C e, lt-ltb 0 (suc (length c)) (omega arith))))
    (λ e. (rw (ne_eqb x 0x3C e, ltb_suc (seek 0x3C c) (length c)) (rw ((inside a (h ++ (x ∷ [])) c).0, append_assoc)), rw (ne_eqb x 0x3C e, ltb_suc (seek 0x3C c) (length c)) (rw ((inside a (h ++ (x ∷ [])) c).1, append_assoc))))

data Starts : List ℕ → Type 0 where
  nothing : Starts []
  starts : (c : List ℕ) → Starts (0x3E ∷ c)

begun_starts : (b : List ℕ) → Starts (begun b)
unfolding seek
begun_starts [] = nothing
begun_starts (x ∷ b) =
    split≡ x 0x3E
    (λ e. rw (eq-eqb x 0x3E e, e) (starts b))
    (λ e. rw (ne_eqb x 0x3E) (begun_starts b))

once : (c : List ℕ) → Starts c → (emitted [] c ≡ cond (ended c) (take (end c) c ∷ emitted [] (drop (end c) c)) []) × (held [] c ≡ cond (ended c) (held [] (drop (end c) c)) c)
unfolding emitted held feed emit seek
once c nothing = (refl, refl)
once c (starts b) = (rw (ltb_suc (seek 0x3C b) (length b)) (inside 0x3E [] b).0, rw (ltb_suc (seek 0x3C b) (length b)) (inside 0x3E [] b).1)

rule : (n : ℕ) (b : List ℕ) → length b < n → (spans_n n b ≡ emitted [] b) × (rest_n n b ≡ held [] b)
unfolding spans_n rest_n
rule zero b h = absurd (omega arith)
rule (suc n) b h =
    split_b (ended (begun b))
    (λ e. let s = shorter b e in
    let ih : (spans_n n (drop (end (begun b)) (begun b)) ≡ emitted [] (drop (end (begun b)) (begun b))) × (rest_n n (drop (end (begun b)) (begun b)) ≡ held [] (drop (end (begun b)) (begun b))) = rule n (drop (end (begun b)) (begun b)) (omega arith) in
    (rw ((outside b).0, (once (begun b) (begun_starts b)).0, e, ih.0), rw ((outside b).1, (once (begun b) (begun_starts b)).1, e, ih.1)))
    (λ e. (rw ((outside b).0, (once (begun b) (begun_starts b)).0, e), rw ((outside b).1, (once (begun b) (begun_starts b)).1, e)))

pub spans_is : (b : List ℕ) → spans_of b ≡ emitted [] b
unfolding spans_of
spans_is b = (rule (suc (length b)) b (omega arith)).0

pub rest_is : (b : List ℕ) → rest_of b ≡ held [] b
unfolding rest_of
rest_is b = (rule (suc (length b)) b (omega arith)).1

pub quiet_nil : Quiet []
unfolding held emitted
quiet_nil = record { stays = refl; silent = refl }

quiet_feed : (b : List ℕ) (x : ℕ) → Quiet b → Quiet (feed b x)
unfolding feed held emitted emit
quiet_feed [] x q =
    split≡ x 0x3E
    (λ e. rw (eq-eqb x 0x3E e) (record { stays = rw (eq-eqb x 0x3E e); silent = refl }))
    (λ e. rw (ne_eqb x 0x3E e) quiet_nil)
quiet_feed (a ∷ h) x q =
    split≡ x 0x3C
    (λ e. rw (eq-eqb x 0x3C e) quiet_nil)
    (λ e. rw (ne_eqb x 0x3C e) (record {
      stays = held_append [] (a ∷ h) (x ∷ []) ∙ rw (q.stays, ne_eqb x 0x3C e);
      silent = emitted_append [] (a ∷ h) (x ∷ []) ∙ rw (q.stays, q.silent, ne_eqb x 0x3C e);
    }))

pub quiet_held : (x b : List ℕ) → Quiet b → Quiet (held b x)
unfolding held
quiet_held [] b q = q
quiet_held (y ∷ x) b q = quiet_held x (feed b y) (quiet_feed b y q)

pub quiet_capped : (b : List ℕ) → Quiet b → Quiet (capped b)
unfolding capped
quiet_capped b q = split_b (leb (length b) 65536) (λ e. rw e q) (λ e. rw e quiet_nil)

-- the rule on a quiet buffer and what comes behind it
module _ (b x : List ℕ) (q : Quiet b) where
  pub next_is_law : rest_of (b ++ x) ≡ held b x
  next_is_law = rest_is (b ++ x) ∙ held_append [] b x ∙ rw q.stays

  pub out_is : spans_of (b ++ x) ≡ emitted b x
  out_is = spans_is (b ++ x) ∙ emitted_append [] b x ∙ rw (q.silent, q.stays)

module _ (m : Key → List ℕ) (p : Piece) (q : AllQuiet m) where
  pub quiet_step : AllQuiet (step by_bytes m p)
  quiet_step = record {
    at = λ k.
        split_k k p.key
        (λ e. rw (eq_eq_k k p.key e) (quiet_capped (held (m p.key) p.bytes) (quiet_held p.bytes (m p.key) (q.at p.key))))
        (λ e. rw (ne_eq_k k p.key e) (q.at k));
  }

  pub step_is : step scanner m p ≡ step by_bytes m p
  step_is = rw (next_is_law (m p.key) p.bytes (q.at p.key))

  pub quiet_scanned : AllQuiet (step scanner m p)
  quiet_scanned = rw step_is quiet_step

pub machines : (ps : List Piece) (m : Key → List ℕ) → AllQuiet m → (run scanner m ps ≡ run by_bytes m ps) × (after scanner m ps ≡ after by_bytes m ps)
unfolding run after
machines [] m q = (refl, refl)
machines (p ∷ ps) m q =
    let n : rest_of (m p.key ++ p.bytes) ≡ held (m p.key) p.bytes = next_is_law (m p.key) p.bytes (q.at p.key) in
    let o : spans_of (m p.key ++ p.bytes) ≡ emitted (m p.key) p.bytes = out_is (m p.key) p.bytes (q.at p.key) in
    let ih : (run scanner (step by_bytes m p) ps ≡ run by_bytes (step by_bytes m p) ps) × (after scanner (step by_bytes m p) ps ≡ after by_bytes (step by_bytes m p) ps) = machines ps (step by_bytes m p) (quiet_step m p q) in
    (rw (n, o, ih.0), rw (n, ih.1))

-- something held, and no 3C behind it: nothing comes out, and all is held
pub no_end : (b x : List ℕ) → 0 < length b → Quiet b → ended x ≡ false → (spans_of (b ++ x) ≡ []) × (rest_of (b ++ x) ≡ b ++ x)
no_end [] x h q e = absurd (omega arith)
no_end (a ∷ b) x h q e = (out_is (a ∷ b) x q ∙ (inside a b x).0 ∙ rw e, next_is_law (a ∷ b) x q ∙ (inside a b x).1 ∙ rw e)

-- something held, and a 3C behind it: what is held and what stands through the 3C is a span
pub closes : (b x : List ℕ) → 0 < length b → Quiet b → ended x ≡ true → (spans_of (b ++ x) ≡ (b ++ take (end x) x) ∷ spans_of (drop (end x) x)) × (rest_of (b ++ x) ≡ rest_of (drop (end x) x))
closes [] x h q e = absurd (omega arith)
closes (a ∷ b) x h q e = (out_is (a ∷ b) x q ∙ (inside a b x).0 ∙ rw (e, spans_is (drop (end x) x)), next_is_law (a ∷ b) x q ∙ (inside a b x).1 ∙ rw (e, rest_is (drop (end x) x)))

-- nothing held, and no 3C: nothing comes out, and all from the first 3E on is held
pub no_start_law : (x : List ℕ) → ended (begun x) ≡ false → (spans_of x ≡ []) × (rest_of x ≡ begun x)
no_start_law x e = (spans_is x ∙ (outside x).0 ∙ (once (begun x) (begun_starts x)).0 ∙ rw e, rest_is x ∙ (outside x).1 ∙ (once (begun x) (begun_starts x)).1 ∙ rw e)

-- the same of a 3C behind what is held, or behind a 3E at the start
pub closes_first : (b x : List ℕ) → Quiet b → ended x ≡ true → (length b ≡ 0 → get_or x 0 0 ≡ 0x3E) → (spans_of (b ++ x) ≡ (b ++ take (end x) x) ∷ spans_of (drop (end x) x)) × (rest_of (b ++ x) ≡ rest_of (drop (end x) x))
unfolding seek
closes_first (a ∷ b) x q e s = closes (a ∷ b) x (omega arith) q e
closes_first [] [] q e s = no_way e refl
closes_first [] (y ∷ x) q e s =
    let z : Starts (y ∷ x) = (let k : y ≡ 0x3E = s refl in rw k (starts x)) in
    (spans_is (y ∷ x) ∙ (once (y ∷ x) z).0 ∙ rw (e, spans_is (drop (end (y ∷ x)) (y ∷ x))), rest_is (y ∷ x) ∙ (once (y ∷ x) z).1 ∙ rw (e, rest_is (drop (end (y ∷ x)) (y ∷ x))))

pub quiet_emptied : AllQuiet emptied
quiet_emptied = record { at = λ k. quiet_nil }

-- spans and unfinished, by bytes
module _ (ps : List Piece) where
  pub spans_bytewise : spans ps ≡ run by_bytes emptied ps
  unfolding spans
  spans_bytewise = (machines ps emptied quiet_emptied).0

  pub unfinished_bytewise : unfinished ps ≡ count (λ k. ltb 0 (length (after by_bytes emptied ps k))) (nub (map (λ p. p.key) ps))
  unfolding unfinished
  unfinished_bytewise = rw (machines ps emptied quiet_emptied).1
