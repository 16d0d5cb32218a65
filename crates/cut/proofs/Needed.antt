-- The rules on sizes, which no small recording breaks: a cut over 1,048,576 bytes is refused, and a frame over 65,536 bytes may be lost.
use Prim.Native.Nat.{ℕ, suc, ◌≤◌, ◌<◌}
use mathlib.Core.Path.{◌≡◌, refl, ◌∙◌}
use mathlib.Core.Logic.{◌≢◌}
use mathlib.Core.List.{List, [], ◌∷◌, ◌++◌, append_assoc}
use native.Mathlib.Omega.{arith}
use lib.ListN.{length, take, drop, take-append-drop}
use lib.Seq.{length-take-le}
use borrow.Author.Tests.{ne_eqb, lt-leb}
use Rattle.laws.specs.Lists.{All, all_nil, all_cons}
use Rattle.laws.specs.Answers.{refuses}
use Rattle.laws.specs.Keys.{Key}
use Rattle.laws.proofs.Keys.{eq_eq_k}
use Rattle.laws.specs.Keyed.{run}
use Rattle.container.specs.Container.{Container}
use Rattle.items.specs.Items.{Span}
use Rattle.mdr.specs.Escaping.{Quiet}
use Rattle.mdr.proofs.Escaping.{all_append}
use Rattle.rfcomm.specs.Pieces.{Judging}
use Rattle.spans.specs.Scan.{spans_of, rest_of, capped}
use Rattle.spans.specs.Bytewise.{feed, emit, held, emitted}
use Rattle.spans.proofs.Bytewise.{spans_is, rest_is}
use Rattle.spans.specs.Spans.{spans}
use Rattle.outcome.specs.Import.{Options, fits, imported}
use Rattle.cut.specs.Recording.{Recording, file, cut}
use Rattle.cut.proofs.TwoParts.{all_map, all_take, all_drop}
use Rattle.cut.proofs.CutWires.{NoEnd, inside_held, inside_emitted}
use Rattle.cut.proofs.Theorem.{outcome_left}

-- ---- small

pub too_large : {C : Container} (R : Recording C) (n work : ℕ) (o : Options) → 1048576 < n → n ≤ length (file R) → imported C (cut R n) work o ≡ refuses 1 []
unfolding imported fits cut
too_large R n work o h g =
    let l : length (take n (file R)) ≡ n = length-take-le n (file R) g in
    rw (l, lt-leb n 1048576 h)

-- and nothing is left as refusal 1
pub not_left : {C : Container} (by : Judging) (R : Recording C) (n : ℕ) (ss : List Span) → outcome_left by R n ss ≢ refuses 1 []
unfolding outcome_left
not_left by R n [] e = let z : ◌≡◌ {A = ℕ} 6 1 = cc in omega arith
not_left by R n (s ∷ ss) e = let z : ◌≡◌ {A = ℕ} 0 1 = cc in omega arith

-- ---- sizes

-- with nothing held, bytes without a 3E give nothing
no_start_law : {x : List ℕ} → All (λ (b : ℕ). b ≢ 0x3E) x → emitted [] x ≡ []
unfolding emitted emit feed
no_start_law all_nil = refl
no_start_law (all_cons {x = b} p ps) = rw (ne_eqb b 0x3E p) (no_start_law ps)

module _ (inner : List ℕ) (quiet : All Quiet inner) (j : ℕ) (over : 65536 ≤ j) (part : j ≤ length inner) where
  abbrev first_part : List ℕ
  first_part = 0x3E ∷ take j inner

  abbrev second_part : List ℕ
  second_part = drop j inner ++ (0x3C ∷ [])

  -- the two parts are a frame's wire
  pub parts : first_part ++ second_part ≡ 0x3E ∷ (inner ++ (0x3C ∷ []))
  parts = rw (← append_assoc (take j inner) (drop j inner) (0x3C ∷ []), take-append-drop j inner)

  no_end : NoEnd (take j inner)
  no_end = all_take j (all_map (λ b q. q.0) quiet)

  cleared : capped (rest_of first_part) ≡ []
  unfolding capped held feed
  cleared =
      let l : length (take j inner) ≡ j = length-take-le j inner part in
      rw (rest_is first_part, inside_held 0x3E [] (take j inner) no_end, l, lt-leb (suc j) 65536 (omega arith))

  -- sent in these two pieces, it is not found: the buffer is cleared between them
  pub frame_lost : (d : ℕ) (k : Key) (rx t₁ t₂ : ℕ) →
      spans (record { dlci = d; key = k; rx = rx; time = t₁; bytes = first_part } ∷ record { dlci = d; key = k; rx = rx; time = t₂; bytes = second_part } ∷ []) ≡ []
  unfolding spans run emitted emit feed
  frame_lost d k rx t₁ t₂ =
      let a : spans_of first_part ≡ [] = spans_is first_part ∙ inside_emitted 0x3E [] (take j inner) no_end in
      let z : All (λ (b : ℕ). b ≢ 0x3E) second_part = all_append (all_drop j (all_map (λ b q. q.1) quiet)) (all_cons {x = 0x3C} (λ q. omega arith) all_nil) in
      let b : spans_of second_part ≡ [] = spans_is second_part ∙ no_start_law z in
      rw (a, cleared, eq_eq_k k k refl, b)
