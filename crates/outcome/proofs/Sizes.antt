-- What sizes tell of import: how much output is enough, and that it is refused where they are.
use Prim.Native.Nat.{ℕ, ◌<◌, ◌≤◌}
use mathlib.Core.Path.{◌≡◌, refl, sym, ap}
use mathlib.Core.Bool.{Bool, true, false, ◌&&◌}
use mathlib.Core.List.{List, [], ◌∷◌, map}
use mathlib.Core.Option.{Option, none, some}
use native.Mathlib.Omega.{arith}
use lib.ListN.{length}
use borrow.Author.Tests.{le-leb, lt-leb}
use Rattle.laws.proofs.Choice.{split_b, split≤, no_way}
use Rattle.laws.specs.Answers.{accepted, refused, Outcome, gives, refuses, answer, is_given}
use Rattle.laws.specs.Totals.{total}
use Rattle.items.specs.Items.{Span, span_list}
use Rattle.mdr.specs.Frame.{unpack_of, unpacks_of}
use Rattle.container.specs.Container.{Container, tail_offset}
use Rattle.channels.specs.Channels.{any}
use Rattle.rfcomm.specs.Pieces.{Piece}
use Rattle.spans.specs.Spans.{spans, on_dlci}
use Rattle.spans.proofs.Account.{list_length}
use Rattle.outcome.specs.Import.{Options, on_channel, first, has_frame, chosen, Found, found, missing, listed, file_pieces, file_wrong, read, ends_well, outcome, given, fits, work_suffices, imported}
use Rattle.outcome.specs.Sizes.{sizes, counts, sized, Foretells}

no_answer : {G : Type 0} → ◌≡◌ {A = ℕ} 0 1 → G
no_answer z = absurd (omega arith)

-- ---- a list with a span that unpacks is not short

wire_long : (w : List ℕ) → unpacks_of w ≡ true → 9 ≤ length w
unfolding unpacks_of unpack_of is_given
wire_long w e = split≤ 9 (length w) (λ h. h) (λ h. no_way e (rw (lt-leb 9 (length w) h)))

list_long : (ss : List Span) → any (λ s. unpacks_of s.wire) ss ≡ true → 23 ≤ length (span_list ss)
unfolding any total
list_long [] e = no_way e refl
list_long (s ∷ ss) e =
    split_b (unpacks_of s.wire)
    (λ g. omega (arith, list_length (s ∷ ss), wire_long s.wire g))
    (λ g. omega (arith, list_length (s ∷ ss), list_length ss, list_long ss (rw g at e)))

-- what is first among those that a test holds of is one of them
first_is : (f : ℕ → Bool) (es : List ℕ) (d : ℕ) → first f es ≡ some d → f d ≡ true
unfolding first
first_is f [] d e = no_answer cc
first_is f (x ∷ es) d e =
    split_b (f x)
    (λ g. let y : some x ≡ some d = rw g at e in let z : x ≡ d = cc in rw z at g)
    (λ g. first_is f es d (rw g at e))

fit_frame : (a b : Bool) → (a && b) ≡ true → b ≡ true
fit_frame true b e = e
fit_frame false b e = no_way e refl

chosen_frame : (channel : Option ℕ) (ps : List Piece) (d : ℕ) → chosen channel ps ≡ some d → has_frame ps d ≡ true
unfolding chosen
chosen_frame channel ps d e = fit_frame (on_channel channel d) (has_frame ps d) (first_is (λ d. on_channel channel d && has_frame ps d) (map (λ p. p.dlci) ps) d e)

-- ---- what import writes is not short

abbrev Long : Found → Type 0
Long (found x) = 23 ≤ length (span_list x.spans)
Long (missing n vs) = n ≡ n

listed_long : (ps : List Piece) (wrongs : ℕ → ℕ) (tail : ℕ) (channel : Option ℕ) → Long (listed ps wrongs tail (chosen channel ps))
unfolding listed has_frame
listed_long ps wrongs tail channel = go (chosen channel ps) refl where
  go : (d : Option ℕ) → chosen channel ps ≡ d → Long (listed ps wrongs tail d)
  go none e = refl
  go (some d) e = list_long (spans (on_dlci d ps)) (chosen_frame channel ps d e)

module _ (C : Container) (f : List ℕ) (o : Options) where
  outcome_long : Long (outcome C f o)
  unfolding outcome read
  outcome_long =
      split_b (C.is_file f)
      (λ e. rw e
      (split_b (C.is_taken (C.link_type f))
      (λ g. rw g
      (split_b (ends_well C o.tail f)
      (λ h. rw h (listed_long (file_pieces C o.judging f) (file_wrong C o.judging f) (tail_offset C f) o.channel))
      (λ h. rw h)))
      (λ g. rw g)))
      (λ e. rw e)

  given_long : (x : Found) → Long x → (vs list : List ℕ) → given x ≡ gives vs list → 23 ≤ length list
  unfolding given
  given_long (found x) l vs list e = let z : span_list x.spans ≡ list = cc in rw z at l
  given_long (missing n ws) l vs list e = no_answer cc

  imported_long : (work : ℕ) (vs list : List ℕ) → imported C f work o ≡ gives vs list → 23 ≤ length list
  unfolding imported
  imported_long work vs list e =
      split_b (fits f)
      (λ a. split_b (work_suffices f work)
      (λ b. given_long (outcome C f o) outcome_long vs list (rw (a, b) at e))
      (λ b. let z : refuses 2 [] ≡ gives vs list = rw (a, b) at e in no_answer cc))
      (λ a. let z : refuses 1 [] ≡ gives vs list = rw a at e in no_answer cc)

-- ---- sizes

-- accepted, they tell the length of what is given
record Given (x : Outcome) (n : ℕ) : Type 0 where
  vs : List ℕ
  list : List ℕ
  is : x ≡ gives vs list
  long : n ≡ length list

sizes_given : (x : Outcome) (ns : List ℕ) (n : ℕ) (numbers : List ℕ) → sizes x ns ≡ accepted (n ∷ numbers) → Given x n
unfolding sizes
sizes_given (gives vs list) ns n numbers e = record { vs = vs; list = list; is = refl; long = cc }
sizes_given (refuses k vs) ns n numbers e = no_answer cc

sizes_refused : (x : Outcome) (ns : List ℕ) (k : ℕ) (vs : List ℕ) → sizes x ns ≡ refused k vs → x ≡ refuses k vs
unfolding sizes
sizes_refused (gives ws list) ns k vs e = no_answer cc
sizes_refused (refuses n ws) ns k vs e = cc

pub foretells : (C : Container) (f : List ℕ) (work : ℕ) (o : Options) → Foretells C f work o (sized C f work o)
unfolding sized answer
foretells C f work o = record {
  enough = λ n numbers e room h k vs q. (let g = sizes_given (imported C f work o) (counts C o.judging f) n numbers e in
      let l : length g.list ≤ room = omega (arith, g.long) in
      let z : accepted g.vs ≡ refused k vs = rw (g.is, le-leb (length g.list) room l) at q in no_answer cc);
  short = λ n numbers e room h. (let g = sizes_given (imported C f work o) (counts C o.judging f) n numbers e in
      let l : room < length g.list = omega (arith, g.long) in
      rw (g.is, lt-leb (length g.list) room l) (ap (λ x. refused 7 (x ∷ [])) (sym g.long)));
  least = λ n numbers e. (let g = sizes_given (imported C f work o) (counts C o.judging f) n numbers e in omega (arith, g.long, imported_long C f o work g.vs g.list g.is));
  alike = λ k vs e room. rw (sizes_refused (imported C f work o) (counts C o.judging f) k vs e);
}
