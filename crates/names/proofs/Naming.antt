-- What a look at a wire says of its name.
use mathlib.Core.Path.{◌≡◌, refl, sym, ap, ◌∙◌}
use mathlib.Core.List.{List, [], ◌∷◌, ◌++◌}
use Prim.Native.Nat.{ℕ, ◌-◌, ◌<◌, ◌≤◌}
use native.Mathlib.Omega.{arith}
use lib.Dec.{leb, eqb}
use lib.ListN.{length, get_or, take, drop, length-drop}
use lib.Seq.{length-take-le}
use borrow.Author.Tests.{leb-true}
use Rattle.laws.proofs.Choice.{split_b}
use Rattle.laws.specs.Answers.{accepted, refused, Outcome, gives, refuses, Meets}
use Rattle.laws.proofs.Answers.{meets_refused, meets_short, meets_wrote, meets_as}
use Rattle.laws.specs.Stores.{Writes}
use Rattle.mdr.specs.Escape.{unescape}
use Rattle.mdr.specs.Frame.{last_of, computed_of, declared_of, payload_of, judged, bodied, unpack_of}
use Rattle.mdr.specs.Told.{told_error, told_inspected, glance}
use Rattle.mdr.specs.declared.UnpackError.{UnpackError}
use Rattle.mdr.specs.declared.UnpackError.TheVariants as unpacking
use Rattle.std.specs.Prelude.{Some, None, Result, Ok, Err}
use Rattle.std.specs.Result.{result_ok}
use Rattle.names.specs.Names.{frame_name, look_of, look_at, given, named, fixture_name}
use Rattle.names.specs.Parts.{NameLen}
use Rattle.names.proofs.Parts.{length_frame_name, fixture_seen}
use Rattle.names.specs.Told.{told_named}
use Rattle.mdr.specs.declared.Frame.{Frame}

-- ---- unpacking gives three values, the last of them the payload's length

record Three (values payload : List ℕ) : Type 0 where
  is : values ≡ get_or values 0 0 ∷ get_or values 1 0 ∷ length payload ∷ []

no_gift : {G : Type 0} (n : ℕ) (vs ws p : List ℕ) → refuses n vs ≡ gives ws p → G
no_gift n vs ws p e = let z : ◌≡◌ {A = ℕ} 0 1 = cc in absurd (omega arith)

payload_long : (body : List ℕ) → 7 ≤ length body → length (payload_of body) ≡ length body - 7
payload_long body h = length-take-le (length body - 7) (drop 6 body) (omega (arith, length-drop 6 body))

same_gift : (vs ws p q : List ℕ) → gives vs p ≡ gives ws q → (vs ≡ ws) × (p ≡ q)
same_gift vs ws p q e = (cc, cc)

judged_three : (body vs p : List ℕ) → judged body ≡ gives vs p → Three vs p
unfolding judged
judged_three body vs p e =
    split_b (leb 7 (length body))
    (λ a. split_b (eqb (last_of body) (computed_of body))
    (λ b. split_b (eqb (declared_of body) (length body - 7))
    (λ c.
    let q = same_gift (get_or body 0 0 ∷ get_or body 1 0 ∷ (length body - 7) ∷ []) vs (payload_of body) p (rw (a, b, c) at e) in
    let n : length p ≡ length body - 7 = rw (← q.1) (payload_long body (leb-true 7 (length body) a)) in
    record { is = rw (← q.0, n) })
    (λ c. no_gift _ _ vs p (rw (a, b, c) at e)))
    (λ b. no_gift _ _ vs p (rw (a, b) at e)))
    (λ a. no_gift _ _ vs p (rw a at e))

bodied_three : (o : Outcome) (vs p : List ℕ) → bodied o ≡ gives vs p → Three vs p
bodied_three (gives ws body) vs p e = judged_three body vs p e
bodied_three (refuses n ws) vs p e = no_gift n ws vs p e

unpacked_three : (w vs p : List ℕ) → unpack_of w ≡ gives vs p → Three vs p
unfolding unpack_of
unpacked_three w vs p e =
    split_b (leb 9 (length w))
    (λ a. split_b (eqb (get_or w 0 0) 0x3E)
    (λ b. split_b (eqb (get_or w (length w - 1) 0) 0x3C)
    (λ c. bodied_three (unescape (take (length w - 2) (drop 1 w))) vs p (rw (a, b, c) at e))
    (λ c. no_gift _ _ vs p (rw (a, b, c) at e)))
    (λ b. no_gift _ _ vs p (rw (a, b) at e)))
    (λ a. no_gift _ _ vs p (rw a at e))

-- ---- a refusal of unpacking carries two values at most

no_three : {G : Type 0} (u : UnpackError) (a b c d : ℕ) → told_error u ≡ accepted (a ∷ b ∷ c ∷ d ∷ []) → G
no_three unpacking.TooShort a b c d e = let z : ◌≡◌ {A = ℕ} 0 1 = cc in absurd (omega arith)
no_three unpacking.NoStart a b c d e = let z : ◌≡◌ {A = ℕ} 0 1 = cc in absurd (omega arith)
no_three unpacking.NoEnd a b c d e = let z : ◌≡◌ {A = ℕ} 0 1 = cc in absurd (omega arith)
no_three unpacking.TrailingSentry a b c d e = let z : ◌≡◌ {A = ℕ} 0 1 = cc in absurd (omega arith)
no_three (unpacking.BadEscapee x) a b c d e = let z : ◌≡◌ {A = ℕ} 0 1 = cc in absurd (omega arith)
no_three unpacking.BodyTooShort a b c d e = let z : ◌≡◌ {A = ℕ} 0 1 = cc in absurd (omega arith)
no_three (unpacking.LengthMismatch x y) a b c d e = let z : ◌≡◌ {A = ℕ} 0 1 = cc in absurd (omega arith)
no_three (unpacking.BadChecksum x y) a b c d e = let z : ◌≡◌ {A = ℕ} 0 1 = cc in absurd (omega arith)
no_three (unpacking.OutShort x) a b c d e = let z : ◌≡◌ {A = ℕ} 0 1 = cc in absurd (omega arith)

-- ---- what a look at a wire answers, of any outcome with three values

module _ (o : Outcome) (three : (vs p : List ℕ) → o ≡ gives vs p → Three vs p) where
  four : (vs p : List ℕ) → o ≡ gives vs p → glance o ≡ accepted (get_or vs 0 0 ∷ get_or vs 1 0 ∷ length p ∷ get_or p 0 0 ∷ [])
  unfolding glance
  four vs p e = rw e (ap (λ (l : List ℕ). accepted (l ++ (get_or p 0 0 ∷ []))) (three vs p e).is)

seen_by : (f : Frame) (o : Outcome) → ((vs p : List ℕ) → o ≡ gives vs p → Three vs p) → accepted (f.kind ∷ f.seq ∷ f.size ∷ f.first ∷ []) ≡ glance o → look_of o ≡ Some f
unfolding glance
seen_by f (gives vs p) three e =
    let r : accepted (f.kind ∷ f.seq ∷ f.size ∷ f.first ∷ []) ≡ accepted (get_or vs 0 0 ∷ get_or vs 1 0 ∷ length p ∷ get_or p 0 0 ∷ []) = e ∙ four (gives vs p) three vs p refl in
    let x : get_or vs 0 0 ≡ f.kind = cc in
    let y : get_or vs 1 0 ≡ f.seq = cc in
    let z : length p ≡ f.size = cc in
    let w : get_or p 0 0 ≡ f.first = cc in
    rw (x, y, z, w)
seen_by f (refuses m vs) three e = let z : ◌≡◌ {A = ℕ} 0 1 = cc in absurd (omega arith)

unseen_by : (u : UnpackError) (o : Outcome) → ((vs p : List ℕ) → o ≡ gives vs p → Three vs p) → told_error u ≡ glance o → look_of o ≡ None
unfolding glance
unseen_by u (gives vs p) three e = no_three u (get_or vs 0 0) (get_or vs 1 0) (length p) (get_or p 0 0) (e ∙ four (gives vs p) three vs p refl)
unseen_by u (refuses n vs) three e = refl

refused_by : (ms counter rx : ℕ) (d : List ℕ) (u : UnpackError) (o : Outcome) → look_of o ≡ None → told_error u ≡ glance o → Meets (named ms counter rx o) d (told_error u) d
unfolding glance
refused_by ms counter rx d u (gives vs p) l e = let z : ◌≡◌ {A = ℕ} 0 1 = cc in absurd (omega arith)
refused_by ms counter rx d u (refuses n vs) l e = rw e (meets_refused (refuses n vs) d n vs refl)

module _ (wire : List ℕ) where
  pub looks : (x : Result Frame UnpackError) → told_inspected x ≡ glance (unpack_of wire) → result_ok x ≡ look_at wire
  unfolding look_at
  looks (Ok f) i = sym (seen_by f (unpack_of wire) (unpacked_three wire) i)
  looks (Err u) i = sym (unseen_by u (unpack_of wire) (unpacked_three wire) i)

  module _ (ms counter rx : ℕ) (d : List ℕ) where
    pub unsound : (u : UnpackError) → told_error u ≡ glance (unpack_of wire) → Meets (fixture_name ms counter rx wire) d (told_error u) d
    unfolding fixture_name
    unsound u i = refused_by ms counter rx d u (unpack_of wire) (unseen_by u (unpack_of wire) (unpacked_three wire) i) i

    pub sound : (f : Frame) (a : Result ℕ UnpackError) (e : List ℕ) → told_inspected (Ok f) ≡ glance (unpack_of wire) → Meets (given (frame_name ms counter rx f)) d (told_named a) e → Meets (fixture_name ms counter rx wire) d (told_named a) e
    sound f a e i m = meets_as _ _ d (fixture_seen ms counter rx wire f (sym (looks (Ok f) i))) m

-- ---- the output's length, and the name

module _ (ms counter rx : ℕ) (f : Frame) (d : List ℕ) (n : ℕ) (l : NameLen ms counter f n) where
  name_is : n ≡ length (frame_name ms counter rx f)
  name_is = l.is ∙ sym (length_frame_name ms counter rx f)

  pub name_short : length d < n → Meets (given (frame_name ms counter rx f)) d (refused 7 (n ∷ [])) d
  name_short h = meets_short (given (frame_name ms counter rx f)) d (length (frame_name ms counter rx f) ∷ []) (frame_name ms counter rx f) n refl name_is h

  pub name_wrote : (r : ℕ) (e : List ℕ) → n ≤ length d → Writes d 0 (frame_name ms counter rx f) r e → Meets (given (frame_name ms counter rx f)) d (accepted (n ∷ [])) e
  name_wrote r e h w =
      rw name_is
      (meets_wrote (given (frame_name ms counter rx f)) d (length (frame_name ms counter rx f) ∷ []) (frame_name ms counter rx f) r e refl (omega (arith, name_is)) w)
