-- Storing the payload, and what unpacking and a look at a wire answer after that.
use Prim.Native.Nat.{ℕ, ◌+◌, ◌<◌, ◌≤◌}
use mathlib.Core.Path.{◌≡◌, refl, sym, ap, ◌∙◌}
use mathlib.Core.Bool.{true}
use mathlib.Core.List.{List, [], ◌∷◌}
use native.Mathlib.Omega.{arith}
use lib.ListN.{length, get_or, take}
use lib.Seq.{sets, length-take-le}
use Rattle.laws.specs.Stores.{Writes}
use Rattle.laws.specs.Answers.{accepted, refused, Outcome, is_given, Meets}
use Rattle.laws.proofs.Answers.{meets_refused, meets_short, meets_wrote}
use Rattle.mdr.specs.Frame.{unpack_of, unpacks_of}
use Rattle.mdr.specs.Told.{told_error, glance}
use Rattle.unescaping.specs.Places.{ahead}
use Rattle.unpacking.specs.Readings.{payload, Reads}
use Rattle.unpacking.specs.declared.head.Head.{Head}
use Rattle.mdr.specs.declared.UnpackError.{UnpackError}
use Rattle.std.specs.Prelude.{Result, Ok, Err, is_ok}
use Rattle.unescaping.proofs.Places.{ahead_most, ahead_bare}

-- ---- the payload

module _ (h : Head) where
  pub payload_long : length (payload h) ≡ h.len
  payload_long = length-take-le h.len (ahead h.part.bytes.now) (omega (arith, h.enough))

  pub payload_cut : h.len ≡ length (take h.len h.part.bytes.now)
  payload_cut = sym (length-take-le h.len h.part.bytes.now (omega (arith, h.enough, ahead_most h.part.bytes.now)))

  pub payload_bare : h.part.bare ≡ true → (d : List ℕ) (r : ℕ) (e : List ℕ) → Writes d 0 (take h.len h.part.bytes.now) r e → e ≡ sets d 0 (payload h)
  payload_bare y d r e w = w.writes ∙ rw (ahead_bare h.part.bytes.now (h.part.unescaped.none y))

-- ---- the answers

module _ (o : Outcome) (u : UnpackError) (v : Reads o (Err u)) where
  pub unpack_refused : (d : List ℕ) → Meets o d (told_error u) d
  unpack_refused d = rw v.is.tells (meets_refused o d v.is.number v.is.values v.is.is)

  pub glance_refused : told_error u ≡ glance o
  unfolding glance
  glance_refused = v.is.tells ∙ sym (ap glance v.is.is)

module _ (o : Outcome) (h : Head) (v : Reads o (Ok h)) where
  pub unpack_short : (d : List ℕ) → length d < h.len → Meets o d (refused 7 (h.len ∷ [])) d
  unpack_short d l = meets_short o d (h.kind ∷ h.seq ∷ h.len ∷ []) (payload h) h.len v.is.given (sym (payload_long h)) l

  pub unpack_wrote : (d : List ℕ) → h.len ≤ length d → (e : List ℕ) → e ≡ sets d 0 (payload h) → Meets o d (accepted (h.kind ∷ h.seq ∷ h.len ∷ [])) e
  unpack_wrote d l e x =
      let m : length (payload h) ≡ h.len = payload_long h in
      meets_wrote o d (h.kind ∷ h.seq ∷ h.len ∷ []) (payload h) (0 + length (payload h)) e v.is.given (omega arith) (record { next = refl; writes = x })

  pub glance_whole : (b : ℕ) → b ≡ get_or (payload h) 0 0 → accepted (h.kind ∷ h.seq ∷ h.len ∷ b ∷ []) ≡ glance o
  unfolding glance
  glance_whole b q = rw (v.is.given, q)

pub unpacks_is : (w : List ℕ) (r : Result Head UnpackError) → Reads (unpack_of w) r → is_ok r ≡ unpacks_of w
unfolding unpacks_of is_given
unpacks_is w (Ok h) v = rw v.is.given
unpacks_is w (Err u) v = rw v.is.is
