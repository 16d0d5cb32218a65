-- Laws of specs/Types.
use Prim.Native.Nat.{ℕ}
use mathlib.Core.Path.{◌≡◌, refl, sym}
use mathlib.Core.Bool.{false}
use mathlib.Core.List.{List, [], ◌∷◌}
use lib.Dec.{eqb}
use borrow.Author.Tests.{eqb-true}
use Rattle.laws.proofs.Choice.{split_b, no_way}
use Rattle.laws.specs.Lists.{All, all_nil, all_cons}
use Rattle.mdr.specs.declared.DataType.{DataType}
use Rattle.mdr.specs.declared.DataType.TheVariants.{Data, Ack, DataMcNo1, DataIcd, DataEv, DataMdr, DataCommon, DataMdrNo2, Shot, ShotMcNo1, ShotIcd, ShotEv, ShotMdr, ShotCommon, ShotMdrNo2, Unknown}
use Rattle.mdr.specs.Types.{byte_of, kinds, kind_in, listed_in, type_of, listed, Carried}

-- ---- there and back

byte_of_kind : (b : ℕ) (ts : List DataType) → byte_of (kind_in b ts) ≡ b
byte_of_kind b [] = refl
byte_of_kind b (t ∷ ts) =
    let ih = byte_of_kind b ts in
    split_b (eqb b (byte_of t)) (λ e. rw e (sym (eqb-true b (byte_of t) e))) (λ e. rw e ih)

pub byte_of_type : (b : ℕ) → byte_of (type_of b) ≡ b
unfolding type_of
byte_of_type b = byte_of_kind b kinds

kind_carried : (b : ℕ) (ts : List DataType) → All Carried ts → (listed_in b ts ≡ false → listed b ≡ false) → Carried (kind_in b ts)
kind_carried b [] a f = f refl
kind_carried b (t ∷ ts) (all_cons p ps) f =
    split_b (eqb b (byte_of t)) (λ e. rw e p) (λ e. rw e (kind_carried b ts ps (rw e at f)))

pub type_carried : (b : ℕ) → Carried (type_of b)
unfolding type_of listed
type_carried b =
    kind_carried b kinds
    (all_cons tt (all_cons tt (all_cons tt (all_cons tt (all_cons tt (all_cons tt (all_cons tt (all_cons tt (all_cons tt (all_cons tt (all_cons tt (all_cons tt (all_cons tt (all_cons tt (all_cons tt all_nil)))))))))))))))
    (λ e. e)

kind_unlisted : (b : ℕ) (ts : List DataType) → listed_in b ts ≡ false → kind_in b ts ≡ Unknown b
kind_unlisted b [] e = refl
kind_unlisted b (t ∷ ts) e =
    split_b (eqb b (byte_of t)) (λ q. no_way refl (rw q at e)) (λ q. rw q (kind_unlisted b ts (rw q at e)))

pub type_of_byte : (t : DataType) → Carried t → type_of (byte_of t) ≡ t
unfolding type_of listed
type_of_byte Data c = refl
type_of_byte Ack c = refl
type_of_byte DataMcNo1 c = refl
type_of_byte DataIcd c = refl
type_of_byte DataEv c = refl
type_of_byte DataMdr c = refl
type_of_byte DataCommon c = refl
type_of_byte DataMdrNo2 c = refl
type_of_byte Shot c = refl
type_of_byte ShotMcNo1 c = refl
type_of_byte ShotIcd c = refl
type_of_byte ShotEv c = refl
type_of_byte ShotMdr c = refl
type_of_byte ShotCommon c = refl
type_of_byte ShotMdrNo2 c = refl
type_of_byte (Unknown b) c = kind_unlisted b kinds c
