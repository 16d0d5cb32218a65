-- What reading the header answers.
use Rattle.std.specs.Prelude.{Option, Some, None, Result, Ok, Err, ok_or}
use Rattle.std.specs.Result.{result_ok}
use Prim.Native.Nat.{ℕ, ◌+◌, ◌*◌, ◌<◌, ◌≤◌}
use mathlib.Core.Path.{◌≡◌, refl, sym, ap, ◌∙◌}
use mathlib.Core.Bool.{Bool, true, false}
use mathlib.Core.List.{List, [], ◌∷◌}
use native.Mathlib.Omega.{arith}
use lib.ListN.{length, get_or, take}
use lib.Dec.{leb}
use borrow.Author.Tests.{le-leb, lt-leb, leb-true, eq-eqb, ne_eqb}
use Rattle.laws.proofs.Choice.{split_b, no_way}
use Rattle.laws.specs.Keys.{eq_k}
use Rattle.laws.proofs.Keys.{ne_eq_k}
use Rattle.laws.specs.Numbers.{le32, be32}
use Rattle.pcap.specs.Header.{big_micro, little_micro, big_nano, little_nano, is_big, is_little, is_nano, is_pcap, number, link_of, is_link}
use Rattle.pcap.specs.declared.Encoding.{Encoding}
use Rattle.pcap.specs.declared.HeaderError.{HeaderError}
use Rattle.pcap.specs.declared.HeaderError.TheVariants.{NotPcap, LinkType}
use Rattle.pcap.specs.Headers.{encoding_of, header_of}

-- ---- the magic

not_there : ◌≡◌ {A = ℕ} 0 1 → ⊥
not_there z = omega arith

-- the four bytes of the magic, and the number that they are
magic_is : (f : List ℕ) (a b c d : ℕ) → 4 ≤ length f → ((i : ℕ) → get_or f i 0 < 256) → b < 256 → c < 256 → d < 256 → be32 f 0 ≡ 16777216 * a + 65536 * b + 256 * c + d → take 4 f ≡ a ∷ b ∷ c ∷ d ∷ []
unfolding be32
magic_is [] a b c d h s p q r e = absurd (omega arith)
magic_is (x ∷ []) a b c d h s p q r e = absurd (omega arith)
magic_is (x ∷ y ∷ []) a b c d h s p q r e = absurd (omega arith)
magic_is (x ∷ y ∷ z ∷ []) a b c d h s p q r e = absurd (omega arith)
magic_is (x ∷ y ∷ z ∷ v ∷ l) a b c d h s p q r e =
    let sy : y < 256 = s 1 in
    let sz : z < 256 = s 2 in
    let sv : v < 256 = s 3 in
    let k : 16777216 * x + 65536 * y + 256 * z + v ≡ 16777216 * a + 65536 * b + 256 * c + d = e in
    let ex : x ≡ a = omega arith in
    let ey : y ≡ b = omega arith in
    let ez : z ≡ c = omega arith in
    let ev : v ≡ d = omega arith in
    rw (ex, ey, ez, ev)

magic_number : (f : List ℕ) (a b c d : ℕ) → take 4 f ≡ a ∷ b ∷ c ∷ d ∷ [] → be32 f 0 ≡ 16777216 * a + 65536 * b + 256 * c + d
unfolding be32
magic_number [] a b c d e = absurd (not_there cc)
magic_number (x ∷ []) a b c d e = absurd (not_there cc)
magic_number (x ∷ y ∷ []) a b c d e = absurd (not_there cc)
magic_number (x ∷ y ∷ z ∷ []) a b c d e = absurd (not_there cc)
magic_number (x ∷ y ∷ z ∷ v ∷ l) a b c d e =
    let ex : x ≡ a = cc in
    let ey : y ≡ b = cc in
    let ez : z ≡ c = cc in
    let ev : v ≡ d = cc in
    rw (ex, ey, ez, ev)

-- how numbers are written, by the magic
module _ (f : List ℕ) where
  pub encoding_short : length f < 24 → None ≡ encoding_of f
  unfolding encoding_of is_pcap
  encoding_short h = rw (lt-leb 24 (length f) h)

  module _ (h : 24 ≤ length f) where
    module _ (n : ℕ) (e : n ≡ be32 f 0) where
      module _ (s : (i : ℕ) → get_or f i 0 < 256) where
        pub big_micro_is : n ≡ 0xA1B2C3D4 → Some (record { big = true; nano = false }) ≡ encoding_of f
        unfolding encoding_of is_pcap is_big is_little is_nano eq_k
        big_micro_is q = rw (le-leb 24 (length f) h, magic_is f 0xA1 0xB2 0xC3 0xD4 (omega arith) s (omega arith) (omega arith) (omega arith) (sym e ∙ q))

        pub big_nano_is : n ≡ 0xA1B23C4D → Some (record { big = true; nano = true }) ≡ encoding_of f
        unfolding encoding_of is_pcap is_big is_little is_nano eq_k
        big_nano_is q = rw (le-leb 24 (length f) h, magic_is f 0xA1 0xB2 0x3C 0x4D (omega arith) s (omega arith) (omega arith) (omega arith) (sym e ∙ q))

        pub little_micro_is : n ≡ 0xD4C3B2A1 → Some (record { big = false; nano = false }) ≡ encoding_of f
        unfolding encoding_of is_pcap is_big is_little is_nano eq_k
        little_micro_is q = rw (le-leb 24 (length f) h, magic_is f 0xD4 0xC3 0xB2 0xA1 (omega arith) s (omega arith) (omega arith) (omega arith) (sym e ∙ q))

        pub little_nano_is : n ≡ 0x4D3CB2A1 → Some (record { big = false; nano = true }) ≡ encoding_of f
        unfolding encoding_of is_pcap is_big is_little is_nano eq_k
        little_nano_is q = rw (le-leb 24 (length f) h, magic_is f 0x4D 0x3C 0xB2 0xA1 (omega arith) s (omega arith) (omega arith) (omega arith) (sym e ∙ q))

      pub no_magic : (n ≡ 0xA1B2C3D4 → ⊥) → (n ≡ 0xA1B23C4D → ⊥) → (n ≡ 0xD4C3B2A1 → ⊥) → (n ≡ 0x4D3CB2A1 → ⊥) → None ≡ encoding_of f
      unfolding encoding_of is_pcap is_big is_little
      no_magic a b c d =
          rw (
            le-leb 24 (length f) h,
            ne_eq_k (take 4 f) big_micro (λ q. a (e ∙ magic_number f 0xA1 0xB2 0xC3 0xD4 q)),
            ne_eq_k (take 4 f) big_nano (λ q. b (e ∙ magic_number f 0xA1 0xB2 0x3C 0x4D q)),
            ne_eq_k (take 4 f) little_micro (λ q. c (e ∙ magic_number f 0xD4 0xC3 0xB2 0xA1 q)),
            ne_eq_k (take 4 f) little_nano (λ q. d (e ∙ magic_number f 0x4D 0x3C 0xB2 0xA1 q)),
          )

  -- a file that begins as it should has its 24 bytes
  pub begins_long : is_pcap f ≡ true → 24 ≤ length f
  unfolding is_pcap
  begins_long e = split_b (leb 24 (length f)) (λ q. leb-true 24 (length f) q) (λ q. no_way (rw q at e) refl)

-- ---- numbers by the byte order

module _ (big : Bool) (f : List ℕ) (i n : ℕ) where
  pub number_big : big ≡ true → n ≡ be32 f i → n ≡ number big f i
  unfolding number
  number_big q e = rw q e

  pub number_little : big ≡ false → n ≡ le32 f i → n ≡ number big f i
  unfolding number
  number_little q e = rw q e

-- ---- the header

-- what an answer says of a file
pub encoding_none : (f : List ℕ) → encoding_of f ≡ None → is_pcap f ≡ false
unfolding encoding_of
encoding_none f e = split_b (is_pcap f) (λ a. let q = rw a at e in let z : ◌≡◌ {A = ℕ} 0 1 = cc in absurd (omega arith)) (λ a. a)

pub encoding_some : (f : List ℕ) (x : Encoding) → encoding_of f ≡ Some x → (is_pcap f ≡ true) × (x ≡ record { big = is_big f; nano = is_nano f })
unfolding encoding_of
encoding_some f x e =
    split_b (is_pcap f)
    (λ a. let q = rw a at e in (a, (let z : x ≡ record { big = is_big f; nano = is_nano f } = cc in z)))
    (λ a. let q = rw a at e in let z : ◌≡◌ {A = ℕ} 0 1 = cc in absurd (omega arith))

module _ (f : List ℕ) (o : Option Encoding) (eo : o ≡ encoding_of f) (r : Result Encoding HeaderError) (v : r ≡ ok_or o NotPcap) (p : o ≡ result_ok r) where
  pub header_not : (e : HeaderError) → r ≡ Err e → Err e ≡ header_of f
  unfolding header_of
  header_not e q = let n : o ≡ None = p ∙ ap result_ok q in sym q ∙ v ∙ rw (n, encoding_none f (sym eo ∙ n))

  module _ (x : Encoding) (q : r ≡ Ok x) where
    there : (is_pcap f ≡ true) × (x ≡ record { big = is_big f; nano = is_nano f })
    there = encoding_some f x (sym eo ∙ p ∙ ap result_ok q)

    pub header_room : 24 ≤ length f
    header_room = begins_long f there.0

    module _ (n : ℕ) (m : n ≡ number x.big f 20) where
      link_is : link_of f ≡ n
      unfolding link_of
      link_is = let e = there.1 in rw e at (sym m)

      pub header_read : n ≡ 201 → Ok x ≡ header_of f
      unfolding header_of is_link
      header_read z = let e = there in rw (e.0, link_is, eq-eqb n 201 z, e.1)

      pub header_other : (n ≡ 201 → ⊥) → Err (LinkType n) ≡ header_of f
      unfolding header_of is_link
      header_other z = let e = there in rw (e.0, link_is, ne_eqb n 201 z)

-- ---- what a header that was read tells

pub no_header : (f : List ℕ) → header_of f ≡ Err NotPcap → is_pcap f ≡ false
unfolding header_of
no_header f e =
    split_b (is_pcap f)
    (λ a. split_b (is_link (link_of f))
    (λ b. let q = rw (a, b) at e in let z : ◌≡◌ {A = ℕ} 0 1 = cc in absurd (omega arith))
    (λ b. let q = rw (a, b) at e in let z : ◌≡◌ {A = ℕ} 0 1 = cc in absurd (omega arith)))
    (λ a. a)

pub other_link : (f : List ℕ) (n : ℕ) → header_of f ≡ Err (LinkType n) → (is_pcap f ≡ true) × (is_link (link_of f) ≡ false) × (n ≡ link_of f)
unfolding header_of
other_link f n e =
    split_b (is_pcap f)
    (λ a. split_b (is_link (link_of f))
    (λ b. let q = rw (a, b) at e in let z : ◌≡◌ {A = ℕ} 0 1 = cc in absurd (omega arith))
    (λ b. let q = rw (a, b) at e in (a, b, (let z : n ≡ link_of f = cc in z))))
    (λ a. let q = rw a at e in let z : ◌≡◌ {A = ℕ} 0 1 = cc in absurd (omega arith))

pub known_link : (f : List ℕ) (x : Encoding) → header_of f ≡ Ok x → (is_pcap f ≡ true) × (is_link (link_of f) ≡ true) × (x ≡ record { big = is_big f; nano = is_nano f })
unfolding header_of
known_link f x e =
    split_b (is_pcap f)
    (λ a. split_b (is_link (link_of f))
    (λ b. let q = rw (a, b) at e in (a, b, (let z : x ≡ record { big = is_big f; nano = is_nano f } = cc in z)))
    (λ b. let q = rw (a, b) at e in let z : ◌≡◌ {A = ℕ} 0 1 = cc in absurd (omega arith)))
    (λ a. let q = rw a at e in let z : ◌≡◌ {A = ℕ} 0 1 = cc in absurd (omega arith))
