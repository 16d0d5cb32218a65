-- What the code reads in a command, and the commands of a payload.
use mathlib.Core.Logic.{inl, inr}
use Rattle.std.specs.Prelude.{Option, Some, None, MatchOption, IsSome, ◌⊎◌, slice_range}
use Rattle.std.specs.Borrow.{Bor}
use Rattle.std.specs.Iterator.{MakesProgress, item_count}
use Rattle.std.specs.List.{list_any}
use Rattle.std.specs.Option.{option_eq, UnwrapsOrElse}
use Prim.Native.Nat.{ℕ, ◌+◌, ◌-◌, ◌<◌, ◌≤◌, min}
use mathlib.Core.Path.{◌≡◌, refl, sym, ap, ◌∙◌}
use mathlib.Core.Bool.{Bool, true, false, cond, ◌&&◌, ◌||◌, and-true, and-false}
use mathlib.Core.List.{List, [], ◌∷◌, ◌++◌}
use native.Mathlib.Omega.{arith}
use lib.Dec.{leb, eqb}
use lib.ListN.{length, get_or, take, drop, length-take, length-drop, drop_of_length-le}
use lib.Seq.{take_all, take-length, drop-length, length-take-le, drop-drop}
use borrow.Author.Tests.{le-leb, lt-leb, eq-eqb, ne_eqb, eqb-true}
use Rattle.laws.proofs.Choice.{no_way, split≤}
use Rattle.laws.proofs.Chop.{chop_eq}
use Rattle.laws.specs.Numbers.{le16}
use Rattle.words.specs.Fields.{field_of}
use Rattle.words.proofs.Fields.{field_value, field_none}
use Rattle.items.specs.Items.{rx_of}
use Rattle.items.specs.declared.Direction.{Direction}
use Rattle.items.specs.declared.Direction.TheVariants.{Rx, Tx}
use Rattle.channels.specs.Signals.{command_size, is_command, commands, code, body, opposite, signal_of, signals_in}
use Rattle.channels.specs.Channels.{any, asks_rfcomm}
use Rattle.channels.specs.Reading.{command_bytes, commands_left, triple_of, told}
use Rattle.channels.specs.declared.Commands.{Commands}
use Rattle.channels.specs.declared.Signal.TheVariants.{Request, Response}

-- ---- the body of a command

size_is : (c : List ℕ) → command_size c ≡ 4 + le16 c 2
unfolding command_size
size_is c = refl

body_passes : (c : List ℕ) → length c < command_size c → body c ≡ []
unfolding body
body_passes c h = rw (lt-leb (command_size c) (length c) h)

body_whole : (c : List ℕ) → command_size c ≤ length c → body c ≡ take (le16 c 2) (drop 4 c)
unfolding body
body_whole c h = rw (le-leb (command_size c) (length c) h)

pub body_short : (c : List ℕ) → length c < 4 → body c ≡ []
body_short c h = body_passes c (omega (arith, size_is c))

module _ (c : List ℕ) (f : Option ℕ) (p : f ≡ field_of c 2) where
  pub body_missing : f ≡ None → [] ≡ body c
  body_missing q = sym (body_short c (field_none c 2 f p q))

  module _ (x n : ℕ) (q : f ≡ Some x) (e : n ≡ x) where
    body_at : (g : Option (Bor (List ℕ))) → MatchOption g ((4 + n < 4) ⊎ (length c < 4 + n)) (λ y. (4 ≤ 4 + n) × (4 + n ≤ length c) × (y.now ≡ slice_range c 4 (4 + n)) × (length y.now + 4 ≡ 4 + n)) →
        (d : Bor (List ℕ)) → UnwrapsOrElse g (λ y. y.now ≡ []) d → d.now ≡ body c
    body_at None m d u =
        let r : x ≡ le16 c 2 = (field_value c 2 x f p q).1 in
        u ∙ sym (body_passes c (elim m [ inl a ↦ absurd (omega arith) | inr a ↦ omega (arith, size_is c) ]))
    body_at (Some y) m d u =
        let r : x ≡ le16 c 2 = (field_value c 2 x f p q).1 in
        let z : 4 + n - 4 ≡ le16 c 2 = omega arith in
        let k : y.now ≡ take (4 + n - 4) (drop 4 c) = m.2 in
        rw (u, k, z) (sym (body_whole c (omega (arith, size_is c, m.1))))

    pub body_got : (g : Option (Bor (List ℕ))) → MatchOption g ((4 + n < 4) ⊎ (length c < 4 + n)) (λ y. (4 ≤ 4 + n) × (4 + n ≤ length c) × (y.now ≡ slice_range c 4 (4 + n)) × (length y.now + 4 ≡ 4 + n)) × ((4 ≤ 4 + n) × (4 + n ≤ length c) → IsSome g) →
        (d : Bor (List ℕ)) → UnwrapsOrElse g (λ y. y.now ≡ []) d → d.now ≡ body c
    body_got g m d u = body_at g m.0 d u

-- a body of so many bytes has 4 before it
pub body_room : (c : List ℕ) → 0 < length (body c) → 4 + length (body c) ≤ length c
body_room c h =
    split≤ (command_size c) (length c)
    (λ g. omega (arith, ap length (body_whole c g), length-take (le16 c 2) (drop 4 c), length-drop 4 c, size_is c))
    (λ g. let z : length (body c) ≡ 0 = ap length (body_passes c g) in absurd (omega arith))

-- ---- what a command asks and says

pub rx_one : (d : Direction) → rx_of d ≤ 1
unfolding rx_of
rx_one Rx = omega arith
rx_one Tx = omega arith

-- whether a body begins with PSM 3
asked_psm : (b : List ℕ) (f : Option ℕ) → f ≡ field_of b 0 → (r : Bool) → r ≡ option_eq eqb f (Some 3) → r ≡ true → (2 ≤ length b) × (le16 b 0 ≡ 3)
asked_psm b None p r z q = no_way (sym z ∙ q) refl
asked_psm b (Some x) p r z q = let v = field_value b 0 x (Some x) p refl in (v.0, sym v.1 ∙ eqb-true x 3 (sym z ∙ q))

other_psm : (b : List ℕ) (f : Option ℕ) → f ≡ field_of b 0 → (r : Bool) → r ≡ option_eq eqb f (Some 3) → r ≡ false → (leb 2 (length b) && eqb (le16 b 0) 3) ≡ false
other_psm b None p r z q = rw (lt-leb 2 (length b) (field_none b 0 None p refl))
other_psm b (Some x) p r z q = let v = field_value b 0 x (Some x) p refl in rw (← v.1, sym z ∙ q, and-false (leb 2 (length b)))

module _ (c b : List ℕ) (e : b ≡ body c) where
  has_body : 2 ≤ length b → 0 < length c
  has_body h = let g : length b ≡ length (body c) = ap length e in omega (arith, body_room c (omega arith))

  pub some_command : (f : Option ℕ) → f ≡ field_of b 0 → (x : ℕ) → f ≡ Some x → 0 < length c
  some_command f p x q = let h : 0 + 2 ≤ length b = (field_value b 0 x f p q).0 in has_body (omega arith)

  module _ (f : Option ℕ) (p : f ≡ field_of b 0) (r : Bool) (z : r ≡ option_eq eqb f (Some 3)) where
    pub psm_command : r ≡ true → 0 < length c
    psm_command q = has_body (asked_psm b f p r z q).0

    pub asks_other : r ≡ false → r ≡ asks_rfcomm c
    unfolding asks_rfcomm
    asks_other q = q ∙ rw (← e, other_psm b f p r z q, and-false (eqb (code c) 2))

    pub asks_request : r ≡ true → eqb (get_or c 0 0) 2 ≡ asks_rfcomm c
    unfolding asks_rfcomm
    asks_request q = let h = asked_psm b f p r z q in rw (← e, le-leb 2 (length b) h.0, eq-eqb (le16 b 0) 3 h.1, and-true (eqb (code c) 2))

  module _ (link rx : ℕ) where
    says_short : length b < 4 → [] ≡ signal_of link rx c
    unfolding signal_of
    says_short h = rw (← e, lt-leb 4 (length b) h)

    pub says_missing : (f : Option ℕ) → f ≡ field_of b 0 → f ≡ None → told None ≡ signal_of link rx c
    unfolding told
    says_missing f p q = says_short (omega (arith, field_none b 0 f p q))

    module _ (f : Option ℕ) (p : f ≡ field_of b 2) where
      pub says_missing₂ : f ≡ None → told None ≡ signal_of link rx c
      unfolding told
      says_missing₂ q = says_short (omega (arith, field_none b 2 f p q))

      pub says_other : (y : ℕ) → f ≡ Some y → (get_or c 0 0 ≡ 2 → ⊥) → (get_or c 0 0 ≡ 3 → ⊥) → told None ≡ signal_of link rx c
      unfolding told signal_of
      says_other y q m n = rw (← e, le-leb 4 (length b) (field_value b 2 y f p q).0, ne_eqb (get_or c 0 0) 2 m, ne_eqb (get_or c 0 0) 3 n)

  module _ (link : ℕ) (d o : Direction) (k : rx_of o ≡ opposite (rx_of d)) (f g : Option ℕ) (p : f ≡ field_of b 0) (q : g ≡ field_of b 2) (x y : ℕ) (i : f ≡ Some x) (j : g ≡ Some y) where
    pub says_request : get_or c 0 0 ≡ 2 → told (Some (Request (record { link = link; direction = o; cid = y }) x)) ≡ signal_of link (rx_of d) c
    unfolding told signal_of triple_of
    says_request m =
        rw (← e, le-leb 4 (length b) (field_value b 2 y g q j).0, eq-eqb (get_or c 0 0) 2 m, ← (field_value b 0 x f p i).1, ← (field_value b 2 y g q j).1, k)

    pub says_response : (ok : Bool) → ok ≡ (leb 6 (length b) && eqb (le16 b 4) 0) → get_or c 0 0 ≡ 3 → told (Some (Response (record { link = link; direction = o; cid = x }) y ok)) ≡ signal_of link (rx_of d) c
    unfolding told signal_of triple_of
    says_response ok s n =
        let m : get_or c 0 0 ≡ 2 → ⊥ = λ t. omega arith in
        let z : 1 - (1 - rx_of d) ≡ rx_of d = omega (arith, rx_one d) in
        rw (← e, le-leb 4 (length b) (field_value b 2 y g q j).0, ne_eqb (get_or c 0 0) 2 m, eq-eqb (get_or c 0 0) 3 n, ← (field_value b 0 x f p i).1, ← (field_value b 2 y g q j).1, k, z, s)

pub success_is : (b : List ℕ) (f : Option ℕ) → f ≡ field_of b 4 → (r : Bool) → r ≡ option_eq eqb f (Some 0) → r ≡ (leb 6 (length b) && eqb (le16 b 4) 0)
success_is b None p r e = e ∙ rw (lt-leb 6 (length b) (field_none b 4 None p refl))
success_is b (Some x) p r e = e ∙ rw (le-leb 6 (length b) (field_value b 4 x (Some x) p refl).0, (field_value b 4 x (Some x) p refl).1)

-- ---- the first command

module _ (b : List ℕ) (f : Option ℕ) (p : f ≡ field_of b 2) where
  all_bytes : length b ≤ command_size b → length b ≡ length (command_bytes b)
  unfolding command_bytes
  all_bytes h = ap length (sym (take_all (command_size b) b h))

  pub bytes_missing : f ≡ None → length b ≡ length (command_bytes b)
  bytes_missing q = all_bytes (omega (arith, size_is b, field_none b 2 f p q))

  pub bytes_least : (x n : ℕ) → f ≡ Some x → n ≡ x → (m : ℕ) → m ≡ min (4 + n) (length b) → m ≡ length (command_bytes b)
  unfolding command_bytes
  bytes_least x n q e m h =
      let r : x ≡ le16 b 2 = (field_value b 2 x f p q).1 in
      h ∙ rw (e, r, length-take (command_size b) b, size_is b)

none_command : is_command [] ≡ false
unfolding is_command
none_command = refl

size_some : (b : List ℕ) → 0 < command_size b
size_some b = omega (arith, size_is b)

commands_eq : (b : List ℕ) → commands b ≡ cond (is_command b) (command_bytes b ∷ commands (drop (command_size b) b)) []
unfolding commands command_bytes
commands_eq b = chop_eq is_command command_size none_command size_some b

commands_more : (b : List ℕ) → 4 ≤ length b → commands b ≡ command_bytes b ∷ commands (drop (command_size b) b)
unfolding is_command
commands_more b h = rw (le-leb 4 (length b) h) at (commands_eq b)

pub commands_end : (b : List ℕ) → length b < 4 → commands b ≡ []
unfolding is_command
commands_end b h = rw (lt-leb 4 (length b) h) at (commands_eq b)

-- the first n bytes are the first command
module _ (b : List ℕ) (n : ℕ) (e : n ≡ length (command_bytes b)) where
  size_of : (length b ≤ command_size b → n ≡ length b) × (command_size b ≤ length b → n ≡ command_size b)
  unfolding command_bytes
  size_of = (λ h. e ∙ ap length (take_all (command_size b) b h), λ h. e ∙ length-take-le (command_size b) b h)

  pub command_fits : n ≤ length b
  command_fits =
      split≤ (command_size b) (length b)
      (λ h. omega (arith, size_of.1 h))
      (λ h. omega (arith, size_of.0 (omega arith)))

  command_some : 0 < length b → 0 < n
  command_some l =
      split≤ (command_size b) (length b)
      (λ h. omega (arith, size_of.1 h, size_some b))
      (λ h. omega (arith, size_of.0 (omega arith)))

  cut : take n b ≡ command_bytes b
  unfolding command_bytes
  cut =
      split≤ (command_size b) (length b)
      (λ h. rw (size_of.1 h))
      (λ h. rw (size_of.0 (omega arith)) (take-length b ∙ sym (take_all (command_size b) b (omega arith))))

  left : drop n b ≡ drop (command_size b) b
  left =
      split≤ (command_size b) (length b)
      (λ h. rw (size_of.1 h))
      (λ h. rw (size_of.0 (omega arith)) (drop-length b ∙ sym (drop_of_length-le b {i = command_size b} (omega arith))))

  pub first_given : 4 ≤ length b → (c r : List ℕ) → c ≡ take n b → r ≡ drop n b → commands b ≡ c ∷ commands r
  first_given h c r p q = rw (p, q, cut, left) (commands_more b h)

  says_more : 4 ≤ length b → (link rx : ℕ) → signals_in link rx (commands b) ≡ signal_of link rx (take n b) ++ signals_in link rx (commands (drop n b))
  unfolding signals_in
  says_more h link rx = rw (commands_more b h, cut, left)

  says_none : length b < 4 → (link rx : ℕ) → signals_in link rx (commands b) ≡ signal_of link rx (take n b) ++ signals_in link rx (commands (drop n b))
  unfolding signals_in command_bytes signal_of
  says_none h link rx =
      let k : length b ≤ command_size b = omega (arith, size_is b) in
      rw (left, cut, take_all (command_size b) b k, drop_of_length-le b k, commands_end b h, commands_end [] (omega arith), body_short b h)

  says_first : (link rx : ℕ) → signals_in link rx (commands b) ≡ signal_of link rx (take n b) ++ signals_in link rx (commands (drop n b))
  says_first link rx = split≤ 4 (length b) (λ h. says_more h link rx) (λ h. says_none h link rx)

-- the same of a list from a place on
module _ (s : List ℕ) (at n : ℕ) (inside : at < length s) (e : n ≡ length (command_bytes (take (length s - at) (drop at s)))) where
  own : n ≡ length (command_bytes (drop at s))
  own = let r : take (length s - at) (drop at s) ≡ drop at s = take_all (length s - at) (drop at s) (omega (arith, length-drop at s)) in rw r at e

  pub command_within : at + n ≤ length s
  command_within = omega (arith, command_fits (drop at s) n own, length-drop at s)

  pub command_more : at < at + n
  command_more = omega (arith, command_some (drop at s) n own (omega (arith, length-drop at s)))

  pub command_says : (link rx : ℕ) → signals_in link rx (commands (drop at s)) ≡ signal_of link rx (take (at + n - at) (drop at s)) ++ signals_in link rx (commands (drop (at + n) s))
  command_says link rx = let z : at + n - at ≡ n = omega arith in rw (z, ← drop-drop n at s) (says_first (drop at s) n own link rx)

-- ---- the commands of a payload, one after another

pub command_goes : (q : Commands) (c : Bor (List ℕ)) (z : Commands) → commands_left q ≡ c.now ∷ commands_left z → MakesProgress (λ _. Unit {0}) (item_count commands_left) q (Some c) z
command_goes q c z e = record { on = λ _. (tt, tt, omega (arith, ap length e)); keeps = tt; rests = λ _. tt }

pub any_is : {A : Type 0} (f : A → Bool) (l : List A) → list_any f l ≡ any f l
unfolding any
any_is f [] = refl
any_is f (x ∷ xs) = ap (λ b. f x || b) (any_is f xs)
