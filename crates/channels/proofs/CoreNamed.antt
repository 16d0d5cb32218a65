-- What holds is named: so a PDU's verdict by Bluetooth Core's rule is what holds where its channel is named, and a guess where it is not.
use Prim.Native.Nat.{ℕ}
use mathlib.Core.Path.{◌≡◌, refl, ◌∙◌}
use mathlib.Core.Bool.{Bool, false, cond, ◌&&◌}
use mathlib.Core.List.{List, [], ◌∷◌, ◌++◌}
use mathlib.Core.Option.{Option, none, some}
use native.Mathlib.Omega.{arith}
use lib.ListN.{length}
use lib.Dec.{leb, eqb}
use Rattle.laws.proofs.Choice.{split_b}
use Rattle.laws.specs.Keys.{Key, eq_k}
use Rattle.laws.specs.Numbers.{le16}
use Rattle.l2cap.specs.Pdus.{Pdu}
use Rattle.channels.specs.Signals.{commands, code, body, signal_of, signals_in, pdu_signals, signals}
use Rattle.channels.specs.Channels.{any, names, named, channel_of}
use Rattle.channels.specs.Core.{CoreSignal, connects, succeeds, disconnects, core_signal_of, core_signals_in, pdu_core_signals, core_signals, Event, latest, both_hold, events_of, events_after, events, holds_after, holds}
use Rattle.channels.specs.Tried.{core, tried_by}
use Rattle.channels.proofs.CoreLaws.{or_left, or_right}

-- the channel of a request's source or of a success's destination
unfoldable core_names : Key → CoreSignal → Bool
core_names t (connects k psm source) = eq_k t source
core_names t (succeeds k destination) = eq_k t destination
core_names t (disconnects destination source) = false

any_append : {A : Type 0} (f : A → Bool) (a b : List A) → any f a ≡ false → any f b ≡ false → any f (a ++ b) ≡ false
unfolding any
any_append f [] b p q = q
any_append f (x ∷ a) b p q = rw (or_left (f x) (any f a) p, any_append f a b (or_right (f x) (any f a) p) q)

any_left : {A : Type 0} (f : A → Bool) (a b : List A) → any f (a ++ b) ≡ false → any f a ≡ false
unfolding any
any_left f [] b p = refl
any_left f (x ∷ a) b p = rw (or_left (f x) (any f (a ++ b)) p, any_left f a b (or_right (f x) (any f (a ++ b)) p))

any_right : {A : Type 0} (f : A → Bool) (a b : List A) → any f (a ++ b) ≡ false → any f b ≡ false
unfolding any
any_right f [] b p = p
any_right f (x ∷ a) b p = any_right f a b (or_right (f x) (any f (a ++ b)) p)

-- ---- a command that names nothing as document 01 reads it names nothing here

module _ (t : Key) where
  command_names : (link rx : ℕ) (c : List ℕ) → any (names t) (signal_of link rx c) ≡ false → any (core_names t) (core_signal_of link rx c) ≡ false
  unfolding any names core_names signal_of core_signal_of
  command_names link rx c h =
      split_b (leb 4 (length (body c)))
      (λ a. split_b (eqb (code c) 0x02)
      (λ b. rw (a, b) (rw (a, b) at h))
      (λ b. split_b (eqb (code c) 0x03)
      (λ d. split_b (leb 6 (length (body c)) && eqb (le16 (body c) 4) 0)
      (λ e. rw (a, b, d, e) (rw (a, b, d) at h))
      (λ e. split_b (eqb (code c) 0x07) (λ g. rw (a, b, d, e, g)) (λ g. rw (a, b, d, e, g))))
      (λ d. split_b (eqb (code c) 0x07) (λ g. rw (a, b, d, g)) (λ g. rw (a, b, d, g)))))
      (λ a. rw a)

  commands_name : (link rx : ℕ) (cs : List (List ℕ)) → any (names t) (signals_in link rx cs) ≡ false → any (core_names t) (core_signals_in link rx cs) ≡ false
  unfolding signals_in core_signals_in any
  commands_name link rx [] h = refl
  commands_name link rx (c ∷ cs) h =
      any_append (core_names t) (core_signal_of link rx c) (core_signals_in link rx cs)
      (command_names link rx c (any_left (names t) (signal_of link rx c) (signals_in link rx cs) h))
      (commands_name link rx cs (any_right (names t) (signal_of link rx c) (signals_in link rx cs) h))

  pdu_names : (p : Pdu) → any (names t) (pdu_signals p) ≡ false → any (core_names t) (pdu_core_signals p) ≡ false
  unfolding pdu_signals pdu_core_signals any
  pdu_names p h =
      split_b (eqb p.cid 1)
      (λ e. rw e (commands_name p.link p.rx (commands p.payload) (rw e at h)))
      (λ e. rw e)

  pdus_name : (ps : List Pdu) → any (names t) (signals ps) ≡ false → any (core_names t) (core_signals ps) ≡ false
  unfolding signals core_signals any
  pdus_name [] h = refl
  pdus_name (p ∷ ps) h =
      any_append (core_names t) (pdu_core_signals p) (core_signals ps)
      (pdu_names p (any_left (names t) (pdu_signals p) (signals ps) h))
      (pdus_name ps (any_right (names t) (pdu_signals p) (signals ps) h))

  -- ---- and what is not named does not hold

  latest_not : (k source : Key) (earlier : List CoreSignal) → any (core_names t) earlier ≡ false → latest k earlier ≡ some source → eq_k t source ≡ false
  unfolding any core_names latest
  latest_not k source [] h e = none_some e
    where
      none_some : {G : Type 0} → ◌≡◌ {A = Option Key} none (some source) → G
      none_some q = let z : ◌≡◌ {A = ℕ} 0 1 = cc in absurd (omega arith)
  latest_not k source (connects j psm s ∷ earlier) h e =
      split_b (eq_k k j)
      (λ a. split_b (eqb psm 3)
      (λ b. let z : s ≡ source = some_eq (rw (a, b) at e) in rw z at (or_left (eq_k t s) (any (core_names t) earlier) h))
      (λ b. none_some (rw (a, b) at e)))
      (λ a. latest_not k source earlier (or_right (eq_k t s) (any (core_names t) earlier) h) (rw a at e))
    where
      none_some : {G : Type 0} → ◌≡◌ {A = Option Key} none (some source) → G
      none_some q = let z : ◌≡◌ {A = ℕ} 0 1 = cc in absurd (omega arith)

      some_eq : ◌≡◌ {A = Option Key} (some s) (some source) → s ≡ source
      some_eq q = cc
  latest_not k source (succeeds j d ∷ earlier) h e = latest_not k source earlier (or_right (eq_k t d) (any (core_names t) earlier) h) e
  latest_not k source (disconnects d s ∷ earlier) h e = latest_not k source earlier h e

  both_not : (o : Option Key) (destination : Key) (es : List Event) → ((source : Key) → o ≡ some source → eq_k t source ≡ false) → eq_k t destination ≡ false → holds_after false (both_hold o destination ++ es) t ≡ holds_after false es t
  unfolding both_hold holds_after
  both_not none destination es f h = refl
  both_not (some source) destination es f h = rw (f source refl, h)

  signal_not : (earlier : List CoreSignal) (s : CoreSignal) (es : List Event) → any (core_names t) earlier ≡ false → core_names t s ≡ false → holds_after false (events_of earlier s ++ es) t ≡ holds_after false es t
  unfolding events_of core_names holds_after
  signal_not earlier (connects k psm source) es h g = refl
  signal_not earlier (succeeds k destination) es h g = both_not (latest k earlier) destination es (λ source e. latest_not k source earlier h e) g
  signal_not earlier (disconnects d s) es h g = split_b (eq_k t d) (λ a. split_b (eq_k t s) (λ b. rw (a, b)) (λ b. rw (a, b))) (λ a. split_b (eq_k t s) (λ b. rw (a, b)) (λ b. rw (a, b)))

  never_held : (earlier ss : List CoreSignal) → any (core_names t) earlier ≡ false → any (core_names t) ss ≡ false → holds_after false (events_after earlier ss) t ≡ false
  unfolding any events_after holds_after
  never_held earlier [] h g = refl
  never_held earlier (s ∷ ss) h g =
      let a : core_names t s ≡ false = or_left (core_names t s) (any (core_names t) ss) g in
      signal_not earlier s (events_after (s ∷ earlier) ss) h a ∙ never_held (s ∷ earlier) ss (rw (a, h)) (or_right (core_names t s) (any (core_names t) ss) g)

-- a channel that these PDUs do not name does not hold
pub unnamed_not : (ps : List Pdu) (t : Key) → named (signals ps) t ≡ false → holds ps t ≡ false
unfolding named holds events any
unnamed_not ps t h = never_held t [] (core_signals ps) refl (pdus_name t ps h)

signals_append : (a b : List Pdu) (t : Key) → named (signals (a ++ b)) t ≡ false → named (signals a) t ≡ false
unfolding signals named any
signals_append [] b t h = refl
signals_append (p ∷ a) b t h = any_append (names t) (pdu_signals p) (signals a) (any_left (names t) (pdu_signals p) (signals (a ++ b)) h) (signals_append a b t (any_right (names t) (pdu_signals p) (signals (a ++ b)) h))

-- The verdict: what holds, if the file names the channel; else whether the CID is dynamic. One row for each named channel is all that a pass needs.
pub core_verdict : (up_to rest : List Pdu) (p : Pdu) → tried_by core up_to (up_to ++ rest) p ≡ cond (named (signals (up_to ++ rest)) (channel_of p)) (holds up_to (channel_of p)) (leb 0x40 p.cid)
unfolding tried_by
core_verdict up_to rest p =
    split_b (named (signals (up_to ++ rest)) (channel_of p))
    (λ e. split_b (leb 0x40 p.cid) (λ c. split_b (holds up_to (channel_of p)) (λ h. rw (e, c, h)) (λ h. rw (e, c, h))) (λ c. split_b (holds up_to (channel_of p)) (λ h. rw (e, c, h)) (λ h. rw (e, c, h))))
    (λ e. split_b (leb 0x40 p.cid) (λ c. rw (e, c, unnamed_not up_to (channel_of p) (signals_append up_to rest (channel_of p) e))) (λ c. rw (e, c, unnamed_not up_to (channel_of p) (signals_append up_to rest (channel_of p) e))))
