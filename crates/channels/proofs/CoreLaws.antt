-- Laws of specs/CoreLaws.
use mathlib.Core.Path.{◌≡◌, refl, ◌∙◌}
use mathlib.Core.Bool.{Bool, true, false, cond, ◌||◌}
use mathlib.Core.List.{List, [], ◌∷◌, ◌++◌, append_assoc, append-nil, reverse_aux}
use mathlib.Core.Option.{Option, none, some}
use Rattle.laws.proofs.Choice.{split_b, no_way}
use Rattle.laws.specs.Keys.{Key, eq_k}
use Rattle.laws.proofs.Keys.{eq_eq_k}
use Rattle.l2cap.specs.Pdus.{Pdu}
use Rattle.channels.specs.Channels.{any}
use Rattle.channels.specs.Core.{CoreSignal, connects, succeeds, disconnects, pdu_core_signals, core_signals, Event, latest, both_hold, events_of, events_after, events, holds_after, holds}
use Rattle.channels.specs.CoreLaws.{asks_as, ends_of, Between}

-- ---- in two parts

pub core_append : (a b : List Pdu) → core_signals (a ++ b) ≡ core_signals a ++ core_signals b
unfolding core_signals
core_append [] b = refl
core_append (p ∷ a) b = rw (core_append a b, append_assoc)

pub events_append : (earlier a b : List CoreSignal) → events_after earlier (a ++ b) ≡ events_after earlier a ++ events_after (reverse_aux a earlier) b
unfolding events_after
events_append earlier [] b = refl
events_append earlier (s ∷ a) b = rw (events_append (s ∷ earlier) a b, append_assoc)

pub holds_append : (held : Bool) (a b : List Event) (t : Key) → holds_after held (a ++ b) t ≡ holds_after (holds_after held a t) b t
unfolding holds_after
holds_append held [] b t = refl
holds_append held (e ∷ a) b t = holds_append (cond (eq_k t e.channel) e.holding held) a b t

-- one PDU more: what held before it, and the events of its own commands, by the requests before
pub holds_next : (a : List Pdu) (p : Pdu) (t : Key) → holds (a ++ (p ∷ [])) t ≡ holds_after (holds a t) (events_after (reverse_aux (core_signals a) []) (pdu_core_signals p)) t
unfolding holds events core_signals
holds_next a p t =
    rw (core_append a (p ∷ []), append-nil (pdu_core_signals p), events_append [] (core_signals a) (pdu_core_signals p))
    (holds_append false (events_after [] (core_signals a)) (events_after (reverse_aux (core_signals a) []) (pdu_core_signals p)) t)

latest_next : (k : Key) (s : CoreSignal) (earlier : List CoreSignal) → asks_as k s ≡ false → latest k (s ∷ earlier) ≡ latest k earlier
unfolding latest asks_as
latest_next k (connects j psm source) earlier h = rw h
latest_next k (succeeds j destination) earlier h = refl
latest_next k (disconnects destination source) earlier h = refl

pub or_left : (a b : Bool) → a || b ≡ false → a ≡ false
or_left true b e = e
or_left false b e = refl

pub or_right : (a b : Bool) → a || b ≡ false → b ≡ false
or_right true b e = no_way refl e
or_right false b e = e

pub latest_stays : (k : Key) (b earlier : List CoreSignal) → any (asks_as k) b ≡ false → latest k (reverse_aux b earlier) ≡ latest k earlier
unfolding any
latest_stays k [] earlier h = refl
latest_stays k (s ∷ b) earlier h = latest_stays k b (s ∷ earlier) (or_right (asks_as k s) (any (asks_as k) b) h) ∙ latest_next k s earlier (or_left (asks_as k s) (any (asks_as k) b) h)

hold_more : (o : Option Key) (destination : Key) (es : List Event) (t : Key) → holds_after true (both_hold o destination ++ es) t ≡ holds_after true es t
unfolding both_hold holds_after
hold_more none destination es t = refl
hold_more (some source) destination es t = split_b (eq_k t source) (λ a. split_b (eq_k t destination) (λ b. rw (a, b)) (λ b. rw (a, b))) (λ a. split_b (eq_k t destination) (λ b. rw (a, b)) (λ b. rw (a, b)))

signal_stays : (t : Key) (earlier : List CoreSignal) (s : CoreSignal) (es : List Event) → ends_of t s ≡ false → holds_after true (events_of earlier s ++ es) t ≡ holds_after true es t
unfolding events_of ends_of holds_after
signal_stays t earlier (connects k psm source) es h = refl
signal_stays t earlier (succeeds k destination) es h = hold_more (latest k earlier) destination es t
signal_stays t earlier (disconnects destination source) es h = rw (or_left (eq_k t destination) (eq_k t source) h, or_right (eq_k t destination) (eq_k t source) h)

pub stays_held : (t : Key) (earlier c : List CoreSignal) → any (ends_of t) c ≡ false → holds_after true (events_after earlier c) t ≡ true
unfolding any events_after holds_after
stays_held t earlier [] h = refl
stays_held t earlier (s ∷ c) h = signal_stays t earlier s (events_after (s ∷ earlier) c) (or_left (ends_of t s) (any (ends_of t) c) h) ∙ stays_held t (s ∷ earlier) c (or_right (ends_of t s) (any (ends_of t) c) h)

-- both channels hold after a success
both_after : (held : Bool) (source destination t : Key) (es : List Event) → eq_k t source || eq_k t destination ≡ true → holds_after held (both_hold (some source) destination ++ es) t ≡ holds_after true es t
unfolding both_hold holds_after
both_after held source destination t es h =
    split_b (eq_k t source)
    (λ a. split_b (eq_k t destination) (λ b. rw (a, b)) (λ b. rw (a, b)))
    (λ a. split_b (eq_k t destination) (λ b. rw (a, b)) (λ b. no_way (rw (a, b) at h) refl))

pub between_holds : (ps : List Pdu) (t : Key) → Between (core_signals ps) t → holds ps t ≡ true
unfolding holds events events_after events_of latest
between_holds ps t w =
    let k : Key = w.request in
    let r : CoreSignal = connects k 3 w.source in
    let g : CoreSignal = succeeds k w.destination in
    let e₁ : List CoreSignal = r ∷ reverse_aux w.a [] in
    let e₂ : List CoreSignal = reverse_aux w.b e₁ in
    let la : latest k e₂ ≡ some w.source = latest_stays k w.b e₁ w.latest ∙ rw (eq_eq_k k k refl) in
    rw (
      w.are,
      events_append [] w.a (r ∷ (w.b ++ g ∷ w.c)),
      holds_append false (events_after [] w.a) (events_after (reverse_aux w.a []) (r ∷ (w.b ++ g ∷ w.c))) t,
      events_append e₁ w.b (g ∷ w.c),
      holds_append (holds_after false (events_after [] w.a) t) (events_after e₁ w.b) (events_after e₂ (g ∷ w.c)) t,
      la,
    )
    (both_after (holds_after (holds_after false (events_after [] w.a) t) (events_after e₁ w.b) t) w.source w.destination t (events_after (g ∷ e₂) w.c) w.one ∙ stays_held t (g ∷ e₂) w.c w.unended)
