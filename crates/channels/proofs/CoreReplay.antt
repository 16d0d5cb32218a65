-- Laws of specs/CoreReplay.
use mathlib.Core.Path.{◌≡◌, refl, sym, ap, ◌∙◌, fun_ext}
use mathlib.Core.Bool.{Bool, false}
use mathlib.Core.List.{List, [], ◌∷◌, ◌++◌, append-nil, reverse_aux, reverse_aux-append}
use mathlib.Core.Option.{Option, none, some}
use Rattle.laws.specs.Keys.{Key}
use Rattle.l2cap.specs.Pdus.{Pdu}
use Rattle.channels.specs.Core.{CoreSignal, connects, succeeds, disconnects, pdu_core_signals, core_signals, latest, both_hold, events_of, events_after, events, holds_after, holds}
use Rattle.channels.proofs.CoreLaws.{core_append, holds_append, holds_next}
use Rattle.channels.specs.CoreReplay.{Known, known, holding, noted, noted_all}

abbrev state_of : List CoreSignal → (Key → Bool) → Known
state_of earlier held = record { asked = λ k. latest k earlier; held = held }

holding_is : (o : Option Key) (destination : Key) (held : Key → Bool) (t : Key) → holding o destination held t ≡ holds_after (held t) (both_hold o destination) t
unfolding both_hold holds_after
holding_is none destination held t = refl
holding_is (some source) destination held t = refl

noted_is : (earlier : List CoreSignal) (held : Key → Bool) (s : CoreSignal) → noted (state_of earlier held) s ≡ state_of (s ∷ earlier) (λ t. holds_after (held t) (events_of earlier s) t)
unfolding noted latest events_of holds_after
noted_is earlier held (connects k psm source) = refl
noted_is earlier held (succeeds k destination) = ap (λ (f : Key → Bool). state_of earlier f) (fun_ext (λ t. holding_is (latest k earlier) destination held t))
noted_is earlier held (disconnects destination source) = refl

noted_all_law : (earlier : List CoreSignal) (held : Key → Bool) (ss : List CoreSignal) → noted_all (state_of earlier held) ss ≡ state_of (reverse_aux ss earlier) (λ t. holds_after (held t) (events_after earlier ss) t)
unfolding noted_all events_after holds_after
noted_all_law earlier held [] = refl
noted_all_law earlier held (s ∷ ss) =
    ap (λ (k : Known). noted_all k ss) (noted_is earlier held s) ∙ noted_all_law (s ∷ earlier) (λ t. holds_after (held t) (events_of earlier s) t) ss
    ∙ ap (λ (f : Key → Bool). state_of (reverse_aux ss (s ∷ earlier)) f) (fun_ext (λ t. sym (holds_append (held t) (events_of earlier s) (events_after (s ∷ earlier) ss) t)))

signals_next : (a : List Pdu) (p : Pdu) → core_signals (a ++ (p ∷ [])) ≡ core_signals a ++ pdu_core_signals p
unfolding core_signals
signals_next a p = core_append a (p ∷ []) ∙ rw (append-nil (pdu_core_signals p))

-- one PDU more
pub known_next : (a : List Pdu) (p : Pdu) → known (a ++ (p ∷ [])) ≡ noted_all (known a) (pdu_core_signals p)
known_next a p =
    let earlier : List CoreSignal = reverse_aux (core_signals a) [] in
    let ss : List CoreSignal = pdu_core_signals p in
    let o : reverse_aux (core_signals (a ++ (p ∷ []))) [] ≡ reverse_aux ss earlier = ap (λ (l : List CoreSignal). reverse_aux l []) (signals_next a p) ∙ reverse_aux-append (core_signals a) ss [] in
    ap (λ (l : List CoreSignal). state_of l (λ t. holds (a ++ (p ∷ [])) t)) o
    ∙ ap (λ (f : Key → Bool). state_of (reverse_aux ss earlier) f) (fun_ext (λ t. holds_next a p t))
    ∙ sym (noted_all_law earlier (λ t. holds a t) ss)

-- and at the start nothing
pub known_none : known [] ≡ record { asked = λ k. none; held = λ t. false }
unfolding core_signals latest holds events events_after holds_after
known_none = refl
