-- A PDU is tried by the signals of its own link: no other link's signal names its channel or admits it.
use Prim.Native.Nat.{ℕ}
use mathlib.Core.Path.{◌≡◌, refl, sym, ap, ◌∙◌}
use mathlib.Core.Bool.{Bool, true, false, cond, and-false}
use mathlib.Core.List.{List, [], ◌∷◌}
use lib.ListN.{length}
use lib.Dec.{leb, eqb}
use borrow.Author.Tests.{eqb-true, eqb-false}
use Rattle.laws.proofs.Choice.{split_b}
use Rattle.laws.specs.Lists.{All, all_nil, all_cons}
use Rattle.laws.specs.Keys.{Key, eq_k}
use Rattle.laws.proofs.Keys.{ne_eq_k}
use Rattle.laws.specs.Keyed.{keep}
use Rattle.laws.proofs.Keyed.{keep_append}
use Rattle.mdr.proofs.Escaping.{all_append}
use Rattle.cut.proofs.TwoParts.{all_map}
use Rattle.l2cap.specs.Pdus.{Pdu}
use Rattle.channels.specs.Signals.{Signal, request, response, commands, body, code, signal_of, signals_in, pdu_signals, signals}
use Rattle.channels.specs.Channels.{any, names, named, asks_for, admits, admitted_after, admitted, channel_of, is_tried}
use Rattle.links.specs.OfLink.{link_in, pdus_on, is_on, signals_on}

-- what a signal names and what it answers are of one link
data From (h : ℕ) : Signal → Type 0 where
  asking : {k : Key} {psm : ℕ} → link_in k ≡ h → From h (request k psm)
  answering : {k asked : Key} {ok : Bool} → link_in k ≡ h → link_in asked ≡ h → From h (response k asked ok)

record Sound (s : Signal) : Type 0 where
  link : ℕ
  is : From link s

-- ---- the signals of a link's PDUs

signal_from : (h rx : ℕ) (c : List ℕ) → All (From h) (signal_of h rx c)
unfolding signal_of
signal_from h rx c =
    split_b (leb 4 (length (body c)))
    (λ a. split_b (eqb (code c) 0x02)
    (λ b. rw (a, b) (all_cons (asking refl) all_nil))
    (λ b. split_b (eqb (code c) 0x03)
    (λ d. rw (a, b, d) (all_cons (answering refl refl) all_nil))
    (λ d. rw (a, b, d) all_nil)))
    (λ a. rw a all_nil)

signals_from : (h rx : ℕ) (cs : List (List ℕ)) → All (From h) (signals_in h rx cs)
unfolding signals_in
signals_from h rx [] = all_nil
signals_from h rx (c ∷ cs) = all_append (signal_from h rx c) (signals_from h rx cs)

pdu_from : (p : Pdu) → All (From p.link) (pdu_signals p)
unfolding pdu_signals
pdu_from p = split_b (eqb p.cid 1) (λ e. rw e (signals_from p.link p.rx (commands p.payload))) (λ e. rw e all_nil)

signals_sound : (ps : List Pdu) → All Sound (signals ps)
unfolding signals
signals_sound [] = all_nil
signals_sound (p ∷ ps) = all_append (all_map (λ s f. record { link = p.link; is = f }) (pdu_from p)) (signals_sound ps)

kept_from : (l h : ℕ) {ss : List Signal} → All (From h) ss → signals_on l ss ≡ cond (eqb h l) ss []
unfolding keep is_on
kept_from l h all_nil = split_b (eqb h l) (λ e. rw e) (λ e. rw e)
kept_from l h (all_cons (asking q) a) = split_b (eqb h l) (λ e. rw (q, e, kept_from l h a, e)) (λ e. rw (q, e, kept_from l h a, e))
kept_from l h (all_cons (answering q r) a) = split_b (eqb h l) (λ e. rw (q, e, kept_from l h a, e)) (λ e. rw (q, e, kept_from l h a, e))

signals_kept : (l : ℕ) (ps : List Pdu) → signals_on l (signals ps) ≡ signals (pdus_on l ps)
unfolding signals keep
signals_kept l [] = refl
signals_kept l (p ∷ ps) =
    keep_append (is_on l) (pdu_signals p) (signals ps)
    ∙ rw (kept_from l p.link (pdu_from p), signals_kept l ps) (split_b (eqb p.link l) (λ e. rw e) (λ e. rw e))

-- ---- what they name and admit

-- what passes is not lost by keeping, if all that passes is kept
any_kept : {A : Type 0} (q f : A → Bool) → ((x : A) → q x ≡ false → f x ≡ false) → (xs : List A) → any f (keep q xs) ≡ any f xs
unfolding any keep
any_kept q f h [] = refl
any_kept q f h (x ∷ xs) = split_b (q x) (λ e. rw (e, any_kept q f h xs)) (λ e. rw (e, h x e) (any_kept q f h xs))

-- a channel of another link
apart : (l : ℕ) (t k : Key) → link_in t ≡ l → eqb (link_in k) l ≡ false → eq_k t k ≡ false
apart l t k h e = ne_eq_k t k (λ q. eqb-false (link_in k) l e (sym (ap link_in q) ∙ h))

names_not : (l : ℕ) (t : Key) → link_in t ≡ l → (s : Signal) → is_on l s ≡ false → names t s ≡ false
unfolding names is_on
names_not l t h (request k psm) e = apart l t k h e
names_not l t h (response k asked ok) e = apart l t k h e

asks_not : (l : ℕ) (t : Key) → link_in t ≡ l → (s : Signal) → is_on l s ≡ false → asks_for t s ≡ false
unfolding asks_for is_on
asks_not l t h (request k psm) e = rw (apart l t k h e) (and-false (eqb psm 3))
asks_not l t h (response k asked ok) e = refl

named_kept : (l : ℕ) (ss : List Signal) (t : Key) → link_in t ≡ l → named (signals_on l ss) t ≡ named ss t
unfolding named
named_kept l ss t h = any_kept (is_on l) (names t) (names_not l t h) ss

admits_not : (l : ℕ) (earlier : List Signal) (t : Key) → link_in t ≡ l → (s : Signal) → is_on l s ≡ false → admits earlier t s ≡ false
unfolding admits is_on
admits_not l earlier t h (request k psm) e = rw (apart l t k h e) (and-false (eqb psm 3))
admits_not l earlier t h (response k asked ok) e = rw (apart l t k h e) (and-false ok)

admits_kept : (l : ℕ) (earlier : List Signal) (t : Key) {s : Signal} → Sound s → is_on l s ≡ true → admits (signals_on l earlier) t s ≡ admits earlier t s
unfolding admits is_on
admits_kept l earlier t {s} f e = go f.is e
  where
    go : {s : Signal} → From f.link s → is_on l s ≡ true → admits (signals_on l earlier) t s ≡ admits earlier t s
    go (asking q) e = refl
    go (answering {k} {asked} {ok} q r) e = rw (any_kept (is_on l) (asks_for asked) (asks_not l asked (r ∙ sym q ∙ eqb-true (link_in k) l e)) earlier)

after_kept : (l : ℕ) (t : Key) → link_in t ≡ l → (earlier : List Signal) {ss : List Signal} → All Sound ss →
    admitted_after (signals_on l earlier) (signals_on l ss) t ≡ admitted_after earlier ss t
unfolding admitted_after keep
after_kept l t h earlier all_nil = refl
after_kept l t h earlier (all_cons {x = s} {xs = ss} p a) =
    split_b (is_on l s)
    (λ e. rw (e, admits_kept l earlier t p e, ← after_kept l t h (s ∷ earlier) a, e))
    (λ e. rw (e, admits_not l earlier t h s e, ← after_kept l t h (s ∷ earlier) a, e))

admitted_kept : (l : ℕ) (ss : List Signal) → All Sound ss → (t : Key) → link_in t ≡ l → admitted (signals_on l ss) t ≡ admitted ss t
unfolding admitted keep
admitted_kept l ss a t h = after_kept l t h [] a

sound_kept : (l : ℕ) (ss : List Signal) → All Sound ss → (p : Pdu) → p.link ≡ l → is_tried (signals_on l ss) p ≡ is_tried ss p
unfolding is_tried
sound_kept l ss a p h = rw (admitted_kept l ss a (channel_of p) h, named_kept l ss (channel_of p) h)

pub tried_kept : (l : ℕ) (ps : List Pdu) (p : Pdu) → p.link ≡ l → is_tried (signals (pdus_on l ps)) p ≡ is_tried (signals ps) p
tried_kept l ps p h = rw (← signals_kept l ps) (sound_kept l (signals ps) (signals_sound ps) p h)
