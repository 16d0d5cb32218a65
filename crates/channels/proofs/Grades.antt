-- Rows of the table of channels: what a raised grade does, and that what a signal says is told.
use Rattle.std.specs.Prelude.{Option, Some, None}
use Rattle.std.specs.Option.{option_eq}
use Prim.Native.Nat.{ℕ, zero, suc, ◌+◌, ◌*◌, ◌/◌, ◌%◌, ◌<◌, ◌≤◌, max}
use mathlib.Core.Path.{◌≡◌, refl, sym, ap, ◌∙◌}
use denote.Enum.Bare.{sameb}
use mathlib.Core.Bool.{Bool, true, false, not, cond, ◌&&◌, ◌||◌, or-true, or-false, or_assoc, or_comm}
use mathlib.Core.List.{List, [], ◌∷◌}
use native.Mathlib.Omega.{arith}
use lib.Dec.{ltb, eqb}
use borrow.Author.Tests.{lt-ltb, le-ltb, eq-eqb, ne_eqb}
use Rattle.laws.proofs.Choice.{split≤, split≡}
use Rattle.laws.specs.Keys.{Key, eq_k}
use Rattle.laws.proofs.Keys.{eq_eq_k, ne_eq_k}
use Rattle.words.specs.Words.{word, put_word}
use Rattle.words.proofs.Front.{front_refl}
use Rattle.table.specs.Table.{Slot, none, some, lookup, upd, find_in}
use Rattle.table.proofs.Table.{lookup_found, lookup_nothing}
use Rattle.tree.specs.Tree.{EnterPre, Entered}
use Rattle.tree.specs.Seats.{seat_of, Seated}
use Rattle.tree.specs.declared.Table.{Table}
use Rattle.tree.specs.declared.Seating.{Seating}
use Rattle.tree.proofs.Seats.{seated_value, seat_first}
use Rattle.items.specs.Items.{rx_of}
use Rattle.items.specs.declared.Direction.{Direction}
use Rattle.channels.specs.Signals.{Signal, request, response, triple, opposite}
use Rattle.channels.specs.Channels.{any, names, named, asks_for, admits, admitted, admitted_after}
use Rattle.channels.specs.ChannelTable.{channel_key, says_named, says_admitted, Tells}
use Rattle.channels.specs.Reading.{triple_of, told}
use Rattle.channels.specs.Noting.{graded, word_of, grade_of, standing_of, request_grade, response_grade, Raised, RaisedIn, Telling, Noted}
use Rattle.channels.specs.declared.Triple.{Triple}
use Rattle.channels.specs.declared.Grade.{Grade}
use Rattle.channels.specs.contracts.Grade.{the_type}
use Rattle.channels.specs.declared.Grade.TheVariants.{Named, Answered, Asked}
use Rattle.channels.specs.declared.Signal.{Signal as Said}
use Rattle.channels.specs.declared.Signal.TheVariants.{Request, Response}
use Rattle.channels.proofs.Payloads.{rx_one}

-- ---- keys

-- two channels have one key only if they are one
pub key_eq :
    (l r c l' r' c' : ℕ) → r ≤ 1 → c < 65536 → r' ≤ 1 → c' < 65536 →
    eqb (channel_key l r c) (channel_key l' r' c') ≡ eq_k (triple l' r' c') (triple l r c)
unfolding channel_key
key_eq l r c l' r' c' p q p' q' =
    split≡ ((2 * l + r) * 65536 + c) ((2 * l' + r') * 65536 + c')
    (λ e.
    let x : l' ≡ l = omega arith in
    let y : r' ≡ r = omega arith in
    let z : c' ≡ c = omega arith in
    rw (eq-eqb ((2 * l + r) * 65536 + c) ((2 * l' + r') * 65536 + c') e) (sym (eq_eq_k (triple l' r' c') (triple l r c) (cc))))
    (λ n. rw (ne_eqb ((2 * l + r) * 65536 + c) ((2 * l' + r') * 65536 + c') n) (sym (ne_eq_k (triple l' r' c') (triple l r c) (λ e. n (differ e))))) where
      differ : triple l' r' c' ≡ triple l r c → (2 * l + r) * 65536 + c ≡ (2 * l' + r') * 65536 + c'
      differ e =
          let x : l' ≡ l = cc in
          let y : r' ≡ r = cc in
          let z : c' ≡ c = cc in
          omega arith

-- a row's word gives the key
pub side_key : (side cid : ℕ) → channel_key (side / 2) (side % 2) cid ≡ side * 65536 + cid
unfolding channel_key
side_key side cid = omega arith

-- ---- the grade of a row

pub standing_none : (w : List ℕ) (b k n : ℕ) (f : Option ℕ) → f ≡ find_in w b k n → f ≡ None → None ≡ standing_of (lookup w b n k)
unfolding standing_of
standing_none w b k n f p q = rw (lookup_nothing w b k n (sym p ∙ q))

pub standing_row : (w : List ℕ) (b k n i : ℕ) (f : Option ℕ) → f ≡ find_in w b k n → f ≡ Some i → (x : ℕ) → x ≡ word w (b + 4 * i + 2) → (g : Grade) → g ≡ graded x → Some g ≡ standing_of (lookup w b n k)
unfolding standing_of
standing_row w b k n i f p q x e g d = rw (lookup_found w b k n i (sym p ∙ q), d, e)

-- what a word says
module _ (n : ℕ) where
  pub graded_zero : n ≡ 0 → Named ≡ graded n
  unfolding graded
  graded_zero e = rw e

  pub graded_one : n ≡ 1 → Answered ≡ graded n
  unfolding graded
  graded_one e = rw e

pub graded_more : (n : ℕ) → (n ≡ 0 → ⊥) → (n ≡ 1 → ⊥) → Asked ≡ graded n
unfolding graded
graded_more zero p q = absurd (p refl)
graded_more (suc zero) p q = absurd (q refl)
graded_more (suc (suc n)) p q = refl

pub graded_asked : (n : ℕ) → sameb the_type (graded n) Asked ≡ ltb 1 n
unfolding graded
graded_asked zero = refl
graded_asked (suc zero) = refl
graded_asked (suc (suc n)) = sym (lt-ltb 1 (suc (suc n)) (omega arith))

pub graded_admitted : (n : ℕ) → not (sameb the_type (graded n) Named) ≡ ltb 0 n
unfolding graded
graded_admitted zero = refl
graded_admitted (suc zero) = refl
graded_admitted (suc (suc n)) = sym (lt-ltb 0 (suc (suc n)) (omega arith))

-- what an answer says
module _ (s : Slot) (g : Option Grade) (p : g ≡ standing_of s) where
  pub standing_unnamed : g ≡ None → s ≡ none
  unfolding standing_of
  standing_unnamed q = go s (sym p ∙ q) where
    go : (x : Slot) → standing_of x ≡ None → x ≡ none
    go none e = refl
    go (some v z) e = let y : ◌≡◌ {A = ℕ} 0 1 = cc in absurd (omega arith)

  pub standing_named : (v : Grade) → g ≡ Some v → (says_named s ≡ true) × (graded (grade_of s) ≡ v)
  unfolding standing_of says_named grade_of
  standing_named v q = go s (sym p ∙ q) where
    go : (x : Slot) → standing_of x ≡ Some v → (says_named x ≡ true) × (graded (grade_of x) ≡ v)
    go none e = let y : ◌≡◌ {A = ℕ} 0 1 = cc in absurd (omega arith)
    go (some x z) e = (refl, cc)

pub request_three : (psm : ℕ) → psm ≡ 3 → word_of Asked ≡ request_grade psm
unfolding request_grade word_of
request_three psm e = rw (eq-eqb psm 3 e)

pub request_other : (psm : ℕ) → (psm ≡ 3 → ⊥) → word_of Named ≡ request_grade psm
unfolding request_grade word_of
request_other psm n = rw (ne_eqb psm 3 n)

module _ (ok : Bool) (s : Slot) where
  pub response_fails : ok ≡ false → word_of Named ≡ response_grade ok s
  unfolding response_grade word_of
  response_fails e = rw e

  module _ (g : Option Grade) (p : g ≡ standing_of s) (r : Bool) (er : r ≡ option_eq (sameb the_type) g (Some Asked)) where
    asked : ltb 1 (grade_of s) ≡ r
    unfolding standing_of grade_of
    asked = go s (er ∙ rw p) where
      go : (x : Slot) → r ≡ option_eq (sameb the_type) (standing_of x) (Some Asked) → ltb 1 (grade_of x) ≡ r
      go none h = sym h
      go (some v z) h = sym (graded_asked v) ∙ sym h

    pub response_admits : ok ≡ true → r ≡ true → word_of Answered ≡ response_grade ok s
    unfolding response_grade word_of
    response_admits e h = rw (e, asked, h)

    pub response_unasked : ok ≡ true → r ≡ false → word_of Named ≡ response_grade ok s
    unfolding response_grade word_of
    response_unasked e h = rw (e, asked, h)

-- ---- a grade raised

module _ (w : List ℕ) (t : Table) (k v : ℕ) (p : EnterPre w t) (u : List ℕ) (r : Seating) (s : Seated w t (record { key = k; a = v; b = 0 }) u r) (o : Grade) (eo : v ≡ word_of o) where
  -- the grade in the row of the channel
  row_grade : (g : ℕ) → g ≡ word u (t.at.rows + 4 * r.at + 2) → grade_of (seat_of v 0 (lookup w t.at.rows t.count k)) ≡ g
  unfolding grade_of
  row_grade g e = rw e (ap grade_of (sym (seated_value w t (record { key = k; a = v; b = 0 }) u r s)))

  -- a grade that is high enough stays
  most : (g : ℕ) → grade_of (seat_of v 0 (lookup w t.at.rows t.count k)) ≡ g → v ≤ g → max (grade_of (lookup w t.at.rows t.count k)) v ≡ g
  unfolding grade_of seat_of
  most g e h = go (lookup w t.at.rows t.count k) e where
    go : (q : Slot) → grade_of (seat_of v 0 q) ≡ g → max (grade_of q) v ≡ g
    go none e = omega (arith, e)
    go (some a z) e = omega (arith, e)

  named_seat : (q : Slot) → says_named (seat_of v 0 q) ≡ true
  unfolding says_named seat_of
  named_seat none = refl
  named_seat (some a z) = refl

  pub raised_kept : (g : ℕ) → g ≡ word u (t.at.rows + 4 * r.at + 2) → v ≤ g → RaisedIn w t k (word_of o) u r.rows
  unfolding upd
  raised_kept g e h = rw (← eo) (record {
    raised = record {
      named = λ j. rw (s.says j) (split≡ k j
          (λ d. rw (eq-eqb k j d, named_seat (lookup w t.at.rows t.count k)) (sym (or-true (says_named (lookup w t.at.rows t.count j)))))
          (λ d. rw (ne_eqb k j d) (sym (or-false (says_named (lookup w t.at.rows t.count j))))));
      grade = λ j. rw (s.says j) (split≡ k j
          (λ d. rw (eq-eqb k j d, ← d) (row_grade g e ∙ sym (most g (row_grade g e) h)))
          (λ d. rw (ne_eqb k j d)));
      most = s.most;
      front = s.front;
      size = s.size;
    };
    indexed = s.indexed;
  })

  -- a lower one is replaced
  least : (g : ℕ) → grade_of (seat_of v 0 (lookup w t.at.rows t.count k)) ≡ g → g < v → max (grade_of (lookup w t.at.rows t.count k)) v ≡ v
  unfolding grade_of seat_of
  least g e h = go (lookup w t.at.rows t.count k) e where
    go : (q : Slot) → grade_of (seat_of v 0 q) ≡ g → max (grade_of q) v ≡ v
    go none e = omega (arith, e)
    go (some a z) e = omega (arith, e)

  pub raised_more : (g : ℕ) → g ≡ word u (t.at.rows + 4 * r.at + 2) → g < v → (m : List ℕ) → m ≡ put_word u (t.at.rows + 4 * r.at + 2) v → RaisedIn w t k (word_of o) m r.rows
  unfolding upd says_named grade_of
  raised_more g e h m em =
      let q : Entered w t (record { key = k; a = v; b = word u (t.at.rows + 4 * r.at + 3) }) m r.rows = seat_first w t (record { key = k; a = v; b = 0 }) u r s p v m em in
      rw (← eo) (record {
        raised = record {
          named = λ j. rw (q.stored.says j) (split≡ k j
              (λ d. rw (eq-eqb k j d) (sym (or-true (says_named (lookup w t.at.rows t.count j)))))
              (λ d. rw (ne_eqb k j d) (sym (or-false (says_named (lookup w t.at.rows t.count j))))));
          grade = λ j. rw (q.stored.says j) (split≡ k j
              (λ d. rw (eq-eqb k j d, ← d) (sym (least g (row_grade g e) h)))
              (λ d. rw (ne_eqb k j d)));
          most = q.stored.most;
          front = q.stored.front;
          size = q.stored.size;
        };
        indexed = q.indexed;
      })

-- ---- what is told after a signal

pub admits_grade : (s : Slot) → says_admitted s ≡ ltb 0 (grade_of s)
unfolding says_admitted grade_of
admits_grade none = refl
admits_grade (some v z) = refl

ltb_max : (i g v : ℕ) → ltb i (max g v) ≡ (ltb i g || ltb i v)
ltb_max i g v =
    split≤ (suc i) g
    (λ h. rw (lt-ltb i g h, lt-ltb i (max g v) (omega arith)))
    (λ h. rw (le-ltb i g (omega arith))
    (split≤ (suc i) v
    (λ k. rw (lt-ltb i v k, lt-ltb i (max g v) (omega arith)))
    (λ k. rw (le-ltb i v (omega arith), le-ltb i (max g v) (omega arith)))))

ltb_raise : (e : Bool) (i g v : ℕ) → ltb i (cond e (max g v) g) ≡ (ltb i g || (e && ltb i v))
ltb_raise true i g v = ltb_max i g v
ltb_raise false i g v = sym (or-false (ltb i g))

module _ (ss : List Signal) (m m' : ℕ → Slot) (l r c v : ℕ) (r1 : r ≤ 1) (c1 : c < 65536)
    (nm : (j : ℕ) → says_named (m' j) ≡ (says_named (m j) || eqb (channel_key l r c) j))
    (gr : (j : ℕ) → grade_of (m' j) ≡ cond (eqb (channel_key l r c) j) (max (grade_of (m j)) v) (grade_of (m j)))
    (s : Signal) (rest : List Signal) (t : Telling ss m (s ∷ rest))
    (sn : (k : Key) → names k s ≡ eq_k k (triple l r c))
    (sa : (k : Key) → admits t.earlier k s ≡ (eq_k k (triple l r c) && ltb 0 v))
    (sq : (k : Key) → asks_for k s ≡ (eq_k k (triple l r c) && ltb 1 v)) where
  telling_turn : Telling ss m' rest
  unfolding named any admitted_after
  telling_turn = record {
    earlier = s ∷ t.earlier;
    names = λ link rx cid p q.
        rw (nm (channel_key link rx cid), key_eq l r c link rx cid r1 c1 p q, or_assoc (says_named (m (channel_key link rx cid))) (eq_k (triple link rx cid) (triple l r c)) (any (names (triple link rx cid)) rest))
        (rw (sn (triple link rx cid)) at (t.names link rx cid p q));
    admits = λ link rx cid p q.
        rw (admits_grade (m' (channel_key link rx cid)), gr (channel_key link rx cid), key_eq l r c link rx cid r1 c1 p q, ltb_raise (eq_k (triple link rx cid) (triple l r c)) 0 (grade_of (m (channel_key link rx cid))) v, or_assoc (ltb 0 (grade_of (m (channel_key link rx cid)))) (eq_k (triple link rx cid) (triple l r c) && ltb 0 v) (admitted_after (s ∷ t.earlier) rest (triple link rx cid)))
        (rw (sa (triple link rx cid), admits_grade (m (channel_key link rx cid))) at (t.admits link rx cid p q));
    asks = λ link rx cid p q.
        rw (gr (channel_key link rx cid), key_eq l r c link rx cid r1 c1 p q, ltb_raise (eq_k (triple link rx cid) (triple l r c)) 1 (grade_of (m (channel_key link rx cid))) v, t.asks link rx cid p q, sq (triple link rx cid))
        (or_comm (any (asks_for (triple link rx cid)) t.earlier) (eq_k (triple link rx cid) (triple l r c) && ltb 1 v));
  }

-- ---- what a command says, noted

request_admits : (b e : Bool) (i : ℕ) → i < 2 → (b && e) ≡ (e && ltb i (cond b 2 0))
request_admits true true i h = sym (lt-ltb i 2 h)
request_admits true false i h = refl
request_admits false true i h = sym (le-ltb i 0 (omega arith))
request_admits false false i h = refl

response_says : (ok q e : Bool) → (ok && (e && q)) ≡ (e && ltb 0 (cond (ok && q) 1 0))
response_says true true true = refl
response_says true true false = refl
response_says true false true = refl
response_says true false false = refl
response_says false q true = refl
response_says false q false = refl

response_asks : (ok q e : Bool) → false ≡ (e && ltb 1 (cond (ok && q) 1 0))
response_asks true true true = refl
response_asks true true false = refl
response_asks true false true = refl
response_asks true false false = refl
response_asks false q true = refl
response_asks false q false = refl

module _ (w : List ℕ) (b n : ℕ) (t : Triple) (small : t.cid < 65536) (k v : ℕ) (ke : k ≡ channel_key t.link (rx_of t.direction) t.cid) (u : List ℕ) (r : ℕ) (ra : Raised w b n k v u r) where
  request_noted : (psm : ℕ) → v ≡ request_grade psm → Noted w b n (Some (Request t psm)) u r
  unfolding told request_grade triple_of names admits asks_for
  request_noted psm ve = record {
    tells = λ ss rest q.
        telling_turn ss (lookup w b n) (lookup u b r) t.link (rx_of t.direction) t.cid v (rx_one t.direction) small
        (λ j. rw (← ke) (ra.named j)) (λ j. rw (← ke) (ra.grade j)) (request (triple_of t) psm) rest q
        (λ x. refl)
        (λ x. rw ve (request_admits (eqb psm 3) (eq_k x (triple_of t)) 0 (omega arith)))
        (λ x. rw ve (request_admits (eqb psm 3) (eq_k x (triple_of t)) 1 (omega arith)));
    most = ra.most;
    front = ra.front;
    size = ra.size;
  }

  pub noted_request : (said : Option Said) (s : Said) → said ≡ Some s → (psm : ℕ) → s ≡ Request t psm → v ≡ request_grade psm → Noted w b n said u r
  noted_request said s z psm e ve = rw (z, e) (request_noted psm ve)

  response_noted :
      (source : ℕ) → source < 65536 → (ok : Bool) (o : Direction) → rx_of o ≡ opposite (rx_of t.direction) → (a : ℕ) → a ≡ channel_key t.link (rx_of o) source →
      v ≡ response_grade ok (lookup w b n a) → Noted w b n (Some (Response t source ok)) u r
  unfolding told response_grade triple_of names admits asks_for
  response_noted source few ok o oe a ae ve = record {
    tells = λ ss rest q.
        let y : any (asks_for (triple t.link (opposite (rx_of t.direction)) source)) q.earlier ≡ ltb 1 (grade_of (lookup w b n a)) = rw (ae, oe) (sym (q.asks t.link (opposite (rx_of t.direction)) source (omega arith) few)) in
        telling_turn ss (lookup w b n) (lookup u b r) t.link (rx_of t.direction) t.cid v (rx_one t.direction) small
        (λ j. rw (← ke) (ra.named j)) (λ j. rw (← ke) (ra.grade j)) (response (triple_of t) (triple t.link (opposite (rx_of t.direction)) source) ok) rest q
        (λ x. refl)
        (λ x. rw (ve, y) (response_says ok (ltb 1 (grade_of (lookup w b n a))) (eq_k x (triple_of t))))
        (λ x. rw ve (response_asks ok (ltb 1 (grade_of (lookup w b n a))) (eq_k x (triple_of t))));
    most = ra.most;
    front = ra.front;
    size = ra.size;
  }

  pub noted_response :
      (said : Option Said) (s : Said) → said ≡ Some s → (source : ℕ) (ok : Bool) → s ≡ Response t source ok → source < 65536 → (o : Direction) → rx_of o ≡ opposite (rx_of t.direction) → (a : ℕ) → a ≡ channel_key t.link (rx_of o) source →
      v ≡ response_grade ok (lookup w b n a) → Noted w b n said u r
  noted_response said s z source ok e few o oe a ae ve = rw (z, e) (response_noted source few ok o oe a ae ve)

pub noted_other : (w : List ℕ) (b n : ℕ) (said : Option Said) → said ≡ None → Noted w b n said w n
unfolding told
noted_other w b n said e = rw e (record { tells = λ ss rest q. q; most = omega arith; front = front_refl (4 * b) w; size = refl })

-- ---- from the first signal to the last

pub telling_start : (ss : List Signal) (w : List ℕ) (b : ℕ) → Telling ss (lookup w b 0) ss
unfolding lookup says_named says_admitted grade_of any admitted
telling_start ss w b = record { earlier = []; names = λ link rx cid p q. refl; admits = λ link rx cid p q. refl; asks = λ link rx cid p q. refl }

pub telling_end : (ss : List Signal) (w : List ℕ) (b n : ℕ) → Telling ss (lookup w b n) [] → Tells ss w b n
unfolding named any admitted_after
telling_end ss w b n t = record {
  names = λ link rx cid p q. sym (or-false (says_named (lookup w b n (channel_key link rx cid)))) ∙ t.names link rx cid p q;
  admits = λ link rx cid p q. sym (or-false (says_admitted (lookup w b n (channel_key link rx cid)))) ∙ t.admits link rx cid p q;
}
