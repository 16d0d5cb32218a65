-- Wires that stand one after another, cut anywhere: the rule on a buffer gives those whose 3C has come and holds the rest. No byte is lost.
-- A wire is any 3E .. 3C with no 3C inside and at most 65,536 bytes.
use Prim.Native.Nat.{ℕ, zero, suc, ◌+◌, ◌-◌, ◌≤◌, ◌<◌}
use mathlib.Core.Path.{◌≡◌, refl, sym, ap, ◌∙◌}
use mathlib.Core.Logic.{◌≢◌}
use mathlib.Core.Bool.{true, false}
use mathlib.Core.List.{List, [], ◌∷◌, ◌++◌, append_assoc, append-nil, append_cancel_left}
use native.Mathlib.Omega.{arith}
use native.Mathlib.Nat.{zero-add}
use lib.ListN.{length, take, drop, length-append, length-take}
use lib.Seq.{take-append-le, take-append_seam, take-add}
use lib.Dec.{leb, ltb}
use borrow.Author.Tests.{ne_eqb, le-leb, lt-leb, lt-ltb, le-ltb}
use Rattle.laws.proofs.Choice.{split≤, split_b}
use Rattle.laws.specs.Lists.{flat, All, all_nil, all_cons}
use Rattle.laws.specs.Totals.{total}
use Rattle.laws.proofs.Totals.{total_append}
use Rattle.mdr.specs.Frame.{unpacks_of}
use Rattle.spans.specs.Scan.{spans_of, rest_of, capped}
use Rattle.spans.specs.Bytewise.{feed, emit, held, emitted}
use Rattle.spans.proofs.Bytewise.{held_append, emitted_append, quiet_nil, quiet_held, next_is_law, out_is}
use Rattle.spans.specs.Account.{dropped_of, cleared_of}
use Rattle.spans.proofs.Account.{piece_conserves}
use Rattle.cut.specs.Recording.{Framing}
use Rattle.cut.specs.Left.{closed_in, mid_frame, past_close}
use Rattle.cut.proofs.TwoParts.{take_past, all_take}

abbrev pub NoEnd : List ℕ → Type 0
NoEnd b = All (λ (x : ℕ). x ≢ 0x3C) b

pub data Wire : List ℕ → Type 0 where
  wired : {b : List ℕ} → NoEnd b → length b ≤ 65534 → Wire (0x3E ∷ (b ++ (0x3C ∷ [])))

-- a framing whose frames are such wires, and unpack: what the claim needs of it
pub record Spanning (S : Framing) : Type 0 where
  pub wires : (f : S.Form) → S.Allowed f → Wire (S.on_wire f)
  pub unpacks : (f : S.Form) → S.Allowed f → unpacks_of (S.on_wire f) ≡ true

-- a beginning of one without its end
pub data Begun : List ℕ → Type 0 where
  nothing : Begun []
  begun : {b : List ℕ} → NoEnd b → length b ≤ 65535 → Begun (0x3E ∷ b)

begun_take : (n : ℕ) {b : List ℕ} → Begun b → Begun (take n b)
begun_take zero w = nothing
begun_take (suc n) nothing = nothing
begun_take (suc n) (begun {b = b} w g) = begun (all_take n w) (rw (length-take n b) (omega arith))

pub wire_take : (n : ℕ) {f : List ℕ} → Wire f → n < length f → Begun (take n f)
wire_take zero w h = nothing
wire_take (suc n) (wired {b = b} w g) h = rw (take-append-le n b (0x3C ∷ []) (omega (arith, simp length-append at h))) (begun (all_take n w) (rw (length-take n b) (omega arith)))

wire_some : {f : List ℕ} → Wire f → 0 < length f
wire_some (wired w g) = omega arith

-- ---- scanned from nothing

pub inside_held : (a : ℕ) (h b : List ℕ) → NoEnd b → held (a ∷ h) b ≡ a ∷ (h ++ b)
unfolding held feed
inside_held a h [] all_nil = rw (append-nil h)
inside_held a h (x ∷ b) (all_cons p w) = rw (ne_eqb x 0x3C, inside_held a (h ++ (x ∷ [])) b w, append_assoc)

pub inside_emitted : (a : ℕ) (h b : List ℕ) → NoEnd b → emitted (a ∷ h) b ≡ []
unfolding emitted feed emit
inside_emitted a h [] all_nil = refl
inside_emitted a h (x ∷ b) (all_cons p w) = rw (ne_eqb x 0x3C, inside_emitted a (h ++ (x ∷ [])) b w)

begun_held : {b : List ℕ} → Begun b → held [] b ≡ b
unfolding held feed
begun_held nothing = refl
begun_held (begun {b = b} w g) = inside_held 0x3E [] b w

begun_emitted : {b : List ℕ} → Begun b → emitted [] b ≡ []
unfolding emitted feed emit
begun_emitted nothing = refl
begun_emitted (begun {b = b} w g) = inside_emitted 0x3E [] b w

wire_held : {f : List ℕ} → Wire f → held [] f ≡ []
unfolding held feed
wire_held (wired {b = b} w g) = rw (held_append (0x3E ∷ []) b (0x3C ∷ []), inside_held 0x3E [] b w)

wire_emitted : {f : List ℕ} → Wire f → emitted [] f ≡ f ∷ []
unfolding emitted feed emit
wire_emitted (wired {b = b} w g) = rw (emitted_append (0x3E ∷ []) b (0x3C ∷ []), inside_held 0x3E [] b w, inside_emitted 0x3E [] b w)

begun_capped : {b : List ℕ} → Begun b → capped b ≡ b
unfolding capped
begun_capped nothing = refl
begun_capped (begun {b = b} w g) = rw (le-leb (suc (length b)) 65536 (omega arith))

-- ---- closed in some bytes

-- none is closed before its place
closed_none : (at a b : ℕ) {ws : List (List ℕ)} → All Wire ws → b ≤ at → closed_in at a b ws ≡ []
unfolding closed_in
closed_none at a b all_nil h = refl
closed_none at a b (all_cons {x = w} {xs = ws} W Ws) h =
    rw (lt-leb (at + length w) b (omega (arith, wire_some W)), closed_none (at + length w) a b Ws (omega arith))
    (split_b (ltb a (at + length w)) (λ e. rw e) (λ e. rw e))

-- those that the first b bytes close are those of the first a, and those from a up to b
closed_split : (at a b : ℕ) {ws : List (List ℕ)} → All Wire ws → a ≤ b → closed_in at 0 b ws ≡ closed_in at 0 a ws ++ closed_in at a b ws
unfolding closed_in
closed_split at a b all_nil h = refl
closed_split at a b (all_cons {x = w} {xs = ws} W Ws) h =
    let e : at + length w ≤ a → closed_in at 0 b (w ∷ ws) ≡ closed_in at 0 a (w ∷ ws) ++ closed_in at a b (w ∷ ws) = λ g.
    rw (lt-ltb 0 (at + length w) (omega (arith, wire_some W)), le-leb (at + length w) b (omega arith), le-leb (at + length w) a g, le-ltb a (at + length w) g, closed_split (at + length w) a b Ws h) in
    split≤ (at + length w) a e
    (λ g. rw (lt-ltb 0 (at + length w) (omega (arith, wire_some W)), lt-leb (at + length w) a g, lt-ltb a (at + length w) g, closed_none (at + length w) 0 a Ws (omega arith))
    (split_b (leb (at + length w) b) (λ q. rw (q, closed_split (at + length w) a b Ws h, closed_none (at + length w) 0 a Ws (omega arith))) (λ q. rw (q, closed_split (at + length w) a b Ws h, closed_none (at + length w) 0 a Ws (omega arith)))))

pub mid_none : (at came : ℕ) (ws : List (List ℕ)) → came ≤ at → mid_frame at came ws ≡ false
unfolding mid_frame
mid_none at came [] h = le-ltb at came h
mid_none at came (w ∷ ws) h = rw (le-ltb at came h, mid_none (at + length w) came ws (omega arith))

some_past : (at came : ℕ) → ltb 0 (came - at) ≡ ltb at came
some_past at came = split≤ came at (λ h. rw (le-ltb 0 (came - at) (omega arith), le-ltb at came h)) (λ h. rw (lt-ltb 0 (came - at) (omega arith), lt-ltb at came h))

-- some bytes stand after the last closing 3C just if they end mid-frame
pub past_mid : (at came : ℕ) (ws : List (List ℕ)) → ltb 0 (past_close at came ws) ≡ mid_frame at came ws
unfolding past_close mid_frame
past_mid at came [] = some_past at came
past_mid at came (w ∷ ws) =
    split≤ (at + length w) came
    (λ h. rw (le-leb (at + length w) came h, le-ltb came (at + length w) h, past_mid (at + length w) came ws) (split_b (ltb at came) (λ q. rw q) (λ q. rw q)))
    (λ h. rw (lt-leb (at + length w) came h, lt-ltb came (at + length w) h, mid_none (at + length w) came ws (omega arith), some_past at came) (split_b (ltb at came) (λ q. rw q) (λ q. rw q)))

-- ---- wires and a beginning behind them

abbrev pub stream : List (List ℕ) → List ℕ → List ℕ
stream ws p = flat ws ++ p

module _ (p : List ℕ) (P : Begun p) where
  -- the spans of the first t bytes are the wires closed in them
  stream_emitted : (at t : ℕ) {ws : List (List ℕ)} → All Wire ws → emitted [] (take t (stream ws p)) ≡ closed_in at 0 (at + t) ws
  unfolding closed_in
  stream_emitted at t all_nil = begun_emitted (begun_take t P)
  stream_emitted at t (all_cons {x = w} {xs = ws} W Ws) =
      let z : 0 < length w = wire_some W in
      rw append_assoc
      (split≤ (length w) t
      (λ h.
      let e : at + t ≡ at + length w + (t - length w) = omega arith in
      rw (take_past t w (stream ws p) h, emitted_append [] w (take (t - length w) (stream ws p)), wire_emitted W, wire_held W, stream_emitted (at + length w) (t - length w) Ws, lt-ltb 0 (at + length w) (omega arith), le-leb (at + length w) (at + t) (omega arith), e))
      (λ h. rw (take-append-le t w (stream ws p) (omega arith), begun_emitted (wire_take t W h), lt-ltb 0 (at + length w) (omega arith), lt-leb (at + length w) (at + t) (omega arith), closed_none (at + length w) 0 (at + t) Ws (omega arith))))

  -- what is held of them is a beginning
  stream_begun : (t : ℕ) {ws : List (List ℕ)} → All Wire ws → Begun (held [] (take t (stream ws p)))
  stream_begun t all_nil = rw (begun_held (begun_take t P)) (begun_take t P)
  stream_begun t (all_cons {x = w} {xs = ws} W Ws) =
      rw append_assoc
      (split≤ (length w) t
      (λ h. rw (take_past t w (stream ws p) h, held_append [] w (take (t - length w) (stream ws p)), wire_held W) (stream_begun (t - length w) Ws))
      (λ h. rw (take-append-le t w (stream ws p) (omega arith), begun_held (wire_take t W h)) (wire_take t W h)))

  -- as long as what stands after the last closing 3C
  stream_past : (at t : ℕ) {ws : List (List ℕ)} → All Wire ws → t ≤ length (stream ws p) → length (held [] (take t (stream ws p))) ≡ past_close at (at + t) ws
  unfolding past_close
  stream_past at t all_nil g = rw (begun_held (begun_take t P), length-take t p) (omega arith)
  stream_past at t (all_cons {x = w} {xs = ws} W Ws) g =
      let l : length (flat (w ∷ ws) ++ p) ≡ length w + length (stream ws p) = simp (append_assoc, length-append) in
      rw append_assoc
      (split≤ (length w) t
      (λ h.
      let e : at + t ≡ at + length w + (t - length w) = omega arith in
      rw (take_past t w (stream ws p) h, held_append [] w (take (t - length w) (stream ws p)), wire_held W, le-leb (at + length w) (at + t) (omega arith), stream_past (at + length w) (t - length w) Ws (omega arith), e))
      (λ h. rw (take-append-le t w (stream ws p) (omega arith), begun_held (wire_take t W h), length-take t w, lt-leb (at + length w) (at + t) (omega arith)) (omega arith)))

  -- the spans and what is held are all of them
  stream_kept : (t : ℕ) {ws : List (List ℕ)} → All Wire ws → total length (emitted [] (take t (stream ws p))) + length (held [] (take t (stream ws p))) ≡ length (take t (stream ws p))
  unfolding total
  stream_kept t all_nil = rw (begun_emitted (begun_take t P), begun_held (begun_take t P)) (omega arith)
  stream_kept t (all_cons {x = w} {xs = ws} W Ws) =
      rw append_assoc
      (split≤ (length w) t
      (λ h.
      rw (take_past t w (stream ws p) h, emitted_append [] w (take (t - length w) (stream ws p)), held_append [] w (take (t - length w) (stream ws p)), wire_emitted W, wire_held W, length-append w (take (t - length w) (stream ws p)))
      (omega (arith, stream_kept (t - length w) Ws)))
      (λ h. rw (take-append-le t w (stream ws p) (omega arith), begun_emitted (wire_take t W h), begun_held (wire_take t W h)) (omega arith)))

-- ---- one piece more

module _ (ws : List (List ℕ)) (p : List ℕ) (W : All Wire ws) (P : Begun p) (t : ℕ) where
  -- what a buffer holds when t bytes have come
  abbrev pub held_at : List ℕ
  held_at = held [] (take t (stream ws p))

  pub held_past : t ≤ length (stream ws p) → length held_at ≡ past_close 0 t ws
  held_past h = stream_past p P 0 t W h ∙ rw zero-add

module _ (ws : List (List ℕ)) (p : List ℕ) (W : All Wire ws) (P : Begun p) (t : ℕ) (x rest : List ℕ) (e : drop t (stream ws p) ≡ x ++ rest) where
  grown : take (t + length x) (stream ws p) ≡ take t (stream ws p) ++ x
  grown = take-add t (length x) (stream ws p) ∙ rw (e, take-append_seam x rest)

  -- what stays in the buffer
  pub piece_next : capped (rest_of (held [] (take t (stream ws p)) ++ x)) ≡ held [] (take (t + length x) (stream ws p))
  piece_next =
      let q = quiet_held (take t (stream ws p)) [] quiet_nil in
      let n : rest_of (held [] (take t (stream ws p)) ++ x) ≡ held [] (take (t + length x) (stream ws p)) =
      next_is_law (held [] (take t (stream ws p))) x q ∙ sym (held_append [] (take t (stream ws p)) x) ∙ rw (← grown) in
      rw n (begun_capped (stream_begun p P (t + length x) W))

  -- the wires that it closes
  pub piece_out : spans_of (held [] (take t (stream ws p)) ++ x) ≡ closed_in 0 t (t + length x) ws
  piece_out =
      let q = quiet_held (take t (stream ws p)) [] quiet_nil in
      let a : emitted [] (take t (stream ws p)) ≡ closed_in 0 0 t ws = stream_emitted p P 0 t W ∙ rw zero-add in
      let b : emitted [] (take (t + length x) (stream ws p)) ≡ closed_in 0 0 (t + length x) ws = stream_emitted p P 0 (t + length x) W ∙ rw zero-add in
      let c : emitted [] (take (t + length x) (stream ws p)) ≡ emitted [] (take t (stream ws p)) ++ emitted (held [] (take t (stream ws p))) x = ap (emitted []) grown ∙ emitted_append [] (take t (stream ws p)) x in
      let s : closed_in 0 0 (t + length x) ws ≡ closed_in 0 0 t ws ++ closed_in 0 t (t + length x) ws = closed_split 0 t (t + length x) W (omega arith) in
      out_is (held [] (take t (stream ws p))) x q ∙ append_cancel_left (closed_in 0 0 t ws) (emitted (held [] (take t (stream ws p))) x) (closed_in 0 t (t + length x) ws) (rw (← a, ← c, b, a) s)

  -- nothing is dropped, nothing cleared
  pub piece_none : dropped_of (held [] (take t (stream ws p)) ++ x) + cleared_of (rest_of (held [] (take t (stream ws p)) ++ x)) ≡ 0
  piece_none =
      let q = quiet_held (take t (stream ws p)) [] quiet_nil in
      let o : total length (spans_of (held [] (take t (stream ws p)) ++ x)) ≡ total length (emitted (held [] (take t (stream ws p))) x) = ap (total length) (out_is (held [] (take t (stream ws p))) x q) in
      let a : total length (emitted [] (take (t + length x) (stream ws p))) ≡ total length (emitted [] (take t (stream ws p))) + total length (emitted (held [] (take t (stream ws p))) x) =
      rw (grown, emitted_append [] (take t (stream ws p)) x) (total_append length (emitted [] (take t (stream ws p))) (emitted (held [] (take t (stream ws p))) x)) in
      let l : length (take (t + length x) (stream ws p)) ≡ length (take t (stream ws p)) + length x = rw grown (length-append (take t (stream ws p)) x) in
      omega (arith, piece_conserves (held [] (take t (stream ws p))) x, o, ap length piece_next, a, l, stream_kept p P t W, stream_kept p P (t + length x) W)
