-- The links of a recording as a list: the wires of each direction, the directions counted, and their bytes added up.
use Prim.Native.Nat.{ℕ, ◌≤◌}
use mathlib.Core.Path.{◌≡◌, refl, sym, ap}
use mathlib.Core.Logic.{◌≢◌}
use mathlib.Core.Bool.{Bool, true, false}
use mathlib.Core.List.{List, [], ◌∷◌, map, Memᴰ}
use native.Mathlib.Omega.{arith}
use lib.ListN.{length, get_or, length-append}
use lib.Dec.{eqb}
use borrow.Author.Tests.{eq-eqb, ne_eqb}
use Rattle.laws.proofs.Choice.{split_b}
use Rattle.laws.specs.Lists.{All, all_nil, all_cons}
use Rattle.laws.specs.Keys.{Key}
use Rattle.laws.proofs.Keys.{ne_eq_k}
use Rattle.laws.specs.Count.{mem, count}
use Rattle.laws.specs.Totals.{total}
use Rattle.items.specs.declared.Direction.{Direction}
use Rattle.items.specs.declared.Direction.TheVariants.{Rx, Tx}
use Rattle.items.specs.Items.{rx_of}
use Rattle.container.specs.Container.{Container}
use Rattle.mdr.specs.Escaping.{Quiet}
use Rattle.mdr.specs.Frame.{unpacks_of}
use Rattle.mdr.specs.Wire.{inner_of}
use Rattle.mdr.proofs.Wire.{packed_framed, packed_least, packed_unpacks}
use Rattle.cut.specs.Recording.{Frame, wire, Framing, packed_frames, LinkOf, RecordingOf}
use Rattle.cut.specs.Left.{link_key, data_left, information_of, direction_of, of_handle, wires, wires_of, mid_frame, ends_mid, mid_in, past_close, past_link, past_in}
use Rattle.cut.specs.Honest.{Different, no_more, one_more, Beginning}
use Rattle.cut.proofs.TwoParts.{all_map}
use Rattle.cut.proofs.CutWires.{NoEnd, Wire, wired, Spanning, Begun, nothing, wire_take}
use Rattle.cut.proofs.Interleaving.{plain, Framed}
use Rattle.cut.proofs.Counts.{Once, once_nil, once_cons, mem_head, mem_tail}

-- ---- packed frames

quiet_end : {b : List ℕ} → All Quiet b → NoEnd b
quiet_end all_nil = all_nil
quiet_end (all_cons p ps) = all_cons p.0 (quiet_end ps)

-- the wire of a packed frame is one
packed_wire : (f : Frame) → length (wire f) ≤ 65536 → Wire (wire f)
packed_wire f h =
    let p = packed_framed f.type f.seq f.payload in
    let g : length (inner_of f.type f.seq f.payload) ≤ 65534 = omega (arith, simp length-append at (ap length p.is), h) in
    rw p.is (wired {b = inner_of f.type f.seq f.payload} (quiet_end p.quiet) g)

wire_unpacks : (f : Frame) → length (wire f) ≤ 65536 → unpacks_of (wire f) ≡ true
wire_unpacks f h = packed_unpacks f.type f.seq f.payload (omega (arith, packed_least f.type f.seq f.payload))

pub packed_spans : Spanning packed_frames
packed_spans = record { wires = packed_wire; unpacks = wire_unpacks }

-- ---- the wires of a handle and direction

-- what holds of each link direction holds of what is found by handle and direction
found_all : {A : Type 0} {S : Framing} (T : A → Type 0) (else : A) (f : LinkOf S → Direction → A) → T else → {ls : List (LinkOf S)} → All (λ (l : LinkOf S). (t : Direction) → T (f l t)) ls → (h r : ℕ) → T (of_handle else f ls h r)
unfolding of_handle
found_all T else f z all_nil h r = z
found_all T else f z (all_cons {x = l} {xs = ls} s ss) h r =
    split_b (eqb l.handle h)
    (λ e. rw e (s (direction_of r)))
    (λ e. rw e (found_all T else f z ss h r))

-- the partial frame of a handle and direction
abbrev pub partial_of : {S : Framing} → List (LinkOf S) → ℕ → ℕ → List ℕ
partial_of ls h rx = of_handle [] (λ l t. l.partial t) ls h rx

module _ {S : Framing} (G : Spanning S) where
  beginning_begun : {b : List ℕ} → Beginning S b → Begun b
  beginning_begun b = rw b.is (wire_take b.count (G.wires b.frame b.size) b.short)

  all_wires : {T : List ℕ → Type 0} → ((f : S.Form) → S.Allowed f → T (S.on_wire f)) → {fs : List S.Form} → All S.Allowed fs → All T (map S.on_wire fs)
  all_wires g all_nil = all_nil
  all_wires g (all_cons {x = f} s ss) = all_cons (g f s) (all_wires g ss)

  pub wires_all : (T : List ℕ → Type 0) → ((f : S.Form) → S.Allowed f → T (S.on_wire f)) → {ls : List (LinkOf S)} → All (λ (l : LinkOf S). (t : Direction) → All S.Allowed (l.frames t)) ls → (h r : ℕ) → All T (wires_of ls h r)
  wires_all T g s h r = found_all (λ (ws : List (List ℕ)). All T ws) [] wires all_nil (all_map (λ l a t. all_wires g (a t)) s) h r

  pub links_framed : {ls : List (LinkOf S)} → All (λ (l : LinkOf S). (t : Direction) → All S.Allowed (l.frames t)) ls → All (λ (l : LinkOf S). (t : Direction) → Beginning S (l.partial t)) ls → Framed (wires_of ls) (partial_of ls)
  links_framed s b = record { whole = wires_all Wire G.wires s; begun = found_all Begun [] (λ l t. l.partial t) nothing (all_map (λ l a t. beginning_begun (a t)) b) }

-- ---- a link of the list, found by its handle

direction_back : (t : Direction) → direction_of (rx_of t) ≡ t
unfolding rx_of
direction_back Rx = refl
direction_back Tx = refl

abbrev pub handles : {S : Framing} → List (LinkOf S) → List ℕ
handles {S} ls = map (λ (x : LinkOf S). x.handle) ls

not_handle : {S : Framing} (h : ℕ) (l : LinkOf S) {ls : List (LinkOf S)} → Memᴰ l ls → All (λ (k : ℕ). k ≢ h) (handles ls) → l.handle ≢ h
not_handle h l (mathlib.Core.List.Memᴰ.head e) (all_cons p ps) = rw e p
not_handle h l (mathlib.Core.List.Memᴰ.tail m) (all_cons p ps) = not_handle h l m ps

pub found : {A : Type 0} {S : Framing} (else : A) (f : LinkOf S → Direction → A) (l : LinkOf S) (t : Direction) {ls : List (LinkOf S)} → Memᴰ l ls → Different (handles ls) → of_handle else f ls l.handle (rx_of t) ≡ f l t
unfolding of_handle
found else f l t (mathlib.Core.List.Memᴰ.head {x = y} e) (one_more p ps) = rw (e, eq-eqb y.handle y.handle refl, direction_back t)
found else f l t (mathlib.Core.List.Memᴰ.tail {x = y} m) (one_more p ps) =
    let n : l.handle ≢ y.handle = not_handle y.handle l m p in
    rw (ne_eqb y.handle l.handle (λ q. n (sym q))) (found else f l t m ps)

-- ---- the link directions

abbrev pub directions : {S : Framing} → List (LinkOf S) → List Key
directions [] = []
directions (l ∷ ls) = link_key l Rx ∷ link_key l Tx ∷ directions ls

pub on_directions : {S : Framing} (l : LinkOf S) (t : Direction) {ls : List (LinkOf S)} → Memᴰ l ls → mem (link_key l t) (directions ls) ≡ true
unfolding rx_of
on_directions l Rx (mathlib.Core.List.Memᴰ.head {x = y} {xs = ys} e) = rw e (mem_head (link_key y Rx) (link_key y Tx ∷ directions ys))
on_directions l Tx (mathlib.Core.List.Memᴰ.head {x = y} {xs = ys} e) = rw e (mem_tail (link_key y Tx) (link_key y Rx) (link_key y Tx ∷ directions ys) (mem_head (link_key y Tx) (directions ys)))
on_directions l t (mathlib.Core.List.Memᴰ.tail {x = y} {xs = ys} m) = mem_tail (link_key l t) (link_key y Rx) (link_key y Tx ∷ directions ys) (mem_tail (link_key l t) (link_key y Tx) (directions ys) (on_directions l t m))

not_direction : {S : Framing} (h r : ℕ) (ls : List (LinkOf S)) → All (λ (k : ℕ). k ≢ h) (handles ls) → mem (h ∷ r ∷ []) (directions ls) ≡ false
unfolding mem
not_direction h r [] all_nil = refl
not_direction h r (l ∷ ls) (all_cons p ps) =
    rw (ne_eq_k (h ∷ r ∷ []) (link_key l Rx) (λ e. p (let z : h ≡ l.handle = cc in sym z)), ne_eq_k (h ∷ r ∷ []) (link_key l Tx) (λ e. p (let z : h ≡ l.handle = cc in sym z))) (not_direction h r ls ps)

rx_tx : (h : ℕ) → h ∷ rx_of Rx ∷ [] ≢ h ∷ rx_of Tx ∷ []
unfolding rx_of
rx_tx h e = let z : ◌≡◌ {A = ℕ} 1 0 = cc in omega arith

pub directions_once : {S : Framing} (ls : List (LinkOf S)) → Different (handles ls) → Once (directions ls)
unfolding mem
directions_once [] no_more = once_nil
directions_once (l ∷ ls) (one_more p ps) =
    once_cons {x = link_key l Rx} {xs = link_key l Tx ∷ directions ls} (rw (ne_eq_k (link_key l Rx) (link_key l Tx) (rx_tx l.handle)) (not_direction l.handle (rx_of Rx) ls p))
    (once_cons {x = link_key l Tx} {xs = directions ls} (not_direction l.handle (rx_of Tx) ls p) (directions_once ls ps))

-- ---- those that end mid-frame

-- by the key of a link direction
abbrev pub mid_at : {C : Container} {S : Framing} → RecordingOf C S → ℕ → Key → Bool
mid_at R n k = mid_frame 0 (length (information_of k (data_left R n))) (wires_of R.links (get_or k 0 0) (get_or k 1 0))

mid_count : {C : Container} {S : Framing} (R : RecordingOf C S) (n : ℕ) → Different (handles R.links) → (ls : List (LinkOf S)) → ((l : LinkOf S) → Memᴰ l ls → Memᴰ l R.links) → mid_in R n ls ≡ count (mid_at R n) (directions ls)
unfolding mid_in ends_mid count
mid_count R n D [] sub = refl
mid_count R n D (l ∷ ls) sub =
    let m : Memᴰ l R.links = sub l (mathlib.Core.List.Memᴰ.head refl) in
    rw (mid_count R n D ls (λ x i. sub x (mathlib.Core.List.Memᴰ.tail i)), found [] wires l Rx m D, found [] wires l Tx m D)
    (split_b (mid_frame 0 (length (information_of (link_key l Rx) (data_left R n))) (wires l Rx))
    (λ e. split_b (mid_frame 0 (length (information_of (link_key l Tx) (data_left R n))) (wires l Tx)) (λ f. rw (e, f) (omega arith)) (λ f. rw (e, f) (omega arith)))
    (λ e. split_b (mid_frame 0 (length (information_of (link_key l Tx) (data_left R n))) (wires l Tx)) (λ f. rw (e, f) (omega arith)) (λ f. rw (e, f) (omega arith))))

pub mid_counted : {C : Container} {S : Framing} (R : RecordingOf C S) (n : ℕ) → Different (handles R.links) → mid_in R n R.links ≡ count (mid_at R n) (directions R.links)
mid_counted R n D = mid_count R n D R.links (λ l m. m)

-- ---- the bytes after the last closing 3C

-- by handle and direction
abbrev pub past_at : {C : Container} {S : Framing} → RecordingOf C S → ℕ → ℕ → ℕ → ℕ
past_at R n h r = past_close 0 (length (information_of (plain h r) (data_left R n))) (wires_of R.links h r)

past_total : {C : Container} {S : Framing} (R : RecordingOf C S) (n : ℕ) → Different (handles R.links) → (ls : List (LinkOf S)) → ((l : LinkOf S) → Memᴰ l ls → Memᴰ l R.links) → past_in R n ls ≡ total (λ k. past_at R n (get_or k 0 0) (get_or k 1 0)) (directions ls)
unfolding past_in past_link total
past_total R n D [] sub = refl
past_total R n D (l ∷ ls) sub =
    let m : Memᴰ l R.links = sub l (mathlib.Core.List.Memᴰ.head refl) in
    rw (past_total R n D ls (λ x i. sub x (mathlib.Core.List.Memᴰ.tail i)), found [] wires l Rx m D, found [] wires l Tx m D) (omega arith)

pub past_added : {C : Container} {S : Framing} (R : RecordingOf C S) (n : ℕ) → Different (handles R.links) → past_in R n R.links ≡ total (λ k. past_at R n (get_or k 0 0) (get_or k 1 0)) (directions R.links)
past_added R n D = past_total R n D R.links (λ l m. m)
