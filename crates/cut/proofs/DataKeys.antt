-- Where a key of data PDUs is: at one link direction, or nowhere. So the pieces that they bring have a stretch for each link direction, once.
use Prim.Native.Nat.{ℕ, ◌<◌}
use mathlib.Core.Path.{◌≡◌, refl, sym, ◌∙◌}
use mathlib.Core.Logic.{◌≢◌}
use mathlib.Core.Bool.{true}
use mathlib.Core.List.{List, [], ◌∷◌, map, Memᴰ}
use native.Mathlib.Omega.{arith}
use lib.ListN.{length, get_or}
use Rattle.laws.proofs.Choice.{no_way}
use Rattle.laws.specs.Lists.{All, all_nil, all_cons}
use Rattle.laws.specs.Keys.{Key}
use Rattle.laws.proofs.Keys.{split_k, eq_eq_k, ne_eq_k}
use Rattle.laws.specs.Keyed.{of}
use Rattle.laws.specs.Count.{mem, count}
use Rattle.laws.specs.Totals.{hits, Among}
use Rattle.items.specs.declared.Direction.{Direction}
use Rattle.items.specs.declared.Direction.TheVariants.{Rx, Tx}
use Rattle.items.specs.Items.{rx_of}
use Rattle.rfcomm.specs.Pieces.{Piece}
use Rattle.cut.specs.Recording.{LinkOf, Framing}
use Rattle.cut.specs.Left.{Data, data_key, link_key, information_of}
use Rattle.cut.specs.Honest.{Different}
use Rattle.cut.proofs.Interleaving.{plain, as_piece, Apart}
use Rattle.cut.proofs.Counts.{once_hits}
use Rattle.cut.proofs.LinkWires.{handles, directions, on_directions, directions_once}
use Rattle.cut.proofs.DataPdus.{OnLink}

pub data Where {S : Framing} (ls : List (LinkOf S)) (k : Key) (xs : List Data) : Type 0 where
  nowhere : of data_key k xs ≡ [] → Where ls k xs
  at_link : (l : LinkOf S) (t : Direction) → Memᴰ l ls → k ≡ link_key l t → Where ls k xs

pub where_is_law : {S : Framing} (ls : List (LinkOf S)) (k : Key) {xs : List Data} → All (OnLink ls) xs → Where ls k xs
unfolding of
where_is_law ls k all_nil = nowhere refl
where_is_law ls k (all_cons {x = x} {xs = xs} o os) =
    split_k (data_key x) k
    (λ e. at_link o.link o.direction o.listed (sym e ∙ o.is))
    (λ n. go n (where_is_law ls k os))
  where
    go : data_key x ≢ k → Where ls k xs → Where ls k (x ∷ xs)
    go n (nowhere e) = nowhere (rw (ne_eq_k (data_key x) k n) e)
    go n (at_link l t m e) = at_link l t m e

-- a key with information is among the data PDUs' keys, and is a link direction
pub occurs : (k : Key) (xs : List Data) → 0 < length (information_of k xs) → mem k (map data_key xs) ≡ true
unfolding of mem
occurs k [] h = absurd (omega arith)
occurs k (x ∷ xs) h =
    split_k k (data_key x)
    (λ e. rw (eq_eq_k k (data_key x) e))
    (λ n. rw (ne_eq_k k (data_key x) n) (occurs k xs (rw (ne_eq_k (data_key x) k (λ q. n (sym q))) at h)))

pub within : {S : Framing} (k : Key) (ls : List (LinkOf S)) {xs : List Data} → All (OnLink ls) xs → mem k (map data_key xs) ≡ true → mem k (directions ls) ≡ true
unfolding mem
within k ls all_nil h = no_way h refl
within k ls (all_cons {x = x} {xs = xs} o os) h =
    split_k k (data_key x)
    (λ e. rw (e, o.is) (on_directions o.link o.direction o.listed))
    (λ n. within k ls os (rw (ne_eq_k k (data_key x) n) at h))

-- ---- the pieces' keys

-- the stretch of a link direction, by its key
abbrev pub stretch_at : (ℕ → ℕ → Key) → Key → Key
stretch_at F k = F (get_or k 0 0) (get_or k 1 0)

module _ (d : ℕ) (F : ℕ → ℕ → Key) (apart : Apart F) where
  hits_stretch : {S : Framing} (h r : ℕ) (ls : List (LinkOf S)) → hits (F h r) (map (stretch_at F) (directions ls)) ≡ hits (plain h r) (directions ls)
  unfolding count
  hits_stretch h r [] = refl
  hits_stretch h r (l ∷ ls) = rw (apart h r l.handle (rx_of Rx), apart h r l.handle (rx_of Tx), hits_stretch h r ls)

  -- the key of each piece is the stretch of one link direction
  pub among_directions : {S : Framing} {ls : List (LinkOf S)} → Different (handles ls) → {xs : List Data} → All (OnLink ls) xs → All (Among (λ (p : Piece). p.key) (map (stretch_at F) (directions ls))) (map (as_piece d F) xs)
  among_directions D all_nil = all_nil
  among_directions {ls = ls} D (all_cons {x = x} o os) =
      all_cons (record { once = hits_stretch x.link x.rx ls ∙ once_hits (data_key x) (directions_once ls D) ∙ rw (o.is, on_directions o.link o.direction o.listed) }) (among_directions D os)
