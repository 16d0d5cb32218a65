-- Merging sorted halves is sorting, for any test that is total and transitive.
use mathlib.Core.Path.{◌≡◌, refl, sym, ap, ◌∙◌}
use mathlib.Core.Bool.{Bool, true, false}
use mathlib.Core.List.{List, [], ◌∷◌, ◌++◌, map}
use Rattle.laws.proofs.Choice.{split_b, no_way}
use Rattle.sorting.specs.Sort.{insert, isort, merge}
use Rattle.sorting.specs.Chains.{Chain, chain_nil, chain_one, chain_more, back}
use Rattle.laws.specs.Lists.{All, all_nil, all_cons}

module _ {A : Type 0} (le : A → A → Bool) where
  pub merge_nil : (a : List A) → merge le a [] ≡ a
  unfolding merge
  merge_nil [] = refl
  merge_nil (x ∷ a) = refl

  single : (x : A) (b : List A) → insert le x b ≡ merge le (x ∷ []) b
  unfolding insert merge
  single x [] = refl
  single x (y ∷ b) = rw (single x b)

  module _ (trans : (x y z : A) → le x y ≡ true → le y z ≡ true → le x z ≡ true) (total : (x y : A) → le x y ≡ false → le y x ≡ true) where
    go : (x z : A) (a : List A) (y : A) (b : List A) (p q r : Bool) → le x z ≡ p → le z y ≡ q → le x y ≡ r
        → insert le x (merge le a (y ∷ b)) ≡ merge le (insert le x a) (y ∷ b) → insert le x (merge le (z ∷ a) b) ≡ merge le (insert le x (z ∷ a)) b
        → insert le x (merge le (z ∷ a) (y ∷ b)) ≡ merge le (insert le x (z ∷ a)) (y ∷ b)
    unfolding insert merge
    go x z a y b true true true e f g h k = simp (e, f, g)
    go x z a y b true true false e f g h k = no_way (trans x z y e f) g
    go x z a y b true false true e f g h k = simp (e, f, g)
    go x z a y b true false false e f g h k = simp (e, f, g) (ap (λ (l : List A). y ∷ l) (simp e at k))
    go x z a y b false true r e f g h k = simp (e, f) (ap (λ (l : List A). z ∷ l) h)
    go x z a y b false false true e f g h k = no_way (trans x y z g (total z y f)) e
    go x z a y b false false false e f g h k = simp (e, f, g) (ap (λ (l : List A). y ∷ l) (simp e at k))

    merge_insert : (x : A) (a b : List A) → insert le x (merge le a b) ≡ merge le (insert le x a) b
    unfolding insert merge
    merge_insert x [] b = single x b
    merge_insert x (z ∷ a) [] = ap (insert le x) (merge_nil (z ∷ a)) ∙ sym (merge_nil (insert le x (z ∷ a)))
    merge_insert x (z ∷ a) (y ∷ b) = go x z a y b (le x z) (le z y) (le x y) refl refl refl (merge_insert x a (y ∷ b)) (merge_insert x (z ∷ a) b)

    -- the sort of two parts is the merge of their sorts
    pub isort_append : (a b : List A) → isort le (a ++ b) ≡ merge le (isort le a) (isort le b)
    unfolding isort merge
    isort_append [] b = refl
    isort_append (x ∷ a) b = ap (insert le x) (isort_append a b) ∙ merge_insert x (isort le a) (isort le b)

-- ---- a sorted list rises, so two of them that meet in order are merged as they stand, and two that are wholly the wrong
-- way round are merged by changing them round

module _ {A : Type 0} (le : A → A → Bool) (trans : (x y z : A) → le x y ≡ true → le y z ≡ true → le x z ≡ true) (total : (x y : A) → le x y ≡ false → le y x ≡ true) where
  rise_insert : (x : A) (l : List A) → Chain le true l → Chain le true (insert le x l)
  unfolding insert
  rise_insert x [] r = chain_one
  rise_insert x (y ∷ []) r = split_b (le x y) (λ e. rw e (chain_more e r)) (λ e. rw e (chain_more (total x y e) chain_one))
  rise_insert x (y ∷ z ∷ l) (chain_more q r) =
      split_b (le x y)
      (λ e. rw e (chain_more e (chain_more q r)))
      (λ e. split_b (le x z)
      (λ f. rw (e, f) (chain_more (total x y e) (chain_more f r)))
      (λ f. rw (e, f) (chain_more q (rw f at (rise_insert x (z ∷ l) r)))))

  rise_isort : (l : List A) → Chain le true (isort le l)
  unfolding isort
  rise_isort [] = chain_nil
  rise_isort (x ∷ l) = rise_insert x (isort le l) (rise_isort l)

  first_last : (x : A) (k : List A) (a : A) → Chain le true (x ∷ k ++ (a ∷ [])) → le x a ≡ true
  first_last x [] a (chain_more q r) = q
  first_last x (y ∷ k) a (chain_more q r) = trans x y a q (first_last y k a r)

  rest : (x : A) (l : List A) → Chain le true (x ∷ l) → Chain le true l
  rest x [] r = chain_nil
  rest x (y ∷ l) (chain_more q r) = r

  meet : (k : List A) (a y : A) (b : List A) → Chain le true (k ++ (a ∷ [])) → le a y ≡ true → merge le (k ++ (a ∷ [])) (y ∷ b) ≡ (k ++ (a ∷ [])) ++ (y ∷ b)
  unfolding merge
  meet [] a y b r q = rw q
  meet (x ∷ k) a y b r q = rw (trans x a y (first_last x k a r) q, meet k a y b (rest x (k ++ (a ∷ [])) r) q)

  -- the last of the first part, a, does not come after the first of the second, y
  pub merge_met : (l k : List A) (a y : A) (b : List A) → isort le l ≡ k ++ (a ∷ []) → le a y ≡ true → merge le (isort le l) (y ∷ b) ≡ isort le l ++ (y ∷ b)
  merge_met l k a y b e q = rw e (meet k a y b (rw e at (rise_isort l)) q)

  turn : (x : A) (a k : List A) (z : A) → Chain le true (k ++ (z ∷ [])) → le x z ≡ false → merge le (x ∷ a) (k ++ (z ∷ [])) ≡ (k ++ (z ∷ [])) ++ (x ∷ a)
  unfolding merge
  turn x a [] z r q = rw q
  turn x a (y ∷ k) z r q =
      split_b (le x y)
      (λ e. no_way (trans x y z e (first_last y k z r)) q)
      (λ e. rw (e, turn x a k z (rest y (k ++ (z ∷ [])) r) q))

  -- the first of the first part, x, comes after the last of the second, z
  pub merge_turned : (l k : List A) (x z : A) (a : List A) → isort le l ≡ k ++ (z ∷ []) → le x z ≡ false → merge le (x ∷ a) (isort le l) ≡ isort le l ++ (x ∷ a)
  merge_turned l k x z a e q = rw e (turn x a k z (rw e at (rise_isort l)) q)

-- ---- a list that rises stays, and one that falls is turned

module _ {A : Type 0} (le : A → A → Bool) where
  pub isort_up : (l : List A) → Chain le true l → isort le l ≡ l
  unfolding isort insert
  isort_up [] c = refl
  isort_up (x ∷ []) c = refl
  isort_up (x ∷ y ∷ l) (chain_more q c) = let e : insert le y (isort le l) ≡ y ∷ l = isort_up (y ∷ l) c in rw (e, q)

  -- x comes after all of a list
  abbrev Above : A → List A → Type 0
  Above x l = All (λ (y : A). le x y ≡ false) l

  above_append : (x : A) (a b : List A) → Above x a → Above x b → Above x (a ++ b)
  above_append x [] b p q = q
  above_append x (y ∷ a) b (all_cons e p) q = all_cons e (above_append x a b p q)

  above_back : (x : A) (l : List A) → Above x l → Above x (back l)
  unfolding back
  above_back x [] p = all_nil
  above_back x (y ∷ l) (all_cons e p) = above_append x (back l) (y ∷ []) (above_back x l p) (all_cons e all_nil)

  insert_last : (x : A) (l : List A) → Above x l → insert le x l ≡ l ++ (x ∷ [])
  unfolding insert
  insert_last x [] p = refl
  insert_last x (y ∷ l) (all_cons e p) = rw (e, insert_last x l p)

  module _ (trans : (x y z : A) → le x y ≡ true → le y z ≡ true → le x z ≡ true) (total : (x y : A) → le x y ≡ false → le y x ≡ true) where
    above_chain : (x y : A) (l : List A) → le x y ≡ false → Chain le false (y ∷ l) → Above x (y ∷ l)
    above_chain x y [] e c = all_cons e all_nil
    above_chain x y (z ∷ l) e (chain_more q c) =
        all_cons e (above_chain x z l (split_b (le x z) (λ t. no_way (trans x z y t (total y z q)) e) (λ t. t)) c)

    pub isort_down : (l : List A) → Chain le false l → isort le l ≡ back l
    unfolding isort back
    isort_down [] c = refl
    isort_down (x ∷ []) c = insert_last x [] all_nil
    isort_down (x ∷ y ∷ l) (chain_more q c) =
        ap (insert le x) (isort_down (y ∷ l) c) ∙ insert_last x (back (y ∷ l)) (above_back x (y ∷ l) (above_chain x y l q c))

-- ---- sorting by what f makes of the elements is sorting what f makes of them

module _ {A B : Type 0} (le : B → B → Bool) (f : A → B) where
  abbrev pub by : A → A → Bool
  by x y = le (f x) (f y)

  map_insert : (x : A) (l : List A) → map f (insert by x l) ≡ insert le (f x) (map f l)
  unfolding insert
  map_insert x [] = refl
  map_insert x (y ∷ l) = split_b (le (f x) (f y)) (λ e. rw e) (λ e. rw (e, map_insert x l))

  pub map_isort : (l : List A) → map f (isort by l) ≡ isort le (map f l)
  unfolding isort
  map_isort [] = refl
  map_isort (x ∷ l) = map_insert x (isort by l) ∙ ap (insert le (f x)) (map_isort l)
