-- The names of a list that is well-formed, printed one after another.
use Rattle.std.proofs.Common.{ℕ, ◌≤◌, ◌≡◌, refl, sym, ap, ◌∙◌, subst, true, false, List, [], ◌∷◌, ◌++◌, append_assoc, append-nil, length, eqb, arith}
use Rattle.std.specs.Prelude.{Some, Result, Ok, Err}
use Rattle.std.specs.declared.option.Option.{Option}
use Rattle.std.specs.Io.KnownBytes.{Appends}
use Rattle.std.proofs.KnownBytes.{Appends-nil, Appends-trans}
use Rattle.items.specs.Items.{end_at, well_formed, ill_formed}
use Rattle.items.specs.Walks.{any_item, Walks, items_from}
use Rattle.items.proofs.Walks.{walks_turn, walks_end}
use Rattle.items.specs.Entries.{item_of, Stands, GivesEntry, Over}
use Rattle.items.proofs.Entries.{stands_low, stands_more, gave_entry, gave_ill, over_stands, over_at, over_on, over_stops}
use Rattle.items.specs.declared.Listing.TheVariants.{Any}
use Rattle.items.specs.declared.walking.Entry.{Entry}
use Rattle.items.specs.declared.walking.Walk.{Walk}
use Rattle.traceprint.specs.Lines.{name_lines}

-- what is printed so far, and what is left
pub record Printing (l : List ℕ) (at : ℕ) (a b : Option (List ℕ)) : Type 0 where
  pub walks : Walks any_item l at
  pub done : List ℕ
  pub grown : Appends a b done
  pub left : done ++ name_lines (items_from any_item l at) ≡ name_lines (items_from any_item l 0)

pub printing_start : (l : List ℕ) (a : Option (List ℕ)) → Walks any_item l 0 → Printing l 0 a a
printing_start l a w = record { walks = w; done = []; grown = Appends-nil a; left = refl }

pub printing_end : (l : List ℕ) (at : ℕ) (a b : Option (List ℕ)) → Printing l at a b → length l ≤ at → Appends a b (name_lines (items_from any_item l 0))
printing_end l at a b p h =
    let e : p.done ≡ name_lines (items_from any_item l 0) = sym (append-nil p.done) ∙ rw (walks_end any_item l at p.walks h) at p.left in
    subst (Appends a b) e p.grown

-- the item printed, or passed over
module _ (l : List ℕ) (w m : Walk) (o : Over l Any w) (x : Result Entry ℕ) (g : GivesEntry w (Some x) m) where
  pub printing_on : (e : Entry) → x ≡ Ok e → Over l Any m
  printing_on e n = over_on l Any w m o e (gave_entry w m x g e n)

  module _ (a b : Option (List ℕ)) (p : Printing l w.at a b) where
    module _ (e : Entry) (n : x ≡ Ok e) where
      s : Stands any_item l w.at e
      s = over_stands l Any w m o e (gave_entry w m x g e n)

      next : m.at ≡ end_at l w.at
      next = over_at l Any w m o e (gave_entry w m x g e n)

      walks : Walks any_item l m.at
      walks = rw next (walks_turn any_item l w.at p.walks (stands_low any_item l w.at e s)).next

      head : items_from any_item l w.at ≡ item_of e ∷ items_from any_item l m.at
      head = rw next (stands_more any_item l w.at e s (rw next at walks))

      pub printing_other : eqb e.kind 3 ≡ false → Printing l m.at a b
      printing_other k = record { walks = walks; done = p.done; grown = p.grown; left = rw k at (rw head at p.left) }

      pub printing_name : (c d : Option (List ℕ)) → eqb e.kind 3 ≡ true → Appends b c e.body.now → Appends c d (10 ∷ []) → Printing l m.at a d
      printing_name c d k first second =
          let body = e.body.now in
          let rest = name_lines (items_from any_item l m.at) in
          let left : p.done ++ (body ++ (10 ∷ rest)) ≡ name_lines (items_from any_item l 0) = rw k at (rw head at p.left) in
          record {
            walks = walks;
            done = p.done ++ (body ++ (10 ∷ []));
            grown = Appends-trans a b d p.done (body ++ (10 ∷ [])) p.grown (Appends-trans b c d body (10 ∷ []) first second);
            left = append_assoc p.done (body ++ (10 ∷ [])) rest ∙ ap (λ x. p.done ++ x) (append_assoc body (10 ∷ []) rest) ∙ left;
          }

    -- a list that is well-formed there is not ill-formed there
    pub never_ill : {G : Type 0} (n : ℕ) → x ≡ Err n → G
    never_ill n q =
        let i : well_formed (items_from any_item l w.at) ≡ ill_formed w.at = sym p.walks.well ∙ over_stops l Any w m o n (gave_ill w m x g n q) in
        let z : ◌≡◌ {A = ℕ} 0 1 = cc in absurd (omega arith)
