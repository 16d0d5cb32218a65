-- Walking the records: what one step finds, and what it does to the records still to come.
use Rattle.std.specs.Prelude.{ℕ, ◌+◌, ◌-◌, ◌≤◌, ◌≡◌, Bool, ◌&&◌, List, ◌∷◌, length, take, drop, eqb}
use Rattle.container.specs.Container.{is_whole}
use Rattle.trace.specs.Formats.{record_head, size_by, records_from}
use Rattle.trace.specs.declared.Format.{Format}

-- the record at a place ends at e
pub record RecordAt (g : Format) (f : List ℕ) (at e : ℕ) : Type 0 where
  pub least : at + record_head g ≤ e
  pub most : e ≤ length f
  pub list : records_from g f at ≡ take (e - at) (drop at f) ∷ records_from g f e

-- a record stands from one place up to another
pub record RecordPre (g : Format) (f : List ℕ) (at end : ℕ) : Type 0 where
  pub least : at + record_head g ≤ end
  pub most : end ≤ length f
  pub small : length f ≤ 1048576

-- a whole record without bytes
unfoldable pub is_empty : Format → List ℕ → Bool
is_empty g b = eqb (size_by g b) (record_head g) && is_whole (size_by g) b
