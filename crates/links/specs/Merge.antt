-- Import's list beside the lists of its links: a list that is merged from one list for each link.
use Rattle.std.specs.Prelude.{ℕ, ◌≡◌, not, List, [], ◌∷◌, map, length, eqb}
use Rattle.laws.specs.Keyed.{keep}
use Rattle.laws.specs.Totals.{total}
use Rattle.items.specs.Items.{Span}
use Rattle.container.specs.Packets.{Packet}
use Rattle.container.specs.Container.{Container, packets_in}
use Rattle.links.specs.OneLink.{own_spans, own_unfinished}

-- a member with a link beside it
pub record Labelled (A : Type 0) : Type 0 where
  pub link : ℕ
  pub item : A

-- a link is written beside each member of the whole; the members of each link, in order, are that link's list
pub record Merge {A : Type 0} (whole : List A) (lists : ℕ → List A) : Type 0 where
  pub beside : List (Labelled A)
  pub all : map (λ x. x.item) beside ≡ whole
  pub each : (l : ℕ) → map (λ x. x.item) (keep (λ x. eqb x.link l) beside) ≡ lists l

-- the links of packets, each once
unfoldable pub links_of : List Packet → List ℕ
links_of [] = []
links_of (a ∷ ps) = a.link ∷ keep (λ l. not (eqb l a.link)) (links_of ps)

-- a list of spans and a count of unfinished buffers, of the DLCI d: the list is merged from the lists of the links, and both counts are their sums
pub record Splits (C : Container) (f : List ℕ) (d : ℕ) (ss : List Span) (u : ℕ) : Type 0 where
  pub merge : Merge ss (λ l. own_spans C l d f)
  pub frames : length ss ≡ total (λ l. length (own_spans C l d f)) (links_of (packets_in C f))
  pub unfinished : u ≡ total (λ l. own_unfinished C l d f) (links_of (packets_in C f))
