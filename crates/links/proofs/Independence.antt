-- What a call for one link gives depends on that link's packets alone.
use Prim.Native.Nat.{ℕ, ◌≤◌}
use mathlib.Core.Path.{◌≡◌, refl, sym, ◌∙◌}
use mathlib.Core.Bool.{cond}
use mathlib.Core.List.{List, []}
use lib.ListN.{length}
use borrow.Author.Tests.{le-leb}
use Rattle.laws.specs.Answers.{Answer, accepted, Outcome, gives, refuses, answer, output, Meets}
use Rattle.laws.specs.Stores.{filled}
use Rattle.container.specs.Packets.{Packet, link_of}
use Rattle.container.specs.Container.{Container}
use Rattle.outcome.specs.Import.{strict}
use Rattle.opening.specs.Opening.{opened, or_given}
use Rattle.links.specs.OneLink.{own, may_ask, listed_of, one_link}
use Rattle.links.specs.Alone.{ReadsWhole, wanted, SameGiven, AloneClaim}

-- two calls with one outcome, and enough lent for both
same_given :
    (o : Outcome) (out : List ℕ) (a : Answer) (out' : List ℕ) → Meets o out a out' → length (wanted o) ≤ length out →
    (out₂ : List ℕ) (a₂ : Answer) (out₂' : List ℕ) → Meets o out₂ a₂ out₂' → length (wanted o) ≤ length out₂ → SameGiven (wanted o) out a out' out₂ a₂ out₂'
unfolding wanted answer output filled
same_given (gives vs w) out a out' m h out₂ a₂ out₂' m₂ h₂ = record {
  answers =
      let x : answer (gives vs w) (length out) ≡ accepted vs = rw (le-leb (length w) (length out) h) in
      let y : answer (gives vs w) (length out₂) ≡ accepted vs = rw (le-leb (length w) (length out₂) h₂) in
      m.answers ∙ x ∙ sym (m₂.answers ∙ y);
  writes = m.writes ∙ rw (le-leb (length w) (length out) h);
  writes₂ = m₂.writes ∙ rw (le-leb (length w) (length out₂) h₂);
}
same_given (refuses n vs) out a out' m h out₂ a₂ out₂' m₂ h₂ = record { answers = m.answers ∙ sym m₂.answers; writes = m.writes; writes₂ = m₂.writes }

reads_whole : (C : Container) (f : List ℕ) (work : ℕ) → ReadsWhole C f work → (o : Outcome) → or_given (opened C f work strict) o ≡ o
unfolding or_given
reads_whole C f work h o = rw h

-- a kind of call whose outcome, after 1 to 5, is made of the link's packets
pub alone_claim :
    (call : Container → List ℕ → ℕ → Outcome) (link : ℕ) (rest : List Packet → Outcome) →
    ((C : Container) (f : List ℕ) (work : ℕ) → call C f work ≡ or_given (opened C f work strict) (rest (own C link f))) →
    (C : Container) (f : List ℕ) (work : ℕ) (out : List ℕ) (a : Answer) (out' : List ℕ) → Meets (call C f work) out a out' → AloneClaim call link C f work out a out'
alone_claim call link rest is C f work out a out' m C₂ f₂ work₂ out₂ a₂ out₂' m₂ h h₂ e k k₂ =
    let s : call C f work ≡ rest (own C link f) = is C f work ∙ reads_whole C f work h (rest (own C link f)) in
    let s₂ : call C₂ f₂ work₂ ≡ rest (own C link f) = is C₂ f₂ work₂ ∙ reads_whole C₂ f₂ work₂ h₂ (rest (own C₂ link f₂)) ∙ rw e in
    rw s
    (same_given (rest (own C link f)) out a out' (rw s at m) (rw s at k) out₂ a₂ out₂' (rw s₂ at m₂) (rw s₂ at k₂))

module _ (index handle d : ℕ) where
  abbrev rest : List Packet → Outcome
  rest ps = cond (may_ask handle d) (listed_of d ps) (refuses 23 [])

  one_link_is : (C : Container) (f : List ℕ) (work : ℕ) → one_link C f work index handle d ≡ or_given (opened C f work strict) (rest (own C (link_of index handle) f))
  unfolding one_link
  one_link_is C f work = refl

  -- two files that strict reading does not refuse by 1 to 5 and that hold the same packets of the link: the same outcome, whatever output is lent
  pub outcome_alone :
      (C : Container) (f : List ℕ) (work : ℕ) (C₂ : Container) (f₂ : List ℕ) (work₂ : ℕ) → ReadsWhole C f work → ReadsWhole C₂ f₂ work₂ →
      own C (link_of index handle) f ≡ own C₂ (link_of index handle) f₂ → one_link C f work index handle d ≡ one_link C₂ f₂ work₂ index handle d
  outcome_alone C f work C₂ f₂ work₂ p q e =
      one_link_is C f work
      ∙ reads_whole C f work p (rest (own C (link_of index handle) f))
      ∙ rw e (sym (one_link_is C₂ f₂ work₂ ∙ reads_whole C₂ f₂ work₂ q (rest (own C₂ (link_of index handle) f₂))))

  -- whatever meets the definition meets the claim
  pub link_alone :
      (C : Container) (f : List ℕ) (work : ℕ) (out : List ℕ) (a : Answer) (out' : List ℕ) → Meets (one_link C f work index handle d) out a out' →
      AloneClaim (λ B g n. one_link B g n index handle d) (link_of index handle) C f work out a out'
  link_alone = alone_claim (λ B g n. one_link B g n index handle d) (link_of index handle) rest one_link_is
