use Rattle.std.proofs.Common.{◌≡◌, ◌∙◌, ap, subst, ℕ, List, IsPermutation}
use Rattle.law_register.specs.Register.LawList.{acts_of, laws, works_enacted}
use Rattle.law_register.specs.Register.Listing.{works_at}
use Rattle.law_register.specs.Register.Registers.{Contents}
use Rattle.law_register.proofs.Enacting.{works_are}
use Rattle.law_register.proofs.register.register.Register.works.Goals as goal

pub returns-clause-all : goal.returns-clause-all
returns-clause-all c =
    let E = c.self.inside.entries.items in
    let ix = c.self.inside.indexes in
    let same : c.in_ok-works.works.items ≡ works_enacted (laws c.args.self.now.entries) =
    c.in_ok-works.ensures ∙ ap (λ es. works_at es c.deref-2.result.now) c.deref.ensures.value ∙ ap (works_at E) c.deref-2.ensures.value
    ∙ works_are E ix.acts.items (acts_of (laws E)) c.self.invariant.stands.acts ∙ ap (λ (s : Contents). works_enacted (laws s.entries)) c.self.view_is in
    let P : List (List ℕ) → Type 0 = λ works. IsPermutation works c.sort.new.self.items in
    subst P same c.sort.ensures.permutation
