use Rattle.std.proofs.Common.{◌≡◌, ℕ, List, Option, Ok, subst, sym, ◌∙◌}
use Rattle.std.proofs.lemmas.Slice.Eq.{slice_eq-Decides}
use Rattle.std.proofs.lemmas.Bool.Decides.{Decides-eqb}
use Rattle.law_journal.specs.Journals.{read_into}
use Rattle.law_keeper.specs.Keepers.{Gives}
use Rattle.law_keeper.proofs.Found.{same_found, other_found}
use Rattle.law_keeper.proofs.walking.settle.Goals as goal

pub returns-then-eq-clause-found : goal.returns-then-eq-clause-found
returns-then-eq-clause-found g c =
    let holding = g.K.Keeper.holding in
    let mid = holding c.reopen.new.self in
    let new = holding c.load.new.self in
    let entry : List ℕ × ℕ = (c.load.new.into.items, c.in-Some.next) in
    let given = subst (λ (o : Option ℕ). Gives mid c.args.end new (read_into c.load.new.into.items (Ok o))) c.in-Some.is c.in_ok-next.ensures.given in
    let same = slice_eq-Decides Decides-eqb c.as_slice.result.now c.args.payload.now c.eq.result c.eq.ensures in
    same_found _ mid new c.args.end _ c.in_ok-reopen.ensures.same c.in_ok-next.ensures.same entry given (sym c.as_slice.ensures.value ∙ same.0 c.if-eq.true)

pub returns-clause-found : goal.returns-clause-found
returns-clause-found g c =
    let holding = g.K.Keeper.holding in
    let mid = holding c.reopen.new.self in
    let new = holding c.load.new.self in
    let entry : List ℕ × ℕ = (c.load.new.into.items, c.in-Some.next) in
    let given = subst (λ (o : Option ℕ). Gives mid c.args.end new (read_into c.load.new.into.items (Ok o))) c.in-Some.is c.in_ok-next.ensures.given in
    let same = slice_eq-Decides Decides-eqb c.as_slice.result.now c.args.payload.now c.eq.result c.eq.ensures in
    other_found _ mid new c.args.end _ c.in_ok-reopen.ensures.same c.in_ok-next.ensures.same entry given (λ (is : entry.0 ≡ c.args.payload.now). cc (same.1 (c.as_slice.ensures.value ∙ is), c.if-eq.false))
