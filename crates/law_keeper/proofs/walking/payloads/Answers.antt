use Rattle.std.proofs.Common.{rules, ◌∙◌, ap, sym, subst, List, [], ◌∷◌, ◌++◌, ℕ, Option, Ok}
use Rattle.law_journal.specs.Journals.{read_into}
use Rattle.law_keeper.specs.Keepers.{Gives, bytes_of}
use Rattle.law_keeper.proofs.Walks.{HasWalked, one_more, bytes_last}
use Rattle.law_keeper.proofs.walking.payloads.Goals as goal

pub walk-preserved : goal.walk-preserved
walk-preserved g c =
    let holding = g.K.Keeper.holding in
    let now = holding c.walk.keeper in
    let next = holding c.load.new.self in
    let payload = c.load.new.into.items in
    let entry : List ℕ × ℕ = (payload, c.in-Some.next) in
    let given = subst (λ (o : Option ℕ). Gives now c.walk.cursor next (read_into payload (Ok o))) c.in-Some.is c.in_ok-next.ensures.given in
    let same = c.in_ok-kept.ensures.items ∙ c.as_slice.ensures.value in
    let more = ap bytes_of c.in_ok-push.ensures.items ∙ bytes_last c.walk.all.items c.in_ok-kept.kept ∙ ap (λ (p : List ℕ). bytes_of c.walk.all.items ++ p ∷ []) same in
    record {
      walked = subst
          (λ (taken : List (List ℕ)). HasWalked (holding c.args.keeper.now) next c.in-Some.next taken)
          (sym more)
          (one_more _ now next c.walk.cursor _ entry c.walk.invariant.walked c.walk.invariant.settled c.in_ok-next.ensures.same given c.in_ok-next.ensures.crash);
      settled = search rules;
      ready = search rules;
      same_count = search rules;
    }
