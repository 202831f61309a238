use Rattle.std.proofs.Common.{◌∙◌, ◌++◌, ◌∷◌, [], ap, List, ℕ, Some}
use Rattle.std.proofs.lemmas.Bool.Decides.{Decides-eqb}
use Rattle.std.proofs.lemmas.Slice.Eq.{strip_prefix_is}
use Rattle.replay_core.proofs.eids.is_level_behind.Goals as goal

pub returns : goal.returns
returns c = λ yes.
    strip_prefix_is Decides-eqb c.args.text.now c.args.above.now (Some c.in-Some.behind) c.in-Some.ensures.cases
    ∙ ap (λ (r : List ℕ). c.args.above.now ++ r)
    (strip_prefix_is Decides-eqb c.in-Some.behind.now (95 ∷ []) (Some c.in-Some-strip_prefix.next) c.in-Some-strip_prefix.ensures.cases
    ∙ ap (λ (r : List ℕ). 95 ∷ r)
    (strip_prefix_is Decides-eqb c.in-Some-strip_prefix.next.now (95 ∷ []) (Some c.in-Some-strip_prefix-2.rest) c.in-Some-strip_prefix-2.ensures.cases
    ∙ ap (λ (r : List ℕ). 95 ∷ r) (c.is_level.ensures yes)))
