use Rattle.std.proofs.Common.{◌≡◌, ◌∙◌, ℕ, sym, subst, List}
use Rattle.std.specs.Prelude.{Ok}
use Rattle.frbr_names.specs.Expressions.{Expression, SpellsExpression, expression_of}
use Rattle.law_refs.proofs.Begins.{not_named}
use Rattle.law_refs.proofs.judging.names_one.Goals as goal

pub returns : goal.returns
returns c =
    not_named c.args.works.now c.args.iri.now
    (subst (λ (text : List ℕ). (e : Expression) → expression_of text ≡ Ok e → SpellsExpression text e) c.as_bytes.ensures.value
    c.read_expression_is_spelled.ensures)
    (sym c.begins_with_one.ensures ∙ c.if-begins_with_one.false)
