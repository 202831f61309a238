use Rattle.std.proofs.Common.{sym, ◌∙◌}
use Rattle.eid_paths.proofs.NumberingLaws.{has_those, among_contains, contained_is_among}
use Rattle.eid_paths.proofs.laws.numbered_are_those_named.Goals as goal

pub returns : goal.returns
returns c = (
  λ has. among_contains c.args._elements.now c.args._element (sym (has_those c.args._elements.now c.args._element) ∙ has),
  λ there. has_those c.args._elements.now c.args._element ∙ contained_is_among c.args._elements.now c.args._element there.0 there.1 there.2,
)
