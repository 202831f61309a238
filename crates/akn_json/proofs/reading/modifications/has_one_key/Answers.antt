use Rattle.std.proofs.Common.{ap, ◌∙◌, slice_get}
use Rattle.akn_json.proofs.Values.{named_first}
use Rattle.akn_json.proofs.reading.modifications.has_one_key.Goals as goal

pub returns-in-Some : goal.returns-in-Some
returns-in-Some c =
    c.are_named.ensures ∙ named_first c.args.members.now.items c.in-Some.first.now (c.in-Some.ensures.value ∙ ap (λ ms. slice_get ms 0) c.deref.ensures.value)
