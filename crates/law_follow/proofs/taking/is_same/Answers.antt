use Rattle.std.proofs.Common.{◌∙◌, sym}
use Rattle.std.proofs.lemmas.Slice.Eq.{slice_eq-Decides}
use Rattle.std.proofs.lemmas.Bool.Decides.{Decides-eqb}
use Rattle.law_follow.proofs.taking.is_same.Goals as goal

pub returns : goal.returns
returns c =
    let same = slice_eq-Decides Decides-eqb c.as_slice.result.now c.args.payload.now c.eq.result c.eq.ensures in
    let bytes = c.as_slice.ensures.value ∙ c.in_ok-bytes.ensures.same in
    (λ is. sym bytes ∙ same.0 is, λ is. same.1 (bytes ∙ is))
