use Rattle.std.proofs.Common.{◌≡◌, ◌∙◌, ap, arith}
use Rattle.law_register.specs.Register.Drafts.{added}
use Rattle.law_register.specs.Register.Indexes.{added_of}
use Rattle.law_register.proofs.Legal.{legal_added}
use Rattle.law_register.proofs.register.register.Register.added.Goals as goal

pub returns-in-Some-clause-most : goal.returns-in-Some-clause-most
returns-in-Some-clause-most c =
    let d = c.args.drafter.now in
    let E = c.self.inside.entries.items in
    let same : c.in-Some.mark.now.added ≡ added d E = ap added_of c.in-Some.ensures ∙ (c.self.invariant.stands.drafts d).added in
    omega (arith, same, legal_added d E c.self.invariant.legal)
