use Rattle.std.proofs.lemmas.Result.{IfOk-weaker}
use Rattle.law_office.specs.declared.book.Changes.{Changes}
use Rattle.law_office.specs.Noting.{AreNoted}
use Rattle.law_office.specs.Tables.{Kept, applied, kept_in}
use Rattle.law_office.proofs.Noted.{kept_noted}
use Rattle.law_office.proofs.noting.make_noted.Goals as goal

pub returns-in-Ok-clause-noted : goal.returns-in-Ok-clause-noted
returns-in-Ok-clause-noted g c =
    let kept : Kept = kept_in c.make_changes.new.tables in
    let still : AreNoted c.args.naming.now kept =
    kept_noted c.args.naming.now (kept_in c.args.tables.now) kept c.make_changes.ensures.same c.requires.named in
    IfOk-weaker c.noted.result (λ (made : Changes). (k : Kept) → AreNoted c.args.naming.now k → AreNoted c.noted.new.naming (applied made k))
    (λ (made : Changes). AreNoted c.noted.new.naming (applied made kept)) (λ made all. all kept still) c.noted.ensures.noted
