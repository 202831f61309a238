use Rattle.std.proofs.Common.{◌∙◌, sym, ap}
use Rattle.std.proofs.lemmas.Result.{on_ok_weaker}
use Rattle.law_register.specs.Register.KnownIds.{known_at}
use Rattle.law_register.specs.Register.LawList.{laws}
use Rattle.law_register.proofs.Next.{now_known}
use Rattle.held_provisions.proofs.Placed.{none_last, own_last}
use Rattle.held_provisions.proofs.lines.put_enacted.Goals as goal

pub returns-in_ok-known-in-Some : goal.returns-in_ok-known-in-Some
returns-in_ok-known-in-Some c =
    let es = c.args.register.now.entries in
    let work = c.in-Some.work.now in
    let enacts = sym (rw c.in-Some.is at c.enacted_work.ensures) in
    on_ok_weaker c.put_known.result
    (λ made. own_last es c.args.index c.entry-entry.result.now c.requires c.entry-entry.ensures (laws es) work enacts c.in_ok-known-in-Some.known
    (c.in_ok-known-in-Some.ensures.known ∙ ap (known_at es work) c.front.ensures.value ∙ now_known es work)
    c.args.works.now.items c.put_known.new.works.items made)
    c.put_known.ensures

pub returns-in-None : goal.returns-in-None
returns-in-None c =
    none_last c.args.register.now.entries c.args.index c.entry-entry.result.now c.requires c.entry-entry.ensures (laws c.args.register.now.entries)
    (sym (rw c.in-None.is at c.enacted_work.ensures)) c.args.works.now.items
