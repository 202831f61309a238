use Rattle.std.proofs.Common.{◌++◌, ◌∷◌, [], sym}
use Rattle.std.proofs.lemmas.Result.{on_ok_weaker}
use Rattle.law_register.specs.Register.LawList.{laws}
use Rattle.held_provisions.proofs.Placed.{is_known, none_step, own_step}
use Rattle.held_provisions.proofs.lines.put_with.Goals as goal

pub known_with-requires-clause-enacted : goal.known_with-requires-clause-enacted
known_with-requires-clause-enacted c =
    is_known c.args.register.now.entries c.args.index c.entry-other.result.now c.requires.within c.entry-other.ensures c.in-Some.work.now
    (sym (rw c.in-Some.is at c.enacted_work.ensures))

pub returns-in_ok-known-in-Some : goal.returns-in_ok-known-in-Some
returns-in_ok-known-in-Some c =
    let es = c.args.register.now.entries in
    let behind = c.args.entry.now ∷ [] in
    let work = c.in-Some.work.now in
    let enacts = sym (rw c.in-Some.is at c.enacted_work.ensures) in
    on_ok_weaker c.put_known.result
    (λ made. own_step es c.args.index c.entry-other.result.now c.requires.within c.entry-other.ensures (laws (es ++ behind)) behind work enacts c.in_ok-known-in-Some.known
    c.in_ok-known-in-Some.ensures c.args.works.now.items c.put_known.new.works.items made)
    c.put_known.ensures

pub returns-in-None : goal.returns-in-None
returns-in-None c =
    let es = c.args.register.now.entries in
    let behind = c.args.entry.now ∷ [] in
    none_step es c.args.index c.entry-other.result.now c.requires.within c.entry-other.ensures (laws (es ++ behind)) behind
    (sym (rw c.in-None.is at c.enacted_work.ensures)) c.args.works.now.items
