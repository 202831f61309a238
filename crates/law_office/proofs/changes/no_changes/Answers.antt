use Rattle.std.proofs.Common.{refl}
use Rattle.law_office.specs.Tables.{kept_in}
use Rattle.law_office.proofs.After.{legal_then}
use Rattle.law_office.proofs.Committing.{none_changed}
use Rattle.law_office.proofs.Resting.{all_rest, none_moved}
use Rattle.law_office.proofs.changes.no_changes.Goals as goal

pub returns : goal.returns
returns c =
    let es = c.args.register.now.entries in
    let e = c.args._entry.now in
    let legal = legal_then es e c.entries_are_legal.ensures c.requires.accepted in
    none_changed es e (kept_in c.args._tables.now) c.args._index.now _ refl c.new.ensures.items refl
    (all_rest es e c.requires.none (λ work one for apart quiet. c.untouched_works_stay.ensures es e work one legal for apart quiet)
    (kept_in c.args._tables.now) c.requires.right)
    (c.what_moves_no_work_leaves_the_index.ensures.index es e c.args._index.now legal (none_moved es e c.requires.none) c.requires.index)
