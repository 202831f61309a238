use Rattle.std.proofs.Common.{refl}
use Rattle.law_office.specs.Tables.{kept_in}
use Rattle.law_office.proofs.Committing.{are_committed}
use Rattle.law_office.proofs.changes.refs_noted.Goals as goal

pub returns : goal.returns
returns c =
    are_committed c.args._register.now.entries c.args._entry.now (kept_in c.args._tables.now) c.args._index.now c.args.moved.enacted
    c.args.moved.revised.items c.args.refs _ c.requires.moved c.requires.index refl refl refl
