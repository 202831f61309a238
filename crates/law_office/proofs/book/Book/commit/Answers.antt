use Rattle.std.proofs.Common.{sym, subst, ◌++◌, ◌∷◌, [], Option}
use Rattle.law_register.specs.Provisions.Carrying.{held_now}
use Rattle.law_refs.specs.OfRegister.{IsIndexOf}
use Rattle.viewpoints.proofs.Staying.{right_stays}
use Rattle.version_cache.specs.Works.{WorkValue}
use Rattle.law_office.specs.Tables.{Matches, applied, kept_in, table_on}
use Rattle.law_office.proofs.Noted.{kept_noted}
use Rattle.law_office.proofs.Openings.{opened_more}
use Rattle.law_office.proofs.book.Book.commit.Goals as goal

pub returns-clause-opens : goal.returns-clause-opens
returns-clause-opens c =
    rw c.push.ensures
    (opened_more c.args.self.now.register.entries c.args.pending.entry c.requires.right.opens c.requires.follows.follows c.requires.follows.kept)

pub returns-clause-tables : goal.returns-clause-tables
returns-clause-tables c =
    rw c.push.ensures
    (λ w. subst (λ (k : Option WorkValue). Matches (held_now (c.args.self.now.register.entries ++ c.args.pending.entry ∷ []) w) k)
    (sym (c.apply.ensures.tables w)) (c.requires.follows.changes.right w))

pub returns-clause-named : goal.returns-clause-named
returns-clause-named c = kept_noted c.args.self.now.naming (applied c.args.pending.changes (kept_in c.args.self.now.tables)) (kept_in c.apply.new.tables) c.apply.ensures.tables c.requires.follows.noted

pub returns-clause-index : goal.returns-clause-index
returns-clause-index c =
    rw c.push.ensures
    (subst (IsIndexOf (c.args.self.now.register.entries ++ c.args.pending.entry ∷ [])) (sym c.apply.ensures.index) c.requires.follows.changes.refs)

pub returns-clause-right : goal.returns-clause-right
returns-clause-right c =
    rw c.push.ensures
    (right_stays table_on c.args.self.now.past c.args.self.now.register.entries (c.args.pending.entry ∷ []) c.requires.right.past)
