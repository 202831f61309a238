use Rattle.law_office.proofs.After.{after_none}
use Rattle.law_office.proofs.tabling.make_index.Goals as goal

pub index_of-requires-clause-after : goal.index_of-requires-clause-after
index_of-requires-clause-after g c =
    after_none c.args.register.now.entries _ c.entries_are_legal.ensures c.in_ok-tables.ensures.right
