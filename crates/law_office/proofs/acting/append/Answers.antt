use Rattle.std.proofs.Common.{◌∙◌}
use Rattle.law_office.proofs.Keeping.{has_size}
use Rattle.law_office.proofs.acting.append.Goals as goal

pub append-requires-clause-size : goal.append-requires-clause-size
append-requires-clause-size g c =
    has_size c.args.book.now.register.entries c.args.pending.entry c.as_slice.result.now c.requires.follows.follows (c.as_slice.ensures.value ∙ c.requires.follows.bytes)
