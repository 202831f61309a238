use Rattle.law_register.specs.Law.Sizes.{entry_size}
use Rattle.entry_codec.specs.Entries.{spelling}
use Rattle.law_follow.proofs.Sized.{has_size}
use Rattle.law_follow.proofs.taking.pending_has_size.Goals as goal

pub returns : goal.returns
returns c =
    let e = c.args.pending.now.entry in
    has_size (spelling e) c.args.pending.now.payload.items (entry_size e) c.requires.bytes
    (c.spelling_has_its_size.ensures e c.requires.follows.spelled c.accepted_can_be_spelled.ensures)
    c.accepted_are_small.ensures.some c.accepted_are_small.ensures.most
