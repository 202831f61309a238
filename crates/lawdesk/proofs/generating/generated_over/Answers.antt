-- What is opened of no payload has no entry.
use Rattle.lawdesk.proofs.InMemory.{none_opened}
use Rattle.lawdesk.proofs.generating.generated_over.Goals as goal

pub generated_in-requires-clause-empty : goal.generated_in-requires-clause-empty
generated_in-requires-clause-empty g c =
    none_opened (g.K.Keeper.holding c.args.keeper.now).list _ c.requires.empty (c.in-Ok.ensures.opened c.requires.tells)
