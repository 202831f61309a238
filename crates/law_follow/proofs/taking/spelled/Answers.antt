-- The entry at an index may be encoded, and its bytes are what spells it there.
use Rattle.law_register.specs.Law.Spellable.{can_be_spelled}
use Rattle.law_register.specs.Law.Spelling.{is_well_spelled}
use Rattle.law_register.specs.declared.register.entry.Entry.{Entry}
use Rattle.entry_codec.proofs.EachEntry.{each_holds}
use Rattle.law_follow.proofs.Sized.{all_have_places, has_place, spelled_at, spelled_sized}
use Rattle.law_follow.proofs.taking.spelled.Goals as goal

pub encode-requires-clause-able : goal.encode-requires-clause-able
encode-requires-clause-able c =
    each_holds can_be_spelled c.args.register.now.entries c.args.index c.entry.result.now c.requires c.entry.ensures c.entries_can_be_spelled.ensures

pub encode-requires-clause-well : goal.encode-requires-clause-well
encode-requires-clause-well c =
    each_holds (λ (e : Entry). is_well_spelled e.command) c.args.register.now.entries c.args.index c.entry.result.now c.requires c.entry.ensures
    c.entries_are_well_spelled.ensures

pub returns-clause-same : goal.returns-clause-same
returns-clause-same c = spelled_at c.encode.result c.args.register.now.entries c.args.index c.entry.result.now c.requires c.entry.ensures c.encode.ensures.bytes

pub returns-clause-sized : goal.returns-clause-sized
returns-clause-sized c =
    let es = c.args.register.now.entries in
    let e = c.entry.result.now in
    spelled_sized c.encode.result e
    (each_holds has_place es c.args.index e c.requires c.entry.ensures (all_have_places es c.entries_are_legal.ensures))
    (c.spelling_has_its_size.ensures e
    (each_holds (λ (e : Entry). is_well_spelled e.command) es c.args.index e c.requires c.entry.ensures c.entries_are_well_spelled.ensures)
    (each_holds can_be_spelled es c.args.index e c.requires c.entry.ensures c.entries_can_be_spelled.ensures))
    c.encode.ensures.bytes
