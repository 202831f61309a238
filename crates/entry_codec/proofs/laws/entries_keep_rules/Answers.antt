use Rattle.std.proofs.Common.{◌<◌, arith, subst}
use Rattle.law_register.specs.Law.Spellable.{can_be_spelled}
use Rattle.law_register.specs.Law.Spelling.{is_well_spelled}
use Rattle.law_register.specs.declared.register.entry.Entry.{Entry}
use Rattle.entry_codec.specs.Entries.{keeps_rules}
use Rattle.entry_codec.proofs.EachEntry.{all_hold, each_holds, more_hold}
use Rattle.entry_codec.proofs.laws.entries_keep_rules.Goals as goal

pub encoded_is_decoded-requires-clause-able : goal.encoded_is_decoded-requires-clause-able
encoded_is_decoded-requires-clause-able c =
    each_holds can_be_spelled c.args.register.now.entries c.loop-index.index c.entry.result.now
    (subst (λ n. c.loop-index.index < n) c.len-index-end.ensures c.loop-index-test.true) c.entry.ensures c.entries_can_be_spelled.ensures

pub encoded_is_decoded-requires-clause-well : goal.encoded_is_decoded-requires-clause-well
encoded_is_decoded-requires-clause-well c =
    each_holds (λ (e : Entry). is_well_spelled e.command) c.args.register.now.entries c.loop-index.index c.entry.result.now
    (subst (λ n. c.loop-index.index < n) c.len-index-end.ensures c.loop-index-test.true) c.entry.ensures c.entries_are_well_spelled.ensures

pub loop-index-preserved : goal.loop-index-preserved
loop-index-preserved c =
    more_hold keeps_rules c.args.register.now.entries c.loop-index.index c.entry.result.now
    (subst (λ n. c.loop-index.index < n) c.len-index-end.ensures c.loop-index-test.true) c.entry.ensures c.loop-index.invariant
    c.encoded_is_decoded.ensures.kept

pub returns : goal.returns
returns c =
    let over = c.loop-index-test.false in
    all_hold keeps_rules c.args.register.now.entries c.loop-index.index (omega (arith, over, c.len-index-end.ensures)) c.loop-index.invariant
