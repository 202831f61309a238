use Rattle.std.proofs.Common.{ap, ◌∙◌, ◌++◌, length}
use Rattle.entry_codec.specs.Entries.{asked, spelling, entry}
use Rattle.entry_codec.proofs.Lengths.{entry_long}
use Rattle.entry_codec.proofs.KeptRules.{entry_kept}
use Rattle.entry_codec.proofs.writing.encode.Goals as goal

pub returns-clause-length : goal.returns-clause-length
unfolding spelling
returns-clause-length c =
    ap length (c.in_ok-put_entry.ensures.bytes ∙ ap (λ front. front ++ entry.spell (asked c.args.entry.now)) c.in_ok-bytes.ensures.items)
    ∙ entry_long c.args.entry.now c.requires.well c.requires.able

pub returns-clause-kept : goal.returns-clause-kept
returns-clause-kept c = entry_kept c.args.entry.now c.in_ok-put_entry.ensures.typed c.requires.able c.requires.well
