-- The decimal text of a number up to 64 is a num.
use Rattle.std.proofs.Common.{arith}
use Rattle.law_generator.proofs.Readings.{num_is_read}
use Rattle.law_generator.proofs.names.section_num.Goals as goal

pub unwrap-requires : goal.unwrap-requires
unwrap-requires c = search (c.from_text.ensures, c.as_str.ensures.value, c.in_ok-text.ensures.ok, num_is_read c.args.number (omega (arith, c.requires)))
