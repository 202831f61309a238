-- Why a modification could not be applied.
use Rattle.std.specs.Prelude.{ℕ, List, codes}
use Rattle.act_tree.specs.declared.cause.Cause.{Cause}
use Rattle.act_tree.specs.declared.cause.Cause.TheVariants.{TargetMissing, AnchorMissing, OldTextMissing, NumberTaken, KindsDiffer, TooDeep, TooManyNodes, TextTooLong}

-- the name of a cause, as answers print it
abbrev pub cause_name : Cause → List ℕ
cause_name TargetMissing = codes "TargetMissing"
cause_name AnchorMissing = codes "AnchorMissing"
cause_name OldTextMissing = codes "OldTextMissing"
cause_name NumberTaken = codes "NumberTaken"
cause_name KindsDiffer = codes "KindsDiffer"
cause_name TooDeep = codes "TooDeep"
cause_name TooManyNodes = codes "TooManyNodes"
cause_name TextTooLong = codes "TextTooLong"
