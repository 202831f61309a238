use Rattle.std.proofs.Common.{refl}
use Rattle.law_register.proofs.Empty.{stand_for_none}
use Rattle.law_register.proofs.register.indexes.Indexes.new.Goals as goal

pub returns : goal.returns
returns c = stand_for_none _ c.new.ensures.empty c.new-2.ensures.empty c.new-3.ensures.empty c.new-4.ensures.empty c.new-5.ensures.items c.new-7.ensures.items refl refl
