use Rattle.std.proofs.Common.{refl}
use Rattle.law_refs.proofs.laws.new_index_is_of_no_entries.Goals as goal

pub returns : goal.returns
returns c = record { kept = λ work. tt; right = refl }
