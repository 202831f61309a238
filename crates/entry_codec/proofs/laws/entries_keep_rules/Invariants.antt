-- Those looked at so far keep the rules.
use Rattle.std.proofs.Common.{◌≡◌, true, take}
use Rattle.std.specs.List.{list_all}
use Rattle.entry_codec.specs.Entries.{keeps_rules}
use Rattle.entry_codec.proofs.laws.entries_keep_rules.Given as goal

abbrev pub invariant-loop-index : goal.invariant-loop-index
invariant-loop-index l = list_all keeps_rules (take l.index l.register.entries) ≡ true
