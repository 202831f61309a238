-- The names so far, and those of what is left.
use Rattle.std.proofs.Common.{◌≡◌, ◌++◌, option_map}
use Rattle.law_office.specs.Asked.{all_naming}
use Rattle.law_office.specs.Tables.{kept_in}
use Rattle.law_office.proofs.asked.names_naming.Given as goal

abbrev pub invariant-loop-work : goal.invariant-loop-work
invariant-loop-work l =
    l.names.items ++ all_naming (kept_in l.tables) (option_map (λ known. known.now) l.concerned) l.work-iterator
    ≡ all_naming (kept_in l.tables) (option_map (λ known. known.now) l.concerned) l.naming.keys
