-- The works so far, and those of the names that are left.
use Rattle.std.proofs.Common.{◌≡◌, ◌++◌, drop, map, option_map}
use Rattle.law_office.specs.Asked.{known_then_all}
use Rattle.law_office.specs.Tables.{kept_in}
use Rattle.law_office.proofs.asked.asked_then.Given as goal

abbrev pub invariant-loop-one : goal.invariant-loop-one
invariant-loop-one l =
    map (λ one. one.known.now) l.asked.items
    ++ known_then_all (kept_in l.tables) (option_map (λ known. known.now) l.concerned) (map (λ d. d.work) (drop l.one-index l.names))
    ≡ known_then_all (kept_in l.tables) (option_map (λ known. known.now) l.concerned) (map (λ d. d.work) l.names)
