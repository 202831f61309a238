-- What is amiss from an index on is amiss.
use Rattle.std.proofs.Common.{◌≡◌, ◌≤◌, drop, length, map, string_bytes}
use Rattle.lawdesk.specs.Amiss.{amiss_from}
use Rattle.lawdesk.proofs.amiss.first_amiss.Given as goal

abbrev pub invariant-loop-index : goal.invariant-loop-index
invariant-loop-index l =
    (l.index ≤ length l.words)
    × (amiss_from l.index (drop l.index l.wants) (drop l.index (map string_bytes l.words))
    ≡ amiss_from 0 l.wants (map string_bytes l.words))
