-- What was set is what the elements so far number throughout.
use Rattle.std.proofs.Common.{◌≡◌, map, take}
use Rattle.eid_paths.specs.Elements.{all_elements}
use Rattle.eid_paths.specs.Numberings.{is_among}
use Rattle.eid_paths.proofs.numbering.Numbering.of.Given as goal

abbrev pub invariant-loop-element : goal.invariant-loop-element
invariant-loop-element l = l.throughout ≡ map (is_among (take l.element-index l.elements)) all_elements
