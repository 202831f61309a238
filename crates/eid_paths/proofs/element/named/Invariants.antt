-- The element sought among those that are left is the element sought among all.
use Rattle.std.proofs.Common.{◌≡◌, drop, find}
use Rattle.std.specs.Str.{bytes_eq}
use Rattle.eid_paths.specs.Elements.{element_name}
use Rattle.eid_paths.proofs.element.named.Given as goal

abbrev pub invariant-loop-element : goal.invariant-loop-element
invariant-loop-element l =
    find (λ e. bytes_eq (element_name e) l.text) (drop l.element-index l.elements)
    ≡ find (λ e. bytes_eq (element_name e) l.text) l.elements
