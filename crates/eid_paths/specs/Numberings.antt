-- The set of elements that an act numbers throughout.
use Rattle.std.specs.Prelude.{◌==◌, Bool, List, map}
use Rattle.std.specs.List.{list_any}
use Rattle.eid_paths.specs.declared.element.Element.{Element}
use Rattle.eid_paths.specs.declared.numbering.Numbering.{Numbering}
use Rattle.eid_paths.specs.Elements.{element_place, all_elements}

-- an element is one of these
abbrev pub is_among : List Element → Element → Bool
is_among elements e = list_any (λ x. element_place x == element_place e) elements

-- these elements are numbered throughout, and no others
abbrev pub numbering_of : List Element → Numbering
numbering_of elements = record { throughout = map (is_among elements) all_elements }
