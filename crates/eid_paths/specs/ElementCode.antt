-- How elements are told apart: by their places in their order.
use Rattle.std.specs.Prelude.{ℕ, refl, unwrap_or, slice_get, ◌≡◌}
use Rattle.std.specs.Coded.{Coded, code_by, coded_ℕ}
use Rattle.eid_paths.specs.declared.element.Element.{Element}
use Rattle.eid_paths.specs.declared.element.Element.TheVariants.{Article, Section, Chapter, Paragraph, Subparagraph, Subsection, Clause, Subclause, Alinea, Part, Title, Book, Point, Indent}
use Rattle.eid_paths.specs.Elements.{element_place, all_elements}

-- the element at a place in their order
abbrev pub element_at : ℕ → Element
element_at n = unwrap_or (slice_get all_elements n) Article

pub element_at-element_place : (e : Element) → element_at (element_place e) ≡ e
element_at-element_place Article = refl
element_at-element_place Section = refl
element_at-element_place Chapter = refl
element_at-element_place Paragraph = refl
element_at-element_place Subparagraph = refl
element_at-element_place Subsection = refl
element_at-element_place Clause = refl
element_at-element_place Subclause = refl
element_at-element_place Alinea = refl
element_at-element_place Part = refl
element_at-element_place Title = refl
element_at-element_place Book = refl
element_at-element_place Point = refl
element_at-element_place Indent = refl

-- an element is told apart by its place
abbrev pub element_code : Coded Element
element_code = code_by ℕ coded_ℕ element_place element_at element_at-element_place
