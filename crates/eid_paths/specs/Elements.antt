-- The elements of an act, and which are numbered throughout.
use Rattle.std.specs.Prelude.{ℕ, Bool, false, List, [], ◌∷◌, Option, codes, unwrap_or, slice_get, find}
use Rattle.std.specs.Str.{bytes_eq}
use Rattle.eid_paths.specs.declared.element.Element.{Element}
use Rattle.eid_paths.specs.declared.element.Element.TheVariants.{Article, Section, Chapter, Paragraph, Subparagraph, Subsection, Clause, Subclause, Alinea, Part, Title, Book, Point, Indent}
use Rattle.eid_paths.specs.declared.numbering.Numbering.{Numbering}

-- the name of an element, as Akoma Ntoso spells it
abbrev pub element_name : Element → List ℕ
element_name Article = codes "article"
element_name Section = codes "section"
element_name Chapter = codes "chapter"
element_name Paragraph = codes "paragraph"
element_name Subparagraph = codes "subparagraph"
element_name Subsection = codes "subsection"
element_name Clause = codes "clause"
element_name Subclause = codes "subclause"
element_name Alinea = codes "alinea"
element_name Part = codes "part"
element_name Title = codes "title"
element_name Book = codes "book"
element_name Point = codes "point"
element_name Indent = codes "indent"

-- the word by which an eId names an element
abbrev pub element_word : Element → List ℕ
element_word Article = codes "art"
element_word Section = codes "sec"
element_word Chapter = codes "chp"
element_word Paragraph = codes "para"
element_word Subparagraph = codes "subpara"
element_word Subsection = codes "subsec"
element_word Clause = codes "cl"
element_word Subclause = codes "subcl"
element_word Alinea = codes "al"
element_word Part = codes "part"
element_word Title = codes "title"
element_word Book = codes "book"
element_word Point = codes "point"
element_word Indent = codes "indent"

-- the elements in their order
abbrev pub all_elements : List Element
all_elements =
    Article ∷ Section ∷ Chapter ∷ Paragraph ∷ Subparagraph ∷ Subsection ∷ Clause
    ∷ Subclause ∷ Alinea ∷ Part ∷ Title ∷ Book ∷ Point ∷ Indent ∷ []

-- the element of a name, if it is one
abbrev pub element_named : List ℕ → Option Element
element_named name = find (λ e. bytes_eq (element_name e) name) all_elements

-- the element that a word of eIds names, if it names one
abbrev pub element_of_word : List ℕ → Option Element
element_of_word word = find (λ e. bytes_eq (element_word e) word) all_elements

-- the place of an element in their order, from 0
abbrev pub element_place : Element → ℕ
element_place Article = 0
element_place Section = 1
element_place Chapter = 2
element_place Paragraph = 3
element_place Subparagraph = 4
element_place Subsection = 5
element_place Clause = 6
element_place Subclause = 7
element_place Alinea = 8
element_place Part = 9
element_place Title = 10
element_place Book = 11
element_place Point = 12
element_place Indent = 13

-- an element is numbered throughout the act
abbrev pub is_throughout : Numbering → Element → Bool
is_throughout numbering e = unwrap_or (slice_get numbering.throughout (element_place e)) false
