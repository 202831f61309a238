-- Which texts name works.
use Rattle.std.specs.Prelude.{ℕ, ◌≡◌, List, Option, Some, None, Ok, Err}
use Rattle.frbr_names.specs.Reads.{Read}
use Rattle.frbr_names.specs.Works.{Work, work_of}

-- the text of the work that was read, if one was
abbrev pub text_read : Read Work → Option (List ℕ)
text_read (Ok work) = Some work.text
text_read (Err fault) = None

-- a text is the IRI of a work
abbrev pub NamesWork : List ℕ → Type 0
NamesWork text = text_read (work_of text) ≡ Some text
