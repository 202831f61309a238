-- The works that an index notes as those which the references of a work name: no reference names another.
use Rattle.std.specs.Prelude.{ℕ, Bool, true, not, List, [], ◌∷◌, Ok, Err}
use Rattle.std.specs.List.{list_all}
use Rattle.frbr_names.specs.Expressions.{Expression, expression_of}
use Rattle.frbr_names.specs.Reads.{Read}
use Rattle.law_refs.specs.Judging.{names_one}
use Rattle.law_refs.specs.Names.{is_among, with_name}
use Rattle.law_refs.specs.declared.node_ref.JudgedRef.{JudgedRef}
use Rattle.law_refs.specs.declared.node_ref.NodeRef.{NodeRef}
use Rattle.law_refs.specs.declared.ref_row.DayRefs.{DayRefs}

-- the target that a text was read as is of one of these works, or there is none
abbrev pub is_covered_read : List (List ℕ) → Read Expression → Bool
is_covered_read works (Ok target) = is_among target.work.text works
is_covered_read works (Err fault) = true

-- a reference names one of these works, or none
unfoldable pub is_covered : List (List ℕ) → List ℕ → Bool
is_covered works iri = is_covered_read works (expression_of iri)

-- all references of these rows do
abbrev pub cover : List (List ℕ) → List DayRefs → Bool
cover works rows = list_all (λ row. list_all (λ (kept : JudgedRef). is_covered works kept.iri) row.refs) rows

-- no reference of these rows has a target of one of these works
abbrev pub are_still : List (List ℕ) → List DayRefs → Bool
are_still moved rows = list_all (λ row. list_all (λ (kept : JudgedRef). not (names_one moved kept.iri)) row.refs) rows

-- these works with that of a target which a text was read as
abbrev pub noted_read : List (List ℕ) → Read Expression → List (List ℕ)
noted_read works (Ok target) = with_name works target.work.text
noted_read works (Err fault) = works

-- these works with that which a reference names
unfoldable pub noted : List (List ℕ) → List ℕ → List (List ℕ)
noted works iri = noted_read works (expression_of iri)

-- these works with those that references name
abbrev pub all_noted : List (List ℕ) → List NodeRef → List (List ℕ)
all_noted works [] = works
all_noted works (one ∷ refs) = all_noted (noted works one.iri) refs

-- these works with others
abbrev pub with_names : List (List ℕ) → List (List ℕ) → List (List ℕ)
with_names works [] = works
with_names works (work ∷ others) = with_names (with_name works work) others
