-- References, judged: each with the rule that its target breaks.
use Rattle.std.specs.Prelude.{ℕ, Bool, true, false, ◌&&◌, List, [], ◌∷◌, Option, None, Ok, Err, if◌then◌else◌}
use Rattle.std.specs.Str.{bytes_eq}
use Rattle.frbr_names.specs.Expressions.{Expression, expression_of}
use Rattle.frbr_names.specs.Reads.{Read}
use Rattle.law_refs.specs.Names.{is_among}
use Rattle.law_refs.specs.declared.node_ref.NodeRef.{NodeRef}
use Rattle.law_refs.specs.declared.node_ref.JudgedRef.{JudgedRef}

-- what is known of targets: the number of the first rule that each breaks, or none
abbrev pub Answers : Type 0
Answers = Expression → Option ℕ

-- what breaks the target that a text was read as; what is the IRI of no expression refers to nothing that could be missing
abbrev pub cause_read : Answers → Read Expression → Option ℕ
cause_read answers (Ok target) = answers target
cause_read answers (Err fault) = None

-- what breaks the target of a reference
unfoldable pub cause_of : Answers → List ℕ → Option ℕ
cause_of answers iri = cause_read answers (expression_of iri)

-- the target that a text was read as is of one of these works
abbrev pub is_of_one : List (List ℕ) → Read Expression → Bool
is_of_one works (Ok target) = is_among target.work.text works
is_of_one works (Err fault) = false

-- the target of a reference is of one of these works
unfoldable pub names_one : List (List ℕ) → List ℕ → Bool
names_one works iri = is_of_one works (expression_of iri)

-- a reference with what breaks its target
unfoldable pub judged : Answers → NodeRef → JudgedRef
judged answers placed = record { eid = placed.eid; iri = placed.iri; cause = cause_of answers placed.iri }

-- what breaks the target of a reference that was judged before these works moved
abbrev pub cause_now : Answers → List (List ℕ) → JudgedRef → Option ℕ
cause_now answers moved kept = if names_one moved kept.iri then cause_of answers kept.iri else kept.cause

-- a reference that was judged before these works moved, with what breaks its target now
unfoldable pub judged_again : Answers → List (List ℕ) → JudgedRef → JudgedRef
judged_again answers moved kept = record { eid = kept.eid; iri = kept.iri; cause = cause_now answers moved kept }

-- a reference that was judged is this one of a text
unfoldable pub is_that : JudgedRef → NodeRef → Bool
is_that kept one = bytes_eq kept.eid one.eid && bytes_eq kept.iri one.iri

-- references that were judged are those of a text, in its order
abbrev pub are_those : List JudgedRef → List NodeRef → Bool
are_those [] [] = true
are_those [] (one ∷ refs) = false
are_those (kept ∷ others) [] = false
are_those (kept ∷ others) (one ∷ refs) = is_that kept one && are_those others refs
