-- Which elements are among others.
use Rattle.std.proofs.Common.{◌≡◌, ℕ, zero, suc, ◌+◌, ◌<◌, Bool, true, false, ◌||◌, ◌==◌, List, [], ◌∷◌, ◌++◌, length, take, get_or, refl, sym, ap, ◌∙◌, map, slice_set, arith}
use Rattle.std.specs.Prelude.{Contains}
use Rattle.std.proofs.lemmas.Bool.Decides.{Decides-eqb}
use Rattle.std.proofs.lemmas.List.{take_more}
use Rattle.std.proofs.lemmas.List.Folds.{list_any-append}
use Rattle.eid_paths.specs.declared.element.Element.{Element}
use Rattle.eid_paths.specs.declared.element.Element.TheVariants.{Article, Section, Chapter, Paragraph, Subparagraph, Subsection, Clause, Subclause, Alinea, Part, Title, Book, Point, Indent}
use Rattle.eid_paths.specs.Elements.{element_place, all_elements, is_throughout}
use Rattle.eid_paths.specs.ElementCode.{element_at, element_at-element_place}
use Rattle.eid_paths.specs.Numberings.{is_among, numbering_of}

or_true : (b : Bool) → (b || true) ≡ true
or_true true = refl
or_true false = refl

or_false : (b : Bool) → (b || false) ≡ b
or_false true = refl
or_false false = refl

-- one element more is set at its place, and no other
pub set_more : (es : List Element) (e : Element) → slice_set (map (is_among es) all_elements) (element_place e) true ≡ map (is_among (es ++ e ∷ [])) all_elements
set_more es Article = simp (list_any-append, or_true, or_false)
set_more es Section = simp (list_any-append, or_true, or_false)
set_more es Chapter = simp (list_any-append, or_true, or_false)
set_more es Paragraph = simp (list_any-append, or_true, or_false)
set_more es Subparagraph = simp (list_any-append, or_true, or_false)
set_more es Subsection = simp (list_any-append, or_true, or_false)
set_more es Clause = simp (list_any-append, or_true, or_false)
set_more es Subclause = simp (list_any-append, or_true, or_false)
set_more es Alinea = simp (list_any-append, or_true, or_false)
set_more es Part = simp (list_any-append, or_true, or_false)
set_more es Title = simp (list_any-append, or_true, or_false)
set_more es Book = simp (list_any-append, or_true, or_false)
set_more es Point = simp (list_any-append, or_true, or_false)
set_more es Indent = simp (list_any-append, or_true, or_false)

-- the element at an index is set beside those before it
pub set_at : (es : List Element) (i place : ℕ) (throughout : List Bool) (e : Element) → i < length es → throughout ≡ map (is_among (take i es)) all_elements → place ≡ element_place (get_or es i e) → slice_set throughout place true ≡ map (is_among (take (i + 1) es)) all_elements
set_at es i place throughout e below so_far at =
    ap (λ t. slice_set t place true) so_far ∙ ap (λ p. slice_set (map (is_among (take i es)) all_elements) p true) at
    ∙ set_more (take i es) (get_or es i e) ∙ ap (λ xs. map (is_among xs) all_elements) (sym (take_more es i e below))

-- a numbering of elements has an element if that is among them
pub has_those : (es : List Element) (e : Element) → is_throughout (numbering_of es) e ≡ is_among es e
has_those es Article = refl
has_those es Section = refl
has_those es Chapter = refl
has_those es Paragraph = refl
has_those es Subparagraph = refl
has_those es Subsection = refl
has_those es Clause = refl
has_those es Subclause = refl
has_those es Alinea = refl
has_those es Part = refl
has_those es Title = refl
has_those es Book = refl
has_those es Point = refl
has_those es Indent = refl

-- the place of an element tells it apart
same_place : (x e : Element) → (element_place x == element_place e) ≡ true → x ≡ e
same_place x e same = sym (element_at-element_place x) ∙ ap element_at ((Decides-eqb (element_place x) (element_place e)).0 same) ∙ element_at-element_place e

own_place : (e : Element) → (element_place e == element_place e) ≡ true
own_place e = (Decides-eqb (element_place e) (element_place e)).1 refl

pub among_contains : (es : List Element) (e : Element) → is_among es e ≡ true → Contains es e
among_contains [] e among = cc
among_contains (x ∷ es) e among =
    let here = same_place x e in
    let later = among_contains es e in
    elim (element_place x == element_place e) as (λ t. (t ≡ true → x ≡ e) → (t || is_among es e) ≡ true → Contains (x ∷ es) e) [
      | true ↦ λ same found. (0, omega arith, same refl)
      | false ↦ λ same found. let there = later found in (suc there.0, omega arith, there.2)
    ] here among

pub contained_is_among : (es : List Element) (e : Element) (k : ℕ) → k < length es → get_or es k e ≡ e → is_among es e ≡ true
contained_is_among [] e k below at = absurd (omega arith)
contained_is_among (x ∷ es) e zero below at = rw (at, own_place e) refl
contained_is_among (x ∷ es) e (suc k) below at = rw (contained_is_among es e k (omega arith) at) (or_true (element_place x == element_place e))
