-- The IRI of an expression begins with that of its work, so what begins with none of some works names none of them.
use Rattle.std.proofs.Common.{◌≡◌, ◌∙◌, ℕ, sym, ap, refl, true, false, true≢false, ◌||◌, List, [], ◌∷◌, ◌++◌, append_assoc, take, length, codes}
use Rattle.std.specs.Prelude.{◌==◌, Ok, Err}
use Rattle.std.specs.List.{list_any, starts_with}
use Rattle.std.specs.Str.{bytes_eq}
use Rattle.std.proofs.lemmas.Bool.{false_from_ne_true, or_parts}
use Rattle.std.proofs.lemmas.Slice.Eq.{bytes_eq-Decides}
use Rattle.frbr_names.specs.Expressions.{Expression, SpellsExpression, expression_of, version_text, versioned_text}
use Rattle.frbr_names.specs.Reads.{Read}
use Rattle.law_refs.specs.Judging.{is_of_one, names_one}
use Rattle.law_refs.specs.Names.{is_among}

taken : (xs ys : List ℕ) → take (length xs) (xs ++ ys) ≡ xs
taken [] [] = refl
taken [] (y ∷ ys) = refl
taken (x ∷ xs) ys = ap (λ rest. x ∷ rest) (taken xs ys)

-- the texts of a spelling, one behind the other
behind : (w a b c d z : List ℕ) → w ++ a ++ b ++ c ++ d ++ z ≡ w ++ (a ++ (b ++ (c ++ (d ++ z))))
behind w a b c d z =
    append_assoc (w ++ a ++ b ++ c) d z
    ∙ append_assoc (w ++ a ++ b) c (d ++ z)
    ∙ append_assoc (w ++ a) b (c ++ (d ++ z))
    ∙ append_assoc w a (b ++ (c ++ (d ++ z)))

apart : (e : Expression) (ending : List ℕ)
    → versioned_text e ++ ending
    ≡ e.work.text ++ (codes "/" ++ (e.language ++ (codes "@" ++ (version_text e.version ++ ending))))
unfolding versioned_text
apart e ending = behind e.work.text (codes "/") e.language (codes "@") (version_text e.version) ending

begins : (iri : List ℕ) (e : Expression) → SpellsExpression iri e → starts_with ◌==◌ iri e.work.text ≡ true
begins iri e spells =
    (bytes_eq-Decides e.work.text (take (length e.work.text) iri)).1
    (sym (ap (take (length e.work.text)) (spells.spelled ∙ apart e spells.ending)
    ∙ taken e.work.text (codes "/" ++ (e.language ++ (codes "@" ++ (version_text e.version ++ spells.ending))))))

none_begins : (works : List (List ℕ)) (iri : List ℕ) (e : Expression) → SpellsExpression iri e → list_any (λ work. starts_with ◌==◌ iri work) works ≡ false
    → is_among e.work.text works ≡ false
none_begins [] iri e spells none = refl
none_begins (work ∷ works) iri e spells none =
    let parts = or_parts (starts_with ◌==◌ iri work) (list_any (λ other. starts_with ◌==◌ iri other) works) none in
    ap (λ t. t || is_among e.work.text works)
    (false_from_ne_true (bytes_eq e.work.text work)
    (λ same. true≢false (sym (begins iri e spells) ∙ ap (starts_with ◌==◌ iri) ((bytes_eq-Decides e.work.text work).0 same) ∙ parts.0)))
    ∙ none_begins works iri e spells parts.1

pub not_named : (works : List (List ℕ)) (iri : List ℕ) → ((e : Expression) → expression_of iri ≡ Ok e → SpellsExpression iri e)
    → list_any (λ work. starts_with ◌==◌ iri work) works ≡ false → false ≡ names_one works iri
unfolding names_one
not_named works iri spelled none = by (expression_of iri) refl
  where
    by : (read : Read Expression) → expression_of iri ≡ read → false ≡ is_of_one works read
    by (Ok e) is = sym (none_begins works iri e (spelled e is) none)
    by (Err fault) is = refl
