-- Levels are told apart by their parts.
use Rattle.std.proofs.Common.{◌≡◌, ◌∙◌, sym, ap, ℕ, ◌==◌, Bool, true, false, ◌&&◌, List, inl, inr, Ok, Err}
use Rattle.std.specs.Str.{bytes_eq}
use Rattle.std.proofs.lemmas.Bool.{cases_Bool, and_parts, eqb-true, eq-eqb}
use Rattle.std.specs.Prelude.{Result}
use Rattle.eid_paths.specs.declared.element.Element.{Element}
use Rattle.eid_paths.specs.declared.eid_fault.EidRule.{EidRule}
use Rattle.eid_paths.specs.declared.level.Level.{Level}
use Rattle.eid_paths.specs.Elements.{element_place}
use Rattle.eid_paths.specs.ElementCode.{element_at, element_at-element_place}
use Rattle.eid_paths.specs.Levels.{level_text, level_of}
use Rattle.eid_paths.specs.Nums.{is_num}
use Rattle.eid_paths.proofs.SpellingLaws.{level_is_read}
use Rattle.act_tree.proofs.Texts.{same_text, equal_text, other_text}

-- levels with one text have one element and one num
same_parts : (e f : Element) (num other : List ℕ) → is_num num ≡ true → is_num other ≡ true → level_text e num ≡ level_text f other → (e ≡ f) × (num ≡ other)
same_parts e f num other one two same =
    let read : Ok (record { element = e; num = num }) ≡ Ok (record { element = f; num = other }) = sym (level_is_read e num one) ∙ ap level_of same ∙ level_is_read f other two in
    (ap element_of read, ap num_of read)
  where
    element_of : Result Level EidRule → Element
    element_of (Ok l) = l.element
    element_of (Err fault) = e

    num_of : Result Level EidRule → List ℕ
    num_of (Ok l) = l.num
    num_of (Err fault) = num

-- levels are told apart by their parts
pub level_told : (e f : Element) (num other : List ℕ) (told : Bool) → is_num num ≡ true → is_num other ≡ true → told ≡ ((element_place f == element_place e) && bytes_eq other num) → told ≡ bytes_eq (level_text e num) (level_text f other)
level_told e f num other told one two is =
    elim (cases_Bool ((element_place f == element_place e) && bytes_eq other num)) [
      | inl same ↦
          let parts = and_parts _ _ same in
          let element : f ≡ e = sym (element_at-element_place f) ∙ ap element_at (eqb-true (element_place f) (element_place e) parts.0) ∙ element_at-element_place e in
          let text : level_text e num ≡ level_text f other = ap (λ g. level_text g num) (sym element) ∙ ap (level_text f) (sym (same_text other num parts.1)) in
          is ∙ same ∙ sym (equal_text (level_text e num) (level_text f other) text)
      | inr differ ↦ is ∙ differ ∙ sym (other_text (level_text e num) (level_text f other) (λ text.
          let parts : (e ≡ f) × (num ≡ other) = same_parts e f num other one two text in
          absurd (
          let first : (element_place f == element_place e) ≡ true = eq-eqb (element_place f) (element_place e) (ap element_place (sym parts.0)) in
          let second : bytes_eq other num ≡ true = equal_text other num (sym parts.1) in
          let never : true ≡ false = sym (ap (λ t. t && bytes_eq other num) first ∙ second) ∙ differ in
          cc)))
    ]
