-- The wIds of what a modification brings: they begin with its name, and differ if the eIds of the payload do.
use Rattle.std.proofs.Common.{◌≡◌, ◌∙◌, sym, ap, refl, ℕ, Bool, true, false, ◌||◌, ◌&&◌, cond, List, [], ◌∷◌, ◌++◌, map, Option, Some, None, inl, inr, append_assoc}
use Rattle.std.specs.List.{list_any, starts_with}
use Rattle.std.specs.Prelude.{nat_eq}
use Rattle.std.specs.Str.{bytes_eq}
use Rattle.std.proofs.lemmas.Bool.{cases_Bool, or_cases, eq-eqb}
use Rattle.std.proofs.lemmas.List.{append_cancel_left}
use Rattle.desk_base.specs.declared.id.Id.{Id}
use Rattle.eid_paths.specs.declared.element.Element.{Element}
use Rattle.eid_paths.specs.declared.element.Element.TheVariants.{Article, Section, Chapter, Paragraph, Subparagraph, Subsection, Clause, Subclause, Alinea, Part, Title, Book, Point, Indent}
use Rattle.eid_paths.specs.Elements.{is_throughout}
use Rattle.eid_paths.specs.Levels.{level_text}
use Rattle.act_tree.specs.declared.limits.NodeLimit.TheVariants.{Plain}
use Rattle.act_tree.specs.declared.surveying.TheConstants.{NONE_THROUGHOUT}
use Rattle.act_tree.specs.Branches.{Branch, Branches, branch, no_branches, more_branches}
use Rattle.act_tree.specs.Brought.{bringer, brought, has_brought}
use Rattle.act_tree.specs.Changes.{root_wid}
use Rattle.act_tree.specs.Eids.{eid_below, enacted, all_enacted}
use Rattle.act_tree.specs.Faults.{eids, all_eids, first_fault}
use Rattle.act_tree.specs.Provisions.{Own, Provision}
use Rattle.act_tree.specs.Wids.{wids, all_wids, is_among, one_twice}
use Rattle.act_tree.proofs.FirstFaults.{all_wids-enacted, faultless_differ}
use Rattle.act_tree.proofs.Frames.{none_left, none_right}
use Rattle.act_tree.proofs.Texts.{same_text, equal_text, other_text, text_cases}

pub none_throughout : (e : Element) → is_throughout NONE_THROUGHOUT e ≡ false
none_throughout Article = refl
none_throughout Section = refl
none_throughout Chapter = refl
none_throughout Paragraph = refl
none_throughout Subparagraph = refl
none_throughout Subsection = refl
none_throughout Clause = refl
none_throughout Subclause = refl
none_throughout Alinea = refl
none_throughout Part = refl
none_throughout Title = refl
none_throughout Book = refl
none_throughout Point = refl
none_throughout Indent = refl

-- a wId behind a name and `__`
abbrev behind_name : List ℕ → List ℕ → List ℕ
behind_name name eid = name ++ 95 ∷ 95 ∷ eid

-- the name alone, or a wId behind it
abbrev name_of : List ℕ → Option (List ℕ) → List ℕ
name_of name None = name
name_of name (Some above) = behind_name name above

eid_behind : (name : List ℕ) (above : Option (List ℕ)) (e : Element) (num : List ℕ) → eid_below NONE_THROUGHOUT (Some (name_of name above)) e num ≡ behind_name name (eid_below NONE_THROUGHOUT above e num)
eid_behind name None e num = ap (λ t. cond t (level_text e num) (name ++ 95 ∷ 95 ∷ level_text e num)) (none_throughout e)
eid_behind name (Some above) e num =
    ap (λ t. cond t (level_text e num) (behind_name name above ++ 95 ∷ 95 ∷ level_text e num)) (none_throughout e)
    ∙ append_assoc name (95 ∷ 95 ∷ above) (95 ∷ 95 ∷ level_text e num)
    ∙ sym (ap (λ t. behind_name name (cond t (level_text e num) (above ++ 95 ∷ 95 ∷ level_text e num))) (none_throughout e))

map_join : (f : List ℕ → List ℕ) (xs ys : List (List ℕ)) → map f (xs ++ ys) ≡ map f xs ++ map f ys
map_join f [] ys = refl
map_join f (x ∷ xs) ys = ap (λ zs. f x ∷ zs) (map_join f xs ys)

mutual
  wids_behind : (name : List ℕ) (above : Option (List ℕ)) (b : Branch Own) → wids (enacted NONE_THROUGHOUT (Some (name_of name above)) b) ≡ map (behind_name name) (eids NONE_THROUGHOUT above b)
  wids_behind name above (branch own below) =
      let e : List ℕ = eid_below NONE_THROUGHOUT above own.element own.num in
      ap (λ w. w ∷ all_wids (all_enacted NONE_THROUGHOUT (Some w) below)) (eid_behind name above own.element own.num)
      ∙ ap (λ ws. behind_name name e ∷ ws) (all_wids_behind name (Some e) below)

  all_wids_behind : (name : List ℕ) (above : Option (List ℕ)) (bs : Branches Own)
      → all_wids (all_enacted NONE_THROUGHOUT (Some (name_of name above)) bs) ≡ map (behind_name name) (all_eids NONE_THROUGHOUT above bs)
  all_wids_behind name above no_branches = refl
  all_wids_behind name above (more_branches b bs) =
      ap (λ ws. ws ++ all_wids (all_enacted NONE_THROUGHOUT (Some (name_of name above)) bs)) (wids_behind name above b)
      ∙ ap (λ ws. map (behind_name name) (eids NONE_THROUGHOUT above b) ++ ws) (all_wids_behind name above bs)
      ∙ sym (map_join (behind_name name) (eids NONE_THROUGHOUT above b) (all_eids NONE_THROUGHOUT above bs))

same_behind : (name v w : List ℕ) → bytes_eq (behind_name name v) (behind_name name w) ≡ bytes_eq v w
same_behind name v w =
    elim (text_cases v w) [
      | inl same ↦ equal_text (behind_name name v) (behind_name name w) (ap (behind_name name) same) ∙ sym (equal_text v w same)
      | inr other ↦ other_text (behind_name name v) (behind_name name w) (λ same. other (append_cancel_left (name ++ 95 ∷ 95 ∷ []) v w
          (append_assoc name (95 ∷ 95 ∷ []) v ∙ same ∙ sym (append_assoc name (95 ∷ 95 ∷ []) w)))) ∙ sym (other_text v w other)
    ]

among_behind : (name v : List ℕ) (ws : List (List ℕ)) → is_among (behind_name name v) (map (behind_name name) ws) ≡ is_among v ws
among_behind name v [] = refl
among_behind name v (w ∷ ws) = ap (λ t. t || is_among (behind_name name v) (map (behind_name name) ws)) (same_behind name v w) ∙ ap (λ t. bytes_eq v w || t) (among_behind name v ws)

twice_behind : (name : List ℕ) (ws : List (List ℕ)) → one_twice (map (behind_name name) ws) ≡ one_twice ws
twice_behind name [] = refl
twice_behind name (w ∷ ws) = ap (λ t. t || one_twice (map (behind_name name) ws)) (among_behind name w ws) ∙ ap (λ t. is_among w ws || t) (twice_behind name ws)

-- the wIds of a faultless payload differ
pub brought_differ : (by : Id) (bs : Branches Own) → first_fault NONE_THROUGHOUT Plain bs ≡ None → one_twice (all_wids (brought by bs)) ≡ false
brought_differ by bs none =
    ap one_twice (all_wids_behind (bringer by) None bs) ∙ twice_behind (bringer by) (all_eids NONE_THROUGHOUT None bs)
    ∙ sym (ap one_twice (all_wids-enacted NONE_THROUGHOUT None bs)) ∙ faultless_differ NONE_THROUGHOUT Plain bs none

begins : (xs ys : List ℕ) → starts_with nat_eq (xs ++ ys) xs ≡ true
begins [] ys = refl
begins (x ∷ xs) ys = ap (λ t. t && starts_with nat_eq (xs ++ ys) xs) (eq-eqb x x refl) ∙ begins xs ys

among_begins : (name v : List ℕ) (ws : List (List ℕ)) → is_among v (map (behind_name name) ws) ≡ true → starts_with nat_eq v (name ++ 95 ∷ 95 ∷ []) ≡ true
among_begins name v [] found = absurd cc
among_begins name v (w ∷ ws) found =
    elim (or_cases (bytes_eq v (behind_name name w)) (is_among v (map (behind_name name) ws)) found) [
      | inl here ↦ ap (λ u. starts_with nat_eq u (name ++ 95 ∷ 95 ∷ [])) (same_text v (behind_name name w) here ∙ sym (append_assoc name (95 ∷ 95 ∷ []) w)) ∙ begins (name ++ 95 ∷ 95 ∷ []) w
      | inr later ↦ among_begins name v ws later
    ]

none_begins : (f : List ℕ → Bool) (v : List ℕ) (ws : List (List ℕ)) → list_any f ws ≡ false → is_among v ws ≡ true → f v ≡ false
none_begins f v [] none found = absurd cc
none_begins f v (w ∷ ws) none found =
    elim (or_cases (bytes_eq v w) (is_among v ws) found) [
      | inl here ↦ ap f (same_text v w here) ∙ none_left _ _ none
      | inr later ↦ none_begins f v ws (none_right (f w) _ none) later
    ]

-- where no wId of a text begins as those that a modification brings, none of the text's, nor the root's, is among those
pub brought_apart : (by : Id) (bs : Branches Own) (body : Branches Provision) → has_brought by body ≡ false → (v : List ℕ) → is_among v (root_wid ∷ all_wids body) ≡ true → is_among v (all_wids (brought by bs)) ≡ false
brought_apart by bs body fresh v found =
    elim (cases_Bool (is_among v (all_wids (brought by bs)))) [
      | inl new ↦
          let start : starts_with nat_eq v (bringer by ++ 95 ∷ 95 ∷ []) ≡ true = among_begins (bringer by) v (all_eids NONE_THROUGHOUT None bs) (sym (ap (is_among v) (all_wids_behind (bringer by) None bs)) ∙ new) in
          absurd (elim (or_cases (bytes_eq v root_wid) (is_among v (all_wids body)) found) [
            | inl root ↦ (let never : starts_with nat_eq v (bringer by ++ 95 ∷ 95 ∷ []) ≡ false = ap (λ u. starts_with nat_eq u (bringer by ++ 95 ∷ 95 ∷ [])) (same_text v root_wid root) in cc)
            | inr old ↦ (let never : starts_with nat_eq v (bringer by ++ 95 ∷ 95 ∷ []) ≡ false = none_begins (λ u. starts_with nat_eq u (bringer by ++ 95 ∷ 95 ∷ [])) v (all_wids body) fresh old in cc)
          ])
      | inr none ↦ none
    ]
