-- An eId has an underscore, so that no provision of an act as enacted has the root's wId.
use Rattle.std.proofs.Common.{◌≡◌, ◌∙◌, ap, refl, ℕ, ◌==◌, Bool, true, false, List, ◌∷◌, ◌++◌, Option, Some, None}
use Rattle.std.specs.List.{list_any}
use Rattle.std.specs.Str.{bytes_eq}
use Rattle.std.proofs.lemmas.Bool.{cond_both}
use Rattle.std.proofs.lemmas.List.Folds.{list_any-append}
use Rattle.eid_paths.specs.declared.element.Element.{Element}
use Rattle.eid_paths.specs.declared.numbering.Numbering.{Numbering}
use Rattle.eid_paths.specs.Elements.{element_word, is_throughout}
use Rattle.act_tree.specs.Branches.{Branch, Branches, branch, no_branches, more_branches}
use Rattle.act_tree.specs.Provisions.{Own}
use Rattle.act_tree.specs.Eids.{eid_below, enacted, all_enacted}
use Rattle.eid_paths.specs.Levels.{level_text}
use Rattle.act_tree.specs.Changes.{root_wid}
use Rattle.act_tree.specs.Wids.{wids, all_wids, is_among}
use Rattle.act_tree.proofs.Texts.{other_text}
use Rattle.act_tree.proofs.Frames.{or_right, neither}

-- a text has an underscore
abbrev has_underscore : List ℕ → Bool
has_underscore text = list_any (λ b. b == 95) text

level_underscore : (e : Element) (num : List ℕ) → has_underscore (level_text e num) ≡ true
level_underscore e num = list_any-append (λ b. b == 95) (element_word e) (95 ∷ num) ∙ or_right (has_underscore (element_word e)) _ refl

eid_underscore : (numbering : Numbering) (above : Option (List ℕ)) (e : Element) (num : List ℕ) → has_underscore (eid_below numbering above e num) ≡ true
eid_underscore numbering None e num = level_underscore e num
eid_underscore numbering (Some above) e num =
    cond_both (is_throughout numbering e) (level_text e num) (above ++ 95 ∷ 95 ∷ level_text e num) (λ t. has_underscore t ≡ true)
    (λ _. level_underscore e num)
    (λ _. list_any-append (λ b. b == 95) above (95 ∷ 95 ∷ level_text e num) ∙ or_right (has_underscore above) _ refl)

not_root : (text : List ℕ) → has_underscore text ≡ true → bytes_eq root_wid text ≡ false
not_root text some = other_text root_wid text (λ same. let told : has_underscore root_wid ≡ true = ap has_underscore same ∙ some in let never : has_underscore root_wid ≡ false = refl in cc)

mutual
  no_root : (numbering : Numbering) (above : Option (List ℕ)) (b : Branch Own) → is_among root_wid (wids (enacted numbering above b)) ≡ false
  no_root numbering above (branch own below) =
      neither _ _ (not_root (eid_below numbering above own.element own.num) (eid_underscore numbering above own.element own.num)) (no_roots numbering (Some (eid_below numbering above own.element own.num)) below)

  pub no_roots : (numbering : Numbering) (above : Option (List ℕ)) (bs : Branches Own) → is_among root_wid (all_wids (all_enacted numbering above bs)) ≡ false
  no_roots numbering above no_branches = refl
  no_roots numbering above (more_branches b bs) =
      list_any-append (bytes_eq root_wid) (wids (enacted numbering above b)) (all_wids (all_enacted numbering above bs))
      ∙ neither _ _ (no_root numbering above b) (no_roots numbering above bs)
