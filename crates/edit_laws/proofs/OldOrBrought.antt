-- Each wId after an edit was there before it, or is one that the modification brings.
use Rattle.std.proofs.Common.{◌≡◌, ◌∙◌, sym, ap, refl, ℕ, Bool, true, false, not, ◌||◌, List, [], ◌∷◌, ◌++◌, append_assoc, nat_eq}
use Rattle.std.specs.List.{list_any, starts_with}
use Rattle.std.specs.Str.{bytes_eq}
use Rattle.std.proofs.lemmas.Bool.Decides.{Decides-eqb}
use Rattle.std.proofs.lemmas.Slice.Eq.{starts_is}
use Rattle.act_tree.proofs.Frames.{or_left, or_right}
use Rattle.act_tree.proofs.Texts.{equal_text}
use Rattle.act_tree.specs.Brought.{bringer}
use Rattle.act_tree.specs.Trees.{TreeValue}
use Rattle.act_tree.specs.Wids.{all_wids, is_among}
use Rattle.desk_base.specs.declared.id.Id.{Id}
use Rattle.textual_mods.proofs.Behind.{all_fail, all_none}
use Rattle.edit_laws.proofs.Held.{fails_there}
use Rattle.textual_mods.proofs.Keeping.{applied_has}
use Rattle.textual_mods.specs.Edits.{applied, tree_after}
use Rattle.textual_mods.specs.declared.edit.TextualMod.{TextualMod}

not_false : (s : Bool) → not s ≡ false → s ≡ true
not_false true is = refl
not_false false is = absurd cc

module _ (t : TreeValue) (by : Id) where
  -- a wId was there, or begins with the name of the modification
  abbrev old_or_brought : List ℕ → Bool
  old_or_brought w = is_among w (all_wids t.body) || starts_with nat_eq w (bringer by ++ 95 ∷ 95 ∷ [])

  abbrev neither_is : List ℕ → Bool
  neither_is w = not (old_or_brought w)

  old_pass : (ws : List (List ℕ)) → ((w : List ℕ) → is_among w ws ≡ true → is_among w (all_wids t.body) ≡ true) → list_any neither_is ws ≡ false
  old_pass [] inside = refl
  old_pass (w ∷ ws) inside =
      ap (λ s. not s || list_any neither_is ws) (or_left _ (starts_with nat_eq w (bringer by ++ 95 ∷ 95 ∷ [])) (inside w (or_left _ _ (equal_text w w refl))))
      ∙ old_pass ws (λ v found. inside v (or_right (bytes_eq v w) _ found))

  pub old_or_new : (edit : TextualMod) (w : List ℕ) → is_among w (all_wids (tree_after t (applied t by edit)).body) ≡ true
      → (is_among w (all_wids t.body) || starts_with nat_eq w (bringer by ++ 95 ∷ 95 ∷ [])) ≡ true
  old_or_new edit w found =
      not_false (old_or_brought w)
      (fails_there neither_is w (all_wids (tree_after t (applied t by edit)).body)
      (all_none neither_is (tree_after t (applied t by edit)).body
      (applied_has (λ v. neither_is v ≡ false) by
      (λ v here. ap not (or_right (is_among v (all_wids t.body)) _
      ((starts_is Decides-eqb v (bringer by ++ 95 ∷ 95 ∷ []) _ refl).1 here.0 (here.1 ∙ sym (append_assoc (bringer by) (95 ∷ 95 ∷ []) here.0)))))
      t edit (all_fail neither_is t.body (old_pass (all_wids t.body) (λ v there. there))))) found)
