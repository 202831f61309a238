-- An edit of a content, and a renumbering, give provisions that they name another content or another num, and change nothing else.
use Rattle.std.proofs.Common.{◌≡◌, ◌∙◌, sym, ap, refl, ℕ, Bool, true, false, cond, ◌&&◌, List, [], ◌∷◌, Option, Some, None, option_map}
use Rattle.std.specs.Prelude.{is_some, Ok, Err}
use Rattle.std.specs.List.{list_all}
use Rattle.std.specs.Str.{bytes_eq}
use Rattle.desk_base.specs.declared.id.Id.{Id}
use Rattle.act_tree.specs.Branches.{Branch, Branches, branch}
use Rattle.act_tree.specs.Changes.{renumbered, num_given, found}
use Rattle.act_tree.specs.Provisions.{Provision}
use Rattle.act_tree.specs.Wids.{is_among}
use Rattle.act_tree.specs.declared.cause.Cause.{Cause}
use Rattle.act_tree.specs.declared.cause.Cause.TheVariants.{TargetMissing}
use Rattle.act_tree.proofs.Frames.{or_left, or_right, none_left}
use Rattle.act_tree.proofs.Texts.{same_text, equal_text}
use Rattle.textual_mods.specs.Edits.{edited}
use Rattle.edit_laws.specs.Laws.{a_content, a_num, touch_of, named_by}
use Rattle.textual_mods.specs.Renumberings.{nums_given}
use Rattle.textual_mods.specs.Targets.{provision_named}
use Rattle.textual_mods.specs.TextEdits.{content_set, content_changed}
use Rattle.textual_mods.specs.declared.edit.TextualMod.{TextualMod}
use Rattle.textual_mods.specs.declared.edit.TextualMod.TheVariants.{Renumber}
use Rattle.edit_laws.proofs.Held.{IsNamed, named_as}
use Rattle.edit_laws.proofs.Restating.{Saying, as_it_was, inside_restated, restated, wids_of, num_kept, nums_restate, content_at, content_restates, content_of, found_restated, found_has}

-- what such an edit reads of a text is the same in another
pub record AreSaid (edit : TextualMod) (contents : List (List ℕ)) (body other : Branches Provision) : Type 0 where
  pub there : (w : List ℕ) → is_among w (named_by edit) ≡ true → is_some (found w other) ≡ true
  pub content : (w : List ℕ) → is_among w contents ≡ true → option_map content_of (found w other) ≡ option_map content_of (found w body)

-- an edit gives contents at these wIds, and nums at those
pub record IsRestating (by : Id) (edit : TextualMod) (body : Branches Provision) : Type 0 where
  pub content : Saying
  pub num : Saying
  pub contents : List (List ℕ)
  pub nums : List (List ℕ)
  pub content_kept : (w x : List ℕ) → is_among w contents ≡ false → content w x ≡ x
  pub num_kept : (w x : List ℕ) → is_among w nums ≡ false → num w x ≡ x
  pub of_contents : (w : List ℕ) → is_among w contents ≡ true → (touch_of edit ≡ a_content) × (is_among w (named_by edit) ≡ true)
  pub of_nums : (w : List ℕ) → is_among w nums ≡ true → (touch_of edit ≡ a_num) × (is_among w (named_by edit) ≡ true)
  pub is : (other : Branches Provision) → AreSaid edit contents body other → edited by edit other ≡ Ok (restated content num other)

pub first_of_them : (w : List ℕ) (ws : List (List ℕ)) → is_among w (w ∷ ws) ≡ true
first_of_them w ws = or_left _ _ (equal_text w w refl)

pub text_restating : (by : Id) (edit : TextualMod) (body : Branches Provision) (w : List ℕ) (p : Provision) (under : Branches Provision) → IsNamed w body (branch p under) → (cause : Cause) (change : List ℕ → Option (List ℕ))
    → touch_of edit ≡ a_content → named_by edit ≡ w ∷ [] → ((other : Branches Provision) → edited by edit other ≡ content_changed cause change w (provision_named w other) other)
    → (x : Branches Provision) → edited by edit body ≡ Ok x → IsRestating by edit body
text_restating by edit body w p under named cause change touch names form x made =
    of_content (change p.own.content) refl (sym (form body ∙ ap (λ o. content_changed cause change w o body) (named_as w body named.other ∙ named.found_is)) ∙ made)
  where
    at_found : (content : List ℕ) → change p.own.content ≡ Some content → (other : Branches Provision) → AreSaid edit (w ∷ []) body other → (o : Option (Branch Provision)) → found w other ≡ o
        → edited by edit other ≡ Ok (restated (content_at w content) as_it_was other)
    at_found content is other said None none = absurd (let never : false ≡ true = sym (ap is_some none) ∙ said.there w (ap (is_among w) names ∙ first_of_them w []) in cc)
    at_found content is other said (Some (branch q deep)) some =
        let both : Some q.own.content ≡ Some p.own.content = sym (ap (option_map content_of) some) ∙ said.content w (first_of_them w []) ∙ ap (option_map content_of) named.found_is in
        let same : q.own.content ≡ p.own.content = cc in
        form other ∙ ap (λ o. content_changed cause change w o other) (named_as w other named.other ∙ some) ∙ ap (λ r. content_set w r other) (ap change same ∙ is) ∙ ap Ok (content_restates w content other)

    of_content : (o : Option (List ℕ)) → change p.own.content ≡ o → content_set w o body ≡ Ok x → IsRestating by edit body
    of_content None is one = absurd cc
    of_content (Some content) is one =
        record {
          content = content_at w content;
          num = as_it_was;
          contents = w ∷ [];
          nums = [];
          content_kept = λ v text none. ap (λ t. cond t content text) (none_left (bytes_eq v w) false none);
          num_kept = λ v text none. refl;
          of_contents = λ v among. (touch, ap (is_among v) names ∙ among);
          of_nums = λ v among. absurd cc;
          is = λ other said. at_found content is other said (found w other) refl;
        }

-- other nums are given exactly if each provision that a pair names is there
nums_there : (pairs : List (List ℕ × List ℕ)) (x : Branches Provision) → ((v : List ℕ) → is_among v (wids_of pairs) ≡ true → is_some (provision_named v x) ≡ true) → nums_given pairs x ≡ Ok (renumbered pairs x)
nums_there pairs x there = ap (λ t. cond t (Ok (renumbered pairs x)) (Err TargetMissing)) (all_there pairs there)
  where
    all_there : (ps : List (List ℕ × List ℕ)) → ((v : List ℕ) → is_among v (wids_of ps) ≡ true → is_some (provision_named v x) ≡ true) → list_all (λ pair. is_some (provision_named pair.0 x)) ps ≡ true
    all_there [] all = refl
    all_there (pair ∷ ps) all =
        ap (λ t. t && list_all (λ pair. is_some (provision_named pair.0 x)) ps) (all pair.0 (first_of_them pair.0 (wids_of ps)))
        ∙ all_there ps (λ v named. all v (or_right (bytes_eq v pair.0) _ named))

pub nums_restating : (by : Id) (pairs : List (List ℕ × List ℕ)) (body : Branches Provision) → ((v : List ℕ) → is_among v (wids_of pairs) ≡ true → (b : Branch Provision) × IsNamed v body b) → IsRestating by (Renumber pairs) body
nums_restating by pairs body named =
    record {
      content = as_it_was;
      num = num_given pairs;
      contents = [];
      nums = wids_of pairs;
      content_kept = λ v text none. refl;
      num_kept = num_kept pairs;
      of_contents = λ v among. absurd cc;
      of_nums = λ v among. (refl, among);
      is = λ other said.
          nums_there pairs other (λ v among. ap is_some (named_as v other (named v among).1.other) ∙ said.there v among) ∙ ap Ok (nums_restate pairs other);
    }

-- a content that is not given stays
pub content_still : (content num : Saying) (w : List ℕ) (body : Branches Provision) (b : Branch Provision) → found w body ≡ Some b → ((x : List ℕ) → content w x ≡ x)
    → option_map content_of (found w (restated content num body)) ≡ option_map content_of (found w body)
content_still content num w body (branch p under) is kept =
    ap (option_map content_of) (found_restated content num w body ∙ ap (option_map (inside_restated content num)) is)
    ∙ ap Some (ap (λ v. content v p.own.content) (same_text p.wid w (found_has w (branch p under) body is)) ∙ kept p.own.content) ∙ sym (ap (option_map content_of) is)

-- two that give nothing at one wId, whichever is given first
pub gives_both : (f g : Saying) (vs ws : List (List ℕ)) → ((w x : List ℕ) → is_among w vs ≡ false → f w x ≡ x) → ((w x : List ℕ) → is_among w ws ≡ false → g w x ≡ x)
    → ((w : List ℕ) → is_among w vs ≡ true → is_among w ws ≡ false) → (w x : List ℕ) → f w (g w x) ≡ g w (f w x)
gives_both f g vs ws f_kept g_kept apart w x = by (is_among w vs) refl
  where
    by : (t : Bool) → is_among w vs ≡ t → f w (g w x) ≡ g w (f w x)
    by true named = ap (f w) (g_kept w x (apart w named)) ∙ sym (g_kept w (f w x) (apart w named))
    by false none = f_kept w (g w x) none ∙ ap (g w) (sym (f_kept w x none))
