-- An edit of structure makes of a text with other contents and nums what it makes of the text, with these contents and nums, where it does not read them.
use Rattle.std.proofs.Common.{◌≡◌, ◌∙◌, sym, ap, refl, ℕ, ◌+◌, ◌==◌, ◌++◌, Bool, true, false, cond, ◌||◌, List, [], ◌∷◌, length, Option, Some, None, option_map}
use Rattle.std.specs.Prelude.{is_some, Result, Ok, Err}
use Rattle.std.specs.Str.{bytes_eq}
use Rattle.desk_base.specs.declared.id.Id.{Id}
use Rattle.eid_paths.specs.Elements.{element_place}
use Rattle.eid_paths.specs.Levels.{level_text}
use Rattle.act_tree.specs.Branches.{Branch, Branches, branch, no_branches, more_branches, branches_of, listed}
use Rattle.act_tree.specs.Brought.{bringer, brought, second_part}
use Rattle.act_tree.specs.Changes.{has_wid, is_in, removed, changed, joined, first, behind, instead, before, after, put_in, among_children, parted, merged, substituted, grafted, root_wid, found, next_of}
use Rattle.act_tree.specs.Provisions.{Own, Provision}
use Rattle.act_tree.specs.Wids.{is_among}
use Rattle.act_tree.specs.declared.cause.Cause.{Cause}
use Rattle.act_tree.specs.declared.cause.Cause.TheVariants.{TargetMissing, AnchorMissing, KindsDiffer}
use Rattle.act_tree.proofs.Frames.{or_right}
use Rattle.act_tree.proofs.Texts.{same_text}
use Rattle.textual_mods.specs.Edits.{edited}
use Rattle.textual_mods.specs.Joins.{join_of_kind, join_with_next, join_of}
use Rattle.edit_laws.specs.Laws.{of_itself, touch_of, moves, named_by}
use Rattle.textual_mods.specs.Splits.{place_among, cut_at_child, cut_of, split_along, split_of}
use Rattle.textual_mods.specs.StructureEdits.{is_anchor, placed}
use Rattle.textual_mods.specs.Targets.{provision_named, below, children_named}
use Rattle.textual_mods.specs.declared.edit.Pos.{Pos}
use Rattle.textual_mods.specs.declared.edit.Pos.TheVariants as stands
use Rattle.textual_mods.specs.declared.edit.SplitAt.{SplitAt}
use Rattle.textual_mods.specs.declared.edit.SplitAt.TheVariants as cuts
use Rattle.textual_mods.specs.declared.edit.TextualMod.{TextualMod}
use Rattle.textual_mods.specs.declared.edit.TextualMod.TheVariants.{Repeal, SubstituteNodes, SubstituteText, InsertNodes, InsertText, Renumber, Split, Join}
use Rattle.textual_mods.specs.declared.splitting.Cut.{Cut}
use Rattle.textual_mods.proofs.Behind.{IsBehind, brought_behind}
use Rattle.edit_laws.proofs.Held.{is_named}
use Rattle.edit_laws.proofs.OneChange.{taken_away}
use Rattle.edit_laws.proofs.OneRestating.{first_of_them}
use Rattle.edit_laws.proofs.Restating.{Saying, inside_restated, restated, found_restated, next_restated, restated_joined, count_restated, first_restated, behind_restated, held_restated, some_mapped, IsKept, all_kept, restated_changed, found_has}

module _ (content num : Saying) where
  abbrev re : Branches Provision → Branches Provision
  re bs = restated content num bs

  abbrev one_re : Branch Provision → Branch Provision
  one_re b = inside_restated content num b

  -- what is made of the text with them is what is made of the text, with them
  abbrev pub Likewise : Result (Branches Provision) Cause → Result (Branches Provision) Cause → Type 0
  Likewise (Ok x) other = other ≡ Ok (re x)
  Likewise (Err cause) other = Unit {0}

  told_as : (r other same : Result (Branches Provision) Cause) → other ≡ same → Likewise r same → Likewise r other
  told_as (Ok x) other same is likewise = is ∙ likewise
  told_as (Err cause) other same is likewise = tt

  tested : (t : Bool) (x y : Branches Provision) (cause : Cause) → y ≡ re x → Likewise (cond t (Ok x) (Err cause)) (cond t (Ok y) (Err cause))
  tested true x y cause same = ap Ok same
  tested false x y cause same = tt

  named_restated : (w : List ℕ) (bs : Branches Provision) → provision_named w (re bs) ≡ option_map (inside_restated content num) (provision_named w bs)
  named_restated w bs =
      elim (bytes_eq w root_wid) as (λ t. cond t None (found w (re bs)) ≡ option_map (inside_restated content num) (cond t None (found w bs))) [ true ↦ refl | false ↦ found_restated content num w bs ]

  in_restated : (w : List ℕ) (bs : Branches Provision) → is_in w (re bs) ≡ is_in w bs
  in_restated w bs = ap (λ t. bytes_eq w root_wid || t) (held_restated content num w bs)

  anchor_restated : (pos : Pos) (w : List ℕ) (bs : Branches Provision) → is_anchor pos w (re bs) ≡ is_anchor pos w bs
  anchor_restated stands.Before w bs = ap is_some (named_restated w bs) ∙ some_mapped (inside_restated content num) (provision_named w bs)
  anchor_restated stands.After w bs = ap is_some (named_restated w bs) ∙ some_mapped (inside_restated content num) (provision_named w bs)
  anchor_restated stands.Start w bs = in_restated w bs
  anchor_restated stands.End w bs = in_restated w bs

  children_restated : (w : List ℕ) (bs : Branches Provision) → children_named w (re bs) ≡ children_named w bs
  children_restated w bs =
      elim (bytes_eq w root_wid) as (λ t. length (listed (cond t (re bs) (below (found w (re bs))))) ≡ length (listed (cond t bs (below (found w bs))))) [
        | true ↦ count_restated content num bs
        | false ↦ ap (λ o. length (listed (below o))) (found_restated content num w bs) ∙ under (found w bs)
      ]
    where
      under : (o : Option (Branch Provision)) → length (listed (below (option_map (inside_restated content num) o))) ≡ length (listed (below o))
      under None = refl
      under (Some (branch p deep)) = count_restated content num deep

  place_restated : (w : List ℕ) (bs : Branches Provision) → place_among w (re bs) ≡ place_among w bs
  place_restated w no_branches = refl
  place_restated w (more_branches (branch p deep) bs) = ap (λ o. cond (bytes_eq p.wid w) (Some 0) (option_map (λ place. place + 1) o)) (place_restated w bs)

  cut_restated : (at : SplitAt) (text : List ℕ) (deep : Branches Provision) → cut_of at text (re deep) ≡ cut_of at text deep
  cut_restated (cuts.Text spot) text deep = refl
  cut_restated (cuts.Child child) text deep = ap (cut_at_child text) (place_restated child deep)

  -- provisions that are brought, of which nothing is given
  module _ (new : Branches Provision) (new_kept : re new ≡ new) where
    put_restated : (n : ℕ) (bs : Branches Provision) → re (put_in n new bs) ≡ put_in n new (re bs)
    put_restated n bs =
        restated_joined content num (first n bs) (joined new (behind n bs)) ∙ ap (joined (re (first n bs))) (restated_joined content num new (behind n bs))
        ∙ ap (λ x. joined x (joined (re new) (re (behind n bs)))) (first_restated content num n bs)
        ∙ ap (λ x. joined (first n (re bs)) (joined x (re (behind n bs)))) new_kept
        ∙ ap (λ x. joined (first n (re bs)) (joined new x)) (behind_restated content num n bs)

    joined_new : (rest : Branches Provision) → re (joined new rest) ≡ joined new (re rest)
    joined_new rest = restated_joined content num new rest ∙ ap (λ x. joined x (re rest)) new_kept

    among_restated : (n : ℕ) (b : Branch Provision) (rest : Branches Provision) → re (among_children n new b rest) ≡ among_children n new (one_re b) (re rest)
    among_restated n (branch p deep) rest =
        ap (λ cs. more_branches (branch (record p { own = record p.own { content = content p.wid p.own.content; num = num p.wid p.own.num } }) cs) (re rest)) (put_restated n deep)

    grafted_restated : (w : List ℕ) (n : ℕ) (bs : Branches Provision) → re (grafted w n new bs) ≡ grafted w n new (re bs)
    grafted_restated w n bs =
        elim (bytes_eq w root_wid) as (λ t. re (cond t (put_in n new bs) (changed (among_children n new) w bs)) ≡ cond t (put_in n new (re bs)) (changed (among_children n new) w (re bs))) [
          | true ↦ put_restated n bs
          | false ↦ restated_changed content num (among_children n new) w (λ b rest it. among_restated n b rest) bs
        ]

    placed_restated : (pos : Pos) (w : List ℕ) (bs : Branches Provision) → re (placed pos w new bs) ≡ placed pos w new (re bs)
    placed_restated stands.Before w bs = restated_changed content num (before new) w (λ b rest it. joined_new (more_branches b rest)) bs
    placed_restated stands.After w bs = restated_changed content num (after new) w (λ b rest it. ap (more_branches (one_re b)) (joined_new rest)) bs
    placed_restated stands.Start w bs = grafted_restated w 0 bs
    placed_restated stands.End w bs = grafted_restated w (children_named w bs) bs ∙ ap (λ n. grafted w n new (re bs)) (sym (children_restated w bs))

    substituted_restated : (w : List ℕ) (bs : Branches Provision) → re (substituted w new bs) ≡ substituted w new (re bs)
    substituted_restated w bs =
        elim (bytes_eq w root_wid) as (λ t. re (cond t new (changed (instead new) w bs)) ≡ cond t new (changed (instead new) w (re bs))) [
          | true ↦ new_kept
          | false ↦ restated_changed content num (instead new) w (λ b rest it. joined_new rest) bs
        ]

  removed_is : (w : List ℕ) (bs : Branches Provision) → removed w bs ≡ substituted w no_branches bs
  removed_is w bs = ap (cond (bytes_eq w root_wid) no_branches) (taken_away w bs)

  -- a provision of a wId whose content stays
  module _ (w : List ℕ) (kept : (text : List ℕ) → content w text ≡ text) where
    parted_restated : (n : ℕ) (head : List ℕ) (second : Provision) → IsKept content num second.wid → (b : Branch Provision) (rest : Branches Provision) → has_wid w b ≡ true
        → re (parted n head second b rest) ≡ parted n head second (one_re b) (re rest)
    parted_restated n head second second_kept (branch p deep) rest it =
        let given : List ℕ = num p.wid p.own.num in
        ap (λ x. more_branches (branch (record p { own = record p.own { content = x; num = given } }) (re (first n deep)))
        (more_branches (branch (record second { own = record second.own { content = content second.wid second.own.content; num = num second.wid second.own.num } }) (re (behind n deep))) (re rest)))
        (ap (λ v. content v head) (same_text p.wid w it) ∙ kept head)
        ∙ ap (λ cs. more_branches (branch (record p { own = record p.own { content = head; num = given } }) cs)
        (more_branches (branch (record second { own = record second.own { content = content second.wid second.own.content; num = num second.wid second.own.num } }) (re (behind n deep))) (re rest)))
        (first_restated content num n deep)
        ∙ ap (λ x. more_branches (branch (record p { own = record p.own { content = head; num = given } }) (first n (re deep)))
        (more_branches (branch (record second { own = record second.own { content = x; num = num second.wid second.own.num } }) (re (behind n deep))) (re rest)))
        (second_kept second.own.content).0
        ∙ ap (λ x. more_branches (branch (record p { own = record p.own { content = head; num = given } }) (first n (re deep)))
        (more_branches (branch (record second { own = record second.own { num = x } }) (re (behind n deep))) (re rest)))
        (second_kept second.own.num).1
        ∙ ap (λ cs. more_branches (branch (record p { own = record p.own { content = head; num = given } }) (first n (re deep))) (more_branches (branch second cs) (re rest)))
        (behind_restated content num n deep)

    merged_restated : (text : List ℕ) (b : Branch Provision) (rest : Branches Provision) → has_wid w b ≡ true → re (merged text b rest) ≡ merged text (one_re b) (re rest)
    merged_restated text (branch p deep) no_branches it = refl
    merged_restated text (branch p deep) (more_branches (branch next under) rest) it =
        ap (λ x. more_branches (branch (record p { own = record p.own { content = x; num = num p.wid p.own.num; refs = p.own.refs ++ next.own.refs } }) (re (joined deep under))) (re rest))
        (ap (λ v. content v text) (same_text p.wid w it) ∙ kept text)
        ∙ ap (λ cs. more_branches (branch (record p { own = record p.own { content = text; num = num p.wid p.own.num; refs = p.own.refs ++ next.own.refs } }) cs) (re rest))
        (restated_joined content num deep under)

  module _ (by : Id) (body : Branches Provision) (new_kept : (w : List ℕ) → IsBehind (bringer by) w → IsKept content num w) where
    brought_kept : (new : List (Branch Own)) → re (brought by (branches_of new)) ≡ brought by (branches_of new)
    brought_kept new = all_kept content num (brought by (branches_of new)) (brought_behind by (IsKept content num) new_kept (branches_of new))

    split_likewise : (w : List ℕ) (at : SplitAt) (n heading : List ℕ) → ((text : List ℕ) → content w text ≡ text) → (o : Option (Branch Provision)) → provision_named w body ≡ o
        → Likewise (split_of by w at n heading o body) (split_of by w at n heading (option_map (inside_restated content num) o) (re body))
    split_likewise w at n heading kept None is = tt
    split_likewise w at n heading kept (Some (branch p deep)) is =
        let named : bytes_eq p.wid w ≡ true = found_has w (branch p deep) body (is_named w body (branch p deep) is).found_is in
        let same : content p.wid p.own.content ≡ p.own.content = ap (λ v. content v p.own.content) (same_text p.wid w named) ∙ kept p.own.content in
        let given : Provision = record p { own = record p.own { content = content p.wid p.own.content; num = num p.wid p.own.num } } in
        told_as (split_along by w n heading p (cut_of at p.own.content deep) body) (split_along by w n heading given (cut_of at (content p.wid p.own.content) (re deep)) (re body))
        (split_along by w n heading given (cut_of at p.own.content deep) (re body))
        (ap (λ cut. split_along by w n heading given cut (re body)) (ap (λ text. cut_of at text (re deep)) same ∙ cut_restated at p.own.content deep))
        (along p (cut_of at p.own.content deep))
      where
        along : (q : Provision) (cut : Result Cut Cause)
            → Likewise (split_along by w n heading q cut body) (split_along by w n heading (record q { own = record q.own { content = content q.wid q.own.content; num = num q.wid q.own.num } }) cut (re body))
        along q (Err cause) = tt
        along q (Ok cut) =
            let second : Provision = second_part by q.own.element n heading cut.tail in
            ap Ok (sym (restated_changed content num (parted cut.children cut.head second) w
            (parted_restated w kept cut.children cut.head second (new_kept second.wid (level_text q.own.element n, refl))) body))

    join_likewise : (w second separator : List ℕ) → ((text : List ℕ) → content w text ≡ text) → ((text : List ℕ) → content second text ≡ text) → (o x : Option (Branch Provision)) → provision_named w body ≡ o
        → Likewise (join_of w second separator o x body) (join_of w second separator (option_map (inside_restated content num) o) (option_map (inside_restated content num) x) (re body))
    join_likewise w second separator kept second_kept None x is = tt
    join_likewise w second separator kept second_kept (Some b) None is = tt
    join_likewise w second separator kept second_kept (Some (branch p deep)) (Some (branch other_p other_deep)) is =
        told_as (join_with_next w second separator p (next_of w body) body) (join_with_next w second separator given (next_of w (re body)) (re body))
        (join_with_next w second separator given (option_map (inside_restated content num) (next_of w body)) (re body))
        (ap (λ o. join_with_next w second separator given o (re body)) (next_restated content num w body))
        (with_next (next_of w body))
      where
        given : Provision
        given = record p { own = record p.own { content = content p.wid p.own.content; num = num p.wid p.own.num } }

        named : bytes_eq p.wid w ≡ true
        named = found_has w (branch p deep) body (is_named w body (branch p deep) is).found_is

        of_second : (t : Bool) (r other : Result (Branches Provision) Cause) (cause : Cause) → (t ≡ true → Likewise r other) → Likewise (cond t r (Err cause)) (cond t other (Err cause))
        of_second true r other cause likewise = likewise refl
        of_second false r other cause likewise = tt

        with_next : (next : Option (Branch Provision)) → Likewise (join_with_next w second separator p next body) (join_with_next w second separator given (option_map (inside_restated content num) next) (re body))
        with_next None = tt
        with_next (Some (branch q under)) =
            of_second (bytes_eq q.wid second) (join_of_kind w separator p q body)
            (join_of_kind w separator given (record q { own = record q.own { content = content q.wid q.own.content; num = num q.wid q.own.num } }) (re body)) AnchorMissing
            (λ it. tested (element_place p.own.element == element_place q.own.element) (changed (merged (p.own.content ++ (separator ++ q.own.content))) w body)
            (changed (merged (content p.wid p.own.content ++ (separator ++ content q.wid q.own.content))) w (re body)) KindsDiffer
            (ap (λ text. changed (merged (text ++ (separator ++ content q.wid q.own.content))) w (re body)) (ap (λ v. content v p.own.content) (same_text p.wid w named) ∙ kept p.own.content)
            ∙ ap (λ text. changed (merged (p.own.content ++ (separator ++ text))) w (re body)) (ap (λ v. content v q.own.content) (same_text q.wid second it) ∙ second_kept q.own.content)
            ∙ sym (restated_changed content num (merged (p.own.content ++ (separator ++ q.own.content))) w (merged_restated w kept (p.own.content ++ (separator ++ q.own.content))) body)))

    -- an edit that moves provisions, and of those that it names reads no content that is given
    pub edit_likewise : (edit : TextualMod) → moves (touch_of edit) ≡ true → (touch_of edit ≡ of_itself → (w : List ℕ) → is_among w (named_by edit) ≡ true → (text : List ℕ) → content w text ≡ text)
        → Likewise (edited by edit body) (edited by edit (restated content num body))
    edit_likewise (Repeal w) moving kept =
        told_as (edited by (Repeal w) body) (edited by (Repeal w) (re body)) (cond (is_in w body) (Ok (removed w (re body))) (Err TargetMissing)) (ap (λ t. cond t (Ok (removed w (re body))) (Err TargetMissing)) (in_restated w body))
        (tested (is_in w body) (removed w body) (removed w (re body)) TargetMissing
        (removed_is w (re body) ∙ sym (substituted_restated no_branches refl w body) ∙ ap (restated content num) (sym (removed_is w body))))
    edit_likewise (SubstituteNodes w new) moving kept =
        told_as (edited by (SubstituteNodes w new) body) (edited by (SubstituteNodes w new) (re body)) (cond (is_in w body) (Ok (substituted w (brought by (branches_of new)) (re body))) (Err TargetMissing))
        (ap (λ t. cond t (Ok (substituted w (brought by (branches_of new)) (re body))) (Err TargetMissing)) (in_restated w body))
        (tested (is_in w body) (substituted w (brought by (branches_of new)) body) (substituted w (brought by (branches_of new)) (re body)) TargetMissing
        (sym (substituted_restated (brought by (branches_of new)) (brought_kept new) w body)))
    edit_likewise (InsertNodes w pos new) moving kept =
        told_as (edited by (InsertNodes w pos new) body) (edited by (InsertNodes w pos new) (re body)) (cond (is_anchor pos w body) (Ok (placed pos w (brought by (branches_of new)) (re body))) (Err AnchorMissing))
        (ap (λ t. cond t (Ok (placed pos w (brought by (branches_of new)) (re body))) (Err AnchorMissing)) (anchor_restated pos w body))
        (tested (is_anchor pos w body) (placed pos w (brought by (branches_of new)) body) (placed pos w (brought by (branches_of new)) (re body)) AnchorMissing
        (sym (placed_restated (brought by (branches_of new)) (brought_kept new) pos w body)))
    edit_likewise (Split w at n heading) moving kept =
        told_as (edited by (Split w at n heading) body) (edited by (Split w at n heading) (re body)) (split_of by w at n heading (option_map (inside_restated content num) (provision_named w body)) (re body))
        (ap (λ o. split_of by w at n heading o (re body)) (named_restated w body)) (split_likewise w at n heading (kept refl w (first_of_them w [])) (provision_named w body) refl)
    edit_likewise (Join w second separator) moving kept =
        told_as (edited by (Join w second separator) body) (edited by (Join w second separator) (re body))
        (join_of w second separator (option_map (inside_restated content num) (provision_named w body)) (option_map (inside_restated content num) (provision_named second body)) (re body))
        (ap (λ o. join_of w second separator o (provision_named second (re body)) (re body)) (named_restated w body)
        ∙ ap (λ o. join_of w second separator (option_map (inside_restated content num) (provision_named w body)) o (re body)) (named_restated second body))
        (join_likewise w second separator (kept refl w (first_of_them w (second ∷ []))) (kept refl second (or_right (bytes_eq second w) _ (first_of_them second []))) (provision_named w body) (provision_named second body) refl)
    edit_likewise (SubstituteText w spot new) moving kept = absurd cc
    edit_likewise (InsertText w at new) moving kept = absurd cc
    edit_likewise (Renumber pairs) moving kept = absurd cc
