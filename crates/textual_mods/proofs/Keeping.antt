-- What holds of each wId of a text and of each that an edit brings holds of each wId of the text afterwards.
use Rattle.std.proofs.Common.{refl, ℕ, zero, suc, Bool, true, false, cond, List, Option, Some, None}
use Rattle.std.specs.Prelude.{Result, Ok, Err, is_some}
use Rattle.std.specs.List.{list_all}
use Rattle.std.specs.Str.{bytes_eq}
use Rattle.std.proofs.lemmas.Bool.{cond_both}
use Rattle.desk_base.specs.declared.id.Id.{Id}
use Rattle.eid_paths.specs.Levels.{level_text}
use Rattle.act_tree.specs.Branches.{Branch, Branches, branch, no_branches, more_branches, branches_of}
use Rattle.act_tree.specs.Brought.{bringer, brought, second_part}
use Rattle.act_tree.specs.Changes.{Step, has_wid, inside_without, without, removed, root_wid, is_in, inside_changed, changed, joined, first, behind, instead, before, after, put_in, among_children, with_content, parted, merged, substituted, grafted, inside_renumbered, renumbered, next_of}
use Rattle.act_tree.specs.Faults.{first_cause}
use Rattle.act_tree.specs.Provisions.{Own, Provision}
use Rattle.act_tree.specs.Trees.{TreeValue}
use Rattle.act_tree.specs.declared.cause.Cause.{Cause}
use Rattle.textual_mods.proofs.Behind.{brought_behind, IsBehind, AllWids, HaveWids}
use Rattle.textual_mods.specs.Edits.{edited, unless_for, within_limits, applied, tree_after}
use Rattle.textual_mods.specs.Joins.{join_of_kind, join_with_next, join_of}
use Rattle.textual_mods.specs.Splits.{cut_of, split_along, split_of}
use Rattle.textual_mods.specs.StructureEdits.{is_anchor, placed}
use Rattle.textual_mods.specs.Targets.{provision_named, children_named}
use Rattle.textual_mods.specs.TextEdits.{content_set, content_changed, with_spot, with_text}
use Rattle.textual_mods.specs.declared.edit.Pos.{Pos}
use Rattle.textual_mods.specs.declared.edit.Pos.TheVariants as stands
use Rattle.textual_mods.specs.declared.edit.SplitAt.{SplitAt}
use Rattle.textual_mods.specs.declared.splitting.Cut.{Cut}
use Rattle.textual_mods.specs.declared.edit.TextualMod.{TextualMod}
use Rattle.textual_mods.specs.declared.edit.TextualMod.TheVariants.{Repeal, SubstituteNodes, SubstituteText, InsertNodes, InsertText, Renumber, Split, Join}

module _ (P : List ℕ → Type 0) where
  joined_have : (bs cs : Branches Provision) → HaveWids P bs → HaveWids P cs → HaveWids P (joined bs cs)
  joined_have no_branches cs old new = new
  joined_have (more_branches b bs) cs old new = (old.0, joined_have bs cs old.1 new)

  first_have : (n : ℕ) (bs : Branches Provision) → HaveWids P bs → HaveWids P (first n bs)
  first_have zero bs old = tt
  first_have (suc n) no_branches old = tt
  first_have (suc n) (more_branches b bs) old = (old.0, first_have n bs old.1)

  behind_have : (n : ℕ) (bs : Branches Provision) → HaveWids P bs → HaveWids P (behind n bs)
  behind_have zero bs old = old
  behind_have (suc n) no_branches old = tt
  behind_have (suc n) (more_branches b bs) old = behind_have n bs old.1

  put_in_have : (n : ℕ) (new bs : Branches Provision) → HaveWids P new → HaveWids P bs → HaveWids P (put_in n new bs)
  put_in_have n new bs more old = joined_have (first n bs) (joined new (behind n bs)) (first_have n bs old) (joined_have new (behind n bs) more (behind_have n bs old))

  mutual
    inside_without_has : (w : List ℕ) (b : Branch Provision) → AllWids P b → AllWids P (inside_without w b)
    inside_without_has w (branch p below) old = (old.0, without_have w below old.1)

    without_have : (w : List ℕ) (bs : Branches Provision) → HaveWids P bs → HaveWids P (without w bs)
    without_have w no_branches old = tt
    without_have w (more_branches b bs) old =
        cond_both (has_wid w b) (without w bs) (more_branches (inside_without w b) (without w bs)) (HaveWids P)
        (λ _. without_have w bs old.1) (λ _. (inside_without_has w b old.0, without_have w bs old.1))

  mutual
    inside_changed_has : (step : Step) → ((b : Branch Provision) (rest : Branches Provision) → AllWids P b → HaveWids P rest → HaveWids P (step b rest)) → (w : List ℕ) (b : Branch Provision) → AllWids P b → AllWids P (inside_changed step w b)
    inside_changed_has step keeps w (branch p below) old = (old.0, changed_have step keeps w below old.1)

    changed_have : (step : Step) → ((b : Branch Provision) (rest : Branches Provision) → AllWids P b → HaveWids P rest → HaveWids P (step b rest)) → (w : List ℕ) (bs : Branches Provision) → HaveWids P bs → HaveWids P (changed step w bs)
    changed_have step keeps w no_branches old = tt
    changed_have step keeps w (more_branches b bs) old =
        cond_both (has_wid w b) (step (inside_changed step w b) (changed step w bs)) (more_branches (inside_changed step w b) (changed step w bs)) (HaveWids P)
        (λ _. keeps (inside_changed step w b) (changed step w bs) (inside_changed_has step keeps w b old.0) (changed_have step keeps w bs old.1))
        (λ _. (inside_changed_has step keeps w b old.0, changed_have step keeps w bs old.1))

  mutual
    inside_renumbered_has : (pairs : List (List ℕ × List ℕ)) (b : Branch Provision) → AllWids P b → AllWids P (inside_renumbered pairs b)
    inside_renumbered_has pairs (branch p below) old = (old.0, renumbered_have pairs below old.1)

    renumbered_have : (pairs : List (List ℕ × List ℕ)) (bs : Branches Provision) → HaveWids P bs → HaveWids P (renumbered pairs bs)
    renumbered_have pairs no_branches old = tt
    renumbered_have pairs (more_branches b bs) old = (inside_renumbered_has pairs b old.0, renumbered_have pairs bs old.1)

  with_content_keeps : (content : List ℕ) (b : Branch Provision) (rest : Branches Provision) → AllWids P b → HaveWids P rest → HaveWids P (with_content content b rest)
  with_content_keeps content (branch p below) rest old more = (old, more)

  among_keeps : (n : ℕ) (new : Branches Provision) → HaveWids P new → (b : Branch Provision) (rest : Branches Provision) → AllWids P b → HaveWids P rest → HaveWids P (among_children n new b rest)
  among_keeps n new brings (branch p below) rest old more = ((old.0, put_in_have n new below brings old.1), more)

  parted_keeps : (n : ℕ) (head : List ℕ) (second : Provision) → P second.wid → (b : Branch Provision) (rest : Branches Provision) → AllWids P b → HaveWids P rest → HaveWids P (parted n head second b rest)
  parted_keeps n head second brings (branch p below) rest old more = ((old.0, first_have n below old.1), ((brings, behind_have n below old.1), more))

  merged_keeps : (content : List ℕ) (b : Branch Provision) (rest : Branches Provision) → AllWids P b → HaveWids P rest → HaveWids P (merged content b rest)
  merged_keeps content (branch p below) no_branches old more = (old, more)
  merged_keeps content (branch p below) (more_branches (branch next under) rest) old more = ((old.0, joined_have below under old.1 more.0.1), more.1)

  grafted_have : (w : List ℕ) (n : ℕ) (new bs : Branches Provision) → HaveWids P new → HaveWids P bs → HaveWids P (grafted w n new bs)
  grafted_have w n new bs brings old =
      cond_both (bytes_eq w root_wid) (put_in n new bs) (changed (among_children n new) w bs) (HaveWids P)
      (λ _. put_in_have n new bs brings old) (λ _. changed_have (among_children n new) (among_keeps n new brings) w bs old)

  placed_have : (pos : Pos) (w : List ℕ) (new bs : Branches Provision) → HaveWids P new → HaveWids P bs → HaveWids P (placed pos w new bs)
  placed_have stands.Before w new bs brings old = changed_have (before new) (λ b rest here more. joined_have new (more_branches b rest) brings (here, more)) w bs old
  placed_have stands.After w new bs brings old = changed_have (after new) (λ b rest here more. (here, joined_have new rest brings more)) w bs old
  placed_have stands.Start w new bs brings old = grafted_have w 0 new bs brings old
  placed_have stands.End w new bs brings old = grafted_have w (children_named w bs) new bs brings old

  -- it holds of the text, if there is one
  abbrev OkHas : Result (Branches Provision) Cause → Type 0
  OkHas (Ok body) = HaveWids P body
  OkHas (Err cause) = Unit {0}

  tested : (t : Bool) (body : Branches Provision) (cause : Cause) → HaveWids P body → OkHas (cond t (Ok body) (Err cause))
  tested true body cause has = has
  tested false body cause has = tt

  content_has : (missing : Cause) (change : List ℕ → Option (List ℕ)) (w : List ℕ) (b : Option (Branch Provision)) (bs : Branches Provision) → HaveWids P bs → OkHas (content_changed missing change w b bs)
  content_has missing change w None bs old = tt
  content_has missing change w (Some (branch p below)) bs old = set (change p.own.content) where
    set : (content : Option (List ℕ)) → OkHas (content_set w content bs)
    set None = tt
    set (Some content) = changed_have (with_content content) (with_content_keeps content) w bs old

  join_has : (w second separator : List ℕ) (b c : Option (Branch Provision)) (bs : Branches Provision) → HaveWids P bs → OkHas (join_of w second separator b c bs)
  join_has w second separator None c bs old = tt
  join_has w second separator (Some b) None bs old = tt
  join_has w second separator (Some (branch p below)) (Some c) bs old = with_next (next_of w bs) where
    of_kind : (t : Bool) (content : List ℕ) (cause : Cause) → OkHas (cond t (Ok (changed (merged content) w bs)) (Err cause))
    of_kind t content cause = tested t (changed (merged content) w bs) cause (changed_have (merged content) (merged_keeps content) w bs old)

    named : (t : Bool) (r : Result (Branches Provision) Cause) (cause : Cause) → OkHas r → OkHas (cond t r (Err cause))
    named true r cause has = has
    named false r cause has = tt

    with_next : (next : Option (Branch Provision)) → OkHas (join_with_next w second separator p next bs)
    with_next None = tt
    with_next (Some (branch next under)) = named (bytes_eq next.wid second) (join_of_kind w separator p next bs) _ (of_kind _ _ _)

  module _ (by : Id) (brings : (w : List ℕ) → IsBehind (bringer by) w → P w) where
    split_has : (w : List ℕ) (num heading : List ℕ) (p : Provision) (cut : Result Cut Cause) (bs : Branches Provision) → HaveWids P bs → OkHas (split_along by w num heading p cut bs)
    split_has w num heading p (Err cause) bs old = tt
    split_has w num heading p (Ok cut) bs old =
        changed_have (parted cut.children cut.head (second_part by p.own.element num heading cut.tail))
        (parted_keeps cut.children cut.head (second_part by p.own.element num heading cut.tail) (brings (second_part by p.own.element num heading cut.tail).wid (level_text p.own.element num, refl))) w bs old

    split_of_has : (w : List ℕ) (at : SplitAt) (num heading : List ℕ) (b : Option (Branch Provision)) (bs : Branches Provision) → HaveWids P bs → OkHas (split_of by w at num heading b bs)
    split_of_has w at num heading None bs old = tt
    split_of_has w at num heading (Some (branch p below)) bs old = split_has w num heading p (cut_of at p.own.content below) bs old

    new_have : (nodes : Branches Own) → HaveWids P (brought by nodes)
    new_have nodes = brought_behind by P brings nodes

    edited_has : (edit : TextualMod) (bs : Branches Provision) → HaveWids P bs → OkHas (edited by edit bs)
    edited_has (Repeal w) bs old =
        tested (is_in w bs) (removed w bs) _ (cond_both (bytes_eq w root_wid) no_branches (without w bs) (HaveWids P) (λ _. tt) (λ _. without_have w bs old))
    edited_has (SubstituteNodes w new) bs old =
        tested (is_in w bs) (substituted w (brought by (branches_of new)) bs) _
        (cond_both (bytes_eq w root_wid) (brought by (branches_of new)) (changed (instead (brought by (branches_of new))) w bs) (HaveWids P)
        (λ _. new_have (branches_of new))
        (λ _. changed_have (instead (brought by (branches_of new))) (λ b rest here more. joined_have (brought by (branches_of new)) rest (new_have (branches_of new)) more) w bs old))
    edited_has (SubstituteText w spot new) bs old = content_has _ (with_spot spot new) w (provision_named w bs) bs old
    edited_has (InsertNodes w pos new) bs old = tested (is_anchor pos w bs) (placed pos w (brought by (branches_of new)) bs) _ (placed_have pos w (brought by (branches_of new)) bs (new_have (branches_of new)) old)
    edited_has (InsertText w at new) bs old = content_has _ (with_text at new) w (provision_named w bs) bs old
    edited_has (Renumber pairs) bs old = tested (list_all (λ pair. is_some (provision_named pair.0 bs)) pairs) (renumbered pairs bs) _ (renumbered_have pairs bs old)
    edited_has (Split w at num heading) bs old = split_of_has w at num heading (provision_named w bs) bs old
    edited_has (Join w second separator) bs old = join_has w second separator (provision_named w bs) (provision_named second bs) bs old

    after_has : (t : TreeValue) (r : Result (Branches Provision) Cause) → HaveWids P t.body → OkHas r → HaveWids P (tree_after t (within_limits t r)).body
    after_has t (Err cause) old new = old
    after_has t (Ok body) old new = by_cause (first_cause (record t { body = body })) where
      by_cause : (cause : Option Cause) → HaveWids P (tree_after t (unless_for cause body)).body
      by_cause None = new
      by_cause (Some cause) = old

    -- what holds of each wId of a tree, and of each that begins with the name of a modification, holds of each wId afterwards
    pub applied_has : (t : TreeValue) (edit : TextualMod) → HaveWids P t.body → HaveWids P (tree_after t (applied t by edit)).body
    applied_has t edit old = after_has t (edited by edit t.body) old (edited_has edit t.body old)
