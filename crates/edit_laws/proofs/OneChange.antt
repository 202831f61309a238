-- An edit at a provision is one change there, which depends on that provision alone, or also on the sibling that is taken in.
use Rattle.std.proofs.Common.{◌≡◌, ◌∙◌, sym, ap, refl, ℕ, true, false, cond, ◌||◌, List, [], ◌∷◌, length, Some}
use Rattle.std.specs.Prelude.{is_some, Result, Ok, Err}
use Rattle.std.specs.Str.{bytes_eq}
use Rattle.desk_base.specs.declared.id.Id.{Id}
use Rattle.eid_paths.specs.Levels.{level_text}
use Rattle.act_tree.specs.Branches.{Branch, Branches, branch, no_branches, more_branches, branches_of, listed}
use Rattle.act_tree.specs.Brought.{brought, second_part, has_brought}
use Rattle.act_tree.specs.Changes.{Step, has_wid, holds, any_holds, is_in, inside_without, without, removed, inside_changed, changed, joined, first, behind, instead, before, after, put_in, among_children, parted, substituted, grafted, root_wid, found, next_of}
use Rattle.act_tree.specs.Provisions.{Own, Provision}
use Rattle.act_tree.specs.Wids.{is_among}
use Rattle.act_tree.specs.declared.cause.Cause.{Cause}
use Rattle.act_tree.specs.declared.cause.Cause.TheVariants.{TargetMissing, AnchorMissing}
use Rattle.act_tree.proofs.BroughtWids.{brought_apart}
use Rattle.act_tree.proofs.Frames.{or_right, none_left, none_right, neither}
use Rattle.act_tree.proofs.Texts.{equal_text}
use Rattle.textual_mods.specs.Edits.{edited}
use Rattle.edit_laws.specs.Laws.{named_by}
use Rattle.textual_mods.specs.Splits.{cut_of, split_along, split_of}
use Rattle.textual_mods.specs.Targets.{provision_named, below, children_named}
use Rattle.textual_mods.specs.declared.edit.Pos.{Pos}
use Rattle.textual_mods.specs.declared.edit.Pos.TheVariants as stands
use Rattle.textual_mods.specs.declared.edit.SplitAt.{SplitAt}
use Rattle.textual_mods.specs.declared.splitting.Cut.{Cut}
use Rattle.textual_mods.specs.declared.edit.TextualMod.{TextualMod}
use Rattle.textual_mods.specs.declared.edit.TextualMod.TheVariants.{Repeal, SubstituteNodes, InsertNodes, Split}
use Rattle.textual_mods.proofs.OnePlace.{all_among}
use Rattle.edit_laws.proofs.Swapping.{Followed, always_followed, Makes}
use Rattle.edit_laws.proofs.Held.{none_first, none_behind, none_joined, none_put_in, IsNamed, named_as, is_held, new_differs}

-- the wIds that an edit names are off from this one: a provision that has it is there, is none of them and stands beneath none of them
pub record IsClear (edit : TextualMod) (body : Branches Provision) (u : List ℕ) : Type 0 where
  pub there : any_holds u body ≡ true
  pub not_in : (v : List ℕ) (b : Branch Provision) → is_among v (named_by edit) ≡ true → found v body ≡ Some b → holds u b ≡ false

-- what an edit reads of a text is the same in another
pub record ReadsSame (edit : TextualMod) (near body other : Branches Provision) (v : List ℕ) : Type 0 where
  pub same : (u : List ℕ) → is_among u (named_by edit) ≡ true → found u other ≡ found u body
  pub next : (b : Branch Provision) (rest : Branches Provision) → near ≡ more_branches b rest → next_of v other ≡ next_of v body

-- what is free of a wId
pub record IsFree (u : List ℕ) (a : Branch Provision) (near made : Branches Provision) : Type 0 where
  pub not_in : holds u a ≡ false
  pub not_near : any_holds u near ≡ false
  pub not_made : any_holds u made ≡ false

-- an edit is one change of a text, at one provision
pub record IsChange (by : Id) (edit : TextualMod) (body : Branches Provision) : Type 0 where
  pub place : List ℕ
  pub at : Branch Provision
  pub near : Branches Provision
  pub made : Branches Provision
  pub step : Step
  pub makes : Makes step at near made
  pub named : is_among place (named_by edit) ≡ true
  pub found_is : found place body ≡ Some at
  pub is : (other : Branches Provision) → ReadsSame edit near body other place → edited by edit other ≡ Ok (changed step place other)
  pub followed : Followed place near body
  pub next_is : (b : Branch Provision) (rest : Branches Provision) → near ≡ more_branches b rest → next_of place body ≡ Some b
  pub not_own : any_holds place near ≡ false
  pub free : (u : List ℕ) → IsClear edit body u → IsFree u at near made

joined_assoc : (xs ys zs : Branches Provision) → joined (joined xs ys) zs ≡ joined xs (joined ys zs)
joined_assoc no_branches ys zs = refl
joined_assoc (more_branches b xs) ys zs = ap (more_branches b) (joined_assoc xs ys zs)

one_among : (w : List ℕ) → is_among w (w ∷ []) ≡ true
one_among w = ap (λ t. t || false) (equal_text w w refl)

mutual
  inside_taken : (w : List ℕ) (b : Branch Provision) → inside_without w b ≡ inside_changed (instead no_branches) w b
  inside_taken w (branch q below) = ap (branch q) (taken_away w below)

  -- to take a provision away is to put nothing in its place
  pub taken_away : (w : List ℕ) (bs : Branches Provision) → without w bs ≡ changed (instead no_branches) w bs
  taken_away w no_branches = refl
  taken_away w (more_branches b bs) =
      ap (λ rest. cond (has_wid w b) rest (more_branches (inside_without w b) (without w bs))) (taken_away w bs)
      ∙ ap (λ rest. cond (has_wid w b) (changed (instead no_branches) w bs) (more_branches (inside_without w b) rest)) (taken_away w bs)
      ∙ ap (λ c. cond (has_wid w b) (changed (instead no_branches) w bs) (more_branches c (changed (instead no_branches) w bs))) (inside_taken w b)

-- the place of an edit that names one provision
module _ (by : Id) (body : Branches Provision) (fresh : has_brought by body ≡ false) (w : List ℕ) (p : Provision) (under : Branches Provision)
    (named : IsNamed w body (branch p under)) where
  -- the provision is there
  is_there : (other : Branches Provision) → found w other ≡ Some (branch p under) → is_in w other ≡ true
  is_there other is = or_right (bytes_eq w root_wid) _ (is_held w other (branch p under) is)

  named_there : (other : Branches Provision) → found w other ≡ Some (branch p under) → provision_named w other ≡ Some (branch p under)
  named_there other is = named_as w other named.other ∙ is

  -- a change that looks at nothing behind the provision
  of_one : (edit : TextualMod) (step : Step) (made : Branches Provision) → named_by edit ≡ w ∷ [] → Makes step (branch p under) no_branches made
      → ((other : Branches Provision) → found w other ≡ Some (branch p under) → edited by edit other ≡ Ok (changed step w other))
      → ((u : List ℕ) → any_holds u body ≡ true → holds u (branch p under) ≡ false → any_holds u made ≡ false) → IsChange by edit body
  of_one edit step made names makes is free =
      let among : is_among w (named_by edit) ≡ true = ap (is_among w) names ∙ one_among w in
      record {
        place = w;
        at = branch p under;
        near = no_branches;
        made = made;
        step = step;
        makes = makes;
        named = among;
        found_is = named.found_is;
        is = λ other reads. is other (reads.same w among ∙ named.found_is);
        followed = always_followed w body;
        next_is = λ b rest is. absurd cc;
        not_own = refl;
        free = λ u clear.
            let none : holds u (branch p under) ≡ false = clear.not_in w (branch p under) among named.found_is in
            record { not_in = none; not_near = refl; not_made = free u clear.there none };
      }

  brings_none : (new : Branches Own) (u : List ℕ) → any_holds u body ≡ true → any_holds u (brought by new) ≡ false
  brings_none new u there = all_among u (brought by new) ∙ brought_apart by new body fresh u (or_right (bytes_eq u root_wid) _ (sym (all_among u body) ∙ there))

  pub repeal_change : IsChange by (Repeal w) body
  repeal_change =
      of_one (Repeal w) (instead no_branches) no_branches refl (λ far. refl)
      (λ other is.
      ap (λ t. cond t (Ok (removed w other)) (Err TargetMissing)) (is_there other is)
      ∙ ap Ok (ap (λ t. cond t no_branches (without w other)) named.other ∙ taken_away w other))
      (λ u there none. refl)

  pub substitution_change : (new : List (Branch Own)) → IsChange by (SubstituteNodes w new) body
  substitution_change new =
      of_one (SubstituteNodes w new) (instead (brought by (branches_of new))) (brought by (branches_of new)) refl (λ far. refl)
      (λ other is.
      ap (λ t. cond t (Ok (substituted w (brought by (branches_of new)) other)) (Err TargetMissing)) (is_there other is)
      ∙ ap Ok (ap (λ t. cond t (brought by (branches_of new)) (changed (instead (brought by (branches_of new))) w other)) named.other))
      (λ u there none. brings_none (branches_of new) u there)

  pub insertion_change : (pos : Pos) (new : List (Branch Own)) → IsChange by (InsertNodes w pos new) body
  insertion_change stands.Before new =
      of_one (InsertNodes w stands.Before new) (before (brought by (branches_of new))) (joined (brought by (branches_of new)) (more_branches (branch p under) no_branches)) refl
      (λ far. sym (joined_assoc (brought by (branches_of new)) (more_branches (branch p under) no_branches) far))
      (λ other is. ap (λ o. cond (is_some o) (Ok (changed (before (brought by (branches_of new))) w other)) (Err AnchorMissing)) (named_there other is))
      (λ u there none. none_joined u (brought by (branches_of new)) (more_branches (branch p under) no_branches) (brings_none (branches_of new) u there) (neither (holds u (branch p under)) false none refl))
  insertion_change stands.After new =
      of_one (InsertNodes w stands.After new) (after (brought by (branches_of new))) (more_branches (branch p under) (brought by (branches_of new))) refl
      (λ far. refl)
      (λ other is. ap (λ o. cond (is_some o) (Ok (changed (after (brought by (branches_of new))) w other)) (Err AnchorMissing)) (named_there other is))
      (λ u there none. neither (holds u (branch p under)) _ none (brings_none (branches_of new) u there))
  insertion_change stands.Start new =
      of_one (InsertNodes w stands.Start new) (among_children 0 (brought by (branches_of new))) (more_branches (branch p (put_in 0 (brought by (branches_of new)) under)) no_branches) refl
      (λ far. refl)
      (λ other is.
      ap (λ t. cond t (Ok (grafted w 0 (brought by (branches_of new)) other)) (Err AnchorMissing)) (is_there other is)
      ∙ ap Ok (ap (λ t. cond t (put_in 0 (brought by (branches_of new)) other) (changed (among_children 0 (brought by (branches_of new))) w other)) named.other))
      (λ u there none. neither _ false
      (neither (bytes_eq p.wid u) _ (none_left (bytes_eq p.wid u) _ none) (none_put_in u 0 (brought by (branches_of new)) under (brings_none (branches_of new) u there) (none_right (bytes_eq p.wid u) _ none))) refl)
  insertion_change stands.End new =
      of_one (InsertNodes w stands.End new) (among_children (length (listed under)) (brought by (branches_of new)))
      (more_branches (branch p (put_in (length (listed under)) (brought by (branches_of new)) under)) no_branches) refl
      (λ far. refl)
      (λ other is.
      ap (λ t. cond t (Ok (grafted w (children_named w other) (brought by (branches_of new)) other)) (Err AnchorMissing)) (is_there other is)
      ∙ ap Ok (ap (λ t. cond t (put_in (children_named w other) (brought by (branches_of new)) other) (changed (among_children (children_named w other) (brought by (branches_of new))) w other)) named.other
      ∙ ap (λ n. changed (among_children n (brought by (branches_of new))) w other)
      (ap (λ t. length (listed (cond t other (below (found w other))))) named.other ∙ ap (λ o. length (listed (below o))) is)))
      (λ u there none. neither _ false
      (neither (bytes_eq p.wid u) _ (none_left (bytes_eq p.wid u) _ none) (none_put_in u (length (listed under)) (brought by (branches_of new)) under (brings_none (branches_of new) u there) (none_right (bytes_eq p.wid u) _ none))) refl)

  pub split_change : (at : SplitAt) (num heading : List ℕ) (x : Branches Provision) → edited by (Split w at num heading) body ≡ Ok x → IsChange by (Split w at num heading) body
  split_change at num heading x made =
      of_cut (cut_of at p.own.content under) refl (sym (ap (λ o. split_of by w at num heading o body) (named_there body named.found_is)) ∙ made)
    where
      of_cut : (r : Result Cut Cause) → cut_of at p.own.content under ≡ r → split_along by w num heading p r body ≡ Ok x → IsChange by (Split w at num heading) body
      of_cut (Err cause) is one = absurd cc
      of_cut (Ok cut) is one =
          let second : Provision = second_part by p.own.element num heading cut.tail in
          of_one (Split w at num heading) (parted cut.children cut.head second)
          (more_branches (branch (record p { own = record p.own { content = cut.head } }) (first cut.children under)) (more_branches (branch second (behind cut.children under)) no_branches)) refl
          (λ far. refl)
          (λ other found_it. ap (λ o. split_of by w at num heading o other) (named_there other found_it) ∙ ap (λ r. split_along by w num heading p r other) is)
          (λ u there none. neither _ _
          (neither (bytes_eq p.wid u) _ (none_left (bytes_eq p.wid u) _ none) (none_first u cut.children under (none_right (bytes_eq p.wid u) _ none)))
          (neither _ false (neither (bytes_eq second.wid u) _ (new_differs by body u (level_text p.own.element num) fresh there) (none_behind u cut.children under (none_right (bytes_eq p.wid u) _ none))) refl))
