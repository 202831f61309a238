-- A join is one change, which depends on the provision and on its next sibling.
use Rattle.std.proofs.Common.{◌≡◌, ◌∙◌, sym, ap, refl, ℕ, Bool, true, false, cond, ◌==◌, ◌||◌, List, [], ◌∷◌, ◌++◌, Option, Some, None, inl, inr}
use Rattle.std.specs.Prelude.{Ok, Err}
use Rattle.std.specs.Str.{bytes_eq}
use Rattle.std.proofs.lemmas.Bool.{cases_Bool}
use Rattle.desk_base.specs.declared.id.Id.{Id}
use Rattle.eid_paths.specs.Elements.{element_place}
use Rattle.act_tree.specs.Branches.{Branch, Branches, branch, no_branches, more_branches}
use Rattle.act_tree.specs.Changes.{holds, any_holds, changed, joined, merged, found, next_of, or_else}
use Rattle.act_tree.specs.Provisions.{Provision}
use Rattle.act_tree.specs.Wids.{all_wids, is_among, one_twice}
use Rattle.act_tree.specs.declared.cause.Cause.TheVariants.{AnchorMissing, KindsDiffer}
use Rattle.act_tree.proofs.Frames.{or_left, or_right, none_left, none_right, neither}
use Rattle.act_tree.proofs.Texts.{same_text, equal_text}
use Rattle.textual_mods.specs.Edits.{edited}
use Rattle.textual_mods.specs.Joins.{join_of_kind, join_with_next, join_of}
use Rattle.textual_mods.specs.Targets.{provision_named}
use Rattle.textual_mods.specs.declared.edit.TextualMod.TheVariants.{Join}
use Rattle.edit_laws.proofs.AtOnePlace.{IsOnly, Alone, one_place}
use Rattle.textual_mods.proofs.OnePlace.{first_found, found_past, AreDistinct, are_distinct, not_at, not_before, beneath_it, behind_it, first_of}
use Rattle.edit_laws.proofs.Swapping.{IsBefore, Followed, none_followed}
use Rattle.textual_mods.proofs.RightBehind.{IsFirst, is_first, head_at, only_first, next_past, next_none}
use Rattle.edit_laws.proofs.Readers.{found_reads, read_behind}
use Rattle.edit_laws.proofs.Held.{none_joined, IsNamed, named_as, is_held}
use Rattle.edit_laws.proofs.OneChange.{ReadsSame, IsChange}

-- of two readings the first or, where it gives nothing, the second
data EitherGives (one other : Option (Branch Provision)) (b : Branch Provision) : Type 0 where
  first_gives : one ≡ Some b → EitherGives one other b
  second_gives : one ≡ None → other ≡ Some b → EitherGives one other b

either_gives : (one other : Option (Branch Provision)) (b : Branch Provision) → or_else one other ≡ Some b → EitherGives one other b
either_gives None other b is = second_gives refl is
either_gives (Some c) other b is = first_gives is

-- what stands right behind a provision is found at its wId
next_found : (v : List ℕ) (q : Provision) (deep bs : Branches Provision) → one_twice (all_wids bs) ≡ false → next_of v bs ≡ Some (branch q deep) → found q.wid bs ≡ Some (branch q deep)
next_found v q deep no_branches once is = absurd cc
next_found v q deep (more_branches (branch p below) bs) once is =
    let d : AreDistinct p below bs = are_distinct p below bs once in
    elim (cases_Bool (bytes_eq p.wid v)) [
      | inl it ↦
          let head : IsFirst (branch q deep) bs = is_first (branch q deep) bs (sym (head_at v p below bs it) ∙ is) in
          let found_there : found q.wid bs ≡ Some (branch q deep) = ap (found q.wid) head.is ∙ first_found q.wid q deep head.rest (equal_text q.wid q.wid refl) in
          later p below bs d found_there
      | inr other ↦ elim (either_gives (next_of v below) (next_of v bs) (branch q deep) (sym (next_past v p below bs other) ∙ is)) [
        | first_gives inner ↦
            let found_there : found q.wid below ≡ Some (branch q deep) = next_found v q deep below d.beneath_once inner in
            found_past q.wid p below bs (not_at p below bs d q.wid (is_held q.wid below (branch q deep) found_there)) ∙ ap (λ o. or_else o (found q.wid bs)) found_there
        | second_gives none outer ↦ later p below bs d (next_found v q deep bs d.behind_once outer)
      ]
    ]
  where
    later : (p : Provision) (below bs : Branches Provision) → AreDistinct p below bs → found q.wid bs ≡ Some (branch q deep) → found q.wid (more_branches (branch p below) bs) ≡ Some (branch q deep)
    later p below bs d found_there =
        read_behind (found q.wid) q.wid (found_reads q.wid) (branch p below) bs (not_before p below bs d q.wid (is_held q.wid bs (branch q deep) found_there)) ∙ found_there

-- and stands right behind each provision of the wId
pub next_followed : (v : List ℕ) (it b : Branch Provision) (bs : Branches Provision) → one_twice (all_wids bs) ≡ false → found v bs ≡ Some it → next_of v bs ≡ Some b
    → Followed v (more_branches b no_branches) bs
next_followed v it b no_branches once there is = tt
next_followed v it b (more_branches (branch p below) bs) once there is =
    let d : AreDistinct p below bs = are_distinct p below bs once in
    elim (cases_Bool (bytes_eq p.wid v)) [
      | inl of_it ↦
          let same : p.wid ≡ v = same_text p.wid v of_it in
          let head : IsFirst b bs = is_first b bs (sym (head_at v p below bs of_it) ∙ is) in (
            λ _. record { far = head.rest; is = head.is },
            (
              none_followed v (more_branches b no_branches) below (ap (λ w. any_holds w below) (sym same) ∙ d.not_beneath),
              none_followed v (more_branches b no_branches) bs (ap (λ w. any_holds w bs) (sym same) ∙ d.not_behind),
            ),
          )
      | inr other ↦
          let next : or_else (next_of v below) (next_of v bs) ≡ Some b = sym (next_past v p below bs other) ∙ is in (
            λ of_it. absurd (let never : true ≡ false = sym of_it ∙ other in cc),
            elim (first_of v it below bs (sym (found_past v p below bs other) ∙ there)) [
              | beneath_it here held ↦ (
                next_followed v it b below d.beneath_once here (only_first (next_of v below) (next_of v bs) b (next_none v bs (d.apart v held)) next),
                none_followed v (more_branches b no_branches) bs (d.apart v held),
              )
              | behind_it none here ↦ (
                none_followed v (more_branches b no_branches) below none,
                next_followed v it b bs d.behind_once here (sym (ap (λ o. or_else o (next_of v bs)) (next_none v below none)) ∙ next),
              )
            ],
          )
    ]

none_before : (v : List ℕ) (near far : Branches Provision) → any_holds v (joined near far) ≡ false → any_holds v near ≡ false
none_before v no_branches far none = refl
none_before v (more_branches b bs) far none = neither (holds v b) _ (none_left (holds v b) _ none) (none_before v bs far (none_right (holds v b) _ none))

-- what stands right behind a provision has not its wId
pub own_apart : (v : List ℕ) (it : Branch Provision) (near bs : Branches Provision) → any_holds v bs ≡ true → Alone v it bs → Followed v near bs → any_holds v near ≡ false
own_apart v it near no_branches held alone followed = absurd cc
own_apart v it near (more_branches (branch p below) bs) held alone followed =
    elim (cases_Bool (bytes_eq p.wid v)) [
      | inl of_it ↦
          let only : IsOnly v it (branch p below) bs = alone.0 of_it in
          let before : IsBefore near bs = followed.0 of_it in
          none_before v near before.far (ap (any_holds v) (sym before.is) ∙ only.behind)
      | inr other ↦ elim (cases_Bool (any_holds v below)) [
        | inl here ↦ own_apart v it near below here alone.1.0 followed.1.0
        | inr none ↦ own_apart v it near bs (sym (ap (λ t. (t || any_holds v below) || any_holds v bs) other ∙ ap (λ t. t || any_holds v bs) none) ∙ held) alone.1.1 followed.1.1
      ]
    ]

module _ (by : Id) (body : Branches Provision) (once : one_twice (all_wids body) ≡ false) (w second separator : List ℕ) (p : Provision) (under : Branches Provision) (c : Branch Provision)
    (named : IsNamed w body (branch p under)) (second_named : IsNamed second body c) where
  first_among : is_among w (w ∷ second ∷ []) ≡ true
  first_among = or_left _ _ (equal_text w w refl)

  second_among : is_among second (w ∷ second ∷ []) ≡ true
  second_among = or_right (bytes_eq second w) _ (or_left _ _ (equal_text second second refl))

  module _ (q : Provision) (deep : Branches Provision) (next : next_of w body ≡ Some (branch q deep)) (of_second : bytes_eq q.wid second ≡ true)
      (alike : (element_place p.own.element == element_place q.own.element) ≡ true) where
    abbrev content : List ℕ
    content = p.own.content ++ (separator ++ q.own.content)

    abbrev taken : Branch Provision
    taken = branch (record p { own = record p.own { content = content; refs = p.own.refs ++ q.own.refs } }) (joined under deep)

    second_is : found second body ≡ Some (branch q deep)
    second_is = ap (λ x. found x body) (sym (same_text q.wid second of_second)) ∙ next_found w q deep body once next

    followed : Followed w (more_branches (branch q deep) no_branches) body
    followed = next_followed w (branch p under) (branch q deep) body once named.found_is next

    joined_is : (other : Branches Provision) → ReadsSame (Join w second separator) (more_branches (branch q deep) no_branches) body other w
        → edited by (Join w second separator) other ≡ Ok (changed (merged content) w other)
    joined_is other reads =
        ap (λ o. join_of w second separator o (provision_named second other) other) (named_as w other named.other ∙ reads.same w first_among ∙ named.found_is)
        ∙ ap (λ o. join_of w second separator (Some (branch p under)) o other) (named_as second other second_named.other ∙ reads.same second second_among ∙ second_is)
        ∙ ap (λ o. join_with_next w second separator p o other) (reads.next (branch q deep) no_branches refl ∙ next)
        ∙ ap (λ t. cond t (join_of_kind w separator p q other) (Err AnchorMissing)) of_second
        ∙ ap (λ t. cond t (Ok (changed (merged content) w other)) (Err KindsDiffer)) alike

    joined_change : IsChange by (Join w second separator) body
    joined_change =
        record {
          place = w;
          at = branch p under;
          near = more_branches (branch q deep) no_branches;
          made = more_branches taken no_branches;
          step = merged content;
          makes = λ far. refl;
          named = first_among;
          found_is = named.found_is;
          is = joined_is;
          followed = followed;
          next_is = λ b rest is. next ∙ ap Some (let one : branch q deep ≡ b = cc in one);
          not_own = own_apart w (branch p under) (more_branches (branch q deep) no_branches) body (is_held w body (branch p under) named.found_is)
              (one_place w (branch p under) body once named.found_is) followed;
          free = λ u clear.
              let none : holds u (branch p under) ≡ false = clear.not_in w (branch p under) first_among named.found_is in
              let none_near : holds u (branch q deep) ≡ false = clear.not_in second (branch q deep) second_among second_is in
              record {
                not_in = none;
                not_near = neither (holds u (branch q deep)) false none_near refl;
                not_made = neither (holds u taken) false
                    (neither (bytes_eq p.wid u) _ (none_left (bytes_eq p.wid u) _ none) (none_joined u under deep (none_right (bytes_eq p.wid u) _ none) (none_right (bytes_eq q.wid u) _ none_near))) refl;
              };
        }

  pub join_change : (x : Branches Provision) → edited by (Join w second separator) body ≡ Ok x → IsChange by (Join w second separator) body
  join_change x made =
      of_next (next_of w body) refl
      (sym (ap (λ o. join_of w second separator o (provision_named second body) body) (named_as w body named.other ∙ named.found_is)
      ∙ ap (λ o. join_of w second separator (Some (branch p under)) o body) (named_as second body second_named.other ∙ second_named.found_is)) ∙ made)
    where
      of_kind : (q : Provision) (deep : Branches Provision) → next_of w body ≡ Some (branch q deep) → bytes_eq q.wid second ≡ true → (t : Bool) → (element_place p.own.element == element_place q.own.element) ≡ t
          → cond t (Ok (changed (merged (p.own.content ++ (separator ++ q.own.content))) w body)) (Err KindsDiffer) ≡ Ok x → IsChange by (Join w second separator) body
      of_kind q deep next of_second true alike one = joined_change q deep next of_second alike
      of_kind q deep next of_second false alike one = absurd cc

      of_wid : (q : Provision) (deep : Branches Provision) → next_of w body ≡ Some (branch q deep) → (t : Bool) → bytes_eq q.wid second ≡ t
          → cond t (join_of_kind w separator p q body) (Err AnchorMissing) ≡ Ok x → IsChange by (Join w second separator) body
      of_wid q deep next true of_second one = of_kind q deep next of_second (element_place p.own.element == element_place q.own.element) refl one
      of_wid q deep next false of_second one = absurd cc

      of_next : (o : Option (Branch Provision)) → next_of w body ≡ o → join_with_next w second separator p o body ≡ Ok x → IsChange by (Join w second separator) body
      of_next None next one = absurd cc
      of_next (Some (branch q deep)) next one = of_wid q deep next (bytes_eq q.wid second) refl one
