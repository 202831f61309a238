-- A provision that is split and joined again is as it was.
use Rattle.std.proofs.Common.{◌≡◌, ◌∙◌, sym, ap, refl, ℕ, zero, suc, ◌-◌, ◌==◌, Bool, true, false, cond, ◌||◌, List, [], ◌∷◌, ◌++◌, append_assoc, drop, length, nat_eq, Option, Some, None, inl, inr}
use Rattle.std.specs.Prelude.{is_some, option_map, Result, Ok, Err}
use Rattle.std.specs.List.{starts_with}
use Rattle.std.specs.Str.{bytes_eq}
use Rattle.std.proofs.lemmas.Bool.{cases_Bool, eq-eqb}
use Rattle.std.proofs.lemmas.Bool.Decides.{Decides-eqb}
use Rattle.std.proofs.lemmas.List.{append-nil}
use Rattle.std.proofs.lemmas.Slice.Eq.{starts_is}
use Rattle.desk_base.specs.declared.id.Id.{Id}
use Rattle.eid_paths.specs.Elements.{element_place}
use Rattle.eid_paths.specs.Levels.{level_text}
use Rattle.act_tree.specs.Branches.{Branch, Branches, branch, no_branches, more_branches}
use Rattle.act_tree.specs.Brought.{brought_wid, second_part, has_brought}
use Rattle.act_tree.specs.Changes.{Step, holds, any_holds, changed, joined, first, behind, parted, merged, found, next_of, or_else}
use Rattle.act_tree.specs.Provisions.{Provision}
use Rattle.act_tree.specs.Wids.{all_wids, one_twice}
use Rattle.act_tree.specs.declared.cause.Cause.{Cause}
use Rattle.act_tree.specs.declared.cause.Cause.TheVariants.{AnchorMissing, KindsDiffer}
use Rattle.act_tree.proofs.Frames.{or_left, or_right, neither}
use Rattle.act_tree.proofs.Texts.{equal_text}
use Rattle.edit_laws.specs.Laws.{wid_of_second}
use Rattle.textual_mods.specs.Joins.{join_of_kind, join_with_next, join_of, joined_with}
use Rattle.textual_mods.specs.Occurrences.{parted_at_first, behind_front, parted_behind, parted_after, parted_at}
use Rattle.textual_mods.specs.Splits.{place_among, cut_at_text, cut_at_child, cut_of, split_along, split_of, split_at_cut}
use Rattle.textual_mods.specs.Targets.{provision_named}
use Rattle.textual_mods.specs.declared.splitting.Cut.{Cut}
use Rattle.textual_mods.specs.declared.edit.SplitAt.{SplitAt}
use Rattle.textual_mods.specs.declared.edit.SplitAt.TheVariants as cuts
use Rattle.edit_laws.proofs.AtOnePlace.{IsOnly, Alone, one_place}
use Rattle.textual_mods.proofs.OnePlace.{not_changed, at_place, elsewhere, held_found, first_found}
use Rattle.edit_laws.proofs.Held.{first_and_behind, none_first, none_behind, IsAlone, it_alone, IsNamed, is_named, named_as, new_differs, new_no_root, some_of}
use Rattle.edit_laws.proofs.Readers.{found_reads, next_reads, read_after}

-- both parts of a text, with what stood between them, are the text
whole_at_first : (old text : List ℕ) (parts : List ℕ × List ℕ) → parted_at_first old text ≡ Some parts → parts.0 ++ (old ++ parts.1) ≡ text
whole_at_first old [] parts is = by (starts_with nat_eq [] old) refl is
  where
    by : (t : Bool) → starts_with nat_eq [] old ≡ t → cond t (Some ([], [])) None ≡ Some parts → parts.0 ++ (old ++ parts.1) ≡ []
    by true told one =
        let both : ([], []) ≡ parts = cc in
        let none : [] ≡ old ++ drop (length old) [] = (starts_is Decides-eqb [] old _ refl).0 told in
        ap (λ (x : List ℕ × List ℕ). x.0 ++ (old ++ x.1)) (sym both) ∙ append-nil old ∙ empty old (drop (length old) []) none
      where
        empty : (xs ys : List ℕ) → [] ≡ xs ++ ys → xs ≡ []
        empty [] ys none = refl
        empty (x ∷ xs) ys none = absurd cc
    by false told one = absurd cc
whole_at_first old (b ∷ text) parts is = by (starts_with nat_eq (b ∷ text) old) refl (parted_at_first old text) (λ inner. whole_at_first old text inner) is
  where
    by : (t : Bool) → starts_with nat_eq (b ∷ text) old ≡ t → (o : Option (List ℕ × List ℕ)) → ((inner : List ℕ × List ℕ) → o ≡ Some inner → inner.0 ++ (old ++ inner.1) ≡ text)
        → cond t (Some ([], drop (length old) (b ∷ text))) (option_map (λ parts. (b ∷ parts.0, parts.1)) o) ≡ Some parts → parts.0 ++ (old ++ parts.1) ≡ b ∷ text
    by true told o later one =
        let both : ([], drop (length old) (b ∷ text)) ≡ parts = cc in
        ap (λ (x : List ℕ × List ℕ). x.0 ++ (old ++ x.1)) (sym both) ∙ sym ((starts_is Decides-eqb (b ∷ text) old _ refl).0 told)
    by false told None later one = absurd cc
    by false told (Some inner) later one =
        let both : (b ∷ inner.0, inner.1) ≡ parts = cc in
        ap (λ (x : List ℕ × List ℕ). x.0 ++ (old ++ x.1)) (sym both) ∙ ap (λ rest. b ∷ rest) (later inner refl)

whole_after : (old : List ℕ) (others : ℕ) (text : List ℕ) (parts : List ℕ × List ℕ) → parted_after old others text ≡ Some parts → parts.0 ++ (old ++ parts.1) ≡ text
whole_after old zero text parts is = whole_at_first old text parts is
whole_after old (suc others) text parts is = by (parted_at_first old text) (whole_at_first old text) (whole_after old others) is
  where
    then_by : (front : List ℕ × List ℕ) (o : Option (List ℕ × List ℕ)) → ((inner : List ℕ × List ℕ) → o ≡ Some inner → inner.0 ++ (old ++ inner.1) ≡ front.1)
        → option_map (behind_front (front.0 ++ old)) o ≡ Some parts → parts.0 ++ (old ++ parts.1) ≡ front.0 ++ (old ++ front.1)
    then_by front None inner none = absurd cc
    then_by front (Some parts_behind) inner some =
        let both : ((front.0 ++ old) ++ parts_behind.0, parts_behind.1) ≡ parts = cc in
        ap (λ (x : List ℕ × List ℕ). x.0 ++ (old ++ x.1)) (sym both)
        ∙ append_assoc (front.0 ++ old) parts_behind.0 (old ++ parts_behind.1)
        ∙ ap (λ t. (front.0 ++ old) ++ t) (inner parts_behind refl)
        ∙ append_assoc front.0 old front.1

    by : (o : Option (List ℕ × List ℕ)) → ((inner : List ℕ × List ℕ) → o ≡ Some inner → inner.0 ++ (old ++ inner.1) ≡ text)
        → ((t : List ℕ) (inner : List ℕ × List ℕ) → parted_after old others t ≡ Some inner → inner.0 ++ (old ++ inner.1) ≡ t)
        → parted_behind old (parted_after old others) o ≡ Some parts → parts.0 ++ (old ++ parts.1) ≡ text
    by None front later one = absurd cc
    by (Some parts_front) front later one = then_by parts_front (parted_after old others parts_front.1) (later parts_front.1) one ∙ front parts_front refl

whole : (old : List ℕ) (number : ℕ) (text : List ℕ) (parts : List ℕ × List ℕ) → parted_at old number text ≡ Some parts → parts.0 ++ (old ++ parts.1) ≡ text
whole old number text parts is = by (number == 0) is
  where
    by : (t : Bool) → cond t None (parted_after old (number - 1) text) ≡ Some parts → parts.0 ++ (old ++ parts.1) ≡ text
    by true none = absurd cc
    by false some = whole_after old (number - 1) text parts some

-- the parts of a cut are the content
cut_whole : (at : SplitAt) (content : List ℕ) (below : Branches Provision) (cut : Cut) → cut_of at content below ≡ Ok cut → cut.head ++ cut.tail ≡ content
cut_whole (cuts.Text spot) content below cut is = by (parted_at spot.old spot.occurrence content) (whole spot.old spot.occurrence content) is
  where
    by : (o : Option (List ℕ × List ℕ)) → ((parts : List ℕ × List ℕ) → o ≡ Some parts → parts.0 ++ (spot.old ++ parts.1) ≡ content) → cut_at_text spot.old o ≡ Ok cut → cut.head ++ cut.tail ≡ content
    by None parts none = absurd cc
    by (Some two) parts some =
        let one : record { children = 0; head = two.0; tail = spot.old ++ two.1 } ≡ cut = cc in
        ap (λ (c : Cut). c.head ++ c.tail) (sym one) ∙ parts two refl
cut_whole (cuts.Child child) content below cut is = by (place_among child below) is
  where
    by : (o : Option ℕ) → cut_at_child content o ≡ Ok cut → cut.head ++ cut.tail ≡ content
    by None none = absurd cc
    by (Some place) some =
        let one : record { children = place; head = content; tail = [] } ≡ cut = cc in
        ap (λ (c : Cut). c.head ++ c.tail) (sym one) ∙ append-nil content

-- a provision that is parted and takes its second part in again is as it was
module _ (w : List ℕ) (k : ℕ) (head : List ℕ) (second p : Provision) (below : Branches Provision) (it : bytes_eq p.wid w ≡ true) (none : any_holds w below ≡ false)
    (other : bytes_eq second.wid w ≡ false) (no_refs : second.own.refs ≡ []) where
  none_in_second : (rest : Branches Provision) → any_holds w rest ≡ false → any_holds w (more_branches (branch second (behind k below)) rest) ≡ false
  none_in_second rest free = neither (holds w (branch second (behind k below))) _ (neither (bytes_eq second.wid w) _ other (none_behind w k below none)) free

  taken_in : (content : List ℕ) (rest : Branches Provision) → content ≡ p.own.content → any_holds w rest ≡ false
      → changed (merged content) w (parted k head second (branch p below) rest) ≡ more_branches (branch p below) rest
  taken_in content rest is free =
      at_place (merged content) w (branch (record p { own = record p.own { content = head } }) (first k below)) (more_branches (branch second (behind k below)) rest) it
      ∙ ap (λ bs. merged content (branch (record p { own = record p.own { content = head } }) bs) (changed (merged content) w (more_branches (branch second (behind k below)) rest)))
      (not_changed (merged content) w (first k below) (none_first w k below none))
      ∙ ap (merged content (branch (record p { own = record p.own { content = head } }) (first k below))) (not_changed (merged content) w (more_branches (branch second (behind k below)) rest) (none_in_second rest free))
      ∙ ap (λ refs. more_branches (branch (record p { own = record p.own { content = content; refs = p.own.refs ++ refs } }) (joined (first k below) (behind k below))) rest) no_refs
      ∙ ap (λ refs. more_branches (branch (record p { own = record p.own { content = content; refs = refs } }) (joined (first k below) (behind k below))) rest) (append-nil p.own.refs)
      ∙ ap (λ (text : List ℕ). more_branches (branch (record p { own = record p.own { content = text } }) (joined (first k below) (behind k below))) rest) is
      ∙ ap (λ bs. more_branches (branch p bs) rest) (first_and_behind k below)

-- two changes at a provision of which the second undoes the first leave the text
pub undone : (one two : Step) (w : List ℕ) (it : Branch Provision) → ((rest : Branches Provision) → any_holds w rest ≡ false → changed two w (one it rest) ≡ more_branches it rest)
    → (bs : Branches Provision) → Alone w it bs → changed two w (changed one w bs) ≡ bs
undone one two w it back no_branches alone = refl
undone one two w it back (more_branches (branch p below) bs) alone =
    elim (cases_Bool (bytes_eq p.wid w)) [
      | inl of_it ↦
          let only : IsOnly w it (branch p below) bs = alone.0 of_it in
          ap (changed two w)
          (at_place one w (branch p below) bs of_it
          ∙ ap (λ cs. one (branch p cs) (changed one w bs)) (not_changed one w below only.beneath)
          ∙ ap (one (branch p below)) (not_changed one w bs only.behind)
          ∙ ap (λ b. one b bs) only.is)
          ∙ back bs only.behind
          ∙ ap (λ b. more_branches b bs) (sym only.is)
      | inr other ↦
          ap (changed two w) (elsewhere one w (branch p below) bs other)
          ∙ elsewhere two w (branch p (changed one w below)) (changed one w bs) other
          ∙ ap (λ cs. more_branches (branch p cs) (changed two w (changed one w bs))) (undone one two w it back below alone.1.0)
          ∙ ap (more_branches (branch p below)) (undone one two w it back bs alone.1.1)
    ]

-- what the step brings is in the text afterwards
held_after : (step : Step) (w s : List ℕ) (it : Branch Provision) → ((rest : Branches Provision) → any_holds s (step it rest) ≡ true)
    → (bs : Branches Provision) → any_holds w bs ≡ true → Alone w it bs → any_holds s (changed step w bs) ≡ true
held_after step w s it brings no_branches held alone = absurd cc
held_after step w s it brings (more_branches (branch p below) bs) held alone =
    elim (cases_Bool (bytes_eq p.wid w)) [
      | inl of_it ↦
          let only : IsOnly w it (branch p below) bs = alone.0 of_it in
          ap (any_holds s)
          (at_place step w (branch p below) bs of_it
          ∙ ap (λ cs. step (branch p cs) (changed step w bs)) (not_changed step w below only.beneath)
          ∙ ap (λ b. step b (changed step w bs)) only.is)
          ∙ brings (changed step w bs)
      | inr other ↦
          ap (any_holds s) (elsewhere step w (branch p below) bs other)
          ∙ elim (cases_Bool (any_holds w below)) [
            | inl here ↦ or_left _ _ (or_right (bytes_eq p.wid s) _ (held_after step w s it brings below here alone.1.0))
            | inr none ↦ or_right (bytes_eq p.wid s || any_holds s (changed step w below)) _
                (held_after step w s it brings bs (sym (ap (λ t. (t || any_holds w below) || any_holds w bs) other ∙ ap (λ t. t || any_holds w bs) none) ∙ held) alone.1.1)
          ]
    ]

module _ (by : Id) (w num heading : List ℕ) (body : Branches Provision) (once : one_twice (all_wids body) ≡ false) (fresh : has_brought by body ≡ false)
    (p : Provision) (below : Branches Provision) (named : provision_named w body ≡ Some (branch p below)) (cut : Cut) (whole_cut : cut.head ++ cut.tail ≡ p.own.content) where
  abbrev second : Provision
  second = second_part by p.own.element num heading cut.tail

  abbrev split_step : Step
  split_step = parted cut.children cut.head second

  abbrev split_body : Branches Provision
  split_body = changed split_step w body

  is : IsNamed w body (branch p below)
  is = is_named w body (branch p below) named

  alone : Alone w (branch p below) body
  alone = one_place w (branch p below) body once is.found_is

  held : any_holds w body ≡ true
  held = sym (held_found w body) ∙ ap is_some is.found_is

  it : IsAlone w (branch p below)
  it = it_alone w (branch p below) body held alone

  differs : bytes_eq second.wid w ≡ false
  differs = new_differs by body w (level_text p.own.element num) fresh held

  first_named : provision_named w split_body ≡ Some (branch (record p { own = record p.own { content = cut.head } }) (first cut.children below))
  first_named =
      named_as w split_body is.other
      ∙ read_after (found w) w (found_reads w) split_step (branch p below) (branch (record p { own = record p.own { content = cut.head } }) (first cut.children below))
      (λ rest none. first_found w (record p { own = record p.own { content = cut.head } }) (first cut.children below) (more_branches (branch second (behind cut.children below)) rest) it.of_it) body held alone

  next_named : next_of w split_body ≡ Some (branch second (behind cut.children below))
  next_named =
      read_after (next_of w) w (next_reads w) split_step (branch p below) (branch second (behind cut.children below))
      (λ rest none. ap (λ t. cond t (Some (branch second (behind cut.children below)))
      (or_else (next_of w (first cut.children below)) (next_of w (more_branches (branch second (behind cut.children below)) rest)))) it.of_it) body held alone

  second_held : any_holds second.wid split_body ≡ true
  second_held =
      held_after split_step w second.wid (branch p below)
      (λ rest. or_right (holds second.wid (branch (record p { own = record p.own { content = cut.head } }) (first cut.children below))) _
      (or_left _ _ (or_left _ _ (equal_text second.wid second.wid refl)))) body held alone

  second_named : (b : Branch Provision) × (provision_named second.wid split_body ≡ Some b)
  second_named =
      let some : is_some (provision_named second.wid split_body) ≡ true =
      ap is_some (named_as second.wid split_body (new_no_root by (level_text p.own.element num))) ∙ held_found second.wid split_body ∙ second_held in
      some_of (provision_named second.wid split_body) some

  -- the split text, joined, is the text
  joined_back : joined_with w second.wid [] split_body ≡ Ok body
  joined_back =
      let q : Provision = record p { own = record p.own { content = cut.head } } in
      ap (λ o. join_of w second.wid [] o (provision_named second.wid split_body) split_body) first_named
      ∙ ap (λ o. join_of w second.wid [] (Some (branch q (first cut.children below))) o split_body) second_named.1
      ∙ ap (λ o. join_with_next w second.wid [] q o split_body) next_named
      ∙ ap (λ t. cond t (join_of_kind w [] q second split_body) (Err AnchorMissing)) (equal_text second.wid second.wid refl)
      ∙ ap (λ t. cond t (Ok (changed (merged (cut.head ++ ([] ++ cut.tail))) w split_body)) (Err KindsDiffer)) (eq-eqb (element_place p.own.element) (element_place p.own.element) refl)
      ∙ ap Ok (undone split_step (merged (cut.head ++ cut.tail)) w (branch p below)
      (λ rest none. taken_in w cut.children cut.head second p below it.of_it it.none differs refl (cut.head ++ cut.tail) rest whole_cut none) body alone)

-- a split that is made is undone by the join of both parts
pub split_joined : (by : Id) (w : List ℕ) (at : SplitAt) (num heading : List ℕ) (body after : Branches Provision) → one_twice (all_wids body) ≡ false → has_brought by body ≡ false
    → split_at_cut by w at num heading body ≡ Ok after → joined_with w (wid_of_second by num (provision_named w body)) [] after ≡ Ok body
split_joined by w at num heading body after once fresh made = of_named (provision_named w body) refl made
  where
    of_cut : (p : Provision) (below : Branches Provision) → provision_named w body ≡ Some (branch p below) → (r : Result Cut Cause) → ((cut : Cut) → r ≡ Ok cut → cut.head ++ cut.tail ≡ p.own.content)
        → split_along by w num heading p r body ≡ Ok after → joined_with w (brought_wid by p.own.element num) [] after ≡ Ok body
    of_cut p below named (Err cause) parts one = absurd cc
    of_cut p below named (Ok cut) parts one =
        let same : changed (parted cut.children cut.head (second_part by p.own.element num heading cut.tail)) w body ≡ after = cc in
        ap (joined_with w (brought_wid by p.own.element num) []) (sym same) ∙ joined_back by w num heading body once fresh p below named cut (parts cut refl)

    of_named : (o : Option (Branch Provision)) → provision_named w body ≡ o → split_of by w at num heading o body ≡ Ok after → joined_with w (wid_of_second by num o) [] after ≡ Ok body
    of_named None named one = absurd cc
    of_named (Some (branch p below)) named one = of_cut p below named (cut_of at p.own.content below) (λ cut is. cut_whole at p.own.content below cut is) one
