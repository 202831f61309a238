-- What is read of a text at a wId, and how a change bears on it.
use Rattle.std.proofs.Common.{◌≡◌, ◌∙◌, sym, ap, refl, ℕ, Bool, true, false, ◌||◌, List, Option, Some, None, inl, inr}
use Rattle.std.specs.Prelude.{is_some}
use Rattle.std.specs.Str.{bytes_eq}
use Rattle.std.proofs.lemmas.Bool.{cases_Bool}
use Rattle.act_tree.specs.Branches.{Branch, Branches, branch, no_branches, more_branches}
use Rattle.act_tree.specs.Changes.{Step, holds, any_holds, changed, joined, found, next_of, or_else}
use Rattle.act_tree.specs.Provisions.{Provision}
use Rattle.act_tree.proofs.Frames.{none_left, none_right}
use Rattle.textual_mods.proofs.RightBehind.{next_past, next_none}
use Rattle.edit_laws.proofs.AtOnePlace.{IsOnly, Alone}
use Rattle.textual_mods.proofs.OnePlace.{not_changed, passed, at_place, elsewhere, held_found, found_past}
use Rattle.edit_laws.proofs.Swapping.{IsBefore, Followed, past, made_there, IsApart}

-- what is read at the place of a wId: nothing where it does not stand, and else what is read beneath a provision or behind it
pub record IsReader (read : Branches Provision → Option (Branch Provision)) (v : List ℕ) : Type 0 where
  pub none : (bs : Branches Provision) → any_holds v bs ≡ false → read bs ≡ None
  pub over : (p : Provision) (below bs : Branches Provision) → bytes_eq p.wid v ≡ false → read (more_branches (branch p below) bs) ≡ or_else (read below) (read bs)

nothing : (o : Option (Branch Provision)) → is_some o ≡ false → o ≡ None
nothing None none = refl
nothing (Some b) none = absurd cc

pub found_none : (v : List ℕ) (bs : Branches Provision) → any_holds v bs ≡ false → found v bs ≡ None
found_none v bs none = nothing (found v bs) (held_found v bs ∙ none)

pub found_reads : (v : List ℕ) → IsReader (found v) v
found_reads v = record { none = found_none v; over = λ p below bs other. found_past v p below bs other }

pub next_reads : (v : List ℕ) → IsReader (next_of v) v
next_reads v = record { none = next_none v; over = next_past v }

module _ (read : Branches Provision → Option (Branch Provision)) (v : List ℕ) (reads : IsReader read v) where
  pub read_behind : (b : Branch Provision) (bs : Branches Provision) → holds v b ≡ false → read (more_branches b bs) ≡ read bs
  read_behind (branch p below) bs none =
      reads.over p below bs (none_left (bytes_eq p.wid v) _ none) ∙ ap (λ o. or_else o (read bs)) (reads.none below (none_right (bytes_eq p.wid v) _ none))

  pub read_past : (new rest : Branches Provision) → any_holds v new ≡ false → read (joined new rest) ≡ read rest
  read_past no_branches rest none = refl
  read_past (more_branches b bs) rest none = read_behind b (joined bs rest) (none_left (holds v b) _ none) ∙ read_past bs rest (none_right (holds v b) _ none)

  -- a change elsewhere leaves what is read
  pub read_still : (two : Step) (w : List ℕ) (a c : Branch Provision) (near near_two made_two : Branches Provision)
      → ((xs ys : Branches Provision) → read (more_branches a (joined near xs)) ≡ read (more_branches a (joined near ys))) → holds w a ≡ false → any_holds w near ≡ false
      → (bs : Branches Provision) → Alone v a bs → Followed v near bs → IsApart two w v c near_two made_two bs → read (changed two w bs) ≡ read bs
  read_still two w a c near near_two made_two steady not_in not_near no_branches alone followed t = refl
  read_still two w a c near near_two made_two steady not_in not_near (more_branches (branch p below) bs) alone followed t =
      let t_below : IsApart two w v c near_two made_two below =
      record { makes = t.makes; not_in = t.not_in; not_near = t.not_near; not_made = t.not_made; not_own = t.not_own; alone = t.alone.1.0; followed = t.followed.1.0 } in
      let t_behind : IsApart two w v c near_two made_two bs =
      record { makes = t.makes; not_in = t.not_in; not_near = t.not_near; not_made = t.not_made; not_own = t.not_own; alone = t.alone.1.1; followed = t.followed.1.1 } in
      let under : read (changed two w below) ≡ read below = read_still two w a c near near_two made_two steady not_in not_near below alone.1.0 followed.1.0 t_below in
      let behind : read (changed two w bs) ≡ read bs = read_still two w a c near near_two made_two steady not_in not_near bs alone.1.1 followed.1.1 t_behind in
      elim (cases_Bool (bytes_eq p.wid v)) [
        | inl it ↦
            let only : IsOnly v a (branch p below) bs = alone.0 it in
            let before : IsBefore near bs = followed.0 it in
            let none : holds w (branch p below) ≡ false = ap (holds w) only.is ∙ not_in in
            ap read (passed two w (branch p below) bs none)
            ∙ ap (λ cs. read (more_branches (branch p below) cs)) (ap (changed two w) before.is ∙ past two w near before.far not_near)
            ∙ ap (λ b. read (more_branches b (joined near (changed two w before.far)))) only.is
            ∙ steady (changed two w before.far) before.far
            ∙ sym (ap (λ cs. read (more_branches (branch p below) cs)) before.is ∙ ap (λ b. read (more_branches b (joined near before.far))) only.is)
        | inr not_v ↦ elim (cases_Bool (bytes_eq p.wid w)) [
          | inl it ↦
              let only : IsOnly w c (branch p below) bs = t.alone.0 it in
              let before : IsBefore near_two bs = t.followed.0 it in
              let none : holds v (branch p below) ≡ false = ap (holds v) only.is ∙ t.not_in in
              ap (λ cs. read (changed two w (more_branches (branch p below) cs))) before.is
              ∙ ap read (made_there two w c (branch p below) near_two made_two before.far t.makes it only.is only.beneath t.not_own)
              ∙ read_past made_two (changed two w before.far) t.not_made
              ∙ sym (read_past near_two (changed two w before.far) t.not_near)
              ∙ ap read (sym (ap (changed two w) before.is ∙ past two w near_two before.far t.not_own))
              ∙ behind
              ∙ sym (read_behind (branch p below) bs none)
          | inr not_w ↦
              ap read (elsewhere two w (branch p below) bs not_w)
              ∙ reads.over p (changed two w below) (changed two w bs) not_v
              ∙ ap (λ o. or_else o (read (changed two w bs))) under
              ∙ ap (or_else (read below)) behind
              ∙ sym (reads.over p below bs not_v)
        ]
      ]

  -- what is read at the place of a change is what is read of what the step makes there
  pub read_after : (step : Step) (it answer : Branch Provision) → ((rest : Branches Provision) → any_holds v rest ≡ false → read (step it rest) ≡ Some answer)
      → (bs : Branches Provision) → any_holds v bs ≡ true → Alone v it bs → read (changed step v bs) ≡ Some answer
  read_after step it answer there no_branches held alone = absurd cc
  read_after step it answer there (more_branches (branch p below) bs) held alone =
      elim (cases_Bool (bytes_eq p.wid v)) [
        | inl of_it ↦
            let only : IsOnly v it (branch p below) bs = alone.0 of_it in
            ap read (at_place step v (branch p below) bs of_it)
            ∙ ap (λ cs. read (step (branch p cs) (changed step v bs))) (not_changed step v below only.beneath)
            ∙ ap (λ cs. read (step (branch p below) cs)) (not_changed step v bs only.behind)
            ∙ ap (λ b. read (step b bs)) only.is
            ∙ there bs only.behind
        | inr other ↦
            ap read (elsewhere step v (branch p below) bs other)
            ∙ reads.over p (changed step v below) (changed step v bs) other
            ∙ elim (cases_Bool (any_holds v below)) [
              | inl beneath_it ↦ ap (λ o. or_else o (read (changed step v bs))) (read_after step it answer there below beneath_it alone.1.0)
              | inr none ↦
                  ap (λ o. or_else o (read (changed step v bs))) (ap read (not_changed step v below none) ∙ reads.none below none)
                  ∙ read_after step it answer there bs (later (bytes_eq p.wid v) (any_holds v below) (any_holds v bs) other none held) alone.1.1
            ]
      ]
    where
      later : (s t u : Bool) → s ≡ false → t ≡ false → ((s || t) || u) ≡ true → u ≡ true
      later false false u first second either = either
      later false true u first second either = absurd cc
      later true t u first second either = absurd cc
