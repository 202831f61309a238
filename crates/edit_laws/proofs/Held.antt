-- What is named, and where a wId does not stand.
use Rattle.std.proofs.Common.{◌≡◌, ◌∙◌, sym, ap, refl, ℕ, zero, suc, Bool, true, false, cond, not, ◌||◌, ◌&&◌, List, [], ◌∷◌, ◌++◌, append_assoc, nat_eq, Option, Some, None, inl, inr}
use Rattle.std.specs.Prelude.{is_some}
use Rattle.std.specs.List.{list_any, starts_with}
use Rattle.std.specs.Str.{bytes_eq}
use Rattle.std.proofs.lemmas.Bool.{cases_Bool, cond_both, and_parts, or_cases}
use Rattle.std.proofs.lemmas.Bool.Decides.{Decides-eqb}
use Rattle.std.proofs.lemmas.Slice.Eq.{starts_is}
use Rattle.desk_base.specs.declared.id.Id.{Id}
use Rattle.act_tree.specs.Branches.{Branch, Branches, branch, no_branches, more_branches}
use Rattle.act_tree.specs.Brought.{bringer, has_brought}
use Rattle.act_tree.specs.Changes.{has_wid, holds, any_holds, joined, first, behind, put_in, root_wid, found}
use Rattle.act_tree.specs.Provisions.{Provision}
use Rattle.act_tree.specs.Wids.{all_wids, is_among, one_twice}
use Rattle.act_tree.proofs.Frames.{none_left, none_right, neither}
use Rattle.act_tree.proofs.Texts.{same_text, other_text}
use Rattle.edit_laws.specs.Laws.{are_apart, Touch, a_content, a_num, a_place, of_itself, all_beneath, moves, takes_text, takes_in, are_unmixed}
use Rattle.textual_mods.specs.Targets.{provision_named}
use Rattle.edit_laws.proofs.AtOnePlace.{beneath, IsOnly, Alone, one_place}
use Rattle.textual_mods.proofs.OnePlace.{all_among, held_found}

pub first_and_behind : (n : ℕ) (bs : Branches Provision) → joined (first n bs) (behind n bs) ≡ bs
first_and_behind zero bs = refl
first_and_behind (suc n) no_branches = refl
first_and_behind (suc n) (more_branches b bs) = ap (more_branches b) (first_and_behind n bs)

pub none_first : (w : List ℕ) (n : ℕ) (bs : Branches Provision) → any_holds w bs ≡ false → any_holds w (first n bs) ≡ false
none_first w zero bs none = refl
none_first w (suc n) no_branches none = refl
none_first w (suc n) (more_branches b bs) none = neither (holds w b) _ (none_left (holds w b) _ none) (none_first w n bs (none_right (holds w b) _ none))

pub none_behind : (w : List ℕ) (n : ℕ) (bs : Branches Provision) → any_holds w bs ≡ false → any_holds w (behind n bs) ≡ false
none_behind w zero bs none = none
none_behind w (suc n) no_branches none = refl
none_behind w (suc n) (more_branches b bs) none = none_behind w n bs (none_right (holds w b) _ none)

pub none_joined : (w : List ℕ) (bs cs : Branches Provision) → any_holds w bs ≡ false → any_holds w cs ≡ false → any_holds w (joined bs cs) ≡ false
none_joined w no_branches cs one other = other
none_joined w (more_branches b bs) cs one other = neither (holds w b) _ (none_left (holds w b) _ one) (none_joined w bs cs (none_right (holds w b) _ one) other)

pub none_put_in : (w : List ℕ) (n : ℕ) (new bs : Branches Provision) → any_holds w new ≡ false → any_holds w bs ≡ false → any_holds w (put_in n new bs) ≡ false
none_put_in w n new bs one other = none_joined w (first n bs) (joined new (behind n bs)) (none_first w n bs other) (none_joined w new (behind n bs) one (none_behind w n bs other))

-- what stands at a wId has it, and not beneath it
pub record IsAlone (w : List ℕ) (it : Branch Provision) : Type 0 where
  pub of_it : has_wid w it ≡ true
  pub none : any_holds w (beneath it) ≡ false

pub it_alone : (w : List ℕ) (it : Branch Provision) (bs : Branches Provision) → any_holds w bs ≡ true → Alone w it bs → IsAlone w it
it_alone w it no_branches held alone = absurd cc
it_alone w it (more_branches (branch p below) bs) held alone =
    elim (cases_Bool (bytes_eq p.wid w)) [
      | inl of_it ↦
          let only : IsOnly w it (branch p below) bs = alone.0 of_it in
          record { of_it = ap (has_wid w) (sym only.is) ∙ of_it; none = ap (λ b. any_holds w (beneath b)) (sym only.is) ∙ only.beneath }
      | inr other ↦ elim (cases_Bool (any_holds w below)) [
        | inl here ↦ it_alone w it below here alone.1.0
        | inr none ↦ it_alone w it bs (sym (ap (λ t. (t || any_holds w below) || any_holds w bs) other ∙ ap (λ t. t || any_holds w bs) none) ∙ held) alone.1.1
      ]
    ]

-- what is named is found, and is not the root
pub record IsNamed (w : List ℕ) (body : Branches Provision) (b : Branch Provision) : Type 0 where
  pub other : bytes_eq w root_wid ≡ false
  pub found_is : found w body ≡ Some b

pub is_named : (w : List ℕ) (body : Branches Provision) (b : Branch Provision) → provision_named w body ≡ Some b → IsNamed w body b
is_named w body b is = by (bytes_eq w root_wid) refl is
  where
    by : (t : Bool) → bytes_eq w root_wid ≡ t → cond t None (found w body) ≡ Some b → IsNamed w body b
    by true root none = absurd cc
    by false other some = record { other = other; found_is = some }

pub named_as : (w : List ℕ) (body : Branches Provision) → bytes_eq w root_wid ≡ false → provision_named w body ≡ found w body
named_as w body other = ap (λ t. cond t None (found w body)) other

-- a wId that stands in a text in which none begins so does not begin so
pub fails_there : (test : List ℕ → Bool) (w : List ℕ) (ws : List (List ℕ)) → list_any test ws ≡ false → is_among w ws ≡ true → test w ≡ false
fails_there test w [] none found = absurd cc
fails_there test w (v ∷ ws) none found =
    elim (or_cases (bytes_eq w v) (is_among w ws) found) [
      | inl same ↦ ap test (same_text w v same) ∙ none_left (test v) _ none
      | inr later ↦ fails_there test w ws (none_right (test v) _ none) later
    ]

pub new_differs : (by : Id) (body : Branches Provision) (w rest : List ℕ) → has_brought by body ≡ false → any_holds w body ≡ true → bytes_eq (bringer by ++ 95 ∷ 95 ∷ rest) w ≡ false
new_differs by body w rest fresh held =
    other_text (bringer by ++ 95 ∷ 95 ∷ rest) w (λ same.
    let name : List ℕ = bringer by ++ 95 ∷ 95 ∷ [] in
    let begins : starts_with nat_eq w name ≡ true = (starts_is Decides-eqb w name _ refl).1 rest (sym same ∙ sym (append_assoc (bringer by) (95 ∷ 95 ∷ []) rest)) in
    let not : starts_with nat_eq w name ≡ false = fails_there (λ wid. starts_with nat_eq wid name) w (all_wids body) fresh (sym (all_among w body) ∙ held) in
    absurd (let never : true ≡ false = sym begins ∙ not in cc))

pub new_no_root : (by : Id) (rest : List ℕ) → bytes_eq (bringer by ++ 95 ∷ 95 ∷ rest) root_wid ≡ false
new_no_root by rest = refl

pub some_of : (o : Option (Branch Provision)) → is_some o ≡ true → (b : Branch Provision) × (o ≡ Some b)
some_of None none = absurd cc
some_of (Some b) some = (b, refl)

pub is_held : (w : List ℕ) (body : Branches Provision) (b : Branch Provision) → found w body ≡ Some b → any_holds w body ≡ true
is_held w body b is = sym (held_found w body) ∙ ap is_some is

-- two provisions are there, and of neither anything is touched that is touched of the other
pub record IsOff (t u : Touch) (body : Branches Provision) (v w : List ℕ) : Type 0 where
  pub one : Branch Provision
  pub other : Branch Provision
  pub one_named : IsNamed v body one
  pub other_named : IsNamed w body other
  pub not_in_one : takes_in t u one w ≡ false
  pub not_in_other : takes_in u t other v ≡ false

not_true : (s : Bool) → not s ≡ true → s ≡ false
not_true true never = absurd cc
not_true false is = refl

pub wid_is : (w : List ℕ) (body : Branches Provision) (p : Provision) (below : Branches Provision) → one_twice (all_wids body) ≡ false → found w body ≡ Some (branch p below) → p.wid ≡ w
wid_is w body p below once is =
    let alone : IsAlone w (branch p below) = it_alone w (branch p below) body (is_held w body (branch p below) is) (one_place w (branch p below) body once is) in
    same_text p.wid w alone.of_it

pub is_off : (t u : Touch) (body : Branches Provision) (v w : List ℕ) → one_twice (all_wids body) ≡ false → are_unmixed t u (provision_named v body) (provision_named w body) ≡ true → IsOff t u body v w
is_off t u body v w once told = by (provision_named v body) (provision_named w body) refl refl told
  where
    by : (o x : Option (Branch Provision)) → provision_named v body ≡ o → provision_named w body ≡ x → are_unmixed t u o x ≡ true → IsOff t u body v w
    by None x is other apart = absurd cc
    by (Some b) None is other apart = absurd cc
    by (Some (branch p below)) (Some (branch q under)) is other apart =
        let both = and_parts (not (takes_in t u (branch p below) q.wid)) (not (takes_in u t (branch q under) p.wid)) apart in
        let one_named : IsNamed v body (branch p below) = is_named v body (branch p below) is in
        let other_named : IsNamed w body (branch q under) = is_named w body (branch q under) other in
        record {
          one = branch p below;
          other = branch q under;
          one_named = one_named;
          other_named = other_named;
          not_in_one = ap (takes_in t u (branch p below)) (sym (wid_is w body q under once other_named.found_is)) ∙ not_true _ both.0;
          not_in_other = ap (takes_in u t (branch q under)) (sym (wid_is v body p below once one_named.found_is)) ∙ not_true _ both.1;
        }

pub off_back : (t u : Touch) (body : Branches Provision) (v w : List ℕ) → IsOff t u body v w → IsOff u t body w v
off_back t u body v w off =
    record { one = off.other; other = off.one; one_named = off.other_named; other_named = off.one_named; not_in_one = off.not_in_other; not_in_other = off.not_in_one }

-- what stands neither at nor beneath a provision is not touched with it, nor are two that stand apart mixed
not_it : (w : List ℕ) (b : Branch Provision) → holds w b ≡ false → has_wid w b ≡ false
not_it w (branch p below) none = none_left (bytes_eq p.wid w) _ none

text_less : (t u : Touch) (w : List ℕ) (b : Branch Provision) → holds w b ≡ false → takes_text t u b w ≡ false
text_less all_beneath u w b none = none
text_less of_itself u w b none = not_it w b none
text_less a_place u w b none = refl
text_less a_content a_content w b none = not_it w b none
text_less a_content u w b none = refl
text_less a_num a_num w b none = not_it w b none
text_less a_num u w b none = refl

touched_less : (t u : Touch) (w : List ℕ) (b : Branch Provision) → holds w b ≡ false → takes_in t u b w ≡ false
touched_less t u w b none = cond_both (moves t && moves u) (holds w b) (takes_text t u b w) (λ s. s ≡ false) (λ _. none) (λ _. text_less t u w b none)

-- what is not touched with a provision does not stand there, where both edits move provisions, or the one takes all away
pub none_beneath : (t u : Touch) (w : List ℕ) (b : Branch Provision) → moves t ≡ true → moves u ≡ true → takes_in t u b w ≡ false → holds w b ≡ false
none_beneath t u w b one two none =
    sym (ap (λ s. cond (s && moves u) (holds w b) (takes_text t u b w)) one ∙ ap (λ s. cond s (holds w b) (takes_text t u b w)) two) ∙ none

pub none_taken : (u : Touch) (w : List ℕ) (b : Branch Provision) → takes_in all_beneath u b w ≡ false → holds w b ≡ false
none_taken u w b none = elim (moves u) as (λ s. cond s (holds w b) (holds w b) ≡ false → holds w b ≡ false) [ true ↦ λ is. is | false ↦ λ is. is ] none

pub not_itself : (u : Touch) (w : List ℕ) (b : Branch Provision) → takes_in of_itself u b w ≡ false → has_wid w b ≡ false
not_itself u w b none = elim (moves u) as (λ s. cond s (holds w b) (has_wid w b) ≡ false → has_wid w b ≡ false) [ true ↦ not_it w b | false ↦ λ is. is ] none

pub apart_unmixed : (t u : Touch) (o x : Option (Branch Provision)) → are_apart o x ≡ true → are_unmixed t u o x ≡ true
apart_unmixed t u None x apart = absurd cc
apart_unmixed t u (Some b) None apart = absurd cc
apart_unmixed t u (Some (branch p below)) (Some (branch q under)) apart =
    let both = and_parts (not (holds q.wid (branch p below))) (not (holds p.wid (branch q under))) apart in
    ap (λ s. not s && not (takes_in u t (branch q under) p.wid)) (touched_less t u q.wid (branch p below) (not_true _ both.0))
    ∙ ap not (touched_less u t p.wid (branch q under) (not_true _ both.1))
