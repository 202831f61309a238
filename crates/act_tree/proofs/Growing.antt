-- Laying down: a provision right above itself, branches one after another, and a branch with those below it.
use Rattle.std.proofs.Common.{◌≡◌, ◌∙◌, sym, ap, refl, subst, ℕ, ◌==◌, ◌+◌, ◌<◌, ◌≤◌, ◌^◌, true, false, ◌||◌, cond, List, [], ◌∷◌, ◌++◌, length, Option, Some, inl, inr, append_assoc, length-append, arith}
use Rattle.std.specs.List.{list_any, All}
use Rattle.std.specs.Str.{bytes_eq}
use Rattle.std.proofs.lemmas.Bool.{cases_Bool, cases_lt, or_cases, ne_eqb}
use Rattle.std.proofs.lemmas.List.{append-nil}
use Rattle.std.proofs.lemmas.List.Folds.{list_any-append}
use Rattle.eid_paths.specs.Nums.{is_num}
use Rattle.act_tree.specs.declared.arena.Slot.{Slot}
use Rattle.act_tree.specs.declared.arena.Arena.{Arena}
use Rattle.act_tree.specs.Branches.{Branch, Branches, branch, no_branches, more_branches, branches_of}
use Rattle.act_tree.specs.Provisions.{Own, Provision}
use Rattle.act_tree.specs.Wids.{wids, all_wids, is_among, one_twice}
use Rattle.act_tree.specs.Arena.{provision_in, above_in, below_in, Stands}
use Rattle.act_tree.specs.Planted.{IsSound, Each, IsAdded, IsLaid, AreLaid}
use Rattle.act_tree.specs.Relisted.{IsRelisted}
use Rattle.act_tree.specs.LastNumbers.{last_named}
use Rattle.act_tree.specs.WidIndexes.{WidIndexValue}
use Rattle.act_tree.proofs.OwnArenas.{still_own}
use Rattle.act_tree.specs.Slots.{laid, provision_of, at, own_at, number, size, IsOwn}
use Rattle.act_tree.specs.TakenOff.{with_above}
use Rattle.act_tree.proofs.Texts.{equal_text, bytes_eq_sym}
use Rattle.act_tree.proofs.Building.{same_numbers}
use Rattle.act_tree.proofs.Frames.{none_left, none_right, put_down, Stays, stays_first, stays_second, still_stands, Apart, twice_apart, neither}
use Rattle.act_tree.proofs.Grown.{grown_on, grown_added, named_within}
use Rattle.act_tree.proofs.LaidDown.{laid_past, laid_before, laid_last}
use Rattle.act_tree.proofs.PutIn.{all_wids_held}
use Rattle.act_tree.proofs.Relistings.{Swaps, Move, each_own, each_alone, sound_after, it_moved}
use Rattle.act_tree.proofs.Times.{times, once_few, once-append, only_one, some_listed}

-- a slot is added, and its number is right above itself
pub added_alone : (old one new : Arena) (id : ℕ) (s : Slot) → id ≡ size old → one.slots.items ≡ old.slots.items ++ s ∷ [] → ((w : List ℕ) → number one w ≡ cond (bytes_eq s.wid w) (Some (size old)) (number old w)) → s.below.items ≡ [] → size one ≤ 2 ^ 32 → IsOwn one
    → new.numbers ≡ one.numbers → size new ≡ size one → at new id ≡ with_above id (at one id) → ((k : ℕ) → (k ≡ id → ⊥) → at new k ≡ at one k) → IsAdded old new (provision_of s)
added_alone old one new id s place slots noted bare fits owned numbers sizes here others =
    record {
      here = ap (at new) (sym place) ∙ here ∙ ap (with_above id) (ap (at one) place ∙ ap (λ ss. laid ss (size old)) slots ∙ laid_last old.slots.items s)
          ∙ ap (λ v. Some (record { provision = provision_of s; above = v; below = s.below.items })) place
          ∙ ap (λ ks. Some (record { provision = provision_of s; above = size old; below = ks })) bare;
      others = λ k far. others k (λ same. far (same ∙ place)) ∙ ap (λ ss. laid ss k) slots ∙ elim (cases_lt k (size old)) [
        | inl low ↦ laid_before old.slots.items s k low
        | inr high ↦ laid_past (old.slots.items ++ s ∷ []) k (omega (arith, length-append old.slots.items (s ∷ []))) ∙ sym (laid_past old.slots.items k high)
      ];
      numbers = λ w. ap (λ (ns : WidIndexValue). last_named ns.wids w) numbers ∙ noted w;
      sizes = sizes ∙ ap length slots ∙ length-append old.slots.items (s ∷ []);
      fits = omega arith;
      own = still_own one new numbers owned;
    }

all_wids-push : (bs : List (Branch Provision)) (b : Branch Provision) → all_wids (branches_of (bs ++ b ∷ [])) ≡ all_wids (branches_of bs) ++ wids b
all_wids-push [] b = append-nil (wids b)
all_wids-push (c ∷ bs) b = ap (λ ws. wids c ++ ws) (all_wids-push bs b) ∙ sym (append_assoc (wids c) (all_wids (branches_of bs)) (wids b))

each-push : (P : ℕ → Branch Provision → Type 0) (i : ℕ) (ids : List ℕ) (bs : List (Branch Provision)) (b : Branch Provision) → Each P ids (branches_of bs) → P i b → Each P (ids ++ i ∷ []) (branches_of (bs ++ b ∷ []))
each-push P i [] [] b e last = (last, tt)
each-push P i (j ∷ ids) [] b e last = absurd e
each-push P i [] (c ∷ bs) b e last = absurd e
each-push P i (j ∷ ids) (c ∷ bs) b e last = (e.0, each-push P i ids bs b e.1 last)

-- branches that stand at their numbers still do where what their wIds lead to stays
stand_on : (one new : Arena) (ids : List ℕ) (bs : Branches Provision) → Stays (at one) (at new) (number one) (number new) (all_wids bs)
    → Each (λ k b. Stands (at one) (number one) k k b) ids bs → Each (λ k b. Stands (at new) (number new) k k b) ids bs
stand_on one new [] no_branches stays e = tt
stand_on one new (k ∷ ids) no_branches stays e = e
stand_on one new [] (more_branches b bs) stays e = e
stand_on one new (k ∷ ids) (more_branches b bs) stays e = (
  still_stands (at one) (at new) (number one) (number new) b k k (stays_first (at one) (at new) (number one) (number new) (wids b) (all_wids bs) stays) e.0,
  stand_on one new ids bs (stays_second (at one) (at new) (number one) (number new) (wids b) (all_wids bs) stays) e.1,
)

-- one more branch is laid down behind others
pub laid_more : (old one new : Arena) (id : ℕ) (ids : List ℕ) (bs : List (Branch Provision)) (b : Branch Provision)
    → AreLaid old one ids (branches_of bs) → IsLaid one new id b → AreLaid old new (ids ++ id ∷ []) (branches_of (bs ++ b ∷ []))
laid_more old one new id ids bs b some last =
    let rises : size old ≤ size one = some.grown.rises in
    let further : size one ≤ size new = last.grown.rises in
    let place : id ≡ size one = last.place in
    let inside : id < size new = last.within in
    let both : (w : List ℕ) → is_among w (all_wids (branches_of (bs ++ b ∷ []))) ≡ false → (is_among w (all_wids (branches_of bs)) || is_among w (wids b)) ≡ false =
    λ w none. sym (list_any-append (bytes_eq w) (all_wids (branches_of bs)) (wids b)) ∙ sym (ap (is_among w) (all_wids-push bs b)) ∙ none in
    record {
      grown = grown_on old one new (all_wids (branches_of bs)) (wids b) (all_wids (branches_of (bs ++ b ∷ []))) some.grown last.grown
          (λ w none. none_left _ _ (both w none)) (λ w none. none_right (is_among w (all_wids (branches_of bs))) _ (both w none));
      within = λ k found. elim (or_cases (list_any (λ j. j == k) ids) (list_any (λ j. j == k) (id ∷ [])) (sym (list_any-append (λ j. j == k) ids (id ∷ [])) ∙ found)) [
        | inl before ↦ (let in_some : (size old ≤ k) × (k < size one) = some.within k before in (omega arith, omega arith))
        | inr it ↦ (let here : id ≡ k = only_one id k it in (omega arith, omega arith))
      ];
      differ = once-append ids (id ∷ []) some.differ refl (λ j found. neither (id == j) false (ne_eqb id j (λ it.
          let in_some : (size old ≤ j) × (j < size one) = some.within j found in
          let low : j < size one = in_some.1 in
          absurd (omega arith))) refl);
      stands = λ told.
          let apart : Apart (all_wids (branches_of bs)) (wids b) = twice_apart (all_wids (branches_of bs)) (wids b) (sym (ap one_twice (all_wids-push bs b)) ∙ told) in
          let stays : Stays (at one) (at new) (number one) (number new) (all_wids (branches_of bs)) = record {
            numbers = λ w found. last.grown.numbers w (apart.between w found);
            laid = λ k w found leads named. last.grown.kept k (named_within one.slots.items k w named);
          } in
          each-push (λ k c. Stands (at new) (number new) k k c) id ids bs b (stand_on one new ids (branches_of bs) stays (some.stands apart.first)) (last.stands apart.second);
    }

-- what was laid down is new, and within the arena
pub not_laid : (one two : Arena) (ids : List ℕ) (bs : Branches Provision) → AreLaid one two ids bs → (k : ℕ) → k < size one → list_any (λ j. j == k) ids ≡ false
not_laid one two ids bs some k low =
    elim (cases_Bool (list_any (λ j. j == k) ids)) [
      | inl found ↦ absurd (let within : (size one ≤ k) × (k < size two) = some.within k found in let high : size one ≤ k = within.0 in omega arith)
      | inr none ↦ none
    ]

pub all_laid : (one two : Arena) (ids : List ℕ) (bs : Branches Provision) → AreLaid one two ids bs → All (λ k. k < size two) ids
all_laid one two ids bs some = some_listed (λ k. k < size two) ids (λ k found. (some.within k found).1)

-- so it can come below the provision that was added before
pub can_hold : (old one two : Arena) (id : ℕ) (p : Provision) (ids : List ℕ) (bs : Branches Provision) → id ≡ size old → IsAdded old one p → AreLaid one two ids bs → (id < size two) × (list_any (λ j. j == id) ids ≡ false)
can_hold old one two id p ids bs place a some =
    let larger : size one ≡ size old + 1 = a.sizes in
    let rises : size one ≤ size two = some.grown.rises in
    (omega arith, not_laid one two ids bs some id (omega arith))

-- a branch is laid down: its provision, then those below it, which then come below it
pub laid_node : (old one two new : Arena) (id : ℕ) (p : Provision) (ids : List ℕ) (bs : Branches Provision) → id ≡ size old → IsAdded old one p → is_num p.own.num ≡ true → AreLaid one two ids bs
    → IsRelisted (at two) (at new) id (own_at two id) [] ids ids → new.numbers ≡ two.numbers → size new ≡ size two → IsLaid old new id (branch p bs)
laid_node old one two new id p ids bs place a num some r numbers sizes =
    let rises : size one ≤ size two = some.grown.rises in
    let larger : size one ≡ size old + 1 = a.sizes in
    let at_id : at two id ≡ Some (record { provision = p; above = id; below = [] }) =
    ap (at two) place ∙ some.grown.kept (size old) (omega arith) ∙ a.here ∙ ap (λ v. Some (record { provision = p; above = v; below = [] })) (sym place) in
    let list : below_in (at two id) ≡ [] = ap below_in at_id in
    let own : own_at two id ≡ p.own = ap (λ o. (provision_in o).own) at_id in
    let swaps : Swaps (at two) id [] ids ids = record {
      there = (_, at_id);
      balance = λ k. omega (arith, ap (times k) list);
      fewer = λ k. omega arith;
      fresh = λ k. omega (arith, ap (times k) list, once_few ids k some.differ);
      not_gone = refl;
      not_come = not_laid one two ids bs some id (omega arith);
    } in
    let leads_same : number two ≡ number new = same_numbers two new numbers in
    record {
      grown = record {
        kept = λ k low. r.others k (λ same. omega arith) refl (not_laid one two ids bs some k (omega arith)) ∙ some.grown.kept k (omega arith) ∙ a.others k (λ same. omega arith);
        numbers = λ w none. ap (λ (ns : WidIndexValue). last_named ns.wids w) numbers ∙ some.grown.numbers w (none_right (bytes_eq w p.wid) _ none)
            ∙ a.numbers w ∙ ap (λ t. cond t (Some (size old)) (number old w)) (bytes_eq_sym p.wid w ∙ none_left _ _ none);
        sound = λ s.
            let P : (List ℕ → Option ℕ) → Type 0 = λ f. IsSound (at new) f (size two) in
            let Q : ℕ → Type 0 = λ n. IsSound (at new) (number new) n in
            subst Q (sym sizes) (subst P leads_same
            (sound_after (at two) (at new) id (own_at two id) [] ids ids r swaps (number two) (size two) (some.grown.sound ((grown_added old one p a num).sound s)) (ap (λ (o : Own). is_num o.num) own ∙ num)));
        rises = omega arith;
        own = λ _. still_own two new numbers (some.grown.own a.own);
      };
      place = place;
      within = omega arith;
      stands = λ told.
          let each : Each (λ k b. Stands (at two) (number two) k k b) ids bs = some.stands (none_right (is_among p.wid (all_wids bs)) _ told) in
          let leads : number two p.wid ≡ Some id = some.grown.numbers p.wid (none_left _ _ told) ∙ a.numbers p.wid ∙ ap (λ t. cond t (Some (size old)) (number old p.wid)) (equal_text p.wid p.wid refl) ∙ ap (λ n. Some n) (sym place) in
          let P : ℕ → Type 0 = λ v. Stands (at two) (number two) v id (branch p no_branches) in
          let m : Move (at two) (at new) (number two) id (own_at two id) [] ids ids p no_branches bs = record {
            relisted = r;
            swaps = swaps;
            stands = subst P (sym (ap above_in at_id)) (put_down (at two) (number two) id id p [] no_branches at_id leads tt);
            off = λ k found. inl (each_own (at two) (number two) ids bs each k found);
            each = each_alone (at two) (number two) p.wid ids bs each (sym (all_wids_held p.wid bs) ∙ none_left _ _ told);
          } in
          let Q : ℕ → Type 0 = λ v. Stands (at new) (number two) v id (branch (record p { own = own_at two id }) bs) in
          let R : Own → Type 0 = λ o. Stands (at new) (number two) id id (branch (record p { own = o }) bs) in
          let S : (List ℕ → Option ℕ) → Type 0 = λ f. Stands (at new) f id id (branch p bs) in
          subst S leads_same (subst R own (subst Q (ap above_in r.here ∙ ap above_in at_id) (it_moved m)));
    }
