-- A level begins an eId in the text that is left without a node exactly where one of the numbers is that of a provision that begins one by it, and whose way up does not pass the node.
use Rattle.std.proofs.Common.{◌≡◌, ◌∙◌, sym, ap, refl, ℕ, zero, suc, ◌==◌, Bool, true, false, not, cond, ◌||◌, ◌&&◌, List, filter, Option, Some, None, inl, inr}
use Rattle.std.specs.Str.{bytes_eq}
use Rattle.std.proofs.lemmas.Bool.{cases_eq, eq-eqb, ne_eqb}
use Rattle.eid_paths.specs.declared.numbering.Numbering.{Numbering}
use Rattle.act_tree.specs.declared.arena.Arena.{Arena}
use Rattle.act_tree.specs.Arena.{Laid, provision_in, above_in, below_in, branches_below, hangs_on, climbs, climbs_past, IsWhole}
use Rattle.act_tree.specs.Changes.{without, root_wid}
use Rattle.act_tree.specs.EidLevels.{begins, own_level, all_beginning}
use Rattle.act_tree.specs.Faults.{all_owns}
use Rattle.act_tree.specs.LevelsOfNodes.{begins_by, begins_before, begins_eid, begins_one, begins_past, some_past}
use Rattle.act_tree.specs.Slots.{at, number, size}
use Rattle.act_tree.specs.TakenOff.{with_above, with_below, IsTakenOff}
use Rattle.act_tree.specs.Wids.{is_among}
use Rattle.act_tree.proofs.ChangeLaws.{same_without}
use Rattle.act_tree.proofs.Climbing.{past_root}
use Rattle.act_tree.proofs.LaidDown.{laid_past, laid_within}
use Rattle.act_tree.proofs.LevelsBegun.{decided}
use Rattle.act_tree.proofs.TreeNodes.{no_root_held}
use Rattle.act_tree.proofs.Spots.{Spot}
use Rattle.act_tree.proofs.Sound.{whole_from, reads_from}
use Rattle.act_tree.proofs.TakingAway.{Sits, sits, spot_of, text_without, says_without}

-- no way up passes the root
pub one_past_root : (n : Numbering) (at : ℕ → Option Laid) (size i : ℕ) → begins_one n at size 0 i ≡ begins_eid n at size i
one_past_root n at size i = ap (λ t. begins n (above_in (at i) == 0) (provision_in (at i)).own && (not (i == 0) && t)) (past_root size at i)

module _ (n : Numbering) (at : ℕ → Option Laid) (size : ℕ) (x : List ℕ) where
  pub by_past_root : (i : ℕ) → begins_past n at size 0 x i ≡ begins_by n at size x i
  by_past_root i = ap (λ t. bytes_eq x (own_level (provision_in (at i)).own) && t) (one_past_root n at size i)

  pub some_past_root : (m : ℕ) → some_past n at size 0 x m ≡ begins_before n at size x m
  some_past_root zero = refl
  some_past_root (suc m) = ap (λ t. t || begins_past n at size 0 x m) (some_past_root m) ∙ ap (λ t. begins_before n at size x m || t) (by_past_root m)

-- what is laid down once a number was taken off
abbrev pub taken : (ℕ → Option Laid) → ℕ → ℕ → Option Laid
taken at gone k =
    cond (k == gone) (with_above gone (at k)) (cond (k == above_in (at gone)) (with_below (filter (λ j. not (j == gone)) (below_in (at k))) (at k)) (at k))

above_kept : (ks : List ℕ) (o : Option Laid) → above_in (with_below ks o) ≡ above_in o
above_kept ks None = refl
above_kept ks (Some x) = refl

hangs_kept : (i : ℕ) (ks : List ℕ) (o : Option Laid) → hangs_on i (with_below ks o) ≡ hangs_on i o
hangs_kept i ks None = refl
hangs_kept i ks (Some x) = refl

off : (i : ℕ) (o : Option Laid) → hangs_on i (with_above i o) ≡ false
off i None = refl
off i (Some x) = ap not (eq-eqb i i refl)

both_none : (a b c : Bool) → (a && (b && (c && false))) ≡ false
both_none true true true = refl
both_none true true false = refl
both_none true false c = refl
both_none false b c = refl

module _ (at : ℕ → Option Laid) (gone : ℕ) where
  pub is_taken : (above_in (at gone) ≡ gone → ⊥) → IsTakenOff at (taken at gone) gone
  is_taken apart = record {
    here = ap (λ t. cond t (with_above gone (at gone)) (cond (gone == above_in (at gone)) (with_below (filter (λ j. not (j == gone)) (below_in (at gone))) (at gone)) (at gone))) (eq-eqb gone gone refl);
    over =
        let u : ℕ = above_in (at gone) in
        ap (λ t. cond t (with_above gone (at u)) (cond (u == u) (with_below (filter (λ j. not (j == gone)) (below_in (at u))) (at u)) (at u))) (ne_eqb u gone apart)
        ∙ ap (λ t. cond t (with_below (filter (λ j. not (j == gone)) (below_in (at u))) (at u)) (at u)) (eq-eqb u u refl);
    others = λ k other far.
        ap (λ t. cond t (with_above gone (at k)) (cond (k == above_in (at gone)) (with_below (filter (λ j. not (j == gone)) (below_in (at k))) (at k)) (at k))) (ne_eqb k gone other)
        ∙ ap (λ t. cond t (with_below (filter (λ j. not (j == gone)) (below_in (at k))) (at k)) (at k)) (ne_eqb k (above_in (at gone)) far);
  }

  module _ (next : ℕ → Option Laid) (t : IsTakenOff at next gone) where
    -- what hangs on another number still does
    kept_above : (k : ℕ) → (k ≡ gone → ⊥) → above_in (next k) ≡ above_in (at k)
    kept_above k other = elim (cases_eq k (above_in (at gone))) [
      | inl over ↦ ap (λ j. above_in (next j)) over ∙ ap above_in t.over ∙ above_kept (filter (λ j. not (j == gone)) (below_in (at (above_in (at gone))))) (at (above_in (at gone))) ∙ sym (ap (λ j. above_in (at j)) over)
      | inr far ↦ ap above_in (t.others k other far)
    ]

    kept_hanging : (k : ℕ) → (k ≡ gone → ⊥) → hangs_on k (next k) ≡ hangs_on k (at k)
    kept_hanging k other = elim (cases_eq k (above_in (at gone))) [
      | inl over ↦ ap (λ j. hangs_on k (next j)) over ∙ ap (hangs_on k) t.over ∙ hangs_kept k (filter (λ j. not (j == gone)) (below_in (at (above_in (at gone))))) (at (above_in (at gone))) ∙ sym (ap (λ j. hangs_on k (at j)) over)
      | inr far ↦ ap (hangs_on k) (t.others k other far)
    ]

    gone_stays : (f : ℕ) → (gone ≡ 0 → ⊥) → climbs f next gone ≡ false
    gone_stays zero other = refl
    gone_stays (suc f) other =
        ap (λ s. s || (hangs_on gone (next gone) && climbs f next (above_in (next gone)))) (ne_eqb gone 0 other)
        ∙ ap (λ s. s && climbs f next (above_in (next gone))) (ap (hangs_on gone) t.here ∙ off gone (at gone))

    past_gone : (f : ℕ) → (gone ≡ 0 → ⊥) → climbs_past f at gone gone ≡ false
    past_gone zero other = refl
    past_gone (suc f) other =
        ap (λ s. s || (not (gone == gone) && (hangs_on gone (at gone) && climbs_past f at gone (above_in (at gone))))) (ne_eqb gone 0 other)
        ∙ ap (λ s. not s && (hangs_on gone (at gone) && climbs_past f at gone (above_in (at gone)))) (eq-eqb gone gone refl)

    -- the way up after it is the way up before that does not pass it
    climbs_left : (f k : ℕ) → (gone ≡ 0 → ⊥) → climbs f next k ≡ climbs_past f at gone k
    climbs_left zero k other = refl
    climbs_left (suc f) k other = elim (cases_eq k gone) [
      | inl it ↦ ap (climbs (suc f) next) it ∙ gone_stays (suc f) other ∙ sym (past_gone (suc f) other) ∙ sym (ap (climbs_past (suc f) at gone) it)
      | inr apart ↦
          ap (λ s. (k == 0) || (s && climbs f next (above_in (next k)))) (kept_hanging k apart)
          ∙ ap (λ j. (k == 0) || (hangs_on k (at k) && climbs f next j)) (kept_above k apart)
          ∙ ap (λ s. (k == 0) || (hangs_on k (at k) && s)) (climbs_left f (above_in (at k)) other)
          ∙ sym (ap (λ s. (k == 0) || (not s && (hangs_on k (at k) && climbs_past f at gone (above_in (at k))))) (ne_eqb k gone apart))
    ]

    module _ (n : Numbering) (size : ℕ) (x : List ℕ) (other : gone ≡ 0 → ⊥) (says : (k : ℕ) → provision_in (next k) ≡ provision_in (at k)) where
      by_left : (k : ℕ) → begins_by n next size x k ≡ begins_past n at size gone x k
      by_left k = elim (cases_eq k gone) [
        | inl it ↦
            ap (λ s. bytes_eq x (own_level (provision_in (next k)).own) && (begins n (above_in (next k) == 0) (provision_in (next k)).own && (not (k == 0) && s))) (ap (climbs size next) it ∙ gone_stays size other)
            ∙ both_none (bytes_eq x (own_level (provision_in (next k)).own)) (begins n (above_in (next k) == 0) (provision_in (next k)).own) (not (k == 0))
            ∙ sym (both_none (bytes_eq x (own_level (provision_in (at k)).own)) (begins n (above_in (at k) == 0) (provision_in (at k)).own) (not (k == 0)))
            ∙ sym (ap (λ s. bytes_eq x (own_level (provision_in (at k)).own) && (begins n (above_in (at k) == 0) (provision_in (at k)).own && (not (k == 0) && s))) (ap (climbs_past size at gone) it ∙ past_gone size other))
        | inr apart ↦
            ap (λ p. bytes_eq x (own_level p.own) && (begins n (above_in (next k) == 0) p.own && (not (k == 0) && climbs size next k))) (says k)
            ∙ ap (λ j. bytes_eq x (own_level (provision_in (at k)).own) && (begins n (j == 0) (provision_in (at k)).own && (not (k == 0) && climbs size next k))) (kept_above k apart)
            ∙ ap (λ s. bytes_eq x (own_level (provision_in (at k)).own) && (begins n (above_in (at k) == 0) (provision_in (at k)).own && (not (k == 0) && s))) (climbs_left size k other)
      ]

      pub before_left : (m : ℕ) → begins_before n next size x m ≡ some_past n at size gone x m
      before_left zero = refl
      before_left (suc m) = ap (λ s. s || begins_by n next size x m) (before_left m) ∙ ap (λ s. some_past n at size gone x m || s) (by_left m)

-- after it something is laid down only where something was
taken_laid : (at : ℕ → Option Laid) (gone k : ℕ) (y : Laid) → taken at gone k ≡ Some y → (z : Laid) × (at k ≡ Some z)
taken_laid at gone k y here = some_of (at k) (k == gone) (k == above_in (at gone)) here
  where
    some_of : (o : Option Laid) (s t : Bool) → cond s (with_above gone o) (cond t (with_below (filter (λ j. not (j == gone)) (below_in o)) o) o) ≡ Some y → (z : Laid) × (o ≡ Some z)
    some_of (Some z) s t is = (z, refl)
    some_of None true t is = absurd cc
    some_of None false true is = absurd cc
    some_of None false false is = absurd cc

module _ (n : Numbering) (arena : Arena) (whole : IsWhole (at arena) (number arena) (size arena)) (x : List ℕ) where
  -- of the text without a node that is not the root
  left_of_node : (gone : ℕ) → climbs (size arena) (at arena) gone ≡ true → (gone ≡ 0 → ⊥)
      → some_past n (at arena) (size arena) gone x (size arena) ≡ is_among x (all_beginning n true (all_owns (without (provision_in (at arena gone)).wid (branches_below (size arena) (at arena) (below_in (at arena 0))))))
  left_of_node gone climbed other =
      let w : List ℕ = (provision_in (at arena gone)).wid in
      let next : ℕ → Option Laid = taken (at arena) gone in
      let it : Sits (at arena) (number arena) gone = sits (at arena) (number arena) (size arena) whole gone climbed other in
      let m : Spot (at arena) (number arena) (above_in (at arena gone)) gone (below_in (at arena (above_in (at arena gone)))) it.siblings = spot_of (at arena) (number arena) gone it in
      let off : IsTakenOff (at arena) next gone = is_taken (at arena) gone it.apart in
      sym (before_left (at arena) gone next off n (size arena) x other (says_without (at arena) next (number arena) (size arena) whole (laid_past arena.slots.items) gone it m off) (size arena))
      ∙ decided n next (number arena) (size arena) (whole_from next (number arena) (size arena) _ _ (text_without (at arena) next (number arena) (size arena) whole (laid_past arena.slots.items) gone it m off) whole.root) x
      (λ k y laid. (let was : (z : Laid) × (at arena k ≡ Some z) = taken_laid (at arena) gone k y laid in laid_within arena.slots.items k was.0 was.1))
      ∙ ap (λ bs. is_among x (all_beginning n true (all_owns bs))) (reads_from next (number arena) (size arena) _ _ (text_without (at arena) next (number arena) (size arena) whole (laid_past arena.slots.items) gone it m off))

  -- of the text without a node; nothing has the root's wId
  pub left : (gone : ℕ) → climbs (size arena) (at arena) gone ≡ true
      → some_past n (at arena) (size arena) gone x (size arena) ≡ is_among x (all_beginning n true (all_owns (without (provision_in (at arena gone)).wid (branches_below (size arena) (at arena) (below_in (at arena 0))))))
  left gone climbed = elim (cases_eq gone 0) [
    | inl root ↦
        let wid : (provision_in (at arena gone)).wid ≡ root_wid = ap (λ k. (provision_in (at arena k)).wid) root ∙ ap (λ p. p.wid) whole.root in
        let all : without (provision_in (at arena gone)).wid (branches_below (size arena) (at arena) (below_in (at arena 0))) ≡ branches_below (size arena) (at arena) (below_in (at arena 0)) =
        ap (λ v. without v (branches_below (size arena) (at arena) (below_in (at arena 0)))) wid
        ∙ same_without root_wid (branches_below (size arena) (at arena) (below_in (at arena 0))) (no_root_held (at arena) (number arena) (size arena) whole) in
        ap (λ g. some_past n (at arena) (size arena) g x (size arena)) root
        ∙ some_past_root n (at arena) (size arena) x (size arena)
        ∙ decided n (at arena) (number arena) (size arena) whole x (laid_within arena.slots.items)
        ∙ sym (ap (λ bs. is_among x (all_beginning n true (all_owns bs))) all)
    | inr other ↦ left_of_node gone climbed other
  ]
