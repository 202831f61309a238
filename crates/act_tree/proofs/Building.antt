-- An arena in which the root was laid down, with all below it, is whole.
use Rattle.std.proofs.Common.{◌≡◌, ◌∙◌, sym, ap, refl, subst, ℕ, false, List, [], length, Option, None, arith}
use Rattle.eid_paths.specs.Nums.{is_num}
use Rattle.act_tree.specs.declared.arena.Arena.{Arena}
use Rattle.act_tree.specs.Branches.{Branches, branch}
use Rattle.act_tree.specs.Provisions.{Provision}
use Rattle.act_tree.specs.Changes.{root_wid}
use Rattle.act_tree.specs.Wids.{all_wids, is_among, one_twice}
use Rattle.act_tree.specs.Arena.{provision_in, below_in, branches_below, is_hung, number_twice, root_provision, Stands, IsWhole}
use Rattle.act_tree.specs.Planted.{IsLaid}
use Rattle.act_tree.specs.LastNumbers.{last_named}
use Rattle.act_tree.specs.WidIndexes.{WidIndexValue}
use Rattle.act_tree.specs.Slots.{laid, at, number, size}
use Rattle.act_tree.proofs.Frames.{neither}
use Rattle.act_tree.proofs.Sound.{Text, whole_from, reads_from}

-- an arena that holds a text
pub record Holds (arena : Arena) (body : Branches Provision) : Type 0 where
  pub whole : IsWhole (at arena) (number arena) (size arena)
  pub reads : branches_below (size arena) (at arena) (below_in (at arena 0)) ≡ body

pub same_numbers : (old new : Arena) → new.numbers ≡ old.numbers → number old ≡ number new
same_numbers old new same = sym (ap (λ (ns : WidIndexValue). last_named ns.wids) same)

-- an arena with this index and size in which a text stands holds it
pub held : (old new : Arena) (p : Provision) (body : Branches Provision) → new.numbers ≡ old.numbers → size new ≡ size old → p ≡ root_provision → Text (at new) (number old) (size old) (branch p body) → Holds new body
held old new p body numbers sizes root t =
    let P : (List ℕ → Option ℕ) → Type 0 = λ f. Text (at new) f (size old) (branch p body) in
    let Q : ℕ → Type 0 = λ n. Text (at new) (number new) n (branch p body) in
    let s : Text (at new) (number new) (size new) (branch p body) = subst Q (sym sizes) (subst P (same_numbers old new numbers) t) in
    record { whole = whole_from (at new) (number new) (size new) p body s root; reads = reads_from (at new) (number new) (size new) p body s }

pub built : (old new : Arena) (id : ℕ) (p : Provision) (body : Branches Provision) → old.slots.items ≡ [] → ((w : List ℕ) → number old w ≡ None) → p ≡ root_provision
    → is_among root_wid (all_wids body) ≡ false → one_twice (all_wids body) ≡ false → IsLaid old new id (branch p body) → Holds new body
built old new id p body bare none root apart differ is =
    let nothing : (k : ℕ) → at old k ≡ None = λ k. ap (λ ss. laid ss k) bare in
    let wid : is_among p.wid (all_wids body) ≡ false = ap (λ q. is_among q.wid (all_wids body)) root ∙ apart in
    let P : ℕ → Type 0 = λ i. Stands (at new) (number new) i i (branch p body) in
    held new new p body refl refl root (record {
      sound = is.grown.sound (record {
        hung = λ k. ap (is_hung (at old) k) (nothing k);
        once = λ k. ap (λ o. number_twice (below_in o)) (nothing k);
        nums = λ k. ap (λ o. is_num (provision_in o).own.num) (nothing k);
        named = λ w k leads. let never : number old w ≡ None = none w in absurd cc;
        empty = λ k past. nothing k;
        fits = (let zero_size : size old ≡ 0 = ap length bare in omega arith);
      });
      stands = subst P (is.place ∙ ap length bare) (is.stands (neither _ _ wid differ));
    })
