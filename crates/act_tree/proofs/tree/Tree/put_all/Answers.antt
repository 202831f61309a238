use Rattle.std.proofs.Common.{◌≡◌, ◌∙◌, sym, ap, subst, ℕ, refl, List, Some, false}
use Rattle.act_tree.specs.Branches.{Branches, branches_of}
use Rattle.act_tree.specs.Brought.{bringer, brought}
use Rattle.act_tree.specs.Changes.{root_wid}
use Rattle.act_tree.specs.Eids.{all_enacted}
use Rattle.act_tree.specs.Provisions.{Provision}
use Rattle.act_tree.specs.Seen.{tree_view}
use Rattle.act_tree.specs.Trees.{TreeValue}
use Rattle.act_tree.specs.Wids.{all_wids, is_among, one_twice}
use Rattle.act_tree.specs.declared.surveying.TheConstants.{NONE_THROUGHOUT}
use Rattle.act_tree.proofs.BroughtWids.{brought_differ, brought_apart}
use Rattle.act_tree.proofs.Frames.{or_left}
use Rattle.act_tree.proofs.ReplacedNodes.{AreNew, root_text}
use Rattle.act_tree.proofs.StayingNodes.{stay_new, same_stay}
use Rattle.act_tree.proofs.Texts.{equal_text}
use Rattle.act_tree.specs.declared.limits.TheConstants.{MAX_DEPTH}
use Rattle.act_tree.proofs.LowTexts.{as_low}
use Rattle.act_tree.proofs.tree.Tree.put_all.Goals as goal

pub plant-requires-clause-differ : goal.plant-requires-clause-differ
plant-requires-clause-differ c =
    let name : c.as_str.result.now ≡ bringer c.args.by = c.as_str.ensures ∙ c.in_ok-name.ensures in
    let P : List ℕ → Type 0 = λ n. one_twice (all_wids (all_enacted NONE_THROUGHOUT (Some n) (branches_of c.args.nodes.now))) ≡ false in
    subst P (sym name) (brought_differ c.args.by (branches_of c.args.nodes.now) c.requires.payload)

pub plant-requires-clause-apart : goal.plant-requires-clause-apart
plant-requires-clause-apart c =
    let name : c.as_str.result.now ≡ bringer c.args.by = c.as_str.ensures ∙ c.in_ok-name.ensures in
    let P : List ℕ → Type 0 = λ n. is_among root_wid (all_wids (all_enacted NONE_THROUGHOUT (Some n) (branches_of c.args.nodes.now))) ≡ false in
    subst P (sym name) (brought_apart c.args.by (branches_of c.args.nodes.now) (tree_view c.args.self.now).body c.requires.fresh root_wid
    (or_left _ (is_among root_wid (all_wids (tree_view c.args.self.now).body)) (equal_text root_wid root_wid refl)))

pub invariant_of-self : goal.invariant_of-self
invariant_of-self c =
    let name : c.as_str.result.now ≡ bringer c.args.by = c.as_str.ensures ∙ c.in_ok-name.ensures in
    record {
      whole = c.in_ok-arena.ensures.whole;
      low = as_low MAX_DEPTH _ _
          (c.in_ok-arena.ensures.reads ∙ ap (λ n. all_enacted NONE_THROUGHOUT (Some n) (branches_of c.args.nodes.now)) name ∙ root_text c.args.self.now (brought c.args.by (branches_of c.args.nodes.now)))
          c.requires.depth;
    }

pub returns-clause-tree : goal.returns-clause-tree
unfolding tree_view
returns-clause-tree c =
    let name : c.as_str.result.now ≡ bringer c.args.by = c.as_str.ensures ∙ c.in_ok-name.ensures in
    ap {B = TreeValue} (λ body. record { numbering = c.args.self.now.numbering; limit = c.args.self.now.limit; body = body; changes = c.args.self.now.changes })
    (c.in_ok-arena.ensures.reads ∙ ap (λ n. all_enacted NONE_THROUGHOUT (Some n) (branches_of c.args.nodes.now)) name
    ∙ root_text c.args.self.now (brought c.args.by (branches_of c.args.nodes.now)))

pub returns-clause-stay : goal.returns-clause-stay
unfolding tree_view
returns-clause-stay c =
    let name : c.as_str.result.now ≡ bringer c.args.by = c.as_str.ensures ∙ c.in_ok-name.ensures in
    let P : Branches Provision → Type 0 = λ bs. AreNew c.args.self.now (all_wids bs) in
    stay_new c.args.self.now _
    (subst P (sym (c.in_ok-arena.ensures.reads ∙ ap (λ n. all_enacted NONE_THROUGHOUT (Some n) (branches_of c.args.nodes.now)) name))
    (brought_apart c.args.by (branches_of c.args.nodes.now) (tree_view c.args.self.now).body c.requires.fresh))

pub returns-in_err-name-clause-stay : goal.returns-in_err-name-clause-stay
returns-in_err-name-clause-stay c = same_stay c.args.self.now

pub returns-in_err-arena-clause-stay : goal.returns-in_err-arena-clause-stay
returns-in_err-arena-clause-stay c = same_stay c.args.self.now
