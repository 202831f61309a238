use Rattle.std.proofs.Common.{rules, ◌≡◌, ◌∙◌, sym, subst, ℕ, ◌+◌, ◌<◌, map, option_map, List, [], ◌∷◌, ◌++◌, length, take, Some}
use Rattle.std.proofs.lemmas.List.{take_all}
use Rattle.act_tree.specs.Branches.{Branch, Branches, branch, branches_of}
use Rattle.act_tree.specs.Eids.{enacted, all_enacted}
use Rattle.act_tree.specs.Planted.{AreLaid}
use Rattle.act_tree.specs.Provisions.{Provision}
use Rattle.act_tree.specs.Slots.{provision_of}
use Rattle.act_tree.specs.Specs.{spec_view}
use Rattle.act_tree.proofs.EnactedLaws.{all_become, more_enacted}
use Rattle.act_tree.specs.Wids.{all_wids}
use Rattle.act_tree.proofs.Grown.{on_err, grown_on, grown_added, covers_node, covers_below, stopped_between, stopped_within, node_enacted}
use Rattle.act_tree.proofs.Growing.{can_hold, all_laid, laid_node, laid_more}
use Rattle.act_tree.proofs.laying.+laying.Goals as goal

pub lay-hold-requires-clause-within : goal.lay-hold-requires-clause-within
lay-hold-requires-clause-within t c = (can_hold c.args.arena.now c.add_alone.new.self c.lay_all.new.arena c.in_ok-id.id (provision_of c.args.slot) c.in_ok-below.below.items _ c.in_ok-id.ensures.id c.in_ok-id.ensures.added c.in_ok-below.ensures.laid).0

pub lay-hold-requires-clause-come : goal.lay-hold-requires-clause-come
lay-hold-requires-clause-come t c = all_laid c.add_alone.new.self c.lay_all.new.arena c.in_ok-below.below.items _ c.in_ok-below.ensures.laid

pub lay-hold-requires-clause-apart : goal.lay-hold-requires-clause-apart
lay-hold-requires-clause-apart t c = (can_hold c.args.arena.now c.add_alone.new.self c.lay_all.new.arena c.in_ok-id.id (provision_of c.args.slot) c.in_ok-below.below.items _ c.in_ok-id.ensures.id c.in_ok-id.ensures.added c.in_ok-below.ensures.laid).1

pub lay-returns-clause-laid : goal.lay-returns-clause-laid
lay-returns-clause-laid t c =
    laid_node c.args.arena.now c.add_alone.new.self c.lay_all.new.arena c.hold.new.self c.in_ok-id.id (provision_of c.args.slot) c.in_ok-below.below.items _
    c.in_ok-id.ensures.id c.in_ok-id.ensures.added c.requires.num c.in_ok-below.ensures.laid c.hold.ensures.relisted c.hold.ensures.numbers c.hold.ensures.size

pub lay_all-loop-node-preserved : goal.lay_all-loop-node-preserved
lay_all-loop-node-preserved t c =
    let above = option_map (λ s. s.now) c.args.wid in
    let node = c.node-item.result in
    let slot = c.in_ok-slot.slot in
    let b : Branch Provision = branch (provision_of slot) (all_enacted c.args.numbering (Some c.as_str.result.now) (branches_of node.children)) in
    let same : b ≡ enacted c.args.numbering above (spec_view node) =
    node_enacted c.args.numbering above node (provision_of slot) c.as_str.result.now c.in_ok-slot.ensures.provision (c.as_str.ensures ∙ c.in_ok-name.ensures) in
    let P : Branch Provision → Type 0 = λ n. AreLaid c.args.arena.now c.lay.new.arena (c.loop-node.ids.items ++ c.in_ok-id.id ∷ [])
    (branches_of (map (enacted c.args.numbering above) (map spec_view (take c.loop-node.node-index c.deref-node-items.result.now)) ++ n ∷ [])) in
    let R : List ℕ → Type 0 = λ ids. AreLaid c.args.arena.now c.lay.new.arena ids
    (branches_of (map (enacted c.args.numbering above) (map spec_view (take (c.loop-node.node-index + 1) c.deref-node-items.result.now)))) in
    let S : List (Branch Provision) → Type 0 = λ ns. AreLaid c.args.arena.now c.lay.new.arena (c.loop-node.ids.items ++ c.in_ok-id.id ∷ []) (branches_of ns) in
    let within : c.loop-node.node-index < length c.deref-node-items.result.now = search rules in
    subst R (sym c.in_ok-push.ensures.items)
    (subst S (sym (more_enacted (enacted c.args.numbering above) c.deref-node-items.result.now c.loop-node.node-index node within c.node-item.is))
    (subst P same
    (laid_more c.args.arena.now c.loop-node.arena c.lay.new.arena c.in_ok-id.id c.loop-node.ids.items
    (map (enacted c.args.numbering above) (map spec_view (take c.loop-node.node-index c.deref-node-items.result.now))) b
    c.loop-node.invariant c.in_ok-id.ensures.laid)))

pub lay_all-returns-clause-laid : goal.lay_all-returns-clause-laid
lay_all-returns-clause-laid t c =
    let above = option_map (λ s. s.now) c.args.wid in
    let P : Branches Provision → Type 0 = λ bs. AreLaid c.args.arena.now c.loop-node.arena c.loop-node.ids.items bs in
    subst P (all_become c.args.numbering above _ _ _ (take_all _ _ (search rules) ∙ c.deref-node-items.ensures.value) c.nodes.view_is) c.loop-node.invariant

pub lay-returns-in_err-below-clause-kept : goal.lay-returns-in_err-below-clause-kept
lay-returns-in_err-below-clause-kept t c =
    let slot = c.args.slot in
    let below = all_wids (all_enacted c.args.numbering (option_map (λ s. s.now) c.args.wid) (branches_of c.args.children.now)) in
    on_err c.from_residual-in_err-below.result _
    (grown_on c.args.arena.now c.add_alone.new.self c.lay_all.new.arena (slot.wid ∷ []) below (slot.wid ∷ below)
    (grown_added c.args.arena.now c.add_alone.new.self (provision_of slot) c.in_ok-id.ensures.added c.requires.num)
    c.in_err-below.ensures.kept (covers_node slot.wid below) (covers_below slot.wid below))

pub lay_all-returns-in_err-slot-clause-kept : goal.lay_all-returns-in_err-slot-clause-kept
lay_all-returns-in_err-slot-clause-kept t c =
    let above = option_map (λ s. s.now) c.args.wid in
    let are = all_become c.args.numbering above _ _ _ c.deref-node-items.ensures.value c.nodes.view_is in
    on_err c.from_residual-in_err-slot.result _
    (stopped_between (enacted c.args.numbering above) c.deref-node-items.result.now c.loop-node.node-index c.args.arena.now c.loop-node.arena c.loop-node.ids.items _ are c.loop-node.invariant)

pub lay_all-returns-in_err-name-clause-kept : goal.lay_all-returns-in_err-name-clause-kept
lay_all-returns-in_err-name-clause-kept t c =
    let above = option_map (λ s. s.now) c.args.wid in
    let are = all_become c.args.numbering above _ _ _ c.deref-node-items.ensures.value c.nodes.view_is in
    on_err c.from_residual-in_err-name.result _
    (stopped_between (enacted c.args.numbering above) c.deref-node-items.result.now c.loop-node.node-index c.args.arena.now c.loop-node.arena c.loop-node.ids.items _ are c.loop-node.invariant)

pub lay_all-returns-in_err-id-clause-kept : goal.lay_all-returns-in_err-id-clause-kept
lay_all-returns-in_err-id-clause-kept t c =
    let above = option_map (λ s. s.now) c.args.wid in
    let are = all_become c.args.numbering above _ _ _ c.deref-node-items.ensures.value c.nodes.view_is in
    let node = c.node-item.result in
    let slot = c.in_ok-slot.slot in
    let b : Branch Provision = branch (provision_of slot) (all_enacted c.args.numbering (Some c.as_str.result.now) (branches_of node.children)) in
    let same : b ≡ enacted c.args.numbering above (spec_view node) =
    node_enacted c.args.numbering above node (provision_of slot) c.as_str.result.now c.in_ok-slot.ensures.provision (c.as_str.ensures ∙ c.in_ok-name.ensures) in
    let within : c.loop-node.node-index < length c.deref-node-items.result.now = search rules in
    on_err c.from_residual-in_err-id.result _
    (stopped_within (enacted c.args.numbering above) c.deref-node-items.result.now c.loop-node.node-index c.args.arena.now c.loop-node.arena c.loop-node.ids.items _ are
    c.lay.new.arena node b c.loop-node.invariant within c.node-item.is same c.in_err-id.ensures.kept)

pub lay_all-returns-in_err-push-clause-kept : goal.lay_all-returns-in_err-push-clause-kept
lay_all-returns-in_err-push-clause-kept t c =
    let above = option_map (λ s. s.now) c.args.wid in
    let are = all_become c.args.numbering above _ _ _ c.deref-node-items.ensures.value c.nodes.view_is in
    let node = c.node-item.result in
    let slot = c.in_ok-slot.slot in
    let b : Branch Provision = branch (provision_of slot) (all_enacted c.args.numbering (Some c.as_str.result.now) (branches_of node.children)) in
    let same : b ≡ enacted c.args.numbering above (spec_view node) =
    node_enacted c.args.numbering above node (provision_of slot) c.as_str.result.now c.in_ok-slot.ensures.provision (c.as_str.ensures ∙ c.in_ok-name.ensures) in
    let within : c.loop-node.node-index < length c.deref-node-items.result.now = search rules in
    on_err c.from_residual-in_err-push.result _
    (stopped_within (enacted c.args.numbering above) c.deref-node-items.result.now c.loop-node.node-index c.args.arena.now c.loop-node.arena c.loop-node.ids.items _ are
    c.lay.new.arena node b c.loop-node.invariant within c.node-item.is same c.in_ok-id.ensures.laid.grown)

pub lay-hold-requires-clause-own : goal.lay-hold-requires-clause-own
lay-hold-requires-clause-own t c = c.in_ok-below.ensures.laid.grown.own c.in_ok-id.ensures.added.own
