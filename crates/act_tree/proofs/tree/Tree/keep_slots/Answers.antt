use Rattle.std.proofs.Common.{ap}
use Rattle.act_tree.specs.declared.arena.Slot.{Slot}
use Rattle.act_tree.specs.KeptLists.{ListValue}
use Rattle.act_tree.specs.Seen.{tree_view}
use Rattle.act_tree.specs.Trees.{TreeValue}
use Rattle.act_tree.specs.WidIndexes.{WidIndexValue}
use Rattle.act_tree.proofs.CopiedArenas.{held_too}
use Rattle.act_tree.specs.declared.limits.TheConstants.{MAX_DEPTH}
use Rattle.act_tree.proofs.LowTexts.{as_low}
use Rattle.act_tree.proofs.tree.Tree.keep_slots.Goals as goal

pub invariant_of-result : goal.invariant_of-result
invariant_of-result c =
    let held = held_too c.args.self.now.arena c.in_ok-arena.arena c.in_ok-arena.ensures.slots c.in_ok-arena.ensures.numbers c.args.self.now.whole in
    record { whole = held.whole; low = as_low MAX_DEPTH _ _ held.reads c.args.self.now.low }

pub invariant_of-self : goal.invariant_of-self
invariant_of-self c =
    let held = held_too c.args.self.now.arena c.keep.new.self (ap (λ (v : ListValue Slot). v.items) c.keep.ensures.slots_same) (ap (λ (v : WidIndexValue). v.wids) c.keep.ensures.numbers_same) c.args.self.now.whole in
    record { whole = held.whole; low = as_low MAX_DEPTH _ _ held.reads c.args.self.now.low }

pub returns-clause-same : goal.returns-clause-same
unfolding tree_view
returns-clause-same c =
    ap {B = TreeValue} (λ body. record { numbering = c.args.self.now.numbering; limit = c.args.self.now.limit; body = body; changes = c.args.self.now.changes })
    (held_too c.args.self.now.arena c.keep.new.self (ap (λ (v : ListValue Slot). v.items) c.keep.ensures.slots_same) (ap (λ (v : WidIndexValue). v.wids) c.keep.ensures.numbers_same) c.args.self.now.whole).reads

pub returns-clause-kept : goal.returns-clause-kept
unfolding tree_view
returns-clause-kept c =
    ap {B = TreeValue} (λ body. record { numbering = c.args.self.now.numbering; limit = c.args.self.now.limit; body = body; changes = c.args.self.now.changes })
    (held_too c.args.self.now.arena c.in_ok-arena.arena c.in_ok-arena.ensures.slots c.in_ok-arena.ensures.numbers c.args.self.now.whole).reads

pub returns-in_err-arena-clause-same : goal.returns-in_err-arena-clause-same
unfolding tree_view
returns-in_err-arena-clause-same c =
    ap {B = TreeValue} (λ body. record { numbering = c.args.self.now.numbering; limit = c.args.self.now.limit; body = body; changes = c.args.self.now.changes })
    (held_too c.args.self.now.arena c.keep.new.self (ap (λ (v : ListValue Slot). v.items) c.keep.ensures.slots_same) (ap (λ (v : WidIndexValue). v.wids) c.keep.ensures.numbers_same) c.args.self.now.whole).reads
