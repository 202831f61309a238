-- A join is held back by the levels of both parts' children, or by its content.
use Rattle.std.proofs.Common.{◌∙◌, sym, ap, ◌<◌, ◌≤◌, length}
use Rattle.act_tree.specs.Seen.{tree_view}
use Rattle.textual_mods.specs.Edits.{tree_after, outcome_of}
use Rattle.textual_mods.proofs.JoinedTrees.{join_taken, join_long, join_done}
use Rattle.textual_mods.proofs.joining.take_in.Goals as goal
use Rattle.act_tree.specs.declared.limits.TheConstants.{MAX_TEXT_BYTES}

pub returns-then-alike-clause-outcome : goal.returns-then-alike-clause-outcome
returns-then-alike-clause-outcome g c =
    let is = rw (← c.in_ok-alike.ensures.same) at c.children_alike.ensures in
    c.held_back.ensures.outcome
    ∙ sym (ap outcome_of (join_taken c.args.tree.now c.args.id c.args.next c.args.content c.requires.fits c.requires.node c.requires.provision c.requires.next c.in_ok-alike.alike is c.if-alike.true))

pub returns-then-alike-clause-tree : goal.returns-then-alike-clause-tree
returns-then-alike-clause-tree g c =
    let is = rw (← c.in_ok-alike.ensures.same) at c.children_alike.ensures in
    sym (ap (tree_after (tree_view c.args.tree.now)) (join_taken c.args.tree.now c.args.id c.args.next c.args.content c.requires.fits c.requires.node c.requires.provision c.requires.next c.in_ok-alike.alike is c.if-alike.true))

pub returns-then-as_str-gt-MAX_TEXT_BYTES-clause-outcome : goal.returns-then-as_str-gt-MAX_TEXT_BYTES-clause-outcome
returns-then-as_str-gt-MAX_TEXT_BYTES-clause-outcome g c =
    let is = rw (← c.in_ok-alike.ensures.same) at c.children_alike.ensures in
    let long : MAX_TEXT_BYTES < length c.args.content = rw c.as_str.ensures at c.if-as_str-gt-MAX_TEXT_BYTES.true in
    c.held_back-then-as_str-gt-MAX_TEXT_BYTES.ensures.outcome
    ∙ sym (ap outcome_of (join_long c.args.tree.now c.args.id c.args.next c.args.content c.requires.fits c.requires.node c.requires.provision c.requires.next c.in_ok-alike.alike is c.if-alike.false long))

pub returns-then-as_str-gt-MAX_TEXT_BYTES-clause-tree : goal.returns-then-as_str-gt-MAX_TEXT_BYTES-clause-tree
returns-then-as_str-gt-MAX_TEXT_BYTES-clause-tree g c =
    let is = rw (← c.in_ok-alike.ensures.same) at c.children_alike.ensures in
    let long : MAX_TEXT_BYTES < length c.args.content = rw c.as_str.ensures at c.if-as_str-gt-MAX_TEXT_BYTES.true in
    sym (ap (tree_after (tree_view c.args.tree.now)) (join_long c.args.tree.now c.args.id c.args.next c.args.content c.requires.fits c.requires.node c.requires.provision c.requires.next c.in_ok-alike.alike is c.if-alike.false long))

pub returns-clause-outcome : goal.returns-clause-outcome
returns-clause-outcome g c =
    let is = rw (← c.in_ok-alike.ensures.same) at c.children_alike.ensures in
    let short : length c.args.content ≤ MAX_TEXT_BYTES = rw c.as_str.ensures at c.if-as_str-gt-MAX_TEXT_BYTES.false in
    sym (ap outcome_of (join_done c.args.tree.now c.args.id c.args.next c.args.content c.requires.fits c.requires.node c.requires.provision c.requires.next c.in_ok-alike.alike is c.if-alike.false short))

pub returns-clause-tree : goal.returns-clause-tree
returns-clause-tree g c =
    let is = rw (← c.in_ok-alike.ensures.same) at c.children_alike.ensures in
    let short : length c.args.content ≤ MAX_TEXT_BYTES = rw c.as_str.ensures at c.if-as_str-gt-MAX_TEXT_BYTES.false in
    c.in_ok-merge_next.ensures.tree
    ∙ sym (ap (tree_after (tree_view c.args.tree.now)) (join_done c.args.tree.now c.args.id c.args.next c.args.content c.requires.fits c.requires.node c.requires.provision c.requires.next c.in_ok-alike.alike is c.if-alike.false short))
