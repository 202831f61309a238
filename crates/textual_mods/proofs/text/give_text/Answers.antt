-- Another content is held back only by its length.
use Rattle.std.proofs.Common.{◌∙◌, sym, ap, ◌<◌, ◌≤◌, length}
use Rattle.act_tree.specs.Seen.{tree_view, provision_at}
use Rattle.textual_mods.specs.Edits.{tree_after, outcome_of}
use Rattle.textual_mods.proofs.Contents.{content_done, content_long}
use Rattle.textual_mods.proofs.text.give_text.Goals as goal
use Rattle.act_tree.specs.declared.limits.TheConstants.{MAX_TEXT_BYTES}

pub returns-then-as_str-gt-MAX_TEXT_BYTES-clause-outcome : goal.returns-then-as_str-gt-MAX_TEXT_BYTES-clause-outcome
returns-then-as_str-gt-MAX_TEXT_BYTES-clause-outcome g c =
    let long : MAX_TEXT_BYTES < length c.args.text = rw c.as_str.ensures at c.if-as_str-gt-MAX_TEXT_BYTES.true in
    c.held_back.ensures.outcome ∙ sym (ap outcome_of (content_long (tree_view c.args.tree.now) c.args.text (provision_at c.args.tree.now c.args.id).wid c.requires.fits c.requires.held long))

pub returns-then-as_str-gt-MAX_TEXT_BYTES-clause-tree : goal.returns-then-as_str-gt-MAX_TEXT_BYTES-clause-tree
returns-then-as_str-gt-MAX_TEXT_BYTES-clause-tree g c =
    let long : MAX_TEXT_BYTES < length c.args.text = rw c.as_str.ensures at c.if-as_str-gt-MAX_TEXT_BYTES.true in
    sym (ap (tree_after (tree_view c.args.tree.now)) (content_long (tree_view c.args.tree.now) c.args.text (provision_at c.args.tree.now c.args.id).wid c.requires.fits c.requires.held long))

pub returns-clause-outcome : goal.returns-clause-outcome
returns-clause-outcome g c =
    let short : length c.args.text ≤ MAX_TEXT_BYTES = rw c.as_str.ensures at c.if-as_str-gt-MAX_TEXT_BYTES.false in
    sym (ap outcome_of (content_done (tree_view c.args.tree.now) c.args.text (provision_at c.args.tree.now c.args.id).wid c.requires.fits c.requires.held short))

pub returns-clause-tree : goal.returns-clause-tree
returns-clause-tree g c =
    let short : length c.args.text ≤ MAX_TEXT_BYTES = rw c.as_str.ensures at c.if-as_str-gt-MAX_TEXT_BYTES.false in
    c.set_content.ensures.tree
    ∙ sym (ap (tree_after (tree_view c.args.tree.now)) (content_done (tree_view c.args.tree.now) c.args.text (provision_at c.args.tree.now c.args.id).wid c.requires.fits c.requires.held short))
