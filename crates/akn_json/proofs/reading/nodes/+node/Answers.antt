-- Each call goes over a value that nests less deep.
use Rattle.std.proofs.Common.{◌≡◌, ◌+◌, ◌*◌, ◌<◌, ◌≤◌, sym, ap, ◌∙◌, Some, subst, arith, rules}
use Rattle.serde_json.specs.Data.{array, depth, items_depth}
use Rattle.akn_json.specs.declared.reading.key.Key.TheVariants as key
use Rattle.akn_json.specs.Reading.Keys.{key_name}
use Rattle.akn_json.specs.Reading.Nodes.{nodes_in}
use Rattle.serde_json.specs.Find.{get}
use Rattle.akn_json.specs.Reading.Parts.{shown}
use Rattle.akn_json.specs.Reading.Reads.{Gives}
use Rattle.akn_json.specs.Reading.Values.{seen, items_seen}
use Rattle.act_tree.specs.Specs.{spec_view}
use Rattle.akn_json.proofs.Nesting.{read_low}
use Rattle.akn_json.proofs.Values.{got_depth, item_depth, seen-Array}
use Rattle.akn_json.proofs.reading.nodes.+node.Goals as goal

pub node-nodes-requires : goal.node-nodes-requires
node-nodes-requires t c =
    let is : get (key_name key.Children) (seen c.args.value.now) ≡ Some (seen c.in-Some.found.now) = sym c.in_ok-parts.ensures.children ∙ ap shown c.in-Some.is in
    let deep = got_depth (key_name key.Children) (seen c.args.value.now) (seen c.in-Some.found.now) is in
    let falls : 2 * depth (seen c.in-Some.found.now) + 1 < 2 * depth (seen c.args.value.now) = omega (arith, deep) in
    (search (rules, falls), omega (arith, deep, c.requires.depth))

pub nodes-each_node-requires : goal.nodes-each_node-requires
nodes-each_node-requires t c =
    let is : seen c.args.value.now ≡ array (items_seen c.in-Array.values.items) = ap seen c.in-Array.is ∙ seen-Array c.in-Array.values in
    let falls : 2 * items_depth (items_seen c.in-Array.values.items) + 1 < 2 * depth (seen c.args.value.now) + 1 = omega (arith, ap depth is) in
    (search (rules, falls), omega (arith, ap depth is, c.requires.depth))

pub nodes-returns-in-Array : goal.nodes-returns-in-Array
nodes-returns-in-Array t c =
    let is : seen c.args.value.now ≡ array (items_seen c.in-Array.values.items) = ap seen c.in-Array.is ∙ seen-Array c.in-Array.values in
    subst (λ d. Gives (λ n. n) c.each_node.result (nodes_in d)) (sym is) c.each_node.ensures

pub each_node-node-requires : goal.each_node-node-requires
each_node-node-requires t c =
    let xs = c.deref-value-items.result.now in
    let x = c.value-item.result in
    let below : depth (seen x) ≤ items_depth (items_seen c.args.values.now.items) =
    subst (λ ys. depth (seen x) ≤ items_depth (items_seen ys)) c.deref-value-items.ensures.value
    (subst (λ y. depth (seen y) ≤ items_depth (items_seen xs)) (sym c.value-item.is) (item_depth xs c.loop-value.value-index x (omega arith))) in
    let falls : 2 * depth (seen x) < 2 * items_depth (items_seen c.args.values.now.items) + 1 = omega (arith, below) in
    (search (rules, falls), omega (arith, below, c.requires.depth))

pub each_node-push-requires : goal.each_node-push-requires
each_node-push-requires t c =
    let xs = c.deref-value-items.result.now in
    let x = c.value-item.result in
    let below : depth (seen x) ≤ items_depth (items_seen c.args.values.now.items) =
    subst (λ ys. depth (seen x) ≤ items_depth (items_seen ys)) c.deref-value-items.ensures.value
    (subst (λ y. depth (seen y) ≤ items_depth (items_seen xs)) (sym c.value-item.is) (item_depth xs c.loop-value.value-index x (omega arith))) in
    record { depth = read_low (seen x) (spec_view c.in_ok-node.field-0) (omega (arith, below, c.requires.depth)) c.in_ok-node.ensures }
