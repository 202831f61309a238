-- Nodes that are read nest no deeper than the depth says to which they are read.
use Rattle.std.proofs.Common.{◌≡◌, ℕ, zero, suc, ◌+◌, ◌≤◌, ◌<◌, ◌==◌, List, [], ◌∷◌, Ok, ap, arith}
use Rattle.act_tree.specs.Branches.{Branch, branches_of, height, heights}
use Rattle.act_tree.specs.Provisions.{Own}
use Rattle.act_tree.specs.declared.limits.TheConstants.{MAX_DEPTH, MAX_NESTED}
use Rattle.entry_codec.specs.Fields.{pair, given, tested, each_read, each}
use Rattle.entry_codec.specs.Nodes.{own, nodes, node, node_from}
use Rattle.entry_codec.specs.Values.{number16}
use Rattle.entry_codec.proofs.Exact.{ok_is, step, makes, then_next, paired, then_each, consed}

-- a node, below which nodes nest so deep at most
node_low : (depth : ℕ) → ((ns : List (Branch Own)) (bytes left : List ℕ) → (nodes depth).read bytes ≡ Ok (ns, left) → heights (branches_of ns) ≤ depth)
    → (b : Branch Own) (bytes left : List ℕ) → (node depth).read bytes ≡ Ok (b, left) → height b ≤ depth + 1
node_low depth below b bytes left read =
    let whole = step ((pair own (nodes depth)).read bytes) (makes node_from) (b, left) read in
    let says = step (own.read bytes) (then_next (λ _. nodes depth)) whole.0 whole.1 in
    let beneath = step ((nodes depth).read says.0.1) (paired says.0.0) whole.0 says.2 in
    let parts = ok_is ((says.0.0, beneath.0.0), beneath.0.1) whole.0 beneath.2 in
    let made = ok_is (node_from whole.0.0, whole.0.1) (b, left) whole.2 in
    omega (
      arith,
      below beneath.0.0 says.0.1 beneath.0.1 beneath.1,
      ap (λ (p : (Own × List (Branch Own)) × List ℕ). heights (branches_of p.0.1)) parts,
      ap (λ (p : Branch Own × List ℕ). height p.0) made,
    )

-- nodes side by side
each_low : (depth : ℕ) → ((ns : List (Branch Own)) (bytes left : List ℕ) → (nodes depth).read bytes ≡ Ok (ns, left) → heights (branches_of ns) ≤ depth)
    → (n : ℕ) (ns : List (Branch Own)) (bytes left : List ℕ) → each_read (node depth).read n bytes ≡ Ok (ns, left) → heights (branches_of ns) ≤ depth + 1
each_low depth below zero ns bytes left read =
    let none = ok_is ([], bytes) (ns, left) read in
    omega (arith, ap (λ (p : List (Branch Own) × List ℕ). heights (branches_of p.0)) none)
each_low depth below (suc n) ns bytes left read =
    let one = step ((node depth).read bytes) (then_each (node depth) n) (ns, left) read in
    let rest = step (each_read (node depth).read n one.0.1) (consed one.0.0) (ns, left) one.2 in
    let made = ok_is (one.0.0 ∷ rest.0.0, rest.0.1) (ns, left) rest.2 in
    omega (
      arith,
      node_low depth below one.0.0 bytes one.0.1 one.1,
      each_low depth below n rest.0.0 one.0.1 rest.0.1 rest.1,
      ap (λ (p : List (Branch Own) × List ℕ). heights (branches_of p.0)) made,
    )

nodes_low : (depth : ℕ) (ns : List (Branch Own)) (bytes left : List ℕ) → (nodes depth).read bytes ≡ Ok (ns, left) → heights (branches_of ns) ≤ depth
unfolding nodes
nodes_low zero ns bytes left read =
    let whole = step ((tested (λ n. n == 0) number16).read bytes) (makes (λ _. [])) (ns, left) read in
    let none = ok_is ([], whole.0.1) (ns, left) whole.2 in
    omega (arith, ap (λ (p : List (Branch Own) × List ℕ). heights (branches_of p.0)) none)
nodes_low (suc depth) ns bytes left read =
    let whole = step ((given number16 (each (node depth))).read bytes) (makes (λ p. p.1)) (ns, left) read in
    let count = step (number16.read bytes) (then_next (each (node depth))) whole.0 whole.1 in
    let items = step ((each (node depth) count.0.0).read count.0.1) (paired count.0.0) whole.0 count.2 in
    let parts = ok_is ((count.0.0, items.0.0), items.0.1) whole.0 items.2 in
    let made = ok_is (whole.0.0.1, whole.0.1) (ns, left) whole.2 in
    omega (
      arith,
      each_low depth (nodes_low depth) count.0.0 items.0.0 count.0.1 items.0.1 items.1,
      ap (λ (p : (ℕ × List (Branch Own)) × List ℕ). heights (branches_of p.0.1)) parts,
      ap (λ (p : List (Branch Own) × List ℕ). heights (branches_of p.0)) made,
    )

-- a node that is read may stand among those that are brought
pub read_low : (depth : ℕ) (b : Branch Own) (bytes left : List ℕ) → depth < MAX_DEPTH → (node depth).read bytes ≡ Ok (b, left) → height b ≤ MAX_NESTED
read_low depth b bytes left low read = omega (arith, low, node_low depth (nodes_low depth) b bytes left read)
