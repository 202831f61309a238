-- Nodes that are read have refs that are IRIs of expressions.
use Rattle.std.proofs.Common.{◌≡◌, ℕ, Bool, List, [], ◌∷◌, Ok, Err, refl}
use Rattle.std.specs.List.{list_all}
use Rattle.std.specs.Str.{bytes_eq}
use Rattle.serde_json.specs.Data.{Data, null, boolean, number, string, array, object, Items, no_items, item, Members, no_members, member}
use Rattle.serde_json.specs.Find.{get}
use Rattle.frbr_names.specs.Expressions.{is_expression}
use Rattle.act_tree.specs.Branches.{Branch, branch, branches_of}
use Rattle.act_tree.specs.Provisions.{Own}
use Rattle.law_register.specs.Law.Spelling.{is_spelled_node, is_spelled_payload}
use Rattle.akn_json.specs.declared.reading.key.Key.TheVariants as key
use Rattle.akn_json.specs.Reading.Keys.{key_name}
use Rattle.akn_json.specs.Reading.Reads.{Read, ◌>>=◌}
use Rattle.akn_json.specs.Reading.Fields.{items_in, text_in, optional_in}
use Rattle.akn_json.specs.Reading.Names.{expression_in}
use Rattle.akn_json.specs.Reading.Nodes.{refs_in, own_in, node_in, children_in, nodes_in, each_node}
use Rattle.akn_json.proofs.Spelling.Passing.{Passes, passes, passes_kept, passes_on, passes_from, passes_then, passes_either, passes_or, passes_each}

ref_passes : (d : Data) → Passes is_expression (expression_in d)
unfolding expression_in
ref_passes d =
    passes_on is_expression (text_in d) _ (λ text _. passes_kept is_expression _ (is_expression text) _ (λ is. passes is_expression text is))

refs_pass : (d : Data) → Passes (list_all is_expression) (refs_in d)
unfolding refs_in
refs_pass d = passes_on (list_all is_expression) (items_in d) _ (λ items is. passes_each is_expression expression_in ref_passes items)

refs_or_none : (d : Data) → Passes (list_all is_expression) (optional_in key.Refs [] refs_in d)
unfolding optional_in
refs_or_none d = passes_or (list_all is_expression) [] refs_in (get (key_name key.Refs) d) refl refs_pass

has_spelled_refs : Own → Bool
has_spelled_refs own = list_all is_expression own.refs

own_passes : (d : Data) → Passes has_spelled_refs (own_in d)
unfolding own_in has_spelled_refs
own_passes d =
    search (passes_then, passes_from (list_all is_expression) has_spelled_refs, passes_on, passes has_spelled_refs, refs_or_none) depth 24

-- a node is made of what it says of itself and of what is beneath it
node_of : (own : Read Own) (below : Read (List (Branch Own))) → Passes has_spelled_refs own → Passes is_spelled_payload below
    → Passes is_spelled_node (own >>= λ o. below >>= λ bs. Ok (branch o (branches_of bs)))
unfolding Passes has_spelled_refs
node_of (Ok o) (Ok bs) refs nodes = rw (refs, nodes) refl
node_of (Ok o) (Err fault) refs nodes = tt
node_of (Err fault) below refs nodes = tt

-- nodes are made of the first and of the others
nodes_of : (node : Read (Branch Own)) (rest : Read (List (Branch Own))) → Passes is_spelled_node node → Passes is_spelled_payload rest
    → Passes is_spelled_payload (node >>= λ b. rest >>= λ bs. Ok (b ∷ bs))
unfolding Passes
nodes_of (Ok b) (Ok bs) one others = rw (one, others) refl
nodes_of (Ok b) (Err fault) one others = tt
nodes_of (Err fault) rest one others = tt

mutual
  unfolding Passes

  node_passes : (d : Data) → Passes is_spelled_node (node_in d)
  node_passes null = tt
  node_passes (boolean b) = tt
  node_passes (number n) = tt
  node_passes (string s) = tt
  node_passes (array ds) = tt
  node_passes (object ms) = node_of (own_in (object ms)) (children_in ms) (own_passes (object ms)) (children_pass ms)

  children_pass : (ms : Members) → Passes is_spelled_payload (children_in ms)
  children_pass no_members = refl
  children_pass (member name d ms) =
      passes_either is_spelled_payload (bytes_eq name (key_name key.Children)) (nodes_in d) (children_in ms) (nodes_pass d) (children_pass ms)

  pub nodes_pass : (d : Data) → Passes is_spelled_payload (nodes_in d)
  nodes_pass null = tt
  nodes_pass (boolean b) = tt
  nodes_pass (number n) = tt
  nodes_pass (string s) = tt
  nodes_pass (array ds) = each_node_passes ds
  nodes_pass (object ms) = tt

  each_node_passes : (ds : Items) → Passes is_spelled_payload (each_node ds)
  each_node_passes no_items = refl
  each_node_passes (item d ds) = nodes_of (node_in d) (each_node ds) (node_passes d) (each_node_passes ds)
