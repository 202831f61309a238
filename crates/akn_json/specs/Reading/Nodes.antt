-- The form of nodes: each says something of itself, and has the nodes beneath it as its children.
use Rattle.std.specs.Prelude.{ℕ, List, [], ◌∷◌, Ok, Err, if◌then◌else◌}
use Rattle.std.specs.Str.{bytes_eq}
use Rattle.serde_json.specs.Data.{Data, null, boolean, number, string, array, object, Items, no_items, item, Members, no_members, member}
use Rattle.eid_paths.specs.declared.element.Element.{Element}
use Rattle.eid_paths.specs.Elements.{element_named}
use Rattle.eid_paths.specs.Nums.{num_of}
use Rattle.act_tree.specs.Branches.{Branch, branch, branches_of}
use Rattle.act_tree.specs.Provisions.{Own}
use Rattle.akn_json.specs.Reading.Keys.{key_name}
use Rattle.akn_json.specs.declared.fault.FormRule.TheVariants.{WrongShape, BadElement}
use Rattle.akn_json.specs.declared.reading.key.Key.TheVariants as key
use Rattle.akn_json.specs.declared.reading.tables.TheConstants.{NODE}
use Rattle.akn_json.specs.Reading.Reads.{Read, ◌>>=◌, ◌>>◌, broken, or_fault}
use Rattle.akn_json.specs.Reading.Fields.{members_in, field_in, optional_in, items_in, each, text_in}
use Rattle.akn_json.specs.Reading.Names.{expression_in}

-- an element, by its name
unfoldable pub element_in : Data → Read Element
element_in d = do
  name ← text_in d
  or_fault (broken BadElement) (element_named name)

-- the num of a node
unfoldable pub num_in : Data → Read (List ℕ)
num_in d = do
  text ← text_in d
  or_fault (broken BadElement) (num_of text)

-- the refs of a node: IRIs of expressions
unfoldable pub refs_in : Data → Read (List (List ℕ))
refs_in d = do
  items ← items_in d
  each expression_in items

-- what a node says of itself
unfoldable pub own_in : Data → Read Own
own_in d = do
  members_in NODE d
  e ← field_in key.Element d
  element ← element_in e
  n ← field_in key.Num d
  num ← num_in n
  heading ← optional_in key.Heading [] text_in d
  content ← optional_in key.Content [] text_in d
  refs ← optional_in key.Refs [] refs_in d
  Ok (record { element = element; num = num; heading = heading; content = content; refs = refs })

abbrev mutual
  -- a node, with all beneath it
  pub node_in : Data → Read (Branch Own)
  node_in null = Err (broken WrongShape)
  node_in (boolean b) = Err (broken WrongShape)
  node_in (number n) = Err (broken WrongShape)
  node_in (string s) = Err (broken WrongShape)
  node_in (array ds) = Err (broken WrongShape)
  node_in (object ms) = do
    own ← own_in (object ms)
    below ← children_in ms
    Ok (branch own (branches_of below))

  -- the nodes at the key `children`, or none where no member is at it
  pub children_in : Members → Read (List (Branch Own))
  children_in no_members = Ok []
  children_in (member name d ms) = if bytes_eq name (key_name key.Children) then nodes_in d else children_in ms

  -- a list of nodes
  pub nodes_in : Data → Read (List (Branch Own))
  nodes_in null = Err (broken WrongShape)
  nodes_in (boolean b) = Err (broken WrongShape)
  nodes_in (number n) = Err (broken WrongShape)
  nodes_in (string s) = Err (broken WrongShape)
  nodes_in (array ds) = each_node ds
  nodes_in (object ms) = Err (broken WrongShape)

  -- each of these nodes, in order
  pub each_node : Items → Read (List (Branch Own))
  each_node no_items = Ok []
  each_node (item d ds) = do
    node ← node_in d
    rest ← each_node ds
    Ok (node ∷ rest)
