-- Nodes that a modification brings as JSON, with the keys of each object in ascending byte order. Every key of a node stands, whatever its value.
use Rattle.std.specs.Prelude.{List, codes}
use Rattle.serde_json.specs.Data.{Data, string, array, object, Items, no_items, item, no_members, member}
use Rattle.eid_paths.specs.Elements.{element_name}
use Rattle.act_tree.specs.Branches.{Branch, Branches, branch, no_branches, more_branches, branches_of}
use Rattle.act_tree.specs.Provisions.{Own}
use Rattle.akn_json.specs.Printing.Answers.{texts_data}

-- what a node says of itself, over the data of those right beneath it
abbrev pub own_data : Own → Items → Data
own_data own children =
    object (member (codes "children") (array children)
    (member (codes "content") (string own.content)
    (member (codes "element") (string (element_name own.element))
    (member (codes "heading") (string own.heading)
    (member (codes "num") (string own.num)
    (member (codes "refs") (array (texts_data own.refs)) no_members))))))

-- a node with all beneath it, and nodes side by side
abbrev mutual
  pub brought_data : Branch Own → Data
  brought_data (branch own below) = own_data own (all_brought_data below)

  pub all_brought_data : Branches Own → Items
  all_brought_data no_branches = no_items
  all_brought_data (more_branches b bs) = item (brought_data b) (all_brought_data bs)

-- the nodes that a modification brings
abbrev pub payload_data : List (Branch Own) → Data
payload_data nodes = array (all_brought_data (branches_of nodes))
