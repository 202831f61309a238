-- How many bytes nodes take where they are kept: a number of 1 byte, a text behind its length, a list behind its count.
use Rattle.std.specs.Prelude.{ℕ, ◌+◌, List, [], ◌∷◌}
use Rattle.desk_base.specs.Sizes.{name_size, text_size}
use Rattle.act_tree.specs.Branches.{Branch, Branches, branch, no_branches, more_branches, branches_of}
use Rattle.act_tree.specs.Provisions.{Own}

-- texts, without their count
abbrev pub texts_size : List (List ℕ) → ℕ
texts_size [] = 0
texts_size (text ∷ texts) = text_size text + texts_size texts

-- a node, its element in one byte, with all beneath it; and nodes without their count
abbrev mutual
  pub node_size : Branch Own → ℕ
  node_size (branch own below) =
      1 + name_size own.num + text_size own.heading + text_size own.content
      + (2 + texts_size own.refs) + (2 + nodes_size below)

  pub nodes_size : Branches Own → ℕ
  nodes_size no_branches = 0
  nodes_size (more_branches b bs) = node_size b + nodes_size bs

-- nodes side by side, behind their count
abbrev pub payload_size : List (Branch Own) → ℕ
payload_size nodes = 2 + nodes_size (branches_of nodes)
