-- The values at the keys of a node.
use Rattle.std.specs.Prelude.{◌≡◌, ℕ, List, [], Option, Some, None, option_map, slice_get, Ok}
use Rattle.std.specs.Borrow.{Bor}
use Rattle.std.specs.declared.alloc.Global.{Global}
use Rattle.json.specs.declared.value.Value.{Value}
use Rattle.serde_json.specs.Data.{Data, Members}
use Rattle.serde_json.specs.Find.{get_member}
use Rattle.act_tree.specs.Branches.{Branch, branch, branches_of}
use Rattle.act_tree.specs.Provisions.{Own}
use Rattle.akn_json.specs.Reading.Keys.{key_name}
use Rattle.akn_json.specs.Reading.Fields.{read_or, text_in}
use Rattle.akn_json.specs.Reading.Nodes.{element_in, num_in, refs_in, nodes_in}
use Rattle.akn_json.specs.Reading.Reads.{Read, ◌>>=◌, broken, or_fault}
use Rattle.akn_json.specs.Reading.Values.{seen}
use Rattle.akn_json.specs.declared.fault.FormRule.TheVariants.{WrongShape}
use Rattle.akn_json.specs.declared.reading.key.Key.{Key}
use Rattle.akn_json.specs.declared.reading.key.Key.TheVariants as key
use Rattle.akn_json.specs.declared.reading.node_parts.Parts.{Parts}
use Rattle.akn_json.specs.declared.reading.node_parts.Places.{Places}

-- a value that was found, as the definitions of the forms see it
abbrev pub shown : Option (Bor (Value Global)) → Option Data
shown found = option_map (λ v. seen v.now) found

-- these six are what a look-up finds at the keys of a node
abbrev pub AreAt : (Key → Option Data) → Option Data → Option Data → Option Data → Option Data → Option Data → Option Data → Type 0
AreAt found e n h c r b =
    (e ≡ found key.Element) × (n ≡ found key.Num) × (h ≡ found key.Heading) × (c ≡ found key.Content) × (r ≡ found key.Refs) × (b ≡ found key.Children)

-- the value of the member at a place, so seen
abbrev pub shown_at : List (Bor (List ℕ) × Value Global) → Option ℕ → Option Data
shown_at all None = None
shown_at all (Some at) = option_map (λ m. seen m.1) (slice_get all at)

-- at these places of a list of members stand the values of these members
abbrev pub ArePlacesOf : List (Bor (List ℕ) × Value Global) → Places → Members → Type 0
ArePlacesOf all p ms =
    AreAt (λ k. get_member (key_name k) ms) (shown_at all p.element) (shown_at all p.num) (shown_at all p.heading) (shown_at all p.content) (shown_at all p.refs) (shown_at all p.children)

-- what a node says of itself, of the values that were found
unfoldable pub own_with : Option Data → Option Data → Option Data → Option Data → Option Data → Read Own
own_with e n h c r = do
  found ← or_fault (broken WrongShape) e
  element ← element_in found
  text ← or_fault (broken WrongShape) n
  num ← num_in text
  heading ← read_or [] text_in h
  content ← read_or [] text_in c
  refs ← read_or [] refs_in r
  Ok (record { element = element; num = num; heading = heading; content = content; refs = refs })

-- so of the parts of a node
abbrev pub own_of_parts : Parts → Read Own
own_of_parts p = own_with (Some (seen p.element.now)) (Some (seen p.num.now)) (shown p.heading) (shown p.content) (shown p.refs)

-- a node of these parts, with all beneath it
abbrev pub node_of_parts : Parts → Read (Branch Own)
node_of_parts p = do
  own ← own_of_parts p
  below ← read_or [] nodes_in (shown p.children)
  Ok (branch own (branches_of below))
