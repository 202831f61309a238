-- How deep JSON values nest, and the nodes that are read of them: each node takes two levels, its object and the list beneath it.
use Rattle.std.proofs.Common.{◌≡◌, ℕ, zero, suc, ◌+◌, ◌*◌, ◌≤◌, ◌<◌, Bool, true, false, List, [], ◌∷◌, Vec, get_or, length, max, Option, Some, None, Ok, Err, refl, sym, ap, ◌∙◌, subst, arith, if◌then◌else◌}
use Rattle.std.specs.Borrow.{Bor}
use Rattle.std.specs.Str.{bytes_eq}
use Rattle.std.specs.declared.alloc.Global.{Global}
use Rattle.json.specs.Tree as tree
use Rattle.json.specs.Value.{value_view, items_view, members_view}
use Rattle.json.specs.declared.value.Value.{Value, Array, Object}
use Rattle.json.proofs.Trees.{view-Array, view-Object}
use Rattle.serde_json.specs.Data.{Data, null, boolean, number, string, array, object, Items, no_items, item, Members, no_members, member, depth, items_depth, members_depth}
use Rattle.serde_json.specs.Find.{get}
use Rattle.serde_json.specs.Read.{max_depth}
use Rattle.act_tree.specs.declared.limits.TheConstants.{MAX_NESTED}
use Rattle.act_tree.specs.Branches.{Branch, branch, branches_of, height, heights}
use Rattle.act_tree.specs.Provisions.{Own}
use Rattle.akn_json.specs.declared.fault.FormRule.TheVariants.{WrongShape}
use Rattle.akn_json.specs.declared.reading.key.Key.{Key}
use Rattle.akn_json.specs.declared.reading.key.Key.TheVariants as key
use Rattle.akn_json.specs.Reading.Fields.{field_in, items_in}
use Rattle.akn_json.specs.Reading.Keys.{key_name}
use Rattle.akn_json.specs.Reading.Nodes.{own_in, node_in, children_in, nodes_in, each_node}
use Rattle.akn_json.specs.Reading.Reads.{Read, ◌>>=◌, broken, or_fault}
use Rattle.akn_json.proofs.Values.{got_depth}

-- the value at a key nests no deeper than the object
pub field_low : (at : Key) (d m : Data) (most : ℕ) → depth d ≤ most → field_in at d ≡ Ok m → depth m ≤ most
unfolding field_in
field_low at d m most low found = by (get (key_name at) d) refl found
  where
    by : (o : Option Data) → get (key_name at) d ≡ o → or_fault (broken WrongShape) o ≡ Ok m → depth m ≤ most
    by None is read = cc
    by (Some x) is read =
        let same : x ≡ m = cc in
        omega (arith, low, subst (λ y. depth y < depth d) same (got_depth (key_name at) d x is))

-- nor does what is found there
pub key_low : (at : Key) (d m : Data) (most : ℕ) → depth d ≤ most → get (key_name at) d ≡ Some m → depth m ≤ most
key_low at d m most low found = omega (arith, low, got_depth (key_name at) d m found)

-- the items of a list nest no deeper than the list
pub items_low : (d : Data) (ds : Items) (most : ℕ) → depth d ≤ most → items_in d ≡ Ok ds → items_depth ds ≤ most
unfolding items_in
items_low (array ds) es most low found =
    let same : ds ≡ es = cc in
    subst (λ xs. items_depth xs ≤ most) same (omega (arith, low))
items_low null es most low found = cc
items_low (boolean b) es most low found = cc
items_low (number n) es most low found = cc
items_low (string s) es most low found = cc
items_low (object ms) es most low found = cc

-- an item of a borrowed list, and a member of a borrowed object, nests no deeper than all
pub borrowed_item : (vs : List (Value Global)) (i : ℕ) (d : Value Global) → i < length vs → tree.depth (value_view (get_or vs i d)) ≤ tree.items_depth (items_view vs)
borrowed_item [] i d within = absurd (omega arith)
borrowed_item (v ∷ vs) zero d within = omega arith
borrowed_item (v ∷ vs) (suc i) d within = omega (arith, borrowed_item vs i d (omega arith))

pub borrowed_member : (ms : List (Bor (List ℕ) × Value Global)) (i : ℕ) (d : Bor (List ℕ) × Value Global) → i < length ms
    → tree.depth (value_view (get_or ms i d).1) ≤ tree.members_depth (members_view ms)
borrowed_member [] i d within = absurd (omega arith)
borrowed_member (m ∷ ms) zero d within = omega arith
borrowed_member (m ∷ ms) (suc i) d within = omega (arith, borrowed_member ms i d (omega arith))

-- a list and an object nest one level deeper than what stands in them
pub array_low : (v : Value Global) (items : Vec (Value Global) Global) (most : ℕ) → v ≡ Array items → tree.depth (value_view v) ≤ most → tree.items_depth (items_view items.items) < most
array_low v items most is low = omega (arith, low, ap tree.depth (ap value_view is ∙ view-Array items))

pub object_low : (v : Value Global) (members : Vec (Bor (List ℕ) × Value Global) Global) (most : ℕ) → v ≡ Object members → tree.depth (value_view v) ≤ most → tree.members_depth (members_view members.items) < most
object_low v members most is low = omega (arith, low, ap tree.depth (ap value_view is ∙ view-Object members))

-- a reading that goes on from another gave what the other gave first
ok_of : {A B : Type 0} (r : Read A) (next : A → Read B) (y : B) → (r >>= next) ≡ Ok y → (x : A) × ((r ≡ Ok x) × (next x ≡ Ok y))
ok_of (Ok x) next y e = (x, (refl, e))
ok_of (Err fault) next y e = absurd cc

-- what nodes beneath a node become
abbrev over : Own → List (Branch Own) → Read (Branch Own)
over own below = Ok (branch own (branches_of below))

abbrev with_next : Branch Own → List (Branch Own) → Read (List (Branch Own))
with_next node rest = Ok (node ∷ rest)

done_is : {A : Type 0} (x y : A) → (r : Read A) → r ≡ Ok x → r ≡ Ok y → x ≡ y
done_is x y (Ok z) one other = (let first : z ≡ x = cc in let second : z ≡ y = cc in sym first ∙ second)
done_is x y (Err fault) one other = absurd cc

picked_nest : (t : Bool) (r s : Read (List (Branch Own))) (bs : List (Branch Own)) (m n : ℕ) → ((cs : List (Branch Own)) → r ≡ Ok cs → 2 * heights (branches_of cs) ≤ m)
    → ((cs : List (Branch Own)) → s ≡ Ok cs → 2 * heights (branches_of cs) ≤ n) → (if t then r else s) ≡ Ok bs → 2 * heights (branches_of bs) ≤ max m n
picked_nest true r s bs m n one other read = omega (arith, one bs read)
picked_nest false r s bs m n one other read = omega (arith, other bs read)

mutual
  node_nests : (d : Data) (b : Branch Own) → node_in d ≡ Ok b → 2 * height b ≤ depth d + 1
  node_nests null b read = absurd cc
  node_nests (boolean t) b read = absurd cc
  node_nests (number n) b read = absurd cc
  node_nests (string s) b read = absurd cc
  node_nests (array ds) b read = absurd cc
  node_nests (object ms) b read =
      let own = ok_of (own_in (object ms)) (λ own. children_in ms >>= over own) b read in
      let below = ok_of (children_in ms) (over own.0) b own.1.1 in
      let made = done_is (branch own.0 (branches_of below.0)) b (over own.0 below.0) refl below.1.1 in
      omega (arith, children_nest ms below.0 below.1.0, ap height made)

  children_nest : (ms : Members) (bs : List (Branch Own)) → children_in ms ≡ Ok bs → 2 * heights (branches_of bs) ≤ members_depth ms
  children_nest no_members bs read =
      let none = done_is [] bs (Ok []) refl read in
      omega (arith, ap (λ (cs : List (Branch Own)). heights (branches_of cs)) none)
  children_nest (member name d ms) bs read =
      picked_nest (bytes_eq name (key_name key.Children)) (nodes_in d) (children_in ms) bs (depth d) (members_depth ms) (nodes_nest d) (children_nest ms) read

  nodes_nest : (d : Data) (bs : List (Branch Own)) → nodes_in d ≡ Ok bs → 2 * heights (branches_of bs) ≤ depth d
  nodes_nest null bs read = absurd cc
  nodes_nest (boolean t) bs read = absurd cc
  nodes_nest (number n) bs read = absurd cc
  nodes_nest (string s) bs read = absurd cc
  nodes_nest (array ds) bs read = omega (arith, each_nest ds bs read)
  nodes_nest (object ms) bs read = absurd cc

  each_nest : (ds : Items) (bs : List (Branch Own)) → each_node ds ≡ Ok bs → 2 * heights (branches_of bs) ≤ items_depth ds + 1
  each_nest no_items bs read =
      let none = done_is [] bs (Ok []) refl read in
      omega (arith, ap (λ (cs : List (Branch Own)). heights (branches_of cs)) none)
  each_nest (item d ds) bs read =
      let node = ok_of (node_in d) (λ node. each_node ds >>= with_next node) bs read in
      let rest = ok_of (each_node ds) (with_next node.0) bs node.1.1 in
      let made = done_is (node.0 ∷ rest.0) bs (with_next node.0 rest.0) refl rest.1.1 in
      omega (arith, node_nests d node.0 node.1.0, each_nest ds rest.0 rest.1.0, ap (λ (cs : List (Branch Own)). heights (branches_of cs)) made)

-- a node that is read of a value may stand among those that are brought
pub read_low : (d : Data) (b : Branch Own) → depth d ≤ max_depth → node_in d ≡ Ok b → height b ≤ MAX_NESTED
read_low d b low read = omega (arith, low, node_nests d b read)
