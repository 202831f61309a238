-- The fields of nodes, which nest at most 12 deep.
use Rattle.std.specs.Prelude.{ℕ, zero, suc, ◌==◌, true, List, [], ◌∷◌, length, slice_get, Option, Some, None, Ok, Err}
use Rattle.eid_paths.specs.Elements.{all_elements, element_place}
use Rattle.eid_paths.specs.declared.element.Element.{Element}
use Rattle.act_tree.specs.Branches.{Branch, branch, branches_of, listed}
use Rattle.act_tree.specs.Provisions.{Own}
use Rattle.entry_codec.specs.Reads.{Read, ◌>>=◌}
use Rattle.entry_codec.specs.Fields.{Field, byte_read, tested, pair, made, made_where}
use Rattle.entry_codec.specs.Values.{number16, text, num, refs, list_of}

-- what was found; where nothing was, the field that begins there is broken
abbrev pub or_broken : {A : Type 0} → ℕ → Option A → List ℕ → Read A
or_broken start None bytes = Err start
or_broken start (Some a) bytes = Ok (a, bytes)

-- an element, by its place in their order
unfoldable pub element : Field Element
element = record {
  spell = λ e. element_place e ∷ [];
  read = λ bytes. byte_read bytes >>= λ k. or_broken (length bytes) (slice_get all_elements k.0) k.1;
  fits = λ _. true;
}

-- what a node says of itself
abbrev pub own_from : Element × (List ℕ × (List ℕ × (List ℕ × List (List ℕ)))) → Own
own_from p = record { element = p.0; num = p.1.0; heading = p.1.1.0; content = p.1.1.1.0; refs = p.1.1.1.1 }

abbrev pub own_parts : Own → Option (Element × (List ℕ × (List ℕ × (List ℕ × List (List ℕ)))))
own_parts o = Some (o.element, (o.num, (o.heading, (o.content, o.refs))))

unfoldable pub own : Field Own
own = made own_from own_parts (pair element (pair num (pair text (pair text refs))))

-- a node, of what it says of itself and of the nodes right beneath it
abbrev pub node_from : Own × List (Branch Own) → Branch Own
node_from p = branch p.0 (branches_of p.1)

abbrev pub node_parts : Branch Own → Option (Own × List (Branch Own))
node_parts (branch own below) = Some (own, listed below)

-- nodes side by side that nest so deep at most
unfoldable pub nodes : ℕ → Field (List (Branch Own))
nodes zero = made_where (λ ns. length ns == 0) (λ _. []) (λ _. Some 0) (tested (λ n. n == 0) number16)
nodes (suc depth) = list_of (made node_from node_parts (pair own (nodes depth)))

-- the nodes that an act or an edit brings
unfoldable pub payload : Field (List (Branch Own))
payload = nodes 12

-- a node with all beneath it, which nests so deep at most below itself
abbrev pub node : ℕ → Field (Branch Own)
node depth = made node_from node_parts (pair own (nodes depth))
