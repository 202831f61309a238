-- Nodes, as they are printed, are read as those nodes.
use Rattle.std.proofs.Common.{◌≡◌, ◌∙◌, ℕ, true, List, [], ◌∷◌, Ok, refl, ap}
use Rattle.std.specs.List.{list_all}
use Rattle.std.proofs.lemmas.Bool.{and_parts}
use Rattle.serde_json.specs.Data.{string, Items}
use Rattle.frbr_names.specs.Expressions.{is_expression}
use Rattle.eid_paths.specs.declared.element.Element.{Element}
use Rattle.eid_paths.specs.declared.element.Element.TheVariants as element
use Rattle.eid_paths.specs.Elements.{element_name}
use Rattle.eid_paths.specs.Nums.{is_num}
use Rattle.act_tree.specs.Branches.{Branch, Branches, branch, no_branches, more_branches, branches_of, listed, listed-branches_of, branches_of-listed}
use Rattle.act_tree.specs.Provisions.{Own}
use Rattle.law_register.specs.Law.Spelling.{is_spelled_node, are_spelled_nodes, is_spelled_payload}
use Rattle.akn_json.specs.Printing.Answers.{texts_data}
use Rattle.akn_json.specs.Printing.Nodes.{own_data, brought_data, all_brought_data, payload_data}
use Rattle.akn_json.specs.Printing.Typed.{IsTypedNode, AreTypedNodes, IsTypedPayload}
use Rattle.akn_json.specs.Reading.Reads.{Read, ◌>>=◌}
use Rattle.akn_json.specs.Reading.Fields.{has_members, members_in, field_in, optional_in, items_in, each, text_in}
use Rattle.akn_json.specs.Reading.Names.{expression_in}
use Rattle.akn_json.specs.Reading.Nodes.{element_in, num_in, refs_in, own_in, node_in, nodes_in, each_node}

element_back : (e : Element) → element_in (string (element_name e)) ≡ Ok e
unfolding element_in text_in
element_back element.Article = refl
element_back element.Section = refl
element_back element.Chapter = refl
element_back element.Paragraph = refl
element_back element.Subparagraph = refl
element_back element.Subsection = refl
element_back element.Clause = refl
element_back element.Subclause = refl
element_back element.Alinea = refl
element_back element.Part = refl
element_back element.Title = refl
element_back element.Book = refl
element_back element.Point = refl
element_back element.Indent = refl

pub num_back : (num : List ℕ) → is_num num ≡ true → num_in (string num) ≡ Ok num
unfolding num_in text_in
num_back num is = rw is refl

expression_back : (iri : List ℕ) → is_expression iri ≡ true → expression_in (string iri) ≡ Ok iri
unfolding expression_in text_in
expression_back iri is = rw is refl

refs_back : (refs : List (List ℕ)) → list_all is_expression refs ≡ true → each expression_in (texts_data refs) ≡ Ok refs
refs_back [] are = refl
refs_back (ref ∷ refs) are =
    let parts = and_parts (is_expression ref) (list_all is_expression refs) are in
    rw (expression_back ref parts.0, refs_back refs parts.1) refl

own_back : (own : Own) (below : Items) → is_num own.num ≡ true → list_all is_expression own.refs ≡ true → own_in (own_data own below) ≡ Ok own
unfolding own_in members_in has_members field_in optional_in text_in refs_in items_in
own_back own below num refs = rw (element_back own.element, num_back own.num num, refs_back own.refs refs) refl

mutual
  node_back : (b : Branch Own) → IsTypedNode b → is_spelled_node b ≡ true → node_in (brought_data b) ≡ Ok b
  node_back (branch own below) typed well =
      let parts = and_parts (list_all is_expression own.refs) (are_spelled_nodes below) well in
      ap (λ (r : Read Own). r >>= λ (o : Own). each_node (all_brought_data below) >>= λ (bs : List (Branch Own)). Ok (branch o (branches_of bs)))
      (own_back own (all_brought_data below) typed.0.0 parts.0)
      ∙ ap (λ (r : Read (List (Branch Own))). r >>= λ (bs : List (Branch Own)). Ok (branch own (branches_of bs))) (each_back below typed.1 parts.1)
      ∙ ap (λ (bs : Branches Own). Ok (branch own bs)) (branches_of-listed below)

  each_back : (bs : Branches Own) → AreTypedNodes bs → are_spelled_nodes bs ≡ true → each_node (all_brought_data bs) ≡ Ok (listed bs)
  each_back no_branches typed well = refl
  each_back (more_branches b bs) typed well =
      let parts = and_parts (is_spelled_node b) (are_spelled_nodes bs) well in
      ap (λ (r : Read (Branch Own)). r >>= λ (n : Branch Own). each_node (all_brought_data bs) >>= λ (rest : List (Branch Own)). Ok (n ∷ rest))
      (node_back b typed.0 parts.0)
      ∙ ap (λ (r : Read (List (Branch Own))). r >>= λ (rest : List (Branch Own)). Ok (b ∷ rest)) (each_back bs typed.1 parts.1)

pub nodes_back : (nodes : List (Branch Own)) → IsTypedPayload nodes → is_spelled_payload nodes ≡ true → nodes_in (payload_data nodes) ≡ Ok nodes
nodes_back nodes typed well = each_back (branches_of nodes) typed well ∙ ap Ok (listed-branches_of nodes)
