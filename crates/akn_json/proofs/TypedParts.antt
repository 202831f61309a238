-- What the types promise, as the laws find it.
use Rattle.std.proofs.Common.{◌≡◌, ℕ, ◌+◌, ◌<◌, ◌≤◌, ◌∙◌, true, List, [], ◌∷◌, length, take, get_or, Some, Ok, Err, is_ok, refl, ap, subst}
use Rattle.std.specs.Prelude.{All}
use Rattle.std.proofs.lemmas.List.{take_all}
use Rattle.std.proofs.lemmas.List.Elements.{All-head, All-tail, All-more}
use Rattle.frbr_names.specs.declared.date.IriDate.{IriDate}
use Rattle.frbr_names.specs.Reads.{Read}
use Rattle.frbr_names.specs.Works.{Work, work_of, date_read, date_named}
use Rattle.act_tree.specs.Branches.{Branch, branches_of}
use Rattle.act_tree.specs.Provisions.{Own}
use Rattle.act_tree.specs.Specs.{spec_view, specs_view}
use Rattle.act_tree.specs.declared.node_spec.NodeSpec.{NodeSpec}
use Rattle.akn_json.specs.Printing.Typed.{IsTypedText, IsTypedWork, IsTypedNode, AreTypedNodes, IsTypedPayload}

-- one more is looked at
pub more_typed : {V : Type 0} (P : V → Type 0) (xs : List V) (i : ℕ) (x : V) → i < length xs → x ≡ get_or xs i x → All P (take i xs) → P x
    → All P (take (i + 1) xs)
more_typed P xs i x low at all last = All-more P xs i x low all (subst P at last)

-- what names the date of a work is its IRI
dated : (reading : Read Work) (date : IriDate) → date_read reading ≡ Some date → is_ok reading ≡ true
dated (Ok work) date is = refl
dated (Err fault) date is = absurd (cc is)

pub work_typed : (iri : List ℕ) (date : IriDate) → date_named iri ≡ Some date → IsTypedText iri → IsTypedWork iri
unfolding date_named
work_typed iri date is text = (dated (work_of iri) date is, text)

-- nodes side by side, once all are looked at
nodes_typed : (ns : List NodeSpec) → All (λ n. IsTypedNode (spec_view n)) ns → AreTypedNodes (branches_of (specs_view ns))
nodes_typed [] all = tt
nodes_typed (n ∷ ns) all =
    let P = λ (m : NodeSpec). IsTypedNode (spec_view m) in
    (All-head P n ns all, nodes_typed ns (All-tail P n ns all))

pub payload_typed : (nodes : List (Branch Own)) (specs slice : List NodeSpec) (i : ℕ) → specs_view specs ≡ nodes → slice ≡ specs → length slice ≤ i
    → All (λ n. IsTypedNode (spec_view n)) (take i slice) → IsTypedPayload nodes
payload_typed nodes specs slice i view same done all =
    let P = λ (m : NodeSpec). IsTypedNode (spec_view m) in
    subst IsTypedPayload (ap specs_view same ∙ view) (nodes_typed slice (subst (All P) (take_all i slice done) all))
