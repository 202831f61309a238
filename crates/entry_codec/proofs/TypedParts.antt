-- What the types promise, as the writers find it.
use Rattle.std.proofs.Common.{◌≡◌, ℕ, zero, suc, ◌+◌, ◌-◌, ◌<◌, ◌≤◌, true, List, [], ◌∷◌, ◌++◌, length, take, get_or, Some, Result, Ok, Err, is_ok, OnOk, refl, sym, ap, subst, ◌∙◌, append_assoc, arith}
use Rattle.std.specs.Prelude.{All}
use Rattle.std.specs.List.{flat_map}
use Rattle.std.specs.Str.{IsUtf8}
use Rattle.std.proofs.lemmas.Str.{is_utf8-from_IsUtf8}
use Rattle.std.proofs.lemmas.List.{take_all, take_more, append-nil}
use Rattle.std.proofs.lemmas.List.Concat.{flat_map-append}
use Rattle.std.proofs.lemmas.List.Elements.{All-head, All-tail, All-more}
use Rattle.frbr_names.specs.declared.date.IriDate.{IriDate}
use Rattle.frbr_names.specs.Reads.{Read}
use Rattle.frbr_names.specs.Works.{Work, work_of, date_read, date_named}
use Rattle.act_tree.specs.Branches.{Branch, branch, branches_of, heights}
use Rattle.act_tree.specs.Provisions.{Own}
use Rattle.act_tree.specs.Specs.{spec_view, specs_view}
use Rattle.act_tree.specs.declared.node_spec.NodeSpec.{NodeSpec}
use Rattle.entry_codec.specs.Values.{is_work}
use Rattle.entry_codec.specs.Typed.{IsText, IsWorkText, IsNode, AreNodes, IsNodeTo, AreNodesTo}
use Rattle.entry_codec.proofs.Exact.{are_bytes}

pub text_typed : (t : List ℕ) → IsUtf8 t → ((i : ℕ) → get_or t i 0 < 256) → IsText t
text_typed t utf8 small = record { utf8 = is_utf8-from_IsUtf8 t utf8; bytes = are_bytes t small }

-- what follows of a call that succeeded
pub on_ok : {A E : Type 0} (r : Result A E) (P Q : Type 0) → (P → Q) → OnOk r P → OnOk r Q
on_ok (Ok value) P Q leads p = leads p
on_ok (Err fault) P Q leads p = p

-- what names the date of a work is its IRI
dated : (reading : Read Work) (date : IriDate) → date_read reading ≡ Some date → is_ok reading ≡ true
dated (Ok work) date is = refl
dated (Err fault) date is = absurd (cc is)

pub work_named : (t : List ℕ) (date : IriDate) → date_named t ≡ Some date → is_work t ≡ true
unfolding date_named
work_named t date is = dated (work_of t) date is

pub work_typed : (t : List ℕ) (date : IriDate) → date_named t ≡ Some date → length t ≤ 162 → IsText t → IsWorkText t
work_typed t date is short text = record { text = text; rule = work_named t date is; short = short }

-- one more is written
pub more_spelled : {V : Type 0} (spell : V → List ℕ) (ys : List V) (y : V) (old mid new : List ℕ) → mid ≡ old ++ flat_map spell ys
    → new ≡ mid ++ spell y → new ≡ old ++ flat_map spell (ys ++ y ∷ [])
more_spelled spell ys y old mid new before last =
    last
    ∙ ap (λ m. m ++ spell y) before
    ∙ append_assoc old (flat_map spell ys) (spell y)
    ∙ ap (λ m. old ++ (flat_map spell ys ++ m)) (sym (append-nil (spell y)))
    ∙ ap (λ m. old ++ m) (sym (flat_map-append spell ys (y ∷ [])))

next_is : {V : Type 0} (xs : List V) (i : ℕ) (x : V) → i < length xs → x ≡ get_or xs i x → take (i + 1) xs ≡ take i xs ++ x ∷ []
next_is {V} xs i x low at = take_more xs i x low ∙ ap (λ (y : V). take i xs ++ y ∷ []) (sym at)

pub more_written : {V : Type 0} (spell : V → List ℕ) (xs : List V) (i : ℕ) (x : V) (old mid new : List ℕ) → i < length xs → x ≡ get_or xs i x
    → mid ≡ old ++ flat_map spell (take i xs) → new ≡ mid ++ spell x → new ≡ old ++ flat_map spell (take (i + 1) xs)
more_written {V} spell xs i x old mid new low at before last =
    more_spelled spell (take i xs) x old mid new before last
    ∙ ap (λ (ys : List V). old ++ flat_map spell ys) (sym (next_is xs i x low at))

viewed_last : (ns : List NodeSpec) (n : NodeSpec) → specs_view (ns ++ n ∷ []) ≡ specs_view ns ++ spec_view n ∷ []
viewed_last [] n = refl
viewed_last (first ∷ ns) n = ap (λ (rest : List (Branch Own)). spec_view first ∷ rest) (viewed_last ns n)

pub more_nodes : (spell : Branch Own → List ℕ) (ns : List NodeSpec) (i : ℕ) (n : NodeSpec) (old mid new : List ℕ) → i < length ns → n ≡ get_or ns i n
    → mid ≡ old ++ flat_map spell (specs_view (take i ns)) → new ≡ mid ++ spell (spec_view n)
    → new ≡ old ++ flat_map spell (specs_view (take (i + 1) ns))
more_nodes spell ns i n old mid new low at before last =
    more_spelled spell (specs_view (take i ns)) (spec_view n) old mid new before last
    ∙ ap (λ (ys : List (Branch Own)). old ++ flat_map spell ys) (sym (viewed_last (take i ns) n) ∙ ap specs_view (sym (next_is ns i n low at)))

pub more_typed : {V : Type 0} (P : V → Type 0) (xs : List V) (i : ℕ) (x : V) → i < length xs → x ≡ get_or xs i x → All P (take i xs) → P x
    → All P (take (i + 1) xs)
more_typed P xs i x low at all last = All-more P xs i x low all (subst P at last)

-- nodes side by side, once all are looked at
all_nodes : (ns : List NodeSpec) → All (λ n. IsNode (spec_view n)) ns → AreNodes (branches_of (specs_view ns))
all_nodes [] all = tt
all_nodes (n ∷ ns) all =
    let P = λ (m : NodeSpec). IsNode (spec_view m) in
    (All-head P n ns all, all_nodes ns (All-tail P n ns all))

pub nodes_typed : (nodes : List (Branch Own)) (specs slice : List NodeSpec) (i : ℕ) → specs_view specs ≡ nodes → slice ≡ specs → length slice ≤ i
    → All (λ n. IsNode (spec_view n)) (take i slice) → AreNodes (branches_of nodes)
nodes_typed nodes specs slice i view same done all =
    let P = λ (m : NodeSpec). IsNode (spec_view m) in
    subst (λ (ns : List (Branch Own)). AreNodes (branches_of ns)) (ap specs_view same ∙ view) (all_nodes slice (subst (All P) (take_all i slice done) all))

-- nodes none of which nests too deep
each_typed : (depth : ℕ) (ns : List NodeSpec) → All (λ n. IsNodeTo depth (spec_view n)) ns
    → heights (branches_of (specs_view ns)) ≤ depth + 1 → AreNodes (branches_of (specs_view ns))
each_typed depth [] all low = tt
each_typed depth (n ∷ ns) all low =
    let P = λ (n : NodeSpec). IsNodeTo depth (spec_view n) in
    (All-head P n ns all (omega (arith, low)), each_typed depth ns (All-tail P n ns all) (omega (arith, low)))

none_nest : (ns : List (Branch Own)) → AreNodesTo 0 ns
none_nest [] = λ low. tt
none_nest (branch own below ∷ ns) = λ low. absurd (omega (arith, low))

pub none_typed : (depth : ℕ) (ns : List (Branch Own)) → depth ≡ 0 → AreNodesTo depth ns
none_typed depth ns none = subst (λ d. AreNodesTo d ns) (sym none) (none_nest ns)

pub all_typed : (depth : ℕ) → (depth ≡ 0 → ⊥) → (ns : List (Branch Own)) (specs slice : List NodeSpec)
    → specs_view specs ≡ ns → slice ≡ specs → (below : ℕ) → below ≡ depth - 1
    → All (λ n. IsNodeTo below (spec_view n)) slice → AreNodesTo depth ns
all_typed depth deep ns specs slice view same below less all =
    let whole : specs_view slice ≡ ns = ap specs_view same ∙ view in
    subst (λ (nodes : List (Branch Own)). AreNodesTo depth nodes) whole
    (λ low. each_typed below slice all (omega (arith, low, less, positive depth deep)))
  where
    positive : (d : ℕ) → (d ≡ 0 → ⊥) → 1 ≤ d
    positive zero deep = absurd (deep refl)
    positive (suc d) deep = omega arith
