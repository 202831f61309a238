-- Nodes that nest deeper than not at all are a list of nodes that nest one less deep below themselves.
use Rattle.std.proofs.Common.{◌≡◌, ℕ, zero, suc, ◌-◌, List, length, ◌++◌, min, Result, Ok, Err, refl, sym, ap, ◌∙◌, append_assoc, arith}
use Rattle.std.specs.List.{flat_map}
use Rattle.std.proofs.lemmas.List.{length-map}
use Rattle.act_tree.specs.Branches.{Branch, branches_of, listed, listed-branches_of}
use Rattle.act_tree.specs.Provisions.{Own}
use Rattle.act_tree.specs.Specs.{spec_view, specs_view}
use Rattle.act_tree.specs.declared.node_spec.NodeSpec.{NodeSpec}
use Rattle.entry_codec.specs.declared.reading.reader.Stop.{Stop}
use Rattle.entry_codec.specs.declared.reading.reader.Stop.TheVariants as stops
use Rattle.entry_codec.specs.Reads.{Read, ◌>>=◌, Reads, Stops}
use Rattle.entry_codec.specs.Fields.{each_read}
use Rattle.entry_codec.specs.Nodes.{own, nodes, node}
use Rattle.entry_codec.specs.Values.{list_of, number16}

pub nodes_below : (depth : ℕ) → (depth ≡ 0 → ⊥) → nodes depth ≡ list_of (node (depth - 1))
unfolding nodes
nodes_below zero deep = absurd (deep refl)
nodes_below (suc depth) deep = let e : depth ≡ suc depth - 1 = omega arith in ap (λ k. list_of (node k)) e

-- a list behind its count
abbrev with_first : {V : Type 0} → ℕ → List V × List ℕ → Read (ℕ × List V)
with_first n b = Ok ((n, b.0), b.1)

abbrev second : {V : Type 0} → (ℕ × List V) × List ℕ → Read (List V)
second p = Ok (p.0.1, p.1)

abbrev with_count : {V : Type 0} → ℕ → Read (List V) → Read (List V)
with_count count items = (items >>= with_first count) >>= second

abbrev behind_count : {V : Type 0} → (List ℕ → Read V) → Read ℕ → Read (List V)
behind_count read counted = (counted >>= λ a. each_read read a.0 a.1 >>= with_first a.0) >>= second

pub count_stops : (depth : ℕ) → (depth ≡ 0 → ⊥) → (stop : Stop) (bytes : List ℕ) → Stops stop (number16.read bytes)
    → Stops stop ((nodes depth).read bytes)
count_stops depth deep stops.Memory bytes h = tt
count_stops depth deep (stops.Broken left) bytes h =
    ap (λ f. f.read bytes) (nodes_below depth deep) ∙ ap (behind_count (node (depth - 1)).read) h

pub list_reads : {A : Type 0} → (view : A → List (Branch Own)) (depth : ℕ) → (depth ≡ 0 → ⊥)
    → (bytes : List ℕ) (count : ℕ) (rest : List ℕ) (result : Result A Stop) (left : List ℕ)
    → number16.read bytes ≡ Ok (count, rest) → Reads view result left (each_read (node (depth - 1)).read count rest)
    → Reads view result left ((nodes depth).read bytes)
list_reads view depth deep bytes count rest (Ok ns) left first items =
    ap (λ f. f.read bytes) (nodes_below depth deep)
    ∙ ap (behind_count (node (depth - 1)).read) first
    ∙ ap (with_count count) items
list_reads view depth deep bytes count rest (Err stops.Memory) left first items = tt
list_reads view depth deep bytes count rest (Err (stops.Broken n)) left first items =
    ap (λ f. f.read bytes) (nodes_below depth deep)
    ∙ ap (behind_count (node (depth - 1)).read) first
    ∙ ap (with_count count) items

-- a node is spelled by what it says of itself, and behind it the nodes beneath it
pub node_spelled : (depth : ℕ) (o : Own) (below : List (Branch Own)) (old mid new : List ℕ) → mid ≡ old ++ own.spell o
    → new ≡ mid ++ (nodes depth).spell below
    → new ≡ old ++ (own.spell o ++ (nodes depth).spell (listed (branches_of below)))
node_spelled depth o below old mid new first rest =
    rest
    ∙ ap (λ x. x ++ (nodes depth).spell below) first
    ∙ append_assoc old (own.spell o) ((nodes depth).spell below)
    ∙ ap (λ b. old ++ (own.spell o ++ (nodes depth).spell b)) (sym (listed-branches_of below))

-- none are spelled by their count alone
none : (ns : List (Branch Own)) → (nodes 0).spell ns ≡ number16.spell 0
unfolding nodes
none ns = refl

pub none_spelled : (depth : ℕ) (ns : List (Branch Own)) → depth ≡ 0 → (nodes depth).spell ns ≡ number16.spell 0
none_spelled depth ns e = ap (λ d. (nodes d).spell ns) e ∙ none ns

pub list_spelled : (depth : ℕ) → (depth ≡ 0 → ⊥) → (ns : List (Branch Own)) (specs slice : List NodeSpec) (n : ℕ) (old mid new : List ℕ)
    → specs_view specs ≡ ns → slice ≡ specs → n ≡ length slice → mid ≡ old ++ number16.spell (min n 65535)
    → new ≡ mid ++ flat_map (node (depth - 1)).spell (specs_view slice) → new ≡ old ++ (nodes depth).spell ns
list_spelled depth deep ns specs slice n old mid new view same len first items =
    let all : specs_view slice ≡ ns = ap specs_view same ∙ view in
    let count : n ≡ length ns = len ∙ sym (length-map slice spec_view) ∙ ap length all in
    items
    ∙ ap (λ xs. mid ++ flat_map (node (depth - 1)).spell xs) all
    ∙ ap (λ xs. xs ++ flat_map (node (depth - 1)).spell ns) (first ∙ ap (λ k. old ++ number16.spell (min k 65535)) count)
    ∙ append_assoc old (number16.spell (min (length ns) 65535)) (flat_map (node (depth - 1)).spell ns)
    ∙ ap (λ f. old ++ f.spell ns) (sym (nodes_below depth deep))
