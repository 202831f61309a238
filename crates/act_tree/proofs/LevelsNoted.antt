-- Levels of nodes side by side, noted one after another.
use Rattle.std.proofs.Common.{◌≡◌, ◌∙◌, sym, ap, refl, ℕ, ◌+◌, ◌<◌, Bool, true, false, not, ◌||◌, cond, List, [], ◌∷◌, ◌++◌, length, map, drop, get_or}
use Rattle.std.specs.List.{All}
use Rattle.std.proofs.lemmas.List.{drop_more, append-nil}
use Rattle.std.proofs.lemmas.List.Elements.{All-append}
use Rattle.eid_paths.specs.declared.numbering.Numbering.{Numbering}
use Rattle.eid_paths.specs.Elements.{is_throughout}
use Rattle.eid_paths.specs.Levels.{level_text}
use Rattle.act_tree.specs.declared.tree.Tree.{Tree}
use Rattle.act_tree.specs.Arena.{below_in}
use Rattle.act_tree.specs.Branches.{Branch, more_branches, branches_of}
use Rattle.act_tree.specs.Changes.{joined}
use Rattle.act_tree.specs.EidLevels.{going_on, levels_on}
use Rattle.act_tree.specs.Faults.{owns}
use Rattle.act_tree.specs.Provisions.{Provision}
use Rattle.act_tree.specs.Seen.{tree_view, has_node, provision_at, children_at, branch_at, below_at}
use Rattle.act_tree.specs.Slots.{at, number, size}
use Rattle.act_tree.specs.Surveys.{gathered, repeats}
use Rattle.act_tree.specs.Wids.{is_among, one_twice}
use Rattle.act_tree.proofs.FirstFaults.{repeats-append, repeats-is, untouched}
use Rattle.act_tree.proofs.TreeNodes.{children_climb, children_branches}
use Rattle.act_tree.proofs.Walking.{branch_is}

-- the level of one node that goes on, or none
pub level_of_one : (t : Tree) (id : ℕ) (throughout : Bool) → is_throughout (tree_view t).numbering (provision_at t id).own.element ≡ throughout
    → levels_on (tree_view t).numbering (branches_of (branch_at t id ∷ [])) ≡ cond throughout [] (level_text (provision_at t id).own.element (provision_at t id).own.num ∷ [])
level_of_one t id throughout is =
    append-nil (going_on (tree_view t).numbering false (owns (branch_at t id)))
    ∙ ap (λ b. going_on (tree_view t).numbering false (owns b)) (branch_is t id)
    ∙ ap (λ s. cond s [] (level_text (provision_at t id).own.element (provision_at t id).own.num ∷ [])) is

or_none : (s : Bool) → (s || false) ≡ s
or_none true = refl
or_none false = refl

-- a level that was noted
pub noted_one : (seen : List (List ℕ)) (level : List ℕ) (added : Bool) → added ≡ not (is_among level seen) → not added ≡ repeats seen (level ∷ [])
noted_one seen level added is = ap not is ∙ twice (is_among level seen) ∙ sym (or_none (is_among level seen)) where
  twice : (s : Bool) → not (not s) ≡ s
  twice true = refl
  twice false = refl

-- the levels from one node on are its own and those after it
pub levels_from : (t : Tree) (ids : List ℕ) (i d : ℕ) → i < length ids
    → levels_on (tree_view t).numbering (branches_of (map (branch_at t) (drop i ids)))
    ≡ levels_on (tree_view t).numbering (branches_of (branch_at t (get_or ids i d) ∷ [])) ++ levels_on (tree_view t).numbering (branches_of (map (branch_at t) (drop (i + 1) ids)))
levels_from t ids i d within =
    let n : Numbering = (tree_view t).numbering in
    let rest : List (List ℕ) = levels_on n (branches_of (map (branch_at t) (drop (i + 1) ids))) in
    ap (λ js. levels_on n (branches_of (map (branch_at t) js))) (drop_more ids i d within)
    ∙ ap (λ ls. ls ++ rest) (sym (append-nil (going_on n false (owns (branch_at t (get_or ids i d))))))

-- the first of some repeats, or the others do after it
pub repeats_from : (seen first rest : List (List ℕ)) (again : Bool) → again ≡ repeats seen first → again ≡ true → repeats seen (first ++ rest) ≡ true
repeats_from seen first rest again is told = repeats-append seen first rest ∙ ap (λ s. s || repeats (gathered seen first) rest) (sym is ∙ told)

pub repeats_later : (seen now first rest : List (List ℕ)) (again : Bool) → again ≡ repeats seen first → now ≡ gathered seen first → again ≡ false → repeats now rest ≡ repeats seen (first ++ rest)
repeats_later seen now first rest again is are told =
    ap (λ s. repeats s rest) are ∙ sym (repeats-append seen first rest ∙ ap (λ s. s || repeats (gathered seen first) rest) (sym is ∙ told))

pub repeats_all : (xs : List (List ℕ)) → repeats [] xs ≡ one_twice xs
repeats_all xs = repeats-is [] xs ∙ ap (λ s. s || one_twice xs) (untouched xs)

-- two lists of nodes
branches_joined : (bs cs : List (Branch Provision)) → branches_of (bs ++ cs) ≡ joined (branches_of bs) (branches_of cs)
branches_joined [] cs = refl
branches_joined (b ∷ bs) cs = ap (more_branches b) (branches_joined bs cs)

map_joined : (f : ℕ → Branch Provision) (is js : List ℕ) → map f (is ++ js) ≡ map f is ++ map f js
map_joined f [] js = refl
map_joined f (i ∷ is) js = ap (λ bs. f i ∷ bs) (map_joined f is js)

pub both_nodes : (t : Tree) (one other : ℕ) → has_node t one ≡ true → has_node t other ≡ true → All (λ id. has_node t id ≡ true) (children_at t one ++ children_at t other)
unfolding has_node children_at
both_nodes t one other node node_too =
    All-append (λ id. has_node t id ≡ true) (below_in (at t.arena one)) (below_in (at t.arena other))
    (children_climb (at t.arena) (number t.arena) (size t.arena) t.whole one node) (children_climb (at t.arena) (number t.arena) (size t.arena) t.whole other node_too)

children_are : (t : Tree) (i : ℕ) → has_node t i ≡ true → branches_of (map (branch_at t) (children_at t i)) ≡ below_at t i
unfolding has_node children_at branch_at below_at
children_are t i node = children_branches (at t.arena) (number t.arena) (size t.arena) t.whole i node

pub both_below : (t : Tree) (one other : ℕ) → has_node t one ≡ true → has_node t other ≡ true
    → branches_of (map (branch_at t) (children_at t one ++ children_at t other)) ≡ joined (below_at t one) (below_at t other)
both_below t one other node node_too =
    ap branches_of (map_joined (branch_at t) (children_at t one) (children_at t other))
    ∙ branches_joined (map (branch_at t) (children_at t one)) (map (branch_at t) (children_at t other))
    ∙ ap (λ bs. joined bs (branches_of (map (branch_at t) (children_at t other)))) (children_are t one node)
    ∙ ap (joined (below_at t one)) (children_are t other node_too)
