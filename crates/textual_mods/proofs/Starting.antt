-- The text of an act as enacted.
use Rattle.std.proofs.Common.{◌≡◌, ◌∙◌, ap, refl, ℕ, Bool, true, false, not, ◌&&◌, List, [], ◌∷◌, ◌++◌, Option, Some, None}
use Rattle.std.specs.Prelude.{nat_eq, option_map}
use Rattle.std.specs.List.{starts_with}
use Rattle.std.proofs.lemmas.Bool.{cond_both}
use Rattle.desk_base.specs.declared.id.Id.{Id}
use Rattle.eid_paths.specs.declared.element.Element.{Element}
use Rattle.eid_paths.specs.declared.element.Element.TheVariants.{Article, Section, Chapter, Paragraph, Subparagraph, Subsection, Clause, Subclause, Alinea, Part, Title, Book, Point, Indent}
use Rattle.eid_paths.specs.declared.numbering.Numbering.{Numbering}
use Rattle.eid_paths.specs.Elements.{is_throughout}
use Rattle.eid_paths.specs.Levels.{level_text}
use Rattle.act_tree.specs.Branches.{Branch, Branches, branch, no_branches, more_branches}
use Rattle.act_tree.specs.Brought.{bringer, has_brought}
use Rattle.act_tree.specs.Eids.{eid_below, enacted, all_enacted}
use Rattle.act_tree.specs.Faults.{owns, all_owns, first_fault, first_cause, fault_cause}
use Rattle.act_tree.specs.Provisions.{Own, Provision}
use Rattle.textual_mods.proofs.Behind.{AllWids, HaveWids, all_none}
use Rattle.act_tree.specs.declared.limits.NodeLimit.{NodeLimit}

mutual
  own_again : (n : Numbering) (above : Option (List ℕ)) (b : Branch Own) → owns (enacted n above b) ≡ b
  own_again n above (branch own below) = ap (branch own) (owns_again n (Some (eid_below n above own.element own.num)) below)

  pub owns_again : (n : Numbering) (above : Option (List ℕ)) (bs : Branches Own) → all_owns (all_enacted n above bs) ≡ bs
  owns_again n above no_branches = refl
  owns_again n above (more_branches b bs) =
      ap (λ c. more_branches c (all_owns (all_enacted n above bs))) (own_again n above b) ∙ ap (more_branches b) (owns_again n above bs)

-- the tree of an act as enacted is as well-formed as its nodes are
pub enacted_fits : (n : Numbering) (limit : NodeLimit) (bs : Branches Own) → first_fault n limit bs ≡ None → first_cause (record { numbering = n; limit = limit; body = all_enacted n None bs; changes = 0 }) ≡ None
enacted_fits n limit bs none = ap (λ cs. option_map fault_cause (first_fault n limit cs)) (owns_again n None bs) ∙ ap (option_map fault_cause) none

-- a text begins with another byte than `m`
abbrev begins_else : List ℕ → Bool
begins_else [] = false
begins_else (c ∷ rest) = not (nat_eq 109 c)

level_begins : (e : Element) (num : List ℕ) → begins_else (level_text e num) ≡ true
level_begins Article num = refl
level_begins Section num = refl
level_begins Chapter num = refl
level_begins Paragraph num = refl
level_begins Subparagraph num = refl
level_begins Subsection num = refl
level_begins Clause num = refl
level_begins Subclause num = refl
level_begins Alinea num = refl
level_begins Part num = refl
level_begins Title num = refl
level_begins Book num = refl
level_begins Point num = refl
level_begins Indent num = refl

front_begins : (xs ys : List ℕ) → begins_else xs ≡ true → begins_else (xs ++ ys) ≡ true
front_begins [] ys begins = absurd cc
front_begins (x ∷ xs) ys begins = begins

-- the wId above, if there is one, begins with another byte
abbrev Above : Option (List ℕ) → Type 0
Above None = Unit {0}
Above (Some above) = begins_else above ≡ true

eid_begins : (n : Numbering) (above : Option (List ℕ)) (e : Element) (num : List ℕ) → Above above → begins_else (eid_below n above e num) ≡ true
eid_begins n None e num over = level_begins e num
eid_begins n (Some above) e num over =
    cond_both (is_throughout n e) (level_text e num) (above ++ 95 ∷ 95 ∷ level_text e num) (λ w. begins_else w ≡ true)
    (λ _. level_begins e num) (λ _. front_begins above (95 ∷ 95 ∷ level_text e num) over)

mutual
  one_begins : (n : Numbering) (above : Option (List ℕ)) → Above above → (b : Branch Own) → AllWids (λ w. begins_else w ≡ true) (enacted n above b)
  one_begins n above over (branch own below) =
      let here : begins_else (eid_below n above own.element own.num) ≡ true = eid_begins n above own.element own.num over in
      (here, all_begin n (Some (eid_below n above own.element own.num)) here below)

  all_begin : (n : Numbering) (above : Option (List ℕ)) → Above above → (bs : Branches Own) → HaveWids (λ w. begins_else w ≡ true) (all_enacted n above bs)
  all_begin n above over no_branches = tt
  all_begin n above over (more_branches b bs) = (one_begins n above over b, all_begin n above over bs)

not_name : (w name : List ℕ) → begins_else w ≡ true → starts_with nat_eq w (109 ∷ name) ≡ false
not_name [] name begins = absurd cc
not_name (c ∷ w) name begins = by_test (nat_eq 109 c) _ begins where
  by_test : (t s : Bool) → not t ≡ true → (t && s) ≡ false
  by_test false s is = refl
  by_test true s is = absurd cc

mutual
  one_fails : (by : Id) (b : Branch Provision) → AllWids (λ w. begins_else w ≡ true) b → AllWids (λ w. starts_with nat_eq w (bringer by ++ 95 ∷ 95 ∷ []) ≡ false) b
  one_fails by (branch p below) begin = (not_name p.wid _ begin.0, fail_all by below begin.1)

  fail_all : (by : Id) (bs : Branches Provision) → HaveWids (λ w. begins_else w ≡ true) bs → HaveWids (λ w. starts_with nat_eq w (bringer by ++ 95 ∷ 95 ∷ []) ≡ false) bs
  fail_all by no_branches begin = tt
  fail_all by (more_branches b bs) begin = (one_fails by b begin.0, fail_all by bs begin.1)

-- an act as enacted has no wId of a modification
pub enacted_brings_none : (n : Numbering) (bs : Branches Own) (by : Id) → has_brought by (all_enacted n None bs) ≡ false
enacted_brings_none n bs by =
    all_none (λ w. starts_with nat_eq w (bringer by ++ 95 ∷ 95 ∷ [])) (all_enacted n None bs) (fail_all by (all_enacted n None bs) (all_begin n None tt bs))
