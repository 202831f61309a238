-- How nested things are told apart: as the list of their labels in the order of the text, each with the number of
-- branches below it.
use Rattle.std.specs.Prelude.{ℕ, ◌≡◌, refl, List, [], ◌∷◌, ◌++◌, take, drop, length}
use Rattle.std.specs.Coded.{Coded, code_by, coded×, coded_ℕ, coded_list}
use Rattle.std.proofs.Common.{ap, ◌∙◌, append_assoc}
use Rattle.std.proofs.lemmas.List.{append-nil}
use Rattle.std.proofs.Math.Seq.{take-append_seam, drop-append_seam}
use Rattle.act_tree.specs.Branches.{Branch, Branches, branch, no_branches, more_branches, listed, branches_of, branches_of-listed, listed-branches_of}

-- the labels of a branch, its own first, each with the number of branches right below it
abbrev mutual
  pub tokens : {L : Type 0} → Branch L → List (ℕ × L)
  tokens (branch label below) = (length (listed below), label) ∷ all_tokens below

  pub all_tokens : {L : Type 0} → Branches L → List (ℕ × L)
  all_tokens no_branches = []
  all_tokens (more_branches b bs) = tokens b ++ all_tokens bs

-- a label takes the branches below it from the front of those that stand behind it
abbrev pub built : {L : Type 0} → ℕ × L → List (Branch L) → List (Branch L)
built x rest = branch x.1 (branches_of (take x.0 rest)) ∷ drop x.0 rest

-- the branches that such labels give
abbrev pub branches_from : {L : Type 0} → List (ℕ × L) → List (Branch L)
branches_from [] = []
branches_from (x ∷ xs) = built x (branches_from xs)

-- a label finds the branches below it again
built-listed : {L : Type 0} → (label : L) (below : Branches L) (rest : List (Branch L))
    → built (length (listed below), label) (listed below ++ rest) ≡ branch label below ∷ rest
built-listed label below rest =
    ap (λ bs. branch label (branches_of bs) ∷ drop (length (listed below)) (listed below ++ rest))
    (take-append_seam (listed below) rest)
    ∙ ap (λ bs. branch label bs ∷ drop (length (listed below)) (listed below ++ rest)) (branches_of-listed below)
    ∙ ap (λ bs. branch label below ∷ bs) (drop-append_seam (listed below) rest)

mutual
  reads_branch : {L : Type 0} → (b : Branch L) (rest : List (ℕ × L))
      → branches_from (tokens b ++ rest) ≡ b ∷ branches_from rest
  reads_branch (branch label below) rest =
      ap (built (length (listed below), label)) (reads_branches below rest)
      ∙ built-listed label below (branches_from rest)

  reads_branches : {L : Type 0} → (bs : Branches L) (rest : List (ℕ × L))
      → branches_from (all_tokens bs ++ rest) ≡ listed bs ++ branches_from rest
  reads_branches no_branches rest = refl
  reads_branches (more_branches b bs) rest =
      ap branches_from (append_assoc (tokens b) (all_tokens bs) rest)
      ∙ reads_branch b (all_tokens bs ++ rest)
      ∙ ap (λ xs. b ∷ xs) (reads_branches bs rest)

pub reads_all : {L : Type 0} → (bs : List (Branch L)) → branches_from (all_tokens (branches_of bs) ++ []) ≡ bs
reads_all bs = reads_branches (branches_of bs) [] ∙ append-nil (listed (branches_of bs)) ∙ listed-branches_of bs

-- the code of a list of branches, by the code of their labels
abbrev pub branches_code : {L : Type 0} → Coded L → Coded (List (Branch L))
branches_code {L} label_code =
    code_by (List (ℕ × L)) (coded_list (coded× coded_ℕ label_code)) (λ bs. all_tokens (branches_of bs) ++ [])
    branches_from reads_all
