-- The index of references that an opening makes: nothing was in it, so nothing is judged again.
use Rattle.std.proofs.Common.{◌≡◌, ◌∙◌, sym, ap₂, subst, refl, ℕ, ◌+◌, List, [], arith}
use Rattle.law_refs.specs.Index.{Kept, refs_in, revision_steps}
use Rattle.law_refs.specs.Judging.{Answers}
use Rattle.law_refs.specs.Right.{IsRightBut}
use Rattle.law_refs.specs.declared.ref_row.RefRow.{RefRow}

pub opened_still : (answers : Answers) (moved : List (List ℕ)) (index : Kept) → index ≡ [] → IsRightBut answers moved index
opened_still answers moved index empty = subst (IsRightBut answers moved) (sym empty) refl

-- and no reference is judged again
pub opened_steps : (rows : List RefRow) (none : List (List ℕ)) (index : Kept) → none ≡ [] → index ≡ [] → revision_steps none rows index ≡ refs_in rows
opened_steps rows none index is empty = ap₂ (λ (m : List (List ℕ)) (i : Kept). revision_steps m rows i) is empty ∙ alone (refs_in rows)
  where
    alone : (n : ℕ) → n + 0 ≡ n
    alone n = omega arith
