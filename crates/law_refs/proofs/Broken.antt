-- What is listed of an index that was judged anew is what breaks a rule.
use Rattle.std.proofs.Common.{◌≡◌, ◌∙◌, ℕ, sym, ap, refl, Bool, true, false, cond, List, [], ◌∷◌, ◌++◌, map}
use Rattle.std.specs.Prelude.{nat_le, Option, Some, None}
use Rattle.law_refs.specs.Index.{Kept}
use Rattle.law_refs.specs.Judging.{Answers, cause_of}
use Rattle.law_refs.specs.Listed.{all_listed, dangling_on, listed, listed_of}
use Rattle.law_refs.specs.Right.{IsRight, anew, anew_ref, anew_row, anew_work, broken_on, broken_refs}
use Rattle.law_refs.specs.Rows.{has_begun, latest, refs_on}
use Rattle.law_refs.specs.declared.node_ref.JudgedRef.{JudgedRef}
use Rattle.law_refs.specs.declared.ref_row.DayRefs.{DayRefs}
use Rattle.law_refs.specs.declared.ref_row.WorkRefs.{WorkRefs}

module _ (answers : Answers) where
  listed_anew : (work : List ℕ) (kept : JudgedRef) (cause : Option ℕ) → listed work (anew_ref answers kept) cause ≡ listed work kept cause
  unfolding anew_ref
  listed_anew work kept None = refl
  listed_anew work kept (Some cause) = refl

  all_listed_anew : (work : List ℕ) (refs : List JudgedRef) → all_listed work (map (anew_ref answers) refs) ≡ broken_refs answers work refs
  unfolding anew_ref
  all_listed_anew work [] = refl
  all_listed_anew work (kept ∷ refs) =
      ap (λ first. first ++ all_listed work (map (anew_ref answers) refs)) (listed_anew work kept (cause_of answers kept.iri))
      ∙ ap (λ rest. listed work kept (cause_of answers kept.iri) ++ rest) (all_listed_anew work refs)

  chosen_anew : (t : Bool) (here found : List JudgedRef) → cond t (map (anew_ref answers) here) (map (anew_ref answers) found) ≡ map (anew_ref answers) (cond t here found)
  chosen_anew true here found = refl
  chosen_anew false here found = refl

  pub latest_anew : (day : ℕ) (found : List JudgedRef) (rows : List DayRefs) → latest day (map (anew_ref answers) found) (map (anew_row answers) rows) ≡ map (anew_ref answers) (latest day found rows)
  unfolding anew_row
  latest_anew day found [] = refl
  latest_anew day found (row ∷ rows) =
      ap (λ refs. latest day refs (map (anew_row answers) rows)) (chosen_anew (has_begun row.from day) row.refs found)
      ∙ latest_anew day (cond (has_begun row.from day) row.refs found) rows

  work_anew : (day : ℕ) (work : List ℕ) (kept : WorkRefs) → all_listed work (refs_on day (map (anew_row answers) kept.rows)) ≡ broken_refs answers work (refs_on day kept.rows)
  work_anew day work kept = ap (all_listed work) (latest_anew day [] kept.rows) ∙ all_listed_anew work (refs_on day kept.rows)

  index_anew : (day : ℕ) (index : Kept) → dangling_on day (anew answers index) ≡ broken_on answers day index
  unfolding listed_of anew_work
  index_anew day [] = refl
  index_anew day (of_work ∷ index) =
      ap (λ here. cond (nat_le of_work.1.act_day day) here [] ++ dangling_on day (anew answers index)) (work_anew day of_work.0 of_work.1)
      ∙ ap (λ rest. cond (nat_le of_work.1.act_day day) (broken_refs answers of_work.0 (refs_on day of_work.1.rows)) [] ++ rest) (index_anew day index)

-- of a right index what breaks a rule dangles
pub broken_dangle : (answers : Answers) (day : ℕ) (index : Kept) → IsRight answers index → dangling_on day index ≡ broken_on answers day index
broken_dangle answers day index right = ap (dangling_on day) (sym right) ∙ index_anew answers day index
