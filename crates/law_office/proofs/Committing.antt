-- Revisions that are each of a work of its own, committed one after another, are what is kept then.
use Rattle.std.proofs.Common.{◌≡◌, ◌∙◌, sym, ap, subst, refl, ℕ, Bool, true, false, cond, ◌||◌, List, [], ◌∷◌, ◌++◌, map, Option, Some, None, IfSome, option_map}
use Rattle.std.specs.List.{list_any}
use Rattle.std.specs.Str.{bytes_eq}
use Rattle.law_register.specs.declared.register.entry.Entry.{Entry}
use Rattle.law_register.specs.Provisions.Carrying.{held_now}
use Rattle.law_register.proofs.Puts.{bytes_same}
use Rattle.version_cache.specs.Works.{AreRevisionsOf, IsRevisionIf, WorkRevisionValue, WorkValue, renewed, renewed_if}
use Rattle.version_cache.specs.declared.work_revision.WorkRevision.{WorkRevision}
use Rattle.version_cache.specs.declared.work_tables.WorkTables.{WorkTables}
use Rattle.law_refs.specs.Index.{Kept as IndexValue}
use Rattle.law_refs.specs.OfRegister.{IsIndexOf}
use Rattle.law_office.specs.References.{index_after}
use Rattle.law_office.specs.declared.book.Changes.{Changes}
use Rattle.law_office.specs.Movements.{AreMoved, Enacted, FitOnce, Revised, kept_then, revision_among, then_of}
use Rattle.law_office.specs.Tables.{AreChangesOf, AreTablesOf, Fit, FitAll, FitsOne, Kept, Matches, enacted_view, revised_view, with_enacted, with_revision, with_revisions}
use Rattle.law_office.proofs.After.{still}

-- where none of them is of a work, it stays, and they fit
none_of : (rs : Revised) (w : List ℕ) (k : Option WorkValue) → list_any (λ (other : List ℕ × WorkRevisionValue). bytes_eq other.0 w) rs ≡ false
    → (with_revisions rs w k ≡ k) × FitAll rs w k
none_of [] w k none = (refl, tt)
none_of (r ∷ rs) w k none = by (bytes_eq r.0 w) refl none (none_of rs w k)
  where
    by : (b : Bool) → bytes_eq r.0 w ≡ b → (b || list_any (λ (other : List ℕ × WorkRevisionValue). bytes_eq other.0 w) rs) ≡ false
        → (list_any (λ (other : List ℕ × WorkRevisionValue). bytes_eq other.0 w) rs ≡ false → (with_revisions rs w k ≡ k) × FitAll rs w k)
        → (with_revisions rs w (with_revision r w k) ≡ k) × (FitsOne r w k × FitAll rs w (with_revision r w k))
    by true same none rest = absurd (let no : true ≡ false = none in cc)
    by false other none rest =
        let stays : with_revision r w k ≡ k = ap (λ (b : Bool). cond b (option_map (λ one. renewed one r.1) k) k) other in (
          ap (with_revisions rs w) stays ∙ (rest none).0,
          (λ same. absurd (let no : true ≡ false = sym same ∙ other in cc), subst (FitAll rs w) (sym stays) (rest none).1),
        )

both : (rs : Revised) (kept : Kept) → FitOnce rs kept → (w : List ℕ) → (with_revisions rs w (kept w) ≡ kept_then rs kept w) × FitAll rs w (kept w)
both [] kept fit w = (sym (still (kept w)), tt)
both (r ∷ rs) kept fit w = by (bytes_eq r.0 w) refl (both rs kept fit.2 w)
  where
    by : (b : Bool) → bytes_eq r.0 w ≡ b → (with_revisions rs w (kept w) ≡ kept_then rs kept w) × FitAll rs w (kept w)
        → (with_revisions rs w (cond b (option_map (λ one. renewed one r.1) (kept w)) (kept w))
        ≡ option_map (λ one. renewed_if one (cond b (Some r.1) (revision_among rs w))) (kept w))
        × (FitsOne r w (kept w) × FitAll rs w (cond b (option_map (λ one. renewed one r.1) (kept w)) (kept w)))
    by true same rest =
        let here : r.0 ≡ w = bytes_same r.0 w same in
        let none = none_of rs w (option_map (λ one. renewed one r.1) (kept w))
        (subst (λ (x : List ℕ). list_any (λ (other : List ℕ × WorkRevisionValue). bytes_eq other.0 x) rs ≡ false) here fit.0) in (
          none.0,
          (λ is. subst (λ (x : List ℕ). IfSome (kept x) (λ k. AreRevisionsOf k r.1.tables)) here fit.1, none.1),
        )
    by false other rest = (rest.0, (λ is. absurd (let no : true ≡ false = sym is ∙ other in cc), rest.1))

pub fits : (rs : Revised) (kept : Kept) → FitOnce rs kept → Fit rs kept
fits rs kept fit w = (both rs kept fit w).1

pub committed_as : (enacted : Enacted) (rs : Revised) (kept : Kept) → FitOnce rs kept → (w : List ℕ)
    → then_of enacted rs kept w ≡ with_enacted enacted w (with_revisions rs w (kept w))
committed_as enacted rs kept fit w = ap (with_enacted enacted w) (sym (both rs kept fit w).0)

-- so the changes of works that have moved are those of the entry
pub are_committed : (es : List Entry) (e : Entry) (kept : Kept) (index : IndexValue) (enacted : Option (List ℕ × WorkTables)) (revised : List (List ℕ × WorkRevision))
    (refs : Option IndexValue) (changes : Changes) → AreMoved es e kept (option_map enacted_view enacted) (map revised_view revised)
    → IsIndexOf (es ++ e ∷ []) (index_after refs index) → changes.enacted ≡ enacted → changes.revised.items ≡ revised → changes.refs ≡ refs
    → AreChangesOf es e kept index changes
are_committed es e kept index enacted revised refs changes moved right is are same = record {
  fit = subst (λ (rs : List (List ℕ × WorkRevision)). Fit (map revised_view rs) kept) (sym are) (fits (map revised_view revised) kept moved.fit);
  right = λ w.
      subst (λ (new : Option (List ℕ × WorkTables)). Matches (held_now (es ++ e ∷ []) w) (with_enacted (option_map enacted_view new) w (with_revisions (map revised_view changes.revised.items) w (kept w)))) (sym is)
      (subst (λ (rs : List (List ℕ × WorkRevision)). Matches (held_now (es ++ e ∷ []) w) (with_enacted (option_map enacted_view enacted) w (with_revisions (map revised_view rs) w (kept w)))) (sym are)
      (subst (Matches (held_now (es ++ e ∷ []) w)) (committed_as (option_map enacted_view enacted) (map revised_view revised) kept moved.fit w) (moved.right w)));
  refs = subst (λ (r : Option IndexValue). IsIndexOf (es ++ e ∷ []) (index_after r index)) (sym same) right;
}

-- the revision of a work among these is of what is kept of it
pub fits_among : (rs : Revised) (kept : Kept) → FitOnce rs kept → (w : List ℕ) (one : WorkValue) → kept w ≡ Some one → IsRevisionIf one (revision_among rs w)
fits_among [] kept fit w one is = tt
fits_among (r ∷ rs) kept fit w one is = by (bytes_eq r.0 w) refl (fits_among rs kept fit.2 w one is)
  where
    by : (b : Bool) → bytes_eq r.0 w ≡ b → IsRevisionIf one (revision_among rs w) → IsRevisionIf one (cond b (Some r.1) (revision_among rs w))
    by true same rest =
        subst (λ (k : Option WorkValue). IfSome k (λ one. AreRevisionsOf one r.1.tables)) (ap kept (bytes_same r.0 w same) ∙ is) fit.1
    by false other rest = rest

-- none are those of an entry with which all stays
pub none_changed : (es : List Entry) (e : Entry) (kept : Kept) (index : IndexValue) (changes : Changes) → changes.enacted ≡ None → changes.revised.items ≡ []
    → changes.refs ≡ None → AreTablesOf (es ++ e ∷ []) kept → IsIndexOf (es ++ e ∷ []) index → AreChangesOf es e kept index changes
none_changed es e kept index changes is are same right refs = record {
  fit = subst (λ (rs : List (List ℕ × WorkRevision)). Fit (map revised_view rs) kept) (sym are) (λ w. tt);
  right = λ w.
      subst (λ (new : Option (List ℕ × WorkTables)). Matches (held_now (es ++ e ∷ []) w) (with_enacted (option_map enacted_view new) w (with_revisions (map revised_view changes.revised.items) w (kept w)))) (sym is)
      (subst (λ (rs : List (List ℕ × WorkRevision)). Matches (held_now (es ++ e ∷ []) w) (with_enacted None w (with_revisions (map revised_view rs) w (kept w)))) (sym are) (right w));
  refs = subst (λ (r : Option IndexValue). IsIndexOf (es ++ e ∷ []) (index_after r index)) (sym same) refs;
}
