-- Works that are noted stay so, and those are noted that name a provision once changes are made.
use Rattle.std.proofs.Common.{◌≡◌, ◌∙◌, sym, ap, subst, refl, ℕ, Bool, true, false, cond, ◌||◌, List, [], ◌∷◌, ◌++◌, Option, Some, None, IfSome, option_map, Result, Ok, Err, OnOk}
use Rattle.std.proofs.lemmas.List.Folds.{list_any-append}
use Rattle.std.specs.List.{AllByRecursion, list_any}
use Rattle.std.specs.Map.{lookup}
use Rattle.std.specs.Str.{bytes_eq}
use Rattle.indexmap.specs.IndexSet.{IndexSet, insert_key}
use Rattle.law_register.proofs.Puts.{bytes_are, bytes_same}
use Rattle.version_cache.specs.declared.work_tables.WorkTables.{WorkTables}
use Rattle.version_cache.specs.Seen.{work_view}
use Rattle.version_cache.specs.Tables.{RevisionValue}
use Rattle.version_cache.specs.Works.{WorkRevisionValue, WorkValue, renewed, renewed_by}
use Rattle.law_office.specs.Movements.{Enacted, Revised}
use Rattle.law_office.specs.Noting.{AreMore, AreNoted, IsNoted, names_one}
use Rattle.law_office.specs.Tables.{Kept, with_enacted, with_revision, with_revisions}

module _ {S : Type 0} (naming : IndexSet (List ℕ) S) where
  -- a work of another name that is noted is the same work
  noted_same : (v w : List ℕ) (names : Bool) → v ≡ w → IsNoted naming v names → IsNoted naming w names
  noted_same v w names same is = subst (λ (x : List ℕ). IsNoted naming x names) same is

  renewed_names : (one : WorkValue) (r : WorkRevisionValue) → (renewed one r).names ≡ r.names
  renewed_names one r = by r.tables
    where
      by : (tables : Option (RevisionValue × RevisionValue)) → (renewed_by one r.known r.names r.days tables).names ≡ r.names
      by None = refl
      by (Some both) = refl

  noted_renewed : (w : List ℕ) (r : WorkRevisionValue) (k : Option WorkValue) → IsNoted naming w r.names
      → IsNoted naming w (names_one (option_map (λ (one : WorkValue). renewed one r) k))
  noted_renewed w r None is = λ no. absurd (let wrong : false ≡ true = no in cc)
  noted_renewed w r (Some one) is = λ names. is (sym (renewed_names one r) ∙ names)

  noted_once : (r : List ℕ × WorkRevisionValue) (w : List ℕ) (k : Option WorkValue) → IsNoted naming r.0 r.1.names → IsNoted naming w (names_one k)
      → IsNoted naming w (names_one (with_revision r w k))
  noted_once r w k one is = by (bytes_eq r.0 w) refl
    where
      by : (b : Bool) → bytes_eq r.0 w ≡ b → IsNoted naming w (names_one (cond b (option_map (λ (k : WorkValue). renewed k r.1) k) k))
      by true same = noted_renewed w r.1 k (noted_same r.0 w r.1.names (bytes_same r.0 w same) one)
      by false other = is

  noted_all : (rs : Revised) (w : List ℕ) (k : Option WorkValue)
      → AllByRecursion (λ (one : List ℕ × WorkRevisionValue). IsNoted naming one.0 one.1.names) rs → IsNoted naming w (names_one k)
      → IsNoted naming w (names_one (with_revisions rs w k))
  noted_all [] w k all is = is
  noted_all (r ∷ rs) w k all is = noted_all rs w (with_revision r w k) all.1 (noted_once r w k all.0 is)

  noted_new : (new : Enacted) (w : List ℕ) (k : Option WorkValue) → IfSome new (λ (one : List ℕ × WorkValue). IsNoted naming one.0 one.1.names)
      → IsNoted naming w (names_one k) → IsNoted naming w (names_one (with_enacted new w k))
  noted_new None w k one is = is
  noted_new (Some new) w k one is = by (bytes_eq new.0 w) refl
    where
      by : (b : Bool) → bytes_eq new.0 w ≡ b → IsNoted naming w (names_one (cond b (Some new.1) k))
      by true same = noted_same new.0 w new.1.names (bytes_same new.0 w same) one
      by false other = is

  pub noted_then : (new : Enacted) (rs : Revised) (kept : Kept) → IfSome new (λ (one : List ℕ × WorkValue). IsNoted naming one.0 one.1.names)
      → AllByRecursion (λ (one : List ℕ × WorkRevisionValue). IsNoted naming one.0 one.1.names) rs → AreNoted naming kept
      → AreNoted naming (λ w. with_enacted new w (with_revisions rs w (kept w)))
  noted_then new rs kept one all is = λ w. noted_new new w (with_revisions rs w (kept w)) one (noted_all rs w (kept w) all (is w))

  -- what is kept by entries of which each is noted
  pub noted_kept : (es : List (List ℕ × WorkTables)) → AllByRecursion (λ (e : List ℕ × WorkTables). IsNoted naming e.0 (work_view e.1).names) es
      → AreNoted naming (λ w. option_map work_view (lookup (bytes_eq w) es))
  noted_kept [] all = λ w no. absurd (let wrong : false ≡ true = no in cc)
  noted_kept (e ∷ es) all = λ w. by w (bytes_eq w e.0) refl (noted_kept es all.1 w)
    where
      by : (w : List ℕ) (b : Bool) → bytes_eq w e.0 ≡ b → IsNoted naming w (names_one (option_map work_view (lookup (bytes_eq w) es)))
          → IsNoted naming w (names_one (option_map work_view (cond b (Some e.1) (lookup (bytes_eq w) es))))
      by w true same rest = noted_same e.0 w (work_view e.1).names (sym (bytes_same w e.0 same)) all.0
      by w false other rest = rest

-- what is noted in one set is noted in one that has more
module _ {S : Type 0} (old new : IndexSet (List ℕ) S) (more : AreMore old new) where
  pub still_noted : (w : List ℕ) (names : Bool) → IsNoted old w names → IsNoted new w names
  still_noted w names is = λ yes. more w (is yes)

  pub still_if : (one : Enacted) → IfSome one (λ (e : List ℕ × WorkValue). IsNoted old e.0 e.1.names)
      → IfSome one (λ (e : List ℕ × WorkValue). IsNoted new e.0 e.1.names)
  still_if None is = tt
  still_if (Some e) is = still_noted e.0 e.1.names is

pub kept_noted : {S : Type 0} (naming : IndexSet (List ℕ) S) (old new : Kept) → ((w : List ℕ) → new w ≡ old w) → AreNoted naming old → AreNoted naming new
kept_noted naming old new same is = λ w. subst (λ (k : Option WorkValue). IsNoted naming w (names_one k)) (sym (same w)) (is w)

-- each work that names a provision once changes are made is noted, where those of the changes are
pub on_changed : {A E S : Type 0} (r : Result A E) (old mid new : IndexSet (List ℕ) S) (one : Enacted) (rs : Revised) → AreMore old mid → AreMore mid new
    → IfSome one (λ (e : List ℕ × WorkValue). IsNoted mid e.0 e.1.names)
    → OnOk r (AllByRecursion (λ (e : List ℕ × WorkRevisionValue). IsNoted new e.0 e.1.names) rs)
    → OnOk r ((kept : Kept) → AreNoted old kept → AreNoted new (λ w. with_enacted one w (with_revisions rs w (kept w))))
on_changed (Ok a) old mid new one rs first then enacted revised =
    λ kept is. noted_then new one rs kept (still_if mid new then one enacted) revised (λ w names. then w (first w (is w names)))
on_changed (Err e) old mid new one rs first then enacted revised = tt
