-- What is kept of a work is for what is known of it: once it is made, and once it is revised.
use Rattle.std.proofs.Common.{◌≡◌, ◌∙◌, sym, ap, refl, subst, ℕ, ◌+◌, ◌≤◌, arith, Bool, List, Option, Some, None}
use Rattle.law_register.specs.declared.answer.question.Reading.{Reading}
use Rattle.law_register.specs.declared.answer.question.Reading.TheVariants.{Force, Efficacy}
use Rattle.law_register.specs.declared.register.known.Known.{Known}
use Rattle.law_register.specs.Answer.Breakpoints.{breakpoints}
use Rattle.law_register.specs.Answer.Costs.{revision_cost}
use Rattle.law_register.specs.Answer.Replay.{replay_on}
use Rattle.law_register.specs.Answer.Standing.{alone}
use Rattle.law_register.specs.Provisions.Looking.{names_any}
use Rattle.version_cache.specs.Steady.{CarrySteadily}
use Rattle.version_cache.specs.Tables.{IsRight, RevisionValue, TableValue, table_of, version_on}
use Rattle.law_register.specs.Answer.Renewing.{both_costs}
use Rattle.version_cache.specs.Works.{AreRightUntil, IsAlike, IsFor, WorkRevisionValue, WorkValue, renewed, revisions_of, table_in, work_of, work_revision_of}
use Rattle.version_cache.proofs.Revised.{revised_right}
use Rattle.version_cache.proofs.Right.{made_right}

-- what holds in force and in efficacy holds in each reading
in_both : (P : Reading → Type 0) → P Force → P Efficacy → (reading : Reading) → P reading
in_both P force efficacy Force = force
in_both P force efficacy Efficacy = efficacy

itself : (known : Known) → IsAlike known known
itself known = record { act = refl; enacted = refl; mods = refl; sources = refl }

-- what is made of what is known is for it
made_for : (known : Known) → CarrySteadily known → IsFor known (work_of known)
made_for known steady = record {
  alike = itself (alone known);
  names = refl;
  days = refl;
  tables = record {
    readings = in_both (λ r. (table_in r (work_of known)).reading ≡ r) refl refl;
    right = in_both (λ r. IsRight known (table_in r (work_of known))) (made_right known Force steady) (made_right known Efficacy steady);
  };
}

pub made_is : (known by_itself : Known) (names : Bool) (days : List ℕ) (force efficacy : TableValue) → by_itself ≡ alone known → names ≡ names_any known
    → days ≡ breakpoints known → force ≡ table_of known Force → efficacy ≡ table_of known Efficacy
    → (let made : WorkValue = record { known = by_itself; names = names; days = days; force = force; efficacy = efficacy } in made) ≡ work_of known
made_is known by_itself names days force efficacy alone_is names_are days_are is also =
    ap (λ (k : Known). let made : WorkValue = record { known = k; names = names; days = days; force = force; efficacy = efficacy } in made) alone_is
    ∙ ap (λ (b : Bool). let made : WorkValue = record { known = alone known; names = b; days = days; force = force; efficacy = efficacy } in made) names_are
    ∙ ap (λ (ds : List ℕ). let made : WorkValue = record { known = alone known; names = names_any known; days = ds; force = force; efficacy = efficacy } in made) days_are
    ∙ ap
    (λ (t : TableValue). let made : WorkValue = record { known = alone known; names = names_any known; days = breakpoints known; force = t; efficacy = efficacy } in made) is
    ∙ ap
    (λ (t : TableValue). let made : WorkValue = record {
      known = alone known;
      names = names_any known;
      days = breakpoints known;
      force = table_of known Force;
      efficacy = t;
    } in made) also

pub made_is_for : (known : Known) → CarrySteadily known → (work : WorkValue) → work ≡ work_of known → IsFor known work
made_is_for known steady work is = subst (IsFor known) (sym is) (made_for known steady)

-- tables that are right before the touched day are for what is known, once they are revised
pub renewed_for : (known : Known) → CarrySteadily known → (touched : Option ℕ) (work : WorkValue) → AreRightUntil known touched work
    → IsFor known (renewed work (work_revision_of work known touched))
renewed_for known steady None work right = record {
  alike = itself (alone known);
  names = refl;
  days = refl;
  tables = record {
    readings = in_both (λ r. (table_in r after).reading ≡ r) (right.readings Force) (right.readings Efficacy);
    right = in_both (λ r. IsRight known (table_in r after)) (right.right Force) (right.right Efficacy);
  };
}
  where
    after : WorkValue
    after = renewed work (work_revision_of work known None)
renewed_for known steady (Some touched) work right = record {
  alike = itself (alone known);
  names = refl;
  days = refl;
  tables = record {
    readings = in_both (λ r. (table_in r after).reading ≡ r) (right.readings Force) (right.readings Efficacy);
    right =
        in_both (λ r. IsRight known (table_in r after)) (revised_right known work.force steady touched (right.right Force))
        (revised_right known work.efficacy steady touched (right.right Efficacy));
  };
}
  where
    after : WorkValue
    after = renewed work (work_revision_of work known (Some touched))

pub renewed_is_for : (known : Known) → CarrySteadily known → (touched : Option ℕ) (work : WorkValue) (revision : WorkRevisionValue) → AreRightUntil known touched work
    → revision ≡ work_revision_of work known touched → IsFor known (renewed work revision)
renewed_is_for known steady touched work revision right is = subst (λ r. IsFor known (renewed work r)) (sym is) (renewed_for known steady touched work right)

-- what is known now by itself, its names, its days and the revisions of its tables are the revision of a work
pub revision_made : (known by_itself : Known) (names : Bool) (days : List ℕ) (touched : Option ℕ) (work : WorkValue) (tables : Option (RevisionValue × RevisionValue))
    → by_itself ≡ alone known → names ≡ names_any known → days ≡ breakpoints known → tables ≡ revisions_of work known touched
    → (let made : WorkRevisionValue = record { known = by_itself; names = names; days = days; tables = tables } in made) ≡ work_revision_of work known touched
revision_made known by_itself names days touched work tables alone_is names_are days_are are =
    ap (λ (k : Known). let made : WorkRevisionValue = record { known = k; names = names; days = days; tables = tables } in made) alone_is
    ∙ ap (λ (b : Bool). let made : WorkRevisionValue = record { known = alone known; names = b; days = days; tables = tables } in made) names_are
    ∙ ap (λ (ds : List ℕ). let made : WorkRevisionValue = record { known = alone known; names = names_any known; days = ds; tables = tables } in made) days_are
    ∙ ap
    (λ (ts : Option (RevisionValue × RevisionValue)).
    let made : WorkRevisionValue = record { known = alone known; names = names_any known; days = breakpoints known; tables = ts } in made) are

-- the tables are right before the day that is touched
pub right_before : (known : Known) (touched : Option ℕ) (day : ℕ) (work : WorkValue) → touched ≡ Some day → AreRightUntil known touched work → AreRightUntil known (Some day) work
right_before known touched day work is right = subst (λ until. AreRightUntil known until work) is right

-- the steps of both revisions
pub both_steps : (known : Known) (touched : Option ℕ) (day old mid now : ℕ) → touched ≡ Some day
    → mid ≤ old + revision_cost known Force day → now ≤ mid + revision_cost known Efficacy day → now ≤ old + both_costs known touched
both_steps known touched day old mid now is first then =
    subst (λ (cost : ℕ). now ≤ old + cost) (sym (ap (both_costs known) is))
    (sum old mid now (revision_cost known Force day) (revision_cost known Efficacy day) first then)
  where
    sum : (old mid now a b : ℕ) → mid ≤ old + a → now ≤ mid + b → now ≤ old + (a + b)
    sum old mid now a b h k = omega arith

-- what is for a work gives on each day what a replay from scratch gives
pub gives_replay : (known : Known) (work : WorkValue) (reading : Reading) (day : ℕ) → IsFor known work → version_on (table_in reading work) day ≡ replay_on known reading day
gives_replay known work reading day is = (is.tables.right reading).versions day ∙ ap (λ r. replay_on known r day) (is.tables.readings reading)
