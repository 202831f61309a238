-- What is kept of works once an entry stands there, or as things stand now.
use Rattle.std.proofs.Common.{◌≡◌, ◌∙◌, sym, ap, subst, refl, Bool, true, ◌&&◌, List, [], ◌∷◌, ◌++◌, Option, Some, None, option_map}
use Rattle.law_register.specs.declared.register.entry.Entry.{Entry}
use Rattle.law_register.specs.Provisions.Carrying.{held_now}
use Rattle.law_register.specs.Register.Verdicts.{is_accepted, is_legal, verdict}
use Rattle.law_register.proofs.Snoc.{legal_more}
use Rattle.version_cache.specs.Tables.{RevisionValue}
use Rattle.version_cache.specs.Works.{WorkRevisionValue, WorkValue, renewed_by, renewed_if}
use Rattle.law_office.specs.Tables.{AreTablesOf, Kept, Matches}
use Rattle.law_office.specs.Targets.{AreAfter}

pub legal_then : (es : List Entry) (e : Entry) → is_legal es ≡ true → is_accepted e.law (verdict es e.drafter e.request e.command) ≡ true
    → is_legal (es ++ e ∷ []) ≡ true
legal_then es e legal accepted =
    legal_more es e ∙ ap (λ (b : Bool). b && is_accepted e.law (verdict es e.drafter e.request e.command)) legal ∙ accepted

-- where nothing is enacted or revised all stays
pub still : (kept : Option WorkValue) → option_map (λ one. renewed_if one None) kept ≡ kept
still None = refl
still (Some one) = refl

pub after_none : (es : List Entry) (kept : Kept) → is_legal es ≡ true → AreTablesOf es kept → AreAfter es None [] kept
after_none es kept legal right = record {
  legal = legal;
  right = λ w. subst (Matches (held_now es w)) (sym (still (kept w))) (right w);
  fits = tt;
}

-- the act as enacted stays, whatever is revised
pub enacted_kept : (kept : WorkValue) (revision : Option WorkRevisionValue) → kept.force.enacted ≡ (renewed_if kept revision).force.enacted
enacted_kept kept None = refl
enacted_kept kept (Some r) = by r.tables
  where
    by : (tables : Option (RevisionValue × RevisionValue)) → kept.force.enacted ≡ (renewed_by kept r.known r.names r.days tables).force.enacted
    by None = refl
    by (Some both) = refl
