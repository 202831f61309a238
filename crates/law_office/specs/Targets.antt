-- What a reference names, by what is kept of works once an entry stands behind the others.
use Rattle.std.specs.Prelude.{◌≡◌, ℕ, not, true, List, [], ◌∷◌, ◌++◌, Option, Some, None, option_map, if◌then◌else◌}
use Rattle.std.specs.Str.{bytes_eq}
use Rattle.act_tree.specs.Faults.{eids_of}
use Rattle.act_tree.specs.Trees.{TreeValue}
use Rattle.act_tree.specs.Wids.{is_among}
use Rattle.frbr_names.specs.Expressions.{Expression}
use Rattle.law_register.specs.declared.register.entry.Entry.{Entry}
use Rattle.law_register.specs.Answer.Answers.{is_too_early}
use Rattle.law_register.specs.Answer.Replay.{VersionValue, as_enacted}
use Rattle.law_register.specs.Register.Verdicts.{is_legal}
use Rattle.version_cache.specs.Seen.{work_revision_view, work_view}
use Rattle.version_cache.specs.Tables.{version_on}
use Rattle.version_cache.specs.Works.{WorkValue, renewed_if}
use Rattle.law_office.specs.declared.kept_then.KeptThen.{KeptThen}
use Rattle.law_office.specs.Movements.{Enacted, FitOnce, Revised, then_of}
use Rattle.law_office.specs.Tables.{AreTablesOf, Kept}

-- entries with one more behind, if there is one
abbrev pub with_entry : List Entry → Option Entry → List Entry
with_entry entries None = entries
with_entry entries (Some entry) = entries ++ entry ∷ []

-- what is kept of a work once its revision is committed, if there is one
abbrev pub then_view : KeptThen → WorkValue
then_view k = renewed_if (work_view k.kept.now) (option_map (λ r. work_revision_view r.now) k.revision)

-- what is kept is for these entries, once one work is enacted, if one is, and these are revised
pub record AreAfter (entries : List Entry) (enacted : Enacted) (revised : Revised) (kept : Kept) : Type 0 where
  pub legal : is_legal entries ≡ true
  pub right : AreTablesOf entries (then_of enacted revised kept)
  pub fits : FitOnce revised kept

-- the version that a reference names: that which is kept of a day, or the act as enacted
abbrev pub version_named : WorkValue → Option ℕ → VersionValue
version_named work None = as_enacted work.known.act
version_named work (Some day) = version_on work.force day

-- the number of the rule that no provision of a text has the eId that is named, if one is and none has it
abbrev pub portion_rule : TreeValue → Option (List ℕ) → Option ℕ
portion_rule tree None = None
portion_rule tree (Some eid) = if is_among eid (eids_of tree) then None else Some 5

-- the number of the first rule that what a reference names breaks, by what is kept of its work
abbrev pub rule_broken : WorkValue → Expression → Option ℕ
rule_broken work target =
    if is_too_early target.version work.known.act then Some 3
    else (if not (bytes_eq target.language work.known.act.language) then Some 4
    else portion_rule (version_named work target.version).tree target.portion)
