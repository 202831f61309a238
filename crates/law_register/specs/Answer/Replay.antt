-- Replay: an act as enacted, with the modifications that bear applied one after another.
use Rattle.std.specs.Prelude.{◌≡◌, ℕ, List, [], ◌∷◌, ◌++◌, Option, Some, None, option_and_then, Result, Ok, Err}
use Rattle.std.specs.List.{find}
use Rattle.desk_base.specs.declared.id.Id.{Id}
use Rattle.act_tree.specs.declared.cause.Cause.{Cause}
use Rattle.act_tree.specs.Branches.{Branches, branches_of}
use Rattle.act_tree.specs.Provisions.{Provision}
use Rattle.act_tree.specs.Trees.{TreeValue}
use Rattle.act_tree.specs.Eids.{all_enacted}
use Rattle.textual_mods.specs.Edits.{applied, tree_after}
use Rattle.textual_mods.specs.declared.edit.TextualMod.{TextualMod}
use Rattle.law_register.specs.declared.law.act.Act.{Act}
use Rattle.law_register.specs.declared.law.modification.Modification.{Modification}
use Rattle.law_register.specs.declared.law.modification.Modification.TheVariants.{Textual, Force, Efficacy}
use Rattle.law_register.specs.declared.register.known.Known.{Known}
use Rattle.law_register.specs.declared.register.known.KnownMod.{KnownMod}
use Rattle.law_register.specs.declared.answer.question.Reading.{Reading}
use Rattle.law_register.specs.Answer.Counted.{is_same_id}
use Rattle.law_register.specs.Answer.Order.{order}

-- a version: the text, the ids of the modifications that were applied, and the ids of the others, each with its cause
pub record VersionValue : Type 0 where
  pub tree : TreeValue
  pub applied : List Id
  pub unapplied : List (Id × Cause)

-- the act as enacted, before any modification
abbrev pub as_enacted : Act → VersionValue
as_enacted act = record {
  tree = record {
    numbering = act.numbering;
    limit = act.limit;
    body = all_enacted act.numbering None (branches_of act.body);
    changes = 0;
  };
  applied = [];
  unapplied = [];
}

-- an edit that gives a text is applied, and one that does not is listed with its cause
abbrev pub taken : VersionValue → Id → Result (Branches Provision) Cause → VersionValue
taken version id (Ok body) = record {
  tree = tree_after version.tree (Ok body);
  applied = version.applied ++ id ∷ [];
  unapplied = version.unapplied;
}
taken version id (Err cause) = record {
  tree = version.tree;
  applied = version.applied;
  unapplied = version.unapplied ++ (id, cause) ∷ [];
}

-- the edit of a textual modification
abbrev pub edit_in : Modification → Option TextualMod
edit_in (Textual source own edit) = Some edit
edit_in (Force source destination on effect) = None
edit_in (Efficacy source destination on effect) = None

-- the edit of the known modification of this id, if it is a textual one
abbrev pub edit_of : List KnownMod → Id → Option TextualMod
edit_of mods id = option_and_then (λ m. edit_in m.body) (find (λ m. is_same_id m.id id) mods)

-- a version with the edit of a modification tried on its text, if there is one
abbrev pub edited_by : VersionValue → Id → Option TextualMod → VersionValue
edited_by version id None = version
edited_by version id (Some edit) = taken version id (applied version.tree id edit)

-- the modifications of these ids are applied in order, each to the text so far
abbrev pub replayed : List KnownMod → VersionValue → List Id → VersionValue
replayed mods version [] = version
replayed mods version (id ∷ ids) = replayed mods (edited_by version id (edit_of mods id)) ids

-- the version of a work on a day, in a reading: always from the act as enacted
abbrev pub replay_on : Known → Reading → ℕ → VersionValue
replay_on known reading day = replayed known.mods (as_enacted known.act) (order known reading day)

-- a version is the replay of a day, by an act and by what bears in it, whichever modifications these are
pub record IsVersionOf (act : Act) (reading : Reading) (day : ℕ) (version : VersionValue) : Type 0 where
  pub known : Known
  pub of_act : known.act ≡ act
  pub is : version ≡ replay_on known reading day
