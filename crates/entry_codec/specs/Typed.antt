-- What the types of the parts of an entry promise: texts are UTF-8, names and nums keep their rules, days are days of the
-- calendar, and numbers have as many bytes as their types.
use Rattle.std.specs.Prelude.{ℕ, ◌≡◌, ◌<◌, ◌≤◌, nat_lt, true, List, length, All, Option, IfSome}
use Rattle.std.specs.List.{list_all}
use Rattle.std.specs.Str.{is_utf8}
use Rattle.desk_base.specs.Days.{IsDay}
use Rattle.desk_base.specs.declared.id.Id.{Id}
use Rattle.desk_base.specs.declared.period.Period.{Period}
use Rattle.eid_paths.specs.Nums.{is_num}
use Rattle.eid_paths.specs.declared.numbering.Numbering.{Numbering}
use Rattle.act_tree.specs.Branches.{Branch, Branches, branch, no_branches, more_branches, branches_of, heights}
use Rattle.act_tree.specs.Provisions.{Own}
use Rattle.bearing_mods.specs.declared.efficacy.EfficacyEffect.{EfficacyEffect}
use Rattle.bearing_mods.specs.declared.efficacy.EfficacyEffect.TheVariants as efficacy
use Rattle.bearing_mods.specs.declared.force.ForceEffect.{ForceEffect}
use Rattle.bearing_mods.specs.declared.force.ForceEffect.TheVariants as force
use Rattle.textual_mods.specs.declared.edit.SplitAt.{SplitAt}
use Rattle.textual_mods.specs.declared.edit.SplitAt.TheVariants as cuts
use Rattle.textual_mods.specs.declared.edit.Spot.{Spot}
use Rattle.textual_mods.specs.declared.edit.TextPos.{TextPos}
use Rattle.textual_mods.specs.declared.edit.TextPos.TheVariants as stands
use Rattle.textual_mods.specs.declared.edit.TextualMod.{TextualMod}
use Rattle.textual_mods.specs.declared.edit.TextualMod.TheVariants.{Repeal, SubstituteNodes, SubstituteText, InsertNodes, InsertText, Renumber, Split, Join}
use Rattle.law_register.specs.declared.law.act.Act.{Act}
use Rattle.law_register.specs.declared.law.command.Command.{Command}
use Rattle.law_register.specs.declared.law.command.Command.TheVariants.{Enact, Record, Correct, Withdraw, Restore, DraftAdd, DraftDrop, File}
use Rattle.law_register.specs.declared.law.modification.Destination.{Destination}
use Rattle.law_register.specs.declared.law.modification.Destination.TheVariants as to
use Rattle.law_register.specs.declared.law.modification.ModSource.{ModSource}
use Rattle.law_register.specs.declared.law.modification.Modification.{Modification}
use Rattle.law_register.specs.declared.law.modification.Modification.TheVariants.{Textual, Force, Efficacy}
use Rattle.law_register.specs.declared.register.entry.Entry.{Entry}
use Rattle.law_register.specs.Register.Drafters.{is_drafter}
use Rattle.entry_codec.specs.Values.{is_work}

-- a number has two bytes at most, four, or eight
abbrev pub IsNumber16 : ℕ → Type 0
IsNumber16 n = n ≤ 65535

abbrev pub IsNumber32 : ℕ → Type 0
IsNumber32 n = n ≤ 4294967295

abbrev pub IsNumber64 : ℕ → Type 0
IsNumber64 n = n ≤ 18446744073709551615

-- bytes of UTF-8
pub record IsText (t : List ℕ) : Type 0 where
  pub utf8 : is_utf8 t ≡ true
  pub bytes : list_all (λ b. nat_lt b 256) t ≡ true

-- the name of a drafter, a num, and the IRI of a work
abbrev pub IsDrafterName : List ℕ → Type 0
IsDrafterName t = is_drafter t ≡ true

abbrev pub IsNumText : List ℕ → Type 0
IsNumText t = is_num t ≡ true

pub record IsWorkText (t : List ℕ) : Type 0 where
  pub text : IsText t
  pub rule : is_work t ≡ true
  pub short : length t ≤ 162

-- a language of an act, which is three bytes
pub record IsLanguageBytes (t : List ℕ) : Type 0 where
  pub three : length t ≡ 3
  pub bytes : list_all (λ b. nat_lt b 256) t ≡ true

-- days, ids and numberings
abbrev pub IsPeriod : Period → Type 0
IsPeriod p = IsDay p.start × IfSome p.end IsDay

abbrev pub IsId : Id → Type 0
IsId i = IsNumber32 i.law × IsNumber16 i.item

abbrev pub IsNumbering : Numbering → Type 0
IsNumbering n = length n.throughout ≡ 14

-- where a modification comes from, and what it is directed at
abbrev pub IsSource : ModSource → Type 0
IsSource s = IsWorkText s.href × IsNumber16 s.place × IfSome s.provision IsText

abbrev pub IsDestination : Destination → Type 0
IsDestination (to.Modification i) = IsId i
IsDestination (to.Node wid) = IsText wid

abbrev pub IsSpot : Spot → Type 0
IsSpot s = IsText s.old × IsNumber16 s.occurrence

-- what a node says of itself, and a node with all beneath it, and likewise nodes side by side
abbrev pub IsOwn : Own → Type 0
IsOwn o = IsNumText o.num × IsText o.heading × IsText o.content × All IsText o.refs

abbrev mutual
  pub IsNode : Branch Own → Type 0
  IsNode (branch own below) = IsOwn own × AreNodes below

  pub AreNodes : Branches Own → Type 0
  AreNodes no_branches = Unit {0}
  AreNodes (more_branches b bs) = IsNode b × AreNodes bs

-- the same of a node with nodes beneath it, and of nodes side by side, that nest so deep at most
abbrev pub IsNodeTo : ℕ → Branch Own → Type 0
IsNodeTo depth (branch own below) = heights below ≤ depth → IsNode (branch own below)

abbrev pub AreNodesTo : ℕ → List (Branch Own) → Type 0
AreNodesTo depth nodes = heights (branches_of nodes) ≤ depth → AreNodes (branches_of nodes)

-- the nodes that an act or an edit brings
abbrev pub IsPayload : List (Branch Own) → Type 0
IsPayload nodes = AreNodesTo 12 nodes

-- where a text is inserted, where a provision is split, and a provision with the num that it gets
abbrev pub IsTextPos : TextPos → Type 0
IsTextPos (stands.Before s) = IsSpot s
IsTextPos (stands.After s) = IsSpot s
IsTextPos stands.Start = Unit {0}
IsTextPos stands.End = Unit {0}

abbrev pub IsSplitAt : SplitAt → Type 0
IsSplitAt (cuts.Text s) = IsSpot s
IsSplitAt (cuts.Child wid) = IsText wid

abbrev pub IsNumPair : List ℕ × List ℕ → Type 0
IsNumPair p = IsText p.0 × IsNumText p.1

-- an edit
abbrev pub IsEdit : TextualMod → Type 0
IsEdit (Repeal wid) = IsText wid
IsEdit (SubstituteNodes wid new) = IsText wid × IsPayload new
IsEdit (SubstituteText wid spot new) = IsText wid × IsSpot spot × IsText new
IsEdit (InsertNodes wid pos new) = IsText wid × IsPayload new
IsEdit (InsertText wid at new) = IsText wid × IsTextPos at × IsText new
IsEdit (Renumber pairs) = All IsNumPair pairs
IsEdit (Split wid at num heading) = IsText wid × IsSplitAt at × IsNumText num × IsText heading
IsEdit (Join wid second separator) = IsText wid × IsText second × IsText separator

-- an effect on force, and one on efficacy, with the day from which it is counted
abbrev pub IsForceEffect : ℕ → ForceEffect → Type 0
IsForceEffect on (force.Entry date) = IsDay on × IsDay date
IsForceEffect on (force.Postponed date) = IsDay on × IsDay date
IsForceEffect on (force.Ended date) = IsDay on × IsDay date
IsForceEffect on (force.Prorogued date) = IsDay on × IsDay date
IsForceEffect on (force.ReEnacted date) = IsDay on × IsDay date

abbrev pub IsEfficacyEffect : ℕ → EfficacyEffect → Type 0
IsEfficacyEffect on (efficacy.Entry date) = IsDay on × IsDay date
IsEfficacyEffect on (efficacy.Ended date) = IsDay on × IsDay date
IsEfficacyEffect on (efficacy.Retroactive date) = IsDay date
IsEfficacyEffect on (efficacy.Postponed date) = IsDay on × IsDay date
IsEfficacyEffect on (efficacy.Prorogued date) = IsDay on × IsDay date
IsEfficacyEffect on efficacy.Extra = IsDay on
IsEfficacyEffect on (efficacy.Inapplied days) = IsDay on × IsPeriod days

-- a modification
abbrev pub IsModification : Modification → Type 0
IsModification (Textual from days edit) = IsSource from × IsPeriod days × IsEdit edit
IsModification (Force from target on effect) = IsSource from × IsDestination target × IsForceEffect on effect
IsModification (Efficacy from target on effect) = IsSource from × IsDestination target × IsEfficacyEffect on effect

-- an act
abbrev pub IsAct : Act → Type 0
IsAct a = IsWorkText a.work × IsLanguageBytes a.language × IsDay a.day × IsNumbering a.numbering × IsPeriod a.force
    × IsPayload a.body

-- a command
abbrev pub IsCommand : Command → Type 0
IsCommand (Enact act) = IsAct act
IsCommand (Record work mods) = IsWorkText work × All IsModification mods
IsCommand (Correct id body) = IsId id × IsModification body
IsCommand (Withdraw id) = IsId id
IsCommand (Restore id) = IsId id
IsCommand (DraftAdd work body) = IsWorkText work × IsModification body
IsCommand (DraftDrop item) = IsNumber32 item
IsCommand (File work seen) = IsWorkText work × IsNumber32 seen

-- an entry
abbrev pub IsTyped : Entry → Type 0
IsTyped e = IsDrafterName e.drafter × IsNumber64 e.request × IsDay e.day × IfSome e.law IsNumber32
    × IsCommand e.command
