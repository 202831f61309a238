-- The fields of edits, of effects and, in any format, of sources and of modifications.
use Rattle.std.specs.Prelude.{ℕ, ◌==◌, List, [], ◌∷◌, Option, Some}
use Rattle.desk_base.specs.declared.period.Period.{Period}
use Rattle.act_tree.specs.Branches.{Branch}
use Rattle.act_tree.specs.Provisions.{Own}
use Rattle.bearing_mods.specs.declared.efficacy.EfficacyEffect.{EfficacyEffect}
use Rattle.bearing_mods.specs.declared.efficacy.EfficacyEffect.TheVariants as efficacy
use Rattle.bearing_mods.specs.declared.force.ForceEffect.{ForceEffect}
use Rattle.bearing_mods.specs.declared.force.ForceEffect.TheVariants as force
use Rattle.textual_mods.specs.declared.edit.Pos.{Pos}
use Rattle.textual_mods.specs.declared.edit.Pos.TheVariants as places
use Rattle.textual_mods.specs.declared.edit.SplitAt.{SplitAt}
use Rattle.textual_mods.specs.declared.edit.SplitAt.TheVariants as cuts
use Rattle.textual_mods.specs.declared.edit.Spot.{Spot}
use Rattle.textual_mods.specs.declared.edit.TextPos.{TextPos}
use Rattle.textual_mods.specs.declared.edit.TextPos.TheVariants as stands
use Rattle.textual_mods.specs.declared.edit.TextualMod.{TextualMod}
use Rattle.textual_mods.specs.declared.edit.TextualMod.TheVariants.{Repeal, SubstituteNodes, SubstituteText, InsertNodes, InsertText, Renumber, Split, Join}
use Rattle.law_register.specs.declared.law.modification.ModSource.{ModSource}
use Rattle.law_register.specs.declared.law.modification.Modification.{Modification}
use Rattle.law_register.specs.declared.law.modification.Modification.TheVariants.{Textual, Force, Efficacy}
use Rattle.entry_codec.specs.Fields.{Field, Kind, HeldBy, nothing, pair, made, made_where, kind, first, second, third, fourth, fifth, sixth, seventh, eighth, one_of}
use Rattle.entry_codec.specs.Values.{number16, text, num, work, day, period, destination, spot, list_of}
use Rattle.entry_codec.specs.Nodes.{payload}
use Rattle.entry_codec.specs.Formats.{Format}

-- where nodes are inserted
abbrev pub pos_kinds : List (Kind Pos)
pos_kinds =
    kind 0 (λ _. places.Before) nothing ∷ kind 1 (λ _. places.After) nothing ∷ kind 2 (λ _. places.Start) nothing
    ∷ kind 3 (λ _. places.End) nothing ∷ []

abbrev pub pos_parts : Pos → HeldBy pos_kinds
pos_parts places.Before = first tt
pos_parts places.After = second tt
pos_parts places.Start = third tt
pos_parts places.End = fourth tt

unfoldable pub pos : Field Pos
pos = one_of pos_kinds pos_parts

-- where a text is inserted; beside an occurrence, that is named
abbrev pub text_pos_kinds : List (Kind TextPos)
text_pos_kinds =
    kind 0 (λ s. stands.Before s) spot ∷ kind 1 (λ s. stands.After s) spot ∷ kind 2 (λ _. stands.Start) nothing
    ∷ kind 3 (λ _. stands.End) nothing ∷ []

abbrev pub text_pos_parts : TextPos → HeldBy text_pos_kinds
text_pos_parts (stands.Before s) = first s
text_pos_parts (stands.After s) = second s
text_pos_parts stands.Start = third tt
text_pos_parts stands.End = fourth tt

unfoldable pub text_pos : Field TextPos
text_pos = one_of text_pos_kinds text_pos_parts

-- where a provision is split: at an occurrence of a text, or at a child
abbrev pub split_at_kinds : List (Kind SplitAt)
split_at_kinds = kind 0 (λ s. cuts.Text s) spot ∷ kind 1 (λ w. cuts.Child w) text ∷ []

abbrev pub split_at_parts : SplitAt → HeldBy split_at_kinds
split_at_parts (cuts.Text s) = first s
split_at_parts (cuts.Child wid) = second wid

unfoldable pub split_at : Field SplitAt
split_at = one_of split_at_kinds split_at_parts

-- a provision by its wId, with the num that it gets
unfoldable pub num_pair : Field (List ℕ × List ℕ)
num_pair = pair text num

unfoldable pub num_pairs : Field (List (List ℕ × List ℕ))
num_pairs = list_of num_pair

-- the parts of edits that have several
abbrev pub substituted : Field (List ℕ × (Spot × List ℕ))
substituted = pair text (pair spot text)

abbrev pub inserted : Field (List ℕ × (Pos × List (Branch Own)))
inserted = pair text (pair pos payload)

abbrev pub inserted_text : Field (List ℕ × (TextPos × List ℕ))
inserted_text = pair text (pair text_pos text)

abbrev pub cut : Field (List ℕ × (SplitAt × (List ℕ × List ℕ)))
cut = pair text (pair split_at (pair num text))

abbrev pub joined : Field (List ℕ × (List ℕ × List ℕ))
joined = pair text (pair text text)

-- the kinds of an edit
abbrev pub repeal : Kind TextualMod
repeal = kind 1 (λ w. Repeal w) text

abbrev pub substitute_nodes : Kind TextualMod
substitute_nodes = kind 2 (λ p. SubstituteNodes p.0 p.1) (pair text payload)

abbrev pub substitute_text : Kind TextualMod
substitute_text = kind 3 (λ p. SubstituteText p.0 p.1.0 p.1.1) substituted

abbrev pub insert_nodes : Kind TextualMod
insert_nodes = kind 4 (λ p. InsertNodes p.0 p.1.0 p.1.1) inserted

abbrev pub insert_text : Kind TextualMod
insert_text = kind 5 (λ p. InsertText p.0 p.1.0 p.1.1) inserted_text

abbrev pub renumber : Kind TextualMod
renumber = kind 6 (λ ps. Renumber ps) num_pairs

abbrev pub split : Kind TextualMod
split = kind 7 (λ p. Split p.0 p.1.0 p.1.1.0 p.1.1.1) cut

abbrev pub join : Kind TextualMod
join = kind 8 (λ p. Join p.0 p.1.0 p.1.1) joined

abbrev pub edit_kinds : List (Kind TextualMod)
edit_kinds =
    repeal ∷ substitute_nodes ∷ substitute_text ∷ insert_nodes ∷ insert_text ∷ renumber ∷ split ∷ join ∷ []

-- of what an edit is made
abbrev pub edit_parts : TextualMod → HeldBy edit_kinds
edit_parts (Repeal wid) = first wid
edit_parts (SubstituteNodes wid new) = second (wid, new)
edit_parts (SubstituteText wid at new) = third (wid, (at, new))
edit_parts (InsertNodes wid at new) = fourth (wid, (at, new))
edit_parts (InsertText wid at new) = fifth (wid, (at, new))
edit_parts (Renumber pairs) = sixth pairs
edit_parts (Split wid at number heading) = seventh (wid, (at, (number, heading)))
edit_parts (Join wid second_wid separator) = eighth (wid, (second_wid, separator))

-- an edit
unfoldable pub edit : Field TextualMod
edit = one_of edit_kinds edit_parts

-- the day from which an effect is counted, and its date; and where both are one, which stands once
abbrev pub dates : Field (ℕ × ℕ)
dates = pair day day

abbrev pub one_day : Field ℕ
one_day = day

abbrev pub same_dates : Field (ℕ × ℕ)
same_dates = made_where (λ p. p.0 == p.1) (λ d. (d, d)) (λ p. Some p.1) one_day

-- an effect on force, with the day from which it is counted
abbrev pub force_kinds : List (Kind (ℕ × ForceEffect))
force_kinds =
    kind 1 (λ p. (p.0, force.Entry p.1)) dates
    ∷ kind 2 (λ p. (p.0, force.Postponed p.1)) dates
    ∷ kind 3 (λ p. (p.0, force.Ended p.1)) dates
    ∷ kind 4 (λ p. (p.0, force.Prorogued p.1)) dates
    ∷ kind 5 (λ p. (p.0, force.ReEnacted p.1)) dates
    ∷ []

abbrev pub force_parts : ℕ → ForceEffect → HeldBy force_kinds
force_parts on (force.Entry date) = first (on, date)
force_parts on (force.Postponed date) = second (on, date)
force_parts on (force.Ended date) = third (on, date)
force_parts on (force.Prorogued date) = fourth (on, date)
force_parts on (force.ReEnacted date) = fifth (on, date)

unfoldable pub force_effect : Field (ℕ × ForceEffect)
force_effect = one_of force_kinds (λ p. force_parts p.0 p.1)

-- an effect on efficacy, with the day from which it is counted; a retroactivity is counted from its date
abbrev pub inapplied : Field (ℕ × Period)
inapplied = pair day period

abbrev pub efficacy_kinds : List (Kind (ℕ × EfficacyEffect))
efficacy_kinds =
    kind 1 (λ p. (p.0, efficacy.Entry p.1)) dates
    ∷ kind 2 (λ p. (p.0, efficacy.Ended p.1)) dates
    ∷ kind 3 (λ p. (p.0, efficacy.Retroactive p.1)) same_dates
    ∷ kind 4 (λ p. (p.0, efficacy.Postponed p.1)) dates
    ∷ kind 5 (λ p. (p.0, efficacy.Prorogued p.1)) dates
    ∷ kind 6 (λ on. (on, efficacy.Extra)) one_day
    ∷ kind 7 (λ p. (p.0, efficacy.Inapplied p.1)) inapplied
    ∷ []

abbrev pub efficacy_parts : ℕ → EfficacyEffect → HeldBy efficacy_kinds
efficacy_parts on (efficacy.Entry date) = first (on, date)
efficacy_parts on (efficacy.Ended date) = second (on, date)
efficacy_parts on (efficacy.Retroactive date) = third (on, date)
efficacy_parts on (efficacy.Postponed date) = fourth (on, date)
efficacy_parts on (efficacy.Prorogued date) = fifth (on, date)
efficacy_parts on efficacy.Extra = sixth on
efficacy_parts on (efficacy.Inapplied days) = seventh (on, days)

unfoldable pub efficacy_effect : Field (ℕ × EfficacyEffect)
efficacy_effect = one_of efficacy_kinds (λ p. efficacy_parts p.0 p.1)

-- where a modification comes from: the IRI of a work, a place in it, and perhaps a provision of it
abbrev pub source_from : List ℕ × (ℕ × Option (List ℕ)) → ModSource
source_from p = record { href = p.0; place = p.1.0; provision = p.1.1 }

module _ (format : Format) where
  unfoldable pub source : Field ModSource
  source =
      made source_from (λ s. Some (s.href, (s.place, s.provision)))
      (pair work (pair number16 format.provision))

  -- the kinds of a modification
  abbrev pub textual : Kind Modification
  textual = kind 1 (λ p. Textual p.0 p.1.0 p.1.1) (pair source (pair period edit))

  abbrev pub forced : Kind Modification
  forced = kind 2 (λ p. Force p.0 p.1.0 p.1.1.0 p.1.1.1) (pair source (pair destination force_effect))

  abbrev pub effective : Kind Modification
  effective = kind 3 (λ p. Efficacy p.0 p.1.0 p.1.1.0 p.1.1.1) (pair source (pair destination efficacy_effect))

  abbrev pub modification_kinds : List (Kind Modification)
  modification_kinds = textual ∷ forced ∷ effective ∷ []

  -- of what a modification is made
  abbrev pub modification_parts : Modification → HeldBy modification_kinds
  modification_parts (Textual from days change) = first (from, (days, change))
  modification_parts (Force from target on effect) = second (from, (target, (on, effect)))
  modification_parts (Efficacy from target on effect) = third (from, (target, (on, effect)))

  -- a modification
  unfoldable pub modification : Field Modification
  modification = one_of modification_kinds modification_parts

  unfoldable pub modifications : Field (List Modification)
  modifications = list_of modification
