-- What can be spelled as bytes, where two bytes count each text and each list: none is longer than they count, nodes nest at most 12 deep,
-- and no law entry has the number 0. Drafters, nums and the IRIs of works are short by their types.
use Rattle.std.specs.Prelude.{nat_le, nat_lt, Bool, true, ◌&&◌, List, length, unwrap_or}
use Rattle.std.specs.List.{list_all}
use Rattle.act_tree.specs.Branches.{Branch, Branches, branch, no_branches, more_branches, branches_of, listed, heights}
use Rattle.act_tree.specs.Provisions.{Own}
use Rattle.textual_mods.specs.declared.edit.SplitAt.{SplitAt}
use Rattle.textual_mods.specs.declared.edit.SplitAt.TheVariants as cuts
use Rattle.textual_mods.specs.declared.edit.TextPos.{TextPos}
use Rattle.textual_mods.specs.declared.edit.TextPos.TheVariants as stands
use Rattle.textual_mods.specs.declared.edit.TextualMod.{TextualMod}
use Rattle.textual_mods.specs.declared.edit.TextualMod.TheVariants.{Repeal, SubstituteNodes, SubstituteText, InsertNodes, InsertText, Renumber, Split, Join}
use Rattle.law_register.specs.declared.law.command.Command.{Command}
use Rattle.law_register.specs.declared.law.command.Command.TheVariants.{Enact, Record, Correct, DraftAdd}
use Rattle.law_register.specs.declared.law.modification.Destination.{Destination}
use Rattle.law_register.specs.declared.law.modification.Destination.TheVariants as to
use Rattle.law_register.specs.declared.law.modification.Modification.{Modification}
use Rattle.law_register.specs.declared.law.modification.Modification.TheVariants.{Textual, Force, Efficacy}
use Rattle.law_register.specs.declared.register.entry.Entry.{Entry}

-- two bytes count the bytes of a text, or the items of a list
abbrev pub is_counted : {X : Type 0} → List X → Bool
is_counted items = nat_le (length items) 65535

-- what a node says of itself
abbrev pub can_spell_own : Own → Bool
can_spell_own own =
    is_counted own.heading && (is_counted own.content && (is_counted own.refs && list_all is_counted own.refs))

-- a node with all beneath it, and likewise nodes side by side
abbrev mutual
  pub can_spell_node : Branch Own → Bool
  can_spell_node (branch own below) = can_spell_own own && (is_counted (listed below) && can_spell_nodes below)

  pub can_spell_nodes : Branches Own → Bool
  can_spell_nodes no_branches = true
  can_spell_nodes (more_branches b bs) = can_spell_node b && can_spell_nodes bs

-- the nodes that an act or an edit brings
abbrev pub can_spell_payload : List (Branch Own) → Bool
can_spell_payload nodes =
    is_counted nodes && (nat_le (heights (branches_of nodes)) 12 && can_spell_nodes (branches_of nodes))

-- where a text is inserted
abbrev pub can_spell_text_pos : TextPos → Bool
can_spell_text_pos stands.Start = true
can_spell_text_pos stands.End = true
can_spell_text_pos (stands.Before spot) = is_counted spot.old
can_spell_text_pos (stands.After spot) = is_counted spot.old

-- where a provision is split
abbrev pub can_spell_split_at : SplitAt → Bool
can_spell_split_at (cuts.Text spot) = is_counted spot.old
can_spell_split_at (cuts.Child wid) = is_counted wid

-- an edit
abbrev pub can_spell_edit : TextualMod → Bool
can_spell_edit (Repeal wid) = is_counted wid
can_spell_edit (SubstituteNodes wid new) = is_counted wid && can_spell_payload new
can_spell_edit (SubstituteText wid spot new) = is_counted wid && (is_counted spot.old && is_counted new)
can_spell_edit (InsertNodes wid pos new) = is_counted wid && can_spell_payload new
can_spell_edit (InsertText wid at new) = is_counted wid && (can_spell_text_pos at && is_counted new)
can_spell_edit (Renumber pairs) = is_counted pairs && list_all (λ pair. is_counted pair.0) pairs
can_spell_edit (Split wid at num heading) = is_counted wid && (can_spell_split_at at && is_counted heading)
can_spell_edit (Join wid second separator) = is_counted wid && (is_counted second && is_counted separator)

-- what a modification of force or efficacy is directed at
abbrev pub can_spell_destination : Destination → Bool
can_spell_destination (to.Modification id) = true
can_spell_destination (to.Node wid) = is_counted wid

-- a modification
abbrev pub can_spell_modification : Modification → Bool
can_spell_modification (Textual source force edit) = can_spell_edit edit
can_spell_modification (Force source destination on effect) = can_spell_destination destination
can_spell_modification (Efficacy source destination on effect) = can_spell_destination destination

-- a command
abbrev pub can_spell_command : Command → Bool
can_spell_command (Enact act) = can_spell_payload act.body
can_spell_command (Record work mods) = is_counted mods && list_all can_spell_modification mods
can_spell_command (Correct id body) = can_spell_modification body
can_spell_command (DraftAdd work body) = can_spell_modification body
can_spell_command _ = true

-- an entry: its command, and its law number, which is not 0 where it has one
unfoldable pub can_be_spelled : Entry → Bool
can_be_spelled e = nat_lt 0 (unwrap_or e.law 1) && can_spell_command e.command

-- entries
abbrev pub can_all_be_spelled : List Entry → Bool
can_all_be_spelled entries = list_all can_be_spelled entries
