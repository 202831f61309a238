-- The rules of the register, by family, in the order in which they are judged. Each is what it is broken by, with the value that is shown.
use Rattle.std.specs.Prelude.{ℕ, ◌+◌, ◌==◌, nat_le, nat_lt, Bool, true, not, ◌&&◌, ◌||◌, List, [], ◌∷◌, ◌++◌, length, Option, Some, None, is_none, is_some, option_map, if◌then◌else◌}
use Rattle.std.specs.List.{list_any}
use Rattle.std.specs.Option.{option_and_then, option_map_or, option_or}
use Rattle.std.specs.Str.{bytes_eq}
use Rattle.desk_base.specs.declared.id.Id.{Id}
use Rattle.desk_base.specs.Periods.{ends_after_its_start}
use Rattle.act_tree.specs.Branches.{branches_of}
use Rattle.act_tree.specs.Faults.{first_fault}
use Rattle.act_tree.specs.Limits.{have_few_refs}
use Rattle.act_tree.specs.declared.build_fault.BuildFault.{BuildFault}
use Rattle.textual_mods.specs.declared.fitting.TheConstants.{MAX_ITEMS}
use Rattle.law_register.specs.declared.law.command.Command.{Command}
use Rattle.law_register.specs.declared.law.command.Command.TheVariants.{Enact, Record, Correct, Withdraw, Restore, DraftAdd, DraftDrop, File}
use Rattle.law_register.specs.declared.law.modification.Destination.{Destination}
use Rattle.law_register.specs.declared.law.modification.Destination.TheVariants as to
use Rattle.law_register.specs.declared.law.modification.Kind.{Kind}
use Rattle.law_register.specs.declared.law.modification.Kind.TheVariants as kinds
use Rattle.law_register.specs.declared.law.modification.Modification.{Modification}
use Rattle.law_register.specs.declared.law.modification.Modification.TheVariants.{Textual, Force, Efficacy}
use Rattle.law_register.specs.declared.register.draft.DraftItem.{DraftItem}
use Rattle.law_register.specs.declared.register.entry.Entry.{Entry}
use Rattle.law_register.specs.declared.register.limits.TheConstants.{MOST_DRAFTERS, MOST_DRAFT_ITEMS, MOST_IDS, MOST_LAWS, MOST_ENTRY_BYTES, MOST_REGISTER_BYTES}
use Rattle.law_register.specs.declared.register.rules.Rule.{Rule}
use Rattle.law_register.specs.declared.register.rules.Rule.TheVariants.{NumberReused, DraftersFull, UnknownWork, WorkExists, BadTree, BadModification, BadPeriod, UnknownModification, AlreadyWithdrawn, NotWithdrawn, WrongKind, Stale, EmptyDraft, DraftFull, WorkFull, LawFull, RegisterFull}
use Rattle.law_register.specs.declared.register.standing.Standing.{Standing}
use Rattle.law_register.specs.declared.register.standing.Standing.TheVariants.{Live, Withdrawn}
use Rattle.law_register.specs.declared.register.verdict.Reply.{Reply}
use Rattle.law_register.specs.Law.Bounds.{modification_fits, times_fit, brought_fault}
use Rattle.law_register.specs.Law.Kinds.{kind_of, is_same_kind}
use Rattle.law_register.specs.Law.Same.{same_command}
use Rattle.law_register.specs.Law.Sizes.{size_of, entries_size}
use Rattle.law_register.specs.Register.Concerns.{concerns, is_of}
use Rattle.law_register.specs.Register.Drafts.{items_of}
use Rattle.law_register.specs.Register.KnownIds.{IdFacts, facts_of, enacted, ids_of}
use Rattle.law_register.specs.Register.LawList.{front}
use Rattle.law_register.specs.Register.Standings.{is_live}
use Rattle.law_register.specs.Register.Requests.{drafters, law_number, reply_number}

-- a rule that is broken where a test holds
abbrev pub broken_where : Bool → Rule → Option Rule
broken_where test rule = if test then Some rule else None

-- the rule that the first of some items breaks, where the first of them has this number
abbrev pub first_item : (ℕ → Modification → Option Rule) → ℕ → List Modification → Option Rule
first_item rule number [] = None
first_item rule number (m ∷ ms) = option_or (rule number m) (first_item rule (number + 1) ms)

-- the modifications that a command brings
abbrev pub brought_by : Command → List Modification
brought_by (Record work mods) = mods
brought_by (Correct id body) = body ∷ []
brought_by (DraftAdd work body) = body ∷ []
brought_by _ = []

-- Repeats

-- NumberReused: the request was that of another command, whose reply's number is shown
abbrev pub number_reused : Command → (Entry × Reply) → Option Rule
number_reused command found =
    broken_where (not (same_command found.0.command command)) (NumberReused (reply_number found.1))

-- Drafters

-- DraftersFull: a drafter without an entry, where as many as there may be have one
abbrev pub drafters_full : List Entry → List ℕ → Option Rule
drafters_full entries drafter =
    broken_where
    (not (list_any (bytes_eq drafter) (drafters entries)) && nat_le MOST_DRAFTERS (length (drafters entries)))
    (DraftersFull MOST_DRAFTERS)

-- Works

-- UnknownWork: a command names a work that no law entry enacts
abbrev pub unknown_in : List Command → List ℕ → Option Rule
unknown_in law work = broken_where (is_none (enacted work law)) (UnknownWork work)

abbrev pub unknown_work : List Command → Command → Option Rule
unknown_work law (Record work mods) = unknown_in law work
unknown_work law (DraftAdd work body) = unknown_in law work
unknown_work law (File work seen) = unknown_in law work
unknown_work law _ = None

-- WorkExists: an act of a work that a law entry enacts already, whose number is shown
abbrev pub work_exists : List Command → Command → Option Rule
work_exists law (Enact act) = option_map (λ found. WorkExists found.0) (enacted act.work law)
work_exists law _ = None

-- What is brought

-- BadTree: the first fault of the text of an act, by the limit that it states, or of the first payload that has one, as of a plain act
abbrev pub tree_rule : Option BuildFault → Option Rule
tree_rule fault = option_map (λ f. BadTree f) fault

abbrev pub bad_tree : Command → Option Rule
bad_tree (Enact act) = tree_rule (first_fault act.numbering act.limit (branches_of act.body))
bad_tree command = first_item (λ number m. tree_rule (brought_fault m)) 1 (brought_by command)

-- BadModification: a list that is empty or too long, or the first item that breaks a bound
abbrev pub bad_item : ℕ → Modification → Option Rule
bad_item number m = broken_where (not (modification_fits m)) (BadModification number)

abbrev pub bad_record : List Modification → Option Rule
bad_record mods =
    option_or (broken_where (not (nat_lt 0 (length mods) && nat_le (length mods) MAX_ITEMS)) (BadModification 0))
    (first_item bad_item 1 mods)

abbrev pub bad_modification : Command → Option Rule
bad_modification (Enact act) = broken_where (not (have_few_refs (branches_of act.body))) (BadModification 0)
bad_modification (Record work mods) = bad_record mods
bad_modification command = first_item bad_item 1 (brought_by command)

-- BadPeriod: a period of an act, or of the first such item, does not end after its start
abbrev pub bad_times : ℕ → Modification → Option Rule
bad_times number m = broken_where (not (times_fit m)) (BadPeriod number)

abbrev pub bad_period : Command → Option Rule
bad_period (Enact act) = broken_where (not (ends_after_its_start act.force)) (BadPeriod 0)
bad_period command = first_item bad_times 1 (brought_by command)

-- What is recorded

-- UnknownModification: an id that is not recorded, a destination that is not recorded in the work, or an item that is not in the draft
abbrev pub unknown_id : List Command → Id → Option Rule
unknown_id law id = broken_where (is_none (facts_of id law)) (UnknownModification id.law id.item)

abbrev pub unknown_thing : List Command → List ℕ → Destination → Option Rule
unknown_thing law work (to.Modification id) =
    broken_where (not (is_of work (facts_of id law))) (UnknownModification id.law id.item)
unknown_thing law work (to.Node wid) = None

abbrev pub unknown_destination : List Command → List ℕ → Modification → Option Rule
unknown_destination law work (Textual source force edit) = None
unknown_destination law work (Force source destination on effect) = unknown_thing law work destination
unknown_destination law work (Efficacy source destination on effect) = unknown_thing law work destination

-- the destination of a correction, in the work of the id that is corrected
abbrev pub unknown_for : List Command → Option IdFacts → Modification → Option Rule
unknown_for law facts body = option_and_then (λ f. unknown_destination law f.work body) facts

abbrev pub has_item : ℕ → List DraftItem → Bool
has_item item items = list_any (λ i. i.item == item) items

abbrev pub unknown_item : ℕ → List DraftItem → Option Rule
unknown_item item draft = broken_where (not (has_item item draft)) (UnknownModification 0 item)

abbrev pub unknown_modification : List Command → List DraftItem → Command → Option Rule
unknown_modification law draft (Record work mods) = first_item (λ number m. unknown_destination law work m) 1 mods
unknown_modification law draft (Correct id body) =
    option_or (unknown_id law id) (unknown_for law (facts_of id law) body)
unknown_modification law draft (Withdraw id) = unknown_id law id
unknown_modification law draft (Restore id) = unknown_id law id
unknown_modification law draft (DraftAdd work body) = unknown_destination law work body
unknown_modification law draft (DraftDrop item) = unknown_item item draft
unknown_modification law draft _ = None

-- AlreadyWithdrawn: a withdrawal of an id that does not stand; the law entry that withdrew it is shown
abbrev pub withdrawn_before : Standing → Option Rule
withdrawn_before Live = None
withdrawn_before (Withdrawn number) = Some (AlreadyWithdrawn number)

abbrev pub already_withdrawn : List Command → Command → Option Rule
already_withdrawn law (Withdraw id) = option_and_then (λ f. withdrawn_before f.standing) (facts_of id law)
already_withdrawn law _ = None

-- NotWithdrawn: a restoring of an id that stands
abbrev pub not_withdrawn : List Command → Command → Option Rule
not_withdrawn law (Restore id) =
    option_and_then (λ f. broken_where (is_live f.standing) (NotWithdrawn id)) (facts_of id law)
not_withdrawn law _ = None

-- WrongKind: a correction of another kind than its id, or a destination that is no textual modification
abbrev pub is_kind : Kind → Option IdFacts → Bool
is_kind kind facts = option_map_or (λ f. is_same_kind (kind_of f.body) kind) facts true

abbrev pub wrong_thing : List Command → Destination → Option Rule
wrong_thing law (to.Modification id) = broken_where (not (is_kind kinds.Textual (facts_of id law))) (WrongKind id)
wrong_thing law (to.Node wid) = None

abbrev pub wrong_destination : List Command → Modification → Option Rule
wrong_destination law (Textual source force edit) = None
wrong_destination law (Force source destination on effect) = wrong_thing law destination
wrong_destination law (Efficacy source destination on effect) = wrong_thing law destination

abbrev pub wrong_correction : List Command → Id → Modification → Option Rule
wrong_correction law id body =
    option_or (broken_where (not (is_kind (kind_of body) (facts_of id law))) (WrongKind id))
    (wrong_destination law body)

abbrev pub wrong_kind : List Command → Command → Option Rule
wrong_kind law (Correct id body) = wrong_correction law id body
wrong_kind law command = first_item (λ number m. wrong_destination law m) 1 (brought_by command)

-- Filings

-- the number of the last of these law entries that concerns a work, behind others, of which `last` is the last
abbrev pub last_from : List Command → List ℕ → ℕ → List Command → ℕ
last_from before work last [] = last
last_from before work last (law ∷ laws) =
    last_from (before ++ law ∷ []) work (if concerns before work law then length before + 1 else last) laws

-- the number of the last law entry that concerns a work, 0 if none does
abbrev pub last_on : List ℕ → List Command → ℕ
last_on work law = last_from [] work 0 law

-- Stale: a filing whose drafter has not seen the last law entry on the work, which is shown
abbrev pub stale : List Command → Command → Option Rule
stale law (File work seen) = broken_where (nat_lt seen (last_on work law)) (Stale (last_on work law))
stale law _ = None

-- EmptyDraft: a filing of a work of which the draft has no item
abbrev pub empty_draft : List DraftItem → Command → Option Rule
empty_draft draft (File work seen) = broken_where (length (items_of work draft) == 0) (EmptyDraft work)
empty_draft draft _ = None

-- Room

-- DraftFull: an addition to a draft that has as many items as it may
abbrev pub draft_full : List DraftItem → Command → Option Rule
draft_full draft (DraftAdd work body) =
    broken_where (nat_le MOST_DRAFT_ITEMS (length draft)) (DraftFull MOST_DRAFT_ITEMS)
draft_full draft _ = None

-- WorkFull: a work would have more ids than it may
abbrev pub full_with : List Command → List ℕ → ℕ → Option Rule
full_with law work more = broken_where (nat_lt MOST_IDS (length (ids_of work law) + more)) (WorkFull MOST_IDS)

abbrev pub work_full : List Command → List DraftItem → Command → Option Rule
work_full law draft (Record work mods) = full_with law work (length mods)
work_full law draft (File work seen) = full_with law work (length (items_of work draft))
work_full law draft _ = None

-- LawFull: one more law entry, where there are as many as there may be
abbrev pub law_full : List Entry → Command → Option Rule
law_full entries command =
    broken_where (is_some (law_number entries command) && nat_le MOST_LAWS (front entries)) (LawFull MOST_LAWS)

-- RegisterFull: the entry is too large, or all entries with it
abbrev pub register_full : List Entry → List ℕ → Command → Option Rule
register_full entries drafter command =
    broken_where (nat_lt MOST_ENTRY_BYTES (size_of drafter command)
    || nat_lt MOST_REGISTER_BYTES (entries_size entries + size_of drafter command))
    (RegisterFull MOST_REGISTER_BYTES)
