-- What the register says of a command: a repeat, else the first broken rule, else accepted.
pub use Rattle.law_register.specs.Register.Rulebook.{broken_where, first_item, brought_by, number_reused, drafters_full, unknown_in, unknown_work, work_exists, tree_rule, bad_tree, bad_item, bad_record, bad_modification, bad_times, bad_period, unknown_id, unknown_thing, unknown_destination, unknown_for, has_item, unknown_item, unknown_modification, already_withdrawn, not_withdrawn, is_kind, wrong_thing, wrong_destination, wrong_correction, wrong_kind, last_from, last_on, stale, empty_draft, draft_full, full_with, work_full, law_full, register_full}
pub use Rattle.law_register.specs.Register.Requests.{reply_to, law_number, request_from, request_of, drafters_from, drafters, reply_number}
use Rattle.std.specs.Prelude.{ℕ, Bool, true, false, ◌&&◌, List, [], ◌∷◌, ◌++◌, Option}
use Rattle.std.specs.Option.{option_map_or, option_or}
use Rattle.law_register.specs.declared.law.command.Command.{Command}
use Rattle.law_register.specs.declared.register.entry.Entry.{Entry}
use Rattle.law_register.specs.declared.register.rules.Rule.{Rule}
use Rattle.law_register.specs.declared.register.verdict.Reply.{Reply}
use Rattle.law_register.specs.declared.register.verdict.Verdict.{Verdict}
use Rattle.law_register.specs.declared.register.verdict.Verdict.TheVariants.{Accepted, Repeat, Refused}
use Rattle.law_register.specs.Law.Same.{same_number}
use Rattle.law_register.specs.Register.Drafts.{draft_of}
use Rattle.law_register.specs.Register.LawList.{laws}

-- the first rule broken of those on drafts and limits
abbrev pub rule_of_drafts : List Entry → List ℕ → Command → Option Rule
rule_of_drafts entries drafter command =
    option_or (stale (laws entries) command)
    (option_or (empty_draft (draft_of drafter entries) command)
    (option_or (draft_full (draft_of drafter entries) command)
    (option_or (work_full (laws entries) (draft_of drafter entries) command)
    (option_or (law_full entries command)
    (register_full entries drafter command)))))

-- the first rule broken of those on what is recorded, and behind them on drafts and limits
abbrev pub rule_of_ids : List Entry → List ℕ → Command → Option Rule
rule_of_ids entries drafter command =
    option_or (unknown_modification (laws entries) (draft_of drafter entries) command)
    (option_or (already_withdrawn (laws entries) command)
    (option_or (not_withdrawn (laws entries) command)
    (option_or (wrong_kind (laws entries) command)
    (rule_of_drafts entries drafter command))))

-- the first rule that a new command of a drafter breaks
abbrev pub first_rule : List Entry → List ℕ → Command → Option Rule
first_rule entries drafter command =
    option_or (drafters_full entries drafter)
    (option_or (unknown_work (laws entries) command)
    (option_or (work_exists (laws entries) command)
    (option_or (bad_tree command)
    (option_or (bad_modification command)
    (option_or (bad_period command)
    (rule_of_ids entries drafter command))))))

-- what is said of a command whose request was accepted before: a repeat of the same command gets the first reply
abbrev pub again : Command → Entry × Reply → Verdict
again command found = option_map_or (λ rule. Refused rule) (number_reused command found) (Repeat found.1)

-- what is said of a new command: the first rule that it breaks, or that it is accepted
abbrev pub newly : List Entry → List ℕ → Command → Verdict
newly entries drafter command =
    option_map_or (λ rule. Refused rule) (first_rule entries drafter command)
    (Accepted (law_number entries command) (reply_to entries drafter command))

-- the verdict on a command of a drafter's request
unfoldable pub verdict : List Entry → List ℕ → ℕ → Command → Verdict
verdict entries drafter request command =
    option_map_or (λ found. again command found) (request_of entries drafter request) (newly entries drafter command)

-- an entry is accepted behind others, with the law number that it has
abbrev pub is_accepted : Option ℕ → Verdict → Bool
is_accepted law (Accepted number reply) = same_number law number
is_accepted law _ = false

-- entries behind others are legal: each is accepted behind those before it
abbrev pub is_legal_from : List Entry → List Entry → Bool
is_legal_from before [] = true
is_legal_from before (e ∷ es) =
    is_accepted e.law (verdict before e.drafter e.request e.command) && is_legal_from (before ++ e ∷ []) es

-- a legal register: each entry is accepted behind those before it, with the law number that it has
abbrev pub is_legal : List Entry → Bool
is_legal entries = is_legal_from [] entries
