-- What is known of requests and drafters: the entry of each request with its reply, and who has an entry.
use Rattle.std.specs.Prelude.{ℕ, ◌+◌, ◌==◌, ◌&&◌, List, [], ◌∷◌, ◌++◌, Option, Some, None, if◌then◌else◌}
use Rattle.std.specs.List.{list_any}
use Rattle.std.specs.Option.{option_or}
use Rattle.std.specs.Str.{bytes_eq}
use Rattle.law_register.specs.declared.law.command.Command.{Command}
use Rattle.law_register.specs.declared.law.command.Command.TheVariants.{DraftAdd, DraftDrop}
use Rattle.law_register.specs.declared.register.entry.Entry.{Entry}
use Rattle.law_register.specs.declared.register.verdict.Reply.{Reply}
use Rattle.law_register.specs.declared.register.verdict.Reply.TheVariants as reply
use Rattle.law_register.specs.Register.Drafts.{is_by, added}
use Rattle.law_register.specs.Register.LawList.{front}

-- the reply to a command of a drafter, behind these entries: the number of the law entry, or that of the draft item which is added
-- or dropped
abbrev pub reply_to : List Entry → List ℕ → Command → Reply
reply_to entries drafter (DraftAdd work body) = reply.Draft (added drafter entries + 1)
reply_to entries drafter (DraftDrop item) = reply.Draft item
reply_to entries drafter _ = reply.Law (front entries + 1)

-- the law number that a command gets, behind these entries
abbrev pub law_number : List Entry → Command → Option ℕ
law_number entries (DraftAdd work body) = None
law_number entries (DraftDrop item) = None
law_number entries _ = Some (front entries + 1)

-- the entry of a drafter's request, and the reply that it got, behind others
abbrev pub request_from : List Entry → List ℕ → ℕ → List Entry → Option (Entry × Reply)
request_from before drafter request [] = None
request_from before drafter request (e ∷ es) =
    option_or (if is_by drafter e && (e.request == request) then Some (e, reply_to before drafter e.command) else None)
    (request_from (before ++ e ∷ []) drafter request es)

-- the entry of a drafter's request, and the reply that it got
abbrev pub request_of : List Entry → List ℕ → ℕ → Option (Entry × Reply)
request_of entries drafter request = request_from [] drafter request entries

-- the drafters who have an entry, each once, behind those that were seen
abbrev pub drafters_from : List (List ℕ) → List Entry → List (List ℕ)
drafters_from seen [] = seen
drafters_from seen (e ∷ es) =
    drafters_from (if list_any (bytes_eq e.drafter) seen then seen else seen ++ e.drafter ∷ []) es

-- the drafters who have an entry, each once
abbrev pub drafters : List Entry → List (List ℕ)
drafters entries = drafters_from [] entries

-- the number that a reply names
abbrev pub reply_number : Reply → ℕ
reply_number (reply.Law number) = number
reply_number (reply.Draft number) = number
