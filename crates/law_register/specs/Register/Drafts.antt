-- What stands in a drafter's draft.
use Rattle.std.specs.Prelude.{ℕ, ◌+◌, ◌==◌, Bool, not, List, [], ◌∷◌, ◌++◌, filter, if◌then◌else◌}
use Rattle.std.specs.Str.{bytes_eq}
use Rattle.law_register.specs.declared.law.command.Command.{Command}
use Rattle.law_register.specs.declared.law.command.Command.TheVariants.{DraftAdd, DraftDrop, File}
use Rattle.law_register.specs.declared.register.draft.DraftItem.{DraftItem}
use Rattle.law_register.specs.declared.register.entry.Entry.{Entry}

-- an entry is that of a drafter
abbrev pub is_by : List ℕ → Entry → Bool
is_by drafter e = bytes_eq e.drafter drafter

-- how many items a command adds to a draft
abbrev pub additions : Command → ℕ
additions (DraftAdd work body) = 1
additions _ = 0

-- how many items a drafter has added so far
abbrev pub added : List ℕ → List Entry → ℕ
added drafter [] = 0
added drafter (e ∷ es) = (if is_by drafter e then additions e.command else 0) + added drafter es

-- the items of a draft that modify a work
abbrev pub items_of : List ℕ → List DraftItem → List DraftItem
items_of work items = filter (λ i. bytes_eq i.work work) items

-- the items of a draft that modify other works
abbrev pub items_but : List ℕ → List DraftItem → List DraftItem
items_but work items = filter (λ i. not (bytes_eq i.work work)) items

-- what a command of its drafter makes of a draft, where `number` is that of the next item: an addition stands behind the others,
-- a dropped item goes, and so do the items that are filed
abbrev pub redrafted : ℕ → Command → List DraftItem → List DraftItem
redrafted number (DraftAdd work body) items = items ++ record { item = number; work = work; body = body } ∷ []
redrafted number (DraftDrop item) items = filter (λ i. not (i.item == item)) items
redrafted number (File work seen) items = items_but work items
redrafted number _ items = items

-- what the entries behind some others make of a drafter's draft, to which the drafter has added `count` items so far
abbrev pub drafted_from : List ℕ → ℕ → List DraftItem → List Entry → List DraftItem
drafted_from drafter count items [] = items
drafted_from drafter count items (e ∷ es) =
    if is_by drafter e
    then drafted_from drafter (count + additions e.command) (redrafted (count + 1) e.command items) es
    else drafted_from drafter count items es

-- the draft of a drafter
abbrev pub draft_of : List ℕ → List Entry → List DraftItem
draft_of drafter entries = drafted_from drafter 0 [] entries
