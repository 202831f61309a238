-- What a command leaves of the marks, and of how they stand to what is pending and to the keeper's count of faults.
use Rattle.std.proofs.Common.{◌≡◌, ◌∙◌, sym, ap, subst, ℕ, ◌+◌, ◌-◌, ◌^◌, max, min, true, false, List, [], ◌∷◌, ◌++◌, length, Option, None, Some, Result, Ok, Err, inl, inr, arith}
use Rattle.std.specs.Prelude.{IfSome, IsSome}
use Rattle.indexmap.specs.IndexMap.{IndexMap}
use Rattle.indexmap.specs.IndexSet.{IndexSet}
use Rattle.std.proofs.lemmas.List.{length-append}
use Rattle.law_register.specs.declared.desk.command_fault.CommandFault.{CommandFault}
use Rattle.law_register.specs.declared.desk.command_fault.CommandFault.TheVariants as fails
use Rattle.law_register.specs.declared.desk.fault_mark.FaultMark.{FaultMark}
use Rattle.law_register.specs.declared.law.command.Command.{Command}
use Rattle.law_register.specs.declared.register.entry.Entry.{Entry}
use Rattle.law_register.specs.declared.register.verdict.Reply.{Reply}
use Rattle.law_register.specs.Desk.Commands.{Ends, EndsWithin, HasCommandCause, marks_after}
use Rattle.law_register.specs.Desk.States.{IsSound, MayFollow, Standing}
use Rattle.law_register.specs.Register.Registers.{Contents}
use Rattle.law_refs.specs.Index.{Kept}
use Rattle.version_cache.specs.declared.work_tables.WorkTables.{WorkTables}
use Rattle.law_office.specs.Offices.{IsMarked, IsPendingOn, IsRight, RoseWith, judging_of, later_of, pending_of, standing_of}
use Rattle.law_office.specs.References.{judging_with}
use Rattle.law_office.specs.declared.book.Book.{Book}
use Rattle.law_office.specs.declared.book.Pending.{Pending}

pub none_marked : (pending : Option Entry) (marks : List FaultMark) → pending ≡ None → IsMarked pending marks
none_marked pending marks none some = absurd (let no : false ≡ true = subst (λ (p : Option Entry). IsSome p) none some in cc)

one_marked : (pending : Option Entry) (before after : List FaultMark) (mark : FaultMark) → after ≡ before ++ mark ∷ [] → IsMarked pending after
one_marked pending before after mark same some empty =
    absurd (let more : length after ≡ length before + 1 = ap length same ∙ length-append before (mark ∷ []) in
    let none : length after ≡ 0 = ap length empty in omega (arith, more, none))

still_marked : (old new : Option Entry) (before after : List FaultMark) → new ≡ old → after ≡ before → IsMarked old before → IsMarked new after
still_marked old new before after pending same marked =
    subst (λ (p : Option Entry). IsMarked p after) (sym pending) (subst (IsMarked old) (sym same) marked)

-- where an entry was pending there was a mark, and where one is, there is one
pub marked_after : (drafter : List ℕ) (request : ℕ) (command : Command) (old new : Standing) (before after : List FaultMark) (mark : FaultMark)
    (result : Result Reply CommandFault) → Ends drafter request command old new result → after ≡ marks_after before mark result
    → IsMarked old.pending before → IsMarked new.pending after
marked_after drafter request command old new before after mark (Ok reply) ends same marked = none_marked new.pending after ends.pending
marked_after drafter request command old new before after mark (Err (fails.Rule rule)) ends same marked = none_marked new.pending after ends.pending
marked_after drafter request command old new before after mark (Err fails.KeeperFault) ends same marked = one_marked new.pending before after mark same
marked_after drafter request command old new before after mark (Err fails.Memory) (inl waits) same marked =
    still_marked old.pending new.pending before after waits.pending same marked
marked_after drafter request command old new before after mark (Err fails.Memory) (inr idle) same marked = none_marked new.pending after idle.pending

stays : (opened old new : ℕ) (before after : List FaultMark) → after ≡ before → new ≡ old → RoseWith before opened old → RoseWith after opened new
stays opened old new before after same count rose = subst (λ (marks : List FaultMark). RoseWith marks opened new) (sym same) (count ∙ rose)

once_more : (most opened old new m n : ℕ) → n ≡ m + 1 → old ≡ max opened (min (opened + m) most) → new ≡ max old (min (old + 1) most)
    → new ≡ max opened (min (opened + n) most)
once_more most opened old new m n more first second = omega (arith, more, first, second)

-- the keeper's count of faults rises with the marks
pub rises_with : (before after : List FaultMark) (mark : FaultMark) (opened old new : ℕ) (result : Result Reply CommandFault)
    → after ≡ marks_after before mark result → HasCommandCause old new result → RoseWith before opened old → RoseWith after opened new
rises_with before after mark opened old new (Ok reply) same cause rose = stays opened old new before after same cause rose
rises_with before after mark opened old new (Err (fails.Rule rule)) same cause rose = stays opened old new before after same cause rose
rises_with before after mark opened old new (Err fails.KeeperFault) same cause rose =
    once_more (2 ^ 64 - 1) opened old new (length before) (length after) (ap length same ∙ length-append before (mark ∷ [])) rose cause
rises_with before after mark opened old new (Err fails.Memory) same cause rose = stays opened old new before after same cause rose

-- it has not risen where there is no mark
pub rose_none : (marks : List FaultMark) (count : ℕ) → marks ≡ [] → RoseWith marks count count
rose_none marks count none = start (2 ^ 64 - 1) (length marks) (ap length none)
  where
    start : (most n : ℕ) → n ≡ 0 → count ≡ max count (min (count + n) most)
    start most n is = omega (arith, is)

may_follow : {S R : Type 0} (register : Contents) (tables : IndexMap (List ℕ) WorkTables S) (naming : IndexSet (List ℕ) R) (index : Kept) (pending : Option Pending)
    → IfSome pending (IsPendingOn register tables naming index) → IfSome (pending_of pending) (MayFollow register.entries)
may_follow register tables naming index None may = tt
may_follow register tables naming index (Some p) may = may.follows

-- a desk is sound whose book is right and marked
pub sound_of : (book : Book) (faults : ℕ) (days : Option (ℕ → ℕ)) (origin : List ℕ) → IsRight book
    → IsMarked (pending_of book.pending) book.marks.items
    → IsSound (record { entries = book.register.entries; pending = pending_of book.pending; marks = book.marks.items; faults = faults; days = days; origin = origin })
sound_of book faults days origin right marked = record {
  pending = may_follow book.register book.tables book.naming book.refs book.pending right.pending;
  marked = marked;
  marks = right.marks;
}

-- a command ends within the same steps where the book before it had the same entries, and that behind it has a mark more
module _ (drafter : List ℕ) (request : ℕ) (command : Command) (days later : Option (ℕ → ℕ)) (old mid left new : Book)
    (register : mid.register ≡ old.register) (pending : mid.pending ≡ old.pending) (refs : mid.refs ≡ old.refs)
    (registers : new.register ≡ left.register) (pendings : new.pending ≡ left.pending) where
  same_before : standing_of mid days ≡ standing_of old days
  same_before = λ i. record { entries = (register i).entries; pending = pending_of (pending i); days = days }

  same_behind : standing_of left later ≡ standing_of new later
  same_behind = sym (λ i. record { entries = (registers i).entries; pending = pending_of (pendings i); days = later })

  same_judging : judging_of mid ≡ judging_of old
  same_judging = λ i. judging_with (length (register i).entries) (refs i) (later_of (refs i) (pending i))

  marked_within : (before after : ℕ) (result : Result Reply CommandFault)
      → EndsWithin drafter request command (standing_of mid days) (standing_of left later) (judging_of mid) before after result
      → EndsWithin drafter request command (standing_of old days) (standing_of new later) (judging_of old) before after result
  marked_within before after result ends =
      subst (λ s. EndsWithin drafter request command s (standing_of new later) (judging_of old) before after result) same_before
      (subst (λ s. EndsWithin drafter request command (standing_of mid days) s (judging_of old) before after result) same_behind
      (subst (λ (j : List Entry → Entry → ℕ). EndsWithin drafter request command (standing_of mid days) (standing_of left later) j before after result)
      same_judging ends))

  pub marked_fault : (before after : ℕ) (fault told : CommandFault) → fault ≡ told
      → EndsWithin drafter request command (standing_of mid days) (standing_of left later) (judging_of mid) before after (Err fault)
      → EndsWithin drafter request command (standing_of old days) (standing_of new later) (judging_of old) before after (Err told)
  marked_fault before after fault told is ends =
      subst (λ (f : CommandFault). EndsWithin drafter request command (standing_of old days) (standing_of new later) (judging_of old) before after (Err f))
      is (marked_within before after (Err fault) ends)
