-- The history of a desk: its entries, and the marks of faults, each behind the entries that stood when it was made.
use Rattle.std.specs.Prelude.{ℕ, suc, ◌==◌, List, [], ◌∷◌, ◌++◌, if◌then◌else◌}
use Rattle.law_register.specs.declared.desk.event.Event.{Event}
use Rattle.law_register.specs.declared.desk.event.Event.TheVariants.{Entered, Faulted}
use Rattle.law_register.specs.declared.desk.fault_mark.FaultMark.{FaultMark}
use Rattle.law_register.specs.declared.register.entry.Entry.{Entry}
use Rattle.law_register.specs.Desk.States.{DeskState}

-- the marks that were made when so many entries stood
abbrev pub marks_at : ℕ → List FaultMark → List Event
marks_at n [] = []
marks_at n (mark ∷ marks) = if mark.entries == n then Faulted mark ∷ marks_at n marks else marks_at n marks

-- the marks that were made when so many entries stood; and then the next entry, and what came behind it
abbrev pub events_from : ℕ → List Entry → List FaultMark → List Event
events_from n [] marks = marks_at n marks
events_from n (entry ∷ entries) marks = marks_at n marks ++ Entered entry ∷ events_from (suc n) entries marks

-- all that happened at a desk, oldest first
abbrev pub history_of : DeskState → List Event
history_of state = events_from 0 state.entries state.marks

-- the entries among events
abbrev pub entries_of : List Event → List Entry
entries_of [] = []
entries_of (Entered entry ∷ events) = entry ∷ entries_of events
entries_of (Faulted mark ∷ events) = entries_of events

-- the marks among events
abbrev pub marks_of : List Event → List FaultMark
marks_of [] = []
marks_of (Entered entry ∷ events) = marks_of events
marks_of (Faulted mark ∷ events) = mark ∷ marks_of events
