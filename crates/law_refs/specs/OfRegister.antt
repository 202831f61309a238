-- When an index is that of a register, and what has to be handed in so that it stays so.
use Rattle.std.specs.Prelude.{◌≡◌, ◌≤◌, ℕ, true, false, List, [], ◌∷◌, ◌++◌, map, Option, Some, None, if◌then◌else◌}
use Rattle.std.specs.List.{AllByRecursion}
use Rattle.std.specs.Str.{bytes_eq}
use Rattle.law_register.specs.declared.register.entry.Entry.{Entry}
use Rattle.law_register.specs.declared.register.known.Known.{Known}
use Rattle.law_register.specs.Provisions.Carrying.{held_now}
use Rattle.law_refs.specs.Index.{Kept, first_day, kept_of}
use Rattle.law_refs.specs.Missing.{missing, refs_in_force}
use Rattle.law_refs.specs.Right.{AnswerAsBefore, IsRight}
use Rattle.law_refs.specs.Rows.{has_begun, is_before, refs_on}
use Rattle.law_refs.specs.declared.node_ref.JudgedRef.{JudgedRef}
use Rattle.law_refs.specs.declared.node_ref.NodeRef.{NodeRef}
use Rattle.law_refs.specs.declared.ref_row.RefRow.{RefRow}
use Rattle.law_refs.specs.declared.ref_row.WorkRefs.{WorkRefs}

-- a reference as its text has it, without what breaks its target
abbrev pub unjudged : JudgedRef → NodeRef
unjudged kept = record { eid = kept.eid; iri = kept.iri }

-- what is kept of a work is for what is known of it: the day of its act, and on every day, of which 1 is the first, the references of its
-- text in force
pub record IsFor (known : Known) (kept : WorkRefs) : Type 0 where
  pub act_day : kept.act_day ≡ known.act.day
  pub texts : (day : ℕ) → 1 ≤ day → map unjudged (refs_on day kept.rows) ≡ refs_in_force known day

-- something is kept of exactly the works that are known, and it is for what is known
abbrev pub Matches : Option Known → Option WorkRefs → Type 0
Matches None None = Unit {0}
Matches None (Some kept) = ⊥
Matches (Some known) None = ⊥
Matches (Some known) (Some kept) = IsFor known kept

-- an index is that of a register: of each work it has what all entries make known, and each reference with what breaks its target
pub record IsIndexOf (entries : List Entry) (index : Kept) : Type 0 where
  pub kept : (work : List ℕ) → Matches (held_now entries work) (kept_of work index)
  pub right : IsRight (missing entries) index

-- the rows that are handed in for a work
abbrev pub rows_given : List ℕ → List RefRow → List RefRow
rows_given work [] = []
rows_given work (row ∷ rows) = (if bytes_eq row.work work then row ∷ [] else []) ++ rows_given work rows

-- the references that rows have on a day: those of the last that has begun by then, or those found before
abbrev pub latest_given : ℕ → List NodeRef → List RefRow → List NodeRef
latest_given day found [] = found
latest_given day found (row ∷ rows) = latest_given day (if has_begun row.from day then row.refs else found) rows

-- the references of a text in force are the same in two views of a work
abbrev pub SameRefs : ℕ → Option Known → Known → Type 0
SameRefs day None new = ⊥
SameRefs day (Some old) new = refs_in_force old day ≡ refs_in_force new day

-- what is known of a work has the same act's day, and on every day the same references; a work that was not known is not known then
abbrev pub HasSameRefs : Option Known → Option Known → Type 0
HasSameRefs None None = Unit {0}
HasSameRefs (Some old) (Some new) = (old.act.day ≡ new.act.day) × ((day : ℕ) → 1 ≤ day → refs_in_force old day ≡ refs_in_force new day)
HasSameRefs _ _ = ⊥

-- rows that begin on a day, or as the act was enacted, are for what is known of a work then: none of them begins before it, from it on
-- they have the references of the text in force, and before it these are what they were
pub record AreRowsFor (old : Option Known) (new : Known) (from : Option ℕ) (rows : List RefRow) : Type 0 where
  pub act_day : AllByRecursion (λ row. row.act_day ≡ new.act.day) rows
  pub days : AllByRecursion (λ row. is_before row.from from ≡ false) rows
  pub texts : (day : ℕ) → 1 ≤ day → has_begun from day ≡ true → latest_given day [] rows ≡ refs_in_force new day
  pub earlier : (day : ℕ) → 1 ≤ day → has_begun from day ≡ false → SameRefs day old new

-- the same, where the work is known then
abbrev pub AreRowsForIf : Option Known → Option Known → Option ℕ → List RefRow → Type 0
AreRowsForIf old None from rows = ⊥
AreRowsForIf old (Some new) from rows = AreRowsFor old new from rows

-- what is handed in of a work is for what is known of it then, or nothing is and its references are what they were
abbrev pub IsHandedIn : Option Known → Option Known → Option (Option ℕ) → List RefRow → Type 0
IsHandedIn old new None rows = HasSameRefs old new
IsHandedIn old new (Some from) rows = AreRowsForIf old new from rows

-- what is handed in is what a register has once these entries stand in the place of those before, where these works moved: of each
-- work its rows from the first day on that changed, and no target is answered otherwise but of works that moved
pub record FollowsChange (before after : List Entry) (moved : List (List ℕ)) (rows : List RefRow) : Type 0 where
  pub given : (work : List ℕ) → IsHandedIn (held_now before work) (held_now after work) (first_day work rows) (rows_given work rows)
  pub targets : AnswerAsBefore (missing before) (missing after) moved
