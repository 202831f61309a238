use Rattle.std.proofs.Common.{Bor, ◌≡◌, subst, map, option_map, ℕ, List, IfSome, OnOk}
use Rattle.std.specs.List.{AllByRecursion}
use Rattle.version_cache.specs.declared.work_revision.WorkRevision.{WorkRevision}
use Rattle.version_cache.specs.declared.work_tables.WorkTables.{WorkTables}
use Rattle.version_cache.specs.Works.{WorkRevisionValue, WorkValue}
use Rattle.law_office.specs.Movements.{Enacted}
use Rattle.law_office.specs.Noting.{IsNoted}
use Rattle.law_office.specs.Tables.{enacted_view, revised_view}
use Rattle.law_office.proofs.Moved.{lent}
use Rattle.law_office.proofs.Noted.{on_changed}
use Rattle.law_office.proofs.noting.note_changes.Goals as goal

pub returns-clause-noted : goal.returns-clause-noted
returns-clause-noted c =
    let mid = c.note_enacted.new.naming in
    let new = c.note_revised.new.naming in
    let changes = c.args.changes.now in
    let same : option_map (λ e. enacted_view e.now) c.as_ref.result ≡ option_map enacted_view changes.enacted =
    lent (λ (e : Bor (List ℕ × WorkTables)). e.now) enacted_view c.as_ref.result changes.enacted c.as_ref.ensures.value in
    on_changed c.note_revised.result c.args.naming.now mid new (option_map enacted_view changes.enacted) (map revised_view changes.revised.items)
    c.note_enacted.ensures.more c.note_revised.ensures.more
    (subst (λ (one : Enacted). IfSome one (λ (e : List ℕ × WorkValue). IsNoted mid e.0 e.1.names)) same c.in_ok-note_enacted.ensures.noted)
    (subst
    (λ (rs : List (List ℕ × WorkRevision)).
    OnOk c.note_revised.result (AllByRecursion (λ (e : List ℕ × WorkRevisionValue). IsNoted new e.0 e.1.names) (map revised_view rs)))
    c.as_slice.ensures.value c.note_revised.ensures.noted)
