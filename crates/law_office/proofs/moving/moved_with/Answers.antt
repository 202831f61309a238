use Rattle.std.proofs.Common.{◌≡◌, ◌++◌, ◌∷◌, [], sym, subst, ℕ, List, map, option_map}
use denote.Ref.{Bor}
use Rattle.law_register.specs.Register.Indexes.{act_of}
use Rattle.version_cache.specs.declared.work_tables.WorkTables.{WorkTables}
use Rattle.law_office.specs.Movements.{AreMoved, Enacted, IsMadeIf}
use Rattle.law_office.specs.Tables.{enacted_view, kept_in, revised_view}
use Rattle.law_office.proofs.Moved.{lent}
use Rattle.law_office.proofs.moving.moved_with.Goals as goal

pub revised_by-requires-clause-made : goal.revised_by-requires-clause-made
revised_by-requires-clause-made g c =
    let es = c.args.movement.now.register.now.entries in
    let e = c.args.movement.now.entry.now in
    let same : option_map (λ e. enacted_view e.now) c.as_ref.result ≡ option_map enacted_view c.args.enacted = lent (λ (e : Bor (List ℕ × WorkTables)). e.now) enacted_view c.as_ref.result c.args.enacted c.as_ref.ensures.value in
    subst (λ (new : Enacted). IsMadeIf (es ++ e ∷ []) (act_of e.command) new) (sym same) c.requires.made

pub returns-in-Ok-clause-moved : goal.returns-in-Ok-clause-moved
returns-in-Ok-clause-moved g c =
    let es = c.args.movement.now.register.now.entries in
    let e = c.args.movement.now.entry.now in
    let same : option_map (λ e. enacted_view e.now) c.as_ref.result ≡ option_map enacted_view c.args.enacted = lent (λ (e : Bor (List ℕ × WorkTables)). e.now) enacted_view c.as_ref.result c.args.enacted c.as_ref.ensures.value in
    subst (λ (new : Enacted). AreMoved es e (kept_in c.revised_by.new.tables) new (map revised_view c.in-Ok.revised.items)) same c.in-Ok.ensures.moved
