use Rattle.std.proofs.Common.{sym, subst, ℕ, List, map, option_map}
use Rattle.version_cache.specs.declared.work_revision.WorkRevision.{WorkRevision}
use Rattle.law_office.specs.Movements.{AreMoving}
use Rattle.law_office.specs.Tables.{enacted_view, kept_in, revised_view}
use Rattle.law_office.proofs.InLine.{works_of}
use Rattle.law_office.proofs.moving.revised_of.Goals as goal

pub move_all-requires-clause-moving : goal.move_all-requires-clause-moving
move_all-requires-clause-moving g c =
    subst (λ (rs : List (List ℕ × WorkRevision)). AreMoving c.args.movement.now.register.now.entries c.args.movement.now.entry.now (kept_in c.args.tables.now)
    (option_map (λ e. enacted_view e.now) c.args.enacted) (map revised_view rs) (works_of c.args.names.now)) (sym c.new-revised.ensures.items) c.requires.moving
