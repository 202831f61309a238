use Rattle.std.proofs.Common.{subst, sym, ap}
use Rattle.law_office.specs.Offices.{RoseWith, pending_of}
use Rattle.law_office.proofs.Marking.{none_marked, rose_none}
use Rattle.law_office.proofs.office.Office.new.Goals as goal

pub invariant_of-result : goal.invariant_of-result
invariant_of-result g c =
    let book = c.args.book in
    let count = g.K.Keeper.faults c.args.keeper.now in (
      c.requires.right,
      c.requires.held,
      none_marked (pending_of book.pending) book.marks.items (ap pending_of c.requires.none_pending),
      subst (λ keeper. RoseWith book.marks.items (g.K.Keeper.faults keeper) count) (sym c.of-opened.ensures)
          (rose_none book.marks.items count c.requires.no_marks),
    )
