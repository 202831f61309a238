-- So many law entries are known by those passed, which are not too many.
use Rattle.std.proofs.Common.{◌≡◌, ◌≤◌, take}
use Rattle.law_register.specs.Register.LawList.{front}
use Rattle.held_provisions.proofs.lines.entries_until.Given as goal

abbrev pub invariant-loop-index : goal.invariant-loop-index
invariant-loop-index l = record {
  known : l.known ≡ front (take l.index l.register.entries);
  few : l.known ≤ l.viewpoint;
}
