use Rattle.std.proofs.Common.{◌≡◌, ◌+◌, length}
use Rattle.law_journal.specs.Grammar.{magic, magic_fault}
use Rattle.law_journal.proofs.scanning.fault_of.Given as goal

-- what is left differs from what is left of the magic where the whole differs from the whole
abbrev pub invariant-loop-wanted : goal.invariant-loop-wanted
invariant-loop-wanted l = record {
  same : magic_fault l.place l.wanted l.left ≡ magic_fault 0 magic l.fn.bytes;
  place : l.place + length l.wanted ≡ 8;
}

abbrev pub decreases-loop-wanted : goal.decreases-loop-wanted
decreases-loop-wanted l = length l.wanted
