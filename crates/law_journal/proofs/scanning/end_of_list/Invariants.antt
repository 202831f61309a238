use Rattle.std.proofs.Common.{◌≡◌, ◌-◌, ◌<◌, ◌≤◌, drop}
use Rattle.law_journal.specs.Disks.{Idles}
use Rattle.law_journal.specs.Windows.{IsWindow}
use Rattle.law_journal.specs.Journals.{IsJournal}
use Rattle.law_journal.proofs.scanning.end_of_list.Given as goal

-- the file is whole records up to this gate, and the disk has idled
abbrev pub invariant-loop-place : goal.invariant-loop-place
invariant-loop-place g l = record {
  first : 8 ≤ l.place;
  within : l.place < l.len;
  window : IsWindow (g.D.Disk.outlook l.disk) l.window;
  idle : Idles (g.D.Disk.outlook l.fn.disk) (g.D.Disk.outlook l.disk);
  faults : g.D.Disk.faults l.disk ≡ g.D.Disk.faults l.fn.disk;
  walked : (g.D.Disk.outlook l.fn.disk).tells → IsJournal (g.D.Disk.outlook l.fn.disk).seen l.place (drop l.place (g.D.Disk.outlook l.fn.disk).seen);
}

abbrev pub decreases-loop-place : goal.decreases-loop-place
decreases-loop-place g l = l.len - l.place
