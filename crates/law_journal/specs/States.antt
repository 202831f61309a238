-- The states of a journal.
use Rattle.std.specs.Prelude.{ℕ, ◌≡◌, ◌+◌, ◌^◌, ◌<◌, ◌≤◌, ◌==◌, false, get_or, List, length, take, Some}
use Rattle.desk_base.specs.Streams.{risen}
use Rattle.law_journal.specs.Disks.{Outlook, Only, Idles}
use Rattle.law_journal.specs.Grammar.{magic, list_of, end_of}
use Rattle.law_journal.specs.Windows.{IsWindow}
use Rattle.law_journal.specs.declared.window.Window.{Window}
use Rattle.desk_base.specs.declared.load_fault.LoadFault.{LoadFault}
use Rattle.desk_base.specs.declared.load_fault.LoadFault.TheVariants.{Failed, Damaged, Memory}

-- a file whose list ends at this gate, which is closed and its last byte
pub record EndsAt (file : List ℕ) (gate : ℕ) : Type 0 where
  pub begins : take 8 file ≡ magic
  pub end : end_of (list_of file) ≡ Some gate
  pub last : length file ≡ gate + 1
  pub is_shut : (get_or file gate 0 == 1) ≡ false

-- a file at rest: nothing stands behind the closed gate that ends its list; the magic and a closed gate are one
abbrev pub IsAtRest : List ℕ → Type 0
IsAtRest file = (gate : ℕ) × EndsAt file gate

-- a disk whose file is at rest is told nothing: no image is left but those that could be left before
abbrev pub LeavesAlone : Outlook → Outlook → Type 0
LeavesAlone old new = old.tells → IsAtRest old.seen → Idles old new

-- what is known of the disk of a journal that is ready: a piece of it, and its closed gate; all of it is on the disk
pub record IsKnown (o : Outlook) (window : Window) (gate : ℕ) : Type 0 where
  pub first : 8 ≤ gate
  pub bound : gate + 1 < 2 ^ 63
  pub piece : IsWindow o window
  pub ends : o.tells → EndsAt o.seen gate
  pub durable : o.tells → Only o.seen o.may_leave

-- where a fault of the disk is told, one was counted; else the count is as it was
abbrev pub HasFault : ℕ → ℕ → LoadFault → Type 0
HasFault before now Failed = now ≡ risen before
HasFault before now (Damaged place byte) = now ≡ before
HasFault before now Memory = now ≡ before
