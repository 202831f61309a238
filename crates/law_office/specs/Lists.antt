-- What a command makes of its keeper's list, where the keeper tells it.
use Rattle.std.specs.Prelude.{ℕ, ◌≡◌, ◌⊎◌, ◌↔◌, List, IsSome, Result, Ok, Err}
use Rattle.law_journal.specs.Grammar.{Listing}
use Rattle.law_keeper.specs.Keepers.{Holding, IsWithOrWithout}
use Rattle.law_register.specs.declared.desk.command_fault.CommandFault.{CommandFault}
use Rattle.law_register.specs.declared.desk.command_fault.CommandFault.TheVariants as fails
use Rattle.law_register.specs.declared.law.command.Command.{Command}
use Rattle.law_register.specs.declared.register.entry.Entry.{Entry}
use Rattle.law_register.specs.declared.register.rules.Rule.{Rule}
use Rattle.law_register.specs.declared.register.verdict.Reply.{Reply}
use Rattle.law_register.specs.Desk.Commands.{IsIdle, IsPending, IsRefused, IsReplied, Waits}
use Rattle.law_register.specs.Desk.States.{Standing}
use Rattle.law_register.specs.Register.Entering.{entry_of}
use Rattle.entry_codec.specs.Entries.{spelling}
use Rattle.law_office.specs.Opening.{spellings}

-- a list spells exactly these entries
abbrev pub SpellsExactly : List Entry → Listing → Type 0
SpellsExactly entries list = list ≡ Ok (spellings entries)

-- a command of a desk that went from old to new, while its keeper's list went from before to after. Before it the list
-- spells the settled entries: so an entry that was pending is one of these exactly where the list had it
module _ (drafter : List ℕ) (request : ℕ) (command : Command) (old new : Standing) (before after : Listing) where
  -- the command has a reply: the list spells the entries that there are now, and stays where none came
  pub record IsRepliedOver (reply : Reply) : Type 0 where
    pub replied : IsReplied drafter request command old new reply
    pub found : SpellsExactly replied.settled before
    pub kept : SpellsExactly new.entries after
    pub stays : new.entries ≡ replied.settled → after ≡ before

  -- the command breaks a rule: the list stays
  pub record IsRefusedOver (rule : Rule) : Type 0 where
    pub refused : IsRefused drafter request command old new rule
    pub found : SpellsExactly new.entries before
    pub stays : after ≡ before

  -- the keeper failed when it was given the entry: the list stays, or has the entry behind
  pub record IsPendingOver : Type 0 where
    pub left : IsPending drafter request command old new
    pub found : SpellsExactly new.entries before
    pub kept : IsWithOrWithout before (spelling (entry_of drafter request left.day left.law command)) after

  -- the desk is settled, and the command did nothing else
  pub record IsIdleOver : Type 0 where
    pub idle : IsIdle drafter request command old new
    pub found : SpellsExactly new.entries before

  -- nothing has come of the command
  abbrev pub HasWaited : Type 0
  HasWaited = Waits old new × (after ≡ before)

  -- a command ends; where memory was wanting, nothing was put into the list
  abbrev pub EndsWith : Result Reply CommandFault → Type 0
  EndsWith (Ok reply) = IsRepliedOver reply
  EndsWith (Err (fails.Rule rule)) = IsRefusedOver rule
  EndsWith (Err fails.KeeperFault) = (HasWaited × IsSome old.pending) ⊎ IsPendingOver
  EndsWith (Err fails.Memory) = (Waits old new ⊎ IsIdleOver) × (after ≡ before)

-- the same over a keeper, where it tells its list; it tells that after the command exactly where it did before
pub record EndsOver (drafter : List ℕ) (request : ℕ) (command : Command) (old new : Standing) (before after : Holding)
    (result : Result Reply CommandFault) : Type 0 where
  pub tells : before.tells ↔ after.tells
  pub ends : before.tells → EndsWith drafter request command old new before.list after.list result
