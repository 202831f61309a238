-- What the parts of a command do to the book of an office.
use Rattle.std.specs.Prelude.{ℕ, ◌≡◌, List, [], ◌∷◌, ◌++◌, Option, Some, None, IsSome, Result, Ok, Err}
use Rattle.law_register.specs.declared.desk.command_fault.CommandFault.{CommandFault}
use Rattle.law_register.specs.declared.desk.command_fault.CommandFault.TheVariants as fails
use Rattle.law_register.specs.declared.register.entry.Entry.{Entry}
use Rattle.law_register.specs.declared.register.verdict.Reply.{Reply}
use Rattle.law_register.specs.declared.register.verdict.Verdict.TheVariants.{Accepted}
use Rattle.law_register.specs.Desk.Commands.{AreSettled}
use Rattle.law_register.specs.Register.Entering.{entered}
use Rattle.law_register.specs.Register.Verdicts.{verdict}
use Rattle.law_office.specs.Offices.{index_standing, pending_of}
use Rattle.law_office.specs.declared.book.Book.{Book}

-- the entries once it is known of the one that was pending whether it was found
abbrev pub resolved : List Entry → Option Entry → Option ℕ → List Entry
resolved entries None found = entries
resolved entries (Some entry) None = entries
resolved entries (Some entry) (Some end) = entries ++ entry ∷ []

-- the cursor of their end
abbrev pub resolved_end : ℕ → Option Entry → Option ℕ → ℕ
resolved_end end None found = end
resolved_end end (Some entry) None = end
resolved_end end (Some entry) (Some next) = next

-- a book is settled, and its index is the one that stands with its entries; or it stays as it was
abbrev pub Settles : Book → Book → Result Unit CommandFault → Type 0
Settles old new (Ok done) =
    AreSettled old.register.entries (pending_of old.pending) new.register.entries × (new.pending ≡ None)
    × (new.refs ≡ index_standing old new.register.entries)
Settles old new (Err (fails.Rule rule)) = ⊥
Settles old new (Err fails.KeeperFault) = (new ≡ old) × IsSome (pending_of old.pending)
Settles old new (Err fails.Memory) = new ≡ old

-- the entries stay, and none is pending
pub record IsStill (old new : Book) : Type 0 where
  pub entries : new.register.entries ≡ old.register.entries
  pub pending : new.pending ≡ None

-- an entry of this command is pending, which is accepted behind the entries with this law number
pub record IsLeft (e : Entry) (old new : Book) : Type 0 where
  pub entries : new.register.entries ≡ old.register.entries
  pub law : Option ℕ
  pub reply : Reply
  pub accepted : verdict old.register.entries e.drafter e.request e.command ≡ Accepted law reply
  pub pending : pending_of new.pending ≡ Some (record e { law = law })

-- what is made of a command, which is given as an entry whose law number is not known yet
abbrev pub Acts : Entry → Book → Book → Result Reply CommandFault → Type 0
Acts e old new (Ok reply) =
    (entered old.register.entries e.drafter e.request e.day e.command ≡ Ok (new.register.entries, reply))
    × (new.pending ≡ None)
Acts e old new (Err (fails.Rule rule)) =
    (entered old.register.entries e.drafter e.request e.day e.command ≡ Err rule) × IsStill old new
Acts e old new (Err fails.KeeperFault) = IsLeft e old new
Acts e old new (Err fails.Memory) = IsStill old new
