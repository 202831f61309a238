-- Equal commands: those of which all values are equal.
use Rattle.std.specs.Prelude.{ℕ, ◌==◌, Bool, Option}
use Rattle.std.specs.Option.{option_eq}
use Rattle.law_register.specs.contracts.law.command.CommandPartialEq.TheImpl.{ghosts}
use Rattle.law_register.specs.declared.law.command.Command.{Command}

-- two numbers or none
abbrev pub same_number : Option ℕ → Option ℕ → Bool
same_number = option_eq ◌==◌

-- two commands, by `==`
unfoldable pub same_command : Command → Command → Bool
same_command a b = ghosts.eq a b
