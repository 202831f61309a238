-- The command of each request, which the draws determine behind so many law entries.
pub use Rattle.law_generator.specs.Draws.{next, drawn}
use Rattle.std.specs.Prelude.{ℕ, ◌+◌, ◌-◌, ◌==◌, nat_le, nat_lt, List, [], ◌∷◌, ◌++◌, codes, None, if◌then◌else◌}
use Rattle.std.specs.Fmt.{decimal}
use Rattle.desk_base.specs.declared.id.Id.{Id}
use Rattle.law_generator.specs.Acts.{enactment, first_day, work}
use Rattle.law_generator.specs.declared.choice.Choice.{Choice}
use Rattle.law_generator.specs.declared.choice.Choice.TheVariants.{Substitution, Repeal, Withdrawal, Correction}
use Rattle.law_register.specs.declared.law.command.Command.{Command}
use Rattle.law_register.specs.declared.law.command.Command.TheVariants.{Record, Correct, Withdraw}
use Rattle.law_register.specs.declared.law.modification.ModSource.{ModSource}
use Rattle.law_register.specs.declared.law.modification.Modification.{Modification}
use Rattle.law_register.specs.declared.law.modification.Modification.TheVariants.{Textual}
use Rattle.textual_mods.specs.declared.edit.TextualMod.{TextualMod}
use Rattle.textual_mods.specs.declared.edit.TextualMod.TheVariants as edit

-- what a request asks for that draws a number below 8: 0 to 4 a substitution, 5 a repeal, 6 a withdrawal, 7 a correction.
-- Behind one law entry there is nothing to withdraw or to correct, and 6 and 7 count as 0
unfoldable pub choice_of : ℕ → ℕ → Choice
choice_of front number =
    if nat_lt number 5 then Substitution
    else (if number == 5 then Repeal
    else (if nat_le front 1 then Substitution
    else (if number == 6 then Withdrawal else Correction)))

-- the section and the day that a state shows: one of 64, and one of the 3650 from the first day on
abbrev pub section_drawn : ℕ → ℕ
section_drawn x = drawn 64 x + 1

abbrev pub day_drawn : ℕ → ℕ
day_drawn x = first_day + drawn 3650 x

-- the modification that a state shows: the first one of a law entry behind the first
abbrev pub id_drawn : ℕ → ℕ → Id
id_drawn front x = record { law = drawn (front - 1) x + 2; item = 1 }

-- the work that each modification comes from
unfoldable pub source_work : List ℕ
source_work = codes "/akn/gb/act/1999/1"

abbrev pub source : ModSource
source = record { href = source_work; place = 0; provision = None }

-- the wId of a section
abbrev pub section_wid : ℕ → List ℕ
section_wid number = codes "sec_" ++ decimal number

-- a modification that makes an edit from a day on
abbrev pub textual : ℕ → TextualMod → Modification
textual start edit = Textual source (record { start = start; end = None }) edit

-- in a section, the first `e` becomes `ee`
abbrev pub substitution : ℕ → ℕ → Modification
substitution section start =
    textual start (edit.SubstituteText (section_wid section) (record { old = codes "e"; occurrence = 1 }) (codes "ee"))

abbrev pub repeal : ℕ → ℕ → Modification
repeal section start = textual start (edit.Repeal (section_wid section))

-- the substitution, and the repeal, that the two states behind this one show: its section, and then its day
abbrev pub substitution_behind : ℕ → Modification
substitution_behind x = substitution (section_drawn (next x)) (day_drawn (next (next x)))

abbrev pub repeal_behind : ℕ → Modification
repeal_behind x = repeal (section_drawn (next x)) (day_drawn (next (next x)))

-- a modification is recorded alone
abbrev pub record_of : Modification → Command
record_of m = Record work (m ∷ [])

-- a command, and the state of the draws behind it
pub record Asked : Type 0 where
  pub command : Command
  pub state : ℕ

-- what is asked for is drawn by the states behind this one
abbrev pub chosen : Choice → ℕ → ℕ → Asked
chosen Substitution front x = record { command = record_of (substitution_behind x); state = next (next x) }
chosen Repeal front x = record { command = record_of (repeal_behind x); state = next (next x) }
chosen Withdrawal front x = record { command = Withdraw (id_drawn front (next x)); state = next x }
chosen Correction front x = record {
  command = Correct (id_drawn front (next x)) (substitution_behind (next x));
  state = next (next (next x));
}

-- the command that is drawn by the states behind this one: first what is asked for, and then that
unfoldable pub behind : ℕ → ℕ → Asked
behind front x = chosen (choice_of front (drawn 8 (next x))) front (next x)

-- the command of a request: the first enacts the act, without a draw, and each other one is drawn
unfoldable pub asked : ℕ → ℕ → ℕ → Asked
asked request front x = if request == 1 then record { command = enactment; state = x } else behind front x
