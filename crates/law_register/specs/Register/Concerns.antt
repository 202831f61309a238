-- Which work a law entry concerns.
use Rattle.std.specs.Prelude.{ℕ, Bool, false, List, Option, Some, None, option_map}
use Rattle.std.specs.Option.{option_map_or}
use Rattle.std.specs.Str.{bytes_eq}
use Rattle.desk_base.specs.declared.id.Id.{Id}
use Rattle.law_register.specs.declared.law.command.Command.{Command}
use Rattle.law_register.specs.declared.law.command.Command.TheVariants.{Enact, Record, Correct, Withdraw, Restore, File}
use Rattle.law_register.specs.Register.KnownIds.{IdFacts, facts_of}

-- a work is the one that is named, if one is
abbrev pub is_named : List ℕ → Option (List ℕ) → Bool
is_named work named = option_map_or (λ own. bytes_eq own work) named false

-- the work that a command concerns: that which it enacts, to which it records or files, or that of its id; none, of a command on a draft
abbrev pub concerned : (Id → Option (List ℕ)) → Command → Option (List ℕ)
concerned work_of (Enact act) = Some act.work
concerned work_of (Record work mods) = Some work
concerned work_of (File work seen) = Some work
concerned work_of (Correct id body) = work_of id
concerned work_of (Withdraw id) = work_of id
concerned work_of (Restore id) = work_of id
concerned work_of _ = None

-- what is known of an id is of a work
abbrev pub is_of : List ℕ → Option IdFacts → Bool
is_of work facts = is_named work (option_map (λ f. f.work) facts)

-- a law entry behind these concerns a work
abbrev pub concerns : List Command → List ℕ → Command → Bool
concerns before work law = is_named work (concerned (λ id. option_map (λ f. f.work) (facts_of id before)) law)
