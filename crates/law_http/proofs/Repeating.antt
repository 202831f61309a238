-- A repeat gets the first reply, and changes nothing.
use Rattle.std.proofs.Common.{◌≡◌, ◌∙◌, ap, ℕ, true, not, List, Option, Some, Ok}
use Rattle.std.specs.Option.{option_map_or}
use Rattle.law_register.proofs.Equality.{commands_decide}
use Rattle.law_register.specs.Law.Same.{same_command}
use Rattle.law_register.specs.Register.Entering.{entered, entered_by}
use Rattle.law_register.specs.Register.Verdicts.{again, broken_where, newly, reply_number, request_of, verdict}
use Rattle.law_register.specs.declared.law.command.Command.{Command}
use Rattle.law_register.specs.declared.register.entry.Entry.{Entry}
use Rattle.law_register.specs.declared.register.rules.Rule.TheVariants as rules
use Rattle.law_register.specs.declared.register.verdict.Reply.{Reply as Outcome}
use Rattle.law_register.specs.declared.register.verdict.Verdict.TheVariants.{Repeat, Refused}

itself : (a b : Command) → a ≡ b → same_command a b ≡ true
unfolding same_command
itself a b same = (commands_decide a b).1 same

pub repeated : (es : List Entry) (d : List ℕ) (r day : ℕ) (c : Command) (e : Entry) (said : Outcome) → request_of es d r ≡ Some (e, said) → e.command ≡ c
    → entered es d r day c ≡ Ok (es, said)
unfolding entered verdict
repeated es d r day c e said is same =
    ap (λ (found : Option (Entry × Outcome)). entered_by es d r day c (option_map_or (λ f. again c f) found (newly es d c))) is
    ∙ ap (λ t. entered_by es d r day c (option_map_or (λ x. Refused x) (broken_where (not t) (rules.NumberReused (reply_number said))) (Repeat said))) (itself e.command c same)
