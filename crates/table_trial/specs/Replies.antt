-- What is told of a command that is accepted.
use Rattle.std.specs.Prelude.{ℕ, List, ◌++◌, codes}
use Rattle.std.specs.Fmt.{decimal}
use Rattle.desk_base.specs.Days.{day_text}
use Rattle.law_register.specs.declared.register.verdict.Reply.{Reply}
use Rattle.law_register.specs.declared.register.verdict.Reply.TheVariants as reply

-- a reply, as a JSON object of one member
abbrev pub reply_text : Reply → List ℕ
reply_text (reply.Law number) = codes "{\"law\":" ++ decimal number ++ codes "}"
reply_text (reply.Draft number) = codes "{\"draft\":" ++ decimal number ++ codes "}"

-- a reply, the day that is touched, and what it costs to revise a table from there
abbrev pub touching_line : Reply → ℕ → ℕ → List ℕ
touching_line reply day cost = reply_text reply ++ codes " touched " ++ day_text day ++ codes " cost " ++ decimal cost

-- a reply to a command that touches no day
abbrev pub untouched_line : Reply → List ℕ
untouched_line reply = reply_text reply ++ codes " touched none cost 0"
