-- What is told of what the register knows: of its front, of a work at a viewpoint, and in answer to a question.
use Rattle.std.specs.Prelude.{ℕ, Bool, true, false, List, [], ◌∷◌, ◌++◌, Option, Some, None, Result, Ok, Err, codes}
use Rattle.std.specs.Fmt.{decimal}
use Rattle.std.specs.Option.{option_copied}
use Rattle.serde_json.specs.Written.{compact_text}
use Rattle.akn_json.specs.Printing.Answers.{answer_data}
use Rattle.akn_json.specs.Printing.Refusals.{query_data}
use Rattle.desk_base.specs.Ids.{id_text}
use Rattle.frbr_names.specs.declared.expression_iri.ExpressionIri.{ExpressionIri}
use Rattle.law_register.specs.declared.answer.answer.Answer.{Answer}
use Rattle.law_register.specs.declared.register.known.Known.{Known}
use Rattle.law_register.specs.declared.register.known.KnownMod.{KnownMod}
use Rattle.law_register.specs.declared.answer.question.Question.{Question}
use Rattle.law_register.specs.declared.answer.question.Reading.{Reading}
use Rattle.law_register.specs.declared.answer.queries.QueryRule.{QueryRule}

-- how many law entries and how many entries there are
abbrev pub front_line : ℕ → ℕ → List ℕ
front_line law entries = codes "law " ++ decimal law ++ codes " entries " ++ decimal entries

-- the word behind an id that does not stand
abbrev pub standing_text : Bool → List ℕ
standing_text true = []
standing_text false = codes " withdrawn"

-- an id as it is known
abbrev pub mod_text : KnownMod → List ℕ
mod_text m = codes " " ++ id_text m.id ++ standing_text m.live

-- ids as they are known
abbrev pub mods_text : List KnownMod → List ℕ
mods_text [] = []
mods_text (m ∷ ms) = mod_text m ++ mods_text ms

-- what is known of a work: the law entry that enacts it, the front, and its ids
abbrev pub known_line : Option Known → List ℕ
known_line None = codes "none"
known_line (Some known) =
    codes "enacted " ++ decimal known.enacted ++ codes " front " ++ decimal known.front ++ mods_text known.mods

-- an answer, or the rule that the question breaks
abbrev pub answer_line : Result Answer QueryRule → List ℕ
answer_line (Ok answer) = compact_text (answer_data answer)
answer_line (Err rule) = compact_text (query_data rule)

-- the question for an expression, at a viewpoint and in a reading
abbrev pub question_for : ExpressionIri → ℕ → Reading → Question
question_for iri viewpoint reading = record {
  work = iri.work.text.now;
  language = iri.language;
  version = iri.version;
  portion = option_copied iri.portion;
  viewpoint = viewpoint;
  reading = reading;
}
