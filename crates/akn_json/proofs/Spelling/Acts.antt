-- An act that is read is well spelled.
use Rattle.std.proofs.Common.{◌≡◌, ℕ, Bool, true, ◌&&◌, ◌==◌, List, length, Ok, refl}
use Rattle.std.specs.List.{list_all}
use Rattle.std.specs.Char.{is_ascii_lowercase}
use Rattle.serde_json.specs.Data.{Data}
use Rattle.frbr_names.specs.Dates.{agrees_with}
use Rattle.frbr_names.specs.Expressions.{is_language}
use Rattle.frbr_names.specs.Works.{date_named}
use Rattle.law_register.specs.declared.law.act.Act.{Act}
use Rattle.law_register.specs.Law.Spelling.{is_spelled_day, is_spelled_payload, is_spelled_act}
use Rattle.akn_json.specs.Reading.Reads.{Read, ◌>>=◌}
use Rattle.akn_json.specs.Reading.Fields.{text_in, day_in}
use Rattle.akn_json.specs.Reading.Acts.{act_day_in, language_in, act_in}
use Rattle.akn_json.proofs.Spelling.Nodes.{nodes_pass}
use Rattle.akn_json.proofs.Spelling.Passing.{Passes, passes, passes_on, passes_from, passes_then, passes_kept, passes_found}

language_passes : (d : Data) → Passes is_language (language_in d)
unfolding language_in
language_passes d =
    passes_on is_language (text_in d) _ (λ text _. passes_kept is_language _ (is_language text) _ (λ is. passes is_language text is))

is_day_of : List ℕ → ℕ → Bool
is_day_of work day = is_spelled_day (date_named work) day

day_passes : (work : List ℕ) (d : Data) → Passes (is_day_of work) (act_day_in work d)
unfolding act_day_in is_day_of
day_passes work d =
    passes_on (is_day_of work) (day_in d) _ (λ day _. passes_found (is_day_of work) _ (date_named work) _
    (λ date named. passes_kept (is_day_of work) _ (agrees_with date day) _ (λ same. passes (is_day_of work) day (rw named same))))

pub act_passes : (d : Data) → Passes is_spelled_act (act_in d)
unfolding act_in is_day_of is_spelled_act
act_passes d =
    search (passes_then, passes_from is_language is_spelled_act, passes_from is_spelled_payload is_spelled_act, passes_on, day_on, language_passes, nodes_pass, done) depth 40
  where
    day_on : (work : List ℕ) (t : Data) (next : ℕ → Read Act) → ((day : ℕ) → is_spelled_day (date_named work) day ≡ true → Passes is_spelled_act (next day))
        → Passes is_spelled_act (act_day_in work t >>= next)
    day_on work t next h = passes_from (is_day_of work) is_spelled_act (act_day_in work t) next (day_passes work t) h

    done : (act : Act) → is_language act.language ≡ true → is_spelled_day (date_named act.work) act.day ≡ true → is_spelled_payload act.body ≡ true
        → Passes is_spelled_act (Ok act)
    done act language day body = passes is_spelled_act act (rw (language, day, body) refl)
