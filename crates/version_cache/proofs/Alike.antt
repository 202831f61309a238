-- What is kept of a work is for it still, where only the numbers of law entries move.
use Rattle.std.proofs.Common.{◌≡◌, ◌∙◌, ap, ℕ, List, map}
use Rattle.std.specs.List.{list_any}
use Rattle.law_register.specs.declared.answer.question.Reading.{Reading}
use Rattle.law_register.specs.declared.law.act.Act.{Act}
use Rattle.law_register.specs.declared.register.known.Known.{Known}
use Rattle.law_register.specs.declared.register.known.KnownMod.{KnownMod}
use Rattle.law_register.specs.Answer.Breakpoints.{breakpoints, insert_days, live_days, period_days}
use Rattle.law_register.specs.Answer.Order.{due_of}
use Rattle.law_register.specs.Answer.Replay.{VersionValue, as_enacted, replay_on, replayed}
use Rattle.law_register.specs.Answer.Standing.{mod_alone}
use Rattle.law_register.specs.Law.Sources.{names_provision}
use Rattle.version_cache.specs.Tables.{IsRight, TableValue}
use Rattle.version_cache.specs.Works.{IsAlike, IsFor, WorkValue, table_in}

-- a replay reads the act and its modifications
replay_of : Reading → ℕ → Act → List KnownMod → VersionValue
replay_of reading day act mods = replayed mods (as_enacted act) (map (λ due. due.id) (due_of reading day mods mods))

same_replay : (old new : Known) → IsAlike old new → (reading : Reading) (day : ℕ) → replay_on old reading day ≡ replay_on new reading day
unfolding replay_of
same_replay old new alike reading day =
    ap (λ act. replay_of reading day act old.mods) alike.act ∙ ap (replay_of reading day new.act) alike.mods

right_still : (old new : Known) → IsAlike old new → (table : TableValue) → IsRight old table → IsRight new table
right_still old new alike table right = record {
  enacted = right.enacted ∙ ap as_enacted alike.act;
  versions = λ day. right.versions day ∙ same_replay old new alike table.reading day;
}

same_days : (old new : Known) → IsAlike old new → breakpoints old ≡ breakpoints new
same_days old new alike =
    ap (λ act. days_by act old.source_days old.mods) alike.act ∙ ap (λ days. days_by new.act days old.mods) alike.sources ∙ ap (days_by new.act new.source_days) alike.mods
  where
    days_by : Act → List ℕ → List KnownMod → List ℕ
    days_by act days mods = insert_days (period_days act.force) (insert_days days (live_days mods))

pub for_still : (old new : Known) (work : WorkValue) → IsAlike old new → IsFor old work → IsFor new work
for_still old new work alike is = record {
  alike = record {
    act = is.alike.act ∙ alike.act;
    enacted = is.alike.enacted ∙ alike.enacted;
    mods = is.alike.mods ∙ ap (map mod_alone) alike.mods;
    sources = is.alike.sources;
  };
  names = is.names ∙ ap (list_any (λ m. names_provision m.body)) alike.mods;
  days = is.days ∙ same_days old new alike;
  tables = record {
    readings = is.tables.readings;
    right = λ reading. right_still old new alike (table_in reading work) (is.tables.right reading);
  };
}
