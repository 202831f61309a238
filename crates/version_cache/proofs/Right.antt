-- A table whose rows are those of the breakpoints is right.
use Rattle.std.proofs.Common.{◌≡◌, ◌∙◌, sym, ap, refl, ℕ, Bool, true, false, cond, nat_le, List, [], ◌∷◌, Option, Some, None}
use Rattle.std.specs.Option.{option_or}
use Rattle.law_register.specs.declared.answer.question.Reading.{Reading}
use Rattle.law_register.specs.declared.register.known.Known.{Known}
use Rattle.law_register.specs.Answer.Breakpoints.{breakpoints}
use Rattle.law_register.specs.Answer.Replay.{VersionValue, as_enacted, replay_on, replayed}
use Rattle.version_cache.specs.Days.{last_until, order_by}
use Rattle.version_cache.specs.Steady.{CarrySteadily}
use Rattle.version_cache.specs.Tables.{RowValue, IsRight, last_version, rows_on, rows_until, table_of}
use Rattle.version_cache.proofs.LastDay.{order_by_last}

module _ (known : Known) (r : Reading) where
  -- the version of a day, where there is one, or else this one
  abbrev pub version_or : VersionValue → Option ℕ → VersionValue
  version_or before None = before
  version_or before (Some day) = replay_on known r day

  abbrev row_on : ℕ → RowValue
  row_on day = record { day = day; version = replay_on known r day }

  -- of rows of some days the last by a day has the version of the last of these days
  pub last_by : (day : ℕ) (before : VersionValue) (ds : List ℕ) → last_version before (rows_until day (rows_on known r ds)) ≡ version_or before (last_until day ds)
  last_by day before [] = refl
  last_by day before (d ∷ ds) = here (last_by day (replay_on known r d) ds) (last_by day before ds) (nat_le d day)
    where
      or_here : (o : Option ℕ) → version_or (replay_on known r d) o ≡ version_or before (option_or o (Some d))
      or_here None = refl
      or_here (Some last) = refl

      or_before : (o : Option ℕ) → version_or before o ≡ version_or before (option_or o None)
      or_before None = refl
      or_before (Some last) = refl

      here : last_version (replay_on known r d) (rows_until day (rows_on known r ds)) ≡ version_or (replay_on known r d) (last_until day ds)
          → last_version before (rows_until day (rows_on known r ds)) ≡ version_or before (last_until day ds) → (b : Bool)
          → last_version before (cond b (row_on d ∷ rows_until day (rows_on known r ds)) (rows_until day (rows_on known r ds)))
          ≡ version_or before (option_or (last_until day ds) (cond b (Some d) None))
      here taken skipped true = taken ∙ or_here (last_until day ds)
      here taken skipped false = skipped ∙ or_before (last_until day ds)

  -- the version of the last breakpoint by a day is that of the ids that bear then
  pub by_order : (o : Option ℕ) → version_or (as_enacted known.act) o ≡ replayed known.mods (as_enacted known.act) (order_by known r o)
  by_order None = refl
  by_order (Some day) = refl

  -- replay from scratch makes of a day the version of the last breakpoint by then
  pub replay_by_last : CarrySteadily known → (day : ℕ) → replay_on known r day ≡ version_or (as_enacted known.act) (last_until day (breakpoints known))
  replay_by_last steady day = ap (replayed known.mods (as_enacted known.act)) (order_by_last day known steady r) ∙ sym (by_order (last_until day (breakpoints known)))

  -- a table made is right
  pub made_right : CarrySteadily known → IsRight known (table_of known r)
  made_right steady = record {
    enacted = refl;
    versions = λ day.
        last_by day (as_enacted known.act) (breakpoints known) ∙ sym (replay_by_last steady day);
  }

  pub made_is_right : CarrySteadily known → (enacted : VersionValue) (rows : List RowValue) → enacted ≡ as_enacted known.act → rows ≡ rows_on known r (breakpoints known)
      → IsRight known (record { reading = r; enacted = enacted; rows = rows })
  made_is_right steady enacted rows is_enacted is = record {
    enacted = is_enacted;
    versions = λ day.
        ap (λ (v : VersionValue). last_version v (rows_until day rows)) is_enacted
        ∙ ap (λ (xs : List RowValue). last_version (as_enacted known.act) (rows_until day xs)) is
        ∙ (made_right steady).versions day;
  }
