-- A table that is right for one view is right before a day for another that agrees before it.
use Rattle.std.proofs.Common.{◌≡◌, ◌∙◌, sym, ap, ℕ, ◌+◌, ◌<◌, arith, List, [], ◌∷◌, Option, Some, None, option_and_then, option_map, refl}
use Rattle.std.specs.List.{AllByRecursion, find}
use Rattle.desk_base.specs.declared.id.Id.{Id}
use Rattle.law_register.specs.declared.answer.question.Reading.{Reading}
use Rattle.law_register.specs.declared.law.act.Act.{Act}
use Rattle.law_register.specs.declared.register.known.Known.{Known}
use Rattle.law_register.specs.declared.register.known.KnownMod.{KnownMod}
use Rattle.law_register.specs.Answer.Counted.{is_same_id}
use Rattle.law_register.specs.Answer.Order.{order}
use Rattle.law_register.specs.Answer.Replay.{as_enacted, edit_in, edit_of, replay_on, replayed}
use Rattle.law_register.proofs.Continuing.{replayed_alike}
use Rattle.version_cache.specs.Agreement.{Agree, AgreeOn, body_of}
use Rattle.version_cache.specs.Tables.{IsRight, IsRightBefore, IsRightUntil, TableValue}

edit_by_body : (mods : List KnownMod) (id : Id) → edit_of mods id ≡ option_and_then edit_in (body_of mods id)
edit_by_body mods id = by (find (λ m. is_same_id m.id id) mods)
  where
    by : (o : Option KnownMod) → option_and_then (λ m. edit_in m.body) o ≡ option_and_then edit_in (option_map (λ m. m.body) o)
    by None = refl
    by (Some m) = refl

same_edits : (old new : List KnownMod) (ids : List Id) → AllByRecursion (λ id. body_of old id ≡ body_of new id) ids → AllByRecursion (λ id. edit_of old id ≡ edit_of new id) ids
same_edits old new [] h = tt
same_edits old new (id ∷ ids) h = (edit_by_body old id ∙ ap (option_and_then edit_in) h.0 ∙ sym (edit_by_body new id), same_edits old new ids h.1)

-- a replay from scratch makes one version of a day on which they agree
pub agreeing_version : (old new : Known) (reading : Reading) (day : ℕ) → old.act ≡ new.act → AgreeOn old new reading day → replay_on old reading day ≡ replay_on new reading day
agreeing_version old new reading day same on =
    ap (replayed old.mods (as_enacted old.act)) on.orders
    ∙ replayed_alike old.mods new.mods (as_enacted old.act) (order new reading day) (same_edits old.mods new.mods (order new reading day) on.bodies)
    ∙ ap (λ (act : Act). replayed new.mods (as_enacted act) (order new reading day)) same

pub agreeing_right : (old new : Known) (touched : ℕ) (table : TableValue) → IsRight old table → Agree old new table.reading (Some touched) → IsRightBefore new touched table
agreeing_right old new touched table right agree = record {
  enacted = right.enacted ∙ ap as_enacted agree.act;
  versions = λ day early. right.versions day ∙ agreeing_version old new table.reading day agree.act (agree.days day early);
}

-- and it is right wherever they agree
pub right_until : (old new : Known) (touched : Option ℕ) (table : TableValue) → IsRight old table → Agree old new table.reading touched → IsRightUntil new touched table
right_until old new None table right agree = record {
  enacted = right.enacted ∙ ap as_enacted agree.act;
  versions = λ day. (agreeing_right old new (day + 1) table right (record { act = agree.act; days = λ d early. agree.days d tt })).versions day (by_next day);
}
  where
    by_next : (day : ℕ) → day < day + 1
    by_next day = omega arith
right_until old new (Some touched) table right agree = agreeing_right old new touched table right agree
