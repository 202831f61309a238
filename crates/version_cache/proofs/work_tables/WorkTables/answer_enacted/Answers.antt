use Rattle.std.proofs.Common.{◌∙◌, sym, ap, refl}
use Rattle.law_register.specs.declared.register.known.Known.{Known}
use Rattle.law_register.specs.Answer.Replay.{as_enacted}
use Rattle.law_register.specs.Provisions.Carrying.{held_now}
use Rattle.law_register.specs.Register.KnownNext.{bare}
use Rattle.version_cache.specs.Seen.{work_view}
use Rattle.version_cache.proofs.Answered.{enacted_of}
use Rattle.version_cache.proofs.work_tables.WorkTables.answer_enacted.Goals as goal

pub answer_text-requires : goal.answer_text-requires
answer_text-requires g c =
    let known : Known = record (bare c.args.self.now.known) { act = c.in_ok-copy.field-0 } in
    record {
      known = known;
      of_act = refl;
      is = c.enacted.ensures.version
          ∙ enacted_of (held_now c.args._register.now.entries c.args.question.now.work) (work_view c.args.self.now) c.requires
          ∙ ap as_enacted (sym c.in_ok-copy.ensures);
    }
