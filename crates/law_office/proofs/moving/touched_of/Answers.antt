use Rattle.std.proofs.Common.{◌∙◌, sym, ap, subst, List, map}
use Rattle.law_register.specs.declared.register.known.Known.{Known}
use Rattle.held_provisions.specs.Reaching.{AreEnough}
use Rattle.law_office.specs.Tables.{kept_in}
use Rattle.law_office.proofs.Enough.{enough}
use Rattle.law_office.proofs.moving.touched_of.Goals as goal

pub touched_in_lines-requires-clause-lines : goal.touched_in_lines-requires-clause-lines
touched_in_lines-requires-clause-lines c =
    let es = c.args.register.now.entries in
    let e = c.args.entry.now in
    let both =
    enough es e c.entries_are_legal.ensures (kept_in c.args.tables.now) c.requires.right c.args.concerned.now c.requires.concerned c.requires.known c.args.names.now c.requires.names in
    subst (λ (ks : List Known). AreEnough es e ks (map (λ one. one.known.now) c.as_slice-after.result.now))
    (sym (ap (map (λ one. one.known.now)) c.as_slice-before.ensures.value ∙ c.in_ok-old.ensures))
    (subst (AreEnough es e _) (sym (ap (map (λ one. one.known.now)) c.as_slice-after.ensures.value ∙ c.in_ok-new.ensures)) both)
