-- 1 January of a year is spelled as a text, and read as a day.
use Rattle.std.proofs.Common.{◌≡◌, Some, sym, ap, ◌∙◌, subst}
use Rattle.std.specs.Str.{IsUtf8}
use Rattle.desk_base.specs.Days.{day_of, number_of}
use Rattle.frbr_names.proofs.YearLemmas.{first_utf8, first_read}
use Rattle.frbr_names.proofs.date.first_of_year.Goals as goal

pub unreachable-requires : goal.unreachable-requires
unreachable-requires c =
    c.in_default.ensures.cases.0 (subst IsUtf8 (sym c.spelled_first-spelled.ensures) (first_utf8 c.args.year c.requires.low c.requires.high))

pub unreachable-requires-in-None : goal.unreachable-requires-in-None
unreachable-requires-in-None c =
    let read : day_of c.in-Ok.text.now ≡ Some (number_of c.args.year 1 1) =
    ap day_of (c.in-Ok.ensures.cases.0 ∙ c.spelled_first-spelled.ensures) ∙ first_read c.args.year c.requires.low c.requires.high in
    cc

pub returns : goal.returns
returns c =
    let read : day_of c.in-Ok.text.now ≡ Some (number_of c.args.year 1 1) =
    ap day_of (c.in-Ok.ensures.cases.0 ∙ c.spelled_first-spelled.ensures) ∙ first_read c.args.year c.requires.low c.requires.high in
    cc
