-- What is kept of works as an entry moves them, one after another.
use Rattle.std.specs.Prelude.{map, option_map}
use Rattle.law_office.specs.declared.sources_then.SourcesThen.{SourcesThen}
use Rattle.law_office.specs.Movements.{then_of}
use Rattle.law_office.specs.Tables.{Kept, enacted_view, kept_in, revised_view}

-- what is kept of each work then
abbrev pub kept_of_then : SourcesThen → Kept
kept_of_then sources =
    then_of (option_map (λ e. enacted_view e.now) sources.enacted) (map revised_view sources.revised.now) (kept_in sources.tables.now)
