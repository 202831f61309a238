use Rattle.source_provisions.proofs.Own.{is_line}
use Rattle.source_provisions.proofs.laws.laws_have_lines.Goals as goal

pub returns : goal.returns
returns c = is_line
