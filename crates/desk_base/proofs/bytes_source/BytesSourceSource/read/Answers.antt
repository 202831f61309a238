use Rattle.std.proofs.Common.{ap, ◌∙◌, ℕ, List, length, min, take, arith}
use Rattle.desk_base.specs.MemoryStreams.{HeldSource}
use Rattle.desk_base.proofs.Pieces.{taken_front, nothing_left}
use Rattle.desk_base.proofs.bytes_source.BytesSourceSource.read.Goals as goal

pub returns-clause-taken : goal.returns-clause-taken
returns-clause-taken c =
    let s = c.self.inside in
    let copied = c.copy_front-n.ensures in
    let wanted = length c.args.into.now in (
      taken_front s.bytes.items c.args.self.now.left c.copy_front-n.new.into s.at c.copy_front-n.result
          (ap (λ (held : HeldSource). held.left) c.self.view_is) (copied.front ∙ ap (take c.copy_front-n.result) c.rest.ensures),
      λ none some. nothing_left s.bytes.items s.at c.copy_front-n.result s.piece wanted
          (copied.count ∙ ap (λ (from : List ℕ). min (min s.piece wanted) (length from)) c.rest.ensures) c.self.invariant.1 (omega (arith, copied.len, some)) none,
    )
