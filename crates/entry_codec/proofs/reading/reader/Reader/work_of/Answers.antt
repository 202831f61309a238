use Rattle.std.proofs.Common.{Ok, sym, ap, ◌∙◌}
use Rattle.entry_codec.proofs.Texts.{work_read}
use Rattle.entry_codec.proofs.reading.reader.Reader.work_of.Goals as goal

pub returns-in_ok-copy_of-in-Ok : goal.returns-in_ok-copy_of-in-Ok
returns-in_ok-copy_of-in-Ok c =
    work_read _ _ _ _ _ c.in_ok-text.ensures c.in-Ok.ensures
    ∙ ap (λ x. Ok (x, c.text_of.new.self.left.now)) (sym c.in_ok-copy_of-in-Ok.ensures)
