use Rattle.entry_codec.proofs.Texts.{text_read, text_broken}
use Rattle.entry_codec.proofs.reading.reader.Reader.text_of.Goals as goal

pub returns-in-Ok : goal.returns-in-Ok
returns-in-Ok c = text_read _ _ _ _ _ c.in_ok-bytes.ensures.value c.in-Ok.ensures.cases.0 c.in-Ok.ensures.cases.1

pub returns-in-Err : goal.returns-in-Err
returns-in-Err c = text_broken _ _ _ _ c.in_ok-bytes.ensures.value c.in-Err.ensures.cases.0
