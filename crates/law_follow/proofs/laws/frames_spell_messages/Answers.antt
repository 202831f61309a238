use Rattle.law_follow.proofs.Catching.{stream_read}
use Rattle.law_follow.proofs.Heads.{frame_read, message_ruled, message_spelled}
use Rattle.law_follow.proofs.laws.frames_spell_messages.Goals as goal

pub returns-clause-spelled : goal.returns-clause-spelled
returns-clause-spelled c = λ m rest is low. frame_read m rest is low

pub returns-clause-read : goal.returns-clause-read
returns-clause-read c = λ bytes rest m all is. message_spelled bytes rest m all is

pub returns-clause-rules : goal.returns-clause-rules
returns-clause-rules c = λ bytes rest m is. message_ruled bytes rest m is

pub returns-clause-stream : goal.returns-clause-stream
returns-clause-stream c = λ ms rest sent. stream_read ms rest sent
