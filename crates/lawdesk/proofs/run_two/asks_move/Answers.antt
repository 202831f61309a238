-- Other words are no move.
use Rattle.std.proofs.Common.{string_bytes}
use Rattle.lawdesk.proofs.TwoRuns.{no_move}
use Rattle.lawdesk.proofs.run_two.asks_move.Goals as goal

pub returns : goal.returns
returns c = no_move string_bytes c.args.words.now c.if-words-eq1.false
