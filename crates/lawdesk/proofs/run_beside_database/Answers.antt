-- The database may cross threads.
use denote.Exit.{no}
use denote.Param.Send.{arg_send, param_send}
use Rattle.lawdesk.proofs.Sends.{database_send}
use Rattle.lawdesk.proofs.run_beside_database.Goals as goal

pub run_over-requires-send-O : goal.run_over-requires-send-O
run_over-requires-send-O g c κs within = param_send _ _ (arg_send _ no _ (database_send _))
