use Rattle.akn_json.proofs.Places.{dossier_placed}
use Rattle.akn_json.proofs.reading.read_dossier.Goals as goal

pub returns-in_err-value-clause-place : goal.returns-in_err-value-clause-place
returns-in_err-value-clause-place c = dossier_placed c.args.bytes.now

pub returns-clause-place : goal.returns-clause-place
returns-clause-place c = dossier_placed c.args.bytes.now
