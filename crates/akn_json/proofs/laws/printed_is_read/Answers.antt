use Rattle.akn_json.proofs.ReadBack.Drafts.{modification_text_back}
use Rattle.akn_json.proofs.ReadBack.Modifications.{modification_back, command_back}
use Rattle.akn_json.proofs.laws.printed_is_read.Goals as goal

pub returns-clause-value : goal.returns-clause-value
returns-clause-value c = modification_back c.args.modification.now c.modification_is_typed.ensures

pub returns-clause-command : goal.returns-clause-command
returns-clause-command c = command_back c.args.modification.now c.modification_is_typed.ensures

pub returns-clause-text : goal.returns-clause-text
returns-clause-text c = modification_text_back c.args.modification.now c.modification_is_typed.ensures
