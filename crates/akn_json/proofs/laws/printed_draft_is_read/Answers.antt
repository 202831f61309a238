use Rattle.akn_json.proofs.ReadBack.Drafts.{draft_back}
use Rattle.akn_json.proofs.laws.printed_draft_is_read.Goals as goal

pub returns : goal.returns
returns c = draft_back c.args.draft.now c.draft_is_typed.ensures
