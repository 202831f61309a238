use Rattle.law_register.proofs.Previews.{preview_known}
use Rattle.law_register.proofs.preview_laws.previews_add_items.Goals as goal

pub returns : goal.returns
returns c = preview_known c.args.register.now.entries c.args._drafter.now c.args._work.now
