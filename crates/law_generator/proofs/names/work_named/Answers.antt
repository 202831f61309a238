-- What is read of a text that names a work has that text.
use Rattle.std.proofs.Common.{◌≡◌, List, ℕ, subst, IfOk}
use Rattle.law_generator.proofs.Readings.{same_text}
use Rattle.law_generator.proofs.names.work_named.Goals as goal

pub returns : goal.returns
returns c =
    subst (λ (t : List ℕ). IfOk c.copy_of.result (λ name. name ≡ t))
    (same_text c.args.text.now _ c.requires c.in-Ok.ensures) c.copy_of.ensures
