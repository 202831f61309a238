use Rattle.std.proofs.Common.{rules, ◌≡◌, length}
use Rattle.std.proofs.lemmas.List.{with_items_is}
use Rattle.law_journal.proofs.Windows.{filled}
use Rattle.law_journal.proofs.window.Window.fill.Goals as goal

pub returns-clause-window : goal.returns-clause-window
returns-clause-window g c =
    let long : length c.read.new.into ≡ c.args.self.now.bytes.len = search rules in
    let is = filled _ _ _ _ _ _ (with_items_is c.args.self.now.bytes c.read.new.into long) c.read.ensures.idle c.in_ok-self.ensures.fits c.in_ok-self.ensures.given in
    record { within = is.within; same = is.same }
