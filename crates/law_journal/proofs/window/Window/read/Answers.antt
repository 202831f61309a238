use Rattle.std.proofs.Common.{rules, ◌≡◌, ◌+◌, ◌≤◌, ℕ, List, length, take, drop, ◌∙◌, ap, arith, length-append}
use Rattle.law_journal.proofs.Windows.{copied, joined}
use Rattle.law_journal.proofs.window.Window.read.Goals as goal

pub returns-clause-given : goal.returns-clause-given
returns-clause-given g c tells =
    let long : c.min-count.result ≡ length c.copy_from.new.into = search rules in
    let within : c.in-Some.at + length c.split_at_mut-front.result.0.now ≤ c.args.self.now.held = search rules in
    let are = c.copy_from.ensures.piece ∙ ap (λ (l : List ℕ). take (length c.split_at_mut-front.result.0.now) (drop c.in-Some.at l)) c.deref.ensures.value in
    let before = copied c.args.self.now.bytes.items (g.D.Disk.outlook c.args.disk.now).seen c.args.self.now.start c.args.self.now.held (c.requires.window.same tells)
    c.copy_from.new.into c.in-Some.at c.args.place (length c.split_at_mut-front.result.0.now) c.requires.window.within c.in-Some.ensures.0 within are in
    joined (g.D.Disk.outlook c.args.disk.now).seen c.copy_from.new.into c.read_on-2.new.into c.args.place c.min-count.result c.in_ok-read_on.field-0 long before (c.in_ok-read_on.ensures.given tells)

pub returns-clause-fits : goal.returns-clause-fits
returns-clause-fits g c =
    let long : c.min-count.result ≡ length c.copy_from.new.into = search rules in
    omega (arith, long, c.in_ok-read_on.ensures.fits, length-append c.copy_from.new.into c.read_on-2.new.into)
