use Rattle.std.proofs.Common.{rules, ◌≡◌, ◌+◌, ◌-◌, ◌≤◌, ℕ, List, take, drop, ◌∙◌, sym, ap, arith}
use Rattle.law_journal.proofs.Windows.{piece_same}
use Rattle.law_journal.proofs.window.Window.peek.Goals as goal

pub returns-clause-bytes : goal.returns-clause-bytes
returns-clause-bytes g c tells =
    let w = c.args.self.now in
    let seen = (g.D.Disk.outlook c.args._disk.now).seen in
    let at = c.in_ok-at.at in
    let count = c.args.count in
    let many : at + count - at ≡ count = omega arith in
    let fits : count ≤ w.held - at = search rules in
    let held : w.held ≡ at + (w.held - at) = omega (arith, c.in_ok-at.ensures.1) in
    ap (λ n. take n (drop at c.deref.result.now)) many
    ∙ ap (λ (l : List ℕ). take count (drop at l)) c.deref.ensures.value
    ∙ piece_same w.bytes.items seen w.start w.held (c.requires.same tells) at (w.held - at) count held fits
    ∙ ap (λ p. take count (drop p seen)) (sym c.in_ok-at.ensures.0)
