use Rattle.std.proofs.Common.{rules, ◌≡◌, ◌∙◌, ap, ℕ, List, length, cond, Some}
use Rattle.std.specs.Str.{bytes_eq}
use Rattle.act_tree.specs.LastNumbers.{last_named}
use Rattle.act_tree.proofs.NotedWids.{led_on}
use Rattle.act_tree.proofs.SoughtLevels.{as_many_hashes}
use Rattle.act_tree.proofs.arena.Arena.add.Goals as goal

pub returns-clause-numbers : goal.returns-clause-numbers
returns-clause-numbers c = λ w.
    let wids : List (List ℕ) = c.args.self.now.numbers.wids in
    let same : c.in_ok-copy.field-0 ≡ c.args.slot.wid = search rules in
    ap (λ (ns : List (List ℕ)). last_named ns w) c.in_ok-add.ensures.ok ∙ led_on wids c.in_ok-copy.field-0 w
    ∙ ap (λ (v : List ℕ). cond (bytes_eq v w) (Some (length wids)) (last_named wids w)) same
    ∙ ap (λ (n : ℕ). cond (bytes_eq c.args.slot.wid w) (Some n) (last_named wids w)) (c.args.self.now.noted ∙ as_many_hashes c.args.self.now)
