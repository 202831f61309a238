use Rattle.std.proofs.Common.{◌≡◌, ◌∙◌, sym, ap, ℕ, ◌+◌, cond, length, Option, Some, is_some, true, arith}
use Rattle.std.specs.Str.{bytes_eq}
use Rattle.std.specs.Map.{lookup}
use Rattle.law_register.specs.declared.register.indexes.DrafterMark.{DrafterMark}
use Rattle.law_register.specs.Register.Indexes.{added_of, items_in}
use Rattle.law_register.proofs.Puts.{bytes_are}
use Rattle.law_register.proofs.register.marks.redraft.Goals as goal

pub redrafted-mark-requires-clause-few : goal.redrafted-mark-requires-clause-few
redrafted-mark-requires-clause-few c =
    let same : length c.mark_or_none-2.result.items.items ≡ length (items_in (lookup (λ k. bytes_eq c.args.drafter.now k.items) c.args.drafters.now.entries)) =
    ap length c.mark_or_none-2.ensures.items ∙ ap (λ h. length (items_in h)) c.put_drafter-had.ensures.had
    ∙ ap (λ w. length (items_in (lookup (λ k. bytes_eq w k.items) c.args.drafters.now.entries))) c.drafter_key.ensures in
    omega (arith, same, c.requires.few)

pub redrafted-mark-requires-clause-small : goal.redrafted-mark-requires-clause-small
redrafted-mark-requires-clause-small c =
    let same : c.mark_or_none-2.result.added ≡ added_of (lookup (λ k. bytes_eq c.args.drafter.now k.items) c.args.drafters.now.entries) =
    c.mark_or_none-2.ensures.added ∙ ap added_of c.put_drafter-had.ensures.had
    ∙ ap (λ w. added_of (lookup (λ k. bytes_eq w k.items) c.args.drafters.now.entries)) c.drafter_key.ensures in
    omega (arith, same, c.requires.small)

plus_nothing : (n : ℕ) → n + 0 ≡ n
plus_nothing n = omega arith

pub returns-clause-count : goal.returns-clause-count
returns-clause-count c =
    let mid = length c.put_drafter-had.new.drafters.entries in
    let again : is_some c.put_drafter.result ≡ true =
    ap is_some (c.put_drafter.ensures.had ∙ c.put_drafter-had.ensures.marks c.drafter_key-2.result.items
    ∙ ap (λ b. cond b (Some c.mark_or_none.result) (lookup (λ k. bytes_eq c.drafter_key-2.result.items k.items) c.args.drafters.now.entries))
    (bytes_are c.drafter_key.result.items c.drafter_key-2.result.items (c.drafter_key.ensures ∙ sym c.drafter_key-2.ensures))) in
    c.put_drafter.ensures.count ∙ ap (λ b. mid + cond b 0 1) again ∙ plus_nothing mid ∙ c.put_drafter-had.ensures.count
    ∙ ap (λ (h : Option DrafterMark). length c.args.drafters.now.entries + cond (is_some h) 0 1) c.put_drafter-had.ensures.had
    ∙ ap (λ w. length c.args.drafters.now.entries + cond (is_some (lookup (λ k. bytes_eq w k.items) c.args.drafters.now.entries)) 0 1) c.drafter_key.ensures
