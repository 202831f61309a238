-- What can be given to a keeper.
use Rattle.std.proofs.Common.{◌≡◌, ◌∙◌, sym, ap, subst, ℕ, ◌≤◌, IsTrue, List, length, arith}
use Rattle.std.proofs.lemmas.Bool.Decides.{nat_tests}
use Rattle.law_journal.specs.Grammar.{is_size}
use Rattle.law_register.specs.declared.register.entry.Entry.{Entry}
use Rattle.law_register.specs.Desk.States.{MayFollow}
use Rattle.law_register.specs.Law.Sizes.{entry_size}
use Rattle.law_register.proofs.Legal.{accepted_new, kept_rules, some_size}
use Rattle.law_register.proofs.Limits.{small_entry}
use Rattle.law_register.proofs.Spellable.{accepted_can}
use Rattle.entry_codec.specs.Entries.{spelling}
use Rattle.entry_codec.proofs.Lengths.{entry_long}

-- an accepted entry has the size of a payload
pub has_size : (entries : List Entry) (e : Entry) (bytes : List ℕ) → MayFollow entries e → bytes ≡ spelling e → IsTrue (is_size (length bytes))
has_size entries e bytes follows is =
    let new = accepted_new entries e.drafter e.request e.command e.law follows.accepted in
    let size : length bytes ≡ entry_size e = ap length is ∙ entry_long e follows.spelled (accepted_can entries e follows.accepted follows.spelled) in
    let some = some_size e.drafter e.command in
    let most = small_entry entries e.drafter e.command (kept_rules entries e.drafter e.command new.kept).register in
    subst (λ n. IsTrue (is_size n)) (sym size) (fits (entry_size e) some most)
  where
    fits : (n : ℕ) → 1 ≤ n → n ≤ 16777216 → IsTrue (is_size n)
    fits n some most = grind (arith, nat_tests)
