-- What spells an entry has a size that a keeper takes, and stands at the place of the entry.
use Rattle.std.proofs.Common.{◌≡◌, ◌∙◌, sym, ap, subst, arith, ℕ, ◌≤◌, ◌<◌, Bool, true, refl, List, [], ◌∷◌, ◌++◌, length, Vec, Result, Ok, Err, IfOk}
use Rattle.std.specs.Prelude.{IsTrue, get_or}
use Rattle.std.specs.declared.alloc.Global.{Global}
use Rattle.std.specs.List.{list_all}
use Rattle.std.proofs.lemmas.Bool.{and_from}
use Rattle.std.proofs.lemmas.Bool.Decides.{nat_tests}
use Rattle.std.proofs.lemmas.List.{get_or-map}
use Rattle.std.proofs.lemmas.List.Folds.{list_all-append}
use Rattle.law_journal.specs.Grammar.{is_size}
use Rattle.law_register.specs.declared.register.entry.Entry.{Entry}
use Rattle.law_register.specs.Law.Sizes.{entry_size}
use Rattle.law_register.specs.Register.Verdicts.{is_legal}
use Rattle.law_register.proofs.Legal.{IsNew, kept_rules, legally, some_size}
use Rattle.law_register.proofs.Limits.{small_entry}
use Rattle.entry_codec.specs.Entries.{spelling}
use Rattle.law_follow.specs.Opening.{spellings}

fits : (n : ℕ) → 1 ≤ n → n ≤ 16777216 → IsTrue (is_size n)
fits n some most = grind (arith, nat_tests)

pub has_size : (bytes payload : List ℕ) (size : ℕ) → bytes ≡ payload → length bytes ≡ size → 1 ≤ size → size ≤ 16777216 → IsTrue (is_size (length payload))
has_size bytes payload size same long some most =
    subst (λ (p : List ℕ). IsTrue (is_size (length p))) same (subst (λ (n : ℕ). IsTrue (is_size n)) (sym long) (fits size some most))

pub spelled_at : {E : Type 0} (made : Result (Vec ℕ Global) E) (entries : List Entry) (i : ℕ) (e : Entry) → i < length entries → e ≡ get_or entries i e
    → IfOk made (λ bytes. bytes.items ≡ spelling e) → IfOk made (λ bytes. bytes.items ≡ get_or (spellings entries) i [])
spelled_at (Ok bytes) entries i e low at is = is ∙ ap spelling at ∙ sym (get_or-map spelling entries i e [] low)
spelled_at (Err fault) entries i e low at is = tt

-- each entry of a legal register has such a size
abbrev pub has_place : Entry → Bool
has_place e = is_size (entry_size e)

one_has_place : (es : List Entry) (e : Entry) → IsNew es e.drafter e.request e.command e.law → has_place e ≡ true
one_has_place es e new =
    fits (entry_size e) (some_size e.drafter e.command) (small_entry es e.drafter e.command (kept_rules es e.drafter e.command new.kept).register)

more_have_places : (es : List Entry) (e : Entry) → list_all has_place es ≡ true → IsNew es e.drafter e.request e.command e.law
    → list_all has_place (es ++ e ∷ []) ≡ true
more_have_places es e all new =
    list_all-append has_place es (e ∷ []) ∙ and_from (list_all has_place es) (list_all has_place (e ∷ [])) all
    (and_from (has_place e) true (one_has_place es e new) refl)

pub all_have_places : (es : List Entry) → is_legal es ≡ true → list_all has_place es ≡ true
all_have_places es legal = legally (λ (es : List Entry). list_all has_place es ≡ true) more_have_places refl es legal

pub spelled_sized : {E : Type 0} (made : Result (Vec ℕ Global) E) (e : Entry) → has_place e ≡ true → length (spelling e) ≡ entry_size e
    → IfOk made (λ bytes. bytes.items ≡ spelling e) → IfOk made (λ bytes. IsTrue (is_size (length bytes.items)))
spelled_sized (Ok bytes) e has long is = subst (λ (n : ℕ). IsTrue (is_size n)) (sym (ap length is ∙ long)) has
spelled_sized (Err fault) e has long is = tt
