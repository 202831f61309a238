-- A text without the bytes that it begins with.
use Rattle.std.proofs.Common.{◌≡◌, ℕ, false, List, length, drop, Option, Some, None, Bor, refl, sym, ap, ◌∙◌}
use Rattle.std.specs.Prelude.{MatchOption, if◌then◌else◌}
use Rattle.std.specs.Option.{option_copied}
use Rattle.std.specs.Str.Pattern.{FindsTextPrefix, StripsPrefix}
use Rattle.std.proofs.lemmas.Slice.Eq.{starts_is}
use Rattle.std.proofs.lemmas.Str.Pattern.{starts_text}
use Rattle.std.proofs.lemmas.Bool.Decides.{Decides-eqb}
use Rattle.frbr_names.specs.Parts.{after_front}

-- what `strip_prefix` gives at a text
pub stripped : (n s : List ℕ) (r : Option (Bor (List ℕ)))
    → MatchOption r (FindsTextPrefix n s None) (λ x. StripsPrefix (FindsTextPrefix n) s x.now) → option_copied r ≡ after_front n s
unfolding after_front
stripped n s None h = ap (λ t. if t then Some (drop (length n) s) else None) (starts_text false n s h)
stripped n s (Some x) h =
    ap Some (h.2 ∙ ap (λ k. drop k s) h.1.0)
    ∙ ap (λ t. if t then Some (drop (length n) s) else None) (sym ((starts_is Decides-eqb s n _ refl).1 (drop h.0 s) h.1.1))
