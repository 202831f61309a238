-- The order of the last of some days, and those of the days behind it.
use Rattle.std.proofs.Common.{suc, zero, ◌≡◌, ◌∙◌, sym, ap, refl, subst, ℕ, ◌+◌, ◌-◌, ◌<◌, ◌≤◌, List, [], ◌∷◌, length, map, take, drop, Option, Some, arith}
use Rattle.std.specs.Option.{option_or}
use Rattle.desk_base.specs.declared.id.Id.{Id}
use Rattle.law_register.specs.declared.answer.question.Reading.{Reading}
use Rattle.law_register.specs.declared.register.known.Known.{Known}
use Rattle.law_register.specs.Answer.Order.{order}
use Rattle.version_cache.specs.Days.{last_day, order_by}
use Rattle.version_cache.proofs.Adding.{orders_step}

-- a list from a place on begins with the last of those up to it
cut_at : (days : List ℕ) (n : ℕ) → n < length days → (day : ℕ) × (drop n days ≡ day ∷ drop (suc n) days) × (last_day (take (suc n) days) ≡ Some day)
cut_at [] n h = absurd (omega (arith, h))
cut_at (d ∷ ds) zero h = (d, refl, refl)
cut_at (d ∷ ds) (suc n) h =
    let rest = cut_at ds n (omega (arith, h)) in
    (rest.0, rest.1, ap (λ o. option_or o (Some d)) rest.2)

-- orders of the days from the last of so many on are its own, and those of the days behind it
pub orders_parted : (known : Known) (r : Reading) (days : List ℕ) (n count : ℕ) (first : List Id) (rest : List (List Id)) → n ≡ count - 1 → 1 ≤ count → count ≤ length days
    → first ∷ rest ≡ map (order known r) (drop n days)
    → (first ≡ order_by known r (last_day (take count days))) × (rest ≡ map (order known r) (drop count days))
orders_parted known r days n count first rest is some within orders =
    let next : suc n ≡ count = omega (arith, is, some) in
    let cut = cut_at days n (omega (arith, is, some, within)) in
    let both = orders_step known r first rest cut.0 (drop (suc n) days) (drop n days) cut.1 orders in
    (both.0 ∙ sym (ap (order_by known r) (ap (λ m. last_day (take m days)) (sym next) ∙ cut.2)), both.1 ∙ ap (λ m. map (order known r) (drop m days)) next)
