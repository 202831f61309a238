-- Where no modification names a provision it costs what it cost, and nothing has to be held.
use Rattle.std.proofs.Common.{◌≡◌, ◌∙◌, sym, ap, refl, ℕ, ◌+◌, nat_le, false, cond, ◌&&◌, ◌||◌, List, [], ◌∷◌, ◌++◌, filter, map}
use Rattle.std.specs.List.{list_any, sum_by}
use Rattle.std.specs.Str.{bytes_eq}
use Rattle.desk_base.specs.declared.id.Id.{Id}
use Rattle.law_register.specs.declared.answer.question.Reading.{Reading}
use Rattle.law_register.specs.declared.register.entry.Entry.{Entry}
use Rattle.law_register.specs.declared.register.known.Known.{Known}
use Rattle.law_register.specs.Answer.Applied.{ids_applied}
use Rattle.law_register.specs.Answer.Breakpoints.{breakpoints, days_with, insert_days, period_days}
use Rattle.law_register.specs.Answer.Costs.{cost_after, revision_cost}
use Rattle.law_register.specs.Answer.Order.{order}
use Rattle.law_register.specs.Answer.Standing.{alone, mod_alone}
use Rattle.law_register.specs.Register.LawList.{laws}
use Rattle.law_register.specs.Provisions.Costs.{WorkNeeds, cost_over, costs_in, entry_cost_in, full, held_cost, is_one_of, needs_along, needs_through, revision_cost_in}
use Rattle.law_register.specs.Provisions.Depending.{breakpoints_of, days_along}
use Rattle.law_register.specs.Provisions.Line.{line, work_in}
use Rattle.law_register.specs.Provisions.Looking.{names_any}
use Rattle.law_register.specs.Provisions.Touching.{touched_works}
use Rattle.law_register.specs.Provisions.Trees.{order_in, trees}
use Rattle.source_provisions.proofs.Days.{independent, no_more, none_of}
use Rattle.source_provisions.proofs.Looking.{unnamed_alone}
use Rattle.source_provisions.proofs.Uncarried.{live_kept}

-- orders that are those of a work cost what its own cost
pub over_alike : (known : Known) (reading : Reading) (orders : ℕ → List Id) → ((day : ℕ) → orders day ≡ order known reading day) → (touched : ℕ) (before : List Id) (days : List ℕ)
    → cost_over orders touched before days ≡ cost_after known reading touched before days
over_alike known reading orders same touched before [] = refl
over_alike known reading orders same touched before (day ∷ days) =
    ap (λ ids. cond (nat_le touched day) (ids_applied before ids) 0 + cost_over orders touched ids days) (same day)
    ∙ ap (λ n. cond (nat_le touched day) (ids_applied before (order known reading day)) 0 + n)
    (over_alike known reading orders same touched (order known reading day) days)

module _ (works : List Known) (known : Known) (none : names_any known ≡ false) where
  order_alone : (reading : Reading) (day : ℕ) → order_in works known reading day ≡ order (alone known) reading day
  order_alone reading day = ap (λ (k : Known). order k reading day) (unnamed_alone works (trees works reading day) reading day known none)

  breakpoints_alone : breakpoints_of works known ≡ breakpoints (alone known)
  breakpoints_alone =
      ap (days_with known) (no_more works known (days_along works) (none_of works known (days_along works) none))
      ∙ ap (insert_days (period_days known.act.force)) (sym (live_kept mod_alone (λ m. refl) known.mods))

  pub cost_alone : (reading : Reading) (touched : ℕ) → revision_cost_in works known reading touched ≡ revision_cost (alone known) reading touched
  unfolding revision_cost_in revision_cost
  cost_alone reading touched =
      ap (cost_over (order_in works known reading) touched []) breakpoints_alone
      ∙ over_alike (alone known) reading (order_in works known reading) (order_alone reading) touched [] (breakpoints (alone known))

  through_none : (other : Known) (ws : List WorkNeeds) → list_any (needs_through works known other) ws ≡ false
  through_none other [] = refl
  through_none other (w ∷ ws) =
      ap (λ b. (b && (bytes_eq w.known.act.work other.act.work || is_one_of w.needs other)) || list_any (needs_through works known other) ws)
      (independent works known w.known.act.work none)
      ∙ through_none other ws

  nothing_needed : (ahead : List WorkNeeds) (ks : List Known) → filter (λ other. list_any (needs_through works known other) ahead) ks ≡ []
  nothing_needed ahead [] = refl
  nothing_needed ahead (k ∷ ks) =
      ap (λ b. cond b (k ∷ filter (λ other. list_any (needs_through works known other) ahead) ks) (filter (λ other. list_any (needs_through works known other) ahead) ks))
      (through_none k ahead)
      ∙ nothing_needed ahead ks

  pub held_for_nothing : held_cost works known ≡ 0
  held_for_nothing = ap (sum_by (full works)) (nothing_needed (needs_along works) (map (λ w. w.known) (needs_along works)))

pub untouched_is_free : (entries : List Entry) (entry : Entry) → touched_works entries entry ≡ [] → entry_cost_in entries entry ≡ 0
unfolding entry_cost_in
untouched_is_free entries entry none = ap (sum_by (λ (t : List ℕ × ℕ). costs_in (line (laws (entries ++ entry ∷ []))) (work_in t.0 (line (laws (entries ++ entry ∷ [])))) t.1)) none
