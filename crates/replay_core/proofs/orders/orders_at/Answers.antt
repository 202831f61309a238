use Rattle.std.proofs.Common.{rules, ◌≡◌, ◌∙◌, ◌+◌, ◌<◌, ◌++◌, sym, ap, ℕ, List, ◌∷◌, drop, length, map}
use Rattle.std.proofs.lemmas.List.{drop_more, length-map}
use Rattle.desk_base.specs.declared.id.Id.{Id}
use Rattle.law_register.specs.declared.answer.question.Reading.{Reading}
use Rattle.law_register.specs.declared.register.known.Known.{Known}
use Rattle.law_register.specs.declared.register.known.KnownMod.{KnownMod}
use Rattle.law_register.specs.Answer.Order.{due_on, order}
use Rattle.law_register.specs.Answer.Soundness.{id_twice}
use Rattle.replay_core.specs.Starts.{due_by, no_start}
use Rattle.replay_core.proofs.DueByDays.{none_due, one_order_more, same_order}
use Rattle.replay_core.proofs.orders.orders_at.Goals as goal

pub loop-day-init : goal.loop-day-init
loop-day-init c =
    let mods : List KnownMod = c.args.known.now.mods in
    let none : c.in_ok-starts.starts.items ≡ map no_start mods = c.in_ok-starts.ensures ∙ ap (map no_start) c.as_slice.ensures in
    record {
      orders = search rules;
      starts = ap length none ∙ length-map mods no_start;
      due = c.new-dues.ensures.empty ∙ sym (none_due mods) ∙ ap (due_by mods) (sym none);
    }

pub turn-requires-clause-once : goal.turn-requires-clause-once
turn-requires-clause-once c = ap (λ (k : Known). id_twice (map (λ m. m.id) k.mods)) c.in_ok-on.ensures.known ∙ c.requires.ids

pub turn-requires-clause-starts : goal.turn-requires-clause-starts
turn-requires-clause-starts c = c.loop-day.invariant.starts ∙ ap (λ (k : Known). length k.mods) (sym c.in_ok-on.ensures.known)

pub turn-requires-clause-due : goal.turn-requires-clause-due
turn-requires-clause-due c = c.loop-day.invariant.due ∙ ap (λ (k : Known). due_by k.mods c.loop-day.starts.items) (sym c.in_ok-on.ensures.known)

pub loop-day-preserved : goal.loop-day-preserved
loop-day-preserved c =
    let known : Known = c.args.known.now in
    let r : Reading = c.args.reading in
    let days : List ℕ = c.args.days.now in
    let i : ℕ = c.loop-day.day-index in
    let day : ℕ = c.day-item.result in
    let within : i < length days = search rules in
    let cut : drop i days ≡ day ∷ drop (i + 1) days = drop_more days i day within ∙ ap (λ d. d ∷ drop (i + 1) days) (sym c.day-item.is) in
    let ids : List Id = c.in_ok-ids_of.field-0 in
    let ordered : ids ≡ order known r day =
    c.in_ok-ids_of.ensures ∙ same_order c.in_ok-on.on.known.now known c.in_ok-on.on.reading r c.in_ok-on.on.day day c.turn.new.dues.keys
    c.in_ok-on.ensures.known c.in_ok-on.ensures.reading c.in_ok-on.ensures.day c.in_ok-turn.ensures.due in
    record {
      orders =
          ap (λ (os : List (List Id)). os ++ map (order known r) (drop (i + 1) days)) c.in_ok-push.ensures.items
          ∙ one_order_more known r c.loop-day.orders.items ids day (drop (i + 1) days) (drop i days) days cut ordered c.loop-day.invariant.orders;
      starts = c.in_ok-turn.ensures.starts ∙ ap (λ (k : Known). length k.mods) c.in_ok-on.ensures.known;
      due = c.in_ok-turn.ensures.by ∙ ap (λ (k : Known). due_by k.mods c.turn.new.starts.items) c.in_ok-on.ensures.known;
    }
