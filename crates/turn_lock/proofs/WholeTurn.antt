-- The steps of a turn, one after another.
use Rattle.std.proofs.Common.{◌≡◌, ℕ, List, [], ◌∷◌, sym, ap, ◌∙◌, subst, Option, Some, None}
use mathlib.Core.List.{IsPrefix}
use Rattle.atomic_table.specs.Table.{rest}
use Rattle.atomic_table.specs.declared.shared.Seat.{Seat}
use Rattle.turn_lock.specs.declared.view.View.{View}
use Rattle.turn_lock.specs.declared.view.Stage.TheVariants.{Waiting, Serving, Holding}
use Rattle.turn_lock.specs.Ladder.{Sat, staged, extended, shown}
use Rattle.turn_lock.specs.Turned.{IsSameSeat, HasTaken, HasGiven}
use Rattle.turn_lock.proofs.Ladder.{some_or, in_hand, past_or}

module _ {T I : Type 0} (history : T → List I) (origin : T → List ℕ) where
  -- a ticket waited, was served, and took the value out
  pub taken : (before after : Seat (Option T) (View I)) (waiting serving holding : Sat T I) (ticket : ℕ) (past : List I) (value result : T) (out : Option T)
      → IsSameSeat before after
      → waiting ≡ (staged before.me.0 (Waiting ticket), [])
      → IsPrefix waiting.0.seen past → serving ≡ (staged waiting.0 (Serving ticket past), waiting.1)
      → history value ≡ past → origin value ≡ serving.0.origin → holding ≡ (staged serving.0 (Holding ticket past), (0, Some value) ∷ serving.1)
      → holding.1 ≡ (0, out) ∷ rest holding.1 → after.me ≡ (holding.0, (0, None) ∷ rest holding.1) → out ≡ Some result
      → HasTaken history origin before result after
  taken before after waiting serving holding ticket past value result out same waits begins serves has_past has_origin holds gives leaves is =
      let it : value ≡ result = ap (in_hand value) (sym (ap (λ (m : Sat T I). m.1) holds) ∙ gives) ∙ ap (some_or value) is in
      let now : past ≡ history result = sym has_past ∙ ap history it in
      let nothing : Sat T I → Sat T I = λ m. (m.0, (0, None) ∷ rest m.1) in
      let holder : Sat T I → Sat T I = λ m. (staged m.0 (Holding ticket past), (0, None) ∷ m.1) in
      record {
        same = same;
        ticket = ticket;
        holds = leaves
            ∙ (ap nothing holds ∙ (ap holder serves ∙ (ap holder waits ∙ (λ i. (staged before.me.0 (Holding ticket (now i)), (0, None) ∷ [])))));
        begins = subst (IsPrefix before.me.0.seen) now (subst (λ (l : List I). IsPrefix l past) (ap (λ (m : Sat T I). m.0.seen) waits) begins);
        has_origin = ap origin (sym it) ∙ (has_origin ∙ (ap (λ (m : Sat T I). m.0.origin) serves ∙ ap (λ (m : Sat T I). m.0.origin) waits));
      }

  -- a value was put in hand, its length noted, put home, and the turn passed on
  pub given_back : (before after : Seat (Option T) (View I)) (bearing noted home : Sat T I) (ticket : ℕ) (found : List I) (value : T)
      → IsSameSeat before after
      → before.me.0.stage ≡ Holding ticket found
      → bearing ≡ (before.me.0, (0, Some value) ∷ [])
      → noted ≡ (extended bearing.0 ticket found (history value), bearing.1)
      → home ≡ (staged noted.0 (Serving ticket (history value)), rest noted.1)
      → after.me ≡ (shown home.0 (history value), home.1)
      → HasGiven history before value after
  given_back before after bearing noted home ticket found value same is bears notes homes passes =
      let past : List I = history value in
      let seer : Sat T I → Sat T I = λ m. (shown m.0 past, m.1) in
      let freed : Sat T I → Sat T I = λ m. (shown m.0 past, rest m.1) in
      let grower : Sat T I → Sat T I = λ m. (shown (extended m.0 ticket found past) past, rest m.1) in
      record {
        same = same;
        holds = λ ticket' found' is'. let like : found ≡ found' = ap (past_or []) (sym is ∙ is') in
            passes ∙ (ap seer homes ∙ (ap freed notes ∙ (ap grower bears ∙ (λ i. (shown (extended before.me.0 ticket' (like i) past) past, [])))));
      }
