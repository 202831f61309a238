-- Each of the three ways is all that is promised of it, and none of the others.
use Rattle.std.proofs.Common.{◌≡◌, ◌∙◌, inl, inr, List, ℕ, Option, Some, None, ap, map, string_bytes, option_map, refl, sym, true≢false}
use Rattle.lawdesk.proofs.TwoRuns.{behind_none, behind_sql, move_is_own, not_both, words_of_move, words_of_run}
use Rattle.lawdesk.proofs.run_two.run_two.Goals as goal

-- a move
pub returns-then-asks_move-clause-status : goal.returns-then-asks_move-clause-status
returns-then-asks_move-clause-status g c = inr c.move_register.ensures.status_is

pub returns-then-asks_move-clause-words : goal.returns-then-asks_move-clause-words
returns-then-asks_move-clause-words g c = words_of_move (map string_bytes c.args.words.now) c.move_register.result (sym c.asks_move.ensures ∙ c.if-asks_move.true) c.move_register.ensures.status_is

pub returns-then-asks_move-clause-moves : goal.returns-then-asks_move-clause-moves
returns-then-asks_move-clause-moves g c = λ is. c.move_register.ensures

pub returns-then-asks_move-clause-move_alone : goal.returns-then-asks_move-clause-move_alone
returns-then-asks_move-clause-move_alone g c = λ is. (refl, refl, refl)

pub returns-then-asks_move-clause-other : goal.returns-then-asks_move-clause-other
returns-then-asks_move-clause-other g c = λ rest some. absurd (not_both (map string_bytes c.args.words.now) rest (move_is_own (map string_bytes c.args.words.now) (sym c.asks_move.ensures ∙ c.if-asks_move.true)) some)

pub returns-then-asks_move-clause-other_alone : goal.returns-then-asks_move-clause-other_alone
returns-then-asks_move-clause-other_alone g c = λ rest some. absurd (not_both (map string_bytes c.args.words.now) rest (move_is_own (map string_bytes c.args.words.now) (sym c.asks_move.ensures ∙ c.if-asks_move.true)) some)

pub returns-then-asks_move-clause-own : goal.returns-then-asks_move-clause-own
returns-then-asks_move-clause-own g c = λ no none. absurd (true≢false (sym (sym c.asks_move.ensures ∙ c.if-asks_move.true) ∙ no))

pub returns-then-asks_move-clause-own_alone : goal.returns-then-asks_move-clause-own_alone
returns-then-asks_move-clause-own_alone g c = λ no none. absurd (true≢false (sym (sym c.asks_move.ensures ∙ c.if-asks_move.true) ∙ no))

-- the words behind `sql`
pub returns-in-Some-clause-status : goal.returns-in-Some-clause-status
returns-in-Some-clause-status g c = inl c.run_over.ensures.status_is

pub returns-in-Some-clause-words : goal.returns-in-Some-clause-words
returns-in-Some-clause-words g c = words_of_run (map string_bytes c.args.words.now) (map string_bytes c.in-Some.rest.now) c.run_over.result (sym c.asks_move.ensures ∙ c.if-asks_move.false) (behind_sql (map string_bytes c.args.words.now) (map string_bytes c.in-Some.rest.now) (sym c.words_for_other.ensures ∙ ap (option_map (λ r. map string_bytes r.now)) c.in-Some.is)) c.run_over.ensures.wrong_words

pub returns-in-Some-clause-moves : goal.returns-in-Some-clause-moves
returns-in-Some-clause-moves g c = λ is. absurd (true≢false (sym is ∙ (sym c.asks_move.ensures ∙ c.if-asks_move.false)))

pub returns-in-Some-clause-move_alone : goal.returns-in-Some-clause-move_alone
returns-in-Some-clause-move_alone g c = λ is. absurd (true≢false (sym is ∙ (sym c.asks_move.ensures ∙ c.if-asks_move.false)))

pub returns-in-Some-clause-other : goal.returns-in-Some-clause-other
returns-in-Some-clause-other g c = λ rest some.
    let is : Some (map string_bytes c.in-Some.rest.now) ≡ Some rest = sym (sym c.words_for_other.ensures ∙ ap (option_map (λ r. map string_bytes r.now)) c.in-Some.is) ∙ some in
    let same : rest ≡ (map string_bytes c.in-Some.rest.now) = cc in
    rw same c.run_over.ensures

pub returns-in-Some-clause-other_alone : goal.returns-in-Some-clause-other_alone
returns-in-Some-clause-other_alone g c = λ rest some. refl

pub returns-in-Some-clause-own : goal.returns-in-Some-clause-own
returns-in-Some-clause-own g c = λ no none. absurd (not_both (map string_bytes c.args.words.now) (map string_bytes c.in-Some.rest.now) none (sym c.words_for_other.ensures ∙ ap (option_map (λ r. map string_bytes r.now)) c.in-Some.is))

pub returns-in-Some-clause-own_alone : goal.returns-in-Some-clause-own_alone
returns-in-Some-clause-own_alone g c = λ no none. absurd (not_both (map string_bytes c.args.words.now) (map string_bytes c.in-Some.rest.now) none (sym c.words_for_other.ensures ∙ ap (option_map (λ r. map string_bytes r.now)) c.in-Some.is))

-- all other words
pub returns-in-None-clause-status : goal.returns-in-None-clause-status
returns-in-None-clause-status g c = inl c.run_over-in-None.ensures.status_is

pub returns-in-None-clause-words : goal.returns-in-None-clause-words
returns-in-None-clause-words g c = words_of_run (map string_bytes c.args.words.now) (map string_bytes c.args.words.now) c.run_over-in-None.result (sym c.asks_move.ensures ∙ c.if-asks_move.false) (behind_none (map string_bytes c.args.words.now) (sym c.words_for_other.ensures ∙ ap (option_map (λ r. map string_bytes r.now)) c.in-None.is)) c.run_over-in-None.ensures.wrong_words

pub returns-in-None-clause-moves : goal.returns-in-None-clause-moves
returns-in-None-clause-moves g c = λ is. absurd (true≢false (sym is ∙ (sym c.asks_move.ensures ∙ c.if-asks_move.false)))

pub returns-in-None-clause-move_alone : goal.returns-in-None-clause-move_alone
returns-in-None-clause-move_alone g c = λ is. absurd (true≢false (sym is ∙ (sym c.asks_move.ensures ∙ c.if-asks_move.false)))

pub returns-in-None-clause-other : goal.returns-in-None-clause-other
returns-in-None-clause-other g c = λ rest some. absurd (not_both (map string_bytes c.args.words.now) rest (sym c.words_for_other.ensures ∙ ap (option_map (λ r. map string_bytes r.now)) c.in-None.is) some)

pub returns-in-None-clause-other_alone : goal.returns-in-None-clause-other_alone
returns-in-None-clause-other_alone g c = λ rest some. absurd (not_both (map string_bytes c.args.words.now) rest (sym c.words_for_other.ensures ∙ ap (option_map (λ r. map string_bytes r.now)) c.in-None.is) some)

pub returns-in-None-clause-own : goal.returns-in-None-clause-own
returns-in-None-clause-own g c = λ no none. c.run_over-in-None.ensures

pub returns-in-None-clause-own_alone : goal.returns-in-None-clause-own_alone
returns-in-None-clause-own_alone g c = λ no none. refl
