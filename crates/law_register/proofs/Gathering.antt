-- The law entries of a work, noted one after another, oldest first.
use Rattle.std.proofs.Common.{◌≡◌, ◌∙◌, sym, ap, subst, ℕ, suc, ◌+◌, ◌-◌, ◌≤◌, ◌<◌, List, [], ◌∷◌, ◌++◌, length, take, Option, Some, slice_get, refl, arith}
use Rattle.desk_base.specs.declared.id.Id.{Id}
use Rattle.law_register.specs.declared.law.command.Command.{Command}
use Rattle.law_register.specs.declared.register.entry.Entry.{Entry}
use Rattle.law_register.specs.declared.register.indexes.BodyMark.{BodyMark}
use Rattle.law_register.specs.declared.register.indexes.IdMark.{IdMark}
use Rattle.law_register.specs.declared.register.indexes.Indexes.{Indexes}
use Rattle.law_register.specs.declared.register.indexes.StepMark.{StepMark}
use Rattle.law_register.specs.Register.Indexes.{bodies_at, IdStands, StepStands}
use Rattle.law_register.specs.Register.KnownIds.{IdFacts, facts_after, facts_of, ids_recorded, ids_of}
use Rattle.law_register.specs.Register.LawList.{laws}
use Rattle.law_register.specs.Register.Listing.{numbers_on, own_facts, id_told, ids_marked}
use Rattle.law_register.specs.Register.Registers.{IsKept}
use Rattle.law_register.specs.Register.Verdicts.{last_on}
use Rattle.law_register.proofs.Chains.{IsNext, IsTurn, last_within, quiet_first, turn_of, turns_over}
use Rattle.law_register.proofs.IdSteps.{fresh}
use Rattle.law_register.proofs.Listed.{legal_records}
use Rattle.law_register.proofs.Marking.{step_at, steps_length}
use Rattle.law_register.proofs.Owned.{own_same, ids_same, own_step, ids_step, few_bodies}
use Rattle.law_register.proofs.Snoc.{facts_more, ids_more}

-- the step of a law entry that concerns a work
pub next_step : (ix : Indexes) (es : List Entry) (w : List ℕ) (number : ℕ) (steps : List StepMark) (s : StepMark) → IsKept ix es → (next : IsNext w (laws es) number)
    → steps ≡ ix.steps.items → slice_get steps (number - 1) ≡ Some s → StepStands es ix.bodies.items (take next.at (laws es)) s next.law
next_step ix es w number steps s kept next are at =
    step_at es ix.bodies.items ix.steps.items (laws es) next.at s next.law kept.stands.steps
    (ap (slice_get ix.steps.items) (less next.at number next.number) ∙ sym (ap (λ ss. slice_get ss (number - 1)) are) ∙ at) next.there
  where
    less : (n k : ℕ) → k ≡ suc n → n ≡ k - 1
    less n k is = omega (arith, is)

pub step_within : (ix : Indexes) (es : List Entry) → IsKept ix es → length ix.steps.items ≡ length (laws es)
step_within ix es kept = steps_length es ix.bodies.items [] ix.steps.items (laws es) kept.stands.steps

pub few_in_step : (ix : Indexes) (es : List Entry) (w : List ℕ) (number : ℕ) (s : StepMark) → IsKept ix es → (next : IsNext w (laws es) number)
    → StepStands es ix.bodies.items (take next.at (laws es)) s next.law → length (bodies_at ix.bodies.items s) ≤ 64
few_in_step ix es w number s kept next stands =
    few_bodies es s.entry (bodies_at ix.bodies.items s) next.law stands.law
    (λ u mods is. legal_records es kept.legal next.at u mods (next.there ∙ ap Some is))

-- the law entries of a work up to one are noted, and these numbers are left
pub record IsNotedTo (es : List Entry) (w : List ℕ) (v : ℕ) (numbers : List ℕ) (mark : Id → Option IdMark) (listed : List Id) : Type 0 where
  pub reached : ℕ
  pub last : last_on w (take reached (laws es)) ≡ reached
  pub rest : numbers ++ numbers_on w (take reached (laws es)) ≡ numbers_on w (take v (laws es))
  pub marks : (i : Id) → IdStands es (mark i) (own_facts w (facts_of i (take reached (laws es))))
  pub ids : listed ≡ ids_of w (take reached (laws es))

pub noted_turn : (es : List Entry) (w : List ℕ) (v number : ℕ) (numbers : List ℕ) (mark : Id → Option IdMark) (ids : List Id)
    → (noted : IsNotedTo es w v (numbers ++ number ∷ []) mark ids) → IsTurn w (laws es) number noted.reached
noted_turn es w v number numbers mark ids noted = turn_of w (laws es) v number noted.reached numbers noted.last noted.rest

pub noted_next : (es : List Entry) (w : List ℕ) (v number : ℕ) (all numbers : List ℕ) (mark : Id → Option IdMark) (ids : List Id) → IsNotedTo es w v all mark ids
    → all ≡ numbers ++ number ∷ [] → IsNext w (laws es) number
noted_next es w v number all numbers mark ids noted is =
    (noted_turn es w v number numbers mark ids (subst (λ ns. IsNotedTo es w v ns mark ids) is noted)).next

pub noted_more : (es : List Entry) (w : List ℕ) (v number : ℕ) (numbers : List ℕ) (old new : Id → Option IdMark) (ids more : List Id) (bodies : List BodyMark) (s : StepMark)
    → (noted : IsNotedTo es w v (numbers ++ number ∷ []) old ids) → (turn : IsTurn w (laws es) number noted.reached)
    → StepStands es bodies (take turn.next.at (laws es)) s turn.next.law
    → ((i : Id) → new i ≡ id_told number s.entry (bodies_at bodies s) i (old i) (slice_get es s.entry)) → more ≡ ids ++ ids_marked number 1 (bodies_at bodies s)
    → IsNotedTo es w v numbers new more
noted_more es w v number numbers old new ids more bodies s noted turn step put add =
    let L : List Command = laws es in
    let front : List Command = take turn.next.at L in
    let bs : List BodyMark = bodies_at bodies s in
    record {
      reached = number;
      last = turn.last;
      rest = ap (λ ns. numbers ++ ns) turn.numbers ∙ sym (append_one numbers number (numbers_on w (take noted.reached L))) ∙ noted.rest;
      marks = λ i.
          let before : IdStands es (old i) (own_facts w (facts_of i front)) =
          subst (IdStands es (old i)) (sym (quiet_first w (λ ls. own_facts w (facts_of i ls)) (own_same w i) L turn.next.at noted.reached turn.before)) (noted.marks i) in
          let after = own_step es w number s.entry bs i (old i) (facts_of i front) before (λ is. fresh i front (is ∙ counted)) front turn.next.law step.law turn.next.concerned in
          let N : Option IdFacts → Type 0 = λ f. IdStands es (new i) (own_facts w f) in
          let M : Option IdMark → Type 0 = λ m. IdStands es m (own_facts w (facts_after i number turn.next.law (facts_of i front))) in
          subst N
          (ap (λ n. facts_after i n turn.next.law (facts_of i front)) counted ∙ sym (facts_more i front turn.next.law) ∙ ap (facts_of i) (sym turn.next.taken))
          (subst M (sym (put i)) after);
      ids = add ∙ ap (λ xs. xs ++ ids_marked number 1 bs) (noted.ids ∙ sym (quiet_first w (ids_of w) (ids_same w) L turn.next.at noted.reached turn.before))
          ∙ ap (λ xs. ids_of w front ++ xs) (ids_step es w number s.entry bs front turn.next.law step.law turn.next.concerned ∙ ap (λ n. ids_recorded n w turn.next.law) counted)
          ∙ sym (ids_more w front turn.next.law) ∙ ap (ids_of w) (sym turn.next.taken);
    }
  where
    counted : number ≡ length (take turn.next.at (laws es)) + 1
    counted = omega (arith, turn.next.number, turn.next.count)

    append_one : (a : List ℕ) (n : ℕ) (b : List ℕ) → (a ++ n ∷ []) ++ b ≡ a ++ n ∷ b
    append_one [] n b = refl
    append_one (x ∷ a) n b = ap (λ ns. x ∷ ns) (append_one a n b)

pub all_marks : (es : List Entry) (w : List ℕ) (v : ℕ) (mark : Id → Option IdMark) (ids : List Id) → IsNotedTo es w v [] mark ids
    → (i : Id) → IdStands es (mark i) (own_facts w (facts_of i (take v (laws es))))
all_marks es w v mark ids noted i =
    subst (IdStands es (mark i))
    (sym (quiet_first w (λ ls. own_facts w (facts_of i ls)) (own_same w i) (laws es) v noted.reached (turns_over w (laws es) v noted.reached noted.last noted.rest))) (noted.marks i)

pub all_ids : (es : List Entry) (w : List ℕ) (v : ℕ) (mark : Id → Option IdMark) (ids : List Id) → IsNotedTo es w v [] mark ids → ids ≡ ids_of w (take v (laws es))
all_ids es w v mark ids noted =
    noted.ids ∙ sym (quiet_first w (ids_of w) (ids_same w) (laws es) v noted.reached (turns_over w (laws es) v noted.reached noted.last noted.rest))

-- the one before it
pub before_step : (ix : Indexes) (es : List Entry) (w : List ℕ) (number : ℕ) (steps : List StepMark) (s : StepMark) → IsKept ix es → (next : IsNext w (laws es) number)
    → steps ≡ ix.steps.items → slice_get steps (number - 1) ≡ Some s → s.before ≡ last_on w (take next.at (laws es))
before_step ix es w number steps s kept next are at = (next_step ix es w number steps s kept next are at).before w next.concerned

pub before_less : (ix : Indexes) (es : List Entry) (w : List ℕ) (number : ℕ) (steps : List StepMark) (s : StepMark) → IsKept ix es → (next : IsNext w (laws es) number)
    → steps ≡ ix.steps.items → slice_get steps (number - 1) ≡ Some s → s.before < number
before_less ix es w number steps s kept next are at =
    omega (arith, before_step ix es w number steps s kept next are at, last_within w (take next.at (laws es)), next.count, next.number)
