-- The table of a question becomes the latest, and a question is answered from that.
use Rattle.std.proofs.Common.{◌≡◌, ◌∙◌, sym, ap, ap₂, subst, ℕ, ◌+◌, ◌≤◌, ◌⊎◌, inl, inr, Bool, true, false, cond, ◌&&◌, ◌||◌, List, [], ◌∷◌, slice_get, Contains, Option, Some, None, IsSome, option_map, is_some, is_none, take, Err, refl}
use Rattle.std.specs.Map.{keys_of, lookup}
use Rattle.lru.proofs.CallerLemmas.{Contains-lookup_entry}
use Rattle.lru.proofs.Splits.{Contains-head}
use Rattle.law_register.specs.Answer.Answers.{Answers, Judges, answer_of_text, answer_on, asked_day, first_rule, unless_broken}
use Rattle.law_register.specs.Answer.Asking.{answer_at, answer_by, known_for}
use Rattle.law_register.specs.Answer.Replay.{VersionValue, replay_on}
use Rattle.law_register.specs.Provisions.Carrying.{carrying}
use Rattle.law_register.specs.Provisions.Line.{line}
use Rattle.law_register.specs.Register.KnownIds.{known_at}
use Rattle.law_register.specs.Register.KnownNext.{up_to}
use Rattle.law_register.specs.Register.LawList.{front, laws}
use Rattle.law_register.specs.declared.answer.answer.Answer.{Answer}
use Rattle.law_register.specs.declared.answer.queries.AskFault.{AskFault}
use Rattle.law_register.specs.declared.answer.queries.AskFault.TheVariants.{Query, Memory}
use Rattle.law_register.specs.declared.answer.queries.QueryRule.{QueryRule}
use Rattle.law_register.specs.declared.answer.queries.QueryRule.TheVariants.{UnknownWork}
use Rattle.law_register.specs.declared.answer.question.Question.{Question}
use Rattle.law_register.specs.declared.register.entry.Entry.{Entry}
use Rattle.law_register.specs.declared.register.known.Known.{Known}
use Rattle.law_register.specs.Answer.PastAsking.{AreKeysAfter, keys_asked, making_cost, needs_table, past_cost, refusal, refusal_by}
use Rattle.law_register.specs.Answer.PastKeys.{has_key, is_same_key, key_of, keys_after}
use Rattle.viewpoints.specs.Right.{IsLatest, IsRight, IsRightAt}
use Rattle.law_register.specs.declared.answer.past_key.PastKey.{PastKey}
use Rattle.viewpoints.specs.declared.past_tables.PastTable.{PastTable}
use Rattle.viewpoints.proofs.Latest.{found_entry}

-- what is looked for is there exactly where its key is
has_key-lookup : {T : Type 0} (key : PastKey) (past : List (PastKey × PastTable T)) → has_key key (keys_of past) ≡ is_some (lookup (is_same_key key) past)
has_key-lookup key [] = refl
has_key-lookup key (e ∷ es) = by (is_same_key key e.0) (has_key-lookup key es)
  where
    by : (b : Bool) → has_key key (keys_of es) ≡ is_some (lookup (is_same_key key) es)
        → (b || has_key key (keys_of es)) ≡ is_some (cond b (Some e.1) (lookup (is_same_key key) es))
    by true below = refl
    by false below = below

module _ (entries : List Entry) (q : Question) where
  pub needed : IsSome q.version → refusal entries q ≡ None → needs_table entries q ≡ true
  needed dated kept = ap₂ ◌&&◌ dated (ap is_none kept)

  nothing_and : (b : Bool) → (b && false) ≡ false
  nothing_and true = refl
  nothing_and false = refl

  not_needed : (rule : QueryRule) → refusal entries q ≡ Some rule → needs_table entries q ≡ false
  not_needed rule broken = ap (λ b. is_some q.version && b) (ap is_none broken) ∙ nothing_and (is_some q.version)

  pub keys_moved : (keys : List PastKey) → IsSome q.version → refusal entries q ≡ None → keys_asked entries q keys ≡ keys_after (key_of q) keys
  keys_moved keys dated kept = ap (λ b. cond b (keys_after (key_of q) keys) keys) (needed dated kept)

  -- where a rule is told or there was not enough memory, the keys are as they were
  pub keys_stay : (keys : List PastKey) (fault : AskFault) → Judges {A = Unit {0}} (Err fault) (refusal entries q) → AreKeysAfter {A = Unit {0}} (Err fault) keys (keys_asked entries q keys) keys
  keys_stay keys (Query rule) broken = sym (ap (λ b. cond b (keys_after (key_of q) keys) keys) (not_needed rule broken))
  keys_stay keys Memory broken = inr refl

  -- a rule that is told is the answer
  pub told : (fault : AskFault) → IsSome q.version → Judges {A = Unit {0}} (Err fault) (refusal entries q) → Answers {A = Answer} (Err fault) (answer_at entries q)
  unfolding answer_at answer_on
  told Memory dated broken = tt
  told (Query rule) dated broken = by q.version refl dated
    where
      broken_by : (works : List Known) (known : Option Known) → refusal_by q known ≡ Some rule → answer_by q (option_map (carrying works) known) ≡ Err rule
      broken_by works None is = let same : UnknownWork q.work ≡ rule = cc in ap Err same
      broken_by works (Some known) is =
          let held : Known = carrying works known in
          ap (λ r. unless_broken r (answer_of_text held (replay_on held q.reading (asked_day q.version known.act)) q)) is

      by : (version : Option ℕ) → q.version ≡ version → IsSome version → answer_at entries q ≡ Err rule
      by (Some day) is some =
          ap (λ version. answer_by q (known_for entries q.work q.viewpoint version)) is
          ∙ broken_by (line (take q.viewpoint (laws entries))) (known_at entries q.work q.viewpoint) broken
      by None is some = absurd (let no : false ≡ true = some in cc)

  no_day : (version : Option ℕ) → IsSome version → is_none version ≡ false
  no_day (Some day) some = refl
  no_day None some = absurd (let no : false ≡ true = some in cc)

  -- who finds nothing under the key pays for the table
  pub pays : {T : Type 0} (past : List (PastKey × PastTable T)) (key : PastKey) (old new : ℕ) → key ≡ key_of q → IsSome q.version → None ≡ lookup (is_same_key key) past
      → new ≤ old + making_cost (line (take q.viewpoint (laws entries))) q (known_at entries q.work q.viewpoint) → new ≤ old + past_cost entries q (keys_of past)
  pays past key old new same dated absent paid = subst (λ n. new ≤ old + n) (sym cost) paid
    where
      cost : past_cost entries q (keys_of past) ≡ making_cost (line (take q.viewpoint (laws entries))) q (known_at entries q.work q.viewpoint)
      cost =
          ap (λ b. cond b 0 (making_cost (line (take q.viewpoint (laws entries))) q (known_at entries q.work q.viewpoint)))
          (ap₂ ◌||◌ (no_day q.version dated)
          (has_key-lookup (key_of q) past ∙ ap is_some (subst (λ k. lookup (is_same_key k) past ≡ None) same (sym absent))))

  -- what a work carries breaks no rule
  held_refused : (works : List Known) (known : Option Known) → refusal_by q known ≡ refusal_by q (option_map (carrying works) known)
  held_refused works None = refl
  held_refused works (Some known) = refl

  module _ {T : Type 0} (version_on : T → ℕ → VersionValue) where
    pub refusal_is : (kept : PastTable T) (n : ℕ) → n ≡ front entries → IsRightAt version_on entries (key_of q) kept → refusal entries q ≡ first_rule (up_to n kept.known) q
    refusal_is kept n same right =
        held_refused (line (take q.viewpoint (laws entries))) (known_at entries q.work q.viewpoint) ∙ ap (refusal_by q) right.known ∙ ap (λ f. first_rule (up_to f kept.known) q) (sym same)

    -- what is found under the key of a question is right for it
    pub found_right : (past : List (PastKey × PastTable T)) (kept : PastTable T) (key : PastKey) → key ≡ key_of q → IsRight version_on entries past
        → Some kept ≡ lookup (is_same_key key) past → IsRightAt version_on entries (key_of q) kept
    found_right past kept key same right is =
        let found : lookup (is_same_key (key_of q)) past ≡ Some kept = subst (λ k. lookup (is_same_key k) past ≡ Some kept) same (sym is) in
        right (key_of q, kept) (Contains-lookup_entry (is_same_key (key_of q)) past (key_of q, kept) (found_entry (key_of q) past kept found)).0

    pub latest_right : (old new : List (PastKey × PastTable T)) (kept : PastTable T) (key : PastKey) → key ≡ key_of q → IsRight version_on entries old
        → IsRightAt version_on entries (key_of q) kept → IsLatest key kept old new → IsRight version_on entries new
    latest_right old new kept key same right here latest = λ e has. by e (latest.others e has)
      where
        by : (e : PastKey × PastTable T) → Contains old e ⊎ (e ≡ (key, kept)) → IsRightAt version_on entries e.0 e.1
        by e (inl was) = right e was
        by e (inr is) =
            subst (λ (x : PastKey × PastTable T). IsRightAt version_on entries x.0 x.1) (sym is)
            (subst (λ k. IsRightAt version_on entries k kept) (sym same) here)

    -- what is first under the key of a question is right for it
    pub first_right : (past : List (PastKey × PastTable T)) (kept : PastTable T) → IsRight version_on entries past → slice_get (keys_of past) 0 ≡ Some (key_of q)
        → Some kept ≡ option_map (λ (e : PastKey × PastTable T). e.1) (slice_get past 0) → IsRightAt version_on entries (key_of q) kept
    first_right [] kept right first is = absurd (let no : None ≡ Some (key_of q) = first in cc)
    first_right (e ∷ es) kept right first is =
        let key : e.0 ≡ key_of q = cc in
        let value : e.1 ≡ kept = cc in
        subst (λ k. IsRightAt version_on entries k kept) key (subst (IsRightAt version_on entries e.0) value (right e (Contains-head e es)))

    pub none_first : (past : List (PastKey × PastTable T)) → slice_get (keys_of past) 0 ≡ Some (key_of q)
        → None ≡ option_map (λ (e : PastKey × PastTable T). e.1) (slice_get past 0) → ⊥
    none_first [] first is = let no : None ≡ Some (key_of q) = first in cc
    none_first (e ∷ es) first is = let no : None ≡ Some e.1 = is in cc
