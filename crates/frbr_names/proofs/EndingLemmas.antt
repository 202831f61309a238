-- How a name ends: behind its version, and behind its component.
use Rattle.std.proofs.Common.{◌≡◌, ℕ, ◌-◌, Bool, true, false, ◌==◌, if◌then◌else◌, List, [], ◌∷◌, ◌++◌, length, get_or, Option, Some, None, Ok, refl, sym, ap, ◌∙◌, inl, inr, ◌⊎◌, subst, arith}
use Rattle.std.specs.Prelude.{codes, unwrap_or}
use Rattle.std.proofs.lemmas.Bool.{ne_eqb}
use Rattle.frbr_names.specs.declared.fault.NameRule.TheVariants.{OtherComponent, BadPortion}
use Rattle.frbr_names.specs.Reads.{◌>>=◌, ◌>>◌, fault_at, place_of, or_fault, unless_broken}
use Rattle.frbr_names.specs.Parts.{after_front}
use Rattle.frbr_names.specs.Rules.{is_portion}
use Rattle.frbr_names.specs.Expressions.{portion_in, is_component_end, behind_main, ending_in, ending_of, is_portion_or_none, portion_text, IsEnding}
use Rattle.frbr_names.proofs.Readings.{kept_on, found_on}
use Rattle.frbr_names.proofs.FrontLemmas.{front_again}

kept_portion : (p : List ℕ) → is_portion_or_none (Some p) ≡ is_portion p
unfolding is_portion_or_none
kept_portion p = refl

kept_none : is_portion_or_none None ≡ true
unfolding is_portion_or_none
kept_none = refl

portion_read : (place : ℕ) (p : List ℕ) → is_portion p ≡ true → portion_in place (126 ∷ p) ≡ Ok (Some p)
unfolding portion_in after_front
portion_read place p is = rw is refl

behind_slash_read : (place : ℕ) (p : List ℕ) → is_portion p ≡ true → behind_main place (47 ∷ 126 ∷ p) ≡ Ok (Some p)
unfolding behind_main after_front
behind_slash_read place p is = rw (ne_eqb (length (47 ∷ 126 ∷ p)) 0 (λ e. omega arith)) (portion_read place p is)

behind_tilde_read : (place : ℕ) (p : List ℕ) → is_portion p ≡ true → behind_main place (126 ∷ p) ≡ Ok (Some p)
unfolding behind_main after_front
behind_tilde_read place p is = rw (ne_eqb (length (126 ∷ p)) 0 (λ e. omega arith)) (portion_read place p is)

behind_nothing_read : (place : ℕ) → behind_main place [] ≡ Ok None
unfolding behind_main
behind_nothing_read place = refl

portion_ending : (text p : List ℕ) → is_portion p ≡ true → ending_in text (126 ∷ p) ≡ Ok (Some p)
unfolding ending_in
portion_ending text p is = portion_read _ p is

after_main : (rest : List ℕ) → after_front (codes "!main") (codes "!main" ++ rest) ≡ Some rest
unfolding after_front
after_main rest = refl

main_ending : (text rest : List ℕ) (r : Option (List ℕ)) → is_component_end rest ≡ true → ((place : ℕ) → behind_main place rest ≡ Ok r)
    → ending_in text (codes "!main" ++ rest) ≡ Ok r
unfolding ending_in
main_ending text rest r ends read = rw (after_main rest, ends) (read (place_of text rest))

slash_ends : (rest : List ℕ) → is_component_end (47 ∷ rest) ≡ true
unfolding is_component_end
slash_ends rest = refl

tilde_ends : (rest : List ℕ) → is_component_end (126 ∷ rest) ≡ true
unfolding is_component_end
tilde_ends rest = refl

nothing_ends : is_component_end [] ≡ true
unfolding is_component_end
nothing_ends = refl

-- what stands behind the `/` of an ending, if it is not empty
pub record ReadsEnding (text ending : List ℕ) (portion : Option (List ℕ)) (behind : Option (List ℕ)) : Type 0 where
  pub spelled : (ending ≡ []) × (behind ≡ None) ⊎ ((b : List ℕ) × (ending ≡ 47 ∷ b) × (behind ≡ Some b))
  pub read : ending_of text behind ≡ Ok portion

plain_ending : (text : List ℕ) (portion : Option (List ℕ)) → is_portion_or_none portion ≡ true
    → (behind : Option (List ℕ)) × ReadsEnding text (portion_text portion) portion behind
plain_ending text None kept = (None, record { spelled = inl (refl, refl); read = refl })
plain_ending text (Some p) kept =
    (Some (126 ∷ p), record { spelled = inr (126 ∷ p, refl, refl); read = portion_ending text p (sym (kept_portion p) ∙ kept) })

named_ending : (text : List ℕ) (portion : Option (List ℕ)) → is_portion_or_none portion ≡ true
    → (behind : Option (List ℕ)) × ReadsEnding text (codes "/!main" ++ portion_text portion) portion behind
named_ending text None kept =
    (Some (codes "!main" ++ []), record { spelled = inr (codes "!main" ++ [], refl, refl); read = main_ending text [] None nothing_ends behind_nothing_read })
named_ending text (Some p) kept = (
  Some (codes "!main" ++ 47 ∷ 126 ∷ p),
  record {
    spelled = inr (codes "!main" ++ 47 ∷ 126 ∷ p, refl, refl);
    read = main_ending text (47 ∷ 126 ∷ p) (Some p) (slash_ends (126 ∷ p)) (λ place. behind_slash_read place p (sym (kept_portion p) ∙ kept));
  },
)

short_ending : (text p : List ℕ) → is_portion_or_none (Some p) ≡ true → (behind : Option (List ℕ)) × ReadsEnding text (codes "/!main~" ++ p) (Some p) behind
short_ending text p kept = (
  Some (codes "!main" ++ 126 ∷ p),
  record {
    spelled = inr (codes "!main" ++ 126 ∷ p, refl, refl);
    read = main_ending text (126 ∷ p) (Some p) (tilde_ends p) (λ place. behind_tilde_read place p (sym (kept_portion p) ∙ kept));
  },
)

-- each ending of a portion is read as that portion
pub ending_read : (text ending : List ℕ) (portion : Option (List ℕ)) → is_portion_or_none portion ≡ true → IsEnding portion ending
    → (behind : Option (List ℕ)) × ReadsEnding text ending portion behind
ending_read text ending portion kept (inl plain) =
    let Ends : List ℕ → Type 0 = λ ending. (behind : Option (List ℕ)) × ReadsEnding text ending portion behind in
    subst Ends (sym plain) (plain_ending text portion kept)
ending_read text ending portion kept (inr (inl named)) =
    let Ends : List ℕ → Type 0 = λ ending. (behind : Option (List ℕ)) × ReadsEnding text ending portion behind in
    subst Ends (sym named) (named_ending text portion kept)
ending_read text ending portion kept (inr (inr short)) =
    let Ends : List ℕ → Type 0 = λ ending. (behind : Option (List ℕ)) × ReadsEnding text ending portion behind in
    let Both : Option (List ℕ) → Type 0 = λ o. is_portion_or_none o ≡ true → (behind : Option (List ℕ)) × ReadsEnding text (codes "/!main~" ++ short.0) o behind in
    subst Ends (sym short.2) (subst Both (sym short.1) (short_ending text short.0) kept)

-- what was read behind a `~`
record IsPortion (spelled : List ℕ) (r : Option (List ℕ)) : Type 0 where
  portion : List ℕ
  is : r ≡ Some portion
  kept : is_portion portion ≡ true
  whole : spelled ≡ 126 ∷ portion

portion_again : (place : ℕ) (spelled : List ℕ) (r : Option (List ℕ)) → portion_in place spelled ≡ Ok r → IsPortion spelled r
unfolding portion_in
portion_again place spelled r e =
    let (p, found, rest) = found_on (fault_at BadPortion place) (after_front (codes "~") spelled) _ r e in
    let (is, same) = kept_on (fault_at BadPortion place) (is_portion p) _ r rest in
    let here : Some p ≡ r = cc in
    record { portion = p; is = sym here; kept = is; whole = front_again (codes "~") spelled p found }

kept_again : (spelled : List ℕ) (r : Option (List ℕ)) → IsPortion spelled r → is_portion_or_none r ≡ true
kept_again spelled r is = ap is_portion_or_none is.is ∙ kept_portion is.portion ∙ is.kept

-- what was read behind the component `main`
record IsBehindMain (rest : List ℕ) (r : Option (List ℕ)) : Type 0 where
  kept : is_portion_or_none r ≡ true
  whole : (rest ≡ portion_text r) ⊎ ((named : List ℕ) × (r ≡ Some named) × (rest ≡ 126 ∷ named))

main_again : (place : ℕ) (rest : List ℕ) (r : Option (List ℕ)) → behind_main place rest ≡ Ok r → IsBehindMain rest r
unfolding behind_main
main_again place [] r e =
    let here : None ≡ r = cc in
    record { kept = ap is_portion_or_none (sym here) ∙ kept_none; whole = inl (ap portion_text here) }
main_again place (b ∷ bs) r e =
    by (after_front (codes "/") (b ∷ bs)) refl (sym (ap (λ t. if t then Ok None else portion_in place (unwrap_or (after_front (codes "/") (b ∷ bs)) (b ∷ bs))) (ne_eqb (length (b ∷ bs)) 0 (λ z. omega arith))) ∙ e)
  where
    by : (o : Option (List ℕ)) → after_front (codes "/") (b ∷ bs) ≡ o → portion_in place (unwrap_or o (b ∷ bs)) ≡ Ok r → IsBehindMain (b ∷ bs) r
    by None none read =
        let is = portion_again place (b ∷ bs) r read in
        record { kept = kept_again (b ∷ bs) r is; whole = inr (is.portion, is.is, is.whole) }
    by (Some spelled) some read =
        let is = portion_again place spelled r read in
        record {
          kept = kept_again spelled r is;
          whole = inl (front_again (codes "/") (b ∷ bs) spelled some ∙ ap (λ xs. 47 ∷ xs) is.whole ∙ sym (ap portion_text is.is));
        }

-- what was read behind the `/` after a version
pub record IsNamed (ending : List ℕ) (r : Option (List ℕ)) : Type 0 where
  pub kept : is_portion_or_none r ≡ true
  pub is : IsEnding r ending

component_ends : (behind rest : List ℕ) (r : Option (List ℕ)) → behind ≡ codes "!main" ++ rest
    → (rest ≡ portion_text r) ⊎ ((named : List ℕ) × (r ≡ Some named) × (rest ≡ 126 ∷ named)) → IsEnding r (47 ∷ behind)
component_ends behind rest r whole (inl plain) = inr (inl (ap (λ xs. 47 ∷ xs) (whole ∙ ap (λ xs. codes "!main" ++ xs) plain)))
component_ends behind rest r whole (inr short) =
    inr (inr (short.0, short.1, ap (λ xs. 47 ∷ xs) (whole ∙ ap (λ xs. codes "!main" ++ xs) short.2)))

component_again : (behind rest : List ℕ) (r : Option (List ℕ)) → behind ≡ codes "!main" ++ rest → IsBehindMain rest r → IsNamed (47 ∷ behind) r
component_again behind rest r whole main = record { kept = main.kept; is = component_ends behind rest r whole main.whole }

tail_again : (text behind : List ℕ) (r : Option (List ℕ)) → ending_in text behind ≡ Ok r → IsNamed (47 ∷ behind) r
unfolding ending_in
tail_again text behind r e = by (get_or behind 0 0 == 33) refl e
  where
    by : (t : Bool) → (get_or behind 0 0 == 33) ≡ t
        → (if t then (do
          rest ← or_fault (fault_at OtherComponent (place_of text behind - 1)) (after_front (codes "!main") behind)
          unless_broken (fault_at OtherComponent (place_of text behind - 1)) (is_component_end rest)
          behind_main (place_of text rest) rest) else portion_in (place_of text behind - 1) behind) ≡ Ok r
        → IsNamed (47 ∷ behind) r
    by true mark read =
        let (rest, found, more) = found_on (fault_at OtherComponent (place_of text behind - 1)) (after_front (codes "!main") behind) _ r read in
        let (ends, last) = kept_on (fault_at OtherComponent (place_of text behind - 1)) (is_component_end rest) _ r more in
        component_again behind rest r (front_again (codes "!main") behind rest found) (main_again (place_of text rest) rest r last)
    by false other read =
        let is = portion_again (place_of text behind - 1) behind r read in
        record {
          kept = kept_again behind r is;
          is = inl (ap (λ xs. 47 ∷ xs) is.whole ∙ sym (ap portion_text is.is));
        }

-- how the ending is spelled of what was read
pub ending_again : (text : List ℕ) (behind r : Option (List ℕ)) → ending_of text behind ≡ Ok r
    → (ending : List ℕ) × (IsNamed ending r) × ((ending ≡ []) × (behind ≡ None) ⊎ ((b : List ℕ) × (ending ≡ 47 ∷ b) × (behind ≡ Some b)))
ending_again text None r e =
    let here : None ≡ r = cc in
    ([], record { kept = ap is_portion_or_none (sym here) ∙ kept_none; is = inl (ap portion_text here) }, inl (refl, refl))
ending_again text (Some behind) r e = (47 ∷ behind, tail_again text behind r e, inr (behind, refl, refl))
