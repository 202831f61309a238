-- The first entries of a legal register, and the law that they make.
use Rattle.std.proofs.Common.{◌≡◌, ◌∙◌, sym, ap, subst, ℕ, ◌+◌, ◌≤◌, ◌<◌, nat_le, ◌⊎◌, inl, inr, Bool, true, false, cond, List, [], ◌∷◌, ◌++◌, length, take, Option, Some, None, refl, arith}
use Rattle.std.proofs.lemmas.Bool.Decides.{nat_tests}
use Rattle.std.proofs.lemmas.List.{length-append, take-append-le}
use Rattle.law_register.specs.declared.law.act.Act.{Act}
use Rattle.law_register.specs.declared.law.command.Command.{Command}
use Rattle.law_register.specs.declared.law.command.Command.TheVariants.{Enact, Record, Correct, Withdraw, Restore, DraftAdd, DraftDrop, File}
use Rattle.law_register.specs.declared.register.entry.Entry.{Entry}
use Rattle.law_register.specs.declared.register.indexes.EnactedMark.{EnactedMark}
use Rattle.law_register.specs.Register.Indexes.{EnactedStands}
use Rattle.law_register.specs.Register.KnownIds.{enacted_by, enacted_or, enacted}
use Rattle.law_register.specs.Register.LawList.{law_of, laws, front}
use Rattle.law_register.specs.Register.Listing.{enacted_within}
use Rattle.law_register.specs.Register.Marks.{law_count}
use Rattle.law_register.specs.Register.Verdicts.{verdict, is_accepted, is_legal_from, is_legal}
use Rattle.law_register.proofs.Lists.{by_last, at_most_or, take_all, take_last, take_front}
use Rattle.law_register.proofs.Pushing.{front_is}
use Rattle.law_register.proofs.Puts.{left_true, right_true, and_true}
use Rattle.law_register.proofs.Snoc.{first_act, laws_more, enacted_more}

pub all_known : (es : List Entry) (v : ℕ) → front es ≤ v → laws es ≡ take v (laws es)
all_known es v h = sym (take_all (laws es) v h)

one_law : (c : Command) → law_count c ≤ 1
one_law (DraftAdd work body) = omega arith
one_law (DraftDrop item) = omega arith
one_law (Enact act) = omega arith
one_law (Record work mods) = omega arith
one_law (Correct id body) = omega arith
one_law (Withdraw id) = omega arith
one_law (Restore id) = omega arith
one_law (File work seen) = omega arith

-- the first entries of a legal register are legal
legal_front_from : (before xs ys : List Entry) → is_legal_from before (xs ++ ys) ≡ true → is_legal_from before xs ≡ true
legal_front_from before [] ys h = refl
legal_front_from before (x ∷ xs) ys h =
    let accepted = is_accepted x.law (verdict before x.drafter x.request x.command) in
    and_true accepted (is_legal_from (before ++ x ∷ []) xs) (left_true accepted (is_legal_from (before ++ x ∷ []) (xs ++ ys)) h)
    (legal_front_from (before ++ x ∷ []) xs ys (right_true accepted (is_legal_from (before ++ x ∷ []) (xs ++ ys)) h))

-- the law up to a viewpoint is that of a legal register, too
pub record IsPast (es : List Entry) (v : ℕ) : Type 0 where
  pub before : List Entry
  pub legal : is_legal before ≡ true
  pub known : laws before ≡ take v (laws es)

past_still : (es : List Entry) (e : Entry) (v : ℕ) → v ≤ front es → IsPast es v → IsPast (es ++ e ∷ []) v
past_still es e v few past = record {
  before = past.before;
  legal = past.legal;
  known = past.known ∙ sym (take-append-le v (laws es) (law_of es e) few) ∙ ap (take v) (sym (laws_more es e));
}

past_more : (es : List Entry) (e : Entry) (v : ℕ) → (is_legal es ≡ true → IsPast es v) → is_legal (es ++ e ∷ []) ≡ true → IsPast (es ++ e ∷ []) v
past_more es e v h legal = by (at_most_or v (front es))
  where
    by : (v ≤ front es) ⊎ (front es < v) → IsPast (es ++ e ∷ []) v
    by (inl few) = past_still es e v few (h (legal_front_from [] es (e ∷ []) legal))
    by (inr many) = record {
      before = es ++ e ∷ [];
      legal = legal;
      known = all_known (es ++ e ∷ []) v (omega (arith, many, front_is es e, one_law e.command));
    }

pub past_of : (es : List Entry) (v : ℕ) → is_legal es ≡ true → IsPast es v
past_of es v = by_last (λ xs. is_legal xs ≡ true → IsPast xs v) (λ xs x. past_more xs x v) (λ legal. record { before = []; legal = refl; known = sym (take_all [] v (omega arith)) }) es

-- the act of a work, if a law entry up to a viewpoint enacts it
abbrev pub act_within : ℕ → Option (ℕ × Act) → Option (ℕ × Act)
act_within v None = None
act_within v (Some found) = cond (nat_le found.0 v) (Some found) None

abbrev NumberedIn : ℕ → Option (ℕ × Act) → Type 0
NumberedIn n None = Unit {0}
NumberedIn n (Some found) = found.0 ≤ n

above : (v n : ℕ) → v < n → nat_le n v ≡ false
above v n h = grind (arith, nat_tests)

pub below : (v n : ℕ) → n ≤ v → nat_le n v ≡ true
below v n h = grind (arith, nat_tests)

numbered_more : (n : ℕ) (act : Option Act) (found : Option (ℕ × Act)) → NumberedIn n found → NumberedIn (n + 1) (first_act found (enacted_or (n + 1) act None))
numbered_more n None None h = tt
numbered_more n (Some act) None h = omega arith
numbered_more n act (Some found) h = omega (arith, h)

numbered_in : (w : List ℕ) (ls : List Command) → NumberedIn (length ls) (enacted w ls)
numbered_in w ls = by_last (λ xs. NumberedIn (length xs) (enacted w xs)) more tt ls
  where
    more : (xs : List Command) (l : Command) → NumberedIn (length xs) (enacted w xs) → NumberedIn (length (xs ++ l ∷ [])) (enacted w (xs ++ l ∷ []))
    more xs l h =
        subst (λ n. NumberedIn n (enacted w (xs ++ l ∷ []))) (sym (length-append xs (l ∷ [])))
        (subst (NumberedIn (length xs + 1)) (sym (enacted_more w xs l)) (numbered_more (length xs) (enacted_by w l) (enacted w xs) h))

all_within : (v : ℕ) (found : Option (ℕ × Act)) → NumberedIn v found → act_within v found ≡ found
all_within v None h = refl
all_within v (Some found) h = ap (λ b. cond b (Some found) None) (below v found.0 h)

numbered_later : (n v : ℕ) (found : Option (ℕ × Act)) → n ≤ v → NumberedIn n found → NumberedIn v found
numbered_later n v None few h = tt
numbered_later n v (Some found) few h = omega (arith, few, h)

none_later : (v n : ℕ) (act : Option Act) (found : Option (ℕ × Act)) → v < n → act_within v (first_act found (enacted_or n act None)) ≡ act_within v found
none_later v n act (Some found) h = refl
none_later v n None None h = refl
none_later v n (Some act) None h = ap (λ b. cond b (Some (n, act)) None) (above v n h)

pub enacted_taken : (w : List ℕ) (v : ℕ) (ls : List Command) → enacted w (take v ls) ≡ act_within v (enacted w ls)
enacted_taken w v ls = by_last (λ xs. enacted w (take v xs) ≡ act_within v (enacted w xs)) more (ap (enacted w) (take_all [] v (omega arith))) ls
  where
    more : (xs : List Command) (l : Command) → enacted w (take v xs) ≡ act_within v (enacted w xs) → enacted w (take v (xs ++ l ∷ [])) ≡ act_within v (enacted w (xs ++ l ∷ []))
    more xs l h = by (at_most_or v (length xs))
      where
        by : (v ≤ length xs) ⊎ (length xs < v) → enacted w (take v (xs ++ l ∷ [])) ≡ act_within v (enacted w (xs ++ l ∷ []))
        by (inl few) =
            ap (enacted w) (take_front xs l v few) ∙ h ∙ sym (none_later v (length xs + 1) (enacted_by w l) (enacted w xs) (omega (arith, few)))
            ∙ sym (ap (act_within v) (enacted_more w xs l))
        by (inr many) =
            ap (enacted w) (take_last xs l v many)
            ∙ sym (all_within v (enacted w (xs ++ l ∷ []))
            (numbered_later (length (xs ++ l ∷ [])) v (enacted w (xs ++ l ∷ [])) (omega (arith, many, length-append xs (l ∷ []))) (numbered_in w (xs ++ l ∷ []))))

within_stands : (es : List Entry) (v : ℕ) (m : Option EnactedMark) (found : Option (ℕ × Act)) → EnactedStands es m found → EnactedStands es (enacted_within v m) (act_within v found)
within_stands es v None None h = tt
within_stands es v (Some m) (Some found) h = by (nat_le m.number v) (nat_le found.0 v) (ap (λ n. nat_le n v) h.0)
  where
    by : (b c : Bool) → b ≡ c → EnactedStands es (cond b (Some m) None) (cond c (Some found) None)
    by true true is = h
    by false false is = tt
    by true false is = absurd (let no : true ≡ false = is in cc)
    by false true is = absurd (let no : false ≡ true = is in cc)
within_stands es v None (Some found) h = absurd h
within_stands es v (Some m) None h = absurd h

pub act_known : (es : List Entry) (w : List ℕ) (v : ℕ) (L : List Command) (m : Option EnactedMark) → EnactedStands es m (enacted w L)
    → EnactedStands es (enacted_within v m) (enacted w (take v L))
act_known es w v L m h = subst (EnactedStands es (enacted_within v m)) (sym (enacted_taken w v L)) (within_stands es v m (enacted w L) h)
