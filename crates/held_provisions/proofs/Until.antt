-- The entries that make the law of a viewpoint, and what that law makes known.
use Rattle.std.proofs.Common.{◌≡◌, ◌∙◌, sym, ap, refl, subst, ℕ, zero, suc, ◌+◌, ◌<◌, ◌≤◌, ◌⊎◌, inl, inr, true, List, [], ◌∷◌, ◌++◌, append_assoc, append-nil, drop, length, take, Option, arith}
use Rattle.std.proofs.lemmas.List.{take-append-le, take_more}
use Rattle.std.specs.List.{AllByRecursion, slice_index_or}
use Rattle.std.specs.Option.{IfSome}
use Rattle.law_register.specs.declared.law.command.Command.{Command}
use Rattle.law_register.specs.declared.law.command.Command.TheVariants.{Correct, DraftAdd, DraftDrop, Enact, File, Record, Restore, Withdraw}
use Rattle.law_register.specs.declared.register.entry.Entry.{Entry}
use Rattle.law_register.specs.declared.register.known.Known.{Known}
use Rattle.law_register.specs.Answer.Previews.{known_by_law}
use Rattle.law_register.specs.Answer.Soundness.{IsSound}
use Rattle.law_register.specs.Answer.Standing.{alone}
use Rattle.law_register.specs.Register.LawList.{front, law_of, laws, laws_from, works_enacted}
use Rattle.law_register.specs.Register.Marks.{law_count}
use Rattle.law_register.specs.Register.Verdicts.{is_legal}
use Rattle.law_register.proofs.CarryingNothing.{known_by_law_alone}
use Rattle.law_register.proofs.Lists.{at_most_or, take_all}
use Rattle.law_register.proofs.Past.{past_of}
use Rattle.law_register.proofs.Pushing.{front_is}
use Rattle.law_register.proofs.Sound.{known_is_sound}
use Rattle.held_provisions.specs.Placing.{works_of}
use Rattle.held_provisions.proofs.Placed.{enacted_by_entries}
use Rattle.law_register.specs.Provisions.Line.{line, line_of}
use Rattle.source_provisions.proofs.Own.{IsKnown, all_known}

-- an entry is one law entry at most, and there is room for it before a viewpoint
one_law : (c : Command) → law_count c ≤ 1
one_law (DraftAdd work body) = omega arith
one_law (DraftDrop item) = omega arith
one_law (Enact act) = omega arith
one_law (Record work mods) = omega arith
one_law (Correct id body) = omega arith
one_law (Withdraw id) = omega arith
one_law (Restore id) = omega arith
one_law (File work seen) = omega arith

pub room_left : (known viewpoint more : ℕ) (c : Command) → known ≤ viewpoint → (known ≡ viewpoint → ⊥) → more ≡ law_count c → known + more ≤ viewpoint
room_left known viewpoint more c few differ is = by (at_most_or viewpoint known)
  where
    by : (viewpoint ≤ known) ⊎ (known < viewpoint) → known + more ≤ viewpoint
    by (inl all) = absurd (differ (omega (arith, few, all)))
    by (inr less) = let one = one_law c in omega (arith, less, is, one)

-- one entry more
pub front_more : (es : List Entry) (i : ℕ) (e : Entry) (known : ℕ) → i < length es → e ≡ slice_index_or es i e → known ≡ front (take i es)
    → known + law_count e.command ≡ front (take (i + 1) es)
front_more es i e known within is so_far =
    ap (λ n. n + law_count e.command) so_far
    ∙ sym (front_is (take i es) e)
    ∙ ap (λ x. front (take i es ++ x ∷ [])) is
    ∙ ap front (sym (take_more es i e within))

laws_split : (before es more : List Entry) → laws_from before (es ++ more) ≡ laws_from before es ++ laws_from (before ++ es) more
laws_split before [] more = ap (λ b. laws_from b more) (sym (append-nil before))
laws_split before (e ∷ es) more =
    ap (λ ls. law_of before e ++ ls) (laws_split (before ++ e ∷ []) es more)
    ∙ ap (λ b. law_of before e ++ (laws_from (before ++ e ∷ []) es ++ laws_from b more)) (append_assoc before (e ∷ []) es)
    ∙ sym (append_assoc (law_of before e) (laws_from (before ++ e ∷ []) es) (laws_from (before ++ e ∷ es) more))

cut_at : {A : Type 0} (i : ℕ) (xs : List A) → take i xs ++ drop i xs ≡ xs
cut_at zero [] = refl
cut_at zero (x ∷ xs) = refl
cut_at (suc i) [] = refl
cut_at {A = A} (suc i) (x ∷ xs) = ap (λ (ys : List A). x ∷ ys) (cut_at i xs)

-- the first entries that make so many law entries make the first of these
pub front_told : (es : List Entry) (i v : ℕ) → v ≡ front (take i es) → laws (take i es) ≡ take v (laws es)
front_told es i v is =
    sym (ap (take v) (ap laws (sym (cut_at i es)) ∙ laws_split [] (take i es) (drop i es))
    ∙ take-append-le v (laws (take i es)) (laws_from (take i es) (drop i es)) (omega (arith, is))
    ∙ take_all (laws (take i es)) v (omega (arith, is)))

-- the line of the first entries
pub line_told : (law : List Command) (es : List Entry) → laws es ≡ law → line_of law (works_of es) ≡ line law
unfolding line
line_told law es is = ap (line_of law) (sym (enacted_by_entries es) ∙ ap works_enacted is)

-- the works of such a line can be replayed
known_sound : (law : List Command) (ks : List Known) → ((w : List ℕ) → IfSome (known_by_law law w) IsSound) → AllByRecursion (IsKnown law) ks → AllByRecursion IsSound ks
known_sound law [] each all = tt
known_sound law (k ∷ ks) each all = (subst (λ (o : Option Known). IfSome o IsSound) all.0 (each k.act.work), known_sound law ks each all.1)

pub line_sound : (es : List Entry) (v : ℕ) → is_legal es ≡ true → AllByRecursion IsSound (line (take v (laws es)))
unfolding line
line_sound es v legal =
    let past = past_of es v legal in
    let each : (w : List ℕ) → IfSome (known_by_law (laws past.before) w) IsSound =
    λ w. known_is_sound w (length (laws past.before)) (length (laws past.before)) past.before past.legal in
    subst (λ law. AllByRecursion IsSound (line_of law (works_enacted law))) past.known
    (known_sound (laws past.before) (line_of (laws past.before) (works_enacted (laws past.before))) each (all_known (laws past.before) (works_enacted (laws past.before))))

-- and carry nothing
known_alone : (law : List Command) (ks : List Known) → AllByRecursion (IsKnown law) ks → AllByRecursion (λ (k : Known). alone k ≡ k) ks
known_alone law [] all = tt
known_alone law (k ∷ ks) all = (known_by_law_alone law k.act.work k all.0, known_alone law ks all.1)

pub line_alone : (law : List Command) → AllByRecursion (λ (k : Known). alone k ≡ k) (line law)
unfolding line
line_alone law = known_alone law (line_of law (works_enacted law)) (all_known law (works_enacted law))
