-- What is known of a work once an accepted entry stands behind legal ones.
use Rattle.std.proofs.Common.{◌≡◌, ◌∙◌, ap, sym, subst, ℕ, ◌+◌, ◌≤◌, true, false, cond, List, [], ◌∷◌, ◌++◌, map, length, Option, Some, None, option_map, Result, Ok, Err, refl}
use Rattle.std.specs.Option.{IfSome}
use Rattle.std.specs.Prelude.{IfOk}
use Rattle.law_register.specs.declared.law.act.Act.{Act}
use Rattle.law_register.specs.declared.law.command.Command.{Command}
use Rattle.law_register.specs.declared.law.command.Command.TheVariants.{Enact, Record, Correct, Withdraw, Restore, DraftAdd, DraftDrop, File}
use Rattle.law_register.specs.declared.law.modification.Modification.{Modification}
use Rattle.law_register.specs.declared.register.draft.DraftItem.{DraftItem}
use Rattle.law_register.specs.declared.register.entry.Entry.{Entry}
use Rattle.law_register.specs.declared.register.known.Known.{Known}
use Rattle.law_register.specs.declared.register.rules.Rule.TheVariants.{WorkExists}
use Rattle.law_register.specs.Answer.Soundness.{IsSound}
use Rattle.law_register.specs.Law.Same.{same_number}
use Rattle.law_register.specs.Register.Drafts.{draft_of, items_of}
use Rattle.law_register.specs.Register.KnownIds.{enacted, known_by}
use Rattle.law_register.specs.Register.KnownNext.{known_by_entry, known_next, known_now, known_then, newly_known}
use Rattle.law_register.specs.Register.LawList.{front, law_command, law_of, laws}
use Rattle.law_register.specs.Register.Verdicts.{bad_modification, is_accepted, is_legal, law_number, verdict, work_exists}
use Rattle.law_register.proofs.Legal.{accepted_new, kept_rules}
use Rattle.law_register.proofs.Limits.{few_mods}
use Rattle.law_register.proofs.Next.{entry_next, now_known, now_sound}
use Rattle.law_register.proofs.Puts.{and_true, bytes_are}
use Rattle.law_register.proofs.Snoc.{legal_more}

abbrev pub IsAccepted : List Entry → Entry → Type 0
IsAccepted es e = is_accepted e.law (verdict es e.drafter e.request e.command) ≡ true

still_legal : (es : List Entry) (e : Entry) → is_legal es ≡ true → IsAccepted es e → is_legal (es ++ e ∷ []) ≡ true
still_legal es e legal accepted = legal_more es e ∙ and_true (is_legal es) (is_accepted e.law (verdict es e.drafter e.request e.command)) legal accepted

-- an entry has a number where it is a law entry
no_law : (es : List Entry) (draft : List DraftItem) (c : Command) → same_number None (law_number es c) ≡ true → law_command draft c ≡ []
no_law es draft (DraftAdd work body) h = refl
no_law es draft (DraftDrop item) h = refl
no_law es draft (Enact act) h = absurd (let no : false ≡ true = h in cc)
no_law es draft (Record work mods) h = absurd (let no : false ≡ true = h in cc)
no_law es draft (Correct id body) h = absurd (let no : false ≡ true = h in cc)
no_law es draft (Withdraw id) h = absurd (let no : false ≡ true = h in cc)
no_law es draft (Restore id) h = absurd (let no : false ≡ true = h in cc)
no_law es draft (File work seen) h = absurd (let no : false ≡ true = h in cc)

one_law : (n : ℕ) (es : List Entry) (draft : List DraftItem) (c : Command) → same_number (Some n) (law_number es c) ≡ true → (l : Command) × (law_command draft c ≡ l ∷ [])
one_law n es draft (DraftAdd work body) h = absurd (let no : false ≡ true = h in cc)
one_law n es draft (DraftDrop item) h = absurd (let no : false ≡ true = h in cc)
one_law n es draft (Enact act) h = (Enact act, refl)
one_law n es draft (Record work mods) h = (Record work mods, refl)
one_law n es draft (Correct id body) h = (Correct id body, refl)
one_law n es draft (Withdraw id) h = (Withdraw id, refl)
one_law n es draft (Restore id) h = (Restore id, refl)
one_law n es draft (File work seen) h = (Record work (map (λ i. i.body) (items_of work draft)), refl)

-- what was known of a work, once the entry stands there
module _ (es : List Entry) (e : Entry) (w : List ℕ) (known : Known) (legal : is_legal es ≡ true) (accepted : IsAccepted es e) (is : known_now es w ≡ Some known) where
  numbered : (law : Option ℕ) → e.law ≡ law → same_number law (law_number es e.command) ≡ true
  numbered law same = subst (λ n. same_number n (law_number es e.command) ≡ true) same ((accepted_new es e.drafter e.request e.command e.law accepted).number)

  next : known_now (es ++ e ∷ []) w ≡ known_by_entry (front es) w (law_of es e) (Some known)
  next = entry_next es e w legal ∙ ap (known_next es e w) is

  pub grown_draft : e.law ≡ None → known_now (es ++ e ∷ []) w ≡ Some known
  grown_draft none = next ∙ ap (λ ls. known_by_entry (front es) w ls (Some known)) (no_law es (draft_of e.drafter es) e.command (numbered None none))

  grown_law : (n : ℕ) (new : Known) → e.law ≡ Some n → ((l : Command) → law_of es e ≡ l ∷ [] → new ≡ known_then w l known) → known_now (es ++ e ∷ []) w ≡ Some new
  grown_law n new some told =
      let one = one_law n es (draft_of e.drafter es) e.command (numbered (Some n) some) in
      next ∙ ap (λ ls. known_by_entry (front es) w ls (Some known)) one.1 ∙ ap Some (sym (told one.0 one.1))

  pub grown_by : {E : Type 0} (n : ℕ) (r : Result Known E) → e.law ≡ Some n → ((l : Command) → law_of es e ≡ l ∷ [] → IfOk r (λ new. new ≡ known_then w l known))
      → IfOk r (λ new. known_now (es ++ e ∷ []) w ≡ Some new)
  grown_by n (Ok new) some told = grown_law n new some told
  grown_by n (Err fault) some told = tt

pub grown_sound : (es : List Entry) (e : Entry) (w : List ℕ) (new : Known) → is_legal es ≡ true → IsAccepted es e → known_now (es ++ e ∷ []) w ≡ Some new → IsSound new
grown_sound es e w new legal accepted is = subst (λ k. IfSome k IsSound) is (now_sound (es ++ e ∷ []) w (still_legal es e legal accepted))

-- what an Enact makes known
pub enact_known : (es : List Entry) (e : Entry) (act : Act) → is_legal es ≡ true → IsAccepted es e → e.command ≡ Enact act → known_now (es ++ e ∷ []) act.work ≡ Some (newly_known (front es + 1) act)
enact_known es e act legal accepted is =
    entry_next es e act.work legal ∙ ap (known_next es e act.work) none ∙ ap (λ c. known_by_entry (front es) act.work (law_command (draft_of e.drafter es) c) None) is
    ∙ ap (λ b. option_map (newly_known (front es + 1)) (cond b (Some act) None)) (bytes_are act.work act.work refl)
  where
    fresh : (found : Option (ℕ × Act)) → option_map (λ (f : ℕ × Act). WorkExists f.0) found ≡ None → found ≡ None
    fresh None h = refl
    fresh (Some found) h = absurd (let no : Some (WorkExists found.0) ≡ None = h in cc)

    none : known_now es act.work ≡ None
    none =
        let kept = (kept_rules es e.drafter e.command ((accepted_new es e.drafter e.request e.command e.law accepted).kept)).new in
        now_known es act.work ∙ ap (known_by act.work (front es) (front es) (laws es)) (fresh (enacted act.work (laws es)) (subst (λ c. work_exists (laws es) c ≡ None) is kept))

-- an entry records few modifications
pub few_recorded : (es : List Entry) (e : Entry) (w : List ℕ) (mods : List Modification) → IsAccepted es e → e.command ≡ Record w mods → length mods ≤ 64
few_recorded es e w mods accepted is =
    few_mods (Record w mods) (subst (λ c. bad_modification c ≡ None) is ((kept_rules es e.drafter e.command ((accepted_new es e.drafter e.request e.command e.law accepted).kept)).modification))

-- what holds of a value that is there
pub if_ok : {A E : Type 0} (r : Result A E) (P Q : A → Type 0) → ((a : A) → P a → Q a) → IfOk r P → IfOk r Q
if_ok (Ok a) P Q f h = f a h
if_ok (Err e) P Q f h = tt
