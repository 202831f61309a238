-- Until a work is enacted nothing is recorded in it, so what was known of it then is its act alone.
use Rattle.std.proofs.Common.{◌≡◌, ◌∙◌, sym, ap, subst, ℕ, ◌+◌, ◌≤◌, ◌⊎◌, inl, inr, true, cond, List, [], ◌∷◌, ◌++◌, length, take, Option, Some, None, option_map, refl, arith}
use Rattle.std.proofs.lemmas.List.{append-nil, length-append}
use Rattle.law_register.specs.Answer.Asking.{known_when_enacted}
use Rattle.law_register.specs.Register.Drafts.{draft_of}
use Rattle.law_register.specs.Register.KnownIds.{enacted, enacted_by, enacted_or, ids_of, ids_recorded, known_at, known_by, known_ids}
use Rattle.law_register.specs.Register.KnownNext.{at_viewpoint, bare, known_now}
use Rattle.law_register.specs.Register.LawList.{law_of, laws, front}
use Rattle.law_register.specs.Register.Verdicts.{is_accepted, is_legal, verdict}
use Rattle.law_register.specs.declared.law.act.Act.{Act}
use Rattle.law_register.specs.declared.law.command.Command.{Command}
use Rattle.law_register.specs.declared.law.command.Command.TheVariants.{Enact, Record, Correct, Withdraw, Restore, DraftAdd, DraftDrop, File}
use Rattle.law_register.specs.declared.register.entry.Entry.{Entry}
use Rattle.law_register.proofs.Lists.{by_last, take_front, take_last}
use Rattle.law_register.proofs.Next.{none_before, now_known, one_at_most}
use Rattle.law_register.proofs.Past.{act_within, all_known, below, enacted_taken}
use Rattle.law_register.proofs.Puts.{left_true}
use Rattle.law_register.proofs.Snoc.{enacted_more, first_act, ids_more, laws_more, legal_more}

-- the law entries up to the one that enacts a work record nothing in it
abbrev AreBare : List ℕ → List Command → Type 0
AreBare w ls = (f : ℕ × Act) → enacted w ls ≡ Some f → (f.0 ≤ length ls) × (ids_of w (take f.0 ls) ≡ [])

enacts_alone : (w : List ℕ) (n : ℕ) (l : Command) (act : Act) → enacted_by w l ≡ Some act → ids_recorded n w l ≡ []
enacts_alone w n (Enact a) act is = refl
enacts_alone w n (Record work mods) act is = absurd (let no : None ≡ Some act = is in cc)
enacts_alone w n (Correct id body) act is = refl
enacts_alone w n (Withdraw id) act is = refl
enacts_alone w n (Restore id) act is = refl
enacts_alone w n (DraftAdd work body) act is = refl
enacts_alone w n (DraftDrop item) act is = refl
enacts_alone w n (File work seen) act is = refl

module _ (w : List ℕ) (L : List Command) (l : Command) (none : enacted w L ≡ None → ids_of w L ≡ []) (alone : AreBare w L) (f : ℕ × Act) where
  abbrev IsBareNow : Type 0
  IsBareNow = (f.0 ≤ length (L ++ l ∷ [])) × (ids_of w (take f.0 (L ++ l ∷ [])) ≡ [])

  was_enacted : enacted w L ≡ Some f → IsBareNow
  was_enacted was =
      let old = alone f was in
      (omega (arith, old.0, length-append L (l ∷ [])), ap (ids_of w) (take_front L l f.0 old.0) ∙ old.1)

  is_enacted : enacted w L ≡ None → (act : Act) → enacted_by w l ≡ Some act → length L + 1 ≡ f.0 → IsBareNow
  is_enacted was act by number = (
    omega (arith, number, length-append L (l ∷ [])),
    ap (ids_of w) (take_last L l f.0 (omega (arith, number))) ∙ ids_more w L l
        ∙ ap (λ ids. ids ++ ids_recorded (length L + 1) w l) (none was) ∙ enacts_alone w (length L + 1) l act by,
  )

  bare_by : (found : Option (ℕ × Act)) → enacted w L ≡ found → (act : Option Act) → enacted_by w l ≡ act
      → first_act found (enacted_or (length L + 1) act None) ≡ Some f → IsBareNow
  bare_by (Some g) was act by is = was_enacted (was ∙ is)
  bare_by None was None by is = absurd (let no : None ≡ Some f = is in cc)
  bare_by None was (Some act) by is =
      let same : Some (length L + 1, act) ≡ Some f = is in
      let first : (length L + 1, act) ≡ f = cc in
      is_enacted was act by (ap (λ (p : ℕ × Act). p.0) first)

bare_more : (w : List ℕ) (L : List Command) (l : Command) → (enacted w L ≡ None → ids_of w L ≡ []) → AreBare w L → AreBare w (L ++ l ∷ [])
bare_more w L l none alone f is =
    bare_by w L l none alone f (enacted w L) refl (enacted_by w l) refl
    (subst (λ n. first_act (enacted w L) (enacted_or n (enacted_by w l) None) ≡ Some f) refl (sym (enacted_more w L l) ∙ is))

bare_of : (w : List ℕ) (es : List Entry) → is_legal es ≡ true → AreBare w (laws es)
bare_of w es = by_last (λ xs. is_legal xs ≡ true → AreBare w (laws xs)) more (λ legal f is. absurd (let no : None ≡ Some f = is in cc)) es
  where
    more : (xs : List Entry) (e : Entry) → (is_legal xs ≡ true → AreBare w (laws xs)) → is_legal (xs ++ e ∷ []) ≡ true → AreBare w (laws (xs ++ e ∷ []))
    more xs e h legal = subst (AreBare w) (sym (laws_more xs e)) (by (one_at_most (draft_of e.drafter xs) e.command))
      where
        before : is_legal xs ≡ true
        before = left_true (is_legal xs) (is_accepted e.law (verdict xs e.drafter e.request e.command)) (sym (legal_more xs e) ∙ legal)

        by : (law_of xs e ≡ []) ⊎ ((l : Command) × (law_of xs e ≡ l ∷ [])) → AreBare w (laws xs ++ law_of xs e)
        by (inl nothing) = subst (λ ls. AreBare w (laws xs ++ ls)) (sym nothing) (subst (AreBare w) (sym (append-nil (laws xs))) (h before))
        by (inr (l, one)) = subst (λ ls. AreBare w (laws xs ++ ls)) (sym one) (bare_more w (laws xs) l (none_before w xs before) (h before))

pub enacted_bare : (es : List Entry) (w : List ℕ) → is_legal es ≡ true → known_when_enacted es w (enacted w (laws es)) ≡ option_map bare (known_now es w)
enacted_bare es w legal = by (enacted w (laws es)) refl ∙ sym (ap (option_map bare) (now_known es w))
  where
    n : ℕ
    n = front es

    by : (found : Option (ℕ × Act)) → enacted w (laws es) ≡ found → known_when_enacted es w found ≡ option_map bare (known_by w n n (laws es) found)
    by None is = refl
    by (Some f) is =
        let first : List Command = take f.0 (laws es) in
        ap (known_by w f.0 n first)
        (enacted_taken w f.0 (laws es) ∙ ap (act_within f.0) is ∙ ap (λ b. cond b (Some f) None) (below f.0 f.0 (omega arith)))
        ∙ ap (λ ids. Some (record { act = f.1; enacted = f.0; viewpoint = f.0; front = n; mods = known_ids first ids; source_days = [] })) ((bare_of w es legal f is).1)

-- at the front and ahead of it all law entries are known
pub known_ahead : (es : List Entry) (w : List ℕ) (v : ℕ) → front es ≤ v → known_at es w v ≡ option_map (at_viewpoint v) (known_now es w)
known_ahead es w v ahead =
    sym (ap (λ ls. known_by w v (front es) ls (enacted w ls)) (all_known es v ahead))
    ∙ by (enacted w (laws es))
    ∙ sym (ap (option_map (at_viewpoint v)) (now_known es w))
  where
    by : (found : Option (ℕ × Act)) → known_by w v (front es) (laws es) found
        ≡ option_map (at_viewpoint v) (known_by w (front es) (front es) (laws es) found)
    by None = refl
    by (Some found) = refl
