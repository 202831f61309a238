-- What is recorded is recorded of a work that is enacted, so that an entry that concerns a work and enacts none concerns one that is known.
use Rattle.std.proofs.Common.{◌≡◌, ◌∙◌, sym, ap, subst, refl, ℕ, ◌+◌, ◌==◌, Bool, true, false, cond, is_some, List, [], ◌∷◌, ◌++◌, length, map, Option, Some, None, option_map}
use Rattle.std.proofs.lemmas.List.{append-nil}
use Rattle.std.specs.Option.{is_none}
use Rattle.desk_base.specs.declared.id.Id.{Id}
use Rattle.law_register.specs.declared.law.act.Act.{Act}
use Rattle.law_register.specs.declared.law.command.Command.{Command}
use Rattle.law_register.specs.declared.law.command.Command.TheVariants.{Enact, Record, Correct, Withdraw, Restore, DraftAdd, DraftDrop, File}
use Rattle.law_register.specs.declared.law.modification.Modification.{Modification}
use Rattle.law_register.specs.declared.register.draft.DraftItem.{DraftItem}
use Rattle.law_register.specs.declared.register.entry.Entry.{Entry}
use Rattle.law_register.specs.declared.register.rules.Rule.TheVariants.{UnknownWork}
use Rattle.law_register.specs.Answer.Counted.{is_same_id}
use Rattle.law_register.specs.Answer.Touched.{work_entered}
use Rattle.law_register.specs.Register.Drafts.{draft_of, items_of}
use Rattle.law_register.specs.Register.Indexes.{act_of}
use Rattle.law_register.specs.Register.KnownIds.{IdFacts, corrected, enacted, enacted_by, enacted_or, facts_of, first_facts, item_at, known_by, marked}
use Rattle.law_register.specs.Register.KnownNext.{known_now}
use Rattle.law_register.specs.declared.register.standing.Standing.TheVariants.{Live, Withdrawn}
use Rattle.law_register.specs.Register.LawList.{front, law_command, law_of, laws}
use Rattle.law_register.specs.Register.Rulebook.{broken_where, unknown_in, unknown_work}
use Rattle.law_register.specs.Register.Verdicts.{is_legal}
use Rattle.law_register.proofs.Legal.{IsNew, accepted_new, kept_rules, legally}
use Rattle.law_register.proofs.Next.{now_known}
use Rattle.law_register.proofs.Snoc.{enacted_more, facts_more, first_act, laws_more}
use Rattle.law_office.specs.Movements.{IsAccepted}

-- each id that is recorded is of a work that is enacted
abbrev AllIn : List Command → Type 0
AllIn L = (id : Id) (f : IdFacts) → facts_of id L ≡ Some f → is_some (enacted f.work L) ≡ true

stays : (L : List Command) (l : Command) (w : List ℕ) → is_some (enacted w L) ≡ true → is_some (enacted w (L ++ l ∷ [])) ≡ true
stays L l w is = ap is_some (enacted_more w L l) ∙ by (enacted w L) is
  where
    by : (found : Option (ℕ × Act)) → is_some found ≡ true → is_some (first_act found (enacted_or (length L + 1) (enacted_by w l) None)) ≡ true
    by None is = absurd (let no : false ≡ true = is in cc)
    by (Some found) is = refl

-- what is said of an id changes nothing of its work
same_work : (g : IdFacts → IdFacts) → ((f : IdFacts) → (g f).work ≡ f.work) → (L : List Command) (id : Id) (b : Bool) (f : IdFacts) → AllIn L
    → cond b (option_map g (facts_of id L)) (facts_of id L) ≡ Some f → is_some (enacted f.work L) ≡ true
same_work g same L id false f all is = all id f is
same_work g same L id true f all is = by (facts_of id L) refl is
  where
    by : (found : Option IdFacts) → facts_of id L ≡ found → option_map g found ≡ Some f → is_some (enacted f.work L) ≡ true
    by None none is = absurd (let no : None ≡ Some f = is in cc)
    by (Some h) there is =
        let told : Some (g h) ≡ Some f = is in
        let one : g h ≡ f = cc in
        ap (λ (x : List ℕ). is_some (enacted x L)) (sym (ap (λ (k : IdFacts). k.work) one) ∙ same h) ∙ all id h there

recorded_in : (work : List ℕ) (o : Option Modification) (f : IdFacts) → first_facts work o ≡ Some f → f.work ≡ work
recorded_in work None f is = absurd (let no : None ≡ Some f = is in cc)
recorded_in work (Some m) f is = work_of (sym is)
  where
    in_facts : Option IdFacts → List ℕ
    in_facts None = work
    in_facts (Some k) = k.work

    work_of : Some f ≡ first_facts work (Some m) → f.work ≡ work
    work_of is = ap in_facts is

record_more : (L : List Command) (work : List ℕ) (ms : List Modification) → is_some (enacted work L) ≡ true → AllIn L → AllIn (L ++ Record work ms ∷ [])
record_more L work ms there all id f is = stays L (Record work ms) f.work (by (id.law == (length L + 1)) (sym (facts_more id L (Record work ms)) ∙ is))
  where
    by : (b : Bool) → cond b (first_facts work (item_at id.item ms)) (facts_of id L) ≡ Some f → is_some (enacted f.work L) ≡ true
    by true is = ap (λ (x : List ℕ). is_some (enacted x L)) (recorded_in work (item_at id.item ms) f is) ∙ there
    by false is = all id f is

is_there : (L : List Command) (work : List ℕ) → unknown_in L work ≡ None → is_some (enacted work L) ≡ true
is_there L work kept = by (enacted work L) refl
  where
    by : (found : Option (ℕ × Act)) → enacted work L ≡ found → is_some found ≡ true
    by None none =
        absurd (let no : Some (UnknownWork work) ≡ None = sym (ap (λ (o : Option (ℕ × Act)). broken_where (is_none o) (UnknownWork work)) none) ∙ kept in cc)
    by (Some f) some = refl

entry_more : (L : List Command) (draft : List DraftItem) (c : Command) → unknown_work L c ≡ None → AllIn L → AllIn (L ++ law_command draft c)
entry_more L draft (Enact act) kept all = λ id f is. stays L (Enact act) f.work (all id f (sym (facts_more id L (Enact act)) ∙ is))
entry_more L draft (Record work ms) kept all = record_more L work ms (is_there L work kept) all
entry_more L draft (Correct other body) kept all = λ id f is.
    stays L (Correct other body) f.work
    (same_work (corrected body) (λ h. refl) L id (is_same_id other id) f all (sym (facts_more id L (Correct other body)) ∙ is))
entry_more L draft (Withdraw other) kept all = λ id f is.
    stays L (Withdraw other) f.work
    (same_work (marked (Withdrawn (length L + 1))) (λ h. refl) L id (is_same_id other id) f all (sym (facts_more id L (Withdraw other)) ∙ is))
entry_more L draft (Restore other) kept all = λ id f is.
    stays L (Restore other) f.work
    (same_work (marked Live) (λ h. refl) L id (is_same_id other id) f all (sym (facts_more id L (Restore other)) ∙ is))
entry_more L draft (DraftAdd work body) kept all = subst AllIn (sym (append-nil L)) all
entry_more L draft (DraftDrop item) kept all = subst AllIn (sym (append-nil L)) all
entry_more L draft (File work seen) kept all =
    record_more L work (map (λ (i : DraftItem). i.body) (items_of work draft)) (is_there L work kept) all

all_in : (es : List Entry) → is_legal es ≡ true → AllIn (laws es)
all_in es legal = legally (λ xs. AllIn (laws xs)) more (λ id f is. absurd (let no : None ≡ Some f = is in cc)) es legal
  where
    more : (xs : List Entry) (e : Entry) → AllIn (laws xs) → IsNew xs e.drafter e.request e.command e.law → AllIn (laws (xs ++ e ∷ []))
    more xs e all new =
        subst AllIn (sym (laws_more xs e))
        (entry_more (laws xs) (draft_of e.drafter xs) e.command ((kept_rules xs e.drafter e.command new.kept).known) all)

-- a work that is entered by what enacts none is known
pub entered_known : (es : List Entry) (e : Entry) → is_legal es ≡ true → IsAccepted es e → (w : List ℕ) → work_entered es (law_of es e) ≡ Some w
    → act_of e.command ≡ None → known_now es w ≡ None → ⊥
entered_known es e legal accepted w entered none unknown =
    let no : false ≡ true = sym not_enacted ∙ by e.command refl entered none in cc
  where
    not_enacted : is_some (enacted w (laws es)) ≡ false
    not_enacted = got (enacted w (laws es)) refl
      where
        got : (found : Option (ℕ × Act)) → enacted w (laws es) ≡ found → is_some found ≡ false
        got None is = refl
        got (Some f) is =
            absurd (let no : false ≡ true = ap is_some (sym unknown ∙ now_known es w ∙ ap (known_by w (front es) (front es) (laws es)) is) in cc)

    rule : (c : Command) → e.command ≡ c → unknown_work (laws es) c ≡ None
    rule c is =
        subst (λ (c : Command). unknown_work (laws es) c ≡ None) is
        ((kept_rules es e.drafter e.command ((accepted_new es e.drafter e.request e.command e.law accepted).kept)).known)

    named : (id : Id) (found : Option IdFacts) → facts_of id (laws es) ≡ found → option_map (λ f. f.work) found ≡ Some w → is_some (enacted w (laws es)) ≡ true
    named id None is none = absurd (let no : None ≡ Some w = none in cc)
    named id (Some f) is some =
        let told : Some f.work ≡ Some w = some in
        let same : f.work ≡ w = cc in
        ap (λ (x : List ℕ). is_some (enacted x (laws es))) (sym same) ∙ all_in es legal id f is

    by : (c : Command) → e.command ≡ c → work_entered es (law_command (draft_of e.drafter es) c) ≡ Some w → act_of c ≡ None → is_some (enacted w (laws es)) ≡ true
    by (Enact act) is entered none = absurd (let no : Some act ≡ None = none in cc)
    by (Record work ms) is entered none =
        let told : Some work ≡ Some w = entered in
        let same : work ≡ w = cc in
        ap (λ (x : List ℕ). is_some (enacted x (laws es))) (sym same) ∙ is_there (laws es) work (rule (Record work ms) is)
    by (Correct id body) is entered none = named id (facts_of id (laws es)) refl entered
    by (Withdraw id) is entered none = named id (facts_of id (laws es)) refl entered
    by (Restore id) is entered none = named id (facts_of id (laws es)) refl entered
    by (DraftAdd work body) is entered none = absurd (let no : None ≡ Some w = entered in cc)
    by (DraftDrop item) is entered none = absurd (let no : None ≡ Some w = entered in cc)
    by (File work seen) is entered none =
        let told : Some work ≡ Some w = entered in
        let same : work ≡ w = cc in
        ap (λ (x : List ℕ). is_some (enacted x (laws es))) (sym same) ∙ is_there (laws es) work (rule (File work seen) is)
