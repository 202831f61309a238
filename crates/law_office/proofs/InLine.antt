-- Works in line: each that law entries enact stands there once, so that what is kept of one after another stands in line.
use Rattle.std.proofs.Common.{◌≡◌, ◌≢◌, ◌∙◌, sym, ap, subst, refl, ℕ, ◌+◌, ◌≤◌, Bool, true, false, cond, List, [], ◌∷◌, ◌++◌, map, take, drop, Option, Some, None, option_map, arith}
use Rattle.std.proofs.lemmas.List.{append-nil, map-append, take-append-drop}
use Rattle.std.proofs.lemmas.List.Sorted.{IsPermutation-map, sum_by-IsPermutation}
use Rattle.std.proofs.lemmas.List.Sums.{sum_by-append, sum_by-cons, sum_by_push}
use Rattle.std.specs.List.{sum_by}
use Rattle.std.specs.Map.{keys_of, lookup}
use Rattle.std.specs.Prelude.{IsPermutation, is_some}
use Rattle.std.specs.Str.{bytes_eq}
use Rattle.indexmap.specs.IndexMap.{insert_entry}
use Rattle.law_register.specs.declared.law.act.Act.{Act}
use Rattle.law_register.specs.declared.law.command.Command.{Command}
use Rattle.law_register.specs.declared.law.command.Command.TheVariants.{Enact, Record, Correct, Withdraw, Restore, DraftAdd, DraftDrop, File}
use Rattle.law_register.specs.declared.register.draft.DraftItem.{DraftItem}
use Rattle.law_register.specs.declared.register.entry.Entry.{Entry}
use Rattle.law_register.specs.declared.register.rules.Rule.TheVariants.{WorkExists}
use Rattle.law_register.specs.Register.Drafts.{draft_of, items_of}
use Rattle.law_register.specs.Register.KnownIds.{enacted, enacted_by, enacted_from, enacted_or, known_by}
use Rattle.law_register.specs.Provisions.Carrying.{held_now}
use Rattle.law_register.specs.Provisions.Line.{line as line_of_laws}
use Rattle.law_register.specs.Register.KnownNext.{known_now}
use Rattle.law_register.specs.Register.LawList.{acts_by, acts_of, front, law_command, laws, works_enacted}
use Rattle.law_register.specs.Register.Verdicts.{is_legal, work_exists}
use Rattle.law_register.proofs.Legal.{IsNew, kept_rules, legally}
use Rattle.law_register.proofs.Next.{now_known}
use Rattle.law_register.proofs.Puts.{bytes_are, bytes_either, bytes_same}
use Rattle.law_register.proofs.Snoc.{acts_more, laws_more}
use Rattle.law_office.specs.declared.line.DatedWork.{DatedWork}
use Rattle.law_office.proofs.AskedFor.{none_known}
use Rattle.law_office.specs.Line.{AreInLine, dated_work}

-- the acts that law entries enact, with one entry more

drafted : (ls : List Command) → acts_of (ls ++ []) ≡ acts_of ls ++ []
drafted ls = ap acts_of (append-nil ls) ∙ sym (append-nil (acts_of ls))

acts_with : (ls : List Command) (draft : List DraftItem) (c : Command) → acts_of (ls ++ law_command draft c) ≡ acts_of ls ++ acts_by c
acts_with ls draft (Enact act) = acts_more ls (Enact act)
acts_with ls draft (Record work mods) = acts_more ls (Record work mods)
acts_with ls draft (Correct id body) = acts_more ls (Correct id body)
acts_with ls draft (Withdraw id) = acts_more ls (Withdraw id)
acts_with ls draft (Restore id) = acts_more ls (Restore id)
acts_with ls draft (DraftAdd work body) = drafted ls
acts_with ls draft (DraftDrop item) = drafted ls
acts_with ls draft (File work seen) = acts_more ls (Record work (map (λ (i : DraftItem). i.body) (items_of work draft)))

acts_entered : (es : List Entry) (e : Entry) → acts_of (laws (es ++ e ∷ [])) ≡ acts_of (laws es) ++ acts_by e.command
acts_entered es e = ap acts_of (laws_more es e) ∙ acts_with (laws es) (draft_of e.drafter es) e.command

pub one_act_more : (es : List Entry) (i : ℕ) (e : Entry) → take (i + 1) es ≡ take i es ++ e ∷ []
    → map dated_work (acts_of (laws (take (i + 1) es))) ≡ map dated_work (acts_of (laws (take i es))) ++ map dated_work (acts_by e.command)
one_act_more es i e next =
    ap (λ (before : List Entry). map dated_work (acts_of (laws before))) next
    ∙ ap (map dated_work) (acts_entered (take i es) e)
    ∙ map-append dated_work (acts_of (laws (take i es))) (acts_by e.command)

-- how often a work stands among others

unfoldable pub one : List ℕ → List ℕ → ℕ
one w t = cond (bytes_eq w t) 1 0

pub one_same : (w t : List ℕ) → bytes_eq w t ≡ true → one w t ≡ 1
unfolding one
one_same w t same = ap (λ b. cond b 1 0) same

pub one_other : (w t : List ℕ) → bytes_eq w t ≡ false → one w t ≡ 0
unfolding one
one_other w t other = ap (λ b. cond b 1 0) other

abbrev pub AreOnce : List (List ℕ) → Type 0
AreOnce works = (w : List ℕ) → sum_by (one w) works ≤ 1

-- a work that no law entry enacts does not stand among those that law entries enact
not_among : (n : ℕ) (w : List ℕ) (ls : List Command) → enacted_from n w ls ≡ None → sum_by (one w) (works_enacted ls) ≡ 0
not_among n w [] is = refl
not_among n w (l ∷ ls) is = by l is (not_among (n + 1) w ls)
  where
    first : (act : Act) (b : Bool) → bytes_eq act.work w ≡ b → enacted_or n (cond b (Some act) None) (enacted_from (n + 1) w ls) ≡ None
        → (enacted_from (n + 1) w ls ≡ None → sum_by (one w) (works_enacted ls) ≡ 0) → sum_by (one w) (act.work ∷ works_enacted ls) ≡ 0
    first act true same is rest = absurd (let no : Some (n, act) ≡ None = is in cc)
    first act false other is rest =
        omega (arith, sum_by-cons (one w) act.work (works_enacted ls), one_other w act.work (bytes_either w act.work ∙ other), rest is)

    by : (l : Command) → enacted_or n (enacted_by w l) (enacted_from (n + 1) w ls) ≡ None
        → (enacted_from (n + 1) w ls ≡ None → sum_by (one w) (works_enacted ls) ≡ 0) → sum_by (one w) (works_enacted (l ∷ ls)) ≡ 0
    by (Enact act) is rest = first act (bytes_eq act.work w) refl is rest
    by (Record work mods) is rest = rest is
    by (Correct id body) is rest = rest is
    by (Withdraw id) is rest = rest is
    by (Restore id) is rest = rest is
    by (DraftAdd work body) is rest = rest is
    by (DraftDrop item) is rest = rest is
    by (File work seen) is rest = rest is

-- one that stands there is known
among_known : (es : List Entry) (w : List ℕ) → 1 ≤ sum_by (one w) (works_enacted (laws es)) → known_now es w ≢ None
among_known es w some unknown =
    let none : sum_by (one w) (works_enacted (laws es)) ≡ 0 = not_among 1 w (laws es) (by (enacted w (laws es)) refl) in omega (arith, some, none)
  where
    by : (found : Option (ℕ × Act)) → enacted w (laws es) ≡ found → found ≡ None
    by None is = refl
    by (Some f) is =
        let known : known_now es w ≡ known_by w (front es) (front es) (laws es) (Some f) =
        now_known es w ∙ ap (known_by w (front es) (front es) (laws es)) is in
        absurd (let no : false ≡ true = ap is_some (sym unknown ∙ known) in cc)

-- an act that is accepted is of a work that no law entry enacts
step : (works : List (List ℕ)) → AreOnce works → (c : Command) → ((act : Act) → c ≡ Enact act → sum_by (one act.work) works ≡ 0)
    → AreOnce (works ++ map (λ (act : Act). act.work) (acts_by c))
step works once (Enact act) none w = by (bytes_eq w act.work) refl
  where
    all : sum_by (one w) (works ++ act.work ∷ []) ≡ sum_by (one w) works + one w act.work
    all = sum_by_push (one w) works act.work

    by : (b : Bool) → bytes_eq w act.work ≡ b → sum_by (one w) (works ++ act.work ∷ []) ≤ 1
    by true same =
        let free : sum_by (one w) works ≡ 0 =
        ap (λ (x : List ℕ). sum_by (one x) works) (bytes_same w act.work same) ∙ none act refl in
        omega (arith, all, free, one_same w act.work same)
    by false other = omega (arith, all, once w, one_other w act.work other)
step works once (Record work mods) none w = subst (λ (ws : List (List ℕ)). sum_by (one w) ws ≤ 1) (sym (append-nil works)) (once w)
step works once (Correct id body) none w = subst (λ (ws : List (List ℕ)). sum_by (one w) ws ≤ 1) (sym (append-nil works)) (once w)
step works once (Withdraw id) none w = subst (λ (ws : List (List ℕ)). sum_by (one w) ws ≤ 1) (sym (append-nil works)) (once w)
step works once (Restore id) none w = subst (λ (ws : List (List ℕ)). sum_by (one w) ws ≤ 1) (sym (append-nil works)) (once w)
step works once (DraftAdd work body) none w = subst (λ (ws : List (List ℕ)). sum_by (one w) ws ≤ 1) (sym (append-nil works)) (once w)
step works once (DraftDrop item) none w = subst (λ (ws : List (List ℕ)). sum_by (one w) ws ≤ 1) (sym (append-nil works)) (once w)
step works once (File work seen) none w = subst (λ (ws : List (List ℕ)). sum_by (one w) ws ≤ 1) (sym (append-nil works)) (once w)

not_found : (found : Option (ℕ × Act)) → option_map (λ (f : ℕ × Act). WorkExists f.0) found ≡ None → found ≡ None
not_found None is = refl
not_found (Some f) is = absurd (let no : Some (WorkExists f.0) ≡ None = is in cc)

pub enacted_once : (es : List Entry) → is_legal es ≡ true → AreOnce (works_enacted (laws es))
enacted_once es legal = legally (λ (xs : List Entry). AreOnce (works_enacted (laws xs))) more (λ w. let none : 0 ≤ 1 = omega arith in none) es legal
  where
    more : (xs : List Entry) (e : Entry) → AreOnce (works_enacted (laws xs)) → IsNew xs e.drafter e.request e.command e.law
        → AreOnce (works_enacted (laws (xs ++ e ∷ [])))
    more xs e once new =
        let works : works_enacted (laws (xs ++ e ∷ [])) ≡ works_enacted (laws xs) ++ map (λ (act : Act). act.work) (acts_by e.command) =
        ap (map (λ (act : Act). act.work)) (acts_entered xs e) ∙ map-append (λ (act : Act). act.work) (acts_of (laws xs)) (acts_by e.command) in
        subst AreOnce (sym works) (step (works_enacted (laws xs)) once e.command free)
      where
        free : (act : Act) → e.command ≡ Enact act → sum_by (one act.work) (works_enacted (laws xs)) ≡ 0
        free act is =
            not_among 1 act.work (laws xs)
            (not_found (enacted act.work (laws xs)) (ap (work_exists (laws xs)) (sym is) ∙ (kept_rules xs e.drafter e.command new.kept).new))

-- the works of all dated works are those that law entries enact
abbrev pub works_of : List DatedWork → List (List ℕ)
works_of line = map (λ d. d.work) line

works_dated : (acts : List Act) → works_of (map dated_work acts) ≡ map (λ (act : Act). act.work) acts
works_dated [] = refl
works_dated (act ∷ acts) = ap (λ ws. act.work ∷ ws) (works_dated acts)

pub all_in_line : (es : List Entry) (works : List (List ℕ)) → AreInLine es works → IsPermutation (works_enacted (laws es)) works
all_in_line es works line =
    subst (λ (ws : List (List ℕ)). IsPermutation (works_enacted (laws es)) ws) (sym line.are)
    (subst (λ (ws : List (List ℕ)). IsPermutation ws (works_of line.dated)) (works_dated (acts_of (laws es)))
    (IsPermutation-map (λ (d : DatedWork). d.work) (map dated_work (acts_of (laws es))) line.dated line.all))

-- a key that is new goes last
new_last : {K V : Type 0} (eq : K → K → Bool) (es : List (K × V)) (k : K) (v : V) → lookup (eq k) es ≡ None
    → keys_of (insert_entry eq es k v) ≡ keys_of es ++ k ∷ []
new_last eq [] k v none = refl
new_last eq (e ∷ es) k v none = by (eq k e.0) none (new_last eq es k v)
  where
    by : (b : Bool) → cond b (Some e.1) (lookup (eq k) es) ≡ None
        → (lookup (eq k) es ≡ None → keys_of (insert_entry eq es k v) ≡ keys_of es ++ k ∷ [])
        → keys_of (cond b ((e.0, v) ∷ es) (e ∷ insert_entry eq es k v)) ≡ e.0 ∷ keys_of es ++ k ∷ []
    by true found rest = absurd (let no : Some e.1 ≡ None = found in cc)
    by false none rest = ap (λ ks. e.0 ∷ ks) (rest none)

unmapped : {V W : Type 0} (f : V → W) (found : Option V) → option_map f found ≡ None → found ≡ None
unmapped f None is = refl
unmapped f (Some v) is = absurd (let no : Some (f v) ≡ None = is in cc)

pub key_last : {V W : Type 0} (f : V → W) (old new : List (List ℕ × V)) (w : List ℕ) (v : V) → new ≡ insert_entry bytes_eq old w v
    → option_map f (lookup (bytes_eq w) old) ≡ None → keys_of new ≡ keys_of old ++ w ∷ []
key_last f old new w v entries none = ap keys_of entries ∙ new_last bytes_eq old w v (unmapped f (lookup (bytes_eq w) old) none)

-- where no key is this one, nothing is found
none_kept : {V : Type 0} (es : List (List ℕ × V)) (w : List ℕ) → sum_by (one w) (keys_of es) ≡ 0 → lookup (bytes_eq w) es ≡ None
none_kept [] w none = refl
none_kept (e ∷ es) w none = by (bytes_eq w e.0) refl (none_kept es w)
  where
    by : (b : Bool) → bytes_eq w e.0 ≡ b → (sum_by (one w) (keys_of es) ≡ 0 → lookup (bytes_eq w) es ≡ None)
        → cond b (Some e.1) (lookup (bytes_eq w) es) ≡ None
    by true same rest = absurd (omega (arith, none, sum_by-cons (one w) e.0 (keys_of es), one_same w e.0 same))
    by false other rest = rest (omega (arith, none, sum_by-cons (one w) e.0 (keys_of es), one_other w e.0 other))

-- one of works in line is known, and does not stand among those before it
module _ (es : List Entry) (legal : is_legal es ≡ true) (works before : List (List ℕ)) (work : List ℕ) (rest : List (List ℕ))
    (line : AreInLine es works) (cut : works ≡ before ++ work ∷ rest) where
  pub times : (w : List ℕ) → sum_by (one w) (works_enacted (laws es)) ≡ sum_by (one w) before + (one w work + sum_by (one w) rest)
  times w =
      sym (sum_by-IsPermutation (one w) (works_enacted (laws es)) works (all_in_line es works line))
      ∙ ap (sum_by (one w)) cut
      ∙ sum_by-append (one w) before (work ∷ rest)
      ∙ ap (λ n. sum_by (one w) before + n) (sum_by-cons (one w) work rest)

  itself : one work work ≡ 1
  itself = one_same work work (bytes_are work work refl)

  pub is_known : held_now es work ≢ None
  is_known unknown =
      among_known es work (omega (arith, times work, itself)) (none_known (line_of_laws (take (front es) (laws es))) (known_now es work) unknown)

  pub is_new : {V : Type 0} (kept : List (List ℕ × V)) → keys_of kept ≡ before → lookup (bytes_eq work) kept ≡ None
  is_new kept keys =
      none_kept kept work (ap (sum_by (one work)) keys ∙ free)
    where
      free : sum_by (one work) before ≡ 0
      free = omega (arith, times work, itself, enacted_once es legal work)

-- the line before a place, the work there, and what is left
pub cut_at : (line : List DatedWork) (i : ℕ) (d : DatedWork) → drop i line ≡ d ∷ drop (i + 1) line
    → works_of line ≡ works_of (take i line) ++ d.work ∷ works_of (drop (i + 1) line)
cut_at line i d cut =
    ap works_of (sym (take-append-drop i line))
    ∙ map-append (λ (d : DatedWork). d.work) (take i line) (drop i line)
    ∙ ap (λ (rest : List DatedWork). works_of (take i line) ++ works_of rest) cut

pub sum_in_line : (cost : List ℕ → ℕ) (es : List Entry) (works : List (List ℕ)) → AreInLine es works
    → sum_by cost works ≡ sum_by cost (works_enacted (laws es))
sum_in_line cost es works line = sum_by-IsPermutation cost (works_enacted (laws es)) works (all_in_line es works line)
