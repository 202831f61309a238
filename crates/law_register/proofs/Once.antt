-- Of each request there is one entry, and law entries are numbered in order.
use Rattle.std.proofs.Common.{◌≡◌, ◌∙◌, sym, ap, ℕ, zero, suc, ◌+◌, ◌==◌, ◌⊎◌, inl, inr, Bool, true, false, cond, ◌&&◌, List, [], ◌∷◌, ◌++◌, length, slice_get, Option, Some, None, refl, arith}
use Rattle.std.proofs.lemmas.List.{append-nil}
use Rattle.law_register.specs.declared.law.command.Command.{Command}
use Rattle.law_register.specs.declared.law.command.Command.TheVariants.{Enact, Record, Correct, Withdraw, Restore, DraftAdd, DraftDrop, File}
use Rattle.law_register.specs.declared.register.entry.Entry.{Entry}
use Rattle.law_register.specs.declared.register.verdict.Reply.{Reply}
use Rattle.law_register.specs.Register.Drafts.{is_by}
use Rattle.law_register.specs.Register.LawList.{front, with_number, law_numbers, first_numbers}
use Rattle.law_register.specs.Register.Marks.{law_count}
use Rattle.law_register.specs.Law.Same.{same_number}
use Rattle.law_register.specs.Register.Verdicts.{request_from, reply_to, law_number, is_legal}
use Rattle.std.specs.Option.{option_or}
use Rattle.law_register.proofs.Legal.{IsNew, legally}
use Rattle.law_register.proofs.Pushing.{front_is}
use Rattle.law_register.proofs.Puts.{bytes_are, number_is, number_same, and_true}

-- two entries of one request stand at one index
abbrev pub Once : List Entry → Type 0
Once es = (i j : ℕ) (a b : Entry) → slice_get es i ≡ Some a → slice_get es j ≡ Some b → a.drafter ≡ b.drafter → a.request ≡ b.request → i ≡ j

first_none : (a b : Option (Entry × Reply)) → option_or a b ≡ None → a ≡ None
first_none None b h = refl
first_none (Some p) b h = absurd (let no : Some p ≡ None = h in cc)

rest_none : (a b : Option (Entry × Reply)) → option_or a b ≡ None → b ≡ None
rest_none None b h = h
rest_none (Some p) b h = absurd (let no : Some p ≡ None = h in cc)

not_mine : (t : Bool) (p : Entry × Reply) → cond t (Some p) None ≡ None → t ≡ false
not_mine true p h = absurd (let no : Some p ≡ None = h in cc)
not_mine false p h = refl

none_found : (before es : List Entry) (d : List ℕ) (r : ℕ) (j : ℕ) (b : Entry) → request_from before d r es ≡ None → slice_get es j ≡ Some b → d ≡ b.drafter → r ≡ b.request → ⊥
none_found before [] d r j b h at drafter request = let no : None ≡ Some b = at in cc
none_found before (x ∷ es) d r zero b h at drafter request =
    let same : x ≡ b = cc in
    let mine = not_mine (is_by d x && (x.request == r)) (x, reply_to before d x.command) (first_none _ (request_from (before ++ x ∷ []) d r es) h) in
    let it : is_by d x && (x.request == r) ≡ true =
    and_true (is_by d x) (x.request == r) (bytes_are x.drafter d (ap (λ (e : Entry). e.drafter) same ∙ sym drafter)) (number_is x.request r (ap (λ (e : Entry). e.request) same ∙ sym request)) in
    let no : true ≡ false = sym it ∙ mine in
    cc
none_found before (x ∷ es) d r (suc j) b h at drafter request =
    none_found (before ++ x ∷ []) es d r j b (rest_none _ (request_from (before ++ x ∷ []) d r es) h) at drafter request

stands_where : (es : List Entry) (e : Entry) (i : ℕ) (a : Entry) → slice_get (es ++ e ∷ []) i ≡ Some a → (slice_get es i ≡ Some a) ⊎ ((i ≡ length es) × (a ≡ e))
stands_where [] e zero a h = inr (refl, (let same : a ≡ e = cc in same))
stands_where [] e (suc i) a h = absurd (let no : None ≡ Some a = h in cc)
stands_where (x ∷ es) e zero a h = inl h
stands_where (x ∷ es) e (suc i) a h =
    elim (stands_where es e i a h) [
      | inl within ↦ inl within
      | inr last ↦ inr (ap suc last.0, last.1)
    ]

once_step : (es : List Entry) (e : Entry) → Once es → IsNew es e.drafter e.request e.command e.law → Once (es ++ e ∷ [])
once_step es e h new i j a b at there drafter request =
    elim (stands_where es e i a at) [
      | inl first ↦ elim (stands_where es e j b there) [
        | inl second ↦ h i j a b first second drafter request
        | inr last ↦ absurd (none_found [] es e.drafter e.request i a new.new first
            (sym (drafter ∙ ap (λ (x : Entry). x.drafter) last.1)) (sym (request ∙ ap (λ (x : Entry). x.request) last.1)))
      ]
      | inr last ↦ elim (stands_where es e j b there) [
        | inl second ↦ absurd (none_found [] es e.drafter e.request j b new.new second
            (sym (ap (λ (x : Entry). x.drafter) last.1) ∙ drafter) (sym (ap (λ (x : Entry). x.request) last.1) ∙ request))
        | inr other ↦ last.0 ∙ sym other.0
      ]
    ]

no_entries : Once []
no_entries i j a b at there drafter request = absurd (let no : None ≡ Some a = at in cc)

pub legal_once : (es : List Entry) → is_legal es ≡ true → Once es
legal_once es h = legally Once once_step no_entries es h

-- the numbers of law entries
numbers_more : (es : List Entry) (e : Entry) → law_numbers (es ++ e ∷ []) ≡ law_numbers es ++ with_number e.law []
numbers_more [] e = refl
numbers_more (x ∷ es) e = by x.law (numbers_more es e)
  where
    by : (law : Option ℕ) → law_numbers (es ++ e ∷ []) ≡ law_numbers es ++ with_number e.law [] → with_number law (law_numbers (es ++ e ∷ [])) ≡ with_number law (law_numbers es) ++ with_number e.law []
    by None h = h
    by (Some n) h = ap (λ ns. n ∷ ns) h

no_number : (law : Option ℕ) (ns : List ℕ) (n : ℕ) → same_number law None ≡ true → ns ≡ first_numbers n → ns ++ with_number law [] ≡ first_numbers (n + 0)
no_number None ns n same h = append-nil ns ∙ h ∙ ap first_numbers (here n)
  where
    here : (n : ℕ) → n ≡ n + 0
    here n = omega arith
no_number (Some k) ns n same h = absurd (let no : false ≡ true = same in cc)

next_number : (law : Option ℕ) (ns : List ℕ) (n : ℕ) → same_number law (Some (n + 1)) ≡ true → ns ≡ first_numbers n → ns ++ with_number law [] ≡ first_numbers (n + 1)
next_number None ns n same h = absurd (let no : false ≡ true = same in cc)
next_number (Some k) ns n same h =
    ap (λ l. l ++ k ∷ []) h ∙ ap (λ x. first_numbers n ++ x ∷ []) (number_same k (n + 1) same ∙ one_more n) ∙ ap first_numbers (sym (one_more n))
  where
    one_more : (n : ℕ) → n + 1 ≡ suc n
    one_more n = omega arith

number_case : (es : List Entry) (law : Option ℕ) (c : Command) → same_number law (law_number es c) ≡ true → law_numbers es ≡ first_numbers (front es)
    → law_numbers es ++ with_number law [] ≡ first_numbers (front es + law_count c)
number_case es law (DraftAdd work body) same h = no_number law (law_numbers es) (front es) same h
number_case es law (DraftDrop item) same h = no_number law (law_numbers es) (front es) same h
number_case es law (Enact act) same h = next_number law (law_numbers es) (front es) same h
number_case es law (Record work mods) same h = next_number law (law_numbers es) (front es) same h
number_case es law (Correct id body) same h = next_number law (law_numbers es) (front es) same h
number_case es law (Withdraw id) same h = next_number law (law_numbers es) (front es) same h
number_case es law (Restore id) same h = next_number law (law_numbers es) (front es) same h
number_case es law (File work seen) same h = next_number law (law_numbers es) (front es) same h

abbrev Numbered : List Entry → Type 0
Numbered es = law_numbers es ≡ first_numbers (front es)

numbered_step : (es : List Entry) (e : Entry) → Numbered es → IsNew es e.drafter e.request e.command e.law → Numbered (es ++ e ∷ [])
numbered_step es e h new = numbers_more es e ∙ number_case es e.law e.command new.number h ∙ sym (ap first_numbers (front_is es e))

pub legal_numbers : (es : List Entry) → is_legal es ≡ true → law_numbers es ≡ first_numbers (front es)
legal_numbers es h = legally Numbered numbered_step refl es h
