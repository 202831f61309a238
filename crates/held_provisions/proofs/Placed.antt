-- A work is put in its place in a line, and lines have the works that entries enact.
use Rattle.std.proofs.Common.{◌≡◌, ◌∙◌, sym, ap, refl, subst, ℕ, zero, suc, ◌+◌, ◌<◌, ◌≤◌, Bool, true, false, cond, ◌||◌, is_some, List, [], ◌∷◌, ◌++◌, append_assoc, drop, length, map, Option, Some, None, arith}
use Rattle.std.proofs.lemmas.List.{drop_more, length_push, map-append}
use Rattle.std.specs.BTreeSet.{insert_key}
use Rattle.std.specs.List.{insert, list_any, slice_index_or}
use Rattle.std.specs.Ordering.{match_ordering}
use Rattle.std.specs.Str.{bytes_eq}
use Rattle.std.specs.declared.cmp.Ordering.{Ordering}
use Rattle.std.specs.declared.cmp.Ordering.TheVariants.{Less, Equal, Greater}
use Rattle.law_register.specs.declared.law.act.Act.{Act}
use Rattle.law_register.specs.declared.law.command.Command.{Command}
use Rattle.law_register.specs.declared.law.command.Command.TheVariants.{Correct, DraftAdd, DraftDrop, Enact, File, Record, Restore, Withdraw}
use Rattle.law_register.specs.declared.register.draft.DraftItem.{DraftItem}
use Rattle.law_register.specs.declared.register.entry.Entry.{Entry}
use Rattle.law_register.specs.declared.register.known.Known.{Known}
use Rattle.law_register.specs.Answer.Previews.{known_by_law}
use Rattle.law_register.specs.Register.Drafts.{draft_of}
use Rattle.law_register.specs.Register.KnownIds.{enacted, enacted_by, enacted_from, enacted_or, known_by}
use Rattle.law_register.specs.Register.KnownNext.{known_now, up_to}
use Rattle.law_register.specs.Register.LawList.{acts_by, acts_of, front, law_command, law_of, laws, laws_from, works_enacted}
use Rattle.law_register.proofs.Next.{now_counts, now_known}
use Rattle.law_register.proofs.Puts.{bytes_are}
use Rattle.held_provisions.specs.Placing.{enacted_work, place_from, with_own, works_of}
use Rattle.law_register.specs.Provisions.Line.{line, line_cmp, line_of, with_work}
use Rattle.source_provisions.proofs.Own.{known_own}

-- a work in its place
abbrev put_at : Option ℕ → List Known → Known → List Known
put_at None works known = works
put_at (Some index) works known = insert works index known

insert_seam : (ahead works : List Known) (known : Known) → insert (ahead ++ works) (length ahead) known ≡ ahead ++ known ∷ works
insert_seam [] works known = refl
insert_seam (x ∷ xs) works known = ap (λ l. x ∷ l) (insert_seam xs works known)

put_from : (known : Known) (ahead works : List Known) (index : ℕ) → index ≡ length ahead
    → put_at (place_from index known works) (ahead ++ works) known ≡ ahead ++ insert_key line_cmp works known
put_from known ahead [] index is = ap (λ i. insert (ahead ++ []) i known) is ∙ insert_seam ahead [] known
put_from known ahead (x ∷ xs) index is = by (line_cmp known x) (put_from known (ahead ++ x ∷ []) xs (index + 1) (omega (arith, is, length_push ahead x)))
  where
    by : (r : Ordering)
        → put_at (place_from (index + 1) known xs) ((ahead ++ x ∷ []) ++ xs) known ≡ (ahead ++ x ∷ []) ++ insert_key line_cmp xs known
        → put_at (match_ordering r (Some index) None (place_from (index + 1) known xs)) (ahead ++ x ∷ xs) known
        ≡ ahead ++ match_ordering r (known ∷ x ∷ xs) (x ∷ xs) (x ∷ insert_key line_cmp xs known)
    by Less rest = ap (λ i. insert (ahead ++ x ∷ xs) i known) is ∙ insert_seam ahead (x ∷ xs) known
    by Equal rest = refl
    by Greater rest =
        ap (λ l. put_at (place_from (index + 1) known xs) l known) (sym (append_assoc ahead (x ∷ []) xs))
        ∙ rest ∙ append_assoc ahead (x ∷ []) (insert_key line_cmp xs known)

pub placed : (known : Known) (works : List Known) (index : ℕ) → place_from 0 known works ≡ Some index → insert works index known ≡ insert_key line_cmp works known
placed known works index found = ap (λ o. put_at o works known) (sym found) ∙ put_from known [] works 0 refl

pub tied : (known : Known) (works : List Known) → place_from 0 known works ≡ None → works ≡ insert_key line_cmp works known
tied known works found = ap (λ o. put_at o works known) (sym found) ∙ put_from known [] works 0 refl

abbrev up_to_most : Option ℕ → ℕ → Type 0
up_to_most None most = Unit {0}
up_to_most (Some index) most = index ≤ most

all_within : (known : Known) (works : List Known) (index most : ℕ) → index + length works ≡ most → up_to_most (place_from index known works) most
all_within known [] index most is = omega (arith, is)
all_within known (x ∷ xs) index most is = by (line_cmp known x) (all_within known xs (index + 1) most (omega (arith, is)))
  where
    by : (r : Ordering) → up_to_most (place_from (index + 1) known xs) most → up_to_most (match_ordering r (Some index) None (place_from (index + 1) known xs)) most
    by Less rest = omega (arith, is)
    by Equal rest = tt
    by Greater rest = rest

pub within : (known : Known) (works : List Known) (index : ℕ) → place_from 0 known works ≡ Some index → index ≤ length works
within known works index found = subst (λ o. up_to_most o (length works)) found (all_within known works 0 (length works) (omega arith))

-- the works that a law enacts, by its entries
acts_append : (ls ms : List Command) → acts_of (ls ++ ms) ≡ acts_of ls ++ acts_of ms
acts_append [] ms = refl
acts_append (l ∷ ls) ms = ap (λ bs. acts_by l ++ bs) (acts_append ls ms) ∙ sym (append_assoc (acts_by l) (acts_of ls) (acts_of ms))

abbrev own_works : Option (List ℕ) → List (List ℕ)
own_works None = []
own_works (Some work) = work ∷ []

of_command : (draft : List DraftItem) (c : Command) → works_enacted (law_command draft c) ≡ own_works (enacted_work c)
of_command draft (Enact act) = refl
of_command draft (Record work mods) = refl
of_command draft (Correct id body) = refl
of_command draft (Withdraw id) = refl
of_command draft (Restore id) = refl
of_command draft (DraftAdd work body) = refl
of_command draft (DraftDrop item) = refl
of_command draft (File work seen) = refl

put_own : (o : Option (List ℕ)) (works : List (List ℕ)) → own_works o ++ works ≡ with_own o works
put_own None works = refl
put_own (Some work) works = refl

of_entries : (before es : List Entry) → works_enacted (laws_from before es) ≡ works_of es
of_entries before [] = refl
of_entries before (e ∷ es) =
    ap (map (λ (act : Act). act.work)) (acts_append (law_of before e) (laws_from (before ++ e ∷ []) es))
    ∙ map-append (λ (act : Act). act.work) (acts_of (law_of before e)) (acts_of (laws_from (before ++ e ∷ []) es))
    ∙ ap (λ ws. ws ++ works_enacted (laws_from (before ++ e ∷ []) es)) (of_command (draft_of e.drafter before) e.command)
    ∙ ap (λ ws. own_works (enacted_work e.command) ++ ws) (of_entries (before ++ e ∷ []) es)
    ∙ put_own (enacted_work e.command) (works_of es)

pub enacted_by_entries : (es : List Entry) → works_enacted (laws es) ≡ works_of es
enacted_by_entries es = of_entries [] es

pub whole_line : (es : List Entry) → line_of (laws es) (works_of es) ≡ line (laws es)
unfolding line
whole_line es = sym (ap (line_of (laws es)) (enacted_by_entries es))

-- one entry more, from behind
module _ (es : List Entry) (index : ℕ) (e : Entry) (here : index < length es) (is : e ≡ slice_index_or es index e) where
  pub cut : drop index es ≡ e ∷ drop (index + 1) es
  cut = drop_more es index e here ∙ ap (λ x. x ∷ drop (index + 1) es) (sym is)

  pub own_step : (law : List Command) (behind : List Entry) (work : List ℕ) → enacted_work e.command ≡ Some work → (known : Option Known) → known ≡ known_by_law law work
      → (old new : List Known) → new ≡ with_work old known
      → old ≡ line_of law (works_of (drop (index + 1) es ++ behind)) → new ≡ line_of law (works_of (drop index es ++ behind))
  own_step law behind work enacts known by old new made before =
      made ∙ ap (with_work old) by ∙ ap (λ ks. with_work ks (known_by_law law work)) before
      ∙ sym (ap (λ o. line_of law (with_own o (works_of (drop (index + 1) es ++ behind)))) enacts)
      ∙ sym (ap (λ ds. line_of law (works_of (ds ++ behind))) cut)

  pub none_step : (law : List Command) (behind : List Entry) → enacted_work e.command ≡ None
      → (old : List Known) → old ≡ line_of law (works_of (drop (index + 1) es ++ behind)) → old ≡ line_of law (works_of (drop index es ++ behind))
  none_step law behind enacts old before =
      before
      ∙ sym (ap (λ o. line_of law (with_own o (works_of (drop (index + 1) es ++ behind)))) enacts)
      ∙ sym (ap (λ ds. line_of law (works_of (ds ++ behind))) cut)

  -- the same, with nothing behind them
  pub own_last : (law : List Command) (work : List ℕ) → enacted_work e.command ≡ Some work → (known : Option Known) → known ≡ known_by_law law work
      → (old new : List Known) → new ≡ with_work old known
      → old ≡ line_of law (works_of (drop (index + 1) es)) → new ≡ line_of law (works_of (drop index es))
  own_last law work enacts known by old new made before =
      made ∙ ap (with_work old) by ∙ ap (λ ks. with_work ks (known_by_law law work)) before
      ∙ sym (ap (λ o. line_of law (with_own o (works_of (drop (index + 1) es)))) enacts)
      ∙ sym (ap (λ ds. line_of law (works_of ds)) cut)

  pub none_last : (law : List Command) → enacted_work e.command ≡ None
      → (old : List Known) → old ≡ line_of law (works_of (drop (index + 1) es)) → old ≡ line_of law (works_of (drop index es))
  none_last law enacts old before =
      before
      ∙ sym (ap (λ o. line_of law (with_own o (works_of (drop (index + 1) es)))) enacts)
      ∙ sym (ap (λ ds. line_of law (works_of ds)) cut)

-- what is known of a work is of that work
pub known_stands : (es : List Entry) (work : List ℕ) (known : Known) → known_now es work ≡ Some known
    → known_now es known.act.work ≡ Some (up_to (front es) known)
known_stands es work known is =
    ap (known_now es) (known_own (laws es) work known (sym (now_known es work) ∙ is)) ∙ is ∙ ap (λ k. Some k) (sym (now_counts es work known is))

pub known_then : (es : List Entry) (e : Entry) (work : List ℕ) (known new : Known) → known_now es work ≡ Some known
    → known_now (es ++ e ∷ []) known.act.work ≡ Some new → Some new ≡ known_by_law (laws (es ++ e ∷ [])) work
known_then es e work known new is after =
    sym after ∙ ap (known_now (es ++ e ∷ [])) (known_own (laws es) work known (sym (now_known es work) ∙ is)) ∙ now_known (es ++ e ∷ []) work

-- a work that an entry enacts is known
known_some : (work : List ℕ) (v f : ℕ) (law : List Command) (o : Option (ℕ × Act)) → is_some (known_by work v f law o) ≡ is_some o
known_some work v f law None = refl
known_some work v f law (Some found) = refl

or_some : (n : ℕ) (act : Option Act) (later : Option (ℕ × Act)) → is_some (enacted_or n act later) ≡ (is_some act || is_some later)
or_some n None later = refl
or_some n (Some act) later = refl

enacts_some : (work : List ℕ) (n : ℕ) (law : List Command) → is_some (enacted_from n work law) ≡ list_any (λ c. is_some (enacted_by work c)) law
enacts_some work n [] = refl
enacts_some work n (c ∷ law) = or_some n (enacted_by work c) (enacted_from (n + 1) work law) ∙ ap (λ b. is_some (enacted_by work c) || b) (enacts_some work (n + 1) law)

some_enacted : (b : Bool) (act : Act) → is_some (cond b (Some act) None) ≡ (b || false)
some_enacted true act = refl
some_enacted false act = refl

in_command : (work : List ℕ) (c : Command) → is_some (enacted_by work c) ≡ list_any (λ w. bytes_eq w work) (map (λ (act : Act). act.work) (acts_by c))
in_command work (Enact act) = some_enacted (bytes_eq act.work work) act
in_command work (Record other mods) = refl
in_command work (Correct id body) = refl
in_command work (Withdraw id) = refl
in_command work (Restore id) = refl
in_command work (DraftAdd other body) = refl
in_command work (DraftDrop item) = refl
in_command work (File other seen) = refl

any_append : (test : List ℕ → Bool) (ws vs : List (List ℕ)) → list_any test (ws ++ vs) ≡ (list_any test ws || list_any test vs)
any_append test [] vs = refl
any_append test (w ∷ ws) vs = ap (λ b. test w || b) (any_append test ws vs) ∙ or_assoc (test w) (list_any test ws) (list_any test vs)
  where
    or_assoc : (a b c : Bool) → (a || (b || c)) ≡ ((a || b) || c)
    or_assoc true b c = refl
    or_assoc false b c = refl

in_law : (work : List ℕ) (law : List Command) → list_any (λ c. is_some (enacted_by work c)) law ≡ list_any (λ w. bytes_eq w work) (works_enacted law)
in_law work [] = refl
in_law work (c ∷ law) =
    ap (λ b. is_some (enacted_by work c) || b) (in_law work law)
    ∙ ap (λ b. b || list_any (λ w. bytes_eq w work) (works_enacted law)) (in_command work c)
    ∙ sym (any_append (λ w. bytes_eq w work) (map (λ (act : Act). act.work) (acts_by c)) (works_enacted law))
    ∙ ap (list_any (λ w. bytes_eq w work)) (sym (map-append (λ (act : Act). act.work) (acts_by c) (acts_of law)))

in_rest : (test : List ℕ → Bool) (index : ℕ) (es : List Entry) → list_any test (works_of (drop index es)) ≡ true → list_any test (works_of es) ≡ true
in_rest test zero es there = there
in_rest test (suc index) [] there = there
in_rest test (suc index) (e ∷ es) there = by (enacted_work e.command) (in_rest test index es there)
  where
    later : (b c : Bool) → c ≡ true → (b || c) ≡ true
    later true c h = refl
    later false c h = h

    by : (o : Option (List ℕ)) → list_any test (works_of es) ≡ true → list_any test (with_own o (works_of es)) ≡ true
    by None rest = rest
    by (Some w) rest = later (test w) (list_any test (works_of es)) rest

pub is_known : (es : List Entry) (index : ℕ) (e : Entry) → index < length es → e ≡ slice_index_or es index e → (work : List ℕ) → enacted_work e.command ≡ Some work
    → is_some (known_now es work) ≡ true
is_known es index e here is work enacts =
    let first : list_any (λ w. bytes_eq w work) (works_of (e ∷ drop (index + 1) es)) ≡ true =
    ap (λ o. list_any (λ w. bytes_eq w work) (with_own o (works_of (drop (index + 1) es)))) enacts
    ∙ ap (λ b. b || list_any (λ w. bytes_eq w work) (works_of (drop (index + 1) es))) (bytes_are work work refl) in
    let there : list_any (λ w. bytes_eq w work) (works_of (drop index es)) ≡ true = ap (λ ds. list_any (λ w. bytes_eq w work) (works_of ds)) (cut es index e here is) ∙ first in
    ap is_some (now_known es work)
    ∙ known_some work (length (laws es)) (length (laws es)) (laws es) (enacted work (laws es))
    ∙ enacts_some work 1 (laws es)
    ∙ in_law work (laws es)
    ∙ ap (list_any (λ w. bytes_eq w work)) (enacted_by_entries es)
    ∙ in_rest (λ w. bytes_eq w work) index es there
