-- What one more entry, or one more law entry, makes of each definition over a register.
use Rattle.std.proofs.Common.{suc, ◌≡◌, ◌∙◌, sym, ap, ℕ, ◌+◌, ◌==◌, Bool, true, false, cond, ◌&&◌, List, [], ◌∷◌, ◌++◌, length, Option, Some, None, refl, append_assoc, arith}
use Rattle.std.proofs.lemmas.List.{append-nil}
use Rattle.std.specs.List.{list_any}
use Rattle.std.specs.Str.{bytes_eq}
use Rattle.desk_base.specs.declared.id.Id.{Id}
use Rattle.law_register.specs.declared.law.act.Act.{Act}
use Rattle.law_register.specs.declared.law.command.Command.{Command}
use Rattle.law_register.specs.declared.register.draft.DraftItem.{DraftItem}
use Rattle.law_register.specs.declared.register.entry.Entry.{Entry}
use Rattle.law_register.specs.declared.register.verdict.Reply.{Reply}
use Rattle.law_register.specs.Register.Drafts.{is_by, additions, added, redrafted, drafted_from, draft_of}
use Rattle.law_register.specs.Register.KnownIds.{IdFacts, facts_after, facts_from, facts_of, enacted_by, enacted_or, enacted_from, enacted, ids_recorded, ids_from, ids_of}
use Rattle.law_register.specs.Register.Listing.{numbers_from, numbers_on}
use Rattle.law_register.specs.Register.LawList.{acts_by, acts_of, law_of, laws_from, laws}
use Rattle.law_register.specs.Law.Sizes.{entry_size, entries_size}
use Rattle.law_register.specs.Register.Verdicts.{reply_to, request_from, request_of, drafters_from, drafters, last_from, last_on, is_accepted, verdict, is_legal_from, is_legal}
use Rattle.law_register.specs.Register.Concerns.{concerns}
use Rattle.std.specs.Option.{option_or}

-- the law that one more entry makes behind others
laws_from_more : (before es : List Entry) (e : Entry) → laws_from before (es ++ e ∷ []) ≡ laws_from before es ++ law_of (before ++ es) e
laws_from_more before [] e = append-nil (law_of before e) ∙ sym (ap (λ b. law_of b e) (append-nil before))
laws_from_more before (x ∷ es) e =
    ap (λ l. law_of before x ++ l) (laws_from_more (before ++ x ∷ []) es e)
    ∙ sym (append_assoc (law_of before x) (laws_from (before ++ x ∷ []) es) (law_of (before ++ x ∷ [] ++ es) e))
    ∙ ap (λ b. law_of before x ++ laws_from (before ++ x ∷ []) es ++ law_of b e) (append_assoc before (x ∷ []) es)

pub laws_more : (es : List Entry) (e : Entry) → laws (es ++ e ∷ []) ≡ laws es ++ law_of es e
laws_more es e = laws_from_more [] es e

-- how many items a drafter has added
pub added_more : (drafter : List ℕ) (es : List Entry) (e : Entry)
    → added drafter (es ++ e ∷ []) ≡ added drafter es + cond (is_by drafter e) (additions e.command) 0
added_more drafter [] e = let c = cond (is_by drafter e) (additions e.command) 0 in omega arith
added_more drafter (x ∷ es) e =
    let a = cond (is_by drafter x) (additions x.command) 0 in
    let c = cond (is_by drafter e) (additions e.command) 0 in
    let ih : added drafter (es ++ e ∷ []) ≡ added drafter es + c = added_more drafter es e in
    ap (λ n. a + n) ih ∙ assoc a (added drafter es) c
  where
    assoc : (a b c : ℕ) → a + (b + c) ≡ a + b + c
    assoc a b c = omega arith

-- a drafter's draft
abbrev pub after_own : Bool → ℕ → Command → List DraftItem → List DraftItem
after_own own count command items = cond own (redrafted (count + 1) command items) items

drafted_more : (drafter : List ℕ) (count : ℕ) (items : List DraftItem) (es : List Entry) (e : Entry)
    → drafted_from drafter count items (es ++ e ∷ []) ≡ after_own (is_by drafter e) (count + added drafter es) e.command (drafted_from drafter count items es)
drafted_more drafter count items [] e = ap (λ n. after_own (is_by drafter e) n e.command items) (plus_nothing count)
  where
    plus_nothing : (n : ℕ) → n ≡ n + 0
    plus_nothing n = omega arith
drafted_more drafter count items (x ∷ es) e =
    by (is_by drafter x) (drafted_more drafter (count + additions x.command) (redrafted (count + 1) x.command items) es e) (drafted_more drafter count items es e)
  where
    first : (n a b : ℕ) → n + a + b ≡ n + (a + b)
    first n a b = omega arith

    second : (n b : ℕ) → n + b ≡ n + (0 + b)
    second n b = omega arith

    by : (own : Bool)
        → drafted_from drafter (count + additions x.command) (redrafted (count + 1) x.command items) (es ++ e ∷ [])
        ≡ after_own (is_by drafter e) (count + additions x.command + added drafter es) e.command (drafted_from drafter (count + additions x.command) (redrafted (count + 1) x.command items) es)
        → drafted_from drafter count items (es ++ e ∷ []) ≡ after_own (is_by drafter e) (count + added drafter es) e.command (drafted_from drafter count items es)
        → cond own (drafted_from drafter (count + additions x.command) (redrafted (count + 1) x.command items) (es ++ e ∷ [])) (drafted_from drafter count items (es ++ e ∷ []))
        ≡ after_own (is_by drafter e) (count + (cond own (additions x.command) 0 + added drafter es)) e.command
        (cond own (drafted_from drafter (count + additions x.command) (redrafted (count + 1) x.command items) es) (drafted_from drafter count items es))
    by true mine others =
        mine ∙ ap (λ n. after_own (is_by drafter e) n e.command (drafted_from drafter (count + additions x.command) (redrafted (count + 1) x.command items) es)) (first count (additions x.command) (added drafter es))
    by false mine others = others ∙ ap (λ n. after_own (is_by drafter e) n e.command (drafted_from drafter count items es)) (second count (added drafter es))

pub draft_more : (drafter : List ℕ) (es : List Entry) (e : Entry)
    → draft_of drafter (es ++ e ∷ []) ≡ cond (is_by drafter e) (redrafted (added drafter es + 1) e.command (draft_of drafter es)) (draft_of drafter es)
draft_more drafter es e =
    drafted_more drafter 0 [] es e ∙ ap (λ n. after_own (is_by drafter e) n e.command (draft_of drafter es)) (nothing_plus (added drafter es))
  where
    nothing_plus : (n : ℕ) → 0 + n ≡ n
    nothing_plus n = omega arith

-- the acts of the law
pub acts_more : (ls : List Command) (l : Command) → acts_of (ls ++ l ∷ []) ≡ acts_of ls ++ acts_by l
acts_more [] l = append-nil (acts_by l)
acts_more (x ∷ ls) l = ap (λ acts. acts_by x ++ acts) (acts_more ls l) ∙ sym (append_assoc (acts_by x) (acts_of ls) (acts_by l))

-- the number of the law entry behind those numbered from here on
one_later : (number n : ℕ) → number + 1 + n ≡ number + suc n
one_later number n = omega arith

here : (number : ℕ) → number ≡ number + 0
here number = omega arith

from_one : (n : ℕ) → 1 + n ≡ n + 1
from_one n = omega arith

-- what is known of an id
facts_from_more : (id : Id) (number : ℕ) (facts : Option IdFacts) (ls : List Command) (l : Command)
    → facts_from id number facts (ls ++ l ∷ []) ≡ facts_after id (number + length ls) l (facts_from id number facts ls)
facts_from_more id number facts [] l = ap (λ n. facts_after id n l facts) (here number)
facts_from_more id number facts (x ∷ ls) l =
    facts_from_more id (number + 1) (facts_after id number x facts) ls l
    ∙ ap (λ n. facts_after id n l (facts_from id (number + 1) (facts_after id number x facts) ls)) (one_later number (length ls))

pub facts_more : (id : Id) (ls : List Command) (l : Command) → facts_of id (ls ++ l ∷ []) ≡ facts_after id (length ls + 1) l (facts_of id ls)
facts_more id ls l = facts_from_more id 1 None ls l ∙ ap (λ n. facts_after id n l (facts_of id ls)) (from_one (length ls))

-- the act of a work: the first that was enacted stays
abbrev pub first_act : Option (ℕ × Act) → Option (ℕ × Act) → Option (ℕ × Act)
first_act (Some found) later = Some found
first_act None later = later

enacted_from_more : (number : ℕ) (work : List ℕ) (ls : List Command) (l : Command)
    → enacted_from number work (ls ++ l ∷ []) ≡ first_act (enacted_from number work ls) (enacted_or (number + length ls) (enacted_by work l) None)
enacted_from_more number work [] l = ap (λ n. enacted_or n (enacted_by work l) None) (here number)
enacted_from_more number work (x ∷ ls) l =
    ap (enacted_or number (enacted_by work x)) (enacted_from_more (number + 1) work ls l)
    ∙ ap (λ n. enacted_or number (enacted_by work x) (first_act (enacted_from (number + 1) work ls) (enacted_or n (enacted_by work l) None))) (one_later number (length ls))
    ∙ by (enacted_by work x)
  where
    by : (act : Option Act) → enacted_or number act (first_act (enacted_from (number + 1) work ls) (enacted_or (number + suc (length ls)) (enacted_by work l) None))
        ≡ first_act (enacted_or number act (enacted_from (number + 1) work ls)) (enacted_or (number + suc (length ls)) (enacted_by work l) None)
    by (Some act) = refl
    by None = refl

pub enacted_more : (work : List ℕ) (ls : List Command) (l : Command)
    → enacted work (ls ++ l ∷ []) ≡ first_act (enacted work ls) (enacted_or (length ls + 1) (enacted_by work l) None)
enacted_more work ls l =
    enacted_from_more 1 work ls l ∙ ap (λ n. first_act (enacted work ls) (enacted_or n (enacted_by work l) None)) (from_one (length ls))

-- the ids of a work
pub ids_from_more : (number : ℕ) (work : List ℕ) (ls : List Command) (l : Command)
    → ids_from number work (ls ++ l ∷ []) ≡ ids_from number work ls ++ ids_recorded (number + length ls) work l
ids_from_more number work [] l = append-nil (ids_recorded number work l) ∙ ap (λ n. ids_recorded n work l) (here number)
ids_from_more number work (x ∷ ls) l =
    ap (λ ids. ids_recorded number work x ++ ids) (ids_from_more (number + 1) work ls l)
    ∙ sym (append_assoc (ids_recorded number work x) (ids_from (number + 1) work ls) (ids_recorded (number + 1 + length ls) work l))
    ∙ ap (λ n. ids_recorded number work x ++ ids_from (number + 1) work ls ++ ids_recorded n work l) (one_later number (length ls))

pub ids_more : (work : List ℕ) (ls : List Command) (l : Command) → ids_of work (ls ++ l ∷ []) ≡ ids_of work ls ++ ids_recorded (length ls + 1) work l
ids_more work ls l = ids_from_more 1 work ls l ∙ ap (λ n. ids_of work ls ++ ids_recorded n work l) (from_one (length ls))

-- the last law entry that concerns a work
last_from_more : (before : List Command) (work : List ℕ) (last : ℕ) (ls : List Command) (l : Command)
    → last_from before work last (ls ++ l ∷ []) ≡ cond (concerns (before ++ ls) work l) (length (before ++ ls) + 1) (last_from before work last ls)
last_from_more before work last [] l = ap (λ b. cond (concerns b work l) (length b + 1) last) (sym (append-nil before))
last_from_more before work last (x ∷ ls) l =
    let next = cond (concerns before work x) (length before + 1) last in
    last_from_more (before ++ x ∷ []) work next ls l
    ∙ ap (λ b. cond (concerns b work l) (length b + 1) (last_from (before ++ x ∷ []) work next ls)) (append_assoc before (x ∷ []) ls)

pub last_more : (work : List ℕ) (ls : List Command) (l : Command)
    → last_on work (ls ++ l ∷ []) ≡ cond (concerns ls work l) (length ls + 1) (last_on work ls)
last_more work ls l = last_from_more [] work 0 ls l

-- the law entries that concern a work
numbers_from_more : (before : List Command) (work found : List ℕ) (ls : List Command) (l : Command)
    → numbers_from before work found (ls ++ l ∷ [])
    ≡ cond (concerns (before ++ ls) work l) ((length (before ++ ls) + 1) ∷ numbers_from before work found ls) (numbers_from before work found ls)
numbers_from_more before work found [] l = ap (λ b. cond (concerns b work l) ((length b + 1) ∷ found) found) (sym (append-nil before))
numbers_from_more before work found (x ∷ ls) l =
    let next : List ℕ = cond (concerns before work x) ((length before + 1) ∷ found) found in
    let rest : List ℕ = numbers_from (before ++ x ∷ []) work next ls in
    numbers_from_more (before ++ x ∷ []) work next ls l
    ∙ ap (λ b. cond (concerns b work l) ((length b + 1) ∷ rest) rest) (append_assoc before (x ∷ []) ls)

pub numbers_more : (work : List ℕ) (ls : List Command) (l : Command)
    → numbers_on work (ls ++ l ∷ []) ≡ cond (concerns ls work l) ((length ls + 1) ∷ numbers_on work ls) (numbers_on work ls)
numbers_more work ls l = numbers_from_more [] work [] ls l

-- the entry of a request
abbrev pub found_here : Bool → Entry → Reply → Option (Entry × Reply)
found_here mine e reply = cond mine (Some (e, reply)) None

request_from_more : (before : List Entry) (drafter : List ℕ) (request : ℕ) (es : List Entry) (e : Entry)
    → request_from before drafter request (es ++ e ∷ [])
    ≡ option_or (request_from before drafter request es) (found_here (is_by drafter e && (e.request == request)) e (reply_to (before ++ es) drafter e.command))
request_from_more before drafter request [] e =
    last (found_here (is_by drafter e && (e.request == request)) e (reply_to before drafter e.command))
    ∙ ap (λ b. found_here (is_by drafter e && (e.request == request)) e (reply_to b drafter e.command)) (sym (append-nil before))
  where
    last : (found : Option (Entry × Reply)) → option_or found None ≡ found
    last (Some found) = refl
    last None = refl
request_from_more before drafter request (x ∷ es) e =
    let own : Option (Entry × Reply) = found_here (is_by drafter x && (x.request == request)) x (reply_to before drafter x.command) in
    let mine : Bool = is_by drafter e && (e.request == request) in
    let later : Option (Entry × Reply) = request_from (before ++ x ∷ []) drafter request es in
    ap (option_or own) (request_from_more (before ++ x ∷ []) drafter request es e)
    ∙ ap (λ b. option_or own (option_or later (found_here mine e (reply_to b drafter e.command)))) (append_assoc before (x ∷ []) es)
    ∙ by own later (found_here mine e (reply_to (before ++ x ∷ es) drafter e.command))
  where
    by : (first second third : Option (Entry × Reply)) → option_or first (option_or second third) ≡ option_or (option_or first second) third
    by (Some found) second third = refl
    by None second third = refl

pub request_more : (drafter : List ℕ) (request : ℕ) (es : List Entry) (e : Entry)
    → request_of (es ++ e ∷ []) drafter request
    ≡ option_or (request_of es drafter request) (found_here (is_by drafter e && (e.request == request)) e (reply_to es drafter e.command))
request_more drafter request es e = request_from_more [] drafter request es e

-- the drafters
abbrev pub with_drafter : List ℕ → List (List ℕ) → List (List ℕ)
with_drafter drafter seen = cond (list_any (bytes_eq drafter) seen) seen (seen ++ drafter ∷ [])

drafters_from_more : (seen : List (List ℕ)) (es : List Entry) (e : Entry) → drafters_from seen (es ++ e ∷ []) ≡ with_drafter e.drafter (drafters_from seen es)
drafters_from_more seen [] e = refl
drafters_from_more seen (x ∷ es) e = drafters_from_more (with_drafter x.drafter seen) es e

pub drafters_more : (es : List Entry) (e : Entry) → drafters (es ++ e ∷ []) ≡ with_drafter e.drafter (drafters es)
drafters_more es e = drafters_from_more [] es e

-- the size of all entries
pub size_more : (es : List Entry) (e : Entry) → entries_size (es ++ e ∷ []) ≡ entries_size es + entry_size e
size_more [] e = last (entry_size e)
  where
    last : (n : ℕ) → n + 0 ≡ 0 + n
    last n = omega arith
size_more (x ∷ es) e = ap (λ n. entry_size x + n) (size_more es e) ∙ assoc (entry_size x) (entries_size es) (entry_size e)
  where
    assoc : (a b c : ℕ) → a + (b + c) ≡ a + b + c
    assoc a b c = omega arith

-- a legal register with one entry more
legal_from_more : (before es : List Entry) (e : Entry)
    → is_legal_from before (es ++ e ∷ []) ≡ is_legal_from before es && is_accepted e.law (verdict (before ++ es) e.drafter e.request e.command)
legal_from_more before [] e =
    last (is_accepted e.law (verdict before e.drafter e.request e.command))
    ∙ ap (λ b. is_accepted e.law (verdict b e.drafter e.request e.command)) (sym (append-nil before))
  where
    last : (b : Bool) → b && true ≡ b
    last true = refl
    last false = refl
legal_from_more before (x ∷ es) e =
    ap (λ b. is_accepted x.law (verdict before x.drafter x.request x.command) && b) (legal_from_more (before ++ x ∷ []) es e)
    ∙ ap (λ b. is_accepted x.law (verdict before x.drafter x.request x.command)
    && (is_legal_from (before ++ x ∷ []) es && is_accepted e.law (verdict b e.drafter e.request e.command))) (append_assoc before (x ∷ []) es)
    ∙ assoc (is_accepted x.law (verdict before x.drafter x.request x.command)) (is_legal_from (before ++ x ∷ []) es)
    (is_accepted e.law (verdict (before ++ x ∷ es) e.drafter e.request e.command))
  where
    assoc : (a b c : Bool) → a && (b && c) ≡ (a && b) && c
    assoc true b c = refl
    assoc false b c = refl

pub legal_more : (es : List Entry) (e : Entry) → is_legal (es ++ e ∷ []) ≡ is_legal es && is_accepted e.law (verdict es e.drafter e.request e.command)
legal_more es e = legal_from_more [] es e
