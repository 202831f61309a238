-- Drafters are apart: a verdict is made of the law, of the drafter's own entries, and of the room that all drafters share.
use Rattle.std.proofs.Common.{◌≡◌, ◌∙◌, ap, sym, subst, ℕ, ◌+◌, ◌==◌, nat_le, nat_lt, Bool, true, false, cond, not, ◌&&◌, ◌||◌, ◌⊎◌, inl, inr, List, [], ◌∷◌, ◌++◌, length, Option, Some, None, is_some, refl, arith}
use Rattle.std.specs.List.{list_any}
use Rattle.std.specs.Option.{option_map_or, option_or}
use Rattle.std.specs.Str.{bytes_eq}
use Rattle.law_register.specs.declared.law.command.Command.{Command}
use Rattle.law_register.specs.declared.law.command.Command.TheVariants.{Enact, Record, Correct, Withdraw, Restore, DraftAdd, DraftDrop, File}
use Rattle.law_register.specs.declared.register.draft.DraftItem.{DraftItem}
use Rattle.law_register.specs.declared.register.entry.Entry.{Entry}
use Rattle.law_register.specs.declared.register.limits.TheConstants.{MOST_DRAFTERS, MOST_LAWS, MOST_ENTRY_BYTES, MOST_REGISTER_BYTES}
use Rattle.law_register.specs.declared.register.rules.Rule.{Rule}
use Rattle.law_register.specs.declared.register.rules.Rule.TheVariants.{DraftersFull, LawFull, RegisterFull}
use Rattle.law_register.specs.declared.register.verdict.Reply.{Reply}
use Rattle.law_register.specs.declared.register.verdict.Reply.TheVariants as reply
use Rattle.law_register.specs.declared.register.verdict.Verdict.{Verdict}
use Rattle.law_register.specs.declared.register.verdict.Verdict.TheVariants.{Accepted, Refused}
use Rattle.law_register.specs.Answer.Previews.{own_entries}
use Rattle.law_register.specs.Law.Same.{same_number}
use Rattle.law_register.specs.Law.Sizes.{size_of, entries_size}
use Rattle.law_register.specs.Register.Drafts.{is_by, additions, added, draft_of}
use Rattle.law_register.specs.Register.LawList.{laws, front}
use Rattle.law_register.specs.Register.Room.{finds_no_room, is_of_room}
use Rattle.law_register.specs.Register.Verdicts as v
use Rattle.law_register.specs.Register.Verdicts.{broken_where, again, newly, reply_to, law_number, request_from, request_of, drafters, first_rule, verdict, is_accepted, is_legal_from, is_legal}
use Rattle.law_register.proofs.Apart.{same_draft}
use Rattle.law_register.proofs.Legal.{accepted_new}
use Rattle.law_register.proofs.Puts.{left_true, right_true, number_same}
use Rattle.law_register.proofs.Snoc.{added_more}

-- a reply is told by the entry and by how many items its drafter had added
abbrev law_told : Option ℕ → ℕ
law_told None = 0
law_told (Some number) = number

abbrev reply_told : ℕ → Option ℕ → Command → Reply
reply_told count law (DraftAdd work body) = reply.Draft (count + 1)
reply_told count law (DraftDrop item) = reply.Draft item
reply_told count law command = reply.Law (law_told law)

told_number : (law : Option ℕ) (n : ℕ) → same_number law (Some n) ≡ true → reply.Law n ≡ reply.Law (law_told law)
told_number None n h = absurd (let no : false ≡ true = h in cc)
told_number (Some k) n h = ap reply.Law (sym (number_same k n h))

reply_is : (before : List Entry) (d : List ℕ) (c : Command) (law : Option ℕ) → same_number law (law_number before c) ≡ true → reply_to before d c ≡ reply_told (added d before) law c
reply_is before d (DraftAdd work body) law h = refl
reply_is before d (DraftDrop item) law h = refl
reply_is before d (Enact act) law h = told_number law (front before + 1) h
reply_is before d (Record work mods) law h = told_number law (front before + 1) h
reply_is before d (Correct id body) law h = told_number law (front before + 1) h
reply_is before d (Withdraw id) law h = told_number law (front before + 1) h
reply_is before d (Restore id) law h = told_number law (front before + 1) h
reply_is before d (File work seen) law h = told_number law (front before + 1) h

-- the entry of a request among its drafter's own
abbrev own_request : ℕ → ℕ → List Entry → Option (Entry × Reply)
own_request count r [] = None
own_request count r (e ∷ es) =
    option_or (cond (e.request == r) (Some (e, reply_told count e.law e.command)) None) (own_request (count + additions e.command) r es)

request_own : (before es : List Entry) (d : List ℕ) (r : ℕ) → is_legal_from before es ≡ true → request_from before d r es ≡ own_request (added d before) r (own_entries d es)
request_own before [] d r h = refl
request_own before (e ∷ es) d r h =
    by (is_by d e) refl
    (request_own (before ++ e ∷ []) es d r (right_true (is_accepted e.law (verdict before e.drafter e.request e.command)) (is_legal_from (before ++ e ∷ []) es) h))
  where
    accepted : is_accepted e.law (verdict before e.drafter e.request e.command) ≡ true
    accepted = left_true (is_accepted e.law (verdict before e.drafter e.request e.command)) (is_legal_from (before ++ e ∷ []) es) h

    count : (own : Bool) → is_by d e ≡ own → added d (before ++ e ∷ []) ≡ added d before + cond own (additions e.command) 0
    count own is = added_more d before e ∙ ap (λ b. added d before + cond b (additions e.command) 0) is

    said : reply_to before d e.command ≡ reply_told (added d before) e.law e.command
    said = reply_is before d e.command e.law (accepted_new before e.drafter e.request e.command e.law accepted).number

    nothing : (n : ℕ) → n + 0 ≡ n
    nothing n = omega arith

    by : (own : Bool) → is_by d e ≡ own
        → request_from (before ++ e ∷ []) d r es ≡ own_request (added d (before ++ e ∷ [])) r (own_entries d es)
        → option_or (cond (is_by d e && (e.request == r)) (Some (e, reply_to before d e.command)) None) (request_from (before ++ e ∷ []) d r es)
        ≡ own_request (added d before) r (cond own (e ∷ own_entries d es) (own_entries d es))
    by true is later =
        ap (λ b. option_or (cond (b && (e.request == r)) (Some (e, reply_to before d e.command)) None) (request_from (before ++ e ∷ []) d r es)) is
        ∙ ap (λ x. option_or (cond (e.request == r) (Some (e, x)) None) (request_from (before ++ e ∷ []) d r es)) said
        ∙ ap (option_or (cond (e.request == r) (Some (e, reply_told (added d before) e.law e.command)) None)) (later ∙ ap (λ n. own_request n r (own_entries d es)) (count true is))
    by false is later =
        ap (λ b. option_or (cond (b && (e.request == r)) (Some (e, reply_to before d e.command)) None) (request_from (before ++ e ∷ []) d r es)) is
        ∙ later ∙ ap (λ n. own_request n r (own_entries d es)) (count false is ∙ nothing (added d before))

same_request : (d : List ℕ) (r : ℕ) (xs ys : List Entry) → is_legal xs ≡ true → is_legal ys ≡ true → own_entries d xs ≡ own_entries d ys → request_of xs d r ≡ request_of ys d r
same_request d r xs ys hx hy own = request_own [] xs d r hx ∙ ap (own_request 0 r) own ∙ sym (request_own [] ys d r hy)

-- how many items a drafter has added
added_own : (d : List ℕ) (es : List Entry) → added d (own_entries d es) ≡ added d es
added_own d [] = refl
added_own d (e ∷ es) = by (is_by d e) refl (added_own d es)
  where
    nothing : (n : ℕ) → n ≡ 0 + n
    nothing n = omega arith

    by : (own : Bool) → is_by d e ≡ own → added d (own_entries d es) ≡ added d es → added d (cond own (e ∷ own_entries d es) (own_entries d es)) ≡ cond own (additions e.command) 0 + added d es
    by true is same = ap (λ b. cond b (additions e.command) 0 + added d (own_entries d es)) is ∙ ap (λ n. additions e.command + n) same
    by false is same = same ∙ nothing (added d es)

same_added : (d : List ℕ) (xs ys : List Entry) → own_entries d xs ≡ own_entries d ys → added d xs ≡ added d ys
same_added d xs ys own = sym (added_own d xs) ∙ ap (added d) own ∙ added_own d ys

-- the reply and the law number that a command gets
same_reply : (d : List ℕ) (c : Command) (xs ys : List Entry) → laws xs ≡ laws ys → own_entries d xs ≡ own_entries d ys → reply_to xs d c ≡ reply_to ys d c
same_reply d (DraftAdd work body) xs ys law own = ap (λ n. reply.Draft (n + 1)) (same_added d xs ys own)
same_reply d (DraftDrop item) xs ys law own = refl
same_reply d (Enact act) xs ys law own = ap (λ l. reply.Law (length l + 1)) law
same_reply d (Record work mods) xs ys law own = ap (λ l. reply.Law (length l + 1)) law
same_reply d (Correct id body) xs ys law own = ap (λ l. reply.Law (length l + 1)) law
same_reply d (Withdraw id) xs ys law own = ap (λ l. reply.Law (length l + 1)) law
same_reply d (Restore id) xs ys law own = ap (λ l. reply.Law (length l + 1)) law
same_reply d (File work seen) xs ys law own = ap (λ l. reply.Law (length l + 1)) law

abbrev number_by : Command → List Command → Option ℕ
number_by (DraftAdd work body) law = None
number_by (DraftDrop item) law = None
number_by command law = Some (length law + 1)

numbered_by : (c : Command) (es : List Entry) → law_number es c ≡ number_by c (laws es)
numbered_by (DraftAdd work body) es = refl
numbered_by (DraftDrop item) es = refl
numbered_by (Enact act) es = refl
numbered_by (Record work mods) es = refl
numbered_by (Correct id body) es = refl
numbered_by (Withdraw id) es = refl
numbered_by (Restore id) es = refl
numbered_by (File work seen) es = refl

same_law_number : (c : Command) (xs ys : List Entry) → laws xs ≡ laws ys → law_number xs c ≡ law_number ys c
same_law_number c xs ys law = numbered_by c xs ∙ ap (number_by c) law ∙ sym (numbered_by c ys)

same_full : (c : Command) (xs ys : List Entry) → laws xs ≡ laws ys → v.law_full xs c ≡ v.law_full ys c
same_full c xs ys law =
    ap (λ n. broken_where (is_some n && nat_le MOST_LAWS (front xs)) (LawFull MOST_LAWS)) (same_law_number c xs ys law)
    ∙ ap (λ l. broken_where (is_some (law_number ys c) && nat_le MOST_LAWS (length l)) (LawFull MOST_LAWS)) law

-- two rules are the same, or one of them is of the room that all drafters share
abbrev OfRoom : Option Rule → Type 0
OfRoom None = ⊥
OfRoom (Some rule) = is_of_room rule ≡ true

abbrev AreClose : Option Rule → Option Rule → Type 0
AreClose a b = (a ≡ b) ⊎ (OfRoom a ⊎ OfRoom b)

behind : (first a b : Option Rule) → AreClose a b → AreClose (option_or first a) (option_or first b)
behind None a b h = h
behind (Some rule) a b h = inl refl

by_drafters : (test other : Bool) (a b : Option Rule) → AreClose a b
    → AreClose (option_or (broken_where test (DraftersFull MOST_DRAFTERS)) a) (option_or (broken_where other (DraftersFull MOST_DRAFTERS)) b)
by_drafters true other a b h = inr (inl refl)
by_drafters false true a b h = inr (inr refl)
by_drafters false false a b h = h

by_bytes : (test other : Bool) → AreClose (broken_where test (RegisterFull MOST_REGISTER_BYTES)) (broken_where other (RegisterFull MOST_REGISTER_BYTES))
by_bytes true other = inr (inl refl)
by_bytes false true = inr (inr refl)
by_bytes false false = inl refl

-- the rules between the first and the last, by the law, a draft, and what the rule on full laws says
abbrev between : List Command → List DraftItem → Command → Option Rule → Option Rule → Option Rule
between law draft c full last =
    option_or (v.unknown_work law c)
    (option_or (v.work_exists law c)
    (option_or (v.bad_tree c)
    (option_or (v.bad_modification c)
    (option_or (v.bad_period c)
    (option_or (v.unknown_modification law draft c)
    (option_or (v.already_withdrawn law c)
    (option_or (v.not_withdrawn law c)
    (option_or (v.wrong_kind law c)
    (option_or (v.stale law c)
    (option_or (v.empty_draft draft c)
    (option_or (v.draft_full draft c)
    (option_or (v.work_full law draft c)
    (option_or full last)))))))))))))

between_close : (law : List Command) (draft : List DraftItem) (c : Command) (full a b : Option Rule) → AreClose a b → AreClose (between law draft c full a) (between law draft c full b)
between_close law draft c full a b h =
    behind (v.unknown_work law c) _ _
    (behind (v.work_exists law c) _ _
    (behind (v.bad_tree c) _ _
    (behind (v.bad_modification c) _ _
    (behind (v.bad_period c) _ _
    (behind (v.unknown_modification law draft c) _ _
    (behind (v.already_withdrawn law c) _ _
    (behind (v.not_withdrawn law c) _ _
    (behind (v.wrong_kind law c) _ _
    (behind (v.stale law c) _ _
    (behind (v.empty_draft draft c) _ _
    (behind (v.draft_full draft c) _ _
    (behind (v.work_full law draft c) _ _
    (behind full a b h)))))))))))))

rules_close : (d : List ℕ) (c : Command) (xs ys : List Entry) → laws xs ≡ laws ys → own_entries d xs ≡ own_entries d ys → AreClose (first_rule xs d c) (first_rule ys d c)
rules_close d c xs ys law own =
    let last : List Entry → Option Rule = λ es. v.register_full es d c in
    let close = between_close (laws ys) (draft_of d ys) c (v.law_full ys c) (last xs) (last ys)
    (by_bytes (nat_lt MOST_ENTRY_BYTES (size_of d c) || nat_lt MOST_REGISTER_BYTES (entries_size xs + size_of d c))
    (nat_lt MOST_ENTRY_BYTES (size_of d c) || nat_lt MOST_REGISTER_BYTES (entries_size ys + size_of d c))) in
    let same : between (laws xs) (draft_of d xs) c (v.law_full xs c) (last xs) ≡ between (laws ys) (draft_of d ys) c (v.law_full ys c) (last xs) =
    ap (λ l. between l (draft_of d xs) c (v.law_full xs c) (last xs)) law
    ∙ ap (λ items. between (laws ys) items c (v.law_full xs c) (last xs)) (same_draft d xs ys own)
    ∙ ap (λ full. between (laws ys) (draft_of d ys) c full (last xs)) (same_full c xs ys law) in
    let P : Option Rule → Type 0 = λ rule. AreClose rule (between (laws ys) (draft_of d ys) c (v.law_full ys c) (last ys)) in
    by_drafters (not (list_any (bytes_eq d) (drafters xs)) && nat_le MOST_DRAFTERS (length (drafters xs)))
    (not (list_any (bytes_eq d) (drafters ys)) && nat_le MOST_DRAFTERS (length (drafters ys)))
    (between (laws xs) (draft_of d xs) c (v.law_full xs c) (last xs)) (between (laws ys) (draft_of d ys) c (v.law_full ys c) (last ys))
    (subst P (sym same) close)

-- two verdicts are the same, or one of them finds no room
abbrev AreAlike : Verdict → Verdict → Type 0
AreAlike a b = (a ≡ b) ⊎ ((finds_no_room a ≡ true) ⊎ (finds_no_room b ≡ true))

abbrev said : Option Rule → Verdict → Verdict
said rule accepted = option_map_or (λ r. Refused r) rule accepted

said_alike : (a b : Option Rule) (x y : Verdict) → AreClose a b → x ≡ y → AreAlike (said a x) (said b y)
said_alike a b x y (inl same) accepted = inl (ap (λ r. said r x) same ∙ ap (said b) accepted)
said_alike None b x y (inr (inl h)) accepted = absurd h
said_alike (Some rule) b x y (inr (inl h)) accepted = inr (inl h)
said_alike a None x y (inr (inr h)) accepted = absurd h
said_alike a (Some rule) x y (inr (inr h)) accepted = inr (inr h)

newly_alike : (d : List ℕ) (c : Command) (xs ys : List Entry) → laws xs ≡ laws ys → own_entries d xs ≡ own_entries d ys → AreAlike (newly xs d c) (newly ys d c)
newly_alike d c xs ys law own =
    said_alike (first_rule xs d c) (first_rule ys d c) _ _ (rules_close d c xs ys law own)
    (ap (λ n. Accepted n (reply_to xs d c)) (same_law_number c xs ys law) ∙ ap (Accepted (law_number ys c)) (same_reply d c xs ys law own))

found_alike : (c : Command) (found : Option (Entry × Reply)) (a b : Verdict) → AreAlike a b → AreAlike (option_map_or (λ f. again c f) found a) (option_map_or (λ f. again c f) found b)
found_alike c None a b h = h
found_alike c (Some found) a b h = inl refl

pub same_verdict : (d : List ℕ) (r : ℕ) (c : Command) (xs ys : List Entry) → is_legal xs ≡ true → is_legal ys ≡ true → laws xs ≡ laws ys → own_entries d xs ≡ own_entries d ys
    → AreAlike (verdict xs d r c) (verdict ys d r c)
unfolding verdict
same_verdict d r c xs ys hx hy law own =
    let P : Option (Entry × Reply) → Type 0 = λ found. AreAlike (option_map_or (λ f. again c f) found (newly xs d c)) (option_map_or (λ f. again c f) (request_of ys d r) (newly ys d c)) in
    subst P (sym (same_request d r xs ys hx hy own)) (found_alike c (request_of ys d r) (newly xs d c) (newly ys d c) (newly_alike d c xs ys law own))
