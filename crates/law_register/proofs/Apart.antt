-- Drafters are apart: what a drafter sees is made of the law and of his own entries.
use Rattle.std.proofs.Common.{◌≡◌, ◌∙◌, ap, sym, ℕ, ◌+◌, Bool, true, false, cond, List, [], ◌∷◌, length, take, Option, Some, None, option_map, Result, refl}
use Rattle.law_register.specs.declared.law.act.Act.{Act}
use Rattle.law_register.specs.declared.law.command.Command.{Command}
use Rattle.law_register.specs.declared.answer.answer.Answer.{Answer}
use Rattle.law_register.specs.declared.answer.question.Question.{Question}
use Rattle.law_register.specs.declared.answer.queries.QueryRule.{QueryRule}
use Rattle.law_register.specs.declared.register.draft.DraftItem.{DraftItem}
use Rattle.law_register.specs.declared.register.entry.Entry.{Entry}
use Rattle.law_register.specs.Answer.Asking.{answer_at, answer_by, known_for, known_when_enacted}
use Rattle.law_register.specs.Answer.Previewing.{preview_at}
use Rattle.law_register.specs.Answer.Previews.{known_by_law, law_with, own_entries, question_by}
use Rattle.law_register.specs.Provisions.Carrying.{carrying}
use Rattle.law_register.specs.Provisions.Line.{line}
use Rattle.law_register.specs.Register.Drafts.{is_by, additions, redrafted, drafted_from, draft_of, items_of}
use Rattle.law_register.specs.Register.KnownIds.{enacted, known_at, known_by}
use Rattle.law_register.specs.Register.LawList.{laws}

-- a draft is made of its drafter's entries alone
own_drafted : (d : List ℕ) (count : ℕ) (items : List DraftItem) (es : List Entry) → drafted_from d count items (own_entries d es) ≡ drafted_from d count items es
own_drafted d count items [] = refl
own_drafted d count items (e ∷ es) =
    by (is_by d e) refl (own_drafted d (count + additions e.command) (redrafted (count + 1) e.command items) es) (own_drafted d count items es)
  where
    by : (own : Bool) → is_by d e ≡ own
        → drafted_from d (count + additions e.command) (redrafted (count + 1) e.command items) (own_entries d es) ≡ drafted_from d (count + additions e.command) (redrafted (count + 1) e.command items) es
        → drafted_from d count items (own_entries d es) ≡ drafted_from d count items es
        → drafted_from d count items (cond own (e ∷ own_entries d es) (own_entries d es))
        ≡ cond own (drafted_from d (count + additions e.command) (redrafted (count + 1) e.command items) es) (drafted_from d count items es)
    by true is mine others =
        ap (λ b. cond b (drafted_from d (count + additions e.command) (redrafted (count + 1) e.command items) (own_entries d es)) (drafted_from d count items (own_entries d es))) is
        ∙ mine
    by false is mine others = others

pub same_draft : (d : List ℕ) (xs ys : List Entry) → own_entries d xs ≡ own_entries d ys → draft_of d xs ≡ draft_of d ys
same_draft d xs ys own = sym (own_drafted d 0 [] xs) ∙ ap (drafted_from d 0 []) own ∙ own_drafted d 0 [] ys

-- a preview is made of the law and of a draft
abbrev preview_by : Question → List Command → List DraftItem → Result Answer QueryRule
preview_by q law draft =
    answer_by (question_by (law_with law q.work (items_of q.work draft)) q)
    (option_map (carrying (line law)) (known_by_law (law_with law q.work (items_of q.work draft)) q.work))

pub same_preview : (d : List ℕ) (xs ys : List Entry) (q : Question) → laws xs ≡ laws ys → own_entries d xs ≡ own_entries d ys → preview_at xs d q ≡ preview_at ys d q
unfolding preview_at
same_preview d xs ys q law own = ap (λ l. preview_by q l (draft_of d xs)) law ∙ ap (preview_by q (laws ys)) (same_draft d xs ys own)

-- an answer is made of the law
same_known : (xs ys : List Entry) (w : List ℕ) (v : ℕ) → laws xs ≡ laws ys → known_at xs w v ≡ known_at ys w v
same_known xs ys w v law = ap (λ l. known_by w v (length l) (take v l) (enacted w (take v l))) law

same_enacted : (xs ys : List Entry) (w : List ℕ) (found : Option (ℕ × Act)) → laws xs ≡ laws ys → known_when_enacted xs w found ≡ known_when_enacted ys w found
same_enacted xs ys w None law = refl
same_enacted xs ys w (Some found) law = same_known xs ys w found.0 law

known_same : (xs ys : List Entry) (w : List ℕ) (v : ℕ) (version : Option ℕ) → laws xs ≡ laws ys → known_for xs w v version ≡ known_for ys w v version
known_same xs ys w v (Some day) law =
    ap (λ l. option_map (carrying (line (take v l))) (known_at xs w v)) law
    ∙ ap (option_map (carrying (line (take v (laws ys))))) (same_known xs ys w v law)
known_same xs ys w v None law = ap (λ l. known_when_enacted xs w (enacted w l)) law ∙ same_enacted xs ys w (enacted w (laws ys)) law

pub same_answer : (xs ys : List Entry) (q : Question) → laws xs ≡ laws ys → answer_at xs q ≡ answer_at ys q
unfolding answer_at
same_answer xs ys q law = ap (answer_by q) (known_same xs ys q.work q.viewpoint q.version law)
