-- The indexes of the entries that enact stand for the acts of the law, once one more entry stands behind the others; and their works.
use Rattle.std.proofs.Common.{◌≡◌, ◌∙◌, sym, ap, subst, ℕ, List, [], ◌∷◌, ◌++◌, length, map, Some, refl}
use Rattle.std.proofs.lemmas.List.{append-nil}
use Rattle.law_register.specs.declared.law.act.Act.{Act}
use Rattle.law_register.specs.declared.law.command.Command.{Command}
use Rattle.law_register.specs.declared.law.command.Command.TheVariants.{Enact, Record, Correct, Withdraw, Restore, DraftAdd, DraftDrop, File}
use Rattle.law_register.specs.declared.register.draft.DraftItem.{DraftItem}
use Rattle.law_register.specs.declared.register.entry.Entry.{Entry}
use Rattle.law_register.specs.Register.Drafts.{items_of}
use Rattle.law_register.specs.Register.Indexes.{told_at, act_of, ActsStand}
use Rattle.law_register.specs.Register.LawList.{acts_of, law_command}
use Rattle.law_register.specs.Register.Listing.{work_told, works_at}
use Rattle.law_register.specs.Register.Marks.{with_act}
use Rattle.law_register.proofs.Snoc.{acts_more}
use Rattle.law_register.proofs.Steps.{told_stays, told_last}

acts_stay : (es : List Entry) (e : Entry) (ats : List ℕ) (acts : List Act) → ActsStand es ats acts → ActsStand (es ++ e ∷ []) ats acts
acts_stay es e [] [] h = tt
acts_stay es e (at ∷ ats) (act ∷ acts) h = (told_stays act_of es e at act h.0, acts_stay es e ats acts h.1)
acts_stay es e [] (act ∷ acts) h = h
acts_stay es e (at ∷ ats) [] h = h

act_more : (es : List Entry) (ats : List ℕ) (acts : List Act) (at : ℕ) (act : Act) → ActsStand es ats acts → told_at es at act_of ≡ Some act
    → ActsStand es (ats ++ at ∷ []) (acts ++ act ∷ [])
act_more es [] [] at act h is = (is, tt)
act_more es (x ∷ ats) (y ∷ acts) at act h is = (h.0, act_more es ats acts at act h.1 is)
act_more es [] (y ∷ acts) at act h is = absurd h
act_more es (x ∷ ats) [] at act h is = absurd h

pub act_case : (es : List Entry) (e : Entry) (ls : List Command) (items : List DraftItem) (ats : List ℕ) (c : Command) → e.command ≡ c → ActsStand es ats (acts_of ls)
    → ActsStand (es ++ e ∷ []) (with_act c (length es) ats) (acts_of (ls ++ law_command items c))
act_case es e ls items ats c is h = by c is
  where
    still : (ls2 : List Command) → acts_of ls2 ≡ acts_of ls → ActsStand (es ++ e ∷ []) ats (acts_of ls2)
    still ls2 same = let P : List Act → Type 0 = λ acts. ActsStand (es ++ e ∷ []) ats acts in subst P (sym same) (acts_stay es e ats (acts_of ls) h)

    none : acts_of (ls ++ []) ≡ acts_of ls
    none = ap acts_of (append-nil ls)

    by : (c : Command) → e.command ≡ c → ActsStand (es ++ e ∷ []) (with_act c (length es) ats) (acts_of (ls ++ law_command items c))
    by (Enact act) is =
        let P : List Act → Type 0 = λ acts. ActsStand (es ++ e ∷ []) (ats ++ length es ∷ []) acts in
        subst P (sym (acts_more ls (Enact act))) (act_more (es ++ e ∷ []) ats (acts_of ls) (length es) act (acts_stay es e ats (acts_of ls) h) (told_last act_of es e ∙ ap act_of is))
    by (Record work mods) is = still (ls ++ Record work mods ∷ []) (acts_more ls (Record work mods) ∙ append-nil (acts_of ls))
    by (Correct id body) is = still (ls ++ Correct id body ∷ []) (acts_more ls (Correct id body) ∙ append-nil (acts_of ls))
    by (Withdraw id) is = still (ls ++ Withdraw id ∷ []) (acts_more ls (Withdraw id) ∙ append-nil (acts_of ls))
    by (Restore id) is = still (ls ++ Restore id ∷ []) (acts_more ls (Restore id) ∙ append-nil (acts_of ls))
    by (DraftAdd work body) is = still (ls ++ []) none
    by (DraftDrop item) is = still (ls ++ []) none
    by (File work seen) is =
        let filed : Command = Record work (map (λ (i : DraftItem). i.body) (items_of work items)) in
        still (ls ++ filed ∷ []) (acts_more ls filed ∙ append-nil (acts_of ls))

-- the works of the acts
pub works_are : (es : List Entry) (ats : List ℕ) (acts : List Act) → ActsStand es ats acts → works_at es ats ≡ map (λ (act : Act). act.work) acts
works_are es [] [] h = refl
works_are es (at ∷ ats) (act ∷ acts) h = ap (λ t. work_told t ++ works_at es ats) h.0 ∙ ap (λ l. act.work ∷ l) (works_are es ats acts h.1)
works_are es [] (act ∷ acts) h = absurd h
works_are es (at ∷ ats) [] h = absurd h
