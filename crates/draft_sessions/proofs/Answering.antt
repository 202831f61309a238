-- What is answered by what a preview knows is the preview.
use Rattle.std.proofs.Common.{◌≡◌, ◌∙◌, ap, sym, ℕ, ◌+◌, ◌≤◌, List, length, take, Some, None, option_map, Err, arith}
use Rattle.law_register.specs.declared.answer.question.Question.{Question}
use Rattle.law_register.specs.declared.answer.queries.QueryRule.TheVariants.{UnknownWork}
use Rattle.law_register.specs.declared.register.entry.Entry.{Entry}
use Rattle.law_register.specs.declared.register.known.Known.{Known}
use Rattle.law_register.specs.Answer.Answers.{answer_on}
use Rattle.law_register.specs.Answer.Asking.{answer_by}
use Rattle.law_register.specs.Answer.Costs.{bearing_by, bearing_for}
use Rattle.law_register.specs.Answer.Previewing.{preview_at, previewing_at}
use Rattle.law_register.specs.Answer.Previews.{known_previewed, law_previewed, question_by}
use Rattle.law_register.specs.Provisions.Carrying.{carrying}
use Rattle.law_register.specs.Provisions.Costs.{held_cost, held_cost_if}
use Rattle.law_register.specs.Provisions.Line.{line}
use Rattle.law_register.specs.Register.KnownIds.{enacted}
use Rattle.law_register.specs.Register.LawList.{front, laws}
use Rattle.law_register.proofs.Past.{all_known}
use Rattle.law_register.proofs.Previews.{known_viewpoint}

viewpoint_is : (es : List Entry) (d w : List ℕ) (known : Known) → known_previewed es d w ≡ Some known → known.viewpoint ≡ length (law_previewed es d w)
viewpoint_is es d w known h =
    let law = law_previewed es d w in
    known_viewpoint w (length law) (length law) law (enacted w law) known h

-- what a work carries is found by the law without the draft, which leaves all others
abbrev works_of : List Entry → List Known
works_of es = line (laws es)

pub preview_is : (es : List Entry) (d : List ℕ) (q : Question) (known : Known) → known_previewed es d q.work ≡ Some known
    → preview_at es d q ≡ answer_on (carrying (line (laws es)) known) (record q { viewpoint = known.viewpoint })
unfolding preview_at
preview_is es d q known h =
    ap (λ k. answer_by (question_by (law_previewed es d q.work) q) (option_map (carrying (works_of es)) k)) h
    ∙ ap (λ v. answer_on (carrying (works_of es) known) (record q { viewpoint = v })) (sym (viewpoint_is es d q.work known h))

pub cost_is : (es : List Entry) (d : List ℕ) (q : Question) (known : Known) → known_previewed es d q.work ≡ Some known
    → previewing_at es d q
    ≡ held_cost (line (laws es)) known + bearing_by (record q { viewpoint = known.viewpoint }) (carrying (line (laws es)) known)
unfolding previewing_at
cost_is es d q known h =
    ap
    (λ k. held_cost_if (works_of es) k + bearing_for (question_by (law_previewed es d q.work) q) (option_map (carrying (works_of es)) k)) h
    ∙ ap (λ v. held_cost (works_of es) known + bearing_by (record q { viewpoint = v }) (carrying (works_of es) known)) (sym (viewpoint_is es d q.work known h))

pub unknown_is : (es : List Entry) (d : List ℕ) (q : Question) → known_previewed es d q.work ≡ None → preview_at es d q ≡ Err (UnknownWork q.work)
unfolding preview_at
unknown_is es d q h = ap (λ k. answer_by (question_by (law_previewed es d q.work) q) (option_map (carrying (works_of es)) k)) h

-- at the front all law entries are known
pub carried_now : (es : List Entry) (n : ℕ) (known : Known) → n ≡ front es → carrying (line (take n (laws es))) known ≡ carrying (line (laws es)) known
carried_now es n known is = ap (λ law. carrying (line law) known) (ap (λ m. take m (laws es)) is ∙ sym (all_known es (front es) (least (front es))))
  where
    least : (m : ℕ) → m ≤ m
    least m = omega arith

pub cost_now : (es : List Entry) (n : ℕ) (known : Known) → n ≡ front es → held_cost (line (take n (laws es))) known ≡ held_cost (line (laws es)) known
cost_now es n known is = ap (λ law. held_cost (line law) known) (ap (λ m. take m (laws es)) is ∙ sym (all_known es (front es) (least (front es))))
  where
    least : (m : ℕ) → m ≤ m
    least m = omega arith
