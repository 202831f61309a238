-- What was found of the argument are the words.
use Rattle.std.proofs.Common.{◌≡◌, ◌≢◌, ◌∙◌, None, IfOk, OnErr, map, refl, subst, sym}
use Rattle.lawdesk.specs.Jobs.{job_of}
use Rattle.lawdesk.proofs.WordWalk.{given_none, given_some}
use Rattle.lawdesk.proofs.job.taken_job.Goals as goal

pub returns-in-Some-clause-job : goal.returns-in-Some-clause-job
returns-in-Some-clause-job c words same =
    subst (λ ws. IfOk c.job_in.result (λ job. job ≡ job_of ws)) (sym (given_some words (map (λ v. v.now) c.in-Some.words.now) (sym same ∙ sym c.in-Some.ensures)))
    c.job_in.ensures.job

pub returns-in-Some-clause-asked : goal.returns-in-Some-clause-asked
returns-in-Some-clause-asked c words same =
    subst (λ ws. OnErr c.job_in.result (job_of ws ≢ None)) (sym (given_some words (map (λ v. v.now) c.in-Some.words.now) (sym same ∙ sym c.in-Some.ensures)))
    c.job_in.ensures.asked

pub returns-in-None-clause-job : goal.returns-in-None-clause-job
returns-in-None-clause-job c words same =
    subst (λ ws. None ≡ job_of ws) (sym (given_none words (sym same ∙ sym c.in-None.ensures))) refl
