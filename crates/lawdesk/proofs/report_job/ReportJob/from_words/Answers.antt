-- The four words are all that were given.
use Rattle.std.proofs.Common.{◌≡◌, ◌≢◌, None, IfOk, OnErr, subst, sym}
use Rattle.lawdesk.specs.ReportJobs.{report_job}
use Rattle.lawdesk.proofs.FourWords.{four}
use Rattle.lawdesk.proofs.report_job.ReportJob.from_words.Goals as goal

pub returns-then-words-eq4-clause-job : goal.returns-then-words-eq4-clause-job
returns-then-words-eq4-clause-job g c =
    let all = four g.S.AsStr.text c.args.words.now c.index-words-0-then-words-eq4.result c.index-words-1-then-words-eq4.result
    c.index-words-2.result c.index-words-3.result c.as_str-then-words-eq4.result.now c.as_str-then-words-eq4-2.result.now
    c.as_str-then-words-eq4-3.result.now c.as_str-then-words-eq4-4.result.now c.if-words-eq4.true
    c.index-words-0-then-words-eq4.is c.index-words-1-then-words-eq4.is c.index-words-2.is c.index-words-3.is
    c.as_str-then-words-eq4.ensures c.as_str-then-words-eq4-2.ensures c.as_str-then-words-eq4-3.ensures c.as_str-then-words-eq4-4.ensures in
    subst (λ ws. IfOk c.long_job.result (λ job. job ≡ report_job ws)) (sym all) c.long_job.ensures.job

pub returns-then-words-eq4-clause-some : goal.returns-then-words-eq4-clause-some
returns-then-words-eq4-clause-some g c =
    let all = four g.S.AsStr.text c.args.words.now c.index-words-0-then-words-eq4.result c.index-words-1-then-words-eq4.result
    c.index-words-2.result c.index-words-3.result c.as_str-then-words-eq4.result.now c.as_str-then-words-eq4-2.result.now
    c.as_str-then-words-eq4-3.result.now c.as_str-then-words-eq4-4.result.now c.if-words-eq4.true
    c.index-words-0-then-words-eq4.is c.index-words-1-then-words-eq4.is c.index-words-2.is c.index-words-3.is
    c.as_str-then-words-eq4.ensures c.as_str-then-words-eq4-2.ensures c.as_str-then-words-eq4-3.ensures c.as_str-then-words-eq4-4.ensures in
    subst (λ ws. OnErr c.long_job.result (report_job ws ≢ None)) (sym all) c.long_job.ensures.some
