-- Which words ask for connections to be served.
use Rattle.std.proofs.Common.{◌≡◌, ◌≢◌, ◌==◌, ℕ, Bool, true, false, List, [], ◌∷◌, codes, Option, Some, None, length, map, option_map, refl, subst, sym, true≢false}
use Rattle.std.specs.Prelude.{cond, get_or}
use Rattle.std.specs.Str.{bytes_eq}
use Rattle.dossier_text.specs.declared.text_job.TextJob.{TextJob}
use Rattle.law_register.specs.Answer.Questions.{reading_named}
use Rattle.law_register.proofs.Puts.{bytes_same}
use Rattle.desk_serving.specs.declared.serve_job.ServeJob.{ServeJob}
use Rattle.lawdesk.specs.Jobs.{counted, export_job, from_one, generate_job, generate_with, job_of, pair_job, plain_job, serve_job, serve_named, serving_of, text_job, triple_job, word_job}
use Rattle.lawdesk.specs.ReportJobs.{report_job}
use Rattle.lawdesk.specs.declared.job.Job.{Job}
use Rattle.lawdesk.specs.declared.job.Job.TheVariants.{Batch, Check, Export, Follow, Report, Serve, Text}
use Rattle.lawdesk.specs.declared.report_job.ReportJob.{ReportJob}

-- no other job is that
mapped_report : (job : Option ReportJob) → serving_of (option_map (λ j. Report j) job) ≡ None
mapped_report None = refl
mapped_report (Some job) = refl

mapped_text : (job : Option TextJob) → serving_of (option_map (λ j. Text j) job) ≡ None
mapped_text None = refl
mapped_text (Some job) = refl

mapped_export : (from : Option ℕ) → serving_of (option_map (λ n. Export n) from) ≡ None
mapped_export None = refl
mapped_export (Some from) = refl

mapped_serve : (job : Option ServeJob) → serving_of (option_map (λ j. Serve j) job) ≡ job
mapped_serve None = refl
mapped_serve (Some job) = refl

generated : (seed count : Option ℕ) → serving_of (generate_with seed count) ≡ None
generated None count = refl
generated (Some seed) None = refl
generated (Some seed) (Some count) = refl

either_none : (test : Bool) (x y : Option Job) → serving_of x ≡ None → serving_of y ≡ None → serving_of (cond test x y) ≡ None
either_none true x y first second = first
either_none false x y first second = second

word_none : (word : List ℕ) → serving_of (word_job word) ≡ None
word_none word =
    either_none (bytes_eq word (codes "check")) (Some Check) _ refl
    (either_none (bytes_eq word (codes "batch")) (Some Batch) _ refl (either_none (bytes_eq word (codes "follow")) (Some Follow) None refl refl))

pair_none : (word other : List ℕ) → serving_of (pair_job word other) ≡ None
pair_none word other =
    either_none (bytes_eq word (codes "text")) _ _ (mapped_text _)
    (either_none (bytes_eq word (codes "export")) (export_job other) None (mapped_export _) refl)

four_none : (word first second third : List ℕ) (words : List (List ℕ))
    → serving_of (job_of (word ∷ first ∷ second ∷ third ∷ words)) ≡ None
four_none word first second third words =
    either_none (bytes_eq word (codes "report")) _ None (mapped_report (report_job (first ∷ second ∷ third ∷ words))) refl

other_length : (words : List (List ℕ)) → (length words == 3) ≡ false → serving_of (job_of words) ≡ None
other_length [] other = refl
other_length (word ∷ []) other =
    either_none (bytes_eq word (codes "report")) _ (word_job word) (mapped_report (report_job [])) (word_none word)
other_length (word ∷ first ∷ []) other =
    either_none (bytes_eq word (codes "report")) _ (pair_job word first) (mapped_report (report_job (first ∷ []))) (pair_none word first)
other_length (word ∷ first ∷ second ∷ []) other = absurd (true≢false other)
other_length (word ∷ first ∷ second ∷ more ∷ words) other = four_none word first second more words

no_serve : (test : Bool) (job : Option Job) → test ≡ false → serving_of (cond test job None) ≡ None
no_serve true job is = absurd (true≢false is)
no_serve false job is = refl

pub other_word : (word first second : List ℕ) → bytes_eq word (codes "serve") ≡ false
    → None ≡ serving_of (job_of (word ∷ first ∷ second ∷ []))
other_word word first second is = sym (
    either_none (bytes_eq word (codes "report")) _ (triple_job word first second) (mapped_report (report_job (first ∷ second ∷ [])))
    (either_none (bytes_eq word (codes "text")) (text_job first (reading_named second)) _ (mapped_text _)
    (either_none (bytes_eq word (codes "generate")) (generate_job first second) _ (generated _ _)
    (no_serve (bytes_eq word (codes "serve")) (serve_job first second) is)))
    )

pub serve_words : (word first second : List ℕ) → bytes_eq word (codes "serve") ≡ true
    → serve_named first second ≡ serving_of (job_of (word ∷ first ∷ second ∷ []))
serve_words word first second is =
    subst (λ w. serve_named first second ≡ serving_of (job_of (w ∷ first ∷ second ∷ []))) (sym (bytes_same word (codes "serve") is))
    (sym (mapped_serve (serve_named first second)))

-- of words that are no three nothing is served
pub nothing_served : {A : Type 0} (f : A → List ℕ) (xs : List A) → length xs ≢ 3 → None ≡ serving_of (job_of (map f xs))
nothing_served f [] other = sym (other_length [] refl)
nothing_served f (a ∷ []) other = sym (other_length (f a ∷ []) refl)
nothing_served f (a ∷ b ∷ []) other = sym (other_length (f a ∷ f b ∷ []) refl)
nothing_served f (a ∷ b ∷ c ∷ []) other = absurd (other refl)
nothing_served f (a ∷ b ∷ c ∷ d ∷ more) other = sym (four_none (f a) (f b) (f c) (f d) (map f more))
