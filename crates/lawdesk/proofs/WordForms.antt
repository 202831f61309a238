-- Words are a form of the command line exactly where none of them is wrong.
use Rattle.std.proofs.Common.{◌≡◌, ◌≢◌, ◌⊎◌, ◌↔◌, inl, inr, ℕ, Bool, true, false, List, [], ◌∷◌, codes, Option, Some, None, option_map, refl, ap, sym, subst, ◌∙◌, true≢false}
use Rattle.std.specs.Prelude.{cond, is_some}
use Rattle.std.specs.Option.{option_and_then}
use Rattle.std.specs.Str.{bytes_eq}
use Rattle.desk_base.specs.Days.{day_of}
use Rattle.desk_base.specs.Decimals.{decimal_up_to}
use Rattle.dossier_text.specs.Jobs.{text_on}
use Rattle.law_register.proofs.Puts.{bytes_same}
use Rattle.law_register.specs.Answer.Questions.{reading_named}
use Rattle.law_register.specs.declared.answer.question.Reading.{Reading}
use Rattle.law_register.specs.declared.answer.question.Reading.TheVariants.{Force}
use Rattle.lawdesk.specs.Amiss.{amiss}
use Rattle.lawdesk.specs.Jobs.{counted, generate_with, job_of, serve_with}
use Rattle.lawdesk.specs.ReportJobs.{correspondence_on, work_named}
use Rattle.lawdesk.specs.declared.amiss.Amiss.{Amiss}
use Rattle.lawdesk.specs.declared.job.Job.{Job}
use Rattle.lawdesk.specs.declared.job.Job.TheVariants.{Export, Report, Serve, Text}
use Rattle.lawdesk.specs.declared.report_job.ReportJob.{ReportJob}
use Rattle.lawdesk.specs.declared.report_job.ReportJob.TheVariants.{Dangling, Lifecycle, Unapplied}

-- none of the words is wrong
abbrev pub fits : Option Amiss → Bool
fits None = true
fits (Some found) = false

pub either_way : (b : Bool) → (b ≡ true) ⊎ (b ≡ false)
either_way true = inl refl
either_way false = inr refl

-- ---- `text`

on_day : (day : Option ℕ) (a : Amiss) → is_some (option_map (λ job. Text job) (text_on day (Some Force))) ≡ fits (cond (is_some day) None (Some a))
on_day None a = refl
on_day (Some day) a = refl

in_reading : (day : Option ℕ) (reading : Option Reading) (a b : Amiss)
    → is_some (option_map (λ job. Text job) (text_on day reading)) ≡ fits (cond (is_some day) (cond (is_some reading) None (Some b)) (Some a))
in_reading None reading a b = refl
in_reading (Some day) None a b = refl
in_reading (Some day) (Some reading) a b = refl

two_more : (x y : Bool) (a b c : Amiss) → false ≡ fits (cond x (cond y (Some c) (Some b)) (Some a))
two_more true true a b c = refl
two_more true false a b c = refl
two_more false y a b c = refl

text_fits : (words : List (List ℕ)) → is_some (job_of (codes "text" ∷ words)) ≡ fits (amiss (codes "text" ∷ words))
text_fits [] = refl
text_fits (date ∷ []) = on_day (day_of date) _
text_fits (date ∷ name ∷ []) = in_reading (day_of date) (reading_named name) _ _
text_fits (date ∷ name ∷ more ∷ words) = two_more (is_some (day_of date)) (is_some (reading_named name)) _ _ _

-- ---- `generate`

one_more : (x : Bool) (a b : Amiss) → false ≡ fits (cond x (Some b) (Some a))
one_more true a b = refl
one_more false a b = refl

seeded : (seed count : Option ℕ) (a b : Amiss)
    → is_some (generate_with seed count) ≡ fits (cond (is_some seed) (cond (is_some count) None (Some b)) (Some a))
seeded None count a b = refl
seeded (Some seed) None a b = refl
seeded (Some seed) (Some count) a b = refl

generate_fits : (words : List (List ℕ)) → is_some (job_of (codes "generate" ∷ words)) ≡ fits (amiss (codes "generate" ∷ words))
generate_fits [] = refl
generate_fits (seed ∷ []) = one_more (is_some (decimal_up_to 18446744073709551615 seed)) _ _
generate_fits (seed ∷ count ∷ []) =
    seeded (decimal_up_to 18446744073709551615 seed) (counted 2000 count) _ _
generate_fits (seed ∷ count ∷ more ∷ words) =
    two_more (is_some (decimal_up_to 18446744073709551615 seed)) (is_some (counted 2000 count)) _ _ _

-- ---- `export` and `serve`

above : (from : Option ℕ) (a : Amiss) → is_some (option_map (λ n. Export n) from) ≡ fits (cond (is_some from) None (Some a))
above None a = refl
above (Some from) a = refl

export_fits : (words : List (List ℕ)) → is_some (job_of (codes "export" ∷ words)) ≡ fits (amiss (codes "export" ∷ words))
export_fits [] = refl
export_fits (from ∷ []) = above (decimal_up_to 18446744073709551615 from) _
export_fits (from ∷ more ∷ []) = one_more (is_some (decimal_up_to 18446744073709551615 from)) _ _
export_fits (from ∷ more ∷ others ∷ words) = one_more (is_some (decimal_up_to 18446744073709551615 from)) _ _

served : (port connections : Option ℕ) (a b : Amiss)
    → is_some (option_map (λ job. Serve job) (serve_with port connections)) ≡ fits (cond (is_some port) (cond (is_some connections) None (Some b)) (Some a))
served None connections a b = refl
served (Some port) None a b = refl
served (Some port) (Some connections) a b = refl

serve_fits : (words : List (List ℕ)) → is_some (job_of (codes "serve" ∷ words)) ≡ fits (amiss (codes "serve" ∷ words))
serve_fits [] = refl
serve_fits (port ∷ []) = one_more (is_some (counted 65535 port)) _ _
serve_fits (port ∷ connections ∷ []) = served (counted 65535 port) (counted 1000000 connections) _ _
serve_fits (port ∷ connections ∷ more ∷ words) =
    two_more (is_some (counted 65535 port)) (is_some (counted 1000000 connections)) _ _ _

-- ---- `check`, `batch` and `follow`

check_fits : (words : List (List ℕ)) → is_some (job_of (codes "check" ∷ words)) ≡ fits (amiss (codes "check" ∷ words))
check_fits [] = refl
check_fits (word ∷ []) = refl
check_fits (word ∷ other ∷ []) = refl
check_fits (word ∷ other ∷ more ∷ words) = refl

batch_fits : (words : List (List ℕ)) → is_some (job_of (codes "batch" ∷ words)) ≡ fits (amiss (codes "batch" ∷ words))
batch_fits [] = refl
batch_fits (word ∷ []) = refl
batch_fits (word ∷ other ∷ []) = refl
batch_fits (word ∷ other ∷ more ∷ words) = refl

follow_fits : (words : List (List ℕ)) → is_some (job_of (codes "follow" ∷ words)) ≡ fits (amiss (codes "follow" ∷ words))
follow_fits [] = refl
follow_fits (word ∷ []) = refl
follow_fits (word ∷ other ∷ []) = refl
follow_fits (word ∷ other ∷ more ∷ words) = refl

-- ---- `report`

of_work : (work : Option (List ℕ)) (a : Amiss)
    → is_some (option_map (λ job. Report job) (option_map (λ w. Lifecycle w) work)) ≡ fits (cond (is_some work) None (Some a))
of_work None a = refl
of_work (Some work) a = refl

of_day : (table : ℕ → ReportJob) (day : Option ℕ) (a : Amiss)
    → is_some (option_map (λ job. Report job) (option_map table day)) ≡ fits (cond (is_some day) None (Some a))
of_day table None a = refl
of_day table (Some day) a = refl

of_both : (work : Option (List ℕ)) (first second : Option ℕ) (a b c : Amiss)
    → is_some (option_map (λ job. Report job)
    (option_and_then (λ one. option_and_then (λ other. correspondence_on work one other) second) first))
    ≡ fits (cond (is_some work) (cond (is_some first) (cond (is_some second) None (Some c)) (Some b)) (Some a))
of_both None None second a b c = refl
of_both None (Some first) None a b c = refl
of_both None (Some first) (Some second) a b c = refl
of_both (Some work) None second a b c = refl
of_both (Some work) (Some first) None a b c = refl
of_both (Some work) (Some first) (Some second) a b c = refl

three_more : (x y z : Bool) (a b c d : Amiss) → false ≡ fits (cond x (cond y (cond z (Some d) (Some c)) (Some b)) (Some a))
three_more true y z a b c d = two_more y z b c d
three_more false y z a b c d = refl

lifecycle_fits : (words : List (List ℕ))
    → is_some (job_of (codes "report" ∷ codes "lifecycle" ∷ words)) ≡ fits (amiss (codes "report" ∷ codes "lifecycle" ∷ words))
lifecycle_fits [] = refl
lifecycle_fits (work ∷ []) = of_work (work_named work) _
lifecycle_fits (work ∷ more ∷ []) = one_more (is_some (work_named work)) _ _
lifecycle_fits (work ∷ more ∷ others ∷ []) = one_more (is_some (work_named work)) _ _
lifecycle_fits (work ∷ more ∷ others ∷ other ∷ words) = one_more (is_some (work_named work)) _ _

unapplied_fits : (words : List (List ℕ))
    → is_some (job_of (codes "report" ∷ codes "unapplied" ∷ words)) ≡ fits (amiss (codes "report" ∷ codes "unapplied" ∷ words))
unapplied_fits [] = refl
unapplied_fits (day ∷ []) = of_day (λ d. Unapplied d) (day_of day) _
unapplied_fits (day ∷ more ∷ []) = one_more (is_some (day_of day)) _ _
unapplied_fits (day ∷ more ∷ others ∷ []) = one_more (is_some (day_of day)) _ _
unapplied_fits (day ∷ more ∷ others ∷ other ∷ words) = one_more (is_some (day_of day)) _ _

dangling_fits : (words : List (List ℕ))
    → is_some (job_of (codes "report" ∷ codes "dangling" ∷ words)) ≡ fits (amiss (codes "report" ∷ codes "dangling" ∷ words))
dangling_fits [] = refl
dangling_fits (day ∷ []) = of_day (λ d. Dangling d) (day_of day) _
dangling_fits (day ∷ more ∷ []) = one_more (is_some (day_of day)) _ _
dangling_fits (day ∷ more ∷ others ∷ []) = one_more (is_some (day_of day)) _ _
dangling_fits (day ∷ more ∷ others ∷ other ∷ words) = one_more (is_some (day_of day)) _ _

correspondence_fits : (words : List (List ℕ)) → is_some (job_of (codes "report" ∷ codes "correspondence" ∷ words))
    ≡ fits (amiss (codes "report" ∷ codes "correspondence" ∷ words))
correspondence_fits [] = refl
correspondence_fits (work ∷ []) = one_more (is_some (work_named work)) _ _
correspondence_fits (work ∷ first ∷ []) = two_more (is_some (work_named work)) (is_some (day_of first)) _ _ _
correspondence_fits (work ∷ first ∷ second ∷ []) = of_both (work_named work) (day_of first) (day_of second) _ _ _
correspondence_fits (work ∷ first ∷ second ∷ more ∷ words) =
    three_more (is_some (work_named work)) (is_some (day_of first)) (is_some (day_of second)) _ _ _ _

-- a table of another name
no_table : (name : List ℕ) (words : List (List ℕ)) → bytes_eq name (codes "lifecycle") ≡ false
    → bytes_eq name (codes "correspondence") ≡ false → bytes_eq name (codes "unapplied") ≡ false → bytes_eq name (codes "dangling") ≡ false
    → is_some (job_of (codes "report" ∷ name ∷ words)) ≡ fits (amiss (codes "report" ∷ name ∷ words))
no_table name [] first second third fourth = rw (first, second, third, fourth) refl
no_table name (word ∷ []) first second third fourth = rw (first, second, third, fourth) refl
no_table name (word ∷ other ∷ []) first second third fourth = rw (first, second, third, fourth) refl
no_table name (word ∷ other ∷ more ∷ []) first second third fourth = rw (first, second, third, fourth) refl
no_table name (word ∷ other ∷ more ∷ others ∷ words) first second third fourth = rw (first, second, third, fourth) refl

-- these words are a form exactly where none is wrong
abbrev IsTold : List (List ℕ) → Type 0
IsTold words = is_some (job_of words) ≡ fits (amiss words)

-- what holds of each table, and of a name that is none, holds of a name
pub by_table : (P : List ℕ → Type 0) → P (codes "lifecycle") → P (codes "correspondence") → P (codes "unapplied") → P (codes "dangling")
    → (name : List ℕ)
    → (bytes_eq name (codes "lifecycle") ≡ false → bytes_eq name (codes "correspondence") ≡ false
    → bytes_eq name (codes "unapplied") ≡ false → bytes_eq name (codes "dangling") ≡ false → P name)
    → P name
by_table P lifecycle correspondence unapplied dangling name none = elim (either_way (bytes_eq name (codes "lifecycle"))) [
  | inl is ↦ subst P (sym (bytes_same name (codes "lifecycle") is)) lifecycle
  | inr first ↦ elim (either_way (bytes_eq name (codes "correspondence"))) [
    | inl is ↦ subst P (sym (bytes_same name (codes "correspondence") is)) correspondence
    | inr second ↦ elim (either_way (bytes_eq name (codes "unapplied"))) [
      | inl is ↦ subst P (sym (bytes_same name (codes "unapplied") is)) unapplied
      | inr third ↦ elim (either_way (bytes_eq name (codes "dangling"))) [
        | inl is ↦ subst P (sym (bytes_same name (codes "dangling") is)) dangling
        | inr fourth ↦ none first second third fourth
      ]
    ]
  ]
]

report_fits : (words : List (List ℕ)) → IsTold (codes "report" ∷ words)
report_fits [] = refl
report_fits (name ∷ words) =
    by_table (λ n. IsTold (codes "report" ∷ n ∷ words)) (lifecycle_fits words) (correspondence_fits words) (unapplied_fits words)
    (dangling_fits words) name (no_table name words)

-- ---- all words

-- a word is the name of no command
pub record IsOther (word : List ℕ) : Type 0 where
  pub no_text : bytes_eq word (codes "text") ≡ false
  pub no_check : bytes_eq word (codes "check") ≡ false
  pub no_batch : bytes_eq word (codes "batch") ≡ false
  pub no_report : bytes_eq word (codes "report") ≡ false
  pub no_generate : bytes_eq word (codes "generate") ≡ false
  pub no_export : bytes_eq word (codes "export") ≡ false
  pub no_follow : bytes_eq word (codes "follow") ≡ false
  pub no_serve : bytes_eq word (codes "serve") ≡ false

-- what holds of each command, and of a word that is none, holds of a word
pub by_command : (P : List ℕ → Type 0) → P (codes "text") → P (codes "check") → P (codes "batch") → P (codes "report")
    → P (codes "generate") → P (codes "export") → P (codes "follow") → P (codes "serve")
    → (word : List ℕ) → (IsOther word → P word) → P word
by_command P text check batch report generate export follow serve word none =
    elim (either_way (bytes_eq word (codes "text"))) [
      | inl is ↦ subst P (sym (bytes_same word (codes "text") is)) text
      | inr first ↦ elim (either_way (bytes_eq word (codes "check"))) [
        | inl is ↦ subst P (sym (bytes_same word (codes "check") is)) check
        | inr second ↦ elim (either_way (bytes_eq word (codes "batch"))) [
          | inl is ↦ subst P (sym (bytes_same word (codes "batch") is)) batch
          | inr third ↦ elim (either_way (bytes_eq word (codes "report"))) [
            | inl is ↦ subst P (sym (bytes_same word (codes "report") is)) report
            | inr fourth ↦ elim (either_way (bytes_eq word (codes "generate"))) [
              | inl is ↦ subst P (sym (bytes_same word (codes "generate") is)) generate
              | inr fifth ↦ elim (either_way (bytes_eq word (codes "export"))) [
                | inl is ↦ subst P (sym (bytes_same word (codes "export") is)) export
                | inr sixth ↦ elim (either_way (bytes_eq word (codes "follow"))) [
                  | inl is ↦ subst P (sym (bytes_same word (codes "follow") is)) follow
                  | inr seventh ↦ elim (either_way (bytes_eq word (codes "serve"))) [
                    | inl is ↦ subst P (sym (bytes_same word (codes "serve") is)) serve
                    | inr eighth ↦ none (record { no_text = first; no_check = second; no_batch = third; no_report = fourth; no_generate = fifth; no_export = sixth; no_follow = seventh; no_serve = eighth })
                  ]
                ]
              ]
            ]
          ]
        ]
      ]
    ]

no_command : (word : List ℕ) (words : List (List ℕ)) → IsOther word → IsTold (word ∷ words)
no_command word [] o = rw (o.no_text, o.no_check, o.no_batch, o.no_report, o.no_generate, o.no_export, o.no_follow, o.no_serve) refl
no_command word (name ∷ []) o = rw (o.no_text, o.no_check, o.no_batch, o.no_report, o.no_generate, o.no_export, o.no_follow, o.no_serve) refl
no_command word (name ∷ other ∷ []) o = rw (o.no_text, o.no_check, o.no_batch, o.no_report, o.no_generate, o.no_export, o.no_follow, o.no_serve) refl
no_command word (name ∷ other ∷ more ∷ words) o = rw (o.no_text, o.no_check, o.no_batch, o.no_report, o.no_generate, o.no_export, o.no_follow, o.no_serve) refl

is_told : (words : List (List ℕ)) → IsTold words
is_told [] = refl
is_told (word ∷ words) =
    by_command (λ w. IsTold (w ∷ words)) (text_fits words) (check_fits words) (batch_fits words) (report_fits words)
    (generate_fits words) (export_fits words) (follow_fits words) (serve_fits words) word (no_command word words)

some_job : (job : Option Job) (found : Option Amiss) → is_some job ≡ fits found → (found ≡ None) ↔ (job ≢ None)
some_job None None told = absurd (true≢false (sym told))
some_job None (Some found) told = (λ none. absurd (true≢false (sym (told ∙ ap fits none))), λ some. absurd (some refl))
some_job (Some job) None told = (λ none same. true≢false (ap is_some same), λ some. refl)
some_job (Some job) (Some found) told = absurd (true≢false told)

pub named : (words : List (List ℕ)) → (amiss words ≡ None) ↔ (job_of words ≢ None)
named words = some_job (job_of words) (amiss words) (is_told words)
