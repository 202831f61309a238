-- Words of which one begins with a dash are no form of the command line.
use Rattle.std.proofs.Common.{◌≡◌, ◌⊎◌, inl, inr, ℕ, Bool, true, false, List, [], ◌∷◌, codes, Option, Some, None, option_map, refl, ap, sym, subst, ◌∙◌, true≢false}
use Rattle.std.specs.Prelude.{◌==◌, ◌||◌, ◌&&◌, cond, get_or, length, nat_le, not}
use Rattle.std.specs.Char.{is_ascii_digit}
use Rattle.std.specs.List.{list_all, list_any}
use Rattle.std.specs.Str.Parse.{digits_value}
use Rattle.std.specs.Option.{option_and_then}
use Rattle.std.specs.Str.{bytes_eq}
use Rattle.std.proofs.lemmas.Bool.{eqb-true, eqb-false, ne_eqb}
use Rattle.desk_base.specs.Days.{day_of, has_dashes, pair_of}
use Rattle.desk_base.specs.Decimals.{decimal_up_to, is_decimal, up_to}
use Rattle.frbr_names.specs.Works.{front_of, work_of}
use Rattle.frbr_names.specs.Parts.{after_front}
use Rattle.dossier_text.specs.Jobs.{text_on}
use Rattle.lawdesk.specs.Jobs.{counted, export_job, from_one, generate_job, generate_with, job_of, plain_job, serve_job, serve_with, text_job}
use Rattle.law_register.specs.Answer.Questions.{reading_named}
use Rattle.lawdesk.specs.ReportJobs.{correspondence_job, correspondence_on, dangling_job, lifecycle_job, report_job, short_job, unapplied_job, work_named}
use Rattle.lawdesk.specs.Taking.{begins_with_dash}
use Rattle.lawdesk.specs.declared.job.Job.TheVariants.{Export, Report, Serve, Text}
use Rattle.law_register.specs.declared.answer.question.Reading.TheVariants.{Force}
use Rattle.lawdesk.specs.declared.report_job.ReportJob.TheVariants.{Dangling, Lifecycle, Unapplied}

either : (a b : Bool) → (a || b) ≡ true → (a ≡ true) ⊎ (b ≡ true)
either true b some = inl refl
either false b some = inr some

-- ---- no word that begins with a dash is a name, a day, the IRI of a work or a number

no_name : (word name : List ℕ) → begins_with_dash word ≡ true → begins_with_dash name ≡ false → bytes_eq word name ≡ false
no_name [] name dash plain = absurd (true≢false (sym dash))
no_name (byte ∷ bytes) [] dash plain = refl
no_name (byte ∷ bytes) (first ∷ name) dash plain =
    let is : byte ≡ 45 = eqb-true byte 45 dash in
    let other : (byte == first) ≡ false = ne_eqb byte first (λ same. eqb-false first 45 plain (sym same ∙ is)) in
    ap (λ b. b && bytes_eq bytes name) other

abbrev nothing : Option ℕ
nothing = None

no_day : (word : List ℕ) → begins_with_dash word ≡ true → day_of word ≡ None
unfolding day_of pair_of
no_day [] dash = absurd (true≢false (sym dash))
no_day (byte ∷ bytes) dash = subst (λ b. day_of (b ∷ bytes) ≡ None) (sym (eqb-true byte 45 dash)) (go (has_dashes (45 ∷ bytes)))
  where
    go : (t : Bool) → cond t nothing nothing ≡ nothing
    go true = refl
    go false = refl

no_work : (word : List ℕ) → begins_with_dash word ≡ true → work_named word ≡ None
unfolding work_of front_of after_front
no_work [] dash = absurd (true≢false (sym dash))
no_work (byte ∷ bytes) dash = subst (λ b. work_named (b ∷ bytes) ≡ None) (sym (eqb-true byte 45 dash)) refl

no_decimal : (bytes : List ℕ) → is_decimal (45 ∷ bytes) ≡ false
no_decimal bytes = go (nat_le 1 (length (45 ∷ bytes)))
  where
    go : (a : Bool) → (a && list_all is_ascii_digit (45 ∷ bytes) && (length (45 ∷ bytes) == 1 || not (get_or (45 ∷ bytes) 0 0 == 48))) ≡ false
    go true = refl
    go false = refl

no_number : (most : ℕ) (word : List ℕ) → begins_with_dash word ≡ true → decimal_up_to most word ≡ None
no_number most [] dash = absurd (true≢false (sym dash))
no_number most (byte ∷ bytes) dash = subst (λ b. decimal_up_to most (b ∷ bytes) ≡ None) (sym (eqb-true byte 45 dash))
    (ap (λ t. cond t (up_to most (digits_value 10 (45 ∷ bytes))) None) (no_decimal bytes))

no_reading : (word : List ℕ) → begins_with_dash word ≡ true → reading_named word ≡ None
no_reading word dash = rw (no_name word (codes "force") dash refl, no_name word (codes "efficacy") dash refl) refl

-- ---- what asks for nothing in each of its cases asks for nothing

then_none : {A : Type 0} (a : Bool) (x : Option A) → x ≡ None → cond a x None ≡ None
then_none true x none = none
then_none false x none = refl

either_none : {A : Type 0} (a : Bool) (x y : Option A) → x ≡ None → y ≡ None → cond a x y ≡ None
either_none true x y first second = first
either_none false x y first second = second

both_none : {A : Type 0} (a b : Bool) (x y z : Option A) → x ≡ None → y ≡ None → z ≡ None → cond a x (cond b y z) ≡ None
both_none true b x y z first second third = first
both_none false true x y z first second third = second
both_none false false x y z first second third = third

next_none : {A : Type 0} (o : Option ℕ) (next : ℕ → Option A) → ((n : ℕ) → next n ≡ None) → option_and_then next o ≡ None
next_none None next none = refl
next_none (Some n) next none = none n

-- ---- the words of a report

short_dashed : (name word : List ℕ) → (begins_with_dash name ≡ true) ⊎ (begins_with_dash word ≡ true) → short_job name word ≡ None
short_dashed name word (inl dash) =
    rw (no_name name (codes "lifecycle") dash refl, no_name name (codes "unapplied") dash refl, no_name name (codes "dangling") dash refl) refl
short_dashed name word (inr dash) =
    both_none (bytes_eq name (codes "lifecycle")) (bytes_eq name (codes "unapplied")) (lifecycle_job word) (unapplied_job word)
    (cond (bytes_eq name (codes "dangling")) (dangling_job word) None)
    (ap (λ o. option_map (λ w. Lifecycle w) o) (no_work word dash)) (ap (λ o. option_map (λ d. Unapplied d) o) (no_day word dash))
    (then_none (bytes_eq name (codes "dangling")) (dangling_job word) (ap (λ o. option_map (λ d. Dangling d) o) (no_day word dash)))

correspondence_dashed : (work first second : List ℕ)
    → (begins_with_dash work ≡ true) ⊎ ((begins_with_dash first ≡ true) ⊎ (begins_with_dash second ≡ true))
    → correspondence_job work first second ≡ None
correspondence_dashed work first second (inl dash) =
    next_none (day_of first) (λ one. option_and_then (λ other. correspondence_on (work_named work) one other) (day_of second))
    (λ one. next_none (day_of second) (λ other. correspondence_on (work_named work) one other)
    (λ other. ap (λ w. correspondence_on w one other) (no_work work dash)))
correspondence_dashed work first second (inr (inl dash)) =
    ap (λ o. option_and_then (λ one. option_and_then (λ other. correspondence_on (work_named work) one other) (day_of second)) o)
    (no_day first dash)
correspondence_dashed work first second (inr (inr dash)) =
    next_none (day_of first) (λ one. option_and_then (λ other. correspondence_on (work_named work) one other) (day_of second))
    (λ one. ap (λ o. option_and_then (λ other. correspondence_on (work_named work) one other) o) (no_day second dash))

one_dash : (a : Bool) → (a || false) ≡ true → a ≡ true
one_dash true some = refl
one_dash false some = some

two_dash : (a b : Bool) → (a || (b || false)) ≡ true → (a ≡ true) ⊎ (b ≡ true)
two_dash true b some = inl refl
two_dash false b some = inr (one_dash b some)

three_dash : (a b c : Bool) → (a || (b || (c || false))) ≡ true → (a ≡ true) ⊎ ((b ≡ true) ⊎ (c ≡ true))
three_dash true b c some = inl refl
three_dash false b c some = inr (two_dash b c some)

long_dashed : (name work first second : List ℕ) → list_any begins_with_dash (name ∷ work ∷ first ∷ second ∷ []) ≡ true
    → report_job (name ∷ work ∷ first ∷ second ∷ []) ≡ None
long_dashed name work first second dash = elim (either (begins_with_dash name) _ dash) [
  | inl here ↦ rw (no_name name (codes "correspondence") here refl) refl
  | inr later ↦ then_none (bytes_eq name (codes "correspondence")) (correspondence_job work first second)
      (correspondence_dashed work first second
      (three_dash (begins_with_dash work) (begins_with_dash first) (begins_with_dash second) later))
]

report_dashed : (words : List (List ℕ)) → list_any begins_with_dash words ≡ true → report_job words ≡ None
report_dashed [] dash = refl
report_dashed (name ∷ []) dash = refl
report_dashed (name ∷ word ∷ []) dash = short_dashed name word (two_dash (begins_with_dash name) (begins_with_dash word) dash)
report_dashed (name ∷ work ∷ first ∷ []) dash = refl
report_dashed (name ∷ work ∷ first ∷ second ∷ []) dash = long_dashed name work first second dash
report_dashed (name ∷ work ∷ first ∷ second ∷ more ∷ words) dash = refl

-- ---- the words of the other forms

no_count : (seed : Option ℕ) → generate_with seed None ≡ None
no_count None = refl
no_count (Some seed) = refl

no_connections : (port : Option ℕ) → option_map (λ job. Serve job) (serve_with port None) ≡ None
no_connections None = refl
no_connections (Some port) = refl

uncounted : (most : ℕ) (word : List ℕ) → begins_with_dash word ≡ true → counted most word ≡ None
uncounted most word dash = ap from_one (no_number most word dash)

generate_dashed : (seed count : List ℕ) → (begins_with_dash seed ≡ true) ⊎ (begins_with_dash count ≡ true) → generate_job seed count ≡ None
generate_dashed seed count (inl dash) = ap (λ o. generate_with o (counted 2000 count)) (no_number 18446744073709551615 seed dash)
generate_dashed seed count (inr dash) =
    ap (λ o. generate_with (decimal_up_to 18446744073709551615 seed) o) (uncounted 2000 count dash)
    ∙ no_count (decimal_up_to 18446744073709551615 seed)

export_dashed : (from : List ℕ) → begins_with_dash from ≡ true → export_job from ≡ None
export_dashed from dash = ap (λ o. option_map (λ n. Export n) o) (no_number 18446744073709551615 from dash)

serve_dashed : (port connections : List ℕ) → (begins_with_dash port ≡ true) ⊎ (begins_with_dash connections ≡ true)
    → serve_job port connections ≡ None
serve_dashed port connections (inl dash) = ap (λ o. option_map (λ job. Serve job) (serve_with o (counted 1000000 connections))) (uncounted 65535 port dash)
serve_dashed port connections (inr dash) =
    ap (λ o. option_map (λ job. Serve job) (serve_with (counted 65535 port) o)) (uncounted 1000000 connections dash) ∙ no_connections (counted 65535 port)

unread : (day : Option ℕ) → text_on day None ≡ None
unread None = refl
unread (Some day) = refl

text_dashed : (date name : List ℕ) → (begins_with_dash date ≡ true) ⊎ (begins_with_dash name ≡ true) → text_job date (reading_named name) ≡ None
text_dashed date name (inl dash) = ap (λ o. option_map (λ job. Text job) (text_on o (reading_named name))) (no_day date dash)
text_dashed date name (inr dash) = ap (λ o. option_map (λ job. Text job) (text_on (day_of date) o)) (no_reading name dash) ∙ ap (option_map (λ job. Text job)) (unread (day_of date))

three_none : {A : Type 0} (a b c : Bool) (x y z : Option A) → x ≡ None → y ≡ None → z ≡ None
    → cond a x (cond b y (cond c z None)) ≡ None
three_none true b c x y z first second third = first
three_none false b c x y z first second third = both_none b c y z None second third refl

plain_dashed : (word : List ℕ) (words : List (List ℕ)) → list_any begins_with_dash words ≡ true → plain_job (word ∷ words) ≡ None
plain_dashed word [] dash = absurd (true≢false (sym dash))
plain_dashed word (other ∷ []) dash =
    let is : begins_with_dash other ≡ true = one_dash (begins_with_dash other) dash in
    both_none (bytes_eq word (codes "text")) (bytes_eq word (codes "export")) (text_job other (Some Force)) (export_job other) None
    (ap (λ o. option_map (λ job. Text job) (text_on o (Some Force))) (no_day other is)) (export_dashed other is) refl
plain_dashed word (first ∷ second ∷ []) dash =
    let some : (begins_with_dash first ≡ true) ⊎ (begins_with_dash second ≡ true) =
    two_dash (begins_with_dash first) (begins_with_dash second) dash in
    three_none (bytes_eq word (codes "text")) (bytes_eq word (codes "generate")) (bytes_eq word (codes "serve"))
    (text_job first (reading_named second)) (generate_job first second) (serve_job first second)
    (text_dashed first second some) (generate_dashed first second some) (serve_dashed first second some)
plain_dashed word (first ∷ second ∷ more ∷ words) dash = refl

first_dashed : (word : List ℕ) (words : List (List ℕ)) → begins_with_dash word ≡ true → plain_job (word ∷ words) ≡ None
first_dashed word [] dash =
    rw (no_name word (codes "check") dash refl, no_name word (codes "batch") dash refl, no_name word (codes "follow") dash refl) refl
first_dashed word (other ∷ []) dash =
    rw (no_name word (codes "text") dash refl, no_name word (codes "export") dash refl) refl
first_dashed word (first ∷ second ∷ []) dash =
    rw (no_name word (codes "text") dash refl, no_name word (codes "generate") dash refl, no_name word (codes "serve") dash refl) refl
first_dashed word (first ∷ second ∷ more ∷ words) dash = refl

-- ---- all words

pub dashed_is_none : (words : List (List ℕ)) → list_any begins_with_dash words ≡ true → job_of words ≡ None
dashed_is_none [] dash = refl
dashed_is_none (word ∷ words) dash = elim (either (begins_with_dash word) (list_any begins_with_dash words) dash) [
  | inl here ↦ rw (no_name word (codes "report") here refl) (first_dashed word words here)
  | inr later ↦ either_none (bytes_eq word (codes "report"))
      (option_map (λ job. Report job) (report_job words)) (plain_job (word ∷ words))
      (ap (λ o. option_map (λ job. Report job) o) (report_dashed words later)) (plain_dashed word words later)
]
