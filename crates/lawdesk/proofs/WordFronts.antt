-- The words before the one that is wrong are the front of some form, and with it they are the front of none.
use Rattle.std.proofs.Common.{◌≡◌, ◌≢◌, ◌↔◌, ◌<◌, ◌+◌, ◌++◌, inl, inr, ℕ, suc, Bool, true, false, List, [], ◌∷◌, codes, length, map, take, ◌&&◌, Option, Some, None, refl, ap, sym, subst, ◌∙◌, true≢false, arith}
use Rattle.std.specs.Prelude.{cond}
use Rattle.std.specs.List.{list_all}
use Rattle.std.specs.Str.{bytes_eq}
use Rattle.desk_base.specs.Days.{day_of, day_on, number_of, pair_of}
use Rattle.frbr_names.specs.Dates.{date_of}
use Rattle.frbr_names.specs.Parts.{after_front, behind_part, part_of}
use Rattle.frbr_names.specs.Rules.{begins_with_letter, is_jurisdiction, is_number, is_subdivision, is_word}
use Rattle.frbr_names.specs.Works.{behind_word, front_of, work_of}
use Rattle.lawdesk.specs.Amiss.{amiss, amiss_from, is_wanted, may_lack}
use Rattle.lawdesk.specs.Jobs.{job_of}
use Rattle.lawdesk.specs.declared.amiss.Amiss.{Amiss}
use Rattle.lawdesk.specs.declared.amiss.Wanted.{Wanted}
use Rattle.lawdesk.specs.declared.job.Job.{Job}
use Rattle.lawdesk.specs.declared.amiss.Wanted.TheVariants.{Command, Table, Day, Reading, Work, Seed, Count, From, Port, Connections, Nothing}
use Rattle.lawdesk.proofs.WordForms.{IsOther, by_command, by_table, either_way, named}

-- a word of each kind
abbrev example : Wanted → List ℕ
example Command = codes "check"
example Table = codes "unapplied"
example Day = codes "2011-01-01"
example Reading = codes "force"
example Work = codes "/akn/gb/act/2010-05-01/7"
example Seed = codes "0"
example Count = codes "1"
example From = codes "0"
example Port = codes "8080"
example Connections = codes "1"
example Nothing = []

work_shown : is_wanted Work (example Work) ≡ true
unfolding work_of front_of behind_word after_front behind_part part_of begins_with_letter is_jurisdiction is_number is_subdivision is_word date_of day_of day_on pair_of
work_shown = refl

-- and it is one
AreShown : List Wanted → Type 0
AreShown wants = list_all (λ w. is_wanted w (example w)) wants ≡ true

not_some : {A : Type 0} (a : A) → ◌≡◌ {A = Option A} None (Some a) → ⊥
not_some a same = absurd (cc)

some_none : {A : Type 0} (a : A) → ◌≡◌ {A = Option A} (Some a) None → ⊥
some_none a same = absurd (cc)

same_value : {A : Type 0} (a b : A) → Some a ≡ Some b → a ≡ b
same_value a b same = cc

-- the word that is wrong from an index on, so many words behind it
record IsAt (index : ℕ) (wants : List Wanted) (words : List (List ℕ)) (found : Amiss) : Type 0 where
  behind : ℕ
  index_is : found.index ≡ index + behind
  more : List (List ℕ)
  front : amiss_from index wants (take behind words ++ more) ≡ None
  wrong : behind < length words → (others : List (List ℕ)) → amiss_from index wants (take (suc behind) words ++ others) ≡ Some found

both_true : (a b : Bool) → (a && b) ≡ true → (a ≡ true) × (b ≡ true)
both_true true b both = (refl, both)
both_true false b both = absurd (true≢false (sym both))

shown : (index : ℕ) (wants : List Wanted) → AreShown wants → amiss_from index wants (map example wants) ≡ None
unfolding AreShown
shown index [] are = refl
shown index (w ∷ wants) are =
    let both : (is_wanted w (example w) ≡ true) × AreShown wants =
    both_true (is_wanted w (example w)) (list_all (λ v. is_wanted v (example v)) wants) are in
    ap (λ b. cond b (amiss_from (index + 1) wants (map example wants)) (Some (record { index = index; wanted = w }))) both.0
    ∙ shown (index + 1) wants both.1

-- what stands under a test
if_true : (b : Bool) (x y : Option Amiss) → b ≡ true → cond b x y ≡ x
if_true true x y is = refl
if_true false x y is = absurd (true≢false (sym is))

if_false : (b : Bool) (x y : Option Amiss) → b ≡ false → cond b x y ≡ y
if_false true x y is = absurd (true≢false is)
if_false false x y is = refl

missing : (b : Bool) (a found : Amiss) → cond b None (Some a) ≡ Some found → found.index ≡ a.index
missing true a found is = absurd (not_some found is)
missing false a found is = ap (λ (f : Amiss). f.index) (sym (same_value a found is))

at_index : (n m index : ℕ) → n ≡ m → m ≡ index → n ≡ index + 0
at_index n m index is same = omega (arith, is, same)

one_on : (n m index behind : ℕ) → n ≡ m + behind → m ≡ index + 1 → n ≡ index + suc behind
one_on n m index behind is next = omega (arith, is, next)

at : (index : ℕ) (wants : List Wanted) (words : List (List ℕ)) (found : Amiss) → AreShown wants
    → amiss_from index wants words ≡ Some found → IsAt index wants words found
unfolding AreShown
at index [] [] found are is = absurd (not_some found is)
at index [] (word ∷ words) found are is = record {
  behind = 0;
  index_is = at_index found.index index index (missing false (record { index = index; wanted = Nothing }) found is) refl;
  more = [];
  front = refl;
  wrong = λ less others. is;
}
at index (w ∷ wants) [] found are is = record {
  behind = 0;
  index_is = at_index found.index index index (missing (may_lack w) (record { index = index; wanted = w }) found is) refl;
  more = map example (w ∷ wants);
  front = shown index (w ∷ wants) are;
  wrong = λ less others. absurd (omega (arith, less));
}
at index (w ∷ wants) (word ∷ words) found are is =
    let here : Amiss = record { index = index; wanted = w } in
    elim (either_way (is_wanted w word)) [
      | inl fits ↦
          let next : amiss_from (index + 1) wants words ≡ Some found =
          sym (if_true (is_wanted w word) (amiss_from (index + 1) wants words) (Some here) fits) ∙ is in
          let later : IsAt (index + 1) wants words found =
          at (index + 1) wants words found
          (both_true (is_wanted w (example w)) (list_all (λ v. is_wanted v (example v)) wants) are).1 next in
          record {
            behind = suc later.behind;
            index_is = one_on found.index (index + 1) index later.behind later.index_is refl;
            more = later.more;
            front = if_true (is_wanted w word) (amiss_from (index + 1) wants (take later.behind words ++ later.more)) (Some here) fits
                ∙ later.front;
            wrong = λ less others.
                if_true (is_wanted w word) (amiss_from (index + 1) wants (take (suc later.behind) words ++ others)) (Some here) fits
                ∙ later.wrong (omega (arith, less)) others;
          }
      | inr not ↦
          let found_is : Some here ≡ Some found =
          sym (if_false (is_wanted w word) (amiss_from (index + 1) wants words) (Some here) not) ∙ is in
          record {
            behind = 0;
            index_is = at_index found.index index index (missing false here found found_is) refl;
            more = map example (w ∷ wants);
            front = shown index (w ∷ wants) are;
            wrong = λ less others. if_false (is_wanted w word) (amiss_from (index + 1) wants others) (Some here) not ∙ found_is;
          }
    ]

-- ---- the whole line

-- the words before the one that is wrong begin a form, and with it they begin none
pub record IsFirst (words : List (List ℕ)) (found : Amiss) : Type 0 where
  pub more : List (List ℕ)
  pub front : amiss (take found.index words ++ more) ≡ None
  pub wrong : found.index < length words → (others : List (List ℕ)) → amiss (take (found.index + 1) words ++ others) ≡ Some found

abbrev Firsts : List (List ℕ) → Type 0
Firsts words = (found : Amiss) → amiss words ≡ Some found → IsFirst words found

add_one : (n m : ℕ) → n ≡ m → suc m ≡ n + 1
add_one n m is = omega (arith, is)

first : (words : List (List ℕ)) (found : Amiss) (n : ℕ) → found.index ≡ n → (more : List (List ℕ))
    → amiss (take n words ++ more) ≡ None
    → (n < length words → (others : List (List ℕ)) → amiss (take (suc n) words ++ others) ≡ Some found)
    → IsFirst words found
first words found n is more front wrong = record {
  more = more;
  front = subst (λ k. amiss (take k words ++ more) ≡ None) (sym is) front;
  wrong = λ less others. subst (λ k. amiss (take k words ++ others) ≡ Some found) (add_one found.index n is)
      (wrong (subst (λ k. k < length words) is less) others);
}

one_before : (n k : ℕ) → n ≡ 1 + k → n ≡ suc k
one_before n k is = omega (arith, is)

two_before : (n k : ℕ) → n ≡ 2 + k → n ≡ suc (suc k)
two_before n k is = omega (arith, is)

one_less : (k : ℕ) (words : List (List ℕ)) → suc k < suc (length words) → k < length words
one_less k words less = omega (arith, less)

two_less : (k : ℕ) (words : List (List ℕ)) → suc (suc k) < suc (suc (length words)) → k < length words
two_less k words less = omega (arith, less)

text_first : (words : List (List ℕ)) → Firsts (codes "text" ∷ words)
unfolding AreShown day_of pair_of day_on number_of
text_first words found is =
    let inner : IsAt 1 (Day ∷ Reading ∷ []) words found = at 1 (Day ∷ Reading ∷ []) words found refl is in
    first (codes "text" ∷ words) found (suc inner.behind) (one_before found.index inner.behind inner.index_is) inner.more
    inner.front (λ less others. inner.wrong (one_less inner.behind words less) others)

generate_first : (words : List (List ℕ)) → Firsts (codes "generate" ∷ words)
unfolding AreShown
generate_first words found is =
    let inner : IsAt 1 (Seed ∷ Count ∷ []) words found = at 1 (Seed ∷ Count ∷ []) words found refl is in
    first (codes "generate" ∷ words) found (suc inner.behind) (one_before found.index inner.behind inner.index_is) inner.more
    inner.front (λ less others. inner.wrong (one_less inner.behind words less) others)

export_first : (words : List (List ℕ)) → Firsts (codes "export" ∷ words)
unfolding AreShown
export_first words found is =
    let inner : IsAt 1 (From ∷ []) words found = at 1 (From ∷ []) words found refl is in
    first (codes "export" ∷ words) found (suc inner.behind) (one_before found.index inner.behind inner.index_is) inner.more
    inner.front (λ less others. inner.wrong (one_less inner.behind words less) others)

serve_first : (words : List (List ℕ)) → Firsts (codes "serve" ∷ words)
unfolding AreShown
serve_first words found is =
    let inner : IsAt 1 (Port ∷ Connections ∷ []) words found = at 1 (Port ∷ Connections ∷ []) words found refl is in
    first (codes "serve" ∷ words) found (suc inner.behind) (one_before found.index inner.behind inner.index_is) inner.more
    inner.front (λ less others. inner.wrong (one_less inner.behind words less) others)

check_first : (words : List (List ℕ)) → Firsts (codes "check" ∷ words)
unfolding AreShown
check_first words found is =
    let inner : IsAt 1 [] words found = at 1 [] words found refl is in
    first (codes "check" ∷ words) found (suc inner.behind) (one_before found.index inner.behind inner.index_is) inner.more
    inner.front (λ less others. inner.wrong (one_less inner.behind words less) others)

batch_first : (words : List (List ℕ)) → Firsts (codes "batch" ∷ words)
unfolding AreShown
batch_first words found is =
    let inner : IsAt 1 [] words found = at 1 [] words found refl is in
    first (codes "batch" ∷ words) found (suc inner.behind) (one_before found.index inner.behind inner.index_is) inner.more
    inner.front (λ less others. inner.wrong (one_less inner.behind words less) others)

follow_first : (words : List (List ℕ)) → Firsts (codes "follow" ∷ words)
unfolding AreShown
follow_first words found is =
    let inner : IsAt 1 [] words found = at 1 [] words found refl is in
    first (codes "follow" ∷ words) found (suc inner.behind) (one_before found.index inner.behind inner.index_is) inner.more
    inner.front (λ less others. inner.wrong (one_less inner.behind words less) others)

lifecycle_first : (words : List (List ℕ)) → Firsts (codes "report" ∷ codes "lifecycle" ∷ words)
unfolding AreShown
lifecycle_first words found is =
    let inner : IsAt 2 (Work ∷ []) words found = at 2 (Work ∷ []) words found (ap (λ b. b && true) work_shown) is in
    first (codes "report" ∷ codes "lifecycle" ∷ words) found (suc (suc inner.behind))
    (two_before found.index inner.behind inner.index_is) inner.more
    inner.front (λ less others. inner.wrong (two_less inner.behind words less) others)

correspondence_first : (words : List (List ℕ)) → Firsts (codes "report" ∷ codes "correspondence" ∷ words)
unfolding AreShown day_of pair_of day_on number_of
correspondence_first words found is =
    let inner : IsAt 2 (Work ∷ Day ∷ Day ∷ []) words found =
    at 2 (Work ∷ Day ∷ Day ∷ []) words found (ap (λ b. b && true) work_shown) is in
    first (codes "report" ∷ codes "correspondence" ∷ words) found (suc (suc inner.behind))
    (two_before found.index inner.behind inner.index_is) inner.more
    inner.front (λ less others. inner.wrong (two_less inner.behind words less) others)

unapplied_first : (words : List (List ℕ)) → Firsts (codes "report" ∷ codes "unapplied" ∷ words)
unfolding AreShown day_of pair_of day_on number_of
unapplied_first words found is =
    let inner : IsAt 2 (Day ∷ []) words found = at 2 (Day ∷ []) words found refl is in
    first (codes "report" ∷ codes "unapplied" ∷ words) found (suc (suc inner.behind))
    (two_before found.index inner.behind inner.index_is) inner.more
    inner.front (λ less others. inner.wrong (two_less inner.behind words less) others)

dangling_first : (words : List (List ℕ)) → Firsts (codes "report" ∷ codes "dangling" ∷ words)
unfolding AreShown day_of pair_of day_on number_of
dangling_first words found is =
    let inner : IsAt 2 (Day ∷ []) words found = at 2 (Day ∷ []) words found refl is in
    first (codes "report" ∷ codes "dangling" ∷ words) found (suc (suc inner.behind))
    (two_before found.index inner.behind inner.index_is) inner.more
    inner.front (λ less others. inner.wrong (two_less inner.behind words less) others)

-- a table that is missing, or is none
no_table_first : (name : List ℕ) (words : List (List ℕ)) → bytes_eq name (codes "lifecycle") ≡ false
    → bytes_eq name (codes "correspondence") ≡ false → bytes_eq name (codes "unapplied") ≡ false → bytes_eq name (codes "dangling") ≡ false
    → Firsts (codes "report" ∷ name ∷ words)
unfolding day_of pair_of day_on number_of
no_table_first name words one two three four found is =
    let none : (others : List (List ℕ)) → amiss (codes "report" ∷ name ∷ others) ≡ Some (record { index = 1; wanted = Table }) =
    λ others. rw (one, two, three, four) refl in
    let same : Some (record { index = 1; wanted = Table }) ≡ Some found = sym (none words) ∙ is in
    first (codes "report" ∷ name ∷ words) found 1 (missing false (record { index = 1; wanted = Table }) found same)
    (codes "unapplied" ∷ codes "2011-01-01" ∷ []) refl (λ less others. none others ∙ same)

report_first : (words : List (List ℕ)) → Firsts (codes "report" ∷ words)
unfolding day_of pair_of day_on number_of
report_first [] found is =
    first (codes "report" ∷ []) found 1 (missing false (record { index = 1; wanted = Table }) found is)
    (codes "unapplied" ∷ codes "2011-01-01" ∷ []) refl (λ less others. absurd (omega (arith, less)))
report_first (name ∷ words) found is =
    by_table (λ n. Firsts (codes "report" ∷ n ∷ words)) (lifecycle_first words) (correspondence_first words) (unapplied_first words)
    (dangling_first words) name (no_table_first name words) found is

no_command_first : (word : List ℕ) (words : List (List ℕ)) → IsOther word → Firsts (word ∷ words)
no_command_first word words o found is =
    let none : (others : List (List ℕ)) → amiss (word ∷ others) ≡ Some (record { index = 0; wanted = Command }) =
    λ others. rw (o.no_text, o.no_check, o.no_batch, o.no_report, o.no_generate, o.no_export, o.no_follow, o.no_serve) refl in
    let same : Some (record { index = 0; wanted = Command }) ≡ Some found = sym (none words) ∙ is in
    first (word ∷ words) found 0 (missing false (record { index = 0; wanted = Command }) found same)
    (codes "check" ∷ []) refl (λ less others. none others ∙ same)

firsts : (words : List (List ℕ)) → Firsts words
firsts [] found is =
    first [] found 0 (missing false (record { index = 0; wanted = Command }) found is) (codes "check" ∷ []) refl
    (λ less others. absurd (omega (arith, less)))
firsts (word ∷ words) found is =
    by_command (λ w. Firsts (w ∷ words)) (text_first words) (check_first words) (batch_first words) (report_first words)
    (generate_first words) (export_first words) (follow_first words) (serve_first words) word (no_command_first word words) found is

pub fronts : (words : List (List ℕ)) (found : Amiss) → amiss words ≡ Some found
    → (more : List (List ℕ)) × (job_of (take found.index words ++ more) ≢ None)
fronts words found is =
    let f : IsFirst words found = firsts words found is in
    (f.more, (named (take found.index words ++ f.more)).0 f.front)

not_none : (job : Option Job) (a : Option Amiss) (found : Amiss) → (a ≡ None) ↔ (job ≢ None) → a ≡ Some found → job ≡ None
not_none None a found told is = refl
not_none (Some job) a found told is = absurd (not_some found (sym (told.1 (λ same. some_none job same)) ∙ is))

pub wrongs : (words : List (List ℕ)) (found : Amiss) → amiss words ≡ Some found → found.index < length words
    → (more : List (List ℕ)) → job_of (take (found.index + 1) words ++ more) ≡ None
wrongs words found is less more =
    not_none (job_of (take (found.index + 1) words ++ more)) (amiss (take (found.index + 1) words ++ more)) found
    (named (take (found.index + 1) words ++ more)) ((firsts words found is).wrong less more)
