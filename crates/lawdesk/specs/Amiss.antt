-- Which word is wrong where words are no form of the command line, and what is wanted in its place.
use Rattle.std.specs.Prelude.{ℕ, ◌+◌, Bool, true, false, ◌||◌, List, [], ◌∷◌, Option, Some, None, is_some, if◌then◌else◌, codes}
use Rattle.std.specs.Str.{bytes_eq}
use Rattle.desk_base.specs.Days.{day_of}
use Rattle.desk_base.specs.Decimals.{decimal_up_to}
use Rattle.law_register.specs.Answer.Questions.{reading_named}
use Rattle.lawdesk.specs.Jobs.{counted}
use Rattle.lawdesk.specs.ReportJobs.{work_named}
use Rattle.lawdesk.specs.declared.amiss.Amiss.{Amiss}
use Rattle.lawdesk.specs.declared.amiss.Wanted.{Wanted}
use Rattle.lawdesk.specs.declared.amiss.Wanted.TheVariants.{Command, Table, Day, Reading, Work, Seed, Count, From, Port, Connections, Nothing}

abbrev pub is_later : List ℕ → Bool
is_later word =
    bytes_eq word (codes "generate") || (bytes_eq word (codes "export") || (bytes_eq word (codes "follow")
    || bytes_eq word (codes "serve")))

abbrev pub is_command : List ℕ → Bool
is_command word =
    bytes_eq word (codes "text") || (bytes_eq word (codes "check") || (bytes_eq word (codes "batch")
    || (bytes_eq word (codes "report") || is_later word)))

abbrev pub is_table : List ℕ → Bool
is_table name =
    bytes_eq name (codes "lifecycle") || (bytes_eq name (codes "correspondence") || (bytes_eq name (codes "unapplied")
    || bytes_eq name (codes "dangling")))

-- a word is what is wanted
abbrev pub is_wanted : Wanted → List ℕ → Bool
is_wanted Command word = is_command word
is_wanted Table word = is_table word
is_wanted Day word = is_some (day_of word)
is_wanted Reading word = is_some (reading_named word)
is_wanted Work word = is_some (work_named word)
is_wanted Seed word = is_some (decimal_up_to 18446744073709551615 word)
is_wanted Count word = is_some (counted 2000 word)
is_wanted From word = is_some (decimal_up_to 18446744073709551615 word)
is_wanted Port word = is_some (counted 65535 word)
is_wanted Connections word = is_some (counted 1000000 word)
is_wanted Nothing word = false

-- a reading may be left out, and no other word
abbrev pub may_lack : Wanted → Bool
may_lack Reading = true
may_lack wanted = false

-- what is wanted behind the name of a table
abbrev pub wants_of_table : List ℕ → List Wanted
wants_of_table name =
    if bytes_eq name (codes "lifecycle") then Work ∷ []
    else (if bytes_eq name (codes "correspondence") then Work ∷ Day ∷ Day ∷ [] else Day ∷ [])

-- the same of the words behind `report`
abbrev pub wants_of_report : List (List ℕ) → List Wanted
wants_of_report [] = Table ∷ []
wants_of_report (name ∷ words) = Table ∷ wants_of_table name

-- the same of the other commands
abbrev pub wants_of_other : List ℕ → List Wanted
wants_of_other word = if bytes_eq word (codes "export") then From ∷ []
    else (if bytes_eq word (codes "serve") then Port ∷ Connections ∷ [] else [])

-- what is wanted behind a command
abbrev pub wants_behind : List ℕ → List (List ℕ) → List Wanted
wants_behind word words = if bytes_eq word (codes "text") then Day ∷ Reading ∷ []
    else (if bytes_eq word (codes "generate") then Seed ∷ Count ∷ []
    else (if bytes_eq word (codes "report") then wants_of_report words else wants_of_other word))

-- what is wanted of words, one after another, by the first two of them
abbrev pub wants_of : List (List ℕ) → List Wanted
wants_of [] = Command ∷ []
wants_of (word ∷ words) = Command ∷ wants_behind word words

-- the first word that is not what is wanted, from an index on; behind the last word one may be missing
abbrev pub amiss_from : ℕ → List Wanted → List (List ℕ) → Option Amiss
amiss_from index [] [] = None
amiss_from index [] (word ∷ words) = Some (record { index = index; wanted = Nothing })
amiss_from index (wanted ∷ others) [] =
    if may_lack wanted then None else Some (record { index = index; wanted = wanted })
amiss_from index (wanted ∷ others) (word ∷ words) =
    if is_wanted wanted word then amiss_from (index + 1) others words
    else Some (record { index = index; wanted = wanted })

-- the first word that is wrong, if one is
abbrev pub amiss : List (List ℕ) → Option Amiss
amiss words = amiss_from 0 (wants_of words) words
