-- What is said on standard error beside a status.
use Rattle.std.specs.Prelude.{ℕ, ◌==◌, Bool, ◌&&◌, nat_le, nat_lt, List, [], ◌∷◌, ◌++◌, length, get_or, Option, Some, None, is_some, if◌then◌else◌, codes}
use Rattle.std.specs.List.{list_all}
use Rattle.std.specs.Char.{is_ascii_graphic}
use Rattle.std.specs.Str.{bytes_eq}
use Rattle.lawdesk.specs.Amiss.{amiss}
use Rattle.lawdesk.specs.declared.amiss.Amiss.{Amiss}
use Rattle.lawdesk.specs.declared.amiss.Wanted.{Wanted}
use Rattle.lawdesk.specs.declared.amiss.Wanted.TheVariants.{Command, Table, Day, Reading, Work, Seed, Count, From, Port, Connections, Nothing}
use Rattle.lawdesk.specs.Moving.{for_other, is_move}
use Rattle.lawdesk.specs.declared.notice.Kept.{Kept}
use Rattle.lawdesk.specs.declared.notice.Kept.TheVariants.{Journal, HeldJournal, Table as InTable, Both}
use Rattle.lawdesk.specs.declared.notice.Said.{Said}
use Rattle.lawdesk.specs.declared.notice.TheConstants.{HELD, UNGATED, UNKEPT, UNKEPT_TABLE, UNMOVED, UNREAD, UNWRITTEN, WANTING}
use Rattle.lawdesk.specs.declared.usage.TheConstants.{USAGE_TEXT}

-- a usage stands on lines of its own
abbrev pub on_lines : List ℕ → List ℕ
on_lines [] = []
on_lines (byte ∷ bytes) = 10 ∷ byte ∷ bytes

-- what a notice says
abbrev pub said_text : Said → List ℕ
said_text n =
    n.begin.now ++ n.subject.now ++ n.says.now ++ n.wanted.now ++ n.link.now ++ n.word.now ++ on_lines n.usage.now

-- a word is shown as it is, if it has 1 to 40 bytes, each of them visible and ASCII: so no other byte of a word is written
abbrev pub is_plain : List ℕ → Bool
is_plain word = nat_le 1 (length word) && nat_le (length word) 40 && list_all is_ascii_graphic word

-- what it is called else
abbrev pub place_name : ℕ → List ℕ
place_name index =
    if index == 0 then codes "the 1st word"
    else (if index == 1 then codes "the 2nd word"
    else (if index == 2 then codes "the 3rd word"
    else (if index == 3 then codes "the 4th word"
    else (if index == 4 then codes "the 5th word" else codes "the 6th word"))))

abbrev pub shown : List ℕ → ℕ → List ℕ
shown word index = if is_plain word then word else place_name index

-- what is wanted, in words
abbrev pub wanted_text : Wanted → List ℕ
wanted_text Command = codes "a command"
wanted_text Table = codes "a table, lifecycle, correspondence, unapplied or dangling"
wanted_text Day = codes "a day, as 2011-01-01"
wanted_text Reading = codes "a reading, force or efficacy"
wanted_text Work = codes "the IRI of an act, as /akn/gb/act/2010-05-01/7"
wanted_text Seed = codes "a seed, from 0 to 18446744073709551615"
wanted_text Count = codes "a count, from 1 to 2000"
wanted_text From = codes "a number, from 0 to 18446744073709551615"
wanted_text Port = codes "a port, from 1 to 65535"
wanted_text Connections = codes "a count of connections, from 1 to 1000000"
wanted_text Nothing = codes "no more words"

-- a line, and the usage behind it
abbrev pub with_usage : List ℕ → List ℕ
with_usage line = codes "lawdesk: " ++ line ++ 10 ∷ USAGE_TEXT.now

-- what is said of a word that is no command, or that is one alone
abbrev pub no_command : List ℕ → List ℕ
no_command word = if bytes_eq word (codes "move") then with_usage (codes "move stands alone") else with_usage (word ++ codes " is no command")

-- what is said where a command wants what is missing, or another word than this
abbrev pub missing : List ℕ → Wanted → List ℕ
missing command wanted = with_usage (command ++ codes " wants " ++ wanted_text wanted)

abbrev pub unwanted : List ℕ → Wanted → List ℕ → List ℕ
unwanted command wanted word =
    with_usage (command ++ codes " wants " ++ wanted_text wanted ++ codes ", and not " ++ word)

-- what is said of a word that is there
unfoldable pub wrong_word : List ℕ → Wanted → List ℕ → List ℕ
wrong_word command Command word = no_command word
wrong_word command wanted word = unwanted command wanted word

-- what is said of words of which the one at this index is wrong
abbrev pub wrong_words : List (List ℕ) → ℕ → Wanted → List ℕ
wrong_words [] index wanted = with_usage (codes "no command is given")
wrong_words (command ∷ words) index wanted =
    if nat_lt index (length (command ∷ words))
    then wrong_word command wanted (shown (get_or (command ∷ words) index []) index)
    else missing command wanted

abbrev pub usage_at : List (List ℕ) → Option Amiss → List ℕ
usage_at words None = USAGE_TEXT.now
usage_at words (Some found) = wrong_words words found.index found.wanted

-- what is said of words that are no form of the command line, and where some word is no text
abbrev pub usage_of : Option (List (List ℕ)) → List ℕ
usage_of (Some words) = usage_at words (amiss words)
usage_of None = with_usage (codes "a word is no text in UTF-8")

-- what keeps the register that words ask for, and whether another process holds the journal
abbrev pub kept_by : List (List ℕ) → Bool → Kept
kept_by words is_held =
    if is_held then HeldJournal else (if is_move words then Both else (if is_some (for_other words) then InTable else Journal))

-- what is said where that failed
abbrev pub kept_text : Kept → List ℕ
kept_text Journal = UNKEPT.now
kept_text HeldJournal = HELD.now
kept_text InTable = UNKEPT_TABLE.now
kept_text Both = UNMOVED.now

-- what is said beside a status: at 2 which word is wrong, and the usage; else which device failed, or that memory was wanting; of a
-- journal that another process holds, that one does
abbrev pub notice_of : ℕ → Kept → Option (List (List ℕ)) → Option (List ℕ)
notice_of status kept words =
    if status == 2 then Some (usage_of words)
    else (if status == 3 then Some UNREAD.now
    else (if status == 4 then Some UNWRITTEN.now
    else (if status == 5 then Some (kept_text kept)
    else (if status == 7 then Some WANTING.now
    else (if status == 8 then Some UNGATED.now else None)))))
