-- The works that an entry moves: of each what is kept once its revision is committed.
use Rattle.std.specs.Prelude.{◌≡◌, ℕ, false, true, List, [], ◌∷◌, ◌++◌, Option, Some, None, IfSome, option_map, if◌then◌else◌}
use Rattle.std.specs.List.{AllByRecursion, list_any, sum_by}
use Rattle.std.specs.Option.{option_map_or}
use Rattle.std.specs.Str.{bytes_eq}
use Rattle.law_register.specs.declared.law.act.Act.{Act}
use Rattle.law_register.specs.declared.register.entry.Entry.{Entry}
use Rattle.law_register.specs.declared.register.known.Known.{Known}
use Rattle.law_register.specs.Answer.Renewing.{costs_from}
use Rattle.law_register.specs.Answer.Touched.{day_among, with_day}
use Rattle.law_register.specs.Provisions.Carrying.{held_now}
use Rattle.law_register.specs.Provisions.Depending.{depends}
use Rattle.law_register.specs.Provisions.Line.{work_in}
use Rattle.law_register.specs.Provisions.Touching.{is_concerned, touched, touched_works}
use Rattle.law_register.specs.Register.Indexes.{act_of}
use Rattle.law_register.specs.Register.KnownNext.{known_now}
use Rattle.law_register.specs.Register.Verdicts.{is_accepted, verdict}
use Rattle.version_cache.specs.Works.{AreRevisionsOf, IsFor, WorkRevisionValue, WorkValue, renewed, renewed_if, work_of, work_revision_of}
use Rattle.law_office.specs.Asked.{is_that}
use Rattle.law_office.specs.Tables.{AreTablesOf, Kept, Matches, with_enacted}

-- an entry may stand behind these
abbrev pub IsAccepted : List Entry → Entry → Type 0
IsAccepted entries entry = is_accepted entry.law (verdict entries entry.drafter entry.request entry.command) ≡ true

-- works with their revisions
abbrev pub Revised : Type 0
Revised = List (List ℕ × WorkRevisionValue)

-- a work that is enacted with what is to be kept of it, if one is
abbrev pub Enacted : Type 0
Enacted = Option (List ℕ × WorkValue)

-- the revision of a work among these, if it is revised
abbrev pub revision_among : Revised → List ℕ → Option WorkRevisionValue
revision_among [] work = None
revision_among (one ∷ others) work = if bytes_eq one.0 work then Some one.1 else revision_among others work

-- what is kept of a work once its revision is committed, if there is one
abbrev pub kept_then : Revised → Kept → Kept
kept_then revised kept work = option_map (λ one. renewed_if one (revision_among revised work)) (kept work)

-- what is kept of each work then: of the one that is enacted what is made of it, of each other what its revision makes of it
abbrev pub then_of : Enacted → Revised → Kept → Kept
then_of enacted revised kept work = with_enacted enacted work (kept_then revised kept work)

-- each work is revised once at most, and its revision is of what is kept of it
abbrev pub FitOnce : Revised → Kept → Type 0
FitOnce [] kept = Unit {0}
FitOnce (one ∷ others) kept =
    (list_any (λ other. bytes_eq other.0 one.0) others ≡ false)
    × IfSome (kept one.0) (λ k. AreRevisionsOf k one.1.tables)
    × FitOnce others kept

-- a work that is revised is kept, and its revision is that from its touched day on, by what the entries with the new one make known of it
pub record IsMove (entries : List Entry) (entry : Entry) (kept : Kept) (one : List ℕ × WorkRevisionValue) : Type 0 where
  pub old : WorkValue
  pub held : Known
  pub is : kept one.0 ≡ Some old
  pub known : held_now (entries ++ entry ∷ []) one.0 ≡ Some held
  pub made : one.1 ≡ work_revision_of old held (touched entries entry one.0)
  pub fits : AreRevisionsOf old one.1.tables
  pub right : IsFor held (renewed old one.1)

-- the days from which on works are revised, those of them that are from a day on
abbrev pub days_moved : Revised → List (List ℕ × ℕ)
days_moved [] = []
days_moved (one ∷ others) = with_day (Some one.0) (option_map (λ both. both.0.touched) one.1.tables) ++ days_moved others

-- the revision of what is kept of a work, if anything is, by what is known of it, from a day on
abbrev pub IsRevisedAs : Known → Option ℕ → Option WorkValue → Option WorkRevisionValue → Type 0
IsRevisedAs held day None None = Unit {0}
IsRevisedAs held day None (Some revision) = ⊥
IsRevisedAs held day (Some old) None = ⊥
IsRevisedAs held day (Some old) (Some revision) =
    (revision ≡ work_revision_of old held day) × AreRevisionsOf old revision.tables × IsFor held (renewed old revision)

-- what is to be kept of the work that an entry enacts is made of what the entries with it make known of that; where it enacts none,
-- nothing is
pub record IsMade (entries : List Entry) (act : Act) (new : List ℕ × WorkValue) : Type 0 where
  pub held : Known
  pub name : new.0 ≡ act.work
  pub known : held_now entries act.work ≡ Some held
  pub made : new.1 ≡ work_of held
  pub right : IsFor held new.1

abbrev pub IsMadeIf : List Entry → Option Act → Enacted → Type 0
IsMadeIf entries None None = Unit {0}
IsMadeIf entries None (Some new) = ⊥
IsMadeIf entries (Some act) None = ⊥
IsMadeIf entries (Some act) (Some new) = IsMade entries act new

-- of days that are told of works those of these works, in their order
abbrev pub days_at : List (List ℕ × ℕ) → List (List ℕ) → List (List ℕ × ℕ)
days_at told [] = []
days_at told (work ∷ works) = with_day (Some work) (day_among told work) ++ days_at told works

-- works move in line: those that have moved are revised as the entry makes them, and each that is not to come is kept then for what the
-- entries with the new one make known of it; the days from which on they are revised, and those of works to come, are those of the entry
pub record AreMoving (entries : List Entry) (entry : Entry) (kept : Kept) (enacted : Enacted) (revised : Revised) (to_come : List (List ℕ))
    : Type 0 where
  pub fit : FitOnce revised kept
  pub moves : AllByRecursion (IsMove entries entry kept) revised
  pub made : IsMadeIf (entries ++ entry ∷ []) (act_of entry.command) enacted
  pub days : days_moved revised ++ days_at (touched_works entries entry) to_come ≡ touched_works entries entry
  pub right : (work : List ℕ) → list_any (λ other. bytes_eq other work) to_come ≡ false
      → Matches (held_now (entries ++ entry ∷ []) work) (then_of enacted revised kept work)
  pub still : (work : List ℕ) → list_any (λ other. bytes_eq other work) to_come ≡ true → revision_among revised work ≡ None

-- an entry that comes behind others moves these works: the one that it enacts, and those that it concerns or touches, in line; what is kept
-- of all works then is for what the entries with it make known
pub record AreMoved (entries : List Entry) (entry : Entry) (kept : Kept) (enacted : Enacted) (revised : Revised) : Type 0 where
  pub fit : FitOnce revised kept
  pub moves : AllByRecursion (IsMove entries entry kept) revised
  pub made : IsMadeIf (entries ++ entry ∷ []) (act_of entry.command) enacted
  pub right : AreTablesOf (entries ++ entry ∷ []) (then_of enacted revised kept)
  pub days : days_moved revised ≡ touched_works entries entry

-- the work that an entry concerns or enacts is known so with it, if this is said of it; of works that are to come it is said where the entry
-- concerns them
pub record IsConcernedThen (entries : List Entry) (entry : Entry) (concerned : Option Known) (to_come : List (List ℕ)) : Type 0 where
  pub known : IfSome concerned (λ known. known_now (entries ++ entry ∷ []) known.act.work ≡ Some known)
  pub said : (work : List ℕ) → list_any (λ other. bytes_eq other work) to_come ≡ true
      → is_that concerned work ≡ is_concerned entries entry work

-- of works that stand in a line none depends on itself or on one behind it
abbrev pub StandAhead : List Known → List (List ℕ) → Type 0
StandAhead works [] = Unit {0}
StandAhead works (name ∷ names) =
    ((known : Known) → work_in name works ≡ Some known → (other : List ℕ) → depends works known other ≡ true
    → list_any (λ one. bytes_eq one other) (name ∷ names) ≡ false)
    × StandAhead works names

-- how many ids are applied for works, each from the day on that is told of it, by what entries make known of them
abbrev pub costs_told : List Entry → List (List ℕ × ℕ) → List (List ℕ) → ℕ
costs_told entries touched names = sum_by (λ name. option_map_or (costs_from (held_now entries name)) (day_among touched name) 0) names
