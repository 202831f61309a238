-- Works that are made in the order of a line are the sources of the next.
use Rattle.std.proofs.Common.{◌≡◌, ◌∙◌, sym, ap, refl, subst, ℕ, Bool, true, false, cond, List, [], ◌∷◌, ◌++◌, filter, map, Option, Some, None, option_map}
use Rattle.std.specs.List.{AllByRecursion, find}
use Rattle.std.specs.Str.{bytes_eq}
use Rattle.law_register.specs.declared.law.act.Act.{Act}
use Rattle.law_register.specs.declared.register.known.Known.{Known}
use Rattle.law_register.specs.Provisions.Depending.{depends}
use Rattle.law_register.specs.Provisions.Line.{work_in}
use Rattle.law_register.specs.Provisions.Looking.{is_after}
use Rattle.law_register.proofs.Puts.{bytes_same}
use Rattle.source_provisions.proofs.Looking.{depends_after}
use Rattle.version_cache.specs.declared.work_tables.WorkTables.{WorkTables}
use Rattle.version_cache.specs.Seen.{work_view}
use Rattle.version_cache.specs.Works.{WorkValue}
use Rattle.held_provisions.specs.declared.sources.MadeWorks.{MadeWorks}
use Rattle.held_provisions.specs.Needing.{HaveAhead}
use Rattle.held_provisions.specs.Sources.{AreSources, IsKeptFor, IsOfLine, made_of}

pub all_first : {A : Type 0} (P : A → Type 0) (x : A) (xs ys : List A) → ys ≡ x ∷ xs → AllByRecursion P ys → P x
all_first P x xs ys is all = (subst (AllByRecursion P) is all).0

pub all_later : {A : Type 0} (P : A → Type 0) (x : A) (xs ys : List A) → ys ≡ x ∷ xs → AllByRecursion P ys → AllByRecursion P xs
all_later P x xs ys is all = (subst (AllByRecursion P) is all).1

pushed : {A : Type 0} (P : A → Type 0) (xs : List A) (x : A) → AllByRecursion P xs → P x → AllByRecursion P (xs ++ x ∷ [])
pushed P [] x all one = (one, tt)
pushed P (y ∷ ys) x all one = (all.0, pushed P ys x all.1 one)

pub all_one_more : {A : Type 0} (P : A → Type 0) (xs new : List A) (x : A) → new ≡ xs ++ x ∷ [] → AllByRecursion P xs → P x → AllByRecursion P new
all_one_more P xs new x is all one = subst (AllByRecursion P) (sym is) (pushed P xs x all one)

-- what is found is among those that pass another test, where it passes that
found_filtered : {A : Type 0} (test other : A → Bool) → ((a : A) → test a ≡ true → other a ≡ true) → (xs : List A)
    → find test xs ≡ find test (filter other xs)
found_filtered test other passes [] = refl
found_filtered {A = A} test other passes (a ∷ xs) = by (test a) refl (other a) refl (found_filtered test other passes xs)
  where
    by : (b : Bool) → test a ≡ b → (c : Bool) → other a ≡ c → find test xs ≡ find test (filter other xs)
        → cond b (Some a) (find test xs) ≡ find test (cond c (a ∷ filter other xs) (filter other xs))
    by true is true both rest = sym (ap (λ (x : Bool). cond x (Some a) (find test (filter other xs))) is)
    by true is false both rest = absurd (let wrong : true ≡ false = sym (passes a is) ∙ both in cc)
    by false is true both rest = rest ∙ sym (ap (λ (x : Bool). cond x (Some a) (find test (filter other xs))) is)
    by false is false both rest = rest

-- what is known of a work that was made
abbrev pub known_made : WorkTables → Known
known_made one = (work_view one).known

abbrev by_name : List ℕ → WorkValue → Bool
by_name name kept = bytes_eq kept.known.act.work name

-- one that is found has the name, and is known as one of these
known_found : (name : List ℕ) (ms : List WorkTables)
    → option_map (λ (v : WorkValue). v.known) (find (by_name name) (map work_view ms)) ≡ work_in name (map known_made ms)
known_found name [] = refl
known_found name (m ∷ ms) = by (bytes_eq (work_view m).known.act.work name) (known_found name ms)
  where
    by : (b : Bool) → option_map (λ (v : WorkValue). v.known) (find (by_name name) (map work_view ms)) ≡ work_in name (map known_made ms)
        → option_map (λ (v : WorkValue). v.known) (cond b (Some (work_view m)) (find (by_name name) (map work_view ms)))
        ≡ cond b (Some (known_made m)) (work_in name (map known_made ms))
    by true rest = refl
    by false rest = rest

module _ (line : List Known) where
  abbrev pub IsMade : WorkTables → Type 0
  IsMade one = IsKeptFor line (work_view one)

  made_found : (name : List ℕ) (v : WorkValue) (ms : List WorkTables) → AllByRecursion IsMade ms → find (by_name name) (map work_view ms) ≡ Some v
      → (v.known.act.work ≡ name) × IsKeptFor line v
  made_found name v [] right found = absurd (let wrong : None ≡ Some v = found in cc)
  made_found name v (m ∷ ms) right found = by (bytes_eq (work_view m).known.act.work name) refl (made_found name v ms right.1) found
    where
      same : (a b : WorkValue) → Some a ≡ Some b → a ≡ b
      same a b e = cc

      by : (b : Bool) → bytes_eq (work_view m).known.act.work name ≡ b
          → (find (by_name name) (map work_view ms) ≡ Some v → (v.known.act.work ≡ name) × IsKeptFor line v)
          → cond b (Some (work_view m)) (find (by_name name) (map work_view ms)) ≡ Some v → (v.known.act.work ≡ name) × IsKeptFor line v
      by true it rest e =
          subst (λ (x : WorkValue). (x.known.act.work ≡ name) × IsKeptFor line x) (same (work_view m) v e)
          (bytes_same (work_view m).known.act.work name it, right.0)
      by false it rest e = rest e

  -- it is of the act that the line has
  of_line : (name : List ℕ) (v : WorkValue) → (v.known.act.work ≡ name) × IsKeptFor line v → IsOfLine line name v
  of_line name v (named, right) =
      let same : right.work.act.work ≡ name = ap (λ (a : Act). a.work) (sym right.alike.act) ∙ named in
      record {
        known = right.work;
        there = ap (λ w. work_in w line) (sym same) ∙ right.there;
        act = right.alike.act;
      }

  module _ (known : Known) (made : MadeWorks) (right : AllByRecursion IsMade made.made.items)
      (all : filter (λ (k : Known). depends line known k.act.work) (map known_made made.made.items) ≡ filter (λ (k : Known). depends line known k.act.work) line) where
    -- a work on which it depends is one of these, as it is of the line
    dep_found : (work : List ℕ) → depends line known work ≡ true → work_in work (map known_made made.made.items) ≡ work_in work line
    dep_found work on =
        found_filtered (λ (k : Known). bytes_eq k.act.work work) (λ (k : Known). depends line known k.act.work) passes (map known_made made.made.items)
        ∙ ap (find (λ (k : Known). bytes_eq k.act.work work)) all
        ∙ sym (found_filtered (λ (k : Known). bytes_eq k.act.work work) (λ (k : Known). depends line known k.act.work) passes line)
      where
        passes : (k : Known) → bytes_eq k.act.work work ≡ true → depends line known k.act.work ≡ true
        passes k same = ap (depends line known) (bytes_same k.act.work work same) ∙ on

    kept_there : (name : List ℕ) → depends line known name ≡ true → (o : Option WorkValue) → made_of made name ≡ o
        → (one : WorkValue) × (made_of made name ≡ Some one) × IsKeptFor line one
    kept_there name on None none =
        absurd (let wrong : false ≡ true =
        ap (is_after known.act.day)
        (ap (option_map (λ (v : WorkValue). v.known)) (sym none) ∙ known_found name made.made.items ∙ dep_found name on)
        ∙ depends_after line known name on in cc)
    kept_there name on (Some one) found = (one, found, (made_found name one made.made.items right found).1)

    pub are_sources : AreSources line known (made_of made)
    are_sources = record {
      acts = λ name one found. of_line name one (made_found name one made.made.items right found);
      right = λ name on. kept_there name on (made_of made name) refl;
    }

-- those on which the first depends are ahead of it, and the rest have theirs
pub have_first : (line ahead works rest : List Known) (known : Known) → works ≡ known ∷ rest → HaveAhead line line ahead works
    → filter (λ (k : Known). depends line known k.act.work) ahead ≡ filter (λ (k : Known). depends line known k.act.work) line
have_first line ahead works rest known is have = (subst (HaveAhead line line ahead) is have).0

pub have_later : (line ahead new works rest : List Known) (known : Known) → works ≡ known ∷ rest → new ≡ ahead ++ known ∷ [] → HaveAhead line line ahead works
    → HaveAhead line line new rest
have_later line ahead new works rest known is made have =
    subst (λ (ks : List Known). HaveAhead line line ks rest) (sym made) (subst (HaveAhead line line ahead) is have).1
