-- What is kept of the works on which one depends is that of the works of the line.
use Rattle.std.proofs.Common.{◌≡◌, ◌∙◌, sym, ap, refl, ℕ, Bool, true, false, cond, ◌&&◌, ◌||◌, is_some, nat_lt, List, [], ◌∷◌, Option, Some, None, option_and_then}
use Rattle.std.specs.List.{list_any}
use Rattle.std.specs.Str.{bytes_eq}
use Rattle.law_register.specs.declared.answer.question.Reading.{Reading}
use Rattle.law_register.specs.declared.law.act.Act.{Act}
use Rattle.law_register.specs.declared.law.modification.Modification.{Modification}
use Rattle.law_register.specs.declared.law.modification.Modification.TheVariants.{Textual, Force, Efficacy}
use Rattle.law_register.specs.declared.register.known.Known.{Known}
use Rattle.law_register.specs.declared.register.known.KnownMod.{KnownMod}
use Rattle.law_register.specs.Law.Sources.{source_of}
use Rattle.law_register.specs.Provisions.Depending.{breakpoints_of, comes_from, depends}
use Rattle.law_register.specs.Provisions.Line.{work_in}
use Rattle.law_register.specs.Provisions.Looking.{is_after, looked_at}
use Rattle.law_register.specs.Provisions.Trees.{version_in}
use Rattle.law_register.proofs.Puts.{and_true, bytes_are, bytes_same}
use Rattle.version_cache.specs.Tables.{version_on}
use Rattle.version_cache.specs.Works.{WorkValue, table_in}
use Rattle.held_provisions.specs.Sources.{AreSources, IsKeptFor, IsOfLine, Kept, body_kept, if_later, mod_kept}

-- what is found in a line by an IRI has it
pub found_name : (work : List ℕ) (k : Known) (ks : List Known) → work_in work ks ≡ Some k → k.act.work ≡ work
found_name work k [] is = absurd (let wrong : None ≡ Some k = is in cc)
found_name work k (x ∷ xs) is = by (bytes_eq x.act.work work) refl (found_name work k xs) is
  where
    same : (a b : Known) → Some a ≡ Some b → a ≡ b
    same a b e = cc

    by : (b : Bool) → bytes_eq x.act.work work ≡ b → (work_in work xs ≡ Some k → k.act.work ≡ work) → cond b (Some x) (work_in work xs) ≡ Some k
        → k.act.work ≡ work
    by true it rest e = ap (λ (y : Known). y.act.work) (sym (same x k e)) ∙ bytes_same x.act.work work it
    by false it rest e = rest e

pub some_passed : {A : Type 0} (test : A → Bool) (a : A) (xs : List A) → test a ≡ true → list_any test (a ∷ xs) ≡ true
some_passed test a xs h = ap (λ b. b || list_any test xs) h

pub later_passed : {A : Type 0} (test : A → Bool) (a : A) (xs : List A) → list_any test xs ≡ true → list_any test (a ∷ xs) ≡ true
later_passed test a xs h = by (test a)
  where
    by : (b : Bool) → (b || list_any test xs) ≡ true
    by true = refl
    by false = h

module _ (line : List Known) where
  -- what is kept of the work of an IRI is that of the line
  pub record IsSource (href : List ℕ) (one : WorkValue) : Type 0 where
    pub work : Known
    pub there : work_in href line ≡ Some work
    pub act : one.known.act ≡ work.act
    pub mods : one.known.mods ≡ work.mods
    pub versions : (reading : Reading) (day : ℕ) → version_on (table_in reading one) day ≡ version_in line work reading day
    pub days : one.days ≡ breakpoints_of line work

  -- what is found by an IRI: nothing, or what is kept of the work of the line
  abbrev pub IsEither : Bool → List ℕ → Option WorkValue → Type 0
  IsEither false href o = o ≡ None
  IsEither true href o = (one : WorkValue) × (o ≡ Some one) × IsSource href one

  module _ (known : Known) (kept : Kept) (are : AreSources line known kept) where
    source_of_line : (href : List ℕ) (one : WorkValue) → IsOfLine line href one → IsKeptFor line one → IsSource href one
    source_of_line href one own right =
        let name : right.work.act.work ≡ href =
        ap (λ (a : Act). a.work) (sym right.alike.act ∙ own.act) ∙ found_name href own.known line own.there in
        record {
          work = right.work;
          there = ap (λ w. work_in w line) (sym name) ∙ right.there;
          act = right.alike.act;
          mods = right.alike.mods;
          versions = right.versions;
          days = right.days;
        }

    -- a work on which it depends is kept
    on_source : (href : List ℕ) → depends line known href ≡ true → (one : WorkValue) × (kept href ≡ Some one) × IsSource href one
    on_source href on = by (are.right href on)
      where
        by : (one : WorkValue) × (kept href ≡ Some one) × IsKeptFor line one → (one : WorkValue) × (kept href ≡ Some one) × IsSource href one
        by (one, found, right) = (one, found, source_of_line href one (are.acts href one found) right)

    -- it is of a later day by what is kept of it as by the line
    later_alike : (href : List ℕ) (one : WorkValue) → kept href ≡ Some one → nat_lt known.act.day one.known.act.day ≡ is_after known.act.day (work_in href line)
    later_alike href one found = by (are.acts href one found)
      where
        by : IsOfLine line href one → nat_lt known.act.day one.known.act.day ≡ is_after known.act.day (work_in href line)
        by own = ap (λ (a : Act). nat_lt known.act.day a.day) own.act ∙ sym (ap (is_after known.act.day) own.there)

    early_kept : (href : List ℕ) → is_after known.act.day (work_in href line) ≡ false → (o : Option WorkValue) → kept href ≡ o
        → option_and_then (if_later known.act.day) (kept href) ≡ None
    early_kept href early None is = ap (option_and_then (if_later known.act.day)) is
    early_kept href early (Some one) is =
        ap (option_and_then (if_later known.act.day)) is ∙ ap (λ b. cond b (Some one) None) (later_alike href one is ∙ early)

    late_kept : (href : List ℕ) → is_after known.act.day (work_in href line) ≡ true → (one : WorkValue) × (kept href ≡ Some one) × IsSource href one
        → (one : WorkValue) × (option_and_then (if_later known.act.day) (kept href) ≡ Some one) × IsSource href one
    late_kept href late (one, found, source) = (
      one,
      ap (option_and_then (if_later known.act.day)) found ∙ ap (λ b. cond b (Some one) None) (later_alike href one found ∙ late),
      source,
    )

    href_either : (href : List ℕ) → (is_after known.act.day (work_in href line) ≡ true → depends line known href ≡ true)
        → IsEither (is_after known.act.day (work_in href line)) href (option_and_then (if_later known.act.day) (kept href))
    href_either href on = by (is_after known.act.day (work_in href line)) refl
      where
        by : (b : Bool) → is_after known.act.day (work_in href line) ≡ b → IsEither b href (option_and_then (if_later known.act.day) (kept href))
        by true late = late_kept href late (on_source href (on late))
        by false early = early_kept href early (kept href) refl

    body_either : (body : Modification) → (looked_at line known.act.day body ≡ true → depends line known (source_of body).href ≡ true)
        → IsEither (looked_at line known.act.day body) (source_of body).href (body_kept kept known.act.day body)
    body_either (Textual source force edit) on = by source.provision refl
      where
        by : (p : Option (List ℕ)) → source.provision ≡ p
            → IsEither (is_some p && is_after known.act.day (work_in source.href line)) source.href
            (cond (is_some p) (option_and_then (if_later known.act.day) (kept source.href)) None)
        by None none = refl
        by (Some wid) some =
            href_either source.href
            (λ late. on (and_true (is_some source.provision) (is_after known.act.day (work_in source.href line)) (ap is_some some) late))
    body_either (Force source destination since effect) on = refl
    body_either (Efficacy source destination since effect) on = refl

    abbrev pub IsAmong : List KnownMod → Type 0
    IsAmong ms = (test : KnownMod → Bool) → list_any test ms ≡ true → list_any test known.mods ≡ true

    -- what a modification looks at is kept, where it stands
    pub mod_either : (m : KnownMod) (ms : List KnownMod) → IsAmong (m ∷ ms)
        → IsEither (m.live && looked_at line known.act.day m.body) (source_of m.body).href (mod_kept kept known.act.day m)
    mod_either m ms among = by m.live refl
      where
        by : (b : Bool) → m.live ≡ b
            → IsEither (b && looked_at line known.act.day m.body) (source_of m.body).href (cond b (body_kept kept known.act.day m.body) None)
        by true live =
            body_either m.body
            (λ looked. among (comes_from line known.act.day (source_of m.body).href)
            (some_passed (comes_from line known.act.day (source_of m.body).href) m ms
            (and_true m.live (looked_at line known.act.day m.body && bytes_eq (source_of m.body).href (source_of m.body).href) live
            (and_true (looked_at line known.act.day m.body) (bytes_eq (source_of m.body).href (source_of m.body).href) looked
            (bytes_are (source_of m.body).href (source_of m.body).href refl)))))
        by false live = refl
