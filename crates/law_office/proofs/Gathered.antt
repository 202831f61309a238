-- What an entry hands in of the works that it moves.
use Rattle.std.proofs.Common.{◌≡◌, ◌∙◌, sym, ap, ap₂, subst, refl, ℕ, Bool, true, false, cond, ◌||◌, List, [], ◌∷◌, ◌++◌, map, Option, Some, None, Result, Ok, Err, OnOk}
use Rattle.std.proofs.lemmas.List.{append_assoc, append-nil}
use Rattle.std.specs.List.{AllByRecursion, list_any}
use Rattle.std.specs.Str.{bytes_eq}
use Rattle.law_register.specs.declared.law.act.Act.{Act}
use Rattle.law_register.specs.declared.law.command.Command.{Command}
use Rattle.law_register.specs.declared.law.command.Command.TheVariants.{Enact, Record, Correct, Withdraw, Restore, DraftAdd, DraftDrop, File}
use Rattle.law_register.specs.declared.register.entry.Entry.{Entry}
use Rattle.law_register.specs.declared.register.known.Known.{Known}
use Rattle.law_register.specs.Answer.Touched.{day_among, with_day}
use Rattle.law_register.specs.Provisions.Carrying.{held_now}
use Rattle.law_register.specs.Provisions.Touching.{touched, touched_works}
use Rattle.law_register.specs.Register.Indexes.{act_of}
use Rattle.law_register.specs.Register.Verdicts.{is_legal}
use Rattle.source_provisions.specs.Once.{AreOnce as AreToldOnce}
use Rattle.source_provisions.proofs.Enacted.{itself_untouched}
use Rattle.source_provisions.proofs.Once.{touched_once}
use Rattle.version_cache.specs.Works.{AreRevisionsOf, IsFor, WorkRevisionValue, WorkValue, renewed, work_of, work_revision_of}
use Rattle.law_refs.specs.Handing.{moved_by, rows_enacted, rows_from, rows_if, rows_made, rows_of_entry, rows_touched, work_enacted}
use Rattle.law_refs.specs.Names.{is_among, with_name}
use Rattle.law_refs.specs.declared.ref_row.RefRow.{RefRow}
use Rattle.law_office.specs.Asked.{AreOnce}
use Rattle.law_office.specs.Movements.{AreMoved, IsAccepted, Enacted, IsMadeIf, IsMove, Revised, days_moved}
use Rattle.law_office.specs.References.{IsMovedAs, rows_from_if, rows_moved, touched_in, work_from, work_moved}
use Rattle.law_office.specs.Tables.{Kept}
use Rattle.law_office.specs.Targets.{AreAfter}

-- a name that is new goes behind the others
pub name_new : (names : List (List ℕ)) (name : List ℕ) → is_among name names ≡ false → with_name names name ≡ names ++ name ∷ []
name_new names name none = ap (λ (b : Bool). cond b names (names ++ name ∷ [])) none

among_more : (name other : List ℕ) (names : List (List ℕ)) → is_among name names ≡ false → bytes_eq name other ≡ false → is_among name (names ++ other ∷ []) ≡ false
among_more name other [] none apart = ap (λ (b : Bool). b || false) apart
among_more name other (n ∷ ns) none apart = by (bytes_eq name n) none (among_more name other ns)
  where
    by : (b : Bool) → (b || is_among name ns) ≡ false → (is_among name ns ≡ false → bytes_eq name other ≡ false → is_among name (ns ++ other ∷ []) ≡ false)
        → (b || is_among name (ns ++ other ∷ [])) ≡ false
    by true none rest = none
    by false none rest = rest none apart

-- names that are told once are fresh still, when the first of them has gone behind
pub fresh_still : (told : List (List ℕ × ℕ)) (name : List ℕ) (names : List (List ℕ)) → list_any (λ (other : List ℕ). bytes_eq other name) (map (λ t. t.0) told) ≡ false
    → AllByRecursion (λ t. is_among t.0 names ≡ false) told → AllByRecursion (λ t. is_among t.0 (names ++ name ∷ []) ≡ false) told
fresh_still [] name names apart all = tt
fresh_still (t ∷ ts) name names apart all = by (bytes_eq t.0 name) refl apart (fresh_still ts name names)
  where
    by : (b : Bool) → bytes_eq t.0 name ≡ b → (b || list_any (λ (other : List ℕ). bytes_eq other name) (map (λ t. t.0) ts)) ≡ false
        → (list_any (λ (other : List ℕ). bytes_eq other name) (map (λ t. t.0) ts) ≡ false → AllByRecursion (λ t. is_among t.0 names ≡ false) ts
        → AllByRecursion (λ t. is_among t.0 (names ++ name ∷ []) ≡ false) ts)
        → AllByRecursion (λ t. is_among t.0 (names ++ name ∷ []) ≡ false) (t ∷ ts)
    by true same none rest = absurd (let no : true ≡ false = none in cc)
    by false other none rest = (among_more t.0 name names all.0 other, rest none all.1)

-- ---- of all works that an entry moves

once_told : (told : List (List ℕ × ℕ)) → AreToldOnce told → AreOnce (map (λ t. t.0) told)
once_told [] once = tt
once_told (t ∷ ts) once = (none ts once.0, once_told ts once.1)
  where
    none : (xs : List (List ℕ × ℕ)) → day_among xs t.0 ≡ None → list_any (λ (other : List ℕ). bytes_eq other t.0) (map (λ t. t.0) xs) ≡ false
    none [] is = refl
    none (x ∷ xs) is = by (bytes_eq x.0 t.0) is (none xs)
      where
        by : (b : Bool) → cond b (Some x.1) (day_among xs t.0) ≡ None → (day_among xs t.0 ≡ None → list_any (λ (other : List ℕ). bytes_eq other t.0) (map (λ t. t.0) xs) ≡ false)
            → (b || list_any (λ (other : List ℕ). bytes_eq other t.0) (map (λ t. t.0) xs)) ≡ false
        by true some rest = absurd (let no : Some x.1 ≡ None = some in cc)
        by false none rest = rest none

none_is : (told : List (List ℕ × ℕ)) (w : List ℕ) → day_among told w ≡ None → AllByRecursion (λ t. is_among t.0 (w ∷ []) ≡ false) told
none_is [] w none = tt
none_is (t ∷ ts) w none = by (bytes_eq t.0 w) refl none (none_is ts w)
  where
    by : (b : Bool) → bytes_eq t.0 w ≡ b → cond b (Some t.1) (day_among ts w) ≡ None
        → (day_among ts w ≡ None → AllByRecursion (λ t. is_among t.0 (w ∷ []) ≡ false) ts) → AllByRecursion (λ t. is_among t.0 (w ∷ []) ≡ false) (t ∷ ts)
    by true same some rest = absurd (let no : Some t.1 ≡ None = some in cc)
    by false other none rest = (ap (λ (b : Bool). b || false) other, rest none)

all_fresh : (told : List (List ℕ × ℕ)) → AllByRecursion (λ t. is_among t.0 [] ≡ false) told
all_fresh [] = tt
all_fresh (t ∷ ts) = (refl, all_fresh ts)

-- the work that is enacted is not touched
pub fresh_told : (es : List Entry) (e : Entry) → is_legal es ≡ true → IsAccepted es e
    → AllByRecursion (λ t. is_among t.0 (work_enacted (act_of e.command)) ≡ false) (touched_works es e)
fresh_told es e legal accepted = by e.command refl
  where
    by : (c : Command) → e.command ≡ c → AllByRecursion (λ t. is_among t.0 (work_enacted (act_of c)) ≡ false) (touched_works es e)
    by (Enact act) is = none_is (touched_works es e) act.work (itself_untouched es e act is legal accepted)
    by (Record work mods) is = all_fresh (touched_works es e)
    by (Correct id body) is = all_fresh (touched_works es e)
    by (Withdraw id) is = all_fresh (touched_works es e)
    by (Restore id) is = all_fresh (touched_works es e)
    by (DraftAdd work body) is = all_fresh (touched_works es e)
    by (DraftDrop item) is = all_fresh (touched_works es e)
    by (File work seen) is = all_fresh (touched_works es e)

pub told_once : (es : List Entry) (e : Entry) → is_legal es ≡ true → AreOnce (map (λ t. t.0) (touched_works es e))
told_once es e legal = once_told (touched_works es e) (touched_once es e legal)

-- these are the works that the entry moves, and the rows that it hands in
pub works_moved : (es : List Entry) (e : Entry) (told : List (List ℕ × ℕ)) → told ≡ touched_works es e
    → work_enacted (act_of e.command) ++ map (λ t. t.0) told ≡ moved_by es e
unfolding moved_by
works_moved es e told is = ap (λ (ts : List (List ℕ × ℕ)). work_enacted (act_of e.command) ++ map (λ t. t.0) ts) is

pub rows_are : (es : List Entry) (e : Entry) (told : List (List ℕ × ℕ)) → told ≡ touched_works es e
    → rows_enacted (es ++ e ∷ []) (act_of e.command) ++ rows_touched (es ++ e ∷ []) told ≡ rows_of_entry es e
unfolding rows_of_entry
rows_are es e told is = ap (λ (ts : List (List ℕ × ℕ)). rows_enacted (es ++ e ∷ []) (act_of e.command) ++ rows_touched (es ++ e ∷ []) ts) is

-- so they are as they are gathered: of the one that is enacted behind nothing, and of the others behind it
pub fresh_now : (es : List Entry) (e : Entry) → is_legal es ≡ true → IsAccepted es e → (told : List (List ℕ × ℕ)) (none names : List (List ℕ)) → told ≡ touched_works es e
    → none ≡ [] → names ≡ none ++ work_enacted (act_of e.command) → AllByRecursion (λ t. is_among t.0 names ≡ false) told
fresh_now es e legal accepted told none names is empty one =
    subst (λ (ts : List (List ℕ × ℕ)). AllByRecursion (λ t. is_among t.0 names ≡ false) ts) (sym is)
    (subst (λ (ns : List (List ℕ)). AllByRecursion (λ t. is_among t.0 ns ≡ false) (touched_works es e))
    (sym (one ∙ ap (λ (ns : List (List ℕ)). ns ++ work_enacted (act_of e.command)) empty)) (fresh_told es e legal accepted))

pub once_now : (es : List Entry) (e : Entry) → is_legal es ≡ true → (told : List (List ℕ × ℕ)) → told ≡ touched_works es e → AreOnce (map (λ t. t.0) told)
once_now es e legal told is = subst (λ (ts : List (List ℕ × ℕ)). AreOnce (map (λ t. t.0) ts)) (sym is) (told_once es e legal)

pub all_works : (es : List Entry) (e : Entry) (told : List (List ℕ × ℕ)) (none names all : List (List ℕ)) → told ≡ touched_works es e → none ≡ []
    → names ≡ none ++ work_enacted (act_of e.command) → all ≡ names ++ map (λ t. t.0) told → all ≡ moved_by es e
all_works es e told none names all is empty one put =
    put
    ∙ ap (λ (ns : List (List ℕ)). ns ++ map (λ t. t.0) told) (one ∙ ap (λ (ns : List (List ℕ)). ns ++ work_enacted (act_of e.command)) empty)
    ∙ works_moved es e told is

pub all_rows : (es : List Entry) (e : Entry) (told : List (List ℕ × ℕ)) (none rows all : List RefRow) → told ≡ touched_works es e → none ≡ []
    → rows ≡ none ++ rows_enacted (es ++ e ∷ []) (act_of e.command) → all ≡ rows ++ rows_touched (es ++ e ∷ []) told → all ≡ rows_of_entry es e
all_rows es e told none rows all is empty one put =
    put
    ∙ ap (λ (rs : List RefRow). rs ++ rows_touched (es ++ e ∷ []) told)
    (one ∙ ap (λ (rs : List RefRow). rs ++ rows_enacted (es ++ e ∷ []) (act_of e.command)) empty)
    ∙ rows_are es e told is

-- what is kept then
pub after_moved : (es : List Entry) (e : Entry) (kept : Kept) (enacted : Enacted) (revised : Revised) → is_legal (es ++ e ∷ []) ≡ true
    → AreMoved es e kept enacted revised → AreAfter (es ++ e ∷ []) enacted revised kept
after_moved es e kept enacted revised legal moved = record { legal = legal; right = moved.right; fits = moved.fit }

-- ---- of the work that is enacted

-- what holds whatever is answered
pub on_any : {T E P : Type 0} (result : Result T E) → P → OnOk result P
on_any (Ok done) holds = holds
on_any (Err fault) holds = tt

-- ---- of one work that is revised

no_rows : (name : List ℕ) (known : Option Known) → rows_if (λ held. rows_from_if name held None) known ≡ []
no_rows name None = refl
no_rows name (Some held) = refl

pub told_works : (name copy : List ℕ) (revision : WorkRevisionValue) (day : ℕ) (before then : List (List ℕ))
    → AllByRecursion (λ n. is_among n before ≡ false) (work_moved name revision) → Some day ≡ touched_in revision → copy ≡ name → then ≡ with_name before copy
    → then ≡ before ++ work_moved name revision
told_works name copy revision day before then fresh on same put =
    put ∙ ap (with_name before) same ∙ name_new before name one.0 ∙ ap (λ (d : Option ℕ). before ++ work_from name d) on
  where
    one : AllByRecursion (λ n. is_among n before ≡ false) (work_from name (Some day))
    one = subst (λ (d : Option ℕ). AllByRecursion (λ n. is_among n before ≡ false) (work_from name d)) (sym on) fresh

-- ---- of those that are revised, the first and those behind it

fresh_behind : (w : List ℕ) (day : Option ℕ) (told : List (List ℕ × ℕ)) (names then : List (List ℕ)) → then ≡ names ++ work_from w day
    → AreOnce (map (λ t. t.0) (with_day (Some w) day ++ told)) → AllByRecursion (λ t. is_among t.0 names ≡ false) (with_day (Some w) day ++ told)
    → AllByRecursion (λ t. is_among t.0 then ≡ false) told
fresh_behind w None told names then put once fresh =
    subst (λ (ns : List (List ℕ)). AllByRecursion (λ t. is_among t.0 ns ≡ false) told) (sym (put ∙ append-nil names)) fresh
fresh_behind w (Some day) told names then put once fresh =
    subst (λ (ns : List (List ℕ)). AllByRecursion (λ t. is_among t.0 ns ≡ false) told) (sym put) (fresh_still told w names once.0 fresh.1)

once_behind : (w : List ℕ) (day : Option ℕ) (told : List (List ℕ × ℕ)) → AreOnce (map (λ t. t.0) (with_day (Some w) day ++ told)) → AreOnce (map (λ t. t.0) told)
once_behind w None told once = once
once_behind w (Some day) told once = once.1

works_behind : (w : List ℕ) (day : Option ℕ) (told : List (List ℕ × ℕ)) (names then whole : List (List ℕ)) → then ≡ names ++ work_from w day
    → names ++ map (λ t. t.0) (with_day (Some w) day ++ told) ≡ whole → then ++ map (λ t. t.0) told ≡ whole
works_behind w None told names then whole put is = ap (λ (ns : List (List ℕ)). ns ++ map (λ t. t.0) told) (put ∙ append-nil names) ∙ is
works_behind w (Some day) told names then whole put is =
    ap (λ (ns : List (List ℕ)). ns ++ map (λ t. t.0) told) put ∙ append_assoc names (w ∷ []) (map (λ t. t.0) told) ∙ is

rows_behind : (es : List Entry) (w : List ℕ) (day : Option ℕ) (told : List (List ℕ × ℕ)) (rows then whole : List RefRow)
    → then ≡ rows ++ rows_if (λ held. rows_from_if w held day) (held_now es w) → rows ++ rows_touched es (with_day (Some w) day ++ told) ≡ whole
    → then ++ rows_touched es told ≡ whole
rows_behind es w None told rows then whole put is =
    ap (λ (rs : List RefRow). rs ++ rows_touched es told) (put ∙ ap (λ (rs : List RefRow). rows ++ rs) (no_rows w (held_now es w)) ∙ append-nil rows) ∙ is
rows_behind es w (Some day) told rows then whole put is =
    ap (λ (rs : List RefRow). rs ++ rows_touched es told) put
    ∙ append_assoc rows (rows_if (rows_from w day) (held_now es w)) (rows_touched es told) ∙ is

-- what is so of works that are left, where these names and rows were found before
pub record AreLeft (es : List Entry) (e : Entry) (kept : Kept) (names all_names : List (List ℕ)) (rows all_rows : List RefRow) (left : Revised) : Type 0 where
  pub fresh : AllByRecursion (λ t. is_among t.0 names ≡ false) (days_moved left)
  pub once : AreOnce (map (λ t. t.0) (days_moved left))
  pub moves : AllByRecursion (IsMove es e kept) left
  pub named : names ++ map (λ t. t.0) (days_moved left) ≡ all_names
  pub handed : rows ++ rows_touched (es ++ e ∷ []) (days_moved left) ≡ all_rows

module _ (es : List Entry) (e : Entry) (kept : Kept) (names all_names : List (List ℕ)) (rows all_rows : List RefRow) (one : List ℕ × WorkRevisionValue) (others : Revised)
    (left : AreLeft es e kept names all_names rows all_rows (one ∷ others)) where
  pub others_left : (then_names : List (List ℕ)) (then_rows : List RefRow) → then_names ≡ names ++ work_moved one.0 one.1
      → then_rows ≡ rows ++ rows_if (λ held. rows_moved one.0 held one.1) (held_now (es ++ e ∷ []) one.0)
      → AreLeft es e kept then_names all_names then_rows all_rows others
  others_left then_names then_rows put put_rows = record {
    fresh = fresh_behind one.0 (touched_in one.1) (days_moved others) names then_names put left.once left.fresh;
    once = once_behind one.0 (touched_in one.1) (days_moved others) left.once;
    moves = left.moves.1;
    named = works_behind one.0 (touched_in one.1) (days_moved others) names then_names all_names put left.named;
    handed = rows_behind (es ++ e ∷ []) one.0 (touched_in one.1) (days_moved others) rows then_rows all_rows put_rows left.handed;
  }
