-- Works that are asked stand in line: what an entry touches is told of them, and none depends on itself or on one behind it.
use Rattle.std.proofs.Common.{◌≡◌, ◌∙◌, sym, ap, ap₂, subst, refl, ℕ, Bool, true, false, cond, ◌||◌, ◌⊎◌, ⊎_elim, List, [], ◌∷◌, ◌++◌, map, Option, Some, None}
use Rattle.std.proofs.lemmas.Cmp.{tied_itself}
use Rattle.std.specs.List.{AllByRecursion, list_any}
use Rattle.std.specs.List.Sorted.{IsStrictlySortedBy}
use Rattle.std.specs.Option.{option_to_list}
use Rattle.std.specs.Ordering.{ordering_reverse}
use Rattle.std.specs.Str.{bytes_eq}
use Rattle.std.specs.declared.cmp.Ordering.TheVariants.{Less, Equal, Greater}
use Rattle.law_register.specs.declared.register.entry.Entry.{Entry}
use Rattle.law_register.specs.declared.register.known.Known.{Known}
use Rattle.law_register.specs.Answer.Touched.{day_among, with_day, work_entered}
use Rattle.law_register.specs.Provisions.Line.{line_cmp as known_cmp}
use Rattle.law_register.specs.Provisions.Touching.{is_concerned}
use Rattle.law_register.specs.Register.Concerns.{is_named}
use Rattle.law_register.specs.Register.LawList.{law_of}
use Rattle.law_register.proofs.Puts.{bytes_are, bytes_either, bytes_same}
use Rattle.version_cache.specs.Works.{IsAlike}
use Rattle.held_provisions.specs.Reaching.{AreAlike, days_told, reached_after, reached_next}
use Rattle.held_provisions.specs.declared.touching.Reached.{Reached}
use Rattle.law_office.specs.declared.line.DatedWork.{DatedWork}
use Rattle.law_office.specs.Asked.{AreOnce, IsDated, dated_known, is_that, known_then, known_then_all}
use Rattle.law_office.specs.Movements.{days_at}
use Rattle.law_office.specs.Tables.{Kept}
use Rattle.law_office.specs.Line.{line_cmp}
use Rattle.law_office.proofs.InLine.{works_of}
use Rattle.law_office.proofs.Naming.{dated_total}

-- which works an entry concerns
pub concerned_is : (es : List Entry) (e : Entry) (known : Known) → is_concerned es e known.act.work ≡ true → (w : List ℕ)
    → is_that (Some known) w ≡ is_concerned es e w
concerned_is es e known own w = by (work_entered es (law_of es e)) own
  where
    by : (named : Option (List ℕ)) → is_named known.act.work named ≡ true → bytes_eq known.act.work w ≡ is_named w named
    by None own = absurd (let no : false ≡ true = own in cc)
    by (Some work) own = ap (λ (x : List ℕ). bytes_eq x w) (sym (bytes_same work known.act.work own))

-- ---- what is told of works in their order

pub none_told : (rs : List Reached) (w : List ℕ) → list_any (λ (other : List ℕ). bytes_eq other w) (map (λ (r : Reached). r.work) rs) ≡ false
    → day_among (days_told rs) w ≡ None
none_told [] w none = refl
none_told (r ∷ rs) w none = by (bytes_eq r.work w) refl none (none_told rs w)
  where
    told : (day : Option ℕ) → bytes_eq r.work w ≡ false → day_among (days_told rs) w ≡ None → day_among (with_day (Some r.work) day ++ days_told rs) w ≡ None
    told None other rest = rest
    told (Some day) other rest = ap (λ (b : Bool). cond b (Some day) (day_among (days_told rs) w)) other ∙ rest

    by : (b : Bool) → bytes_eq r.work w ≡ b → (b || list_any (λ (other : List ℕ). bytes_eq other w) (map (λ (r : Reached). r.work) rs)) ≡ false
        → (list_any (λ (other : List ℕ). bytes_eq other w) (map (λ (r : Reached). r.work) rs) ≡ false → day_among (days_told rs) w ≡ None)
        → day_among (with_day (Some r.work) r.touched ++ days_told rs) w ≡ None
    by true same none rest = absurd (let no : true ≡ false = none in cc)
    by false other none rest = told r.touched other (rest none)

-- one ahead of works changes nothing of what is told of them
told_behind : (w : List ℕ) (day : Option ℕ) (told : List (List ℕ × ℕ)) (ws : List (List ℕ)) → list_any (λ (other : List ℕ). bytes_eq other w) ws ≡ false
    → days_at (with_day (Some w) day ++ told) ws ≡ days_at told ws
told_behind w None told ws none = refl
told_behind w (Some day) told [] none = refl
told_behind w (Some day) told (v ∷ vs) none = by (bytes_eq v w) refl none (told_behind w (Some day) told vs)
  where
    by : (b : Bool) → bytes_eq v w ≡ b → (b || list_any (λ (other : List ℕ). bytes_eq other w) vs) ≡ false
        → (list_any (λ (other : List ℕ). bytes_eq other w) vs ≡ false → days_at ((w, day) ∷ told) vs ≡ days_at told vs)
        → with_day (Some v) (cond (bytes_eq w v) (Some day) (day_among told v)) ++ days_at ((w, day) ∷ told) vs ≡ with_day (Some v) (day_among told v) ++ days_at told vs
    by true same none rest = absurd (let no : true ≡ false = none in cc)
    by false other none rest =
        ap₂ (λ (b : Bool) (ds : List (List ℕ × ℕ)). with_day (Some v) (cond b (Some day) (day_among told v)) ++ ds) (bytes_either w v ∙ other) (rest none)

pub told_in_order : (rs : List Reached) → AreOnce (map (λ (r : Reached). r.work) rs) → days_at (days_told rs) (map (λ (r : Reached). r.work) rs) ≡ days_told rs
told_in_order [] once = refl
told_in_order (r ∷ rs) once =
    ap₂ (λ (day : Option ℕ) (ds : List (List ℕ × ℕ)). with_day (Some r.work) day ++ ds) (first r.touched)
    (told_behind r.work r.touched (days_told rs) (map (λ (r : Reached). r.work) rs) once.0 ∙ told_in_order rs once.1)
  where
    first : (day : Option ℕ) → day_among (with_day (Some r.work) day ++ days_told rs) r.work ≡ day
    first None = none_told rs r.work once.0
    first (Some day) = ap (λ (b : Bool). cond b (Some day) (day_among (days_told rs) r.work)) (bytes_are r.work r.work refl)

-- what is found along works is of them
pub along_works : (es : List Entry) (e : Entry) (old new : List Known) (rs : List Reached) (works : List Known)
    → map (λ (r : Reached). r.work) (reached_after es e old new rs works) ≡ map (λ (r : Reached). r.work) rs ++ map (λ (k : Known). k.act.work) works
along_works es e old new rs [] = sym (nothing_more (map (λ (r : Reached). r.work) rs))
  where
    nothing_more : (xs : List (List ℕ)) → xs ++ [] ≡ xs
    nothing_more [] = refl
    nothing_more (x ∷ xs) = ap (λ ys. x ∷ ys) (nothing_more xs)
along_works es e old new rs (k ∷ ks) =
    along_works es e old new (rs ++ reached_next es e old new rs k.act.work ∷ []) ks
    ∙ ap (λ (ws : List (List ℕ)). ws ++ map (λ (k : Known). k.act.work) ks) (pushed rs (reached_next es e old new rs k.act.work))
    ∙ regroup (map (λ (r : Reached). r.work) rs)
  where
    pushed : (xs : List Reached) (x : Reached) → map (λ (r : Reached). r.work) (xs ++ x ∷ []) ≡ map (λ (r : Reached). r.work) xs ++ x.work ∷ []
    pushed [] x = refl
    pushed (y ∷ ys) x = ap (λ ws. y.work ∷ ws) (pushed ys x)

    regroup : (xs : List (List ℕ)) → (xs ++ k.act.work ∷ []) ++ map (λ (k : Known). k.act.work) ks ≡ xs ++ k.act.work ∷ map (λ (k : Known). k.act.work) ks
    regroup [] = refl
    regroup (x ∷ xs) = ap (λ ys. x ∷ ys) (regroup xs)

-- the works that are known then are those that are named
pub named_then : (kept : Kept) (c : Option Known) (ns : List DatedWork) → AllByRecursion (IsDated kept c) ns
    → ((w : List ℕ) (known : Known) → known_then kept c w ≡ Some known → known.act.work ≡ w)
    → map (λ (k : Known). k.act.work) (known_then_all kept c (works_of ns)) ≡ works_of ns
named_then kept c [] dated own = refl
named_then kept c (n ∷ ns) dated own =
    ap (λ (found : Option Known). map (λ (k : Known). k.act.work) (option_to_list found ++ known_then_all kept c (works_of ns))) (dated.0).1
    ∙ ap₂ (λ w ws. w ∷ ws) (own n.work (dated.0).0 (dated.0).1) (named_then kept c ns dated.1 own)

-- ---- two lists that are in line, of the same works

-- a work with the day of its act
abbrev pub dated_of : Known → DatedWork
dated_of k = dated_known k.act.work k

-- one of these
abbrev pub Among : DatedWork → List DatedWork → Type 0
Among d [] = ⊥
Among d (n ∷ ns) = (n ≡ d) ⊎ Among d ns

pub of_among : (P : DatedWork → Type 0) (d : DatedWork) (ns : List DatedWork) → AllByRecursion P ns → Among d ns → P d
of_among P d [] all there = absurd there
of_among P d (n ∷ ns) all there = ⊎_elim (λ (same : n ≡ d). subst P same all.0) (λ (rest : Among d ns). of_among P d ns all.1 rest) there

not_itself : (d : DatedWork) → line_cmp d d ≡ Less → ⊥
not_itself d less = let no : Equal ≡ Less = sym (tied_itself dated_total d) ∙ less in cc

not_both : (a b : DatedWork) → line_cmp a b ≡ Less → line_cmp b a ≡ Less → ⊥
not_both a b less more = let no : Less ≡ Greater = sym less ∙ dated_total.antisymm a b ∙ ap ordering_reverse more in cc

-- the first of two lists in line are one, where each is among the other
one_first : (n y : DatedWork) (ns ys : List DatedWork) → AllByRecursion (λ (x : DatedWork). line_cmp n x ≡ Less) ns
    → AllByRecursion (λ (x : DatedWork). line_cmp y x ≡ Less) ys → Among y (n ∷ ns) → Among n (y ∷ ys) → n ≡ y
one_first n y ns ys up down here there =
    ⊎_elim (λ (same : n ≡ y). same)
    (λ (behind : Among y ns).
    ⊎_elim (λ (same : y ≡ n). sym same)
    (λ (other : Among n ys).
    absurd (not_both n y (of_among (λ (x : DatedWork). line_cmp n x ≡ Less) y ns up behind) (of_among (λ (x : DatedWork). line_cmp y x ≡ Less) n ys down other))) there) here

module _ (look : List ℕ → Option Known) where
  abbrev pub all_found : List (List ℕ) → List Known
  all_found [] = []
  all_found (w ∷ ws) = option_to_list (look w) ++ all_found ws

  -- a work is found, known alike
  abbrev pub IsFound : Known → Type 0
  IsFound x = (k : Known) × (look x.act.work ≡ Some k) × IsAlike k x

  abbrev pub IsNamed : List DatedWork → Known → Type 0
  IsNamed ns x = IsFound x × Among (dated_of x) ns

  abbrev pub IsThere : List Known → DatedWork → Type 0
  IsThere xs n = (k : Known) → look n.work ≡ Some k → Among n (map dated_of xs)

  -- those behind the first are named behind it
  named_behind : (n : DatedWork) (ns : List DatedWork) (xs : List Known) → AllByRecursion (λ (x : DatedWork). line_cmp n x ≡ Less) (map dated_of xs)
      → AllByRecursion (IsNamed (n ∷ ns)) xs → AllByRecursion (IsNamed ns) xs
  named_behind n ns [] up all = tt
  named_behind n ns (x ∷ xs) up all = (
    (
      (all.0).0,
      ⊎_elim (λ (same : n ≡ dated_of x). absurd (not_itself n (subst (λ (d : DatedWork). line_cmp n d ≡ Less) (sym same) up.0))) (λ (rest : Among (dated_of x) ns). rest) (all.0).1,
    ),
    named_behind n ns xs up.1 all.1,
  )

  there_behind : (y : Known) (xs : List Known) (ns : List DatedWork) → AllByRecursion (λ (x : DatedWork). line_cmp (dated_of y) x ≡ Less) ns
      → AllByRecursion (IsThere (y ∷ xs)) ns → AllByRecursion (IsThere xs) ns
  there_behind y xs [] up all = tt
  there_behind y xs (n ∷ ns) up all = (
    λ k found. ⊎_elim (λ (same : dated_of y ≡ n). absurd (not_itself n (subst (λ (d : DatedWork). line_cmp d n ≡ Less) same up.0))) (λ (rest : Among n (map dated_of xs)). rest) (all.0 k found),
    there_behind y xs ns up.1 all.1,
  )

  -- one that is not found is no other
  named_else : (n : DatedWork) (ns : List DatedWork) → look n.work ≡ None → (xs : List Known) → AllByRecursion (IsNamed (n ∷ ns)) xs → AllByRecursion (IsNamed ns) xs
  named_else n ns none [] all = tt
  named_else n ns none (x ∷ xs) all = (
    (
      (all.0).0,
      ⊎_elim
          (λ (same : n ≡ dated_of x).
          absurd (let no : None ≡ Some ((all.0).0).0 = sym none ∙ ap (λ (d : DatedWork). look d.work) same ∙ (((all.0).0).1) in cc))
          (λ (rest : Among (dated_of x) ns). rest) (all.0).1,
    ),
    named_else n ns none xs all.1,
  )

  all_dated : (x : Known) (xs : List Known) → AllByRecursion (λ (y : Known). known_cmp x y ≡ Less) xs
      → AllByRecursion (λ (d : DatedWork). line_cmp (dated_of x) d ≡ Less) (map dated_of xs)
  all_dated x [] up = tt
  all_dated x (y ∷ ys) up = (up.0, all_dated x ys up.1)

  pub aligned : (ns : List DatedWork) (xs : List Known) → IsStrictlySortedBy line_cmp ns → IsStrictlySortedBy known_cmp xs
      → AllByRecursion (IsNamed ns) xs → AllByRecursion (IsThere xs) ns → AreAlike (all_found (works_of ns)) xs
  unfolding IsStrictlySortedBy
  aligned [] [] up down named there = tt
  aligned [] (x ∷ xs) up down named there = absurd (named.0).1
  aligned (n ∷ ns) xs up down named there = by (look n.work) refl xs down named there (λ ys below known here. aligned ns ys up.1 below known here)
    where
      by : (found : Option Known) → look n.work ≡ found → (xs : List Known) → IsStrictlySortedBy known_cmp xs → AllByRecursion (IsNamed (n ∷ ns)) xs
          → AllByRecursion (IsThere xs) (n ∷ ns)
          → ((ys : List Known) → IsStrictlySortedBy known_cmp ys → AllByRecursion (IsNamed ns) ys → AllByRecursion (IsThere ys) ns → AreAlike (all_found (works_of ns)) ys)
          → AreAlike (option_to_list found ++ all_found (works_of ns)) xs
      by None none xs down named there rest = rest xs down (named_else n ns none xs named) there.1
      by (Some k) is [] down named there rest = absurd (there.0 k is)
      by (Some k) is (x ∷ xs) down named there rest =
          let same : n ≡ dated_of x = one_first n (dated_of x) ns (map dated_of xs) up.0 (all_dated x xs down.0) (named.0).1 (there.0 k is) in
          let found = (named.0).0 in
          let one : found.0 ≡ k =
          inside found.0 k (sym found.1 ∙ ap (λ (d : DatedWork). look d.work) (sym same) ∙ is) in (
            subst (λ (other : Known). IsAlike other x) one found.2,
            rest xs down.1
                (named_behind n ns xs (subst (λ (d : DatedWork). AllByRecursion (λ (y : DatedWork). line_cmp d y ≡ Less) (map dated_of xs)) (sym same) (all_dated x xs down.0)) named.1)
                (there_behind x xs ns (subst (λ (d : DatedWork). AllByRecursion (λ (y : DatedWork). line_cmp d y ≡ Less) ns) same up.0) there.1),
          )
        where
          inside : (a b : Known) → Some a ≡ Some b → a ≡ b
          inside a b h = cc
