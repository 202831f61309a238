-- Where works are kept in line, those on which the next depends are kept.
use Rattle.std.proofs.Common.{◌≡◌, ◌∙◌, sym, ap, subst, refl, ℕ, zero, suc, ◌+◌, ◌≤◌, ◌<◌, ◌⊎◌, inl, inr, ⊎_elim, Bool, true, false, cond, ◌&&◌, ◌||◌, get_or, nat_lt, List, [], ◌∷◌, ◌++◌, length, map, Option, Some, None, IfSome, option_map, is_some, arith}
use Rattle.std.proofs.lemmas.Bool.Decides.{nat_tests}
use Rattle.std.proofs.lemmas.Cmp.{ranked}
use Rattle.std.proofs.lemmas.List.Folds.{list_any-append}
use Rattle.std.proofs.lemmas.List.Sorted.{list_any-IsPermutation}
use Rattle.std.proofs.lemmas.List.Sums.{sum_by-cons}
use Rattle.std.specs.Cmp.Lexicographic.{slice_cmp}
use Rattle.std.specs.List.{AllByRecursion, list_any, sum_by}
use Rattle.std.specs.Ordering.{is_lt, nat_cmp, ordering_then}
use Rattle.std.specs.Prelude.{IsSorted}
use Rattle.std.specs.Str.{bytes_eq}
use Rattle.std.specs.declared.cmp.Ordering.{Ordering}
use Rattle.std.specs.declared.cmp.Ordering.TheVariants.{Less, Equal, Greater}
use Rattle.law_register.specs.declared.law.act.Act.{Act}
use Rattle.law_register.specs.declared.law.command.Command.{Command}
use Rattle.law_register.specs.declared.law.command.Command.TheVariants.{Enact, Record, Correct, Withdraw, Restore, DraftAdd, DraftDrop, File}
use Rattle.law_register.specs.declared.register.entry.Entry.{Entry}
use Rattle.law_register.specs.declared.register.known.Known.{Known}
use Rattle.law_register.specs.Answer.Previews.{known_by_law}
use Rattle.law_register.specs.Provisions.Carrying.{carrying, held_now}
use Rattle.law_register.specs.Provisions.Depending.{depends}
use Rattle.law_register.specs.Provisions.Line.{line as line_of_laws, work_in}
use Rattle.law_register.specs.Provisions.Looking.{is_after}
use Rattle.law_register.specs.Register.KnownIds.{enacted, enacted_by, enacted_from, enacted_or, known_by}
use Rattle.law_register.specs.Register.KnownNext.{known_now}
use Rattle.law_register.specs.Register.LawList.{acts_of, laws}
use Rattle.law_register.specs.Register.Verdicts.{is_legal}
use Rattle.law_register.proofs.Next.{now_known}
use Rattle.law_register.proofs.Puts.{bytes_are, bytes_either}
use Rattle.source_provisions.proofs.Complete.{line_known}
use Rattle.source_provisions.proofs.HeldNow.{held_is}
use Rattle.source_provisions.proofs.Looking.{depends_after}
use Rattle.version_cache.specs.Works.{IsForIf, WorkValue}
use Rattle.law_office.specs.declared.line.DatedWork.{DatedWork}
use Rattle.law_office.specs.Line.{AreInLine, dated_work, line_cmp}
use Rattle.law_office.specs.Tables.{AreAhead, Kept}
use Rattle.law_office.proofs.Adding.{AreSoFar}
use Rattle.law_office.proofs.InLine.{enacted_once, one, one_same, times, works_of}

-- a dated work is this one, and its day passes a test
abbrev is_dated : List ℕ → (ℕ → Bool) → DatedWork → Bool
is_dated w passes d = bytes_eq w d.work && passes d.day.0

-- the act of a work is among those that law entries enact
module _ (w : List ℕ) (passes : ℕ → Bool) where
  and_both : (a b : Bool) → a ≡ true → b ≡ true → (a && b) ≡ true
  and_both true b h k = k
  and_both false b h k = h

  or_left : (a b : Bool) → a ≡ true → (a || b) ≡ true
  or_left true b h = refl
  or_left false b h = absurd (let no : false ≡ true = h in cc)

  or_right : (a b : Bool) → b ≡ true → (a || b) ≡ true
  or_right true b h = refl
  or_right false b h = h

  abbrev day_or : ℕ → Option (ℕ × Act) → ℕ
  day_or day None = day
  day_or day (Some f) = f.1.day

  stands : (n : ℕ) (ls : List Command) (f : ℕ × Act) → enacted_from n w ls ≡ Some f → passes f.1.day ≡ true
      → list_any (is_dated w passes) (map dated_work (acts_of ls)) ≡ true
  stands n [] f is pass = absurd (let no : None ≡ Some f = is in cc)
  stands n (l ∷ ls) f is pass = by l is (λ rest. stands (n + 1) ls f rest pass)
    where
      first : (act : Act) (b : Bool) → bytes_eq act.work w ≡ b → enacted_or n (cond b (Some act) None) (enacted_from (n + 1) w ls) ≡ Some f
          → (enacted_from (n + 1) w ls ≡ Some f → list_any (is_dated w passes) (map dated_work (acts_of ls)) ≡ true)
          → (is_dated w passes (dated_work act) || list_any (is_dated w passes) (map dated_work (acts_of ls))) ≡ true
      first act true same is rest =
          or_left (is_dated w passes (dated_work act)) (list_any (is_dated w passes) (map dated_work (acts_of ls)))
          (and_both (bytes_eq w act.work) (passes act.day) (bytes_either w act.work ∙ same) (ap passes (ap (day_or act.day) is) ∙ pass))
      first act false other is rest =
          or_right (is_dated w passes (dated_work act)) (list_any (is_dated w passes) (map dated_work (acts_of ls))) (rest is)

      by : (l : Command) → enacted_or n (enacted_by w l) (enacted_from (n + 1) w ls) ≡ Some f
          → (enacted_from (n + 1) w ls ≡ Some f → list_any (is_dated w passes) (map dated_work (acts_of ls)) ≡ true)
          → list_any (is_dated w passes) (map dated_work (acts_of (l ∷ ls))) ≡ true
      by (Enact act) is rest = first act (bytes_eq act.work w) refl is rest
      by (Record work mods) is rest = rest is
      by (Correct id body) is rest = rest is
      by (Withdraw id) is rest = rest is
      by (Restore id) is rest = rest is
      by (DraftAdd work body) is rest = rest is
      by (DraftDrop item) is rest = rest is
      by (File work seen) is rest = rest is

  abbrev act_day : ℕ → Option Known → ℕ
  act_day day None = day
  act_day day (Some known) = known.act.day

  known_stands : (law : List Command) (known : Known) → known_by_law law w ≡ Some known → passes known.act.day ≡ true
      → list_any (is_dated w passes) (map dated_work (acts_of law)) ≡ true
  known_stands law known is pass = by (enacted w law) refl is
    where
      by : (found : Option (ℕ × Act)) → enacted w law ≡ found → known_by w (length law) (length law) law found ≡ Some known
          → list_any (is_dated w passes) (map dated_work (acts_of law)) ≡ true
      by None none is = absurd (let no : None ≡ Some known = is in cc)
      by (Some f) some is = stands 1 law f some (ap passes (ap (act_day f.1.day) is) ∙ pass)

  -- one that is found is counted
  counted : (ds : List DatedWork) → list_any (is_dated w passes) ds ≡ true → 1 ≤ sum_by (one w) (works_of ds)
  counted [] found = absurd (let no : false ≡ true = found in cc)
  counted (d ∷ ds) found = by (bytes_eq w d.work) refl found (counted ds)
    where
      by : (b : Bool) → bytes_eq w d.work ≡ b → ((b && passes d.day.0) || list_any (is_dated w passes) ds) ≡ true
          → (list_any (is_dated w passes) ds ≡ true → 1 ≤ sum_by (one w) (works_of ds)) → 1 ≤ sum_by (one w) (works_of (d ∷ ds))
      by true same found rest = omega (arith, sum_by-cons (one w) d.work (works_of ds), one_same w d.work same)
      by false other found rest =
          let more : 1 ≤ sum_by (one w) (works_of ds) = rest found in
          omega (arith, sum_by-cons (one w) d.work (works_of ds), more)

-- so is one that is named
counted_named : (w : List ℕ) (ws : List (List ℕ)) → list_any (bytes_eq w) ws ≡ true → 1 ≤ sum_by (one w) ws
counted_named w [] found = absurd (let no : false ≡ true = found in cc)
counted_named w (v ∷ vs) found = by (bytes_eq w v) refl found (counted_named w vs)
  where
    by : (b : Bool) → bytes_eq w v ≡ b → (b || list_any (bytes_eq w) vs) ≡ true → (list_any (bytes_eq w) vs ≡ true → 1 ≤ sum_by (one w) vs)
        → 1 ≤ sum_by (one w) (v ∷ vs)
    by true same found rest = omega (arith, sum_by-cons (one w) v vs, one_same w v same)
    by false other found rest = let more : 1 ≤ sum_by (one w) vs = rest found in omega (arith, sum_by-cons (one w) v vs, more)

-- in line the days fall
not_less : (a b : ℕ) (r : Ordering) → is_lt (ordering_then (nat_cmp a b) r) ≡ false → b ≤ a
not_less a b r h = by (nat_cmp a b) refl h
  where
    below : b < a → b ≤ a
    below k = omega (arith, k)

    same : a ≡ b → b ≤ a
    same k = omega (arith, k)

    by : (o : Ordering) → nat_cmp a b ≡ o → is_lt (ordering_then o r) ≡ false → b ≤ a
    by Less e h = absurd (let no : true ≡ false = h in cc)
    by Equal e h = same (ranked a b Equal (sym e))
    by Greater e h = below (ranked a b Greater (sym e))

weaker : (n m : ℕ) → n ≤ m → (ds : List DatedWork) → AllByRecursion (λ (x : DatedWork). x.day.0 ≤ n) ds → AllByRecursion (λ (x : DatedWork). x.day.0 ≤ m) ds
weaker n m up [] all = tt
weaker n m up (x ∷ xs) all = (let low = all.0 in omega (arith, low, up), weaker n m up xs all.1)

behind_one : (d : DatedWork) (xs : List DatedWork) → IsSorted line_cmp (d ∷ xs) → IsSorted line_cmp xs
behind_one d xs sorted = λ k e low within.
    let next : suc k + 1 ≡ suc (k + 1) = omega arith in
    subst (λ (n : ℕ). is_lt (line_cmp (get_or (d ∷ xs) n e) (get_or (d ∷ xs) (suc k) e)) ≡ false) next (sorted (suc k) e (omega arith) (omega arith))

fall : (d : DatedWork) (ds : List DatedWork) → IsSorted line_cmp (d ∷ ds) → AllByRecursion (λ (x : DatedWork). x.day.0 ≤ d.day.0) ds
fall d [] sorted = tt
fall d (x ∷ xs) sorted =
    let next : x.day.0 ≤ d.day.0 =
    not_less d.day.0 x.day.0 (slice_cmp nat_cmp x.work d.work) (sorted zero d (omega arith) (omega arith)) in
    (next, weaker x.day.0 d.day.0 next xs (fall x xs (behind_one d (x ∷ xs) sorted)))

behind_front : (front : List DatedWork) (d : DatedWork) (ds : List DatedWork) → IsSorted line_cmp (front ++ d ∷ ds) → IsSorted line_cmp (d ∷ ds)
behind_front [] d ds sorted = sorted
behind_front (x ∷ front) d ds sorted = behind_front front d ds (behind_one x (front ++ d ∷ ds) sorted)

none_later : (w : List ℕ) (day : ℕ) (ds : List DatedWork) → AllByRecursion (λ (x : DatedWork). x.day.0 ≤ day) ds
    → list_any (is_dated w (nat_lt day)) ds ≡ false
none_later w day [] all = refl
none_later w day (x ∷ xs) all = by (bytes_eq w x.work) (none_later w day xs all.1)
  where
    late : nat_lt day x.day.0 ≡ false
    late = let low = all.0 in grind (arith, nat_tests)

    by : (b : Bool) → list_any (is_dated w (nat_lt day)) xs ≡ false → ((b && nat_lt day x.day.0) || list_any (is_dated w (nat_lt day)) xs) ≡ false
    by true rest = ap (λ (c : Bool). c || list_any (is_dated w (nat_lt day)) xs) late ∙ rest
    by false rest = rest

-- dated works where their names are cut
record IsCut (ds : List DatedWork) (before : List (List ℕ)) (work : List ℕ) (rest : List (List ℕ)) : Type 0 where
  front : List DatedWork
  here : DatedWork
  back : List DatedWork
  is : ds ≡ front ++ here ∷ back
  ahead : works_of front ≡ before
  named : here.work ≡ work
  behind : works_of back ≡ rest

cut_in : (ds : List DatedWork) (before : List (List ℕ)) (work : List ℕ) (rest : List (List ℕ)) → works_of ds ≡ before ++ work ∷ rest
    → IsCut ds before work rest
cut_in [] [] work rest is = absurd (let no : [] ≡ work ∷ rest = is in cc)
cut_in [] (b ∷ before) work rest is = absurd (let no : [] ≡ b ∷ before ++ work ∷ rest = is in cc)
cut_in (d ∷ ds) [] work rest is = record {
  front = [];
  here = d;
  back = ds;
  is = refl;
  ahead = refl;
  named = cc;
  behind = cc;
}
cut_in (d ∷ ds) (b ∷ before) work rest is = with_first (cut_in ds before work rest (let tail : works_of ds ≡ before ++ work ∷ rest = cc in tail))
  where
    first : d.work ≡ b
    first = cc

    with_first : IsCut ds before work rest → IsCut (d ∷ ds) (b ∷ before) work rest
    with_first c = record {
      front = d ∷ c.front;
      here = c.here;
      back = c.back;
      is = ap (λ xs. d ∷ xs) c.is;
      ahead = ap (λ ws. d.work ∷ ws) c.ahead ∙ ap (λ w. w ∷ before) first;
      named = c.named;
      behind = c.behind;
    }

-- one of works in line, where those before it are kept
module _ (es : List Entry) (legal : is_legal es ≡ true) (works before : List (List ℕ)) (work : List ℕ) (rest : List (List ℕ))
    (line : AreInLine es works) (cut : works ≡ before ++ work ∷ rest) where
  at : IsCut line.dated before work rest
  at = cut_in line.dated before work rest (sym line.are ∙ cut)

  dated_days : AllByRecursion (λ (x : DatedWork). x.day.0 ≤ at.here.day.0) at.back
  dated_days = fall at.here at.back (behind_front at.front at.here at.back (subst (IsSorted line_cmp) at.is line.order))

  in_line : (w : List ℕ) (passes : ℕ → Bool) (known : Known) → known_by_law (laws es) w ≡ Some known → passes known.act.day ≡ true
      → (list_any (is_dated w passes) at.front || list_any (is_dated w passes) (at.here ∷ at.back)) ≡ true
  in_line w passes known is pass =
      sym (list_any-append (is_dated w passes) at.front (at.here ∷ at.back))
      ∙ ap (list_any (is_dated w passes)) (sym at.is)
      ∙ sym (list_any-IsPermutation (is_dated w passes) (map dated_work (acts_of (laws es))) line.dated line.all)
      ∙ known_stands w passes (laws es) known is pass

  -- each work is counted once at most
  abbrev before_count : List ℕ → ℕ
  before_count w = sum_by (one w) before

  once : (w : List ℕ) → before_count w + (one w work + sum_by (one w) rest) ≤ 1
  once w =
      let all = times es legal works before work rest line cut w in
      let few = enacted_once es legal w in
      omega (arith, all, few)

  counted_ahead : (w : List ℕ) (passes : ℕ → Bool) → list_any (is_dated w passes) at.front ≡ true → 1 ≤ before_count w
  counted_ahead w passes found = subst (λ ws. 1 ≤ sum_by (one w) ws) at.ahead (counted w passes at.front found)

  counted_behind : (w : List ℕ) (passes : ℕ → Bool) → list_any (is_dated w passes) at.back ≡ true → 1 ≤ sum_by (one w) rest
  counted_behind w passes found = subst (λ ws. 1 ≤ sum_by (one w) ws) at.behind (counted w passes at.back found)

  -- the work at the place has its own day there
  own_day : (known : Known) → known_by_law (laws es) work ≡ Some known → at.here.day.0 ≤ known.act.day
  own_day known is = from (list_any (is_dated work early) at.front) refl (in_line work early known is itself)
    where
      early : ℕ → Bool
      early day = nat_lt day (known.act.day + 1)

      itself : nat_lt known.act.day (known.act.day + 1) ≡ true
      itself = grind (arith, nat_tests)

      twice : (1 ≤ before_count work) ⊎ (1 ≤ sum_by (one work) rest) → at.here.day.0 ≤ known.act.day
      twice more =
          let same = one_same work work (bytes_are work work refl) in
          let few = once work in
          ⊎_elim (λ (n : 1 ≤ before_count work). absurd (omega (arith, same, few, n)))
          (λ (n : 1 ≤ sum_by (one work) rest). absurd (omega (arith, same, few, n))) more

      here_early : nat_lt at.here.day.0 (known.act.day + 1) ≡ true → at.here.day.0 ≤ known.act.day
      here_early low = grind (arith, nat_tests)

      behind : (b : Bool) → early at.here.day.0 ≡ b → (b || list_any (is_dated work early) at.back) ≡ true → at.here.day.0 ≤ known.act.day
      behind true low found = here_early low
      behind false high found = twice (inr (counted_behind work early found))

      here : ((bytes_eq work at.here.work && early at.here.day.0) || list_any (is_dated work early) at.back) ≡ true → at.here.day.0 ≤ known.act.day
      here found =
          behind (early at.here.day.0) refl
          (sym (ap (λ b. (b && early at.here.day.0) || list_any (is_dated work early) at.back) (bytes_are work at.here.work (sym at.named))) ∙ found)

      from : (b : Bool) → list_any (is_dated work early) at.front ≡ b → (b || list_any (is_dated work early) (at.here ∷ at.back)) ≡ true → at.here.day.0 ≤ known.act.day
      from true ahead found = twice (inl (counted_ahead work early ahead))
      from false none found = here found

  -- so what is of a later day stands before it
  not_left : (known source : Known) (name : List ℕ) → known_by_law (laws es) work ≡ Some known → known_by_law (laws es) name ≡ Some source
      → nat_lt known.act.day source.act.day ≡ true → list_any (bytes_eq name) (work ∷ rest) ≡ true → ⊥
  not_left known source name is found later left =
      from (list_any (is_dated name (nat_lt known.act.day)) at.front) refl (in_line name (nat_lt known.act.day) source found later)
    where
      none : list_any (is_dated name (nat_lt known.act.day)) (at.here ∷ at.back) ≡ false
      none =
          none_later name known.act.day (at.here ∷ at.back)
          (own_day known is, weaker at.here.day.0 known.act.day (own_day known is) at.back dated_days)

      from : (b : Bool) → list_any (is_dated name (nat_lt known.act.day)) at.front ≡ b
          → (b || list_any (is_dated name (nat_lt known.act.day)) (at.here ∷ at.back)) ≡ true → ⊥
      from true ahead found =
          let before = counted_ahead name (nat_lt known.act.day) ahead in
          let more = counted_named name (work ∷ rest) left in
          let sum = sum_by-cons (one name) work rest in
          let few = once name in
          omega (arith, before, more, sum, few)
      from false other found = let wrong : false ≡ true = sym none ∙ found in cc

  some_held : (name : List ℕ) (source : Known) → known_by_law (laws es) name ≡ Some source → held_now es name ≡ None → ⊥
  some_held name source by_law unknown =
      let held : held_now es name ≡ Some (carrying (line_of_laws (laws es)) source) =
      held_is es name ∙ ap (option_map (carrying (line_of_laws (laws es)))) (now_known es name ∙ by_law) in
      let no : false ≡ true = ap is_some (sym unknown ∙ held) in cc

  module _ (kept : Kept) (so : AreSoFar es kept (work ∷ rest)) where
    right : (name : List ℕ) (kept_one : WorkValue) → kept name ≡ Some kept_one → IsForIf (held_now es name) kept_one
    right name kept_one is = subst (λ (k : Option WorkValue). IfSome k (IsForIf (held_now es name))) is (so.right name)

    there : (known : Known) → known_now es work ≡ Some known → (name : List ℕ) → depends (line_of_laws (laws es)) known name ≡ true
        → kept name ≡ None → ⊥
    there known now name on none =
        by (work_in name (line_of_laws (laws es))) refl (depends_after (line_of_laws (laws es)) known name on)
      where
        is : known_by_law (laws es) work ≡ Some known
        is = sym (now_known es work) ∙ now

        by : (found : Option Known) → work_in name (line_of_laws (laws es)) ≡ found → is_after known.act.day found ≡ true → ⊥
        by None nowhere later = let no : false ≡ true = later in cc
        by (Some source) found later =
            let by_law = line_known (laws es) name source found in
            ⊎_elim (λ (unknown : held_now es name ≡ None). some_held name source by_law unknown)
            (λ left. not_left known source name is by_law later left) (so.left name none)

    pub ahead_of : AreAhead es work kept
    ahead_of = record { right = right; there = there }
