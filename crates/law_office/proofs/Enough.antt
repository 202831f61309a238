-- The works that are asked are enough to tell what an entry touches, and none of them depends on itself or on one behind it.
use Rattle.std.proofs.Common.{◌≡◌, ◌∙◌, sym, ap, ap₂, subst, refl, ℕ, Bool, true, false, cond, ◌||◌, nat_lt, is_some, inl, inr, ⊎_elim, List, [], ◌∷◌, ◌++◌, filter, map, Option, Some, None, option_map}
use Rattle.std.proofs.lemmas.List.Kept.{IsStrictlySortedBy-filter}
use Rattle.std.specs.List.{AllByRecursion, list_any}
use Rattle.std.specs.List.Sorted.{IsStrictlySortedBy}
use Rattle.std.specs.Option.{option_map_or, option_to_list}
use Rattle.std.specs.Str.{bytes_eq}
use Rattle.std.specs.declared.cmp.Ordering.TheVariants.{Less}
use Rattle.law_register.specs.declared.law.act.Act.{Act}
use Rattle.law_register.specs.declared.law.command.Command.{Command}
use Rattle.law_register.specs.declared.register.entry.Entry.{Entry}
use Rattle.law_register.specs.declared.register.known.Known.{Known}
use Rattle.law_register.specs.Answer.Touched.{day_among}
use Rattle.law_register.specs.Provisions.Carrying.{carrying, held_now}
use Rattle.law_register.specs.Provisions.Depending.{depends}
use Rattle.law_register.specs.Provisions.Line.{line, line_cmp as known_cmp, work_in}
use Rattle.law_register.specs.Provisions.Looking.{is_after, names_any}
use Rattle.law_register.specs.Provisions.Touching.{is_concerned, touched, touched_works}
use Rattle.law_register.specs.Register.Indexes.{act_of}
use Rattle.law_register.specs.Register.KnownNext.{known_now, up_to}
use Rattle.law_register.specs.Register.LawList.{front, laws, works_enacted}
use Rattle.law_register.specs.Register.Verdicts.{is_legal}
use Rattle.law_register.proofs.Next.{entry_apart, now_known}
use Rattle.law_register.proofs.Puts.{bytes_are, bytes_same}
use Rattle.source_provisions.proofs.Complete.{line_known}
use Rattle.source_provisions.proofs.HeldNow.{held_is, same_act}
use Rattle.source_provisions.proofs.Lines.{itself_not_later, lines_ascend, not_later_behind}
use Rattle.source_provisions.proofs.Looking.{depends_after}
use Rattle.source_provisions.proofs.Own.{IsKnown, all_known}
use Rattle.version_cache.specs.Works.{IsAlike, IsForIf, WorkValue}
use Rattle.held_provisions.specs.Reaching.{AreAlike, AreEnough, days_told, is_asked as asked_by, reached_after}
use Rattle.held_provisions.specs.declared.touching.Reached.{Reached}
use Rattle.held_provisions.proofs.Alongside.{found_along}
use Rattle.held_provisions.proofs.Partial.{found_enough}
use Rattle.law_office.specs.declared.line.DatedWork.{DatedWork}
use Rattle.law_office.specs.Asked.{AreAsked, AreOnce, IsDated, is_that, known_of_all, known_then, known_then_all}
use Rattle.law_office.specs.Line.{line_cmp}
use Rattle.law_office.specs.Movements.{AreMoving, Enacted, IsMadeIf, StandAhead, days_at}
use Rattle.law_office.specs.Tables.{AreTablesOf, Kept, Matches}
use Rattle.law_office.proofs.HasSources.{there_of}
use Rattle.law_office.proofs.InLine.{works_of}
use Rattle.law_office.proofs.KeptOf.{now_named, of_kept}
use Rattle.law_office.proofs.Lined.{Among, IsNamed, IsThere, aligned, all_found, along_works, concerned_is, dated_of, named_then, none_told, of_among, told_in_order}
use Rattle.law_office.proofs.Moved.{untouched_then}

inside : (a b : Known) → Some a ≡ Some b → a ≡ b
inside a b h = cc

or_left : (a b : Bool) → a ≡ true → (a || b) ≡ true
or_left true b h = refl
or_left false b h = absurd (let no : false ≡ true = h in cc)

or_right : (a b : Bool) → b ≡ true → (a || b) ≡ true
or_right true b h = refl
or_right false b h = h

left_false : (a b : Bool) → (a || b) ≡ false → a ≡ false
left_false true b h = h
left_false false b h = refl

all_filtered : (P Q : Known → Type 0) (p : Known → Bool) → ((x : Known) → P x → p x ≡ true → Q x) → (xs : List Known) → AllByRecursion P xs → AllByRecursion Q (filter p xs)
all_filtered P Q p one [] all = tt
all_filtered P Q p one (x ∷ xs) all = by (p x) refl (all_filtered P Q p one xs all.1)
  where
    by : (b : Bool) → p x ≡ b → AllByRecursion Q (filter p xs) → AllByRecursion Q (cond b (x ∷ filter p xs) (filter p xs))
    by true is rest = (one x all.0 is, rest)
    by false is rest = rest

all_of : {A : Type 0} (P Q : A → Type 0) → ((x : A) → P x → Q x) → (xs : List A) → AllByRecursion P xs → AllByRecursion Q xs
all_of P Q one [] all = tt
all_of P Q one (x ∷ xs) all = (one x all.0, all_of P Q one xs all.1)

all_both : {A : Type 0} (P Q : A → Type 0) (xs : List A) → AllByRecursion P xs → AllByRecursion Q xs → AllByRecursion (λ x. P x × Q x) xs
all_both P Q [] p q = tt
all_both P Q (x ∷ xs) p q = ((p.0, q.0), all_both P Q xs p.1 q.1)

line_is_known : (law : List Command) → AllByRecursion (IsKnown law) (line law)
unfolding line
line_is_known law = all_known law (works_enacted law)

any_works : (ns : List DatedWork) (w : List ℕ) → list_any (λ (other : List ℕ). bytes_eq other w) (works_of ns) ≡ list_any (λ (one : DatedWork). bytes_eq one.work w) ns
any_works [] w = refl
any_works (n ∷ ns) w = ap (λ (b : Bool). bytes_eq n.work w || b) (any_works ns w)

found_is : (kept : Kept) (ws : List (List ℕ)) → all_found (λ w. option_map (λ one. one.known) (kept w)) ws ≡ known_of_all kept ws
found_is kept [] = refl
found_is kept (w ∷ ws) = ap (λ (ks : List Known). option_to_list (option_map (λ one. one.known) (kept w)) ++ ks) (found_is kept ws)

found_then_is : (kept : Kept) (c : Option Known) (ws : List (List ℕ)) → all_found (known_then kept c) ws ≡ known_then_all kept c ws
found_then_is kept c [] = refl
found_then_is kept c (w ∷ ws) = ap (λ (ks : List Known). option_to_list (known_then kept c w) ++ ks) (found_then_is kept c ws)

-- a work of a line that is left stands there
in_line : (p : Known → Bool) (w : List ℕ) (x : Known) (ks : List Known) → work_in w ks ≡ Some x → p x ≡ true → Among (dated_of x) (map dated_of (filter p ks))
in_line p w x [] is keep = absurd (let no : None ≡ Some x = is in cc)
in_line p w x (k ∷ ks) is keep = by (bytes_eq k.act.work w) is (p k) refl (λ rest. in_line p w x ks rest keep)
  where
    by : (b : Bool) → cond b (Some k) (work_in w ks) ≡ Some x → (q : Bool) → p k ≡ q
        → (work_in w ks ≡ Some x → Among (dated_of x) (map dated_of (filter p ks)))
        → Among (dated_of x) (map dated_of (cond q (k ∷ filter p ks) (filter p ks)))
    by true is true here rest = inl (ap dated_of (inside k x is))
    by true is false here rest =
        absurd (let no : false ≡ true = sym here ∙ ap p (inside k x is) ∙ keep in cc)
    by false is true here rest = inr (rest is)
    by false is false here rest = rest is

-- what is known of a work of which something is kept
record IsKeptOf (kept : Kept) (w : List ℕ) (x : Known) : Type 0 where
  one : WorkValue
  is : kept w ≡ Some one
  alike : IsAlike one.known x
  names : one.names ≡ names_any x

module _ (es : List Entry) (e : Entry) (legal : is_legal es ≡ true) (kept : Kept) (right : AreTablesOf es kept) (c : Known)
    (own : is_concerned es e c.act.work ≡ true) (now : known_now (es ++ e ∷ []) c.act.work ≡ Some c) (names : List DatedWork) (asked : AreAsked kept (Some c) names) where
  abbrev after : List Entry
  after = es ++ e ∷ []

  abbrev keeps : List ℕ → Bool
  keeps w = list_any (λ (one : DatedWork). bytes_eq one.work w) names

  abbrev look : List ℕ → Option Known
  look w = option_map (λ (one : WorkValue). one.known) (kept w)

  abbrev look_then : List ℕ → Option Known
  look_then w = known_then kept (Some c) w

  kept_of : (w : List ℕ) (x : Known) → known_now es w ≡ Some x → IsKeptOf kept w x
  kept_of w x is = by (kept w) refl (right w)
    where
      by : (k : Option WorkValue) → kept w ≡ k → Matches (held_now es w) k → IsKeptOf kept w x
      by None none unknown =
          absurd (let no : false ≡ true = ap is_some (sym unknown ∙ held_is es w ∙ ap (option_map (carrying (line (laws es)))) is) in cc)
      by (Some one) k for =
          let got = of_kept es w one for in
          let same : got.known ≡ x = inside got.known x (sym got.is ∙ is) in
          record {
            one = one;
            is = k;
            alike = subst (IsAlike one.known) same got.alike;
            names = got.names ∙ ap names_any same;
          }

  that_is : (w : List ℕ) → is_that (Some c) w ≡ is_concerned es e w
  that_is = concerned_is es e c own

  -- what is known of a work then, and by itself
  record IsThen (w : List ℕ) (x : Known) : Type 0 where
    found : Known
    is : look_then w ≡ Some found
    alike : IsAlike found x

  then_of_known : (w : List ℕ) (x : Known) → known_now after w ≡ Some x → IsThen w x
  then_of_known w x is = by (is_that (Some c) w) refl
    where
      look_is : (b : Bool) → is_that (Some c) w ≡ b → look_then w ≡ cond b (Some c) (look w)
      look_is b that = ap (λ (b : Bool). cond b (Some c) (look w)) that

      mine : c.act.work ≡ w → IsAlike c x
      mine same =
          subst (IsAlike c) (inside c x (sym now ∙ ap (known_now after) same ∙ is)) (record { act = refl; enacted = refl; mods = refl; sources = refl })

      apart_one : (o : Option Known) → known_now es w ≡ o → option_map (up_to (front after)) o ≡ Some x → look_then w ≡ look w → IsThen w x
      apart_one None none is here = absurd (let no : None ≡ Some x = is in cc)
      apart_one (Some old) was is here =
          let k = kept_of w old was in
          record {
            found = k.one.known;
            is = here ∙ ap (option_map (λ (one : WorkValue). one.known)) k.is;
            alike = subst (IsAlike k.one.known) (inside (up_to (front after) old) x is)
                (record { act = k.alike.act; enacted = k.alike.enacted; mods = k.alike.mods; sources = k.alike.sources });
          }

      by : (b : Bool) → is_that (Some c) w ≡ b → IsThen w x
      by true that = record { found = c; is = look_is true that; alike = mine (bytes_same c.act.work w that) }
      by false that = apart_one (known_now es w) refl (sym (entry_apart es e w (sym (that_is w) ∙ that)) ∙ is) (look_is false that)

  -- what is known of a work then, of which this is found
  known_of_then : (w : List ℕ) (found : Known) → look_then w ≡ Some found → (x : Known) × (known_now after w ≡ Some x)
  known_of_then w found is = by (is_that (Some c) w) refl
    where
      apart_one : (k : Option WorkValue) → kept w ≡ k → option_map (λ (one : WorkValue). one.known) k ≡ Some found → is_concerned es e w ≡ false
          → (x : Known) × (known_now after w ≡ Some x)
      apart_one None none is apart = absurd (let no : None ≡ Some found = is in cc)
      apart_one (Some one) k is apart =
          let got = of_kept es w one (subst (Matches (held_now es w)) k (right w)) in
          (up_to (front after) got.known, entry_apart es e w apart ∙ ap (option_map (up_to (front after))) got.is)

      by : (b : Bool) → is_that (Some c) w ≡ b → (x : Known) × (known_now after w ≡ Some x)
      by true that = (c, ap (known_now after) (sym (bytes_same c.act.work w that)) ∙ now)
      by false that =
          apart_one (kept w) refl (sym (ap (λ (b : Bool). cond b (Some c) (look w)) that) ∙ is) (sym (that_is w) ∙ that)

  -- a work that is named stands among the names with its day
  among_names : (ns : List DatedWork) → AllByRecursion (IsDated kept (Some c)) ns → (x : Known)
      → ((known : Known) → look_then x.act.work ≡ Some known → known.act.day ≡ x.act.day)
      → list_any (λ (one : DatedWork). bytes_eq one.work x.act.work) ns ≡ true → Among (dated_of x) ns
  among_names [] dated x day is = absurd (let no : false ≡ true = is in cc)
  among_names (n ∷ ns) dated x day is = by (bytes_eq n.work x.act.work) refl is (λ rest. among_names ns dated.1 x day rest)
    where
      by : (b : Bool) → bytes_eq n.work x.act.work ≡ b → (b || list_any (λ (one : DatedWork). bytes_eq one.work x.act.work) ns) ≡ true
          → (list_any (λ (one : DatedWork). bytes_eq one.work x.act.work) ns ≡ true → Among (dated_of x) ns) → Among (dated_of x) (n ∷ ns)
      by true same is rest =
          let work : n.work ≡ x.act.work = bytes_same n.work x.act.work same in
          let known = (dated.0).0 in
          let there : look_then x.act.work ≡ Some known = ap look_then (sym work) ∙ (dated.0).1 in
          inl ((dated.0).2 ∙ ap₂ (λ (w : List ℕ) (d : ℕ). (let one : DatedWork = record { day = record { 0 = d }; work = w } in one)) work (day known there))
      by false other is rest = inr (rest is)

  -- of a work that is known before and of one that is known then the day is that of its name
  day_before : (x : Known) → known_now es x.act.work ≡ Some x → (known : Known) → look_then x.act.work ≡ Some known → known.act.day ≡ x.act.day
  day_before x was known is =
      let still = known_of_then x.act.work known is in
      let t = then_of_known x.act.work still.0 still.1 in
      let same : t.found ≡ known = inside t.found known (sym t.is ∙ is) in
      ap (λ (k : Known). k.act.day) (sym same)
      ∙ ap (λ (a : Act). a.day) (t.alike.act ∙ sym (same_act es e legal x.act.work x still.0 was still.1))

  day_then : (w : List ℕ) (x : Known) → known_now after w ≡ Some x → (known : Known) → look_then w ≡ Some known → known.act.day ≡ x.act.day
  day_then w x is known found =
      let t = then_of_known w x is in
      ap (λ (k : Known). k.act.day) (sym (inside t.found known (sym t.is ∙ found))) ∙ ap (λ (a : Act). a.day) t.alike.act

  -- each name is one of the names
  each_named : (ns : List DatedWork) → ((w : List ℕ) → list_any (λ (one : DatedWork). bytes_eq one.work w) ns ≡ true → keeps w ≡ true)
      → AllByRecursion (λ (n : DatedWork). keeps n.work ≡ true) ns
  each_named [] all = tt
  each_named (n ∷ ns) all = (
    all n.work (or_left (bytes_eq n.work n.work) (list_any (λ (one : DatedWork). bytes_eq one.work n.work) ns) (bytes_are n.work n.work refl)),
    each_named ns (λ w is. all w (or_right (bytes_eq n.work w) (list_any (λ (one : DatedWork). bytes_eq one.work w) ns) is)),
  )

  -- ---- before

  known_before : (x : Known) → IsKnown (laws es) x → known_now es x.act.work ≡ Some x
  known_before x is = now_known es x.act.work ∙ is

  named_before : (x : Known) → IsKnown (laws es) x → keeps x.act.work ≡ true → IsNamed look names x
  named_before x is keep =
      let k = kept_of x.act.work x (known_before x is) in (
        (k.one.known, ap (option_map (λ (one : WorkValue). one.known)) k.is, k.alike),
        among_names names asked.dated x (day_before x (known_before x is)) keep,
      )

  there_before : (n : DatedWork) → IsDated kept (Some c) n × (keeps n.work ≡ true)
      → IsThere look (filter (λ (x : Known). keeps x.act.work) (line (laws es))) n
  there_before n dated k is = by (kept n.work) refl is
    where
      by : (found : Option WorkValue) → kept n.work ≡ found → option_map (λ (one : WorkValue). one.known) found ≡ Some k
          → Among n (map dated_of (filter (λ (x : Known). keeps x.act.work) (line (laws es))))
      by None none is = absurd (let no : None ≡ Some k = is in cc)
      by (Some one) there is =
          let got = of_kept es n.work one (subst (Matches (held_now es n.work)) there (right n.work)) in
          let x = got.known in
          let named : x.act.work ≡ n.work = now_named es n.work x got.is in
          let was : known_now es x.act.work ≡ Some x = ap (known_now es) named ∙ got.is in
          let known = (dated.0).0 in
          let day : known.act.day ≡ x.act.day = day_before x was known (ap look_then named ∙ (dated.0).1) in
          subst (λ (d : DatedWork). Among d (map dated_of (filter (λ (x : Known). keeps x.act.work) (line (laws es)))))
          (sym ((dated.0).2 ∙ ap₂ (λ (w : List ℕ) (d : ℕ). (let one : DatedWork = record { day = record { 0 = d }; work = w } in one)) (sym named) day))
          (in_line (λ (x : Known). keeps x.act.work) n.work x (line (laws es)) (there_of es n.work x got.is) (ap keeps named ∙ dated.1))

  alike_before : AreAlike (known_of_all kept (works_of names)) (filter (λ (known : Known). keeps known.act.work) (line (laws es)))
  alike_before =
      subst (λ (ks : List Known). AreAlike ks (filter (λ (known : Known). keeps known.act.work) (line (laws es)))) (found_is kept (works_of names))
      (aligned look names (filter (λ (x : Known). keeps x.act.work) (line (laws es))) asked.order
      (IsStrictlySortedBy-filter known_cmp (λ (x : Known). keeps x.act.work) (line (laws es)) (lines_ascend (laws es)))
      (all_filtered (IsKnown (laws es)) (IsNamed look names) (λ (x : Known). keeps x.act.work) named_before (line (laws es)) (line_is_known (laws es)))
      (all_of (λ (n : DatedWork). IsDated kept (Some c) n × (keeps n.work ≡ true)) (IsThere look (filter (λ (x : Known). keeps x.act.work) (line (laws es)))) there_before names
      (all_both (IsDated kept (Some c)) (λ (n : DatedWork). keeps n.work ≡ true) names asked.dated (each_named names (λ w is. is)))))

  -- ---- with the entry

  known_after : (x : Known) → IsKnown (laws after) x → known_now after x.act.work ≡ Some x
  known_after x is = now_known after x.act.work ∙ is

  named_after : (x : Known) → IsKnown (laws after) x → keeps x.act.work ≡ true → IsNamed look_then names x
  named_after x is keep =
      let t = then_of_known x.act.work x (known_after x is) in (
        (t.found, t.is, t.alike),
        among_names names asked.dated x (day_then x.act.work x (known_after x is)) keep,
      )

  there_after : (n : DatedWork) → IsDated kept (Some c) n × (keeps n.work ≡ true)
      → IsThere look_then (filter (λ (x : Known). keeps x.act.work) (line (laws after))) n
  there_after n dated k is =
      let known = (dated.0).0 in
      let got = known_of_then n.work known (dated.0).1 in
      let x = got.0 in
      let named : x.act.work ≡ n.work = now_named after n.work x got.1 in
      let day : known.act.day ≡ x.act.day = day_then n.work x got.1 known (dated.0).1 in
      subst (λ (d : DatedWork). Among d (map dated_of (filter (λ (x : Known). keeps x.act.work) (line (laws after)))))
      (sym ((dated.0).2 ∙ ap₂ (λ (w : List ℕ) (d : ℕ). (let one : DatedWork = record { day = record { 0 = d }; work = w } in one)) (sym named) day))
      (in_line (λ (x : Known). keeps x.act.work) n.work x (line (laws after)) (there_of after n.work x got.1) (ap keeps named ∙ dated.1))

  alike_after : AreAlike (known_then_all kept (Some c) (works_of names)) (filter (λ (known : Known). keeps known.act.work) (line (laws after)))
  alike_after =
      subst (λ (ks : List Known). AreAlike ks (filter (λ (known : Known). keeps known.act.work) (line (laws after)))) (found_then_is kept (Some c) (works_of names))
      (aligned look_then names (filter (λ (x : Known). keeps x.act.work) (line (laws after))) asked.order
      (IsStrictlySortedBy-filter known_cmp (λ (x : Known). keeps x.act.work) (line (laws after)) (lines_ascend (laws after)))
      (all_filtered (IsKnown (laws after)) (IsNamed look_then names) (λ (x : Known). keeps x.act.work) named_after (line (laws after)) (line_is_known (laws after)))
      (all_of (λ (n : DatedWork). IsDated kept (Some c) n × (keeps n.work ≡ true)) (IsThere look_then (filter (λ (x : Known). keeps x.act.work) (line (laws after)))) there_after names
      (all_both (IsDated kept (Some c)) (λ (n : DatedWork). keeps n.work ≡ true) names asked.dated (each_named names (λ w is. is)))))

  -- ---- each that is asked is named

  keeps_that : (w : List ℕ) → is_concerned es e w ≡ true → keeps w ≡ true
  keeps_that w is = asked.all w ∙ or_left (is_that (Some c) w) (option_map_or (λ (one : WorkValue). one.names) (kept w) false) (that_is w ∙ is)

  keeps_naming : (w : List ℕ) (x : Known) → known_now es w ≡ Some x → names_any x ≡ true → keeps w ≡ true
  keeps_naming w x was is =
      let k = kept_of w x was in
      asked.all w
      ∙ or_right (is_that (Some c) w) (option_map_or (λ (one : WorkValue). one.names) (kept w) false)
      (ap (λ (o : Option WorkValue). option_map_or (λ (one : WorkValue). one.names) o false) k.is ∙ k.names ∙ is)

  asked_before : (x : Known) → IsKnown (laws es) x → asked_by es e x ≡ true → keeps x.act.work ≡ true
  asked_before x known is = by (names_any x) refl is
    where
      by : (b : Bool) → names_any x ≡ b → (b || is_concerned es e x.act.work) ≡ true → keeps x.act.work ≡ true
      by true named is = keeps_naming x.act.work x (known_before x known) named
      by false named is = keeps_that x.act.work is

  asked_after : (x : Known) → IsKnown (laws after) x → asked_by es e x ≡ true → keeps x.act.work ≡ true
  asked_after x known is = by (is_concerned es e x.act.work) refl is
    where
      apart_one : (o : Option Known) → known_now es x.act.work ≡ o → option_map (up_to (front after)) o ≡ Some x → names_any x ≡ true → keeps x.act.work ≡ true
      apart_one None none is named = absurd (let no : None ≡ Some x = is in cc)
      apart_one (Some old) was is named =
          keeps_naming x.act.work old was (ap names_any (inside (up_to (front after) old) x is) ∙ named)

      only : (a : Bool) → (a || false) ≡ true → a ≡ true
      only true h = refl
      only false h = h

      by : (b : Bool) → is_concerned es e x.act.work ≡ b → (names_any x || b) ≡ true → keeps x.act.work ≡ true
      by true mine is = keeps_that x.act.work mine
      by false apart is =
          apart_one (known_now es x.act.work) refl (sym (entry_apart es e x.act.work apart) ∙ known_after x known) (only (names_any x) is)

  pub enough : AreEnough es e (known_of_all kept (works_of names)) (known_then_all kept (Some c) (works_of names))
  enough = record {
    keeps = keeps;
    asked_before = all_of (IsKnown (laws es)) (λ (known : Known). asked_by es e known ≡ true → keeps known.act.work ≡ true) asked_before (line (laws es)) (line_is_known (laws es));
    asked_then = all_of (IsKnown (laws after)) (λ (known : Known). asked_by es e known ≡ true → keeps known.act.work ≡ true) asked_after (line (laws after)) (line_is_known (laws after));
    alike_before = alike_before;
    alike_then = alike_after;
  }

  -- ---- what is told

  abbrev old_works : List Known
  old_works = known_of_all kept (works_of names)

  abbrev new_works : List Known
  new_works = known_then_all kept (Some c) (works_of names)

  abbrev along : List Reached
  along = reached_after es e old_works new_works [] new_works

  told : days_told along ≡ touched_works es e
  told = found_enough es e old_works new_works enough ∙ found_along es e (line (laws es)) (line (laws after)) refl refl

  own_name : (w : List ℕ) (known : Known) → look_then w ≡ Some known → known.act.work ≡ w
  own_name w known is =
      let got = known_of_then w known is in
      let t = then_of_known w got.0 got.1 in
      ap (λ (k : Known). k.act.work) (sym (inside t.found known (sym t.is ∙ is))) ∙ ap (λ (a : Act). a.work) t.alike.act ∙ now_named after w got.0 got.1

  works_along : map (λ (r : Reached). r.work) along ≡ works_of names
  works_along = along_works es e old_works new_works [] new_works ∙ named_then kept (Some c) names asked.dated own_name

  pub told_at : days_at (touched_works es e) (works_of names) ≡ touched_works es e
  told_at =
      ap₂ days_at (sym told) (sym works_along)
      ∙ told_in_order along (subst AreOnce (sym works_along) asked.once)
      ∙ told

  pub untouched : (w : List ℕ) → list_any (λ (other : List ℕ). bytes_eq other w) (works_of names) ≡ false → touched es e w ≡ None
  untouched w none =
      ap (λ (ts : List (List ℕ × ℕ)). day_among ts w) (sym told)
      ∙ none_told along w (ap (list_any (λ (other : List ℕ). bytes_eq other w)) works_along ∙ none)

  pub apart : (w : List ℕ) → list_any (λ (other : List ℕ). bytes_eq other w) (works_of names) ≡ false → is_concerned es e w ≡ false
  apart w none =
      sym (that_is w)
      ∙ left_false (is_that (Some c) w) (option_map_or (λ (one : WorkValue). one.names) (kept w) false)
      (sym (asked.all w) ∙ sym (any_works names w) ∙ none)

  -- works begin to move
  pub begins : ((work : List ℕ) (one : WorkValue) → IsForIf (held_now es work) one → is_concerned es e work ≡ false → touched es e work ≡ None
      → IsForIf (held_now after work) one)
      → (enacted : Enacted) → IsMadeIf after (act_of e.command) enacted → AreMoving es e kept enacted [] (works_of names)
  begins stays enacted made = record {
    fit = tt;
    moves = tt;
    made = made;
    days = told_at;
    right = λ w none. untouched_then es e legal enacted made stays kept right [] w refl (apart w none) (untouched w none);
    still = λ w is. refl;
  }

  -- none depends on itself or on one behind it
  ahead_of : (ns : List DatedWork) → AllByRecursion (IsDated kept (Some c)) ns → IsStrictlySortedBy line_cmp ns → StandAhead (line (laws after)) (works_of ns)
  unfolding IsStrictlySortedBy
  ahead_of [] dated up = tt
  ahead_of (n ∷ ns) dated up = (first, ahead_of ns dated.1 up.1)
    where
      first : (known : Known) → work_in n.work (line (laws after)) ≡ Some known → (other : List ℕ) → depends (line (laws after)) known other ≡ true
          → list_any (λ (one : List ℕ). bytes_eq one other) (works_of (n ∷ ns)) ≡ false
      first known there other on =
          by (work_in other (line (laws after))) refl (depends_after (line (laws after)) known other on)
        where
          by : (found : Option Known) → work_in other (line (laws after)) ≡ found → is_after known.act.day found ≡ true
              → list_any (λ (one : List ℕ). bytes_eq one other) (works_of (n ∷ ns)) ≡ false
          by None none later = absurd (let no : false ≡ true = later in cc)
          by (Some o) is later = none_of (list_any (λ (one : List ℕ). bytes_eq one other) (works_of (n ∷ ns))) refl
            where
              known_is : known_now after n.work ≡ Some known
              known_is = now_known after n.work ∙ line_known (laws after) n.work known there

              o_is : known_now after other ≡ Some o
              o_is = now_known after other ∙ line_known (laws after) other o is

              o_named : o.act.work ≡ other
              o_named = now_named after other o o_is

              here : n ≡ dated_of known
              here =
                  (dated.0).2
                  ∙ ap₂ (λ (w : List ℕ) (d : ℕ). (let one : DatedWork = record { day = record { 0 = d }; work = w } in one)) (sym (now_named after n.work known known_is))
                  (day_then n.work known known_is (dated.0).0 (dated.0).1)

              o_day : (k : Known) → look_then o.act.work ≡ Some k → k.act.day ≡ o.act.day
              o_day k found = day_then o.act.work o (ap (known_now after) o_named ∙ o_is) k found

              wrong : Among (dated_of o) (n ∷ ns) → ⊥
              wrong among =
                  ⊎_elim
                  (λ (same : n ≡ dated_of o).
                  let days : known.act.day ≡ o.act.day = ap (λ (d : DatedWork). d.day.0) (sym here ∙ same) in
                  let no : false ≡ true = sym (itself_not_later known.act.day) ∙ ap (nat_lt known.act.day) days ∙ later in cc)
                  (λ (rest : Among (dated_of o) ns).
                  let less : line_cmp (dated_of known) (dated_of o) ≡ Less =
                  subst (λ (d : DatedWork). line_cmp d (dated_of o) ≡ Less) here (of_among (λ (x : DatedWork). line_cmp n x ≡ Less) (dated_of o) ns up.0 rest) in
                  let no : false ≡ true = sym (not_later_behind known o less) ∙ later in cc) among

              none_of : (b : Bool) → list_any (λ (one : List ℕ). bytes_eq one other) (works_of (n ∷ ns)) ≡ b → b ≡ false
              none_of true some =
                  absurd (wrong (among_names (n ∷ ns) dated o o_day
                  (sym (any_works (n ∷ ns) o.act.work) ∙ ap (λ (w : List ℕ). list_any (λ (one : List ℕ). bytes_eq one w) (works_of (n ∷ ns))) o_named ∙ some)))
              none_of false none = refl

  pub stand_ahead : StandAhead (line (laws after)) (works_of names)
  stand_ahead = ahead_of names asked.dated asked.order
