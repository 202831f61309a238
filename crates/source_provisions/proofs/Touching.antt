-- Where no modification names a provision an entry touches each work as if it stood alone.
use Rattle.std.proofs.Common.{◌≡◌, ◌∙◌, sym, ap, refl, ℕ, Bool, true, false, cond, List, [], ◌∷◌, ◌++◌, append_assoc, map, Option, Some, None}
use Rattle.std.proofs.lemmas.List.{append-nil}
use Rattle.std.specs.List.{list_any}
use Rattle.std.specs.Option.{option_map_or}
use Rattle.std.specs.Str.{bytes_eq}
use Rattle.law_register.specs.declared.register.entry.Entry.{Entry}
use Rattle.law_register.specs.declared.register.known.Known.{Known}
use Rattle.law_register.specs.Answer.Touched.{day_among, sooner, touched_day, touched_days, with_day, work_entered}
use Rattle.law_register.specs.Register.Concerns.{is_named}
use Rattle.law_register.specs.Register.LawList.{law_of, laws}
use Rattle.law_register.proofs.ApartIds.{none_both, none_left, none_right}
use Rattle.law_register.proofs.Puts.{bytes_same}
use Rattle.law_register.specs.Provisions.Depending.{depends, depends_in}
use Rattle.law_register.specs.Provisions.Line.{line, work_in}
use Rattle.law_register.specs.Provisions.Looking.{names_any}
use Rattle.law_register.specs.Provisions.Touching.{WorkTouched, days_told, first_reached, own, touched, touched_after, touched_along, touched_as, touched_by, touched_works}
use Rattle.source_provisions.proofs.Days.{independent}

either_way : {A : Type 0} (b : Bool) (x : A) → cond b x x ≡ x
either_way true x = refl
either_way false x = refl

-- a work alone is touched as an entry touches its own work
module _ (entries : List Entry) (entry : Entry) where
  own_by : (named : Option (List ℕ)) (day : Option ℕ) (work : List ℕ) → cond (is_named work named) day None ≡ day_among (with_day named day) work
  own_by None day work = refl
  own_by (Some w) None work = either_way (bytes_eq w work) None
  own_by (Some w) (Some day) work = refl

  pub own_is : (work : List ℕ) → own entries entry work ≡ day_among (touched_days entries entry) work
  unfolding touched_days
  own_is work = own_by (work_entered entries (law_of entries entry)) (touched_day entries entry) work

  none_named : (works : List Known) → list_any names_any works ≡ false → (work on : List ℕ) → depends_in works work on ≡ false
  none_named works none work on = by works none
    where
      by : (ks : List Known) → list_any names_any ks ≡ false → option_map_or (λ known. depends works known on) (work_in work ks) false ≡ false
      by [] none = refl
      by (k ∷ ks) none = here (bytes_eq k.act.work work) (by ks (none_right (names_any k) (list_any names_any ks) none))
        where
          here : (b : Bool) → option_map_or (λ known. depends works known on) (work_in work ks) false ≡ false
              → option_map_or (λ known. depends works known on) (cond b (Some k) (work_in work ks)) false ≡ false
          here true rest = independent works k on (none_left (names_any k) (list_any names_any ks) none)
          here false rest = rest

  module _ (old new : List Known) (none_old : list_any names_any old ≡ false) (none_new : list_any names_any new ≡ false) where
    reached_none : (work : List ℕ) (ts : List WorkTouched) → first_reached old new work ts ≡ None
    reached_none work [] = refl
    reached_none work (t ∷ ts) =
        ap (λ b. sooner (cond b t.reached None) (first_reached old new work ts))
        (none_both (depends_in old work t.known.act.work) (depends_in new work t.known.act.work)
        (none_named old none_old work t.known.act.work) (none_named new none_new work t.known.act.work))
        ∙ reached_none work ts

    touched_own : (ahead : List WorkTouched) (work : List ℕ) → touched_by entries entry old new ahead work ≡ own entries entry work
    touched_own ahead work = ap (sooner (own entries entry work)) (reached_none work ahead) ∙ with_none (own entries entry work)
      where
        with_none : (day : Option ℕ) → sooner day None ≡ day
        with_none None = refl
        with_none (Some day) = refl

    abbrev alone : Known → WorkTouched
    alone known = touched_as entries entry known (own entries entry known.act.work)

    all_alone : (ahead : List WorkTouched) (works : List Known) → touched_after entries entry old new ahead works ≡ ahead ++ map alone works
    all_alone ahead [] = sym (append-nil ahead)
    all_alone ahead (known ∷ works) =
        ap (λ day. touched_after entries entry old new (ahead ++ touched_as entries entry known day ∷ []) works) (touched_own ahead known.act.work)
        ∙ all_alone (ahead ++ alone known ∷ []) works
        ∙ append_assoc ahead (alone known ∷ []) (map alone works)

    -- among works that are told alone, each is told as its own
    not_told : (work : List ℕ) → own entries entry work ≡ None → (works : List Known) → day_among (days_told (map alone works)) work ≡ None
    not_told work none [] = refl
    not_told work none (k ∷ ks) = by (own entries entry k.act.work) refl (not_told work none ks)
      where
        by : (day : Option ℕ) → own entries entry k.act.work ≡ day → day_among (days_told (map alone ks)) work ≡ None
            → day_among (with_day (Some k.act.work) day ++ days_told (map alone ks)) work ≡ None
        by None is rest = rest
        by (Some day) is rest = here (bytes_eq k.act.work work) refl
          where
            here : (b : Bool) → bytes_eq k.act.work work ≡ b → cond b (Some day) (day_among (days_told (map alone ks)) work) ≡ None
            here true same =
                absurd (let wrong : Some day ≡ None = sym is ∙ ap (own entries entry) (bytes_same k.act.work work same) ∙ none in cc)
            here false other = rest

    told : (work : List ℕ) (known : Known) (works : List Known) → work_in work works ≡ Some known → day_among (days_told (map alone works)) work ≡ own entries entry work
    told work known [] there = absurd (let wrong : None ≡ Some known = there in cc)
    told work known (k ∷ ks) there = by (bytes_eq k.act.work work) refl there (told work known ks) (own entries entry k.act.work) refl
      where
        by : (b : Bool) → bytes_eq k.act.work work ≡ b → cond b (Some k) (work_in work ks) ≡ Some known
            → (work_in work ks ≡ Some known → day_among (days_told (map alone ks)) work ≡ own entries entry work)
            → (day : Option ℕ) → own entries entry k.act.work ≡ day
            → day_among (with_day (Some k.act.work) day ++ days_told (map alone ks)) work ≡ own entries entry work
        by true same there rest None is =
            not_told work (ap (own entries entry) (sym (bytes_same k.act.work work same)) ∙ is) ks
            ∙ sym (ap (own entries entry) (sym (bytes_same k.act.work work same)) ∙ is)
        by true same there rest (Some day) is =
            ap (λ b. cond b (Some day) (day_among (days_told (map alone ks)) work)) same
            ∙ sym (ap (own entries entry) (sym (bytes_same k.act.work work same)) ∙ is)
        by false other there rest None is = rest there
        by false other there rest (Some day) is = ap (λ b. cond b (Some day) (day_among (days_told (map alone ks)) work)) other ∙ rest there

pub touched_alone : (entries : List Entry) (entry : Entry) (work : List ℕ) (known : Known) → list_any names_any (line (laws entries)) ≡ false
    → list_any names_any (line (laws (entries ++ entry ∷ []))) ≡ false → work_in work (line (laws (entries ++ entry ∷ []))) ≡ Some known
    → touched entries entry work ≡ day_among (touched_days entries entry) work
unfolding touched_works touched_along
touched_alone entries entry work known none_old none_new there =
    ap (λ ts. day_among (days_told ts) work)
    (all_alone entries entry (line (laws entries)) (line (laws (entries ++ entry ∷ []))) none_old none_new [] (line (laws (entries ++ entry ∷ []))))
    ∙ told entries entry (line (laws entries)) (line (laws (entries ++ entry ∷ []))) none_old none_new work known (line (laws (entries ++ entry ∷ []))) there
    ∙ own_is entries entry work
