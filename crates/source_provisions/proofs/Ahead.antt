-- A text is made by those ahead of it in the line, and what stands behind changes nothing of it.
use Rattle.std.proofs.Common.{◌≡◌, ◌∙◌, sym, ap, refl, subst, ℕ, suc, Bool, true, false, cond, ◌&&◌, is_some, List, [], ◌∷◌, ◌++◌, append_assoc, length, map, take, Option, Some, None}
use Rattle.std.proofs.lemmas.List.{append-nil}
use Rattle.std.specs.List.{AllByRecursion}
use Rattle.std.specs.List.Sorted.{IsStrictlySortedBy}
use Rattle.std.specs.Str.{bytes_eq}
use Rattle.law_register.specs.declared.answer.question.Reading.{Reading}
use Rattle.law_register.specs.declared.law.modification.ModSource.{ModSource}
use Rattle.law_register.specs.declared.law.modification.Modification.{Modification}
use Rattle.law_register.specs.declared.law.modification.Modification.TheVariants.{Textual, Force, Efficacy}
use Rattle.law_register.specs.declared.register.known.Known.{Known}
use Rattle.law_register.specs.declared.register.known.KnownMod.{KnownMod}
use Rattle.law_register.specs.Answer.Replay.{replay_on}
use Rattle.law_register.specs.Law.Sources.{source_of}
use Rattle.law_register.proofs.Lists.{take_none}
use Rattle.law_register.proofs.Puts.{right_true}
use Rattle.law_register.specs.Provisions.Line.{line_cmp, work_in}
use Rattle.law_register.specs.Provisions.Looking.{is_after, looked_at, source_looked_at}
use Rattle.law_register.specs.Provisions.Trees.{WorkText, borne, is_borne, named_stands, source_stands, stands, stands_in, text_in, text_on, texts_after, trees, version_in, work_borne}
use Rattle.source_provisions.proofs.Lines.{found_in_front, not_after}

abbrev pub knowns : List WorkText → List Known
knowns texts = map (λ t. t.known) texts

-- a work has a text exactly where it is among the works of the texts
found_known : (work : List ℕ) (texts : List WorkText) → text_in work texts ≡ None → work_in work (knowns texts) ≡ None
found_known work [] none = refl
found_known work (t ∷ ts) none = by (bytes_eq t.known.act.work work) (found_known work ts) none
  where
    by : (b : Bool) → (text_in work ts ≡ None → work_in work (knowns ts) ≡ None) → cond b (Some t) (text_in work ts) ≡ None
        → cond b (Some t.known) (work_in work (knowns ts)) ≡ None
    by true rest h = absurd (let wrong : Some t ≡ None = h in cc)
    by false rest h = rest h

module _ (line : List Known) (reading : Reading) (day : ℕ) where
  -- texts that come behind those ahead of a work do not change which of its modifications are borne
  module _ (texts more : List WorkText) (known : Known) (behind : List Known) (is : knowns texts ++ known ∷ behind ≡ line)
      (up : IsStrictlySortedBy line_cmp (knowns texts ++ known ∷ behind)) where
    still_stands : (work wid : List ℕ) → is_after known.act.day (work_in work line) ≡ true → stands texts reading day work wid ≡ stands (texts ++ more) reading day work wid
    still_stands work wid after = by (text_in work texts) refl
      where
        by : (t : Option WorkText) → text_in work texts ≡ t → stands texts reading day work wid ≡ stands (texts ++ more) reading day work wid
        by (Some t) found =
            ap (stands_in reading day wid) (found ∙ sym (found_in_front (λ (x : WorkText). bytes_eq x.known.act.work work) texts more t found))
        by None none =
            absurd (let wrong : true ≡ false =
            sym after ∙ ap (λ works. is_after known.act.day (work_in work works)) (sym is)
            ∙ not_after (knowns texts) known behind up work (found_known work texts none) in cc)

    still_named : (source : ModSource) → source_looked_at line known.act.day source ≡ true → source_stands texts reading day source ≡ source_stands (texts ++ more) reading day source
    still_named source looked = by source.provision
      where
        by : (p : Option (List ℕ)) → named_stands texts reading day source.href p ≡ named_stands (texts ++ more) reading day source.href p
        by None = refl
        by (Some wid) = still_stands source.href wid (right_true (is_some source.provision) (is_after known.act.day (work_in source.href line)) looked)

    still_by_source : (m : Modification) → looked_at line known.act.day m ≡ true → source_stands texts reading day (source_of m) ≡ source_stands (texts ++ more) reading day (source_of m)
    still_by_source (Textual source force edit) looked = still_named source looked
    still_by_source (Force source destination on effect) looked = absurd (let wrong : false ≡ true = looked in cc)
    still_by_source (Efficacy source destination on effect) looked = absurd (let wrong : false ≡ true = looked in cc)

    still_borne : (m : Modification) → is_borne line texts reading day known.act.day m ≡ is_borne line (texts ++ more) reading day known.act.day m
    still_borne m = by (looked_at line known.act.day m) refl
      where
        by : (b : Bool) → looked_at line known.act.day m ≡ b
            → cond b (source_stands texts reading day (source_of m)) true ≡ cond b (source_stands (texts ++ more) reading day (source_of m)) true
        by true looked = still_by_source m looked
        by false none = refl

    all_still_borne : (ms : List KnownMod) → map (borne line texts reading day known.act.day) ms ≡ map (borne line (texts ++ more) reading day known.act.day) ms
    all_still_borne [] = refl
    all_still_borne (m ∷ ms) =
        ap (λ b. (let k : KnownMod = record m { live = m.live && b; carried = None } in k) ∷ map (borne line texts reading day known.act.day) ms) (still_borne m.body)
        ∙ ap (λ ks. borne line (texts ++ more) reading day known.act.day m ∷ ks) (all_still_borne ms)

    pub still_known : work_borne line texts reading day known ≡ work_borne line (texts ++ more) reading day known
    still_known = ap (λ ms. (let k : Known = record known { mods = ms; source_days = [] } in k)) (all_still_borne known.mods)

  -- the texts that stand behind others
  abbrev pub more_texts : List WorkText → List Known → List WorkText
  more_texts texts [] = []
  more_texts texts (known ∷ works) = text_on line reading day texts known ∷ more_texts (texts ++ text_on line reading day texts known ∷ []) works

  pub stand_behind : (texts : List WorkText) (works : List Known) → texts_after line reading day texts works ≡ texts ++ more_texts texts works
  stand_behind texts [] = sym (append-nil texts)
  stand_behind texts (known ∷ works) =
      stand_behind (texts ++ text_on line reading day texts known ∷ []) works
      ∙ append_assoc texts (text_on line reading day texts known ∷ []) (more_texts (texts ++ text_on line reading day texts known ∷ []) works)

  knowns_more : (texts : List WorkText) (known : Known) (works : List Known)
      → knowns (texts ++ text_on line reading day texts known ∷ []) ++ works ≡ knowns texts ++ known ∷ works
  knowns_more texts known works = joined texts (text_on line reading day texts known) works
    where
      joined : (ts : List WorkText) (t : WorkText) (works : List Known) → knowns (ts ++ t ∷ []) ++ works ≡ knowns ts ++ t.known ∷ works
      joined [] t works = refl
      joined (s ∷ ts) t works = ap (λ ks. s.known ∷ ks) (joined ts t works)

  -- each text is made of its work as it counts by all texts
  abbrev pub IsOf : List WorkText → WorkText → Type 0
  IsOf all text = text.version ≡ replay_on (work_borne line all reading day text.known) reading day

  all_of : (all texts : List WorkText) (works : List Known) → knowns texts ++ works ≡ line → IsStrictlySortedBy line_cmp line
      → all ≡ texts ++ more_texts texts works → AllByRecursion (IsOf all) (more_texts texts works)
  all_of all texts [] is up made = tt
  all_of all texts (known ∷ works) is up made = (
    ap (λ (k : Known). replay_on k reading day)
        (still_known texts (text_on line reading day texts known ∷ more_texts (texts ++ text_on line reading day texts known ∷ []) works) known works is
        (subst (IsStrictlySortedBy line_cmp) (sym is) up)
        ∙ ap (λ (ts : List WorkText). work_borne line ts reading day known) (sym made)),
    all_of all (texts ++ text_on line reading day texts known ∷ []) works (knowns_more texts known works ∙ is) up
        (made ∙ sym (append_assoc texts (text_on line reading day texts known ∷ []) (more_texts (texts ++ text_on line reading day texts known ∷ []) works))),
  )

pub each_of_all : (line : List Known) (reading : Reading) (day : ℕ) → IsStrictlySortedBy line_cmp line
    → AllByRecursion (λ text. text.version ≡ version_in line text.known reading day) (trees line reading day)
unfolding trees
each_of_all line reading day up =
    subst (AllByRecursion (IsOf line reading day (texts_after line reading day [] line))) (sym (stand_behind line reading day [] line))
    (all_of line reading day (texts_after line reading day [] line) [] line refl up (stand_behind line reading day [] line))

-- what stands behind changes nothing
module _ (front behind : List Known) (reading : Reading) (day : ℕ) (up : IsStrictlySortedBy line_cmp (front ++ behind)) where
  module _ (ahead : List Known) (known : Known) (rest : List Known) (is : ahead ++ known ∷ rest ≡ front) where
    whole : ahead ++ known ∷ (rest ++ behind) ≡ front ++ behind
    whole = sym (append_assoc ahead (known ∷ rest) behind) ∙ ap (λ works. works ++ behind) is

    none_ahead : (work : List ℕ) (k : Option Known) → work_in work ahead ≡ k → work_in work front ≡ None → k ≡ None
    none_ahead work None e none = refl
    none_ahead work (Some k) e none =
        absurd (let wrong : Some k ≡ None =
        sym (found_in_front (λ (x : Known). bytes_eq x.act.work work) ahead (known ∷ rest) k e) ∙ ap (work_in work) is ∙ none in cc)

    same_after : (work : List ℕ) → is_after known.act.day (work_in work (front ++ behind)) ≡ is_after known.act.day (work_in work front)
    same_after work = by (work_in work front) refl
      where
        by : (k : Option Known) → work_in work front ≡ k → is_after known.act.day (work_in work (front ++ behind)) ≡ is_after known.act.day (work_in work front)
        by (Some k) found = ap (is_after known.act.day) (found_in_front (λ (x : Known). bytes_eq x.act.work work) front behind k found ∙ sym found)
        by None none =
            ap (λ works. is_after known.act.day (work_in work works)) (sym whole)
            ∙ not_after ahead known (rest ++ behind) (subst (IsStrictlySortedBy line_cmp) (sym whole) up) work (none_ahead work (work_in work ahead) refl none)
            ∙ sym (ap (is_after known.act.day) none)

    same_looked : (m : Modification) → looked_at (front ++ behind) known.act.day m ≡ looked_at front known.act.day m
    same_looked (Textual source force edit) = ap (λ b. is_some source.provision && b) (same_after source.href)
    same_looked (Force source destination on effect) = refl
    same_looked (Efficacy source destination on effect) = refl

    all_same : (texts : List WorkText) (ms : List KnownMod)
        → map (borne (front ++ behind) texts reading day known.act.day) ms ≡ map (borne front texts reading day known.act.day) ms
    all_same texts [] = refl
    all_same texts (m ∷ ms) =
        ap (λ b. (let k : KnownMod = record m { live = m.live && cond b (source_stands texts reading day (source_of m.body)) true; carried = None } in k)
        ∷ map (borne (front ++ behind) texts reading day known.act.day) ms) (same_looked m.body)
        ∙ ap (λ ks. borne front texts reading day known.act.day m ∷ ks) (all_same texts ms)

    same_text : (texts : List WorkText) → text_on (front ++ behind) reading day texts known ≡ text_on front reading day texts known
    same_text texts =
        ap (λ ms. (let text : WorkText = record {
          known = known;
          version = replay_on (let k : Known = record known { mods = ms; source_days = [] } in k) reading day;
        } in text)) (all_same texts known.mods)

  same_texts : (texts : List WorkText) (ahead works : List Known) → ahead ++ works ≡ front
      → texts_after (front ++ behind) reading day texts works ≡ texts_after front reading day texts works
  same_texts texts ahead [] is = refl
  same_texts texts ahead (known ∷ works) is =
      ap (λ (text : WorkText). texts_after (front ++ behind) reading day (texts ++ text ∷ []) works) (same_text ahead known works is texts)
      ∙ same_texts (texts ++ text_on front reading day texts known ∷ []) (ahead ++ known ∷ []) works (append_assoc ahead (known ∷ []) works ∙ is)

  then_behind : (line : List Known) (texts : List WorkText) (works : List Known)
      → texts_after line reading day texts (works ++ behind) ≡ texts_after line reading day (texts_after line reading day texts works) behind
  then_behind line texts [] = refl
  then_behind line texts (known ∷ works) = then_behind line (texts ++ text_on line reading day texts known ∷ []) works

  as_many : (line : List Known) (texts : List WorkText) (works : List Known) → length (more_texts line reading day texts works) ≡ length works
  as_many line texts [] = refl
  as_many line texts (known ∷ works) = ap suc (as_many line (texts ++ text_on line reading day texts known ∷ []) works)

  taken : (xs ys : List WorkText) → take (length xs) (xs ++ ys) ≡ xs
  taken [] ys = take_none ys
  taken (x ∷ xs) ys = ap (λ zs. x ∷ zs) (taken xs ys)

  pub nothing_behind : take (length front) (trees (front ++ behind) reading day) ≡ trees front reading day
  unfolding trees
  nothing_behind =
      ap (take (length front))
      (then_behind (front ++ behind) [] front
      ∙ ap (λ ts. texts_after (front ++ behind) reading day ts behind) (same_texts [] [] front refl)
      ∙ stand_behind (front ++ behind) reading day (texts_after front reading day [] front) behind)
      ∙ ap (λ n. take n (texts_after front reading day [] front ++ more_texts (front ++ behind) reading day (texts_after front reading day [] front) behind))
      (sym (ap length (stand_behind front reading day [] front) ∙ as_many front [] front))
      ∙ taken (texts_after front reading day [] front) (more_texts (front ++ behind) reading day (texts_after front reading day [] front) behind)
