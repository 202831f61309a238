-- A line has each work that the law makes known, as it makes it known, and no other.
use Rattle.std.proofs.Common.{◌≡◌, ◌∙◌, sym, ap, ap₂, refl, subst, ℕ, ◌+◌, Bool, true, false, cond, ◌||◌, List, [], ◌∷◌, length, map, Option, Some, None}
use Rattle.std.proofs.lemmas.Cmp.{ranked}
use Rattle.std.specs.Cmp.Lexicographic.{slice_cmp}
use Rattle.std.specs.List.{AllByRecursion, list_any}
use Rattle.std.specs.Ordering.{nat_cmp}
use Rattle.std.specs.Str.{bytes_eq}
use Rattle.std.specs.declared.cmp.Ordering.TheVariants.{Less, Equal, Greater}
use Rattle.law_register.specs.declared.law.act.Act.{Act}
use Rattle.law_register.specs.declared.law.command.Command.{Command}
use Rattle.law_register.specs.declared.law.command.Command.TheVariants.{Enact, Record, Correct, Withdraw, Restore, DraftAdd, DraftDrop, File}
use Rattle.law_register.specs.declared.register.known.Known.{Known}
use Rattle.law_register.specs.Answer.Previews.{known_by_law}
use Rattle.law_register.specs.Register.KnownIds.{enacted, enacted_from, enacted_or, known_by}
use Rattle.law_register.specs.Register.LawList.{acts_of, works_enacted}
use Rattle.law_register.proofs.InsertedKeys.{inserted_any}
use Rattle.law_register.proofs.Puts.{bytes_are, bytes_same}
use Rattle.law_register.specs.Provisions.Line.{line, line_cmp, line_of, with_work, work_in}
use Rattle.source_provisions.proofs.LeftOut.{first_equal, last_equal}
use Rattle.source_provisions.proofs.Own.{IsKnown, all_known, found_one, known_own}

texts_equal : (a b : List ℕ) → slice_cmp nat_cmp a b ≡ Equal → a ≡ b
texts_equal [] [] h = refl
texts_equal [] (y ∷ ys) h = absurd (let wrong : Less ≡ Equal = h in cc)
texts_equal (x ∷ xs) [] h = absurd (let wrong : Greater ≡ Equal = h in cc)
texts_equal (x ∷ xs) (y ∷ ys) h =
    let first : x ≡ y = ranked x y Equal (sym (first_equal (nat_cmp x y) (slice_cmp nat_cmp xs ys) h)) in
    ap₂ (λ z zs. z ∷ zs) first (texts_equal xs ys (last_equal (nat_cmp x y) (slice_cmp nat_cmp xs ys) h))

module _ (law : List Command) (w : List ℕ) where
  abbrev IsIt : Known → Bool
  IsIt k = bytes_eq k.act.work w

  alike : (x y : Known) → line_cmp x y ≡ Equal → IsIt x ≡ IsIt y
  alike x y h =
      ap (λ v. bytes_eq v w)
      (texts_equal x.act.work y.act.work (last_equal (nat_cmp y.act.day x.act.day) (slice_cmp nat_cmp x.act.work y.act.work) h))

  with_any : (works : List Known) (known : Known) → list_any IsIt (with_work works (Some known)) ≡ (IsIt known || list_any IsIt works)
  with_any works known = inserted_any line_cmp IsIt alike works known

  or_true : (b c : Bool) → c ≡ true → (b || c) ≡ true
  or_true true c h = refl
  or_true false c h = h

  still_any : (works : List Known) (o : Option Known) → list_any IsIt works ≡ true → list_any IsIt (with_work works o) ≡ true
  still_any works None h = h
  still_any works (Some known) h = with_any works known ∙ or_true (IsIt known) (list_any IsIt works) h

  it_any : (works : List Known) (o : Option Known) (known : Known) → o ≡ Some known → IsIt known ≡ true → list_any IsIt (with_work works o) ≡ true
  it_any works o known is it = ap (λ p. list_any IsIt (with_work works p)) is ∙ with_any works known ∙ ap (λ b. b || list_any IsIt works) it

  in_line : (known : Known) → known_by_law law w ≡ Some known → (ws : List (List ℕ)) → list_any (λ v. bytes_eq v w) ws ≡ true → list_any IsIt (line_of law ws) ≡ true
  in_line known is [] h = absurd (let wrong : false ≡ true = h in cc)
  in_line known is (v ∷ ws) h = by (bytes_eq v w) refl (in_line known is ws) h
    where
      by : (b : Bool) → bytes_eq v w ≡ b → (list_any (λ x. bytes_eq x w) ws ≡ true → list_any IsIt (line_of law ws) ≡ true)
          → (b || list_any (λ x. bytes_eq x w) ws) ≡ true → list_any IsIt (with_work (line_of law ws) (known_by_law law v)) ≡ true
      by true same rest h =
          it_any (line_of law ws) (known_by_law law v) known (ap (known_by_law law) (bytes_same v w same) ∙ is) (bytes_are known.act.work w (known_own law w known is))
      by false other rest h = still_any (line_of law ws) (known_by_law law v) (rest h)

  enacted_listed : (n : ℕ) (ls : List Command) (found : ℕ × Act) → enacted_from n w ls ≡ Some found → list_any (λ v. bytes_eq v w) (map (λ (a : Act). a.work) (acts_of ls)) ≡ true
  enacted_listed n [] found e = absurd (let wrong : None ≡ Some found = e in cc)
  enacted_listed n (Enact act ∷ ls) found e = by (bytes_eq act.work w) (enacted_listed (n + 1) ls found) e
    where
      by : (b : Bool) → (enacted_from (n + 1) w ls ≡ Some found → list_any (λ v. bytes_eq v w) (map (λ (a : Act). a.work) (acts_of ls)) ≡ true)
          → enacted_or n (cond b (Some act) None) (enacted_from (n + 1) w ls) ≡ Some found
          → (b || list_any (λ v. bytes_eq v w) (map (λ (a : Act). a.work) (acts_of ls))) ≡ true
      by true rest e = refl
      by false rest e = rest e
  enacted_listed n (Record other mods ∷ ls) found e = enacted_listed (n + 1) ls found e
  enacted_listed n (Correct id body ∷ ls) found e = enacted_listed (n + 1) ls found e
  enacted_listed n (Withdraw id ∷ ls) found e = enacted_listed (n + 1) ls found e
  enacted_listed n (Restore id ∷ ls) found e = enacted_listed (n + 1) ls found e
  enacted_listed n (DraftAdd other body ∷ ls) found e = enacted_listed (n + 1) ls found e
  enacted_listed n (DraftDrop item ∷ ls) found e = enacted_listed (n + 1) ls found e
  enacted_listed n (File other seen ∷ ls) found e = enacted_listed (n + 1) ls found e

  known_listed : (known : Known) → known_by_law law w ≡ Some known → list_any (λ v. bytes_eq v w) (works_enacted law) ≡ true
  known_listed known is = by (enacted w law) refl is
    where
      by : (found : Option (ℕ × Act)) → enacted w law ≡ found → known_by w (length law) (length law) law found ≡ Some known
          → list_any (λ v. bytes_eq v w) (works_enacted law) ≡ true
      by None e is = absurd (let wrong : None ≡ Some known = is in cc)
      by (Some found) e is = enacted_listed 1 law found e

  pub line_has : (known : Known) → known_by_law law w ≡ Some known → work_in w (line law) ≡ Some known
  unfolding line
  line_has known is =
      let own : known.act.work ≡ w = known_own law w known is in
      subst (λ v. work_in v (line_of law (works_enacted law)) ≡ Some known) own
      (found_one law (line_of law (works_enacted law)) (all_known law (works_enacted law)) known (ap (known_by_law law) own ∙ is)
      (ap (λ v. list_any (λ (k : Known). bytes_eq k.act.work v) (line_of law (works_enacted law))) own ∙ in_line known is (works_enacted law) (known_listed known is)))

  found_known : (works : List Known) (known : Known) → AllByRecursion (IsKnown law) works → work_in w works ≡ Some known → known_by_law law w ≡ Some known
  found_known [] known all h = absurd (let wrong : None ≡ Some known = h in cc)
  found_known (k ∷ ks) known all h = by (bytes_eq k.act.work w) refl (found_known ks known all.1) h
    where
      by : (b : Bool) → bytes_eq k.act.work w ≡ b → (work_in w ks ≡ Some known → known_by_law law w ≡ Some known) → cond b (Some k) (work_in w ks) ≡ Some known
          → known_by_law law w ≡ Some known
      by true same rest h = sym (ap (known_by_law law) (bytes_same k.act.work w same)) ∙ all.0 ∙ h
      by false other rest h = rest h

  pub line_known : (known : Known) → work_in w (line law) ≡ Some known → known_by_law law w ≡ Some known
  unfolding line
  line_known known h = found_known (line_of law (works_enacted law)) known (all_known law (works_enacted law)) h
