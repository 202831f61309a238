-- Each work of a line alone has its IRI.
use Rattle.std.proofs.Common.{◌≡◌, ◌∙◌, sym, ap, refl, ℕ, ◌+◌, Bool, true, false, cond, ◌||◌, List, [], ◌∷◌, length, Option, Some, None}
use Rattle.std.specs.BTreeSet.{insert_key}
use Rattle.std.specs.List.{AllByRecursion, list_any}
use Rattle.std.specs.Ordering.{match_ordering}
use Rattle.std.specs.Str.{bytes_eq}
use Rattle.std.specs.declared.cmp.Ordering.{Ordering}
use Rattle.std.specs.declared.cmp.Ordering.TheVariants.{Less, Equal, Greater}
use Rattle.law_register.specs.declared.law.act.Act.{Act}
use Rattle.law_register.specs.declared.law.command.Command.{Command}
use Rattle.law_register.specs.declared.law.command.Command.TheVariants.{Enact, Record, Correct, Withdraw, Restore, DraftAdd, DraftDrop, File}
use Rattle.law_register.specs.declared.register.known.Known.{Known}
use Rattle.law_register.specs.Answer.Previews.{known_by_law}
use Rattle.law_register.specs.Register.KnownIds.{enacted, enacted_by, enacted_from, enacted_or, known_by}
use Rattle.law_register.specs.Register.LawList.{works_enacted}
use Rattle.law_register.proofs.Puts.{bytes_are, bytes_same}
use Rattle.law_register.specs.Provisions.Line.{IsLine, line, line_cmp, line_of, with_work, work_in}
use Rattle.source_provisions.proofs.Lines.{lines_ascend}

no_act : (act : Act) (P : Type 0) → None ≡ Some act → P
no_act act P e = absurd (let wrong : None ≡ Some act = e in cc)

enacts_own : (work : List ℕ) (c : Command) (act : Act) → enacted_by work c ≡ Some act → act.work ≡ work
enacts_own work (Enact a) act e = by (bytes_eq a.work work) refl e
  where
    same : (x y : Act) → Some x ≡ Some y → x ≡ y
    same x y e = cc

    by : (b : Bool) → bytes_eq a.work work ≡ b → cond b (Some a) None ≡ Some act → act.work ≡ work
    by true is e = ap (λ (x : Act). x.work) (sym (same a act e)) ∙ bytes_same a.work work is
    by false is e = no_act act (act.work ≡ work) e
enacts_own work (Record other mods) act e = no_act act (act.work ≡ work) e
enacts_own work (Correct id body) act e = no_act act (act.work ≡ work) e
enacts_own work (Withdraw id) act e = no_act act (act.work ≡ work) e
enacts_own work (Restore id) act e = no_act act (act.work ≡ work) e
enacts_own work (DraftAdd other body) act e = no_act act (act.work ≡ work) e
enacts_own work (DraftDrop item) act e = no_act act (act.work ≡ work) e
enacts_own work (File other seen) act e = no_act act (act.work ≡ work) e

abbrev second_or : Act → Option (ℕ × Act) → Act
second_or act None = act
second_or act (Some found) = found.1

found_own : (work : List ℕ) (n : ℕ) (law : List Command) (found : ℕ × Act) → enacted_from n work law ≡ Some found → found.1.work ≡ work
found_own work n [] found e = absurd (let wrong : None ≡ Some found = e in cc)
found_own work n (c ∷ law) found e = by (enacted_by work c) refl (found_own work (n + 1) law found) e
  where
    by : (act : Option Act) → enacted_by work c ≡ act → (enacted_from (n + 1) work law ≡ Some found → found.1.work ≡ work)
        → enacted_or n act (enacted_from (n + 1) work law) ≡ Some found → found.1.work ≡ work
    by None is rest e = rest e
    by (Some act) is rest e = ap (λ (x : Act). x.work) (sym (ap (second_or act) e)) ∙ enacts_own work c act is

abbrev act_or : Act → Option Known → Act
act_or act None = act
act_or act (Some known) = known.act

pub known_own : (law : List Command) (work : List ℕ) (known : Known) → known_by_law law work ≡ Some known → known.act.work ≡ work
known_own law work known e = by (enacted work law) refl e
  where
    by : (found : Option (ℕ × Act)) → enacted work law ≡ found → known_by work (length law) (length law) law found ≡ Some known → known.act.work ≡ work
    by None is e = absurd (let wrong : None ≡ Some known = e in cc)
    by (Some found) is e = ap (λ (x : Act). x.work) (sym (ap (act_or found.1) e)) ∙ found_own work 1 law found is

inserted_all : {A : Type 0} (P : A → Type 0) (cmp : A → A → Ordering) (xs : List A) (x : A) → P x → AllByRecursion P xs → AllByRecursion P (insert_key cmp xs x)
inserted_all P cmp [] x p all = (p, tt)
inserted_all P cmp (y ∷ ys) x p all = by (cmp x y) (inserted_all P cmp ys x p all.1)
  where
    by : (r : Ordering) → AllByRecursion P (insert_key cmp ys x) → AllByRecursion P (match_ordering r (x ∷ y ∷ ys) (y ∷ ys) (y ∷ insert_key cmp ys x))
    by Less rest = (p, all)
    by Equal rest = all
    by Greater rest = (all.0, rest)

module _ (law : List Command) where
  -- a work is as the law makes it known
  abbrev pub IsKnown : Known → Type 0
  IsKnown known = known_by_law law known.act.work ≡ Some known

  with_known : (works : List Known) (work : List ℕ) (o : Option Known) → known_by_law law work ≡ o → AllByRecursion IsKnown works → AllByRecursion IsKnown (with_work works o)
  with_known works work None is all = all
  with_known works work (Some known) is all = inserted_all IsKnown line_cmp works known (ap (known_by_law law) (known_own law work known is) ∙ is) all

  pub all_known : (ws : List (List ℕ)) → AllByRecursion IsKnown (line_of law ws)
  all_known [] = tt
  all_known (w ∷ ws) = with_known (line_of law ws) w (known_by_law law w) refl (all_known ws)

  pub found_one : (works : List Known) → AllByRecursion IsKnown works → (known : Known) → IsKnown known
      → list_any (λ (k : Known). bytes_eq k.act.work known.act.work) works ≡ true → work_in known.act.work works ≡ Some known
  found_one [] all known is there = absurd (let wrong : false ≡ true = there in cc)
  found_one (k ∷ ks) all known is there = by (bytes_eq k.act.work known.act.work) refl (found_one ks all.1 known is) there
    where
      by : (b : Bool) → bytes_eq k.act.work known.act.work ≡ b
          → (list_any (λ (x : Known). bytes_eq x.act.work known.act.work) ks ≡ true → work_in known.act.work ks ≡ Some known)
          → (b || list_any (λ (x : Known). bytes_eq x.act.work known.act.work) ks) ≡ true
          → cond b (Some k) (work_in known.act.work ks) ≡ Some known
      by true same rest there = sym all.0 ∙ ap (known_by_law law) (bytes_same k.act.work known.act.work same) ∙ is
      by false other rest there = rest there

  each_own : (works ks : List Known) → AllByRecursion IsKnown works → AllByRecursion IsKnown ks
      → ((test : Known → Bool) → list_any test ks ≡ true → list_any test works ≡ true)
      → AllByRecursion (λ (k : Known). work_in k.act.work works ≡ Some k) ks
  each_own works [] all each among = tt
  each_own works (k ∷ ks) all each among = (
    found_one works all k each.0
        (among (λ (x : Known). bytes_eq x.act.work k.act.work)
        (ap (λ b. b || list_any (λ (x : Known). bytes_eq x.act.work k.act.work) ks) (bytes_are k.act.work k.act.work refl))),
    each_own works ks all each.1 (λ test there. among test (later (test k) (list_any test ks) there)),
  )
    where
      later : (b c : Bool) → c ≡ true → (b || c) ≡ true
      later true c h = refl
      later false c h = h

pub is_line : (law : List Command) → IsLine (line law)
unfolding line
is_line law = record {
  ascends = lines_ascend law;
  own = each_own law (line_of law (works_enacted law)) (line_of law (works_enacted law)) (all_known law (works_enacted law)) (all_known law (works_enacted law)) (λ test there. there);
}
