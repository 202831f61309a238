-- Which works are kept while others are still to come.
use Rattle.std.proofs.Common.{◌≡◌, ◌∙◌, sym, ap, subst, refl, ℕ, ◌+◌, ◌⊎◌, inl, inr, ⊎_elim, Bool, true, false, cond, ◌||◌, List, [], ◌∷◌, take, Option, Some, None, IfSome, option_map}
use Rattle.std.proofs.lemmas.List.Sorted.{list_any-IsPermutation}
use Rattle.std.specs.List.{list_any}
use Rattle.std.specs.Prelude.{IsPermutation}
use Rattle.std.specs.Str.{bytes_eq}
use Rattle.law_register.specs.declared.law.act.Act.{Act}
use Rattle.law_register.specs.declared.law.command.Command.{Command}
use Rattle.law_register.specs.declared.law.command.Command.TheVariants.{Enact, Record, Correct, Withdraw, Restore, DraftAdd, DraftDrop, File}
use Rattle.law_register.specs.declared.register.entry.Entry.{Entry}
use Rattle.law_register.specs.Provisions.Carrying.{carrying, held_now}
use Rattle.law_register.specs.Provisions.Line.{line}
use Rattle.law_register.specs.Register.KnownIds.{enacted, enacted_by, enacted_from, enacted_or, known_by}
use Rattle.law_register.specs.Register.LawList.{front, laws, works_enacted}
use Rattle.law_register.proofs.Next.{now_known}
use Rattle.law_register.proofs.Puts.{bytes_either, bytes_same}
use Rattle.version_cache.specs.Works.{IsForIf, WorkValue}
use Rattle.law_office.specs.Tables.{AddsWork, Kept, Matches, with_enacted}

-- what is kept is right, and a work that is known and not kept is still to come
pub record AreSoFar (es : List Entry) (kept : Kept) (rest : List (List ℕ)) : Type 0 where
  pub right : (w : List ℕ) → IfSome (kept w) (IsForIf (held_now es w))
  pub left : (w : List ℕ) → kept w ≡ None → (held_now es w ≡ None) ⊎ (list_any (bytes_eq w) rest ≡ true)

or_left : (a b : Bool) → a ≡ true → (a || b) ≡ true
or_left true b h = refl
or_left false b h = absurd (let no : false ≡ true = h in cc)

or_right : (a b : Bool) → b ≡ true → (a || b) ≡ true
or_right true b h = refl
or_right false b h = h

-- a work that a law entry enacts is one of those that law entries enact
enacted_in : (n : ℕ) (w : List ℕ) (ls : List Command) (f : ℕ × Act) → enacted_from n w ls ≡ Some f → list_any (bytes_eq w) (works_enacted ls) ≡ true
enacted_in n w [] f is = absurd (let no : None ≡ Some f = is in cc)
enacted_in n w (l ∷ ls) f is = by l is (enacted_in (n + 1) w ls f)
  where
    first : (act : Act) (b : Bool) → bytes_eq act.work w ≡ b → enacted_or n (cond b (Some act) None) (enacted_from (n + 1) w ls) ≡ Some f
        → (enacted_from (n + 1) w ls ≡ Some f → list_any (bytes_eq w) (works_enacted ls) ≡ true)
        → (bytes_eq w act.work || list_any (bytes_eq w) (works_enacted ls)) ≡ true
    first act true same is rest = or_left (bytes_eq w act.work) (list_any (bytes_eq w) (works_enacted ls)) (bytes_either w act.work ∙ same)
    first act false other is rest = or_right (bytes_eq w act.work) (list_any (bytes_eq w) (works_enacted ls)) (rest is)

    by : (l : Command) → enacted_or n (enacted_by w l) (enacted_from (n + 1) w ls) ≡ Some f
        → (enacted_from (n + 1) w ls ≡ Some f → list_any (bytes_eq w) (works_enacted ls) ≡ true) → list_any (bytes_eq w) (works_enacted (l ∷ ls)) ≡ true
    by (Enact act) is rest = first act (bytes_eq act.work w) refl is rest
    by (Record work mods) is rest = rest is
    by (Correct id body) is rest = rest is
    by (Withdraw id) is rest = rest is
    by (Restore id) is rest = rest is
    by (DraftAdd work body) is rest = rest is
    by (DraftDrop item) is rest = rest is
    by (File work seen) is rest = rest is

held_enacted : (es : List Entry) (w : List ℕ) → (held_now es w ≡ None) ⊎ (list_any (bytes_eq w) (works_enacted (laws es)) ≡ true)
held_enacted es w = by (enacted w (laws es)) refl
  where
    by : (found : Option (ℕ × Act)) → enacted w (laws es) ≡ found → (held_now es w ≡ None) ⊎ (list_any (bytes_eq w) (works_enacted (laws es)) ≡ true)
    by None is =
        inl (ap (option_map (carrying (line (take (front es) (laws es))))) (now_known es w ∙ ap (known_by w (front es) (front es) (laws es)) is))
    by (Some f) is = inr (enacted_in 1 w (laws es) f is)

-- nothing is kept, and all are to come
pub none_so_far : (es : List Entry) (kept : Kept) (works : List (List ℕ)) → ((w : List ℕ) → kept w ≡ None) → IsPermutation (works_enacted (laws es)) works
    → AreSoFar es kept works
none_so_far es kept works none all = record {
  right = λ w. subst (λ (k : Option WorkValue). IfSome k (IsForIf (held_now es w))) (sym (none w)) tt;
  left = λ w is. ⊎_elim (λ unknown. inl unknown)
      (λ named. inr (sym (list_any-IsPermutation (bytes_eq w) (works_enacted (laws es)) works all) ∙ named)) (held_enacted es w);
}

-- one of them is kept, if it is known
module _ (es : List Entry) (kept new : Kept) (work : List ℕ) (rest : List (List ℕ)) (so : AreSoFar es kept (work ∷ rest)) where
  abbrev IsLeft : List ℕ → Type 0
  IsLeft w = (held_now es w ≡ None) ⊎ (list_any (bytes_eq w) rest ≡ true)

  passes : (w : List ℕ) (b : Bool) → bytes_eq w work ≡ b → (b ≡ true → held_now es w ≡ None) → (b || list_any (bytes_eq w) rest) ≡ true → IsLeft w
  passes w true is unknown any = inl (unknown refl)
  passes w false is unknown any = inr any

  left_of : (w : List ℕ) → (bytes_eq w work ≡ true → held_now es w ≡ None) → kept w ≡ None → IsLeft w
  left_of w unknown none = ⊎_elim (λ u. inl u) (λ any. passes w (bytes_eq w work) refl unknown any) (so.left w none)

  abbrev Both : List ℕ → Type 0
  Both w = IfSome (new w) (IsForIf (held_now es w)) × (new w ≡ None → IsLeft w)

  same_there : (w : List ℕ) → new w ≡ kept w → (bytes_eq w work ≡ true → held_now es w ≡ None) → Both w
  same_there w is unknown =
      (subst (λ (k : Option WorkValue). IfSome k (IsForIf (held_now es w))) (sym is) (so.right w), λ none. left_of w unknown (sym is ∙ none))

  one : (made : Option WorkValue) → Matches (held_now es work) made → (w : List ℕ) → new w ≡ with_enacted (option_map (λ m. (work, m)) made) w (kept w) → Both w
  one None unknown w is = same_there w is (λ same. ap (held_now es) (bytes_same w work same) ∙ unknown)
  one (Some m) for w is = by (bytes_eq work w) refl is
    where
      by : (b : Bool) → bytes_eq work w ≡ b → new w ≡ cond b (Some m) (kept w) → Both w
      by true same is = (
        subst (λ (k : Option WorkValue). IfSome k (IsForIf (held_now es w))) (sym is)
            (subst (λ (x : List ℕ). IsForIf (held_now es x) m) (bytes_same work w same) for),
        λ none. absurd (let no : Some m ≡ None = sym is ∙ none in cc),
      )
      by false other is = same_there w is (λ same. absurd (let no : true ≡ false = sym same ∙ bytes_either w work ∙ other in cc))

  pub one_more : AddsWork (held_now es work) work kept new → AreSoFar es new rest
  one_more adds = record {
    right = λ w. (one adds.made adds.matches w (adds.kept w)).0;
    left = λ w. (one adds.made adds.matches w (adds.kept w)).1;
  }
