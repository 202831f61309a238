-- What is kept once a table is the latest.
use Rattle.std.proofs.Common.{◌≡◌, ◌∙◌, sym, ap, subst, ℕ, suc, ◌-◌, ◌≤◌, ◌⊎◌, inl, inr, Bool, true, false, cond, ◌&&◌, ◌==◌, List, [], ◌∷◌, length, take, slice_get, Contains, Option, Some, None, refl}
use Rattle.std.proofs.lemmas.Bool.Decides.{Decides-eqb}
use Rattle.std.proofs.lemmas.List.{length-map, take_all, take-map}
use Rattle.std.proofs.lemmas.Slice.Eq.{bytes_eq-Decides}
use Rattle.std.specs.Map.{keys_of, lookup, lookup_entry, remove_entry}
use Rattle.std.specs.Option.{option_map_or}
use Rattle.std.specs.Str.{bytes_eq}
use Rattle.lru.proofs.CallerLemmas.{Contains-promoted, Contains-put_entries, IsPut}
use Rattle.lru.specs.LruCache.{LruCache, promoted, put_entries}
use Rattle.law_register.specs.Answer.PastKeys.{is_same_reading, is_same_key, others, keys_after}
use Rattle.viewpoints.specs.Right.{IsLatest}
use Rattle.law_register.specs.declared.answer.past_key.PastKey.{PastKey}
use Rattle.viewpoints.specs.declared.past_tables.PastTable.{PastTable}
use Rattle.law_register.specs.declared.answer.question.Reading.{Reading}
use Rattle.law_register.specs.declared.answer.question.Reading.TheVariants.{Force, Efficacy}

reading_same : (a b : Reading) → is_same_reading a b ≡ true → a ≡ b
reading_same Force Force h = refl
reading_same Efficacy Efficacy h = refl
reading_same Force Efficacy h = absurd (let no : false ≡ true = h in cc)
reading_same Efficacy Force h = absurd (let no : false ≡ true = h in cc)

left : (a b : Bool) → (a && b) ≡ true → a ≡ true
left true b h = refl
left false b h = h

right : (a b : Bool) → (a && b) ≡ true → b ≡ true
right true b h = h
right false b h = absurd (let no : false ≡ true = h in cc)

abbrev made : List ℕ → ℕ → Reading → PastKey
made work viewpoint reading = record { work = work; viewpoint = viewpoint; reading = reading }

made_same : (w x : List ℕ) → w ≡ x → (m n : ℕ) → m ≡ n → (r q : Reading) → r ≡ q → made w m r ≡ made x n q
made_same w x work m n viewpoint r q reading = cc

-- keys that are told to be the same are equal
pub key_same : (a b : PastKey) → is_same_key a b ≡ true → a ≡ b
key_same a b h =
    let named : (bytes_eq a.work b.work && (a.viewpoint == b.viewpoint)) ≡ true = left (bytes_eq a.work b.work && (a.viewpoint == b.viewpoint)) (is_same_reading a.reading b.reading) h in
    let work : a.work ≡ b.work = (bytes_eq-Decides a.work b.work).0 (left (bytes_eq a.work b.work) (a.viewpoint == b.viewpoint) named) in
    let viewpoint : a.viewpoint ≡ b.viewpoint = (Decides-eqb a.viewpoint b.viewpoint).0 (right (bytes_eq a.work b.work) (a.viewpoint == b.viewpoint) named) in
    let reading : a.reading ≡ b.reading = reading_same a.reading b.reading (right (bytes_eq a.work b.work && (a.viewpoint == b.viewpoint)) (is_same_reading a.reading b.reading) h) in
    made_same a.work b.work work a.viewpoint b.viewpoint viewpoint a.reading b.reading reading

pair_same : {A B : Type 0} (e : A × B) (a : A) (b : B) → e.0 ≡ a → e.1 ≡ b → e ≡ (a, b)
pair_same (x, y) a b first second = cc

abbrev Entry : Type 0 → Type 0
Entry T = PastKey × PastTable T

module _ {T : Type 0} (key : PastKey) where
  keys_without : (es : List (Entry T)) → keys_of (remove_entry (is_same_key key) es) ≡ others key (keys_of es)
  keys_without [] = refl
  keys_without (e ∷ es) = by (is_same_key key e.0) (keys_without es)
    where
      by : (b : Bool) → keys_of (remove_entry (is_same_key key) es) ≡ others key (keys_of es)
          → keys_of (cond b es (e ∷ remove_entry (is_same_key key) es)) ≡ cond b (keys_of es) (e.0 ∷ others key (keys_of es))
      by true below = refl
      by false below = ap (λ ks. e.0 ∷ ks) below

  -- a look-up finds the key itself
  pub found_entry : (es : List (Entry T)) (kept : PastTable T) → lookup (is_same_key key) es ≡ Some kept → lookup_entry (is_same_key key) es ≡ Some (key, kept)
  found_entry [] kept h = absurd (let no : None ≡ Some kept = h in cc)
  found_entry (e ∷ es) kept h = by (is_same_key key e.0) refl h (found_entry es kept)
    where
      by : (b : Bool) → is_same_key key e.0 ≡ b → cond b (Some e.1) (lookup (is_same_key key) es) ≡ Some kept
          → (lookup (is_same_key key) es ≡ Some kept → lookup_entry (is_same_key key) es ≡ Some (key, kept))
          → cond b (Some e) (lookup_entry (is_same_key key) es) ≡ Some (key, kept)
      by true is same below =
          let value : e.1 ≡ kept = cc in
          ap Some (pair_same e key kept (sym (key_same key e.0 is)) value)
      by false is rest below = below rest

  -- the others are one less
  one_less : (es : List (Entry T)) (kept : PastTable T) → lookup (is_same_key key) es ≡ Some kept → suc (length (others key (keys_of es))) ≡ length es
  one_less [] kept h = absurd (let no : None ≡ Some kept = h in cc)
  one_less (e ∷ es) kept h = by (is_same_key key e.0) h (one_less es kept)
    where
      by : (b : Bool) → cond b (Some e.1) (lookup (is_same_key key) es) ≡ Some kept
          → (lookup (is_same_key key) es ≡ Some kept → suc (length (others key (keys_of es))) ≡ length es)
          → suc (length (cond b (keys_of es) (e.0 ∷ others key (keys_of es)))) ≡ suc (length es)
      by true same below = ap suc (length-map es (λ (e : Entry T). e.0))
      by false rest below = ap suc (below rest)

  -- where a look-up finds none, the key is none of the others
  none_entry : (es : List (Entry T)) → lookup (is_same_key key) es ≡ None → (lookup_entry (is_same_key key) es ≡ None) × (others key (keys_of es) ≡ keys_of es)
  none_entry [] h = (refl, refl)
  none_entry (e ∷ es) h = by (is_same_key key e.0) h (none_entry es)
    where
      by : (b : Bool) → cond b (Some e.1) (lookup (is_same_key key) es) ≡ None
          → (lookup (is_same_key key) es ≡ None → (lookup_entry (is_same_key key) es ≡ None) × (others key (keys_of es) ≡ keys_of es))
          → (cond b (Some e) (lookup_entry (is_same_key key) es) ≡ None) × (cond b (keys_of es) (e.0 ∷ others key (keys_of es)) ≡ e.0 ∷ keys_of es)
      by true some below = absurd (let no : Some e.1 ≡ None = some in cc)
      by false rest below = ((below rest).0, ap (λ ks. e.0 ∷ ks) (below rest).1)

  module _ (kept : PastTable T) (es : List (Entry T)) (few : length es ≤ 16) where
    moved_keys : lookup (is_same_key key) es ≡ Some kept → key ∷ keys_of (remove_entry (is_same_key key) es) ≡ keys_after key (keys_of es)
    moved_keys h =
        ap (λ ks. key ∷ ks) (keys_without es)
        ∙ sym (take_all 16 (key ∷ others key (keys_of es)) (subst (λ n. n ≤ 16) (sym (one_less es kept h)) few))

    promoted_is : lookup (is_same_key key) es ≡ Some kept → promoted (is_same_key key) es ≡ (key, kept) ∷ remove_entry (is_same_key key) es
    promoted_is h = ap (λ o. option_map_or (λ (e : Entry T). e ∷ remove_entry (is_same_key key) es) o es) (found_entry es kept h)

    -- promoting the key makes what is kept under it the latest
    pub promoted_is_latest : (new : List (Entry T)) → new ≡ promoted (is_same_key key) es → lookup (is_same_key key) es ≡ Some kept → IsLatest key kept es new
    promoted_is_latest new is h = record {
      first = ap (λ es. slice_get es 0) (is ∙ promoted_is h);
      keys = ap keys_of (is ∙ promoted_is h) ∙ moved_keys h;
      others = λ e c. inl (Contains-promoted (is_same_key key) es e (subst (λ l. Contains l e) is c));
    }

  module _ (kept : PastTable T) (cache : LruCache PastKey (PastTable T)) (most : cache.cap ≡ 16) (few : length cache.entries ≤ 16) where
    put_is : (found : Option (PastTable T)) → lookup (is_same_key key) cache.entries ≡ found
        → (slice_get (put_entries is_same_key cache key kept) 0 ≡ Some (key, kept)) × (keys_of (put_entries is_same_key cache key kept) ≡ keys_after key (keys_of cache.entries))
    put_is (Some old) h =
        let is : put_entries is_same_key cache key kept ≡ (key, kept) ∷ remove_entry (is_same_key key) cache.entries =
        ap (λ o. option_map_or (λ (e : Entry T). (e.0, kept) ∷ remove_entry (is_same_key key) cache.entries) o ((key, kept) ∷ take (cache.cap - 1) cache.entries)) (found_entry cache.entries old h) in
        (ap (λ es. slice_get es 0) is, ap keys_of is ∙ moved_keys old cache.entries few h)
    put_is None h =
        let is : put_entries is_same_key cache key kept ≡ (key, kept) ∷ take (cache.cap - 1) cache.entries =
        ap (λ o. option_map_or (λ (e : Entry T). (e.0, kept) ∷ remove_entry (is_same_key key) cache.entries) o ((key, kept) ∷ take (cache.cap - 1) cache.entries)) (none_entry cache.entries h).0 in (
          ap (λ es. slice_get es 0) is,
          ap keys_of is ∙ ap (λ n. key ∷ keys_of (take (n - 1) cache.entries)) most
              ∙ ap (λ ks. key ∷ ks) (sym (take-map (λ (e : Entry T). e.0) 15 cache.entries))
              ∙ ap (λ ks. key ∷ take 15 ks) (sym (none_entry cache.entries h).1),
        )

    put_other : (e : Entry T) → IsPut is_same_key cache key kept e → e ≡ (key, kept)
    put_other e (same, inl name) = pair_same e key kept name same
    put_other e (same, inr (old, _, equal)) = pair_same e key kept (sym (key_same key e.0 equal)) same

    put_came : (e : Entry T) → Contains cache.entries e ⊎ IsPut is_same_key cache key kept e → Contains cache.entries e ⊎ (e ≡ (key, kept))
    put_came e (inl was) = inl was
    put_came e (inr put) = inr (put_other e put)

    -- putting a table makes it the latest
    pub put_is_latest : (new : List (Entry T)) → new ≡ put_entries is_same_key cache key kept → IsLatest key kept cache.entries new
    put_is_latest new is =
        let put = put_is (lookup (is_same_key key) cache.entries) refl in record {
          first = ap (λ es. slice_get es 0) is ∙ put.0;
          keys = ap keys_of is ∙ put.1;
          others = λ e c. put_came e (Contains-put_entries is_same_key cache key kept e (subst (λ l. Contains l e) is c));
        }
