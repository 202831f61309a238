-- Heads and links: none at first, one number more, and one that comes to another bucket.
use Rattle.std.proofs.Common.{◌≡◌, ◌∙◌, sym, ap, refl, subst, ℕ, suc, ◌+◌, ◌<◌, ◌≤◌, ◌⊎◌, inl, inr, Option, Some, None, List, length, get_or, set, replicate, arith}
use Rattle.std.proofs.lemmas.Bool.{cases_eq, cases_lt, cases_order}
use Rattle.std.proofs.lemmas.List.{get_or-replicate, get_or-set_same, get_or-set_other}
use Rattle.act_tree.specs.HashIndex.{latest, IsLinked, IsNext, heads_led, links_led}
use Rattle.act_tree.proofs.HashIndexLatest.{latest_none, latest_here, latest_on, latest_reaches, latest_same, changed_before, changed_behind, changed_apart}

pub none_linked : (w : ℕ) (places heads before : List ℕ) → heads ≡ replicate w 0 → IsLinked w places heads before 0
none_linked w places heads before are = record {
  head = λ b low. ap (λ (hs : List ℕ). get_or hs b 0) are ∙ get_or-replicate w b 0 0 low ∙ sym (latest_none places b);
  link = λ k low within. absurd (omega arith);
}

-- the first numbers alone tell
pub linked_same : (w : ℕ) (places others heads before : List ℕ) (n : ℕ) → ((k : ℕ) → k < n → get_or others k 0 ≡ get_or places k 0) → IsLinked w places heads before n
    → IsLinked w others heads before n
linked_same w places others heads before n same linked = record {
  head = λ b low. linked.head b low ∙ sym (latest_same places others n b same);
  link = λ k low within.
      let at : get_or others k 0 ≡ get_or places k 0 = same k low in
      linked.link k low (omega arith) ∙ sym (latest_same places others k (get_or places k 0) (λ j less. same j (omega arith))) ∙ ap (latest others k) (sym at);
}

-- one number more, of bucket b
pub linked_more : (w : ℕ) (places heads before next : List ℕ) (n b : ℕ) → IsLinked w places heads before n → length heads ≡ w → b < w → get_or places n 0 ≡ b
    → get_or next n 0 ≡ get_or heads b 0 → ((k : ℕ) → k < n → get_or next k 0 ≡ get_or before k 0) → IsLinked w places (set heads b (n + 1)) next (n + 1)
linked_more w places heads before next n b linked long low here first others =
    let more : n + 1 ≡ suc n = omega arith in
    let inside : b < length heads = omega arith in
    record {
      head = λ c below. elim (cases_eq c b) [
        | inl same ↦
            ap (λ (i : ℕ). get_or (set heads b (n + 1)) i 0) same ∙ get_or-set_same heads b (n + 1) 0 inside ∙ more
            ∙ sym (ap (λ (m : ℕ). latest places m c) more ∙ latest_here places n c (here ∙ sym same))
        | inr other ↦
            get_or-set_other heads b c (n + 1) 0 other ∙ linked.head c below
            ∙ sym (ap (λ (m : ℕ). latest places m c) more ∙ latest_on places n c (λ e. other (sym e ∙ here)))
      ];
      link = λ k less within. elim (cases_eq k n) [
        | inl same ↦
            ap (λ (i : ℕ). get_or next i 0) same ∙ first ∙ linked.head b low ∙ ap (latest places n) (sym here) ∙ ap (λ (i : ℕ). latest places i (get_or places i 0)) (sym same)
        | inr other ↦ others k (omega arith) ∙ linked.link k (omega arith) within
      ];
    }

-- the next of a bucket is behind the number, and of the bucket
pub next_is : (places : List ℕ) (n b number k : ℕ) (next : Option ℕ) → IsNext places n b number next → next ≡ Some k
    → (k < n) × (number < k) × (get_or places k 0 ≡ b) × (latest places k b ≤ number + 1)
next_is places n b number k None it same = absurd cc
next_is places n b number k (Some j) it same =
    let equal : j ≡ k = cc in
    subst (λ (i : ℕ). (i < n) × (number < i) × (get_or places i 0 ≡ b) × (latest places i b ≤ number + 1)) equal it

-- to all others of the bucket that are behind the number leads one that is behind it
pub next_only : (places : List ℕ) (n b number k : ℕ) (next : Option ℕ) → IsNext places n b number next → k < n → number < k → get_or places k 0 ≡ b → (next ≡ Some k → ⊥)
    → number + 1 < latest places k b
next_only places n b number k None last within behind here other = absurd (omega (arith, latest_reaches places n b k within here))
next_only places n b number k (Some j) next within behind here other = elim (cases_order k j) [
  | inl same ↦ absurd (other (ap (λ (i : ℕ). Some i) (sym same)))
  | inr apart ↦ elim apart [
    | inl less ↦ absurd (omega (arith, latest_reaches places j b k less here, next.3))
    | inr more ↦ omega (arith, latest_reaches places k b j more next.2, next.1)
  ]
]

is_next : (next : Option ℕ) (k : ℕ) → (next ≡ Some k) ⊎ (next ≡ Some k → ⊥)
is_next None k = inr (λ e. cc)
is_next (Some j) k = elim (cases_eq j k) [ inl same ↦ inl (ap (λ (i : ℕ). Some i) same) | inr other ↦ inr (λ e. other cc) ]

-- What leads to bucket b behind a number leads to v. The number comes to bucket x, and other buckets stay as they are.
module _ (w : ℕ) (places now heads before : List ℕ) (n number x b v : ℕ) (here : get_or now number 0 ≡ x) (stay : (k : ℕ) → (k ≡ number → ⊥) → get_or now k 0 ≡ get_or places k 0)
    (linked : IsLinked w places heads before n) (within : number < n) (as_many_links : length before ≡ n) (as_many_heads : length heads ≡ w) (low : b < w)
    (apart : (c : ℕ) → c < w → (c ≡ b → ⊥) → (get_or places number 0 ≡ c → ⊥) × (x ≡ c → ⊥)) (becomes : (m : ℕ) → number < m → latest places m b ≤ number + 1 → latest now m b ≡ v) where
  kept : (next : Option ℕ) (k : ℕ) → (next ≡ Some k → ⊥) → get_or (links_led next before v) k 0 ≡ get_or before k 0
  kept None k other = refl
  kept (Some j) k other = get_or-set_other before j k v 0 (λ e. other (ap (λ (i : ℕ). Some i) (sym e)))

  led_on : (next : Option ℕ) (k : ℕ) → IsNext places n b number next → next ≡ Some k → get_or (links_led next before v) k 0 ≡ latest now k b
  led_on None k next it = absurd cc
  led_on (Some j) k next it =
      let same : k ≡ j = cc in
      let inside : j < length before = omega (arith, next.0) in
      ap (λ (i : ℕ). get_or (set before j v) i 0) same ∙ get_or-set_same before j v 0 inside ∙ sym (becomes j next.1 next.3) ∙ ap (λ (i : ℕ). latest now i b) (sym same)

  head_led : (next : Option ℕ) → IsNext places n b number next → (c : ℕ) → c < w → get_or (heads_led next heads b v) c 0 ≡ latest now n c
  head_led None next c below = elim (cases_eq c b) [
    | inl same ↦
        let inside : b < length heads = omega arith in
        ap (λ (i : ℕ). get_or (set heads b v) i 0) same ∙ get_or-set_same heads b v 0 inside ∙ sym (becomes n within next) ∙ ap (latest now n) (sym same)
    | inr other ↦
        get_or-set_other heads b c v 0 other ∙ linked.head c below
        ∙ sym (changed_apart places now number x here stay n c (apart c below other).0 (apart c below other).1)
  ]
  head_led (Some k) next c below = elim (cases_eq c b) [
    | inl same ↦
        let far : number + 1 < latest places n c = omega (arith, latest_reaches places n c k next.0 (next.2 ∙ sym same), next.1) in
        linked.head c below ∙ sym (changed_behind places now number x here stay n c far)
    | inr other ↦ linked.head c below ∙ sym (changed_apart places now number x here stay n c (apart c below other).0 (apart c below other).1)
  ]

  -- the latest before another number stays, where what leads there does
  still : (next : Option ℕ) → IsNext places n b number next → (k : ℕ) → k < n → (k ≡ number → ⊥) → (next ≡ Some k → ⊥) → get_or places k 0 < w
      → latest places k (get_or places k 0) ≡ latest now k (get_or places k 0)
  still next it k less other free_of inside = elim (cases_lt k number) [
    | inl before ↦ sym (changed_before places now number x here stay k (get_or places k 0) (omega arith))
    | inr behind ↦ elim (cases_eq (get_or places k 0) b) [
      | inl same ↦
          let only : number + 1 < latest places k b = next_only places n b number k next it less (omega arith) same free_of in
          let far : number + 1 < latest places k (get_or places k 0) = omega (arith, ap (latest places k) same) in
          sym (changed_behind places now number x here stay k (get_or places k 0) far)
      | inr free ↦
          let parts : (get_or places number 0 ≡ get_or places k 0 → ⊥) × (x ≡ get_or places k 0 → ⊥) = apart (get_or places k 0) inside free in
          sym (changed_apart places now number x here stay k (get_or places k 0) parts.0 parts.1)
    ]
  ]

  pub linked_led : (next : Option ℕ) (links : List ℕ) → IsNext places n b number next → ((k : ℕ) → (k ≡ number → ⊥) → get_or links k 0 ≡ get_or (links_led next before v) k 0)
      → (x < w → get_or links number 0 ≡ latest places number x) → IsLinked w now (heads_led next heads b v) links n
  linked_led next links it others own = record {
    head = head_led next it;
    link = λ k less inside. elim (cases_eq k number) [
      | inl same ↦
          let at : get_or now k 0 ≡ x = ap (λ (i : ℕ). get_or now i 0) same ∙ here in
          ap (λ (i : ℕ). get_or links i 0) same ∙ own (omega arith) ∙ sym (changed_before places now number x here stay number x (omega arith))
          ∙ ap (λ (i : ℕ). latest now i x) (sym same) ∙ ap (latest now k) (sym at)
      | inr other ↦
          let at : get_or now k 0 ≡ get_or places k 0 = stay k other in
          let low_here : get_or places k 0 < w = omega arith in
          let leads : get_or (links_led next before v) k 0 ≡ latest now k (get_or places k 0) = elim (is_next next k) [
            | inl led ↦ led_on next k it led ∙ ap (latest now k) (sym (next_is places n b number k next it led).2)
            | inr not_it ↦ kept next k not_it ∙ linked.link k less low_here ∙ still next it k less other not_it low_here
          ] in
          others k other ∙ leads ∙ ap (latest now k) (sym at)
    ];
  }
