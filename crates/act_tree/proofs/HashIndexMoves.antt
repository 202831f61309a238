-- The index of no numbers, of one number more, and of a number that has another hash.
use Rattle.std.proofs.Common.{◌≡◌, ◌∙◌, sym, ap, refl, subst, ℕ, ◌+◌, ◌<◌, ◌≤◌, ◌^◌, Option, Some, None, List, [], ◌∷◌, ◌++◌, length, get_or, set, arith}
use Rattle.std.proofs.lemmas.List.{get_or-map, map-set, map_push, length-map, length-set, length_push, get_or_push, get_or_append_left, get_or-set_same, get_or-set_other, set-set, set-get_or, get_or_read}
use Rattle.act_tree.specs.HashIndex.{latest, bucket_of, buckets, IsLinked, IsIndex, IsNext, led_by, heads_led, links_led, heads_moved, links_moved}
use Rattle.act_tree.proofs.HashIndexLatest.{latest_down, changed_to, changed_from, changed_apart}
use Rattle.act_tree.proofs.HashIndexLinks.{linked_same, linked_more, linked_led}

-- the bucket of a number is that of its hash, and one of them
pub bucket_at : (w : ℕ) (hashes : List ℕ) (k : ℕ) → k < length hashes → get_or (buckets w hashes) k 0 ≡ bucket_of w (get_or hashes k 0)
bucket_at w hashes k low = get_or-map (bucket_of w) hashes k 0 0 low

pub bucket_low : (w : ℕ) (hashes : List ℕ) (k : ℕ) → k < length hashes → 0 < w → get_or (buckets w hashes) k 0 < w
bucket_low w hashes k low some = omega (arith, bucket_at w hashes k low)

pub as_many_buckets : (w : ℕ) (hashes : List ℕ) → length (buckets w hashes) ≡ length hashes
as_many_buckets w hashes = length-map hashes (bucket_of w)

-- an index from its parts, where the buckets and the number of numbers are given in other words
index_from : (w : ℕ) (hashes heads before places : List ℕ) (n : ℕ) → IsLinked w places heads before n → places ≡ buckets w hashes → n ≡ length hashes → length before ≡ n → length heads ≡ w
    → n ≤ w → w < 2 ^ 32 → IsIndex w hashes heads before
index_from w hashes heads before places n linked are many links heads_many enough fits = record {
  linked = subst (λ (m : ℕ). IsLinked w (buckets w hashes) heads before m) many (subst (λ (xs : List ℕ). IsLinked w xs heads before n) are linked);
  as_many_links = links ∙ many;
  as_many_heads = heads_many;
  enough = omega arith;
  fits = fits;
}

pub index_none : (w : ℕ) (hashes heads before : List ℕ) → hashes ≡ [] → heads ≡ [] → before ≡ [] → w ≡ 0 → IsIndex w hashes heads before
index_none w hashes heads before no_hashes no_heads no_links none =
    let nothing : length hashes ≡ 0 = ap (λ (xs : List ℕ). length xs) no_hashes in
    record {
      linked = record {
        head = λ b low. absurd (omega arith);
        link = λ k low within. absurd (omega arith);
      };
      as_many_links = ap (λ (xs : List ℕ). length xs) no_links ∙ sym nothing;
      as_many_heads = ap (λ (xs : List ℕ). length xs) no_heads ∙ sym none;
      enough = omega arith;
      fits = omega arith;
    }

-- one number more
pub index_more : (w : ℕ) (hashes heads before : List ℕ) (hash b : ℕ) → IsIndex w hashes heads before → length hashes < w → b ≡ bucket_of w hash → b < w
    → IsIndex w (hashes ++ hash ∷ []) (set heads b (length hashes + 1)) (before ++ get_or heads b 0 ∷ [])
index_more w hashes heads before hash b index room is low =
    let n : ℕ = length hashes in
    let places : List ℕ = buckets w hashes in
    let next : List ℕ = before ++ get_or heads b 0 ∷ [] in
    let many : length places ≡ n = as_many_buckets w hashes in
    let now : places ++ b ∷ [] ≡ buckets w (hashes ++ hash ∷ []) = ap (λ (i : ℕ). places ++ i ∷ []) is ∙ sym (map_push (bucket_of w) hashes hash) in
    let grown : IsLinked w (places ++ b ∷ []) heads before n = linked_same w places (places ++ b ∷ []) heads before n (λ k less. get_or_append_left places (b ∷ []) 0 k (omega arith)) index.linked in
    let linked : IsLinked w (places ++ b ∷ []) (set heads b (n + 1)) next (n + 1) =
    linked_more w (places ++ b ∷ []) heads before next n b grown index.as_many_heads low (get_or_push places b 0 n many) (get_or_push before (get_or heads b 0) 0 n index.as_many_links)
    (λ k less. get_or_append_left before (get_or heads b 0 ∷ []) 0 k (omega (arith, index.as_many_links))) in
    index_from w (hashes ++ hash ∷ []) (set heads b (n + 1)) next (places ++ b ∷ []) (n + 1) linked now (sym (length_push hashes hash))
    (length_push before (get_or heads b 0) ∙ ap (λ (i : ℕ). i + 1) index.as_many_links) (length-set heads b (n + 1) ∙ index.as_many_heads) (omega arith) index.fits

-- another hash of the same bucket
pub index_same : (w : ℕ) (hashes heads before : List ℕ) (number hash : ℕ) → IsIndex w hashes heads before → number < length hashes → bucket_of w (get_or hashes number 0) ≡ bucket_of w hash
    → IsIndex w (set hashes number hash) heads before
index_same w hashes heads before number hash index low same =
    let places : List ℕ = buckets w hashes in
    let at : get_or places number 0 ≡ bucket_of w hash = bucket_at w hashes number low ∙ same in
    let still : set places number (bucket_of w hash) ≡ places = ap (set places number) (sym at) ∙ set-get_or places number 0 in
    index_from w (set hashes number hash) heads before places (length hashes) index.linked (sym (map-set (bucket_of w) hashes number hash ∙ still)) (sym (length-set hashes number hash))
    index.as_many_links index.as_many_heads index.enough index.fits

-- the next of a bucket that a number neither leaves nor comes to is the same
next_still : (places now : List ℕ) (number x : ℕ) → get_or now number 0 ≡ x → ((k : ℕ) → (k ≡ number → ⊥) → get_or now k 0 ≡ get_or places k 0) → (n b : ℕ)
    → (get_or places number 0 ≡ b → ⊥) → (x ≡ b → ⊥) → (next : Option ℕ) → IsNext places n b number next → IsNext now n b number next
next_still places now number x here stay n b left come None it = omega (arith, changed_apart places now number x here stay n b left come)
next_still places now number x here stay n b left come (Some k) it = (
  it.0,
  it.1,
  stay k (λ e. omega (arith, it.1)) ∙ it.2,
  omega (arith, changed_apart places now number x here stay k b left come, it.3),
)

-- what leads to a bucket from behind a number that is in none leads to the latest before it
led_is : (w : ℕ) (places heads before : List ℕ) (n number b : ℕ) → IsLinked w places heads before n → number < n → b < w → (get_or places number 0 ≡ b → ⊥)
    → (next : Option ℕ) → IsNext places n b number next → led_by next heads before b ≡ latest places number b
led_is w places heads before n number b linked within low other None it = linked.head b low ∙ latest_down places number n b within other it
led_is w places heads before n number b linked within low other (Some k) it =
    linked.link k it.0 (omega (arith, it.2)) ∙ ap (latest places k) it.2 ∙ latest_down places number k b it.1 other it.3

heads_as_many : (next : Option ℕ) (heads : List ℕ) (b v : ℕ) → length (heads_led next heads b v) ≡ length heads
heads_as_many None heads b v = length-set heads b v
heads_as_many (Some k) heads b v = refl

links_as_many : (next : Option ℕ) (before : List ℕ) (v : ℕ) → length (links_led next before v) ≡ length before
links_as_many None before v = refl
links_as_many (Some k) before v = length-set before k v

-- the number is in no bucket, and then in another one
linked_moved : (w : ℕ) (places heads before : List ℕ) (n number from to : ℕ) (out into : Option ℕ) → IsLinked w places heads before n → number < n → length places ≡ n
    → length before ≡ n → length heads ≡ w → get_or places number 0 ≡ from → from < w → to < w → (from ≡ to → ⊥) → IsNext places n from number out → IsNext places n to number into
    → IsLinked w (set places number to) (heads_moved heads before number from out to into) (links_moved heads before number from out to into) n
linked_moved w places heads before n number from to out into linked within many links heads_many was low to_low differ out_next into_next =
    let free : List ℕ = set places number w in
    let here : get_or free number 0 ≡ w = get_or-set_same places number w 0 (omega arith) in
    let stay : (k : ℕ) → (k ≡ number → ⊥) → get_or free k 0 ≡ get_or places k 0 = λ k apart. get_or-set_other places number k w 0 apart in
    let inside : get_or places number 0 < w = omega arith in
    let behind : ℕ = get_or before number 0 in
    let behind_is : behind ≡ latest places number from = linked.link number within inside ∙ ap (latest places number) was in
    let heads_out : List ℕ = heads_led out heads from behind in
    let links_out : List ℕ = links_led out before behind in
    let taken : IsLinked w free heads_out links_out n =
    linked_led w places free heads before n number w from behind here stay linked within links heads_many low (λ c below other. (λ e. other (sym e ∙ was), λ e. omega arith))
    (λ m later last. changed_from places free number w here stay m from later (λ e. omega arith) last ∙ sym behind_is) out links_out out_next (λ k apart. refl) (λ less. absurd (omega arith)) in
    let into_free : IsNext free n to number into = next_still places free number w here stay n to (λ e. differ (sym was ∙ e)) (λ e. omega arith) into into_next in
    let now : List ℕ = set free number to in
    let here_now : get_or now number 0 ≡ to = get_or-set_same free number to 0 (omega (arith, length-set places number w)) in
    let stay_now : (k : ℕ) → (k ≡ number → ⊥) → get_or now k 0 ≡ get_or free k 0 = λ k apart. get_or-set_other free number k to 0 apart in
    let below : ℕ = led_by into heads_out links_out to in
    let below_is : below ≡ latest free number to = led_is w free heads_out links_out n number to taken within to_low (λ e. omega arith) into into_free in
    let links_in : List ℕ = links_led into links_out (number + 1) in
    let links_out_many : length links_out ≡ n = links_as_many out before behind ∙ links in
    let links_in_many : length links_in ≡ n = links_as_many into links_out (number + 1) ∙ links_out_many in
    let put : IsLinked w now (heads_led into heads_out to (number + 1)) (set links_in number below) n =
    linked_led w free now heads_out links_out n number to to (number + 1) here_now stay_now taken within links_out_many (heads_as_many out heads from behind ∙ heads_many) to_low
    (λ c less other. (λ e. omega arith, λ e. other (sym e))) (λ m later last. changed_to free now number to here_now stay_now m later last) into (set links_in number below) into_free
    (λ k apart. get_or-set_other links_in number k below 0 apart) (λ less. get_or-set_same links_in number below 0 (omega arith) ∙ below_is) in
    subst (λ (xs : List ℕ). IsLinked w xs (heads_led into heads_out to (number + 1)) (set links_in number below) n) (set-set places number w to) put

-- another hash of another bucket
pub index_moved : (w : ℕ) (hashes heads before : List ℕ) (number hash from to : ℕ) (out into : Option ℕ) → IsIndex w hashes heads before → number < length hashes
    → from ≡ bucket_of w (get_or hashes number 0) → to ≡ bucket_of w hash → from < w → to < w → (from ≡ to → ⊥) → IsNext (buckets w hashes) (length hashes) from number out
    → IsNext (buckets w hashes) (length hashes) to number into
    → IsIndex w (set hashes number hash) (heads_moved heads before number from out to into) (links_moved heads before number from out to into)
index_moved w hashes heads before number hash from to out into index within from_is to_is low to_low differ out_next into_next =
    let places : List ℕ = buckets w hashes in
    let n : ℕ = length hashes in
    let behind : ℕ = get_or before number 0 in
    let heads_out : List ℕ = heads_led out heads from behind in
    let links_out : List ℕ = links_led out before behind in
    let links_in : List ℕ = links_led into links_out (number + 1) in
    let was : get_or places number 0 ≡ from = bucket_at w hashes number within ∙ sym from_is in
    let are : set places number to ≡ buckets w (set hashes number hash) = ap (set places number) to_is ∙ sym (map-set (bucket_of w) hashes number hash) in
    index_from w (set hashes number hash) (heads_moved heads before number from out to into) (links_moved heads before number from out to into) (set places number to) n
    (linked_moved w places heads before n number from to out into index.linked within (as_many_buckets w hashes) index.as_many_links index.as_many_heads was low to_low differ out_next into_next) are
    (sym (length-set hashes number hash))
    (length-set links_in number (led_by into heads_out links_out to) ∙ links_as_many into links_out (number + 1) ∙ links_as_many out before behind ∙ index.as_many_links)
    (heads_as_many into heads_out to (number + 1) ∙ heads_as_many out heads from behind ∙ index.as_many_heads) index.enough index.fits

-- what is read of a head and of a link
pub head_read : (w : ℕ) (hashes heads before : List ℕ) (b x : ℕ) → IsIndex w hashes heads before → b < w → x ≡ get_or heads b x → x ≡ latest (buckets w hashes) (length hashes) b
head_read w hashes heads before b x index low it = get_or_read heads b x (omega (arith, index.as_many_heads)) it 0 ∙ index.linked.head b low

pub link_read : (w : ℕ) (hashes heads before : List ℕ) (k x : ℕ) → IsIndex w hashes heads before → k < length hashes → x ≡ get_or before k x
    → x ≡ latest (buckets w hashes) k (get_or (buckets w hashes) k 0)
link_read w hashes heads before k x index low it =
    get_or_read before k x (omega (arith, index.as_many_links)) it 0 ∙ index.linked.link k low (bucket_low w hashes k low (omega (arith, index.enough)))

-- the same where the lists are named otherwise, as by what is lent
pub index_put : (w : ℕ) (hashes heads before lent_heads lent_links new_heads new_links : List ℕ) (number hash from to : ℕ) (out into : Option ℕ) → lent_heads ≡ heads → lent_links ≡ before
    → new_heads ≡ heads_moved lent_heads lent_links number from out to into → new_links ≡ links_moved lent_heads lent_links number from out to into → IsIndex w hashes heads before
    → number < length hashes → from ≡ bucket_of w (get_or hashes number 0) → to ≡ bucket_of w hash → from < w → to < w → (from ≡ to → ⊥)
    → IsNext (buckets w hashes) (length hashes) from number out → IsNext (buckets w hashes) (length hashes) to number into → IsIndex w (set hashes number hash) new_heads new_links
index_put w hashes heads before lent_heads lent_links new_heads new_links number hash from to out into same_heads same_links heads_are links_are index within from_is to_is low to_low differ out_next into_next =
    let moved : IsIndex w (set hashes number hash) (heads_moved heads before number from out to into) (links_moved heads before number from out to into) =
    index_moved w hashes heads before number hash from to out into index within from_is to_is low to_low differ out_next into_next in
    let heads_same : new_heads ≡ heads_moved heads before number from out to into =
    heads_are ∙ ap (λ (xs : List ℕ). heads_moved xs lent_links number from out to into) same_heads ∙ ap (λ (ys : List ℕ). heads_moved heads ys number from out to into) same_links in
    let links_same : new_links ≡ links_moved heads before number from out to into =
    links_are ∙ ap (λ (xs : List ℕ). links_moved xs lent_links number from out to into) same_heads ∙ ap (λ (ys : List ℕ). links_moved heads ys number from out to into) same_links in
    subst (λ (xs : List ℕ). IsIndex w (set hashes number hash) xs new_links) (sym heads_same)
    (subst (λ (ys : List ℕ). IsIndex w (set hashes number hash) (heads_moved heads before number from out to into) ys) (sym links_same) moved)

pub index_added : (w : ℕ) (hashes heads before new_hashes new_links : List ℕ) (hash b m last : ℕ) → IsIndex w hashes heads before → length hashes < w → b ≡ bucket_of w hash → b < w
    → m ≡ length hashes → last ≡ get_or heads b last → new_hashes ≡ hashes ++ hash ∷ [] → new_links ≡ before ++ last ∷ [] → IsIndex w new_hashes (set heads b (m + 1)) new_links
index_added w hashes heads before new_hashes new_links hash b m last index room is low many read hashes_are links_are =
    let was : last ≡ get_or heads b 0 = get_or_read heads b last (omega (arith, index.as_many_heads)) read 0 in
    let links_same : new_links ≡ before ++ get_or heads b 0 ∷ [] = links_are ∙ ap (λ (i : ℕ). before ++ i ∷ []) was in
    subst (λ (xs : List ℕ). IsIndex w xs (set heads b (m + 1)) new_links) (sym hashes_are)
    (subst (λ (ys : List ℕ). IsIndex w (hashes ++ hash ∷ []) (set heads b (m + 1)) ys) (sym links_same)
    (subst (λ (i : ℕ). IsIndex w (hashes ++ hash ∷ []) (set heads b (i + 1)) (before ++ get_or heads b 0 ∷ [])) (sym many) (index_more w hashes heads before hash b index room is low)))
