-- A look-up by a test, once a key was put, and look-ups by tests that agree.
use Rattle.std.proofs.Common.{◌≡◌, ◌∙◌, sym, ap, ℕ, ◌==◌, Bool, true, false, cond, ◌&&◌, List, [], ◌∷◌, Option, Some, is_some, Result, Ok, Err, IsOk, OnOk, refl, arith}
use Rattle.std.proofs.lemmas.Bool.Decides.{nat_tests}
use Rattle.std.specs.Str.{bytes_eq}
use Rattle.std.specs.Map.{lookup, set_value}
use Rattle.indexmap.specs.IndexMap.{insert_entry}
use Rattle.std.proofs.lemmas.Slice.Eq.{bytes_eq-Decides}
use Rattle.desk_base.specs.declared.id.Id.{Id}
use Rattle.law_register.specs.Answer.Counted.{is_same_id}
use Rattle.law_register.specs.Register.Indexes.{is_request}
use Rattle.law_register.specs.declared.register.indexes.RequestKey.{RequestKey}

-- an equal key passes the test where the other does, and two that pass it are equal
pub record Tells {K : Type 0} (eq : K → K → Bool) (test : K → Bool) (key : K) : Type 0 where
  pub same : (k : K) → eq key k ≡ true → test k ≡ test key
  pub one : (k : K) → test key ≡ true → test k ≡ true → eq key k ≡ true

module _ {K X : Type 0} (eq : K → K → Bool) (test : K → Bool) (key : K) (v : X) where
  replaced : (b c : Bool) (x : X) (o : Option X) → c ≡ b → cond c (Some v) o ≡ cond b (Some v) (cond c (Some x) o)
  replaced true true x o e = refl
  replaced false false x o e = refl
  replaced true false x o e = absurd (let no : false ≡ true = e in cc)
  replaced false true x o e = absurd (let no : true ≡ false = e in cc)

  passed : (b c : Bool) (x : X) (o : Option X) → (b ≡ true → c ≡ true → ⊥) → cond c (Some x) (cond b (Some v) o) ≡ cond b (Some v) (cond c (Some x) o)
  passed true true x o not_both = absurd (not_both refl refl)
  passed true false x o not_both = refl
  passed false c x o not_both = refl

  put_front : Tells eq test key → (e : K × X) (es : List (K × X)) (b : Bool) → eq key e.0 ≡ b
      → lookup test (insert_entry eq es key v) ≡ cond (test key) (Some v) (lookup test es)
      → lookup test (cond b ((e.0, v) ∷ es) (e ∷ insert_entry eq es key v)) ≡ cond (test key) (Some v) (cond (test e.0) (Some e.1) (lookup test es))
  put_front tells e es true is rest = replaced (test key) (test e.0) e.1 (lookup test es) (tells.same e.0 is)
  put_front tells e es false is rest =
      ap (λ o. cond (test e.0) (Some e.1) o) rest
      ∙ passed (test key) (test e.0) e.1 (lookup test es) (λ here there. let no : true ≡ false = sym (tells.one e.0 here there) ∙ is in cc)

  pub put : Tells eq test key → (es : List (K × X)) → lookup test (insert_entry eq es key v) ≡ cond (test key) (Some v) (lookup test es)
  put tells [] = refl
  put tells (e ∷ es) = put_front tells e es (eq key e.0) refl (put tells es)

-- two texts are compared either way
pub bytes_same : (a b : List ℕ) → bytes_eq a b ≡ true → a ≡ b
bytes_same a b h = (bytes_eq-Decides a b).0 h

pub bytes_are : (a b : List ℕ) → a ≡ b → bytes_eq a b ≡ true
bytes_are a b e = (bytes_eq-Decides a b).1 e

both : (a b : Bool) → (a ≡ true → b ≡ true) → (b ≡ true → a ≡ true) → a ≡ b
both true true f g = refl
both false false f g = refl
both true false f g = sym (f refl)
both false true f g = g refl

pub bytes_either : (a b : List ℕ) → bytes_eq a b ≡ bytes_eq b a
bytes_either a b = both (bytes_eq a b) (bytes_eq b a) (λ h. bytes_are b a (sym (bytes_same a b h))) (λ h. bytes_are a b (sym (bytes_same b a h)))

-- a text is told by its bytes
pub text_tells : {K : Type 0} (bytes : K → List ℕ) (w : List ℕ) (key : K) → Tells (λ x y. bytes_eq (bytes x) (bytes y)) (λ k. bytes_eq w (bytes k)) key
text_tells bytes w key = record {
  same = λ k h. ap (bytes_eq w) (sym (bytes_same (bytes key) (bytes k) h));
  one = λ k here there. bytes_are (bytes key) (bytes k) (sym (bytes_same w (bytes key) here) ∙ bytes_same w (bytes k) there);
}

-- two numbers, and two ids
pub number_same : (a b : ℕ) → (a == b) ≡ true → a ≡ b
number_same a b h = grind (arith, nat_tests)

pub number_is : (a b : ℕ) → a ≡ b → (a == b) ≡ true
number_is a b e = grind (arith, nat_tests)

pub number_either : (a b : ℕ) → (a == b) ≡ (b == a)
number_either a b = both (a == b) (b == a) (λ h. number_is b a (sym (number_same a b h))) (λ h. number_is a b (sym (number_same b a h)))

pub left_true : (a b : Bool) → (a && b) ≡ true → a ≡ true
left_true true b h = refl
left_true false b h = h

pub right_true : (a b : Bool) → (a && b) ≡ true → b ≡ true
right_true true b h = h
right_true false b h = absurd (let no : false ≡ true = h in cc)

pub and_true : (a b : Bool) → a ≡ true → b ≡ true → (a && b) ≡ true
and_true true b h i = i
and_true false b h i = h

abbrev id_with : ℕ → ℕ → Id
id_with law item = record { law = law; item = item }

pub id_same : (a b : Id) → is_same_id a b ≡ true → a ≡ b
id_same a b h =
    let law : a.law ≡ b.law = number_same a.law b.law (left_true (a.law == b.law) (a.item == b.item) h) in
    let item : a.item ≡ b.item = number_same a.item b.item (right_true (a.law == b.law) (a.item == b.item) h) in
    ap (λ n. id_with n a.item) law ∙ ap (λ n. id_with b.law n) item

pub id_itself : (a : Id) → is_same_id a a ≡ true
id_itself a = and_true (a.law == a.law) (a.item == a.item) (number_is a.law a.law refl) (number_is a.item a.item refl)

pub id_is : (a b : Id) → a ≡ b → is_same_id a b ≡ true
id_is a b e = ap (is_same_id a) (sym e) ∙ id_itself a

pub id_either : (a b : Id) → is_same_id a b ≡ is_same_id b a
id_either a b = both (is_same_id a b) (is_same_id b a) (λ h. id_is b a (sym (id_same a b h))) (λ h. id_is a b (sym (id_same b a h)))

pub id_tells : (i key : Id) → Tells is_same_id (is_same_id i) key
id_tells i key = record {
  same = λ k h. ap (is_same_id i) (sym (id_same key k h));
  one = λ k here there. id_is key k (sym (id_same i key here) ∙ id_same i k there);
}

-- a request is told by its drafter and its number
abbrev pub request_eq : RequestKey → RequestKey → Bool
request_eq a b = bytes_eq a.drafter.items b.drafter.items && (a.request == b.request)

pub request_tells : (d : List ℕ) (r : ℕ) (key : RequestKey) → Tells request_eq (is_request d r) key
request_tells d r key = record {
  same = λ k h.
      let drafter : key.drafter.items ≡ k.drafter.items = bytes_same key.drafter.items k.drafter.items (left_true (bytes_eq key.drafter.items k.drafter.items) (key.request == k.request) h) in
      let request : key.request ≡ k.request = number_same key.request k.request (right_true (bytes_eq key.drafter.items k.drafter.items) (key.request == k.request) h) in
      ap (λ w. bytes_eq d w && (r == k.request)) (sym drafter) ∙ ap (λ n. bytes_eq d key.drafter.items && (r == n)) (sym request);
  one = λ k here there.
      and_true (bytes_eq key.drafter.items k.drafter.items) (key.request == k.request)
      (bytes_are key.drafter.items k.drafter.items
      (sym (bytes_same d key.drafter.items (left_true (bytes_eq d key.drafter.items) (r == key.request) here))
      ∙ bytes_same d k.drafter.items (left_true (bytes_eq d k.drafter.items) (r == k.request) there)))
      (number_is key.request k.request
      (sym (number_same r key.request (right_true (bytes_eq d key.drafter.items) (r == key.request) here))
      ∙ number_same r k.request (right_true (bytes_eq d k.drafter.items) (r == k.request) there)));
}

-- a request's test, read the other way
pub request_either : (d : List ℕ) (r : ℕ) (key : RequestKey) → is_request d r key ≡ bytes_eq key.drafter.items d && (key.request == r)
request_either d r key =
    ap (λ b. b && (r == key.request)) (bytes_either d key.drafter.items) ∙ ap (λ b. bytes_eq key.drafter.items d && b) (number_either r key.request)

-- an insertion that succeeds
pub on_ok : {A E : Type 0} (r : Result A E) (P : Type 0) → IsOk r → OnOk r P → P
on_ok (Ok a) P is h = h
on_ok (Err e) P is h = absurd (let no : false ≡ true = is in cc)

-- look-ups after an insertion, by bytes and by request
pub text_put : {K X : Type 0} (bytes : K → List ℕ) (new es : List (K × X)) (key : K) (v : X) (w : List ℕ) → new ≡ insert_entry (λ x y. bytes_eq (bytes x) (bytes y)) es key v
    → lookup (λ k. bytes_eq w (bytes k)) new ≡ cond (bytes_eq (bytes key) w) (Some v) (lookup (λ k. bytes_eq w (bytes k)) es)
text_put {K} {X} bytes new es key v w is =
    ap (lookup (λ k. bytes_eq w (bytes k))) is
    ∙ put (λ x y. bytes_eq (bytes x) (bytes y)) (λ k. bytes_eq w (bytes k)) key v (text_tells bytes w key) es
    ∙ ap (λ b. cond b (Some v) (lookup (λ k. bytes_eq w (bytes k)) es)) (bytes_either w (bytes key))

-- a value that is set at a key which is there is put there
module _ {K X : Type 0} (eq : K → K → Bool) (key : K) (v : X) where
  set_front : (b : Bool) (e : K × X) (es : List (K × X)) → (is_some (lookup (eq key) es) ≡ true → set_value (eq key) es v ≡ insert_entry eq es key v)
      → is_some (cond b (Some e.1) (lookup (eq key) es)) ≡ true
      → cond b ((e.0, v) ∷ es) (e ∷ set_value (eq key) es v) ≡ cond b ((e.0, v) ∷ es) (e ∷ insert_entry eq es key v)
  set_front true e es rest there = refl
  set_front false e es rest there = ap (λ t. e ∷ t) (rest there)

  pub set_is_put : (es : List (K × X)) → is_some (lookup (eq key) es) ≡ true → set_value (eq key) es v ≡ insert_entry eq es key v
  set_is_put [] there = absurd (let no : false ≡ true = there in cc)
  set_is_put (e ∷ es) there = set_front (eq key e.0) e es (set_is_put es) there

pub request_put : {X : Type 0} (new es : List (RequestKey × X)) (key : RequestKey) (v : X) (d : List ℕ) (r : ℕ) → new ≡ insert_entry request_eq es key v
    → lookup (is_request d r) new ≡ cond (bytes_eq key.drafter.items d && (key.request == r)) (Some v) (lookup (is_request d r) es)
request_put {X} new es key v d r is =
    ap (lookup (is_request d r)) is
    ∙ put request_eq (is_request d r) key v (request_tells d r key) es
    ∙ ap (λ b. cond b (Some v) (lookup (is_request d r) es)) (request_either d r key)
