-- The lists of a JSON value have no more items than its text has bytes, and what stands in it has no longer ones.
use Rattle.std.proofs.Common.{◌≡◌, ℕ, zero, suc, ◌+◌, ◌<◌, ◌≤◌, max, List, [], ◌∷◌, length, Option, Some, None, Ok, Err, option_map, option_and_then, Ordering, Less, Equal, Greater, Bool, true, false, if◌then◌else◌, nat_le, refl, subst, arith}
use Rattle.std.specs.Prelude.{⊤}
use Rattle.std.specs.Ordering.{match_ordering}
use Rattle.json.specs.Token.{Token}
use Rattle.json.specs.Lex.{tokens}
use Rattle.json.specs.Json as json
use Rattle.json.specs.Json.{Parse, parse_map, after_end_array, read_key, items_step, members_step, items, members, value_with, value}
use Rattle.json.proofs.Grammar.{after_end_array-shorter, read_key-shorter}
use Rattle.std.proofs.lemmas.Bool.{leb-true}
use Rattle.std.proofs.lemmas.Option.{none-some}
use Rattle.std.specs.Str.{is_utf8}
use Rattle.std.specs.Ordering.{nat_cmp}
use Rattle.std.specs.Cmp.Lexicographic.{slice_cmp}
use Rattle.serde_json.specs.Data.{Data, null, boolean, number, string, array, object, Items, no_items, item, Members, no_members, member, put}
use Rattle.serde_json.specs.Find.{get, get_member}
use Rattle.serde_json.specs.Events.{items_len}
use Rattle.serde_json.specs.Read.{number_of, of_json, of_items, of_members, max_depth, read}
use Rattle.akn_json.specs.declared.fault.FormRule.TheVariants.{NotJson, TooLong, WrongShape}
use Rattle.akn_json.specs.declared.reading.key.Key.{Key}
use Rattle.akn_json.specs.Reading.Fields.{field_in, items_in}
use Rattle.akn_json.specs.Reading.Keys.{key_name}
use Rattle.akn_json.specs.Reading.Reads.{◌>>◌, broken, or_fault, unless_broken}
use Rattle.akn_json.specs.Reading.Bytes.{most_bytes, json_of, value_of}
use Rattle.akn_json.specs.Reading.Widths.{width, items_width, members_width}
use Rattle.akn_json.proofs.Tokens.{tokens-le}

-- how many items an array has, and the most of any, before a value is converted
abbrev count : json.Items → ℕ
count json.no_items = 0
count (json.item j js) = suc (count js)

abbrev mutual
  spread : json.Json → ℕ
  spread json.null = 0
  spread (json.boolean b) = 0
  spread (json.number s) = 0
  spread (json.string s) = 0
  spread (json.array js) = max (count js) (items_spread js)
  spread (json.object ms) = members_spread ms

  items_spread : json.Items → ℕ
  items_spread json.no_items = 0
  items_spread (json.item j js) = max (spread j) (items_spread js)

  members_spread : json.Members → ℕ
  members_spread json.no_members = 0
  members_spread (json.member k j ms) = max (spread j) (members_spread ms)

-- what is read of tokens, with those that are left
abbrev IsValueOf : List Token → Option (json.Json × List Token) → Type 0
IsValueOf ts None = ⊤
IsValueOf ts (Some p) = (length p.1 < length ts) × (spread p.0 < length ts)

abbrev AreItemsOf : List Token → Option (json.Items × List Token) → Type 0
AreItemsOf ts None = ⊤
AreItemsOf ts (Some p) = (count p.0 + length p.1 ≤ length ts) × (items_spread p.0 ≤ length ts)

abbrev AreMembersOf : List Token → Option (json.Members × List Token) → Type 0
AreMembersOf ts None = ⊤
AreMembersOf ts (Some p) = (length p.1 ≤ length ts) × (members_spread p.0 ≤ length ts)

module _ (p : Parse json.Json) (reads : (ts : List Token) → IsValueOf ts (p ts)) where
  item_more : (ts rest : List Token) (j : json.Json) → length rest < length ts → spread j < length ts → (m : Option (json.Items × List Token))
      → AreItemsOf rest m → AreItemsOf ts (parse_map (json.item j) m)
  item_more ts rest j shorter small None y = tt
  item_more ts rest j shorter small (Some m) y = (omega (arith, shorter, y.0), omega (arith, shorter, small, y.1))

  item_first : (ts : List Token) (more : Parse json.Items) → ((rest : List Token) → AreItemsOf rest (more rest)) → (o : Option (json.Json × List Token))
      → IsValueOf ts o → AreItemsOf ts (option_and_then (λ q. parse_map (json.item q.0) (more q.1)) o)
  item_first ts more again None x = tt
  item_first ts more again (Some q) x = item_more ts q.1 q.0 x.0 x.1 (more q.1) (again q.1)

  item_turn : (ts : List Token) (more : Parse json.Items) → ((rest : List Token) → AreItemsOf rest (more rest)) → (o : Option (List Token))
      → after_end_array ts ≡ o → AreItemsOf ts (items_step p more ts o)
  item_turn ts more again (Some r) e = (omega (arith, after_end_array-shorter ts r e), omega arith)
  item_turn ts more again None e = item_first ts more again (p ts) (reads ts)

  items_read : (n : ℕ) (ts : List Token) → AreItemsOf ts (items p n ts)
  unfolding items
  items_read zero ts = tt
  items_read (suc n) ts = item_turn ts (items p n) (items_read n) (after_end_array ts) refl

  member_more : (ts rest : List Token) (k : List ℕ) (j : json.Json) → length rest ≤ length ts → spread j ≤ length ts → (m : Option (json.Members × List Token))
      → AreMembersOf rest m → AreMembersOf ts (parse_map (json.member k j) m)
  member_more ts rest k j shorter small None y = tt
  member_more ts rest k j shorter small (Some m) y = (omega (arith, shorter, y.0), omega (arith, shorter, small, y.1))

  member_first : (ts s : List Token) (k : List ℕ) (more : Parse json.Members) → length s < length ts → ((rest : List Token) → AreMembersOf rest (more rest))
      → (o : Option (json.Json × List Token)) → IsValueOf s o → AreMembersOf ts (option_and_then (λ q. parse_map (json.member k q.0) (more q.1)) o)
  member_first ts s k more shorter again None x = tt
  member_first ts s k more shorter again (Some q) x =
      member_more ts q.1 k q.0 (omega (arith, shorter, x.0)) (omega (arith, shorter, x.1)) (more q.1) (again q.1)

  member_turn : (ts : List Token) (more : Parse json.Members) → ((rest : List Token) → AreMembersOf rest (more rest)) → (o : Option (Option (List ℕ) × List Token))
      → read_key ts ≡ o → AreMembersOf ts (option_and_then (λ q. members_step p more q.0 q.1) o)
  member_turn ts more again None e = tt
  member_turn ts more again (Some (None, s)) e = (omega (arith, read_key-shorter ts None s e), omega arith)
  member_turn ts more again (Some (Some k, s)) e = member_first ts s k more (read_key-shorter ts (Some k) s e) again (p s) (reads s)

  members_read : (n : ℕ) (ts : List Token) → AreMembersOf ts (members p n ts)
  unfolding members
  members_read zero ts = tt
  members_read (suc n) ts = member_turn ts (members p n) (members_read n) (read_key ts) refl

array_of : (t : Token) (ts : List Token) (o : Option (json.Items × List Token)) → AreItemsOf ts o → IsValueOf (t ∷ ts) (parse_map json.array o)
array_of t ts None x = tt
array_of t ts (Some q) x = (omega (arith, x.0), omega (arith, x.0, x.1))

object_of : (t : Token) (ts : List Token) (o : Option (json.Members × List Token)) → AreMembersOf ts o → IsValueOf (t ∷ ts) (parse_map json.object o)
object_of t ts None x = tt
object_of t ts (Some q) x = (omega (arith, x.0), omega (arith, x.1))

one_level : (a : Parse json.Items) (o : Parse json.Members) → ((ts : List Token) → AreItemsOf ts (a ts)) → ((ts : List Token) → AreMembersOf ts (o ts))
    → (ts : List Token) → IsValueOf ts (value_with a o ts)
one_level a o p q [] = tt
one_level a o p q (Token.begin_object ∷ ts) = object_of Token.begin_object ts (o ts) (q ts)
one_level a o p q (Token.end_object ∷ ts) = tt
one_level a o p q (Token.begin_array ∷ ts) = array_of Token.begin_array ts (a ts) (p ts)
one_level a o p q (Token.end_array ∷ ts) = tt
one_level a o p q (Token.key s ∷ ts) = tt
one_level a o p q (Token.string s ∷ ts) = (omega arith, omega arith)
one_level a o p q (Token.number s ∷ ts) = (omega arith, omega arith)
one_level a o p q (Token.boolean b ∷ ts) = (omega arith, omega arith)
one_level a o p q (Token.null ∷ ts) = (omega arith, omega arith)
one_level a o p q (Token.bad ∷ ts) = tt

value_read : (depth : ℕ) (ts : List Token) → IsValueOf ts (value depth ts)
unfolding value
value_read zero ts = one_level (λ ts. None) (λ ts. None) (λ ts. tt) (λ ts. tt) ts
value_read (suc d) ts =
    one_level (λ ts. items (value d) (length ts) ts) (λ ts. members (value d) (length ts) ts)
    (λ ts. items_read (value d) (value_read d) (length ts) ts) (λ ts. members_read (value d) (value_read d) (length ts) ts) ts

-- what was converted is within a bound, if it was
abbrev AtMost : {A : Type 0} → (A → ℕ) → ℕ → Option A → Type 0
AtMost f n None = ⊤
AtMost f n (Some a) = f a ≤ n

at_most-map : {A B : Type 0} (f : A → ℕ) (g : B → ℕ) (m n : ℕ) (h : A → B) → ((a : A) → f a ≤ m → g (h a) ≤ n) → (o : Option A) → AtMost f m o → AtMost g n (option_map h o)
at_most-map f g m n h k None x = tt
at_most-map f g m n h k (Some a) x = k a x

at_most-and_then : {A B : Type 0} (f : A → ℕ) (g : B → ℕ) (m n : ℕ) (h : A → Option B) → ((a : A) → f a ≤ m → AtMost g n (h a)) → (o : Option A) → AtMost f m o
    → AtMost g n (option_and_then h o)
at_most-and_then f g m n h k None x = tt
at_most-and_then f g m n h k (Some a) x = k a x

flat : {A : Type 0} (o : Option A) → AtMost (λ _. 0) 0 o
flat None = tt
flat (Some a) = omega arith

width_of-array : (o : Option Items) (n : ℕ) → AtMost items_len n o → AtMost items_width n o → AtMost width n (option_map array o)
width_of-array None n x y = tt
width_of-array (Some ds) n x y = omega (arith, x, y)

put_chosen : (o : Ordering) (a b c : Members) (n : ℕ) → members_width a ≤ n → members_width b ≤ n → members_width c ≤ n → members_width (match_ordering o a b c) ≤ n
put_chosen Less a b c n p q r = p
put_chosen Equal a b c n p q r = q
put_chosen Greater a b c n p q r = r

put_within : (k : List ℕ) (d : Data) (ms : Members) (n : ℕ) → width d ≤ n → members_width ms ≤ n → members_width (put k d ms) ≤ n
put_within k d no_members n p q = omega arith
put_within k d (member l e ms) n p q =
    put_chosen _ (member k d (member l e ms)) (member l d ms) (member l e (put k d ms)) n (omega arith) (omega arith) (omega (arith, put_within k d ms n p (omega arith)))

len_of-items : (js : json.Items) (n : ℕ) → count js ≤ n → AtMost items_len n (of_items js)
len_of-items json.no_items n h = omega arith
len_of-items (json.item j js) zero h = absurd (omega arith)
len_of-items (json.item j js) (suc n) h =
    at_most-and_then (λ _. 0) items_len 0 (suc n) _ (λ d x. at_most-map items_len items_len n (suc n) (item d) (λ ds y. omega arith) _ (len_of-items js n (omega arith))) _ (flat _)

mutual
  width_of-json : (j : json.Json) (n : ℕ) → spread j ≤ n → AtMost width n (of_json j)
  width_of-json json.null n h = omega arith
  width_of-json (json.boolean b) n h = omega arith
  width_of-json (json.number s) n h = at_most-map (λ _. 0) width 0 n number (λ a x. omega arith) (number_of s) (flat _)
  width_of-json (json.string s) n h = omega arith
  width_of-json (json.array js) n h = width_of-array (of_items js) n (len_of-items js n (omega arith)) (width_of-items js n (omega arith))
  width_of-json (json.object ms) n h = at_most-map members_width width n n object (λ a x. x) _ (width_of-members ms no_members n h (omega arith))

  width_of-items : (js : json.Items) (n : ℕ) → items_spread js ≤ n → AtMost items_width n (of_items js)
  width_of-items json.no_items n h = omega arith
  width_of-items (json.item j js) n h =
      at_most-and_then width items_width n n _ (λ d x. at_most-map items_width items_width n n (item d) (λ ds y. omega arith) _ (width_of-items js n (omega arith))) _ (width_of-json j n (omega arith))

  width_of-members : (ms : json.Members) (found : Members) (n : ℕ) → members_spread ms ≤ n → members_width found ≤ n → AtMost members_width n (of_members ms found)
  width_of-members json.no_members found n h k = k
  width_of-members (json.member name j ms) found n h k =
      at_most-and_then width members_width n n _ (λ d x. width_of-members ms (put name d found) n (omega arith) (put_within name d found n x k)) _ (width_of-json j n (omega arith))

last_within : (n : ℕ) (o : Option (json.Json × List Token)) → ((j : json.Json) (r : List Token) → o ≡ Some (j, r) → spread j ≤ n)
    → AtMost spread n (option_and_then (λ p. json.if_last p.0 p.1) o)
last_within n None h = tt
last_within n (Some (j, [])) h = h j [] refl
last_within n (Some (j, t ∷ r)) h = tt

spread_read : (text : List ℕ) (j : json.Json) (r : List Token) → value max_depth (tokens text) ≡ Some (j, r) → spread j ≤ length text
spread_read text j r e = omega (arith, (subst (IsValueOf (tokens text)) e (value_read max_depth (tokens text))).1, tokens-le text)

pub width-read : (text : List ℕ) (d : Data) → read text ≡ Some d → width d ≤ length text
width-read text d e =
    subst (AtMost width (length text)) e (at_most-and_then spread width (length text) (length text) of_json (λ j x. width_of-json j (length text) x) _ (last_within (length text) _ (spread_read text)))

chosen_within : (o : Ordering) (d m : Data) (rest : Option Data) (n : ℕ) → (rest ≡ Some m → width m ≤ n) → match_ordering o rest (Some d) rest ≡ Some m
    → width m ≤ max (width d) n
chosen_within Less d m rest n h found = omega (arith, h found)
chosen_within Equal d m rest n h found = let same : d ≡ m = cc in subst (λ x. width x ≤ max (width d) n) same (omega arith)
chosen_within Greater d m rest n h found = omega (arith, h found)

member_within : (name : List ℕ) (ms : Members) (m : Data) → get_member name ms ≡ Some m → width m ≤ members_width ms
member_within name no_members m found = absurd (none-some m found)
member_within name (member l d ms) m found = chosen_within (slice_cmp nat_cmp name l) d m (get_member name ms) (members_width ms) (member_within name ms m) found

got_within : (name : List ℕ) (d m : Data) → get name d ≡ Some m → width m ≤ width d
got_within name null m found = absurd (none-some m found)
got_within name (boolean b) m found = absurd (none-some m found)
got_within name (number n) m found = absurd (none-some m found)
got_within name (string s) m found = absurd (none-some m found)
got_within name (array ds) m found = absurd (none-some m found)
got_within name (object ms) m found = member_within name ms m found

-- the value at a key has no longer lists than the object
pub field-width : (key : Key) (d m : Data) (most : ℕ) → width d ≤ most → field_in key d ≡ Ok m → width m ≤ most
unfolding field_in
field-width key d m most short found = by (get (key_name key) d) refl found
  where
    by : (o : Option Data) → get (key_name key) d ≡ o → or_fault (broken WrongShape) o ≡ Ok m → width m ≤ most
    by None is read = cc
    by (Some x) is read =
        let same : x ≡ m = cc in
        omega (arith, short, subst (λ y. width y ≤ width d) same (got_within (key_name key) d x is))

-- a list has no more items than the longest in the value that it is
pub items-width : (d : Data) (ds : Items) (most : ℕ) → width d ≤ most → items_in d ≡ Ok ds → items_len ds ≤ most
unfolding items_in
items-width (array ds) es most short found =
    let same : ds ≡ es = cc in
    subst (λ xs. items_len xs ≤ most) same (omega (arith, short))
items-width null es most short found = cc
items-width (boolean b) es most short found = cc
items-width (number n) es most short found = cc
items-width (string s) es most short found = cc
items-width (object ms) es most short found = cc

-- what is read of bytes has no list longer than a dossier may have bytes
pub value-width : (bytes : List ℕ) (d : Data) → value_of bytes ≡ Ok d → width d ≤ most_bytes
value-width bytes d found = kept (nat_le (length bytes) most_bytes) refl found
  where
    text : (t : Bool) → is_utf8 bytes ≡ t → length bytes ≤ most_bytes → or_fault (broken NotJson) (if t then read bytes else None) ≡ Ok d → width d ≤ most_bytes
    text false is few read_so = cc
    text true is few read_so = by (read bytes) refl read_so
      where
        by : (o : Option Data) → read bytes ≡ o → or_fault (broken NotJson) o ≡ Ok d → width d ≤ most_bytes
        by None reads read_so = cc
        by (Some x) reads read_so =
            let same : x ≡ d = cc in
            omega (arith, few, subst (λ y. width y ≤ length bytes) same (width-read bytes x reads))

    kept : (t : Bool) → nat_le (length bytes) most_bytes ≡ t → (unless_broken (broken TooLong) t >> or_fault (broken NotJson) (json_of bytes)) ≡ Ok d → width d ≤ most_bytes
    kept false is read_so = cc
    kept true is read_so = text (is_utf8 bytes) refl (leb-true (length bytes) most_bytes is) read_so
