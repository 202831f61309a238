-- What a borrowed value is seen as is what serde_json reads, and its parts are found as the parts of that.
use Rattle.std.proofs.Common.{◌≡◌, ℕ, zero, suc, ◌<◌, ◌≤◌, max, length, get_or, slice_get, if◌then◌else◌, arith, ◌∙◌, List, [], ◌∷◌, map, Bool, true, false, cond, ◌&&◌, ◌||◌, Option, Some, None, Ok, Err, is_some, option_map, option_and_then, Ordering, Less, Equal, Greater, nat_cmp, is_eq, bytes_eq, Bor, Vec, refl, sym, ap, subst}
use Rattle.std.proofs.lemmas.Map.Text.{is_eq-slice_cmp}
use Rattle.std.proofs.lemmas.Slice.Eq.{bytes_eq-Decides}
use Rattle.std.specs.Cmp.Lexicographic.{slice_cmp}
use Rattle.std.specs.Ordering.{match_ordering}
use Rattle.std.specs.declared.alloc.Global.{Global}
use Rattle.json.specs.Token.{Token}
use Rattle.json.specs.Lex.{tokens}
use Rattle.json.specs.Json as json
use Rattle.json.specs.Find as borrowed
use Rattle.json.specs.Value.{value_view}
use Rattle.json.specs.Value as view
use Rattle.json.specs.declared.value.Value.{Value, Array}
use Rattle.json.proofs.Trees.{view-Array}
use Rattle.serde_json.specs.Data.{Num, Data, null, boolean, number, string, array, object, Items, no_items, item, Members, no_members, member, put, depth, items_depth, members_depth}
use Rattle.serde_json.specs.Find.{get, get_member, as_array, as_object, as_str}
use Rattle.serde_json.specs.Read.{number_of, of_json, of_items, of_members, max_depth, read}
use Rattle.serde_json.specs.View.{items_of}
use Rattle.serde_json.specs.Events.{items_len}
use Rattle.serde_json.proofs.Views.{get_member-put, get_member-put_other}
use Rattle.akn_json.specs.declared.reading.key.Key.{Key}
use Rattle.act_tree.specs.Branches.{branch, branches_of}
use Rattle.akn_json.specs.declared.reading.key.Key.TheVariants as key
use Rattle.akn_json.specs.Reading.Reads.{◌>>=◌}
use Rattle.akn_json.specs.Reading.Keys.{key_name}
use Rattle.akn_json.specs.Reading.Fields.{is_named, has_only, has_members, members_in, read_or}
use Rattle.akn_json.specs.Reading.Modifications.{is_single}
use Rattle.akn_json.specs.Reading.Nodes.{own_in, node_in, children_in, nodes_in}
use Rattle.akn_json.specs.Reading.Values.{num_or_below, data_of, items_data, members_data, is_in_range, are_items_in_range, are_members_in_range, kept, seen, items_seen, are_known, are_named, has_one_key}

-- ---- the whole value

number_kept : (n : Option Num) → option_map number n ≡ kept (is_some n) (number (num_or_below n))
number_kept None = refl
number_kept (Some n) = refl

map_kept : {A B : Type 0} (f : A → B) (t : Bool) (a : A) → option_map f (kept t a) ≡ kept t (f a)
map_kept f true a = refl
map_kept f false a = refl

then_kept : {A B : Type 0} (t u : Bool) (f : A → Option B) (a : A) (b : B) → f a ≡ kept u b → option_and_then f (kept t a) ≡ kept (t && u) b
then_kept true u f a b e = e
then_kept false u f a b e = refl

mutual
  -- serde_json takes a value whose numbers are in range, and makes of it what is seen
  pub of_json-kept : (j : json.Json) → of_json j ≡ kept (is_in_range j) (data_of j)
  of_json-kept json.null = refl
  of_json-kept (json.boolean b) = refl
  of_json-kept (json.number s) = number_kept (number_of s)
  of_json-kept (json.string s) = refl
  of_json-kept (json.array js) = ap (option_map array) (of_items-kept js) ∙ map_kept array (are_items_in_range js) (items_data js)
  of_json-kept (json.object ms) = ap (option_map object) (of_members-kept ms no_members) ∙ map_kept object (are_members_in_range ms) (members_data ms no_members)

  of_items-kept : (js : json.Items) → of_items js ≡ kept (are_items_in_range js) (items_data js)
  of_items-kept json.no_items = refl
  of_items-kept (json.item j js) =
      ap (option_and_then (λ d. option_map (item d) (of_items js))) (of_json-kept j)
      ∙ then_kept (is_in_range j) (are_items_in_range js) (λ d. option_map (item d) (of_items js)) (data_of j) (item (data_of j) (items_data js))
      (ap (option_map (item (data_of j))) (of_items-kept js) ∙ map_kept (item (data_of j)) (are_items_in_range js) (items_data js))

  of_members-kept : (ms : json.Members) (found : Members) → of_members ms found ≡ kept (are_members_in_range ms) (members_data ms found)
  of_members-kept json.no_members found = refl
  of_members-kept (json.member k j ms) found =
      ap (option_and_then (λ d. of_members ms (put k d found))) (of_json-kept j)
      ∙ then_kept (is_in_range j) (are_members_in_range ms) (λ d. of_members ms (put k d found)) (data_of j) (members_data ms (put k (data_of j) found))
      (of_members-kept ms (put k (data_of j) found))

abbrev whole : Option (json.Json × List Token) → Option Data
whole o = option_and_then of_json (option_and_then (λ p. json.if_last p.0 p.1) o)

module _ (text : List ℕ) where
  -- a text that is one value, each number of which is in range, is read as what is seen
  pub read_seen : (j : json.Json) → json.value max_depth (tokens text) ≡ Some (j, []) → is_in_range j ≡ true → read text ≡ Some (data_of j)
  read_seen j is within = ap whole is ∙ of_json-kept j ∙ ap (λ t. kept t (data_of j)) within

  -- one with a number out of range is refused
  pub read_beyond : (j : json.Json) → json.value max_depth (tokens text) ≡ Some (j, []) → is_in_range j ≡ false → read text ≡ None
  read_beyond j is beyond = ap whole is ∙ of_json-kept j ∙ ap (λ t. kept t (data_of j)) beyond

-- ---- a member that is looked for

same_bytes : (k l : List ℕ) → bytes_eq k l ≡ true → k ≡ l
same_bytes k l is = (bytes_eq-Decides k l).0 is

found_where : (o : Ordering) (e : Data) (r : Option Data) → match_ordering o r (Some e) r ≡ cond (is_eq o) (Some e) r
found_where Less e r = refl
found_where Equal e r = refl
found_where Greater e r = refl

sym_eq : (k l : List ℕ) → bytes_eq k l ≡ bytes_eq l k
sym_eq k l = by (bytes_eq k l) (bytes_eq l k) refl refl
  where
    by : (t u : Bool) → bytes_eq k l ≡ t → bytes_eq l k ≡ u → t ≡ u
    by true u is other = sym ((bytes_eq-Decides l k).1 (sym (same_bytes k l is))) ∙ other
    by false true is other = sym is ∙ (bytes_eq-Decides k l).1 (sym (same_bytes l k other))
    by false false is other = refl

get_first : (k l : List ℕ) (e : Data) (ms : Members) → get_member k (member l e ms) ≡ cond (bytes_eq l k) (Some e) (get_member k ms)
get_first k l e ms =
    found_where (slice_cmp nat_cmp k l) e (get_member k ms) ∙ ap (λ t. cond t (Some e) (get_member k ms)) (is_eq-slice_cmp k l ∙ sym_eq k l)

-- what is found where one member more is put in
pub get_put : (k l : List ℕ) (d : Data) (ms : Members) → get_member k (put l d ms) ≡ cond (bytes_eq l k) (Some d) (get_member k ms)
get_put k l d ms = by (bytes_eq l k) refl
  where
    by : (t : Bool) → bytes_eq l k ≡ t → get_member k (put l d ms) ≡ cond t (Some d) (get_member k ms)
    by true is = subst (λ m. get_member m (put l d ms) ≡ Some d) (same_bytes l k is) (get_member-put l d ms)
    by false is = get_member-put_other k l d ms (λ same. absurd (differ (sym is ∙ (bytes_eq-Decides l k).1 (sym same))))
      where
        differ : false ≡ true → ⊥
        differ e = absurd (cc)

abbrev later : Option json.Json → Option Data → Option Data
later None d = d
later (Some j) d = Some (data_of j)

later_here : (o : Option json.Json) (t : Bool) (j : json.Json) (d : Option Data) → later o (cond t (Some (data_of j)) d) ≡ later (borrowed.later_or o (cond t (Some j) None)) d
later_here (Some x) t j d = refl
later_here None true j d = refl
later_here None false j d = refl

get_members : (k : List ℕ) (ms : json.Members) (found : Members) → get_member k (members_data ms found) ≡ later (borrowed.get_member k ms) (get_member k found)
get_members k json.no_members found = refl
get_members k (json.member l j ms) found =
    get_members k ms (put l (data_of j) found) ∙ ap (later (borrowed.get_member k ms)) (get_put k l (data_of j) found)
    ∙ later_here (borrowed.get_member k ms) (bytes_eq l k) j (get_member k found)

later_none : (o : Option json.Json) → later o None ≡ option_map data_of o
later_none None = refl
later_none (Some j) = refl

get_data : (k : List ℕ) (j : json.Json) → get k (data_of j) ≡ option_map data_of (borrowed.get k j)
get_data k json.null = refl
get_data k (json.boolean b) = refl
get_data k (json.number s) = refl
get_data k (json.string s) = refl
get_data k (json.array js) = refl
get_data k (json.object ms) = get_members k ms no_members ∙ later_none (borrowed.get_member k ms)

seen_ref : (r : Option (Bor (Value Global))) → option_map (λ v. seen v.now) r ≡ option_map data_of (option_map (λ v. value_view v.now) r)
seen_ref None = refl
seen_ref (Some v) = refl

-- what is found at a key is seen as what is there in what is seen
pub found_seen : (k : List ℕ) (v : Value Global) (r : Option (Bor (Value Global))) → option_map (λ x. value_view x.now) r ≡ borrowed.get k (value_view v)
    → option_map (λ x. seen x.now) r ≡ get k (seen v)
found_seen k v r is = seen_ref r ∙ ap (option_map data_of) is ∙ sym (get_data k (value_view v))

-- ---- the other parts

-- the items of a list are seen one by one
pub items_data-seen : (vs : List (Value Global)) → items_data (view.items_view vs) ≡ items_seen vs
items_data-seen [] = refl
items_data-seen (v ∷ vs) = ap (item (seen v)) (items_data-seen vs)

-- ---- the keys of an object

and_twice : (t u : Bool) → t && u ≡ t && (t && u)
and_twice true u = refl
and_twice false u = refl

and_swap : (t u w : Bool) → t && (u && w) ≡ u && (t && w)
and_swap true u w = refl
and_swap false true w = refl
and_swap false false w = refl

and_front : (t u w : Bool) → t && (u && w) ≡ (u && t) && w
and_front true true w = refl
and_front true false w = refl
and_front false true w = refl
and_front false false w = refl

and_true : (t : Bool) → t && true ≡ t
and_true true = refl
and_true false = refl

module _ (required optional : List Key) where
  abbrev known : List ℕ → Bool
  known name = is_named name required || is_named name optional

  known_put_at : (o : Ordering) (k l : List ℕ) (d e : Data) (ms : Members) → slice_cmp nat_cmp k l ≡ o → has_only required optional (put k d ms) ≡ known k && has_only required optional ms
      → has_only required optional (match_ordering o (member k d (member l e ms)) (member l d ms) (member l e (put k d ms))) ≡ known k && (known l && has_only required optional ms)
  known_put_at Less k l d e ms is later_on = refl
  known_put_at Equal k l d e ms is later_on =
      let same : k ≡ l = same_bytes k l (sym (is_eq-slice_cmp k l) ∙ ap is_eq is) in
      subst (λ m. known l && has_only required optional ms ≡ known m && (known l && has_only required optional ms)) (sym same) (and_twice (known l) (has_only required optional ms))
  known_put_at Greater k l d e ms is later_on = ap (λ t. known l && t) later_on ∙ and_swap (known l) (known k) (has_only required optional ms)

  known_put : (k : List ℕ) (d : Data) (ms : Members) → has_only required optional (put k d ms) ≡ known k && has_only required optional ms
  known_put k d no_members = refl
  known_put k d (member l e ms) = known_put_at (slice_cmp nat_cmp k l) k l d e ms refl (known_put k d ms)

  known_members : (ms : json.Members) (found : Members) → has_only required optional (members_data ms found) ≡ are_known required optional ms && has_only required optional found
  known_members json.no_members found = refl
  known_members (json.member k j ms) found =
      known_members ms (put k (data_of j) found) ∙ ap (λ t. are_known required optional ms && t) (known_put k (data_of j) found)
      ∙ and_front (are_known required optional ms) (known k) (has_only required optional found)

  -- an object has only these keys where each of its members has one of them
  pub has_only_known : (ms : json.Members) → has_only required optional (members_data ms no_members) ≡ are_known required optional ms
  has_only_known ms = known_members ms no_members ∙ and_true (are_known required optional ms)

-- ---- an array, level by level

pub seen-Array : (vs : Vec (Value Global) Global) → seen (Array vs) ≡ array (items_seen vs.items)
seen-Array vs = ap data_of (view-Array vs) ∙ ap array (items_data-seen vs.items)

-- a list has as many items as are seen
pub items_len_seen : (vs : List (Value Global)) → items_len (items_seen vs) ≡ length vs
items_len_seen [] = refl
items_len_seen (v ∷ vs) = ap suc (items_len_seen vs)

-- ---- an object with members at one key

-- more than one member
abbrev are_several : Members → Bool
are_several no_members = false
are_several (member k d no_members) = false
are_several (member k d (member l e ms)) = true

several_behind : (o : Ordering) (k l m : List ℕ) (d e f : Data) (ms : Members)
    → are_several (member l e (match_ordering o (member k d (member m f ms)) (member m d ms) (member m f (put k d ms)))) ≡ true
several_behind Less k l m d e f ms = refl
several_behind Equal k l m d e f ms = refl
several_behind Greater k l m d e f ms = refl

several_at : (o : Ordering) (k l m : List ℕ) (d e f : Data) (ms : Members)
    → are_several (match_ordering o (member k d (member l e (member m f ms))) (member l d (member m f ms)) (member l e (put k d (member m f ms)))) ≡ true
several_at Less k l m d e f ms = refl
several_at Equal k l m d e f ms = refl
several_at Greater k l m d e f ms = several_behind (slice_cmp nat_cmp k m) k l m d e f ms

several_put : (k : List ℕ) (d : Data) (ms : Members) → are_several ms ≡ true → are_several (put k d ms) ≡ true
several_put k d no_members is = absurd (cc)
several_put k d (member l e no_members) is = absurd (cc)
several_put k d (member l e (member m f ms)) is = several_at (slice_cmp nat_cmp k l) k l m d e f ms

several_single : (ms : Members) → are_several ms ≡ true → is_single ms ≡ false
several_single no_members is = refl
several_single (member l e no_members) is = absurd (cc)
several_single (member l e (member m f ms)) is = refl

several_members : (ms : json.Members) (found : Members) → are_several found ≡ true → is_single (members_data ms found) ≡ false
several_members json.no_members found is = several_single found is
several_members (json.member k j ms) found is = several_members ms (put k (data_of j) found) (several_put k (data_of j) found is)

one_at : (o : Ordering) (k l : List ℕ) (d e : Data) (ms : json.Members) → slice_cmp nat_cmp l k ≡ o → is_single (members_data ms (member k e no_members)) ≡ are_named k ms
    → is_single (members_data ms (match_ordering o (member l e (member k d no_members)) (member k e no_members) (member k d (member l e no_members)))) ≡ bytes_eq l k && are_named k ms
one_at Less k l d e ms is later_on = several_members ms (member l e (member k d no_members)) refl ∙ ap (λ t. t && are_named k ms) (ap is_eq (sym is) ∙ is_eq-slice_cmp l k)
one_at Equal k l d e ms is later_on = later_on ∙ ap (λ t. t && are_named k ms) (ap is_eq (sym is) ∙ is_eq-slice_cmp l k)
one_at Greater k l d e ms is later_on = several_members ms (member k d (member l e no_members)) refl ∙ ap (λ t. t && are_named k ms) (ap is_eq (sym is) ∙ is_eq-slice_cmp l k)

one_members : (k : List ℕ) (d : Data) (ms : json.Members) → is_single (members_data ms (member k d no_members)) ≡ are_named k ms
one_members k d json.no_members = refl
one_members k d (json.member l j ms) = one_at (slice_cmp nat_cmp l k) k l d (data_of j) ms refl (one_members k (data_of j) ms)

-- an object has one member where its text has members, and all at one key
pub single_seen : (ms : json.Members) → is_single (members_data ms no_members) ≡ has_one_key ms
single_seen json.no_members = refl
single_seen (json.member k j ms) = one_members k (data_of j) ms ∙ ap (λ t. t && are_named k ms) (sym ((bytes_eq-Decides k k).1 refl))

-- so it is told by the first of them
pub named_first : (ms : List (Bor (List ℕ) × Value Global)) (m : Bor (List ℕ) × Value Global) → Some m ≡ slice_get ms 0 → are_named m.0.now (view.members_view ms) ≡ has_one_key (view.members_view ms)
named_first [] m is = absurd (cc)
named_first (x ∷ ms) m is =
    let same : m ≡ x = cc in
    subst (λ y. are_named y.0.now (view.members_view (x ∷ ms)) ≡ has_one_key (view.members_view (x ∷ ms))) (sym same) refl

-- ---- what is beneath a node

children_first : (t : Bool) (d : Data) (ms : Members) → children_in ms ≡ read_or [] nodes_in (get_member (key_name key.Children) ms)
    → (if t then nodes_in d else children_in ms) ≡ read_or [] nodes_in (cond t (Some d) (get_member (key_name key.Children) ms))
children_first true d ms later_on = refl
children_first false d ms later_on = later_on

children_found : (ms : Members) → children_in ms ≡ read_or [] nodes_in (get_member (key_name key.Children) ms)
children_found no_members = refl
children_found (member name d ms) =
    children_first (bytes_eq name (key_name key.Children)) d ms (children_found ms) ∙ ap (read_or [] nodes_in) (sym (get_first (key_name key.Children) name d ms))

-- a node is what it says of itself, and then what is beneath it
pub node_parts : (d : Data) → node_in d ≡ (own_in d >>= λ own. read_or [] nodes_in (get (key_name key.Children) d) >>= λ below. Ok (branch own (branches_of below)))
unfolding own_in members_in has_members
node_parts null = refl
node_parts (boolean b) = refl
node_parts (number n) = refl
node_parts (string s) = refl
node_parts (array ds) = refl
node_parts (object ms) = ap (λ r. own_in (object ms) >>= λ own. r >>= λ below. Ok (branch own (branches_of below))) (children_found ms)

picked : (t : Bool) (d m : Data) (rest : Option Data) (n : ℕ) → (rest ≡ Some m → depth m ≤ n) → cond t (Some d) rest ≡ Some m → depth m ≤ max (depth d) n
picked true d m rest n within found = let same : d ≡ m = cc in subst (λ x. depth x ≤ max (depth d) n) same (omega arith)
picked false d m rest n within found = omega (arith, within found)

member_depth : (k : List ℕ) (ms : Members) (m : Data) → get_member k ms ≡ Some m → depth m ≤ members_depth ms
member_depth k no_members m found = absurd (cc)
member_depth k (member l d ms) m found = picked (bytes_eq l k) d m (get_member k ms) (members_depth ms) (member_depth k ms m) (sym (get_first k l d ms) ∙ found)

-- what is found in an object nests less deep than it
pub got_depth : (k : List ℕ) (d m : Data) → get k d ≡ Some m → depth m < depth d
got_depth k null m found = absurd (cc)
got_depth k (boolean b) m found = absurd (cc)
got_depth k (number n) m found = absurd (cc)
got_depth k (string s) m found = absurd (cc)
got_depth k (array ds) m found = absurd (cc)
got_depth k (object ms) m found = omega (arith, member_depth k ms m found)

-- an item nests no deeper than all
pub item_depth : (vs : List (Value Global)) (i : ℕ) (d : Value Global) → i < length vs → depth (seen (get_or vs i d)) ≤ items_depth (items_seen vs)
item_depth [] i d within = absurd (omega arith)
item_depth (v ∷ vs) zero d within = omega arith
item_depth (v ∷ vs) (suc i) d within = omega (arith, item_depth vs i d (omega arith))
