-- What one pass over the members of a node keeps, and what a node is of the values that it found.
use Rattle.std.proofs.Common.{◌≡◌, ℕ, zero, suc, ◌+◌, ◌<◌, List, [], ◌∷◌, length, take, drop, get_or, cond, Bool, true, false, ◌&&◌, ◌||◌, Option, Some, None, is_some, Ok, Err, Bor, refl, sym, ap, ◌∙◌, subst, arith, bytes_eq}
use Rattle.std.proofs.lemmas.List.{drop_more}
use Rattle.std.proofs.lemmas.Slice.Eq.{bytes_eq-Decides}
use Rattle.std.specs.declared.alloc.Global.{Global}
use Rattle.json.specs.Json as json
use Rattle.json.specs.Value.{members_view}
use Rattle.json.specs.declared.value.Value.{Value}
use Rattle.serde_json.specs.Data.{Data, null, boolean, number, string, array, object, Members, no_members, put}
use Rattle.serde_json.specs.Find.{get, get_member, as_object}
use Rattle.act_tree.specs.Branches.{Branch, branch, branches_of}
use Rattle.act_tree.specs.Provisions.{Own}
use Rattle.akn_json.specs.Reading.Fields.{is_named, read_or, has_members, members_in, field_in, optional_in}
use Rattle.akn_json.specs.Reading.Keys.{key_name}
use Rattle.akn_json.specs.Reading.Nodes.{own_in, node_in, nodes_in}
use Rattle.akn_json.specs.Reading.Parts.{AreAt, ArePlacesOf, own_with, node_of_parts, shown, shown_at}
use Rattle.akn_json.specs.Reading.Reads.{Read, ◌>>=◌, ◌>>◌, broken, unless_broken}
use Rattle.akn_json.specs.Reading.Values.{seen, members_data, members_seen, are_known}
use Rattle.akn_json.specs.declared.fault.FormFault.{FormFault}
use Rattle.akn_json.specs.declared.fault.FormRule.TheVariants.{WrongShape}
use Rattle.akn_json.specs.declared.reading.key.Key.{Key}
use Rattle.akn_json.specs.declared.reading.key.Key.TheVariants as key
use Rattle.akn_json.specs.declared.reading.node_parts.Parts.{Parts}
use Rattle.akn_json.specs.declared.reading.node_parts.Places.{Places}
use Rattle.akn_json.specs.declared.reading.tables.TheConstants.{NODE}
use Rattle.akn_json.proofs.Values.{get_put, has_only_known, node_parts}

-- what is found at a key, where something is put at this name
abbrev behind : List ℕ → Option Data → Key → Option Data → Option Data
behind l o k old = cond (bytes_eq l (key_name k)) o old

behind_one : (l : List ℕ) (d : Data) (ms : Members) (k : Key) (old : Option Data) → old ≡ get_member (key_name k) ms → behind l (Some d) k old ≡ get_member (key_name k) (put l d ms)
behind_one l d ms k old is = ap (behind l (Some d) k) is ∙ sym (get_put (key_name k) l d ms)

module _ (all : List (Bor (List ℕ) × Value Global)) (p : Places) (d : Data) (ms : Members) (are : ArePlacesOf all p ms) where
  abbrev IsPutAt : Option Data → List ℕ → List ℕ → Type 0
  IsPutAt o k l =
      AreAt (λ x. get_member (key_name x) (put l d ms)) (behind k o key.Element (shown_at all p.element)) (behind k o key.Num (shown_at all p.num)) (behind k o key.Heading (shown_at all p.heading)) (behind k o key.Content (shown_at all p.content)) (behind k o key.Refs (shown_at all p.refs)) (behind k o key.Children (shown_at all p.children))

  put_same : (l : List ℕ) → IsPutAt (Some d) l l
  put_same l = (
    behind_one l d ms key.Element (shown_at all p.element) are.0,
    behind_one l d ms key.Num (shown_at all p.num) are.1,
    behind_one l d ms key.Heading (shown_at all p.heading) are.2,
    behind_one l d ms key.Content (shown_at all p.content) are.3,
    behind_one l d ms key.Refs (shown_at all p.refs) are.4,
    behind_one l d ms key.Children (shown_at all p.children) are.5,
  )

  -- with one member more at a name, the value at the key of the name is that of it, and the others stay
  pub put_at : (k l : List ℕ) → bytes_eq l k ≡ true → (o : Option Data) → o ≡ Some d → IsPutAt o k l
  put_at k l named o is = subst (λ x. IsPutAt x k l) (sym is) (subst (IsPutAt (Some d) k) (sym ((bytes_eq-Decides l k).0 named)) (put_same k))

-- the members up to the next one are those before it, with it put in
pub members_take : (xs : List (Bor (List ℕ) × Value Global)) (i : ℕ) (found : Members) (x : Bor (List ℕ) × Value Global) → i < length xs
    → members_data (members_view (take (suc i) xs)) found ≡ put (get_or xs i x).0.now (seen (get_or xs i x).1) (members_data (members_view (take i xs)) found)
members_take [] i found x within = absurd (omega arith)
members_take (y ∷ ys) zero found x within = refl
members_take (y ∷ ys) (suc i) found x within = members_take ys i (put y.0.now (seen y.1) found) x (omega arith)

members_suc : (xs : List (Bor (List ℕ) × Value Global)) (i : ℕ) (x : Bor (List ℕ) × Value Global) → i < length xs → members_seen (take (i + 1) xs) ≡ put (get_or xs i x).0.now (seen (get_or xs i x).1) (members_seen (take i xs))
members_suc xs i x within =
    let next : suc i ≡ i + 1 = omega arith in
    subst (λ n. members_seen (take n xs) ≡ put (get_or xs i x).0.now (seen (get_or xs i x).1) (members_seen (take i xs))) next (members_take xs i no_members x within)

-- so places of the members up to the next one are those of that with the ones before it
pub places_next : (xs : List (Bor (List ℕ) × Value Global)) (i : ℕ) (x : Bor (List ℕ) × Value Global) (p : Places) → i < length xs → x ≡ get_or xs i x
    → ArePlacesOf xs p (put x.0.now (seen x.1) (members_seen (take i xs))) → ArePlacesOf xs p (members_seen (take (i + 1) xs))
places_next xs i x p within here are =
    subst (ArePlacesOf xs p) (sym (members_suc xs i x within)) (subst (λ y. ArePlacesOf xs p (put y.0.now (seen y.1) (members_seen (take i xs)))) here are)

-- the value of the next one stands at its place
pub shown_here : (xs : List (Bor (List ℕ) × Value Global)) (i : ℕ) (x : Bor (List ℕ) × Value Global) → i < length xs → x ≡ get_or xs i x → shown_at xs (Some i) ≡ Some (seen x.1)
shown_here [] i x within here = absurd (omega arith)
shown_here (y ∷ ys) zero x within here = ap (λ z. Some (seen z.1)) (sym here)
shown_here (y ∷ ys) (suc i) x within here = shown_here ys i x (omega arith) here

-- and the ones behind it are known as all are, where it is
pub known_behind : (required optional : List Key) (xs : List (Bor (List ℕ) × Value Global)) (i : ℕ) (x : Bor (List ℕ) × Value Global) → i < length xs → x ≡ get_or xs i x
    → true ≡ (is_named x.0.now required || is_named x.0.now optional)
    → are_known required optional (members_view (drop i xs)) ≡ are_known required optional (members_view xs)
    → are_known required optional (members_view (drop (i + 1) xs)) ≡ are_known required optional (members_view xs)
known_behind required optional xs i x within here named all =
    ap (λ t. t && are_known required optional (members_view (drop (i + 1) xs))) (named ∙ ap (λ y. is_named y.0.now required || is_named y.0.now optional) here)
    ∙ sym (ap (λ ys. are_known required optional (members_view ys)) (drop_more xs i x within)) ∙ all

-- ---- the keys of a node

is_object : (d : Data) (ms : Members) → Some ms ≡ as_object d → object ms ≡ d
is_object null ms is = absurd (cc)
is_object (boolean b) ms is = absurd (cc)
is_object (number n) ms is = absurd (cc)
is_object (string s) ms is = absurd (cc)
is_object (array ds) ms is = absurd (cc)
is_object (object found) ms is = cc

-- what is no object is no node
pub no_object : (d : Data) → None ≡ as_object d → node_in d ≡ Err (broken WrongShape)
no_object null is = refl
no_object (boolean b) is = refl
no_object (number n) is = refl
no_object (string s) is = refl
no_object (array ds) is = refl
no_object (object ms) is = absurd (cc)

-- a node, of what is said of its keys and of the values at them
abbrev node_by : Read Unit → Option Data → Option Data → Option Data → Option Data → Option Data → Option Data → Read (Branch Own)
node_by m e n h c r b = (m >> own_with e n h c r) >>= λ own. read_or [] nodes_in b >>= λ below. Ok (branch own (branches_of below))

own_of_found : (d : Data) → own_in d
    ≡ (members_in NODE d >> own_with (get (key_name key.Element) d) (get (key_name key.Num) d) (get (key_name key.Heading) d) (get (key_name key.Content) d) (get (key_name key.Refs) d))
unfolding own_in own_with field_in optional_in
own_of_found d = refl

node_of_keys : (d : Data) → node_in d
    ≡ node_by (members_in NODE d) (get (key_name key.Element) d) (get (key_name key.Num) d) (get (key_name key.Heading) d) (get (key_name key.Content) d) (get (key_name key.Refs) d) (get (key_name key.Children) d)
node_of_keys d =
    node_parts d ∙ ap (λ r. r >>= λ own. read_or [] nodes_in (get (key_name key.Children) d) >>= λ below. Ok (branch own (branches_of below))) (own_of_found d)

node_without : (d : Data) (fault : FormFault) → members_in NODE d ≡ Err fault → node_in d ≡ Err fault
node_without d fault is =
    node_of_keys d
    ∙ ap (λ m. node_by m (get (key_name key.Element) d) (get (key_name key.Num) d) (get (key_name key.Heading) d) (get (key_name key.Content) d) (get (key_name key.Refs) d) (get (key_name key.Children) d)) is

node_with : (p : Parts) (d : Data) → members_in NODE d ≡ Ok tt → Some (seen p.element.now) ≡ get (key_name key.Element) d → Some (seen p.num.now) ≡ get (key_name key.Num) d → shown p.heading ≡ get (key_name key.Heading) d
    → shown p.content ≡ get (key_name key.Content) d → shown p.refs ≡ get (key_name key.Refs) d → shown p.children ≡ get (key_name key.Children) d → node_in d ≡ node_of_parts p
node_with p d is e n h c r b =
    let num = get (key_name key.Num) d in
    let heading = get (key_name key.Heading) d in
    let content = get (key_name key.Content) d in
    let refs = get (key_name key.Refs) d in
    let children = get (key_name key.Children) d in
    node_of_keys d
    ∙ ap (λ m. node_by m (get (key_name key.Element) d) num heading content refs children) is
    ∙ ap (λ x. node_by (Ok tt) x num heading content refs children) (sym e)
    ∙ ap (λ x. node_by (Ok tt) (Some (seen p.element.now)) x heading content refs children) (sym n)
    ∙ ap (λ x. node_by (Ok tt) (Some (seen p.element.now)) (Some (seen p.num.now)) x content refs children) (sym h)
    ∙ ap (λ x. node_by (Ok tt) (Some (seen p.element.now)) (Some (seen p.num.now)) (shown p.heading) x refs children) (sym c)
    ∙ ap (λ x. node_by (Ok tt) (Some (seen p.element.now)) (Some (seen p.num.now)) (shown p.heading) (shown p.content) x children) (sym r)
    ∙ ap (λ x. node_by (Ok tt) (Some (seen p.element.now)) (Some (seen p.num.now)) (shown p.heading) (shown p.content) (shown p.refs) x) (sym b)

-- what is said of the keys of an object, by whether it has none but those of a node, an element and a num
abbrev said : Bool → Bool → Bool → Read Unit
said known element num = unless_broken (broken WrongShape) (known && (element && (num && true)))

said_no_num : (t : Bool) → said true t false ≡ Err (broken WrongShape)
said_no_num true = refl
said_no_num false = refl

module _ (d : Data) (js : json.Members) (is : Some (members_data js no_members) ≡ as_object d) where
  keys_of_node : members_in NODE d ≡ said (are_known NODE.required NODE.optional js) (is_some (get (key_name key.Element) d)) (is_some (get (key_name key.Num) d))
  unfolding members_in has_members
  keys_of_node =
      subst (λ o. members_in NODE o ≡ said (are_known NODE.required NODE.optional js) (is_some (get (key_name key.Element) o)) (is_some (get (key_name key.Num) o))) (is_object d (members_data js no_members) is)
      (ap (λ t. said t (is_some (get (key_name key.Element) (object (members_data js no_members)))) (is_some (get (key_name key.Num) (object (members_data js no_members))))) (has_only_known NODE.required NODE.optional js))

  -- nor is an object with a member at another key
  pub unknown_key : are_known NODE.required NODE.optional js ≡ false → node_in d ≡ Err (broken WrongShape)
  unknown_key other =
      node_without d (broken WrongShape) (keys_of_node ∙ ap (λ t. said t (is_some (get (key_name key.Element) d)) (is_some (get (key_name key.Num) d))) other)

  there : (k : Key) (o : Option Data) → o ≡ get_member (key_name k) (members_data js no_members) → o ≡ get (key_name k) d
  there k o found = subst (λ x. o ≡ get (key_name k) x) (is_object d (members_data js no_members) is) found

  known_keys : are_known NODE.required NODE.optional js ≡ true → members_in NODE d ≡ said true (is_some (get (key_name key.Element) d)) (is_some (get (key_name key.Num) d))
  known_keys known = keys_of_node ∙ ap (λ t. said t (is_some (get (key_name key.Element) d)) (is_some (get (key_name key.Num) d))) known

  -- nor one with no element
  pub no_element : (all : List (Bor (List ℕ) × Value Global)) (places : Places) → are_known NODE.required NODE.optional js ≡ true → ArePlacesOf all places (members_data js no_members) → None ≡ shown_at all places.element → node_in d ≡ Err (broken WrongShape)
  no_element all places known are lacks =
      let none : get (key_name key.Element) d ≡ None = sym (there key.Element (shown_at all places.element) are.0) ∙ sym lacks in
      node_without d (broken WrongShape) (known_keys known ∙ ap (λ o. said true (is_some o) (is_some (get (key_name key.Num) d))) none)

  -- nor one with no num
  pub no_num : (all : List (Bor (List ℕ) × Value Global)) (places : Places) → are_known NODE.required NODE.optional js ≡ true → ArePlacesOf all places (members_data js no_members) → None ≡ shown_at all places.num → node_in d ≡ Err (broken WrongShape)
  no_num all places known are lacks =
      let none : get (key_name key.Num) d ≡ None = sym (there key.Num (shown_at all places.num) are.1) ∙ sym lacks in
      node_without d (broken WrongShape)
      (known_keys known ∙ ap (λ o. said true (is_some (get (key_name key.Element) d)) (is_some o)) none ∙ said_no_num (is_some (get (key_name key.Element) d)))

  -- an object with both is the node that its parts make
  pub whole_node : (all : List (Bor (List ℕ) × Value Global)) (places : Places) (p : Parts) → are_known NODE.required NODE.optional js ≡ true → ArePlacesOf all places (members_data js no_members)
      → Some (seen p.element.now) ≡ shown_at all places.element → Some (seen p.num.now) ≡ shown_at all places.num → shown p.heading ≡ shown_at all places.heading
      → shown p.content ≡ shown_at all places.content → shown p.refs ≡ shown_at all places.refs → shown p.children ≡ shown_at all places.children → node_in d ≡ node_of_parts p
  whole_node all places p known are e n h c r b =
      let element : Some (seen p.element.now) ≡ get (key_name key.Element) d = e ∙ there key.Element (shown_at all places.element) are.0 in
      let num : Some (seen p.num.now) ≡ get (key_name key.Num) d = n ∙ there key.Num (shown_at all places.num) are.1 in
      node_with p d
      (known_keys known
      ∙ ap (λ t. said true t (is_some (get (key_name key.Num) d))) (ap is_some (sym element))
      ∙ ap (λ t. said true true t) (ap is_some (sym num)))
      element num
      (h ∙ there key.Heading (shown_at all places.heading) are.2)
      (c ∙ there key.Content (shown_at all places.content) are.3)
      (r ∙ there key.Refs (shown_at all places.refs) are.4)
      (b ∙ there key.Children (shown_at all places.children) are.5)

  -- and its children are what is found in it
  pub children_there : (all : List (Bor (List ℕ) × Value Global)) (places : Places) (p : Parts) → ArePlacesOf all places (members_data js no_members) → shown p.children ≡ shown_at all places.children → shown p.children ≡ get (key_name key.Children) d
  children_there all places p are b = b ∙ there key.Children (shown_at all places.children) are.5
