-- Which part of the desk a request asks: by the path of its target, and then by its method.
use Rattle.std.specs.Prelude.{ℕ, zero, suc, Bool, true, ◌≡◌, refl, ◌==◌, ◌&&◌, bytes_eq, List, [], ◌∷◌, codes, is_some, Option, None, Some, option_map, Result, Ok, Err, if◌then◌else◌}
use Rattle.std.specs.Coded.{Coded, Coded-set, code_by, coded_ℕ, coded_option, Π_prop}
use Rattle.std.specs.List.{before_first, after_first}
use Rattle.matchit.specs.Router.{RouteOf}
use Rattle.matchit.specs.Rows.{RowsOf}
use Rattle.matchit.specs.Seek.{first}
use Rattle.law_http.specs.Queries.{has_keys, query_pairs, value_of}
use Rattle.law_http.specs.declared.route.Route.{Route}
use Rattle.law_http.specs.declared.route.Route.TheVariants as route
use Rattle.law_http.specs.declared.status.Allow.{Allow}
use Rattle.law_http.specs.declared.status.Allow.TheVariants.{Get, Post}
use Rattle.law_http.specs.declared.refusal.RequestRefusal.{RequestRefusal}
use Rattle.law_http.specs.declared.refusal.RequestRefusal.TheVariants.{NoRoute, WrongMethod, BadForm}

-- a question mark
abbrev pub is_question_mark : ℕ → Bool
is_question_mark byte = byte == 63

-- the target up to the first question mark (RFC 3986, section 3.3)
abbrev pub path_of : List ℕ → List ℕ
path_of target = before_first is_question_mark target

-- what stands behind the first question mark, or nothing (RFC 3986, section 3.4)
abbrev pub query_of : List ℕ → List ℕ
query_of target = after_first is_question_mark target

-- the paths, byte for byte
abbrev pub route_at : List ℕ → Option Route
route_at path =
    if bytes_eq (codes "/commands") path then Some route.Commands
    else (if bytes_eq (codes "/draft") path then Some route.Draft
    else (if bytes_eq (codes "/front") path then Some route.Front
    else (if bytes_eq (codes "/preview") path then Some route.Preview
    else (if bytes_eq (codes "/text") path then Some route.Text else None))))

-- a router leads from each path to what it stands for, and from any other text nowhere
abbrev pub LeadsFromPaths : RowsOf (RouteOf Route) → Type 0
LeadsFromPaths rows = (path : List ℕ) → option_map (λ found. found.value) (first rows path) ≡ route_at path

-- routes are told apart by a number, so a router leads from the paths in one way
abbrev pub route_number : Route → ℕ
route_number route.Front = 0
route_number route.Text = 1
route_number route.Preview = 2
route_number route.Draft = 3
route_number route.Commands = 4

abbrev pub route_numbered : ℕ → Route
route_numbered zero = route.Front
route_numbered (suc zero) = route.Text
route_numbered (suc (suc zero)) = route.Preview
route_numbered (suc (suc (suc zero))) = route.Draft
route_numbered (suc (suc (suc (suc _)))) = route.Commands

pub numbered_again : (r : Route) → route_numbered (route_number r) ≡ r
numbered_again route.Front = refl
numbered_again route.Text = refl
numbered_again route.Preview = refl
numbered_again route.Draft = refl
numbered_again route.Commands = refl

abbrev pub route_code : Coded Route
route_code = code_by ℕ coded_ℕ route_number route_numbered numbered_again

pub LeadsFromPaths-prop : (rows : RowsOf (RouteOf Route)) → IsProp (LeadsFromPaths rows)
LeadsFromPaths-prop rows =
    Π_prop (λ path. Coded-set (coded_option route_code) (option_map (λ found. found.value) (first rows path)) (route_at path))

-- the one method of a path
abbrev pub method_of : Route → Allow
method_of route.Front = Get
method_of route.Text = Get
method_of route.Preview = Get
method_of route.Draft = Get
method_of route.Commands = Post

abbrev pub has_method : List ℕ → Allow → Bool
has_method method Get = bytes_eq method (codes "GET")
has_method method Post = bytes_eq method (codes "POST")

-- the path decides before the method
abbrev pub with_method : List ℕ → Option Route → Result Route RequestRefusal
with_method method None = Err NoRoute
with_method method (Some found) =
    if has_method method (method_of found) then Ok found else Err (WrongMethod (method_of found))

-- what a request asks
abbrev pub route_of : List ℕ → List ℕ → Result Route RequestRefusal
route_of method target = with_method method (route_at (path_of target))

-- the keys that a route knows
abbrev pub known_keys : Route → List (List ℕ)
known_keys route.Front = []
known_keys route.Text = codes "expression" ∷ codes "viewpoint" ∷ codes "reading" ∷ []
known_keys route.Preview = codes "drafter" ∷ codes "expression" ∷ codes "reading" ∷ []
known_keys route.Draft = codes "drafter" ∷ []
known_keys route.Commands = []

-- the keys that a route needs are there
abbrev pub has_needed : Route → List (List ℕ × List ℕ) → Bool
has_needed route.Front pairs = true
has_needed route.Text pairs = is_some (value_of (codes "expression") pairs)
has_needed route.Preview pairs =
    is_some (value_of (codes "drafter") pairs) && is_some (value_of (codes "expression") pairs)
has_needed route.Draft pairs = is_some (value_of (codes "drafter") pairs)
has_needed route.Commands pairs = true

-- no key is unknown, none is there twice, and none is missing
abbrev pub has_keys_of : Route → List (List ℕ × List ℕ) → Bool
has_keys_of route pairs = has_keys (known_keys route) pairs && has_needed route pairs

-- the pairs, or the fault of their form
abbrev pub judged : Route → List (List ℕ × List ℕ) → Result (List (List ℕ × List ℕ)) RequestRefusal
judged route pairs = if has_keys_of route pairs then Ok pairs else Err (BadForm 2 0)

-- what the query of a target asks of a route
abbrev pub asked_of : Route → List ℕ → Result (List (List ℕ × List ℕ)) RequestRefusal
asked_of route target = judged route (query_pairs (query_of target))
