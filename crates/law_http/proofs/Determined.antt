-- The bytes of a stream determine what is heard of it.
use Rattle.std.proofs.Common.{◌≡◌, ℕ, Bool, true, false, List, [], ◌∷◌, take, Option, None, Some, Result, Ok, Err, refl, sym, ap, subst, ◌∙◌, arith}
use Rattle.httparse.specs.Grammar.{RequestHead}
use Rattle.httparse.proofs.GrammarLemmas.{request_unique}
use Rattle.law_http.specs.Cutting.{after_empty_lines, head_length}
use Rattle.law_http.specs.Heads.{IsHead, IsSaid, framing}
use Rattle.law_http.specs.Hearing.{by_framing, IsHeardBy, IsHeardFrom, IsFirstHeard, AreHeard}
use Rattle.law_http.specs.declared.head.Framing.{Framing}
use Rattle.law_http.specs.declared.heard.Request.{Request}
use Rattle.law_http.specs.declared.heard.Heard.{Heard}
use Rattle.law_http.specs.declared.heard.Heard.TheVariants as heard
use Rattle.law_http.specs.declared.refusal.MessageRefusal.{MessageRefusal}

one_head : (bytes : List ℕ) (a b : Option RequestHead) → IsHead bytes a → IsHead bytes b → a ≡ b
one_head bytes None None x y = refl
one_head bytes None (Some k) x y = absurd (omega (arith, x k y.0, y.1))
one_head bytes (Some h) None x y = absurd (omega (arith, y h x.0, x.1))
one_head bytes (Some h) (Some k) x y = ap Some (request_unique bytes h k [] [] x.0 y.0).0

one_saying : (bytes : List ℕ) (a b : Result Framing MessageRefusal) → IsSaid bytes a → IsSaid bytes b → a ≡ b
one_saying bytes a b (h, x, is) (k, y, other) = is ∙ ap framing (one_head bytes h k x y) ∙ sym other

heard_by : (r : Result ℕ MessageRefusal) (bytes : List ℕ) (a b : Heard × List ℕ) → IsHeardBy r bytes a → IsHeardBy r bytes b → a ≡ b
heard_by (Ok n) bytes a b (said, x, is) (saying, y, other) =
    is ∙ ap (λ s. by_framing n s bytes) (one_saying (take n bytes) said saying x y) ∙ sym other
heard_by (Err refusal) bytes a b is other = is ∙ sym other

heard_from : (bytes : List ℕ) (a b : Heard × List ℕ) → IsHeardFrom bytes a → IsHeardFrom bytes b → a ≡ b
heard_from [] a b is other = is ∙ sym other
heard_from (c ∷ bytes) a b is other = heard_by (head_length (c ∷ bytes)) (c ∷ bytes) a b is other

pub one_first : (bytes rest later : List ℕ) (h k : Heard) → IsFirstHeard bytes h rest → IsFirstHeard bytes k later → (h ≡ k) × (rest ≡ later)
one_first bytes rest later h k is other =
    let same : ◌≡◌ {A = Heard × List ℕ} (h, rest) (k, later) = heard_from (after_empty_lines bytes) (h, rest) (k, later) is other in
    (ap (λ (m : Heard × List ℕ). m.0) same, ap (λ (m : Heard × List ℕ). m.1) same)

same_request : (a b : Request) → heard.Request a ≡ heard.Request b → a ≡ b
same_request a b e = cc e

pub all_same : (bytes : List ℕ) (hs ks : List Heard) → AreHeard bytes hs → AreHeard bytes ks → hs ≡ ks
all_same bytes [] [] x y = refl
all_same bytes [] (heard.End ∷ ks) x y = absurd y
all_same bytes [] (heard.Request b ∷ ks) x y = let (later, first, _, _) = y in absurd (cc (one_first bytes [] later heard.End (heard.Request b) x first).0)
all_same bytes [] (heard.Refused b ∷ ks) x y = let (later, first, _) = y in absurd (cc (one_first bytes [] later heard.End (heard.Refused b) x first).0)
all_same bytes (heard.End ∷ hs) ks x y = absurd x
all_same bytes (heard.Refused a ∷ hs) [] x y = let (rest, first, _) = x in absurd (cc (one_first bytes [] rest heard.End (heard.Refused a) y first).0)
all_same bytes (heard.Refused a ∷ hs) (heard.End ∷ ks) x y = absurd y
all_same bytes (heard.Refused a ∷ hs) (heard.Request b ∷ ks) x y =
    let (rest, first, _) = x in let (later, second, _, _) = y in
    absurd (cc (one_first bytes rest later (heard.Refused a) (heard.Request b) first second).0)
all_same bytes (heard.Refused a ∷ hs) (heard.Refused b ∷ ks) x y =
    let (rest, first, none) = x in let (later, second, nothing) = y in
    let same = (one_first bytes rest later (heard.Refused a) (heard.Refused b) first second).0 in
    λ i. same i ∷ (none ∙ sym nothing) i
all_same bytes (heard.Request a ∷ hs) [] x y = let (rest, first, _, _) = x in absurd (cc (one_first bytes [] rest heard.End (heard.Request a) y first).0)
all_same bytes (heard.Request a ∷ hs) (heard.End ∷ ks) x y = absurd y
all_same bytes (heard.Request a ∷ hs) (heard.Refused b ∷ ks) x y =
    let (rest, first, _, _) = x in let (later, second, _) = y in
    absurd (cc (one_first bytes rest later (heard.Request a) (heard.Refused b) first second).0)
all_same bytes (heard.Request a ∷ hs) (heard.Request b ∷ ks) x y =
    let (rest, first, ends, goes) = x in let (later, second, stops, follows) = y in
    let same = one_first bytes rest later (heard.Request a) (heard.Request b) first second in
    let request : a ≡ b = same_request a b same.0 in
    let more = by_closing a.closes refl ends goes (λ closes. stops (sym (ap (λ r. r.closes) request) ∙ closes))
    (λ on. subst (λ l. AreHeard l ks) (sym same.1) (follows (sym (ap (λ r. r.closes) request) ∙ on))) (all_same rest hs ks) in
    λ i. same.0 i ∷ more i
  where
    by_closing : {A B : Type 0} (t : Bool) → a.closes ≡ t → (a.closes ≡ true → hs ≡ []) → (a.closes ≡ false → A) → (a.closes ≡ true → ks ≡ []) → (a.closes ≡ false → B) → (A → B → hs ≡ ks) → hs ≡ ks
    by_closing true is ends goes stops follows later = ends is ∙ sym (stops is)
    by_closing false is ends goes stops follows later = later (goes is) (follows is)
