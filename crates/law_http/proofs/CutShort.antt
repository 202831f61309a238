-- What was read holds no whole request as long as more of it is asked for.
use Rattle.std.proofs.Common.{◌≡◌, ℕ, ◌+◌, ◌<◌, ◌≤◌, true, false, List, [], ◌∷◌, ◌++◌, length, take, drop, Option, None, Some, Result, Ok, Err, refl, sym, ap, subst, ◌∙◌, arith, length-append, take-append-drop}
use Rattle.std.specs.Prelude.{Bool, is_err, nat_lt}
use Rattle.std.proofs.lemmas.Bool.{lt-leb, lt-ltb}
use Rattle.std.proofs.lemmas.List.{take-append-le}
use Rattle.law_http.specs.Cutting.{IsHeadOf, after_empty_lines, head_end, head_length, or_refusal}
use Rattle.law_http.specs.Heads.{IsSaid}
use Rattle.law_http.specs.Hearing.{HeldNoRequest, HoldsNoRequest, IsHeardBy, IsHeardFrom, with_body}
use Rattle.law_http.specs.declared.cutting.TheConstants.{MAX_HEAD}
use Rattle.law_http.specs.declared.head.Framing.{Framing}
use Rattle.law_http.specs.declared.heard.HearFault.{HearFault}
use Rattle.law_http.specs.declared.heard.HearFault.TheVariants as faults
use Rattle.law_http.specs.declared.heard.Heard.TheVariants as heard
use Rattle.law_http.specs.declared.refusal.MessageRefusal.{MessageRefusal}
use Rattle.law_http.specs.declared.refusal.MessageRefusal.TheVariants.{Truncated}
use Rattle.law_http.proofs.EmptyLines.{begins_on}
use Rattle.law_http.proofs.HeadEnds.{head_append, head_long}
use Rattle.law_http.proofs.Members.{heard_from, made}

pub held : {T : Type 0} (result : Result T HearFault) (bytes : List ℕ) → HoldsNoRequest bytes → HeldNoRequest result bytes
held (Ok value) bytes holds = tt
held (Err faults.ReadFault) bytes holds = holds
held (Err faults.Memory) bytes holds = tt

-- truncated bytes
truncated : (bytes : List ℕ) → after_empty_lines bytes ≡ bytes → IsHeardFrom bytes (heard.Refused Truncated, bytes) → HoldsNoRequest bytes
truncated bytes begins is = record {
  member = heard.Refused Truncated;
  behind = bytes;
  is_first = subst (λ (t : List ℕ). IsHeardFrom t (heard.Refused Truncated, bytes)) (sym begins) is;
  is_cut_short = refl;
}

-- no head has come
no_head : (end : Option ℕ) (short : Bool) → is_err (or_refusal end short) ≡ true → short ≡ true → or_refusal end short ≡ Err Truncated
no_head (Some n) short none is = absurd (cc none)
no_head None true none is = refl
no_head None false none is = absurd (cc is)

by_bytes : (bytes : List ℕ) → after_empty_lines bytes ≡ bytes → head_length bytes ≡ Err Truncated → HoldsNoRequest bytes
by_bytes [] begins is = record { member = heard.End; behind = []; is_first = refl; is_cut_short = tt }
by_bytes (b ∷ bytes) begins is =
    truncated (b ∷ bytes) begins (subst (λ r. IsHeardBy r (b ∷ bytes) (heard.Refused Truncated, b ∷ bytes)) (sym is) refl)

pub before_head : (bytes : List ℕ) (head : Result ℕ MessageRefusal) → after_empty_lines bytes ≡ bytes → IsHeadOf bytes head
    → is_err head ≡ true → length bytes < MAX_HEAD → HoldsNoRequest bytes
before_head bytes head begins is none short =
    by_bytes bytes begins
    (no_head (head_end (take MAX_HEAD bytes)) (nat_lt (length bytes) MAX_HEAD) (ap is_err (sym is.value) ∙ none)
    (lt-ltb (length bytes) MAX_HEAD short))

-- a head has come, and its body has not
pub before_body : (bytes more : List ℕ) (n : ℕ) (f : Framing) → after_empty_lines bytes ≡ bytes → head_length bytes ≡ Ok n
    → n ≤ length bytes → IsSaid (take n bytes) (Ok f) → take (length bytes) more ≡ bytes → length more < n + f.length → HoldsNoRequest more
before_body bytes more n f begins found within said front wanting =
    subst HoldsNoRequest whole (truncated all (begins_on bytes later begins (head_long bytes n found)) here)
  where
    later : List ℕ
    later = drop (length bytes) more

    all : List ℕ
    all = bytes ++ later

    whole : all ≡ more
    whole = ap (λ l. l ++ later) (sym front) ∙ take-append-drop (length bytes) more

    head : take n all ≡ take n bytes
    head = take-append-le n bytes later within

    cut : (heard.Refused Truncated, all) ≡ with_body n f all
    cut = sym (ap (made n f all) (lt-leb (n + f.length) (length all) (omega (arith, ap length whole, wanting))))

    by : IsHeardBy (Ok n) all (heard.Refused Truncated, all)
    by = (Ok f, subst (λ (t : List ℕ). IsSaid t (Ok f)) (sym head) said, cut)

    here : IsHeardFrom all (heard.Refused Truncated, all)
    here =
        heard_from all (heard.Refused Truncated, all) (omega (arith, length-append bytes later, head_long bytes n found))
        (subst (λ r. IsHeardBy r all (heard.Refused Truncated, all)) (sym (head_append bytes later n found)) by)
