-- How what is heard, said and written goes on behind a request that is answered.
use Rattle.std.proofs.Common.{◌≡◌, ◌∙◌, sym, ap, subst, refl, ℕ, zero, suc, ◌+◌, Bool, true, false, inl, inr, List, [], ◌∷◌, ◌++◌, Option, None, Some, Result, Ok, Err, append_assoc, arith}
use Rattle.std.specs.Prelude.{◌≢◌, ◌↔◌, ◌||◌, IsTrue, IsFalse}
use Rattle.std.specs.Io.KnownBytes.{append_known, prepend_known}
use Rattle.std.proofs.lemmas.List.{append-nil}
use Rattle.desk_base.specs.Streams.{Appended, AppendsFront, HasCause}
use Rattle.desk_base.specs.declared.source.Failed.{Failed}
use Rattle.law_http.specs.Hearing.{HoldsNoRequest, IsHeardOf}
use Rattle.law_http.specs.Responses.{response_bytes}
use Rattle.law_http.specs.Streaming.{AppendsAll, AreCut, ArePut, EndsAs, HearsAll, HearsFirst, HearsUntil, responses_bytes}
use Rattle.law_http.specs.Streams.{KeepsRequest}
use Rattle.law_http.specs.ServedMembers.{PutsBefore, end_after, end_behind}
use Rattle.law_http.specs.declared.heard.Heard.{Heard}
use Rattle.law_http.specs.declared.heard.Heard.TheVariants as heard
use Rattle.law_http.specs.declared.heard.Request.{Request}
use Rattle.law_http.specs.declared.refusal.MessageRefusal.{MessageRefusal}
use Rattle.law_http.specs.declared.response.Response.{Response}
use Rattle.law_http.specs.declared.response.Response.TheVariants.{MemoryFault}
use Rattle.law_http.specs.declared.streaming.StreamEnd.{StreamEnd}
use Rattle.law_http.specs.declared.streaming.StreamEnd.TheVariants as ends
use Rattle.law_http.proofs.LastHeard.{none_behind}

pub not_both : {A : Type 0} (b : Bool) → IsFalse b → IsTrue b → A
not_both b isnt is = absurd (let e : false ≡ true = sym isnt ∙ is in cc)

-- what is written

pub appends_none : (before now : Option (List ℕ)) → now ≡ before → AppendsAll before now []
appends_none None now same = tt
appends_none (Some xs) now same = same ∙ ap Some (sym (append-nil xs))

pub appends_then : (a b c : Option (List ℕ)) (xs ys : List ℕ) → AppendsAll a b xs → AppendsAll b c ys → AppendsAll a c (xs ++ ys)
appends_then None b c xs ys first second = tt
appends_then (Some before) b c xs ys first second =
    let here : AppendsAll (Some (before ++ xs)) c ys = subst (λ (o : Option (List ℕ)). AppendsAll o c ys) first second in
    here ∙ ap Some (append_assoc before xs ys)

pub front_then : (a b c : Option (List ℕ)) (xs ws bytes : List ℕ) → AppendsAll a b xs → AppendsFront (append_known b ws) c bytes → AppendsFront (append_known a (xs ++ ws)) c bytes
front_then None b c xs ws bytes first second = tt
front_then (Some before) b c xs ws bytes first second =
    let here : AppendsFront (Some ((before ++ xs) ++ ws)) c bytes = subst (λ (o : Option (List ℕ)). AppendsFront (append_known o ws) c bytes) first second in
    subst (λ (l : List ℕ). AppendsFront (Some l) c bytes) (append_assoc before xs ws) here

front_alone : (before now : Option (List ℕ)) (bytes : List ℕ) → AppendsFront before now bytes → AppendsFront (append_known before []) now bytes
front_alone None now bytes front = tt
front_alone (Some xs) now bytes front = subst (λ (l : List ℕ). AppendsFront (Some l) now bytes) (sym (append-nil xs)) front

-- one response alone
pub alone : (before now : Option (List ℕ)) (response : Response) → AppendsAll before now (response_bytes response) → AppendsAll before now (responses_bytes (response ∷ []))
alone before now response written = subst (AppendsAll before now) (sym (append-nil (response_bytes response))) written

pub cut_alone : (before now : Option (List ℕ)) (response : Response) → AppendsFront before now (response_bytes response) → AreCut before now (response ∷ [])
cut_alone before now response front = record {
  whole = [];
  last = response;
  are = refl;
  had_memory = tt;
  written = front_alone before now (response_bytes response) front;
}

pub put_then : (end : StreamEnd) (a b c : Option (List ℕ)) (response : Response) (said : List Response) → response ≢ MemoryFault
    → AppendsAll a b (response_bytes response) → ArePut end b c said → ArePut end a c (response ∷ said)
put_then ends.End a b c response said had written puts = record {
  had_memory = (had, puts.had_memory);
  written = appends_then a b c (response_bytes response) (responses_bytes said) written puts.written;
}
put_then (ends.Refused refusal) a b c response said had written puts = record {
  had_memory = (had, puts.had_memory);
  written = appends_then a b c (response_bytes response) (responses_bytes said) written puts.written;
}
put_then ends.ReadFault a b c response said had written puts = record {
  had_memory = (had, puts.had_memory);
  written = appends_then a b c (response_bytes response) (responses_bytes said) written puts.written;
}
put_then ends.WriteFault a b c response said had written puts = record {
  whole = response ∷ puts.whole;
  last = puts.last;
  are = ap (λ l. response ∷ l) puts.are;
  had_memory = (had, puts.had_memory);
  written = front_then a b c (response_bytes response) (responses_bytes puts.whole) (response_bytes puts.last) written puts.written;
}
put_then ends.Memory a b c response said had written puts = record {
  whole = response ∷ puts.whole;
  are = ap (λ l. response ∷ l) puts.are;
  had_memory = (had, puts.had_memory);
  written = appends_then a b c (response_bytes response) (responses_bytes said) written puts.written;
}

all_of : (before now : Option (List ℕ)) (bytes : List ℕ) (done : Unit {0}) → Appended {E = Failed} before now bytes (Ok done) → AppendsAll before now bytes
all_of None now bytes done written = tt
all_of (Some xs) now bytes done written = written

front_of : (before now : Option (List ℕ)) (bytes : List ℕ) (fault : Failed) → Appended {E = Failed} before now bytes (Err fault) → AppendsFront before now bytes
front_of None now bytes fault written = tt
front_of (Some xs) now bytes fault written = written

pub put_by : (before now : Option (List ℕ)) (response : Response) (count later : ℕ) (end result : Option StreamEnd) (put : Result Unit Failed)
    → Appended before now (response_bytes response) put → HasCause count later put → result ≡ end_after put (end_behind response end)
    → PutsBefore before now response count later end result
put_by before now response count later end result (Ok done) written cause is =
    inl (is, record { written = all_of before now (response_bytes response) done written; same = cause })
put_by before now response count later end result (Err fault) written cause is =
    inr (is, record { written = front_of before now (response_bytes response) fault written; rose = cause })

-- what is heard

pub all_then : (left rest : Option (List ℕ)) (request : Request) (requests : List Request) (more : List Heard) → IsHeardOf left rest (heard.Request request)
    → IsFalse request.closes → HearsAll rest requests more → HearsAll left (request ∷ requests) more
all_then None rest request requests more first goes_on then_ = tt
all_then (Some bytes) None request requests more first goes_on then_ = absurd first
all_then (Some bytes) (Some behind) request requests more first goes_on then_ = (behind, first, λ is. not_both request.closes goes_on is, λ _. then_)

pub first_then : (left rest : Option (List ℕ)) (request : Request) (requests : List Request) (closing : List Response) → IsHeardOf left rest (heard.Request request)
    → IsFalse request.closes → HearsFirst rest requests closing → HearsFirst left (request ∷ requests) closing
first_then None rest request requests closing first goes_on then_ = tt
first_then (Some bytes) None request requests closing first goes_on then_ = absurd first
first_then (Some bytes) (Some behind) request requests closing first goes_on then_ = (behind, first, λ is. not_both request.closes goes_on is, then_)

pub until_then : (left rest over : Option (List ℕ)) (request : Request) (requests : List Request) → IsHeardOf left rest (heard.Request request)
    → IsFalse request.closes → HearsUntil rest requests over → HearsUntil left (request ∷ requests) over
until_then None rest over request requests first goes_on then_ = tt
until_then (Some bytes) None over request requests first goes_on then_ = absurd first
until_then (Some bytes) (Some behind) None request requests first goes_on then_ = absurd then_
until_then (Some bytes) (Some behind) (Some later) request requests first goes_on then_ = (behind, first, goes_on, then_)

-- no request is heard any more
pub until_here : (left over : Option (List ℕ)) (part : List ℕ) → KeepsRequest left (prepend_known part over) → HoldsNoRequest part → HearsUntil left [] over
until_here None over part kept holds = tt
until_here (Some bytes) None part kept holds = absurd kept
until_here (Some bytes) (Some later) part kept holds = (part, holds, kept)

pub ends_then : (end : StreamEnd) (left rest over : Option (List ℕ)) (request : Request) (requests : List Request) (closing : List Response)
    → IsHeardOf left rest (heard.Request request) → IsFalse request.closes → EndsAs end rest over requests closing → EndsAs end left over (request ∷ requests) closing
ends_then ends.End left rest over request requests closing first goes_on (hears, none) =
    (all_then left rest request requests [] first goes_on hears, none)
ends_then (ends.Refused refusal) left rest over request requests closing first goes_on (hears, said) =
    (all_then left rest request requests (heard.Refused refusal ∷ []) first goes_on hears, said)
ends_then ends.ReadFault left rest over request requests closing first goes_on (hears, none) =
    (until_then left rest over request requests first goes_on hears, none)
ends_then ends.WriteFault left rest over request requests closing first goes_on (inl (hears, said)) =
    inl (first_then left rest request requests closing first goes_on hears, said)
ends_then ends.WriteFault left rest over request requests closing first goes_on (inr (refusal, hears, said)) =
    inr (refusal, all_then left rest request requests (heard.Refused refusal ∷ []) first goes_on hears, said)
ends_then ends.Memory left rest over request requests closing first goes_on (hears, said) =
    (first_then left rest request requests closing first goes_on hears, said)

-- the last request
pub all_alone : (left rest : Option (List ℕ)) (request : Request) → IsHeardOf left rest (heard.Request request) → IsTrue request.closes → HearsAll left (request ∷ []) []
all_alone None rest request first closes = tt
all_alone (Some bytes) None request first closes = absurd first
all_alone (Some bytes) (Some behind) request first closes = (behind, first, λ _. refl, λ isnt. not_both request.closes isnt closes)

pub first_alone : (left rest : Option (List ℕ)) (request : Request) → IsHeardOf left rest (heard.Request request) → HearsFirst left (request ∷ []) []
first_alone None rest request first = tt
first_alone (Some bytes) None request first = absurd first
first_alone (Some bytes) (Some behind) request first = (behind, first, λ _. (refl, refl), tt)

pub nothing_first : (left : Option (List ℕ)) (closing : List Response) → HearsFirst left [] closing
nothing_first None closing = tt
nothing_first (Some bytes) closing = tt

pub end_heard : (left rest : Option (List ℕ)) → IsHeardOf left rest heard.End → HearsAll left [] []
end_heard None rest is = tt
end_heard (Some bytes) None is = absurd is
end_heard (Some bytes) (Some behind) is = subst (λ (l : List ℕ). IsHeardOf (Some bytes) (Some l) heard.End) (none_behind bytes behind is) is

pub refusal_heard : (left rest : Option (List ℕ)) (refusal : MessageRefusal) → IsHeardOf left rest (heard.Refused refusal) → HearsAll left [] (heard.Refused refusal ∷ [])
refusal_heard None rest refusal is = tt
refusal_heard (Some bytes) None refusal is = absurd is
refusal_heard (Some bytes) (Some behind) refusal is = (behind, is, refl)

-- whether a fault was told

pub told_both : (f s : Bool) (a b : ℕ) → (IsTrue f ↔ (a ≢ 0)) → (IsTrue s ↔ (b ≢ 0)) → IsTrue (f || s) ↔ (a + b ≢ 0)
told_both true s a b first second = (λ _ none. first.0 refl (omega arith), λ _. refl)
told_both false s a b first second = (λ told none. second.0 told (omega arith), λ some. second.1 (λ zero_. some (both zero_)))
  where
    -- the first told none
    both : b ≡ 0 → a + b ≡ 0
    both zero_ = by a first
      where
        by : (n : ℕ) → (IsTrue false ↔ (n ≢ 0)) → n + b ≡ 0
        by zero h = omega (arith, zero_)
        by (suc n) h = absurd (let e : false ≡ true = h.1 (λ e. omega (arith, e)) in cc)
