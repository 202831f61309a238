-- What is served, member by member, whatever answers.
use Rattle.std.proofs.Common.{◌≡◌, ◌∙◌, sym, ap, subst, refl, ℕ, ◌<◌, Bool, true, false, inl, inr, List, [], ◌∷◌, Option, None, Some, Err, arith}
use Rattle.std.specs.Prelude.{◌≢◌, ◌↔◌, ◌||◌, IsTrue}
use Rattle.std.specs.Bool.{then_some}
use Rattle.std.specs.Io.KnownBytes.{prepend_known}
use Rattle.law_http.specs.Exchanges.{IsServed}
use Rattle.law_http.specs.Hearing.{HeldNoRequest, IsHeardOf}
use Rattle.law_http.specs.Responses.{response_bytes}
use Rattle.law_http.specs.Streams.{KeepsRequest}
use Rattle.law_http.specs.Streaming.{AppendsAll, ArePut, EndsAs, HasReadCause, HasWriteCause, fault_told, refused}
use Rattle.law_http.specs.ServedMembers.{HasMemberCause, IsExchanged, IsMemberServed, Leaves, PutsBefore, Refuses, SpendsMember, GoesOn, end_behind, with_fault}
use Rattle.law_http.specs.declared.heard.HearFault.{HearFault}
use Rattle.law_http.specs.declared.heard.HearFault.TheVariants as faults
use Rattle.law_http.specs.declared.heard.Heard.{Heard}
use Rattle.law_http.specs.declared.heard.Heard.TheVariants as heard
use Rattle.law_http.specs.declared.heard.Request.{Request}
use Rattle.law_http.specs.declared.refusal.MessageRefusal.{MessageRefusal}
use Rattle.law_http.specs.declared.response.Response.{Response}
use Rattle.law_http.specs.declared.response.Response.TheVariants.{Made, MemoryFault, KeeperFault}
use Rattle.law_http.specs.declared.streaming.Served.{Served}
use Rattle.law_http.specs.declared.streaming.StreamEnd.{StreamEnd}
use Rattle.law_http.specs.declared.streaming.StreamEnd.TheVariants as ends
use Rattle.law_http.proofs.Said.{all_alone, alone, appends_none, cut_alone, end_heard, ends_then, first_alone, nothing_first, put_then, refusal_heard, told_both, until_here}

module _ {S : Type 0} (answers : Request → S → S → Response → Type 0) where
  pub served_then : (left rest over before mid now : Option (List ℕ)) (old here new : S) (told : Bool) (served : Served)
      → IsExchanged answers left rest before mid old here told → IsServed answers rest over mid now here new served
      → IsServed answers left over before now old new (with_fault told served)
  served_then left rest over before mid now old here new told served x s = record {
    exchanges = record { request = x.request; response = x.response } ∷ s.exchanges;
    closing = s.closing;
    answered = (here, x.answered, s.answered);
    ends = ends_then served.end left rest over x.request _ s.closing x.heard x.goes_on s.ends;
    puts = put_then served.end before mid now x.response _ x.had_memory x.written s.puts;
    faulted = told_both told served.faulted (fault_told x.response) _ x.faulted s.faulted;
  }

  -- nothing is answered any more
  closed : (end : StreamEnd) (left over before now : Option (List ℕ)) (here : S) (closing : List Response)
      → EndsAs end left over [] closing → ArePut end before now closing
      → IsServed answers left over before now here here (record { end = end; faulted = false })
  closed end left over before now here closing ends_ puts = record {
    exchanges = [];
    closing = closing;
    answered = refl;
    ends = ends_;
    puts = puts;
    faulted = (λ told. absurd (let e : false ≡ true = told in cc), λ some. absurd (some refl));
  }

  -- one request is answered, and the stream ends
  answered_last : (end : StreamEnd) (left over before now : Option (List ℕ)) (old new : S) (told : Bool) (request : Request) (response : Response)
      → answers request old new response → EndsAs end left over (request ∷ []) [] → ArePut end before now (response ∷ [])
      → (IsTrue told ↔ (fault_told response ≢ 0))
      → IsServed answers left over before now old new (record { end = end; faulted = told })
  answered_last end left over before now old new told request response answered ends_ puts faulted = record {
    exchanges = record { request = request; response = response } ∷ [];
    closing = [];
    answered = (new, answered, refl);
    ends = ends_;
    puts = puts;
    faulted = (λ is none. faulted.0 is (omega (arith, none)), λ some. faulted.1 (λ none. some (omega (arith, none))));
  }

  pub answered : (left rest over before now : Option (List ℕ)) (old new : S) (count after : ℕ) (told : Bool) (request : Request) (response : Response) (result : Option StreamEnd)
      → IsHeardOf left rest (heard.Request request) → answers request old new response
      → PutsBefore before now response count after (then_some request.closes ends.End) result → (IsTrue told ↔ (fault_told response ≢ 0))
      → IsMemberServed answers left rest over before now old new told result
  answered left rest over before now old new count after told request response result first is (inr (ended, part)) faulted =
      subst (IsMemberServed answers left rest over before now old new told) (sym ended)
      (answered_last ends.WriteFault left over before now old new told request response is
      (inl (first_alone left rest request first, inl refl)) (cut_alone before now response part.written) faulted)
  answered left rest over before now old new count after told request response result first is (inl (ended, put)) faulted =
      subst (IsMemberServed answers left rest over before now old new told) (sym ended) (by response request.closes refl is put.written faulted)
    where
      goes : (r : Response) (closes : Bool) → request.closes ≡ closes → r ≢ MemoryFault → answers request old new r → AppendsAll before now (response_bytes r)
          → (IsTrue told ↔ (fault_told r ≢ 0)) → IsMemberServed answers left rest over before now old new told (then_some closes ends.End)
      goes r true is_so had is written faulted =
          answered_last ends.End left over before now old new told request r is
          (all_alone left rest request first is_so, refl) (record { had_memory = (had, tt); written = alone before now r written }) faulted
      goes r false is_so had is written faulted = record {
        request = request;
        response = r;
        heard = first;
        goes_on = is_so;
        answered = is;
        had_memory = had;
        written = written;
        faulted = faulted;
      }

      by : (r : Response) (closes : Bool) → request.closes ≡ closes → answers request old new r → AppendsAll before now (response_bytes r)
          → (IsTrue told ↔ (fault_told r ≢ 0)) → IsMemberServed answers left rest over before now old new told (end_behind r (then_some closes ends.End))
      by (Made message closing) closes is_so is written faulted = goes (Made message closing) closes is_so (λ e. cc) is written faulted
      by MemoryFault closes is_so is written faulted =
          answered_last ends.Memory left over before now old new told request MemoryFault is
          (first_alone left rest request first, inl refl) (record { whole = []; are = refl; had_memory = tt; written = alone before now MemoryFault written }) faulted
      by (KeeperFault closing) closes is_so is written faulted = goes (KeeperFault closing) closes is_so (λ e. cc) is written faulted

  -- the last response is one that no request has
  pub said_last : (left rest over before now : Option (List ℕ)) (here : S) (count after : ℕ) (refusal : MessageRefusal) (result : Option StreamEnd)
      → IsHeardOf left rest (heard.Refused refusal) → Refuses before now refusal count after result
      → IsMemberServed answers left rest over before now here here false result
  said_last left rest over before now here count after refusal result is (response, inl made, inr (ended, part)) =
      subst (IsMemberServed answers left rest over before now here here false) (sym ended)
      (closed ends.WriteFault left over before now here (response ∷ [])
      (inr (refusal, refusal_heard left rest refusal is, ap (λ r. r ∷ []) made)) (cut_alone before now response part.written))
  said_last left rest over before now here count after refusal result is (response, inr fault, inr (ended, part)) =
      subst (IsMemberServed answers left rest over before now here here false) (sym ended)
      (closed ends.WriteFault left over before now here (response ∷ [])
      (inl (nothing_first left (response ∷ []), inr (ap (λ r. r ∷ []) fault))) (cut_alone before now response part.written))
  said_last left rest over before now here count after refusal result is (response, inl made, inl (ended, put)) =
      subst (IsMemberServed answers left rest over before now here here false) (sym (ended ∙ ap (λ r. end_behind r (Some (ends.Refused refusal))) made))
      (closed (ends.Refused refusal) left over before now here (response ∷ [])
      (refusal_heard left rest refusal is, ap (λ r. r ∷ []) made)
      (record { had_memory = ((λ e. let no : refused refusal ≡ MemoryFault = sym made ∙ e in cc), tt); written = alone before now response put.written }))
  said_last left rest over before now here count after refusal result is (response, inr fault, inl (ended, put)) =
      subst (IsMemberServed answers left rest over before now here here false) (sym (ended ∙ ap (λ r. end_behind r (Some (ends.Refused refusal))) fault))
      (closed ends.Memory left over before now here (response ∷ [])
      (nothing_first left (response ∷ []), inr (ap (λ r. r ∷ []) fault))
      (record { whole = []; are = ap (λ r. r ∷ []) fault; had_memory = tt; written = alone before now response put.written }))

  -- nothing was heard
  pub left_off : (left rest over before now : Option (List ℕ)) (here : S) (count after : ℕ) (bytes : List ℕ) (fault : HearFault) (result : Option StreamEnd)
      → KeepsRequest left (prepend_known bytes over) → HeldNoRequest {T = Heard} (Err fault) bytes
      → Leaves before now fault count after result → IsMemberServed answers left rest over before now here here false result
  left_off left rest over before now here count after bytes faults.ReadFault result kept held (ended, same, counted) =
      subst (IsMemberServed answers left rest over before now here here false) (sym ended)
      (closed ends.ReadFault left over before now here [] (until_here left over bytes kept held, refl) (record { had_memory = tt; written = appends_none before now same }))
  left_off left rest over before now here count after bytes faults.Memory result kept held (inl (ended, put)) =
      subst (IsMemberServed answers left rest over before now here here false) (sym ended)
      (closed ends.Memory left over before now here (MemoryFault ∷ []) (nothing_first left (MemoryFault ∷ []), inr refl)
      (record { whole = []; are = refl; had_memory = tt; written = alone before now MemoryFault put.written }))
  left_off left rest over before now here count after bytes faults.Memory result kept held (inr (ended, part)) =
      subst (IsMemberServed answers left rest over before now here here false) (sym ended)
      (closed ends.WriteFault left over before now here (MemoryFault ∷ []) (inl (nothing_first left (MemoryFault ∷ []), inr refl))
      (cut_alone before now MemoryFault part.written))

  -- the stream has ended
  pub come_to_end : (left rest over before now : Option (List ℕ)) (here : S) → IsHeardOf left rest heard.End → now ≡ before
      → IsMemberServed answers left rest over before now here here false (Some ends.End)
  come_to_end left rest over before now here is same =
      closed ends.End left over before now here [] (end_heard left rest is, refl) (record { had_memory = tt; written = appends_none before now same })

  -- what comes of a member is put together

  pub answered_by : (left rest over before now : Option (List ℕ)) (old new : S) (count after : ℕ) (told : Bool) (request : Request) (response : Response) (end result : Option StreamEnd)
      → IsHeardOf left rest (heard.Request request) → answers request old new response
      → PutsBefore before now response count after end result → end ≡ then_some request.closes ends.End → (IsTrue told ↔ (fault_told response ≢ 0))
      → IsMemberServed answers left rest over before now old new told result
  answered_by left rest over before now old new count after told request response end result first is puts ended faulted =
      answered left rest over before now old new count after told request response result first is
      (subst (λ e. PutsBefore before now response count after e result) ended puts) faulted

  pub member_moved : (left rest later_rest over before mid now : Option (List ℕ)) (old new : S) (told : Bool) (result : Option StreamEnd)
      → later_rest ≡ rest → mid ≡ before → IsMemberServed answers left rest over mid now old new told result
      → IsMemberServed answers left later_rest over before now old new told result
  member_moved left rest later_rest over before mid now old new told result same written member =
      subst (λ (r : Option (List ℕ)). IsMemberServed answers left r over before now old new told result) (sym same)
      (subst (λ (w : Option (List ℕ)). IsMemberServed answers left rest over w now old new told result) written member)

  -- the loop over members

  goes_on_then : (left here rest before written mid : Option (List ℕ)) (old at next : S) (told more both : Bool)
      → GoesOn answers left here before written old at told → IsExchanged answers here rest written mid at next more → both ≡ (told || more)
      → GoesOn answers left rest before mid old next both
  goes_on_then left here rest before written mid old at next told more both so_far member is over now new served s =
      subst (λ t. IsServed answers left over before now old new (record { end = served.end; faulted = t }))
      (regrouped told more served.faulted ∙ ap (λ t. t || served.faulted) (sym is))
      (so_far over now new (with_fault more served) (served_then here rest over written mid now at next new more served member s))
    where
      regrouped : (a b c : Bool) → (a || (b || c)) ≡ ((a || b) || c)
      regrouped true b c = refl
      regrouped false b c = refl

  pub goes_on_served : (left here rest over before written mid : Option (List ℕ)) (old at next : S) (told more both : Bool) (result : Option StreamEnd)
      → GoesOn answers left here before written old at told → IsMemberServed answers here rest over written mid at next more result → result ≡ None → both ≡ (told || more)
      → GoesOn answers left rest before mid old next both
  goes_on_served left here rest over before written mid old at next told more both result so_far member none is =
      goes_on_then left here rest before written mid old at next told more both so_far
      (subst (IsMemberServed answers here rest over written mid at next more) none member) is

  -- the member that ends the stream
  pub served_in_the_end : (left here rest over before written now : Option (List ℕ)) (old at new : S) (told more both : Bool) (result : Option StreamEnd) (end : StreamEnd)
      → GoesOn answers left here before written old at told → IsMemberServed answers here rest over written now at new more result → result ≡ Some end → both ≡ (told || more)
      → IsServed answers left over before now old new (record { end = end; faulted = both })
  served_in_the_end left here rest over before written now old at new told more both result end so_far member some is =
      subst (λ t. IsServed answers left over before now old new (record { end = end; faulted = t })) (sym is)
      (so_far over now new (record { end = end; faulted = more }) (subst (IsMemberServed answers here rest over written now at new more) some member))

-- causes

pub reads_as_before : (before now : Option (List ℕ)) (response : Response) (count after a b : ℕ) (end result : Option StreamEnd)
    → PutsBefore before now response count after end result → b ≡ a → HasMemberCause HasReadCause end a b → HasMemberCause HasReadCause result a b
reads_as_before before now response count after a b end result (inr (is, part)) same cause = subst (λ r. HasMemberCause HasReadCause r a b) (sym is) same
reads_as_before before now response count after a b end result (inl (is, put)) same cause =
    subst (λ r. HasMemberCause HasReadCause r a b) (sym is) (by response)
  where
    by : (r : Response) → HasMemberCause HasReadCause (end_behind r end) a b
    by (Made message closes) = cause
    by MemoryFault = same
    by (KeeperFault closes) = cause

pub writes_told : (before now : Option (List ℕ)) (response : Response) (count after : ℕ) (end result : Option StreamEnd)
    → PutsBefore before now response count after end result → (after ≡ count → HasMemberCause HasWriteCause end count after) → HasMemberCause HasWriteCause result count after
writes_told before now response count after end result (inr (is, part)) cause = subst (λ r. HasMemberCause HasWriteCause r count after) (sym is) part.rose
writes_told before now response count after end result (inl (is, put)) cause =
    subst (λ r. HasMemberCause HasWriteCause r count after) (sym is) (by response)
  where
    by : (r : Response) → HasMemberCause HasWriteCause (end_behind r end) count after
    by (Made message closes) = cause put.same
    by MemoryFault = put.same
    by (KeeperFault closes) = cause put.same

end_where_reads : (closes : Bool) (a b : ℕ) → b ≡ a → HasMemberCause HasReadCause (then_some closes ends.End) a b
end_where_reads true a b same = same
end_where_reads false a b same = same

end_where_writes : (closes : Bool) (a b : ℕ) → b ≡ a → HasMemberCause HasWriteCause (then_some closes ends.End) a b
end_where_writes true a b same = same
end_where_writes false a b same = same

pub reads_by : (before now : Option (List ℕ)) (response : Response) (count after a b : ℕ) (end result : Option StreamEnd) (closes : Bool)
    → PutsBefore before now response count after end result → end ≡ then_some closes ends.End → b ≡ a → HasMemberCause HasReadCause result a b
reads_by before now response count after a b end result closes puts is same =
    reads_as_before before now response count after a b end result puts same (subst (λ e. HasMemberCause HasReadCause e a b) (sym is) (end_where_reads closes a b same))

pub writes_by : (before now : Option (List ℕ)) (response : Response) (count after : ℕ) (end result : Option StreamEnd) (closes : Bool)
    → PutsBefore before now response count after end result → end ≡ then_some closes ends.End → HasMemberCause HasWriteCause result count after
writes_by before now response count after end result closes puts is =
    writes_told before now response count after end result puts (λ same. subst (λ e. HasMemberCause HasWriteCause e count after) (sym is) (end_where_writes closes count after same))

pub spent_on : (result : Option StreamEnd) (m n : ℕ) → result ≡ None → SpendsMember result m n → n < m
spent_on result m n none spent = subst (λ r. SpendsMember r m n) none spent

pub as_before : (cause : StreamEnd → ℕ → ℕ → Type 0) (result : Option StreamEnd) (a b : ℕ) → result ≡ None → HasMemberCause cause result a b → b ≡ a
as_before cause result a b none is = subst (λ r. HasMemberCause cause r a b) none is
