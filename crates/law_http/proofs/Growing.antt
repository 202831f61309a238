-- The entries only grow along the requests that are answered, and what is kept of them stays kept.
use Rattle.std.proofs.Common.{◌≡◌, ◌∙◌, sym, ap, subst, refl, ℕ, ◌≤◌, Bool, ◌⊎◌, inl, inr, List, [], ◌∷◌, ◌++◌, Option, None, Some, Result, Ok, Err, append_assoc, arith}
use Rattle.std.proofs.lemmas.List.{append-nil}
use Rattle.desk_base.specs.Crashes.{AreCrashes, Crashes, LeavesOnly}
use Rattle.law_register.specs.Desk.Commands.{AreSettled, Ends, IsFoundBetween, LeavesNoMore}
use Rattle.law_register.specs.Desk.States.{DeskState, Found, IsFoundOf, Standing, standing}
use Rattle.law_register.specs.declared.answer.past_key.PastKey.{PastKey}
use Rattle.law_register.specs.Register.Entering.{entered, entered_by, entry_of}
use Rattle.law_register.specs.Register.Verdicts.{verdict}
use Rattle.law_register.specs.declared.desk.command_fault.CommandFault.{CommandFault}
use Rattle.law_register.specs.declared.desk.command_fault.CommandFault.TheVariants as fails
use Rattle.law_register.specs.declared.law.command.Command.{Command}
use Rattle.law_register.specs.declared.register.entry.Entry.{Entry}
use Rattle.law_register.specs.declared.register.rules.Rule.{Rule}
use Rattle.law_register.specs.declared.register.verdict.Reply.{Reply as Outcome}
use Rattle.law_register.specs.declared.register.verdict.Verdict.{Verdict}
use Rattle.law_register.specs.declared.register.verdict.Verdict.TheVariants.{Accepted, Repeat, Refused}
use Rattle.akn_json.specs.declared.asked.Asked.{Asked}
use Rattle.law_http.specs.Asking.{asking_of}
use Rattle.law_http.specs.Lasting.{BeginWith, FindsAfter, IsFoundAmong, IsKept, StoodAmong}
use Rattle.law_http.specs.Serving.{Does, Serves, ServesAsking}
use Rattle.law_http.specs.Streaming.{AreServed, Exchange}
use Rattle.law_http.specs.declared.asking.Asking.{Asking}
use Rattle.law_http.specs.declared.asking.Asking.TheVariants as asks
use Rattle.law_http.specs.declared.refusal.RequestRefusal.{RequestRefusal}
use Rattle.law_http.specs.declared.response.Response.{Response}

begins_same : (a b : List Entry) → b ≡ a → BeginWith a b
begins_same a b e = ([], e ∙ sym (append-nil a))

pub begins_then : (a b c : List Entry) → BeginWith a b → BeginWith b c → BeginWith a c
begins_then a b c (xs, first) (ys, second) = (xs ++ ys, second ∙ ap (λ l. l ++ ys) first ∙ append_assoc a xs ys)

pub settled_begin : (entries : List Entry) (pending : Option Entry) (settled : List Entry) → AreSettled entries pending settled → BeginWith entries settled
settled_begin entries None settled is = begins_same entries settled is
settled_begin entries (Some e) settled (inl is) = begins_same entries settled is
settled_begin entries (Some e) settled (inr is) = (e ∷ [], is)

entries_in : Result (List Entry × Outcome) Rule → List Entry → List Entry
entries_in (Ok p) other = p.0
entries_in (Err rule) other = other

by_verdict : (es : List Entry) (d : List ℕ) (r day : ℕ) (c : Command) (v : Verdict) (now : List Entry) (reply : Outcome)
    → entered_by es d r day c v ≡ Ok (now, reply) → BeginWith es now
unfolding entries_in
by_verdict es d r day c (Accepted law first) now reply h = (entry_of d r day law c ∷ [], sym (ap (λ x. entries_in x []) h))
by_verdict es d r day c (Repeat first) now reply h = begins_same es now (sym (ap (λ x. entries_in x []) h))
by_verdict es d r day c (Refused rule) now reply h = absurd (cc)

pub entered_begin : (es : List Entry) (d : List ℕ) (r day : ℕ) (c : Command) (now : List Entry) (reply : Outcome) → entered es d r day c ≡ Ok (now, reply) → BeginWith es now
unfolding entered
entered_begin es d r day c now reply h = by_verdict es d r day c (verdict es d r c) now reply h

ends_begin : (d : List ℕ) (r : ℕ) (c : Command) (old new : Standing) (result : Result Outcome CommandFault) → Ends d r c old new result → BeginWith old.entries new.entries
ends_begin d r c old new (Ok reply) is =
    begins_then old.entries is.settled new.entries (settled_begin old.entries old.pending is.settled is.begins.settles) (entered_begin is.settled d r is.day c new.entries reply is.entered)
ends_begin d r c old new (Err (fails.Rule rule)) is = settled_begin old.entries old.pending new.entries is.begins.settles
ends_begin d r c old new (Err fails.KeeperFault) (inl (waits, some)) = begins_same old.entries new.entries waits.entries
ends_begin d r c old new (Err fails.KeeperFault) (inr is) = settled_begin old.entries old.pending new.entries is.begins.settles
ends_begin d r c old new (Err fails.Memory) (inl waits) = begins_same old.entries new.entries waits.entries
ends_begin d r c old new (Err fails.Memory) (inr is) = settled_begin old.entries old.pending new.entries is.begins.settles

-- what one answer keeps of a desk of which it is told what a crash leaves: the entries grow, and a crash leaves what was found before, or what one of
-- both has
pub record Step {D : Type 0} (state : D → DeskState) (crashes : D → Crashes Found) (old new : D) : Type 0 where
  pub grows : BeginWith (state old).entries (state new).entries
  pub kept : IsKept state crashes old → IsKept state crashes new
  pub later : IsKept state crashes old → (crashes old).moment ≤ (crashes new).moment
  pub left : IsKept state crashes old → (t : ℕ) (found : Found) → t ≤ (crashes old).moment → (crashes new).left_since t found
      → (crashes old).left_since t found ⊎ IsFoundBetween (state old) (state new) found

same_step : {D : Type 0} (state : D → DeskState) (crashes : D → Crashes Found) (old new : D) → state new ≡ state old → LeavesNoMore (crashes old) (crashes new) → Step state crashes old new
same_step state crashes old new same crash =
    let only : IsKept state crashes old → LeavesOnly (crashes old).may_leave (crashes old) (crashes new) = λ k. crash k.tells in record {
      grows = begins_same (state old).entries (state new).entries (ap (λ (s : DeskState). s.entries) same);
      kept = λ k. record {
        tells = (only k).tells;
        tells_moments = ((only k).any_moment k.tells_moments).tells;
        durable = λ found may. subst (λ (s : DeskState). IsFoundOf s.entries s.pending found) (sym same) (k.durable found ((only k).now found may));
      };
      later = λ k. ((only k).any_moment k.tells_moments).later;
      left = λ k t found le since. sides (((only k).any_moment k.tells_moments).before t found le since) (λ may. inl (k.durable found may));
    }
  where
    sides : {A B C : Type 0} → A ⊎ B → (B → C) → A ⊎ C
    sides (inl a) f = inl a
    sides (inr b) f = inr (f b)

does_step : {D : Type 0} (state : D → DeskState) (crashes : D → Crashes Found) (past : D → List PastKey) (asked : Asked) (old new : D) (result : Result Outcome CommandFault)
    → Does state crashes past asked old new result → Step state crashes old new
does_step state crashes past asked old new result does =
    let only : IsKept state crashes old → LeavesOnly (IsFoundBetween (state old) (state new)) (crashes old) (crashes new) = λ k. does.crash k.tells in record {
      grows = ends_begin asked.drafter asked.request asked.command (standing (state old)) (standing (state new)) result does.outcome;
      kept = λ k. record {
        tells = (only k).tells;
        tells_moments = ((only k).any_moment k.tells_moments).tells;
        durable = does.durable (only k).tells;
      };
      later = λ k. ((only k).any_moment k.tells_moments).later;
      left = λ k. ((only k).any_moment k.tells_moments).before;
    }

pub asking_step : {D : Type 0} (state : D → DeskState) (crashes : D → Crashes Found) (past : D → List PastKey) (closes : Bool) (asking : Result Asking RequestRefusal) (old new : D) (response : Response)
    → ServesAsking state crashes past closes asking old new response → Step state crashes old new
asking_step state crashes past closes (Err refusal) old new response (stays, says) = same_step state crashes old new stays.same stays.crash
asking_step state crashes past closes (Ok asks.Front) old new response (stays, says) = same_step state crashes old new stays.same stays.crash
asking_step state crashes past closes (Ok (asks.Text text)) old new response (stays, says) = same_step state crashes old new stays.same stays.crash
asking_step state crashes past closes (Ok (asks.Preview preview)) old new response (stays, says) = same_step state crashes old new stays.same stays.crash
asking_step state crashes past closes (Ok (asks.Draft drafter)) old new response (stays, says) = same_step state crashes old new stays.same stays.crash
asking_step state crashes past closes (Ok (asks.Command asked)) old new response (inl (stays, says)) = same_step state crashes old new stays.same stays.crash
asking_step state crashes past closes (Ok (asks.Command asked)) old new response (inr (result, does, says)) = does_step state crashes past asked old new result does

pub step_of : {D : Type 0} (state : D → DeskState) (crashes : D → Crashes Found) (past : D → List PastKey) (e : Exchange) (old new : D) → Serves state crashes past e.request old new e.response → Step state crashes old new
step_of state crashes past e old new serves = asking_step state crashes past e.request.closes (asking_of e.request) old new e.response serves

pub entries_grow : {D : Type 0} (state : D → DeskState) (crashes : D → Crashes Found) (past : D → List PastKey) (es : List Exchange) (old new : D) → AreServed state crashes past es old new → BeginWith (state old).entries (state new).entries
entries_grow state crashes past [] old new same = begins_same (state old).entries (state new).entries (ap (λ d. (state d).entries) same)
entries_grow state crashes past (e ∷ es) old new (mid, serves, more) =
    begins_then (state old).entries (state mid).entries (state new).entries (step_of state crashes past e old mid serves).grows (entries_grow state crashes past es mid new more)

pub kept_on : {D : Type 0} (state : D → DeskState) (crashes : D → Crashes Found) (past : D → List PastKey) (es : List Exchange) (old new : D) → AreServed state crashes past es old new → IsKept state crashes old → IsKept state crashes new
kept_on state crashes past [] old new same kept = subst (IsKept state crashes) (sym same) kept
kept_on state crashes past (e ∷ es) old new (mid, serves, more) kept = kept_on state crashes past es mid new more ((step_of state crashes past e old mid serves).kept kept)

pub moments_on : {D : Type 0} (state : D → DeskState) (crashes : D → Crashes Found) (past : D → List PastKey) (es : List Exchange) (old new : D) → AreServed state crashes past es old new → IsKept state crashes old → (crashes old).moment ≤ (crashes new).moment
moments_on state crashes past [] old new same kept = subst (λ d. (crashes old).moment ≤ (crashes d).moment) (sym same) (omega arith)
moments_on state crashes past (e ∷ es) old new (mid, serves, more) kept =
    let step = step_of state crashes past e old mid serves in
    omega (arith, step.later kept, moments_on state crashes past es mid new more (step.kept kept))

-- where a desk stood among more
stood_behind : {D : Type 0} (state : D → DeskState) (crashes : D → Crashes Found) (past : D → List PastKey) (e : Exchange) (es : List Exchange) (old mid new desk : D)
    → Serves state crashes past e.request old mid e.response → StoodAmong state crashes past es mid new desk → StoodAmong state crashes past (e ∷ es) old new desk
stood_behind state crashes past e es old mid new desk serves s = record {
  before = e ∷ s.before;
  after = s.after;
  are = ap (λ l. e ∷ l) s.are;
  served = (mid, serves, s.served);
  serves = s.serves;
}

found_behind : {D : Type 0} (state : D → DeskState) (crashes : D → Crashes Found) (past : D → List PastKey) (e : Exchange) (es : List Exchange) (old mid new : D) (found : Found)
    → Serves state crashes past e.request old mid e.response → IsFoundAmong state crashes past es mid new found → IsFoundAmong state crashes past (e ∷ es) old new found
found_behind state crashes past e es old mid new found serves f = record {
  desk = f.desk;
  stood = stood_behind state crashes past e es old mid new f.desk serves f.stood;
  is = f.is;
  grew = begins_then (state old).entries (state mid).entries (state f.desk).entries (step_of state crashes past e old mid serves).grows f.grew;
  grows = f.grows;
}

found_first : {D : Type 0} (state : D → DeskState) (crashes : D → Crashes Found) (past : D → List PastKey) (es : List Exchange) (old new : D) (found : Found)
    → AreServed state crashes past es old new → IsFoundOf (state old).entries (state old).pending found → IsFoundAmong state crashes past es old new found
found_first state crashes past es old new found served is = record {
  desk = old;
  stood = record { before = []; after = es; are = refl; served = refl; serves = served };
  is = is;
  grew = begins_same (state old).entries (state old).entries refl;
  grows = entries_grow state crashes past es old new served;
}

-- what a crash since a moment before these left before them, or one of the desks among them
left_among : {D : Type 0} (state : D → DeskState) (crashes : D → Crashes Found) (past : D → List PastKey) (es : List Exchange) (old new : D) → AreServed state crashes past es old new → IsKept state crashes old
    → (t : ℕ) (found : Found) → t ≤ (crashes old).moment → (crashes new).left_since t found → (crashes old).left_since t found ⊎ IsFoundAmong state crashes past es old new found
left_among state crashes past [] old new same kept t found le since = inl (subst (λ d. (crashes d).left_since t found) same since)
left_among state crashes past (e ∷ es) old new (mid, serves, more) kept t found le since =
    let step = step_of state crashes past e old mid serves in
    by (left_among state crashes past es mid new more (step.kept kept) t found (omega (arith, le, step.later kept)) since)
  where
    early : (crashes old).left_since t found ⊎ IsFoundBetween (state old) (state mid) found → (crashes old).left_since t found ⊎ IsFoundAmong state crashes past (e ∷ es) old new found
    early (inl before) = inl before
    early (inr (inl is)) = inr (found_first state crashes past (e ∷ es) old new found (mid, serves, more) is)
    early (inr (inr is)) = inr (found_behind state crashes past e es old mid new found serves (found_first state crashes past es mid new found more is))

    by : (crashes mid).left_since t found ⊎ IsFoundAmong state crashes past es mid new found → (crashes old).left_since t found ⊎ IsFoundAmong state crashes past (e ∷ es) old new found
    by (inl before) = early ((step_of state crashes past e old mid serves).left kept t found le before)
    by (inr later) = inr (found_behind state crashes past e es old mid new found serves later)

-- a crash at any moment since the first of these
pub found_among : {D : Type 0} (state : D → DeskState) (crashes : D → Crashes Found) (past : D → List PastKey) → ((desk : D) → AreCrashes (crashes desk)) → (es : List Exchange) (old new : D) → AreServed state crashes past es old new
    → IsKept state crashes old → (found : Found) → (crashes new).left_since (crashes old).moment found → IsFoundAmong state crashes past es old new found
found_among state crashes past are es old new served kept found since =
    by (left_among state crashes past es old new served kept (crashes old).moment found (omega arith) since)
  where
    by : (crashes old).left_since (crashes old).moment found ⊎ IsFoundAmong state crashes past es old new found → IsFoundAmong state crashes past es old new found
    by (inl before) = found_first state crashes past es old new found served (kept.durable found ((are old).only_now kept.tells_moments found before))
    by (inr is) = is

found_begins : (entries : List Entry) (pending : Option Entry) (found : Found) → IsFoundOf entries pending found → FindsAfter entries found
found_begins entries None found is = (entries, is, begins_same entries entries refl)
found_begins entries (Some e) found (inl is) = (entries, is, begins_same entries entries refl)
found_begins entries (Some e) found (inr is) = (entries ++ e ∷ [], is, (e ∷ [], refl))

-- so it leaves what stood at that moment
pub found_after : {D : Type 0} (state : D → DeskState) (crashes : D → Crashes Found) (past : D → List PastKey) → ((desk : D) → AreCrashes (crashes desk)) → (es : List Exchange) (old new : D) → AreServed state crashes past es old new
    → IsKept state crashes old → (found : Found) → (crashes new).left_since (crashes old).moment found → FindsAfter (state old).entries found
found_after state crashes past are es old new served kept found since =
    let among = found_among state crashes past are es old new served kept found since in
    let (entries, is, begins) = found_begins (state among.desk).entries (state among.desk).pending found among.is in
    (entries, is, begins_then (state old).entries (state among.desk).entries entries among.grew begins)
