-- What a journal does, said of the keeper over it.
use Rattle.std.proofs.Common.{◌≡◌, ◌↔◌, ◌⊎◌, inl, inr, ⊎_elim, ℕ, ◌+◌, ◌-◌, ◌^◌, ◌<◌, min, Bool, true, false, is_ok, List, [], ◌∷◌, length, take, Option, Some, None, Result, Ok, Err, IsOk, IfOk, refl, sym, ◌∙◌, ap, subst, arith}
use Rattle.desk_base.specs.declared.load_fault.LoadFault.{LoadFault}
use Rattle.desk_base.specs.declared.load_fault.LoadFault.TheVariants.{Failed, Damaged, Memory}
use Rattle.law_journal.specs.Disks.{Outlook, IsOutlook, Idles}
use Rattle.law_journal.specs.Disks as disks
use Rattle.law_journal.specs.Journals as journals
use Rattle.law_journal.specs.Grammar.{Listing, gate_in, gate_number, list_of, with_last, with_more}
use Rattle.law_journal.specs.Journals.{HasList, GivesListed, GivesNth, KeepsGates, IsBeforeOrAfter}
use Rattle.std.proofs.lemmas.List.{take_all}
use Rattle.law_journal.proofs.Moments.{started}
use Rattle.law_journal.proofs.Resting.{gate_bound}
use Rattle.law_keeper.specs.Keepers.{IsOldOrSame, IsSettled, IsWithOrWithout, IsWithFront, LeavesOnly, LeavesOneOfTwo, LeavesFront, HaveSizes, Gives, Appends, AppendsAll, Becomes, BecomesMore, size_of}
use Rattle.law_keeper.specs.declared.keep_fault.KeepFault.{KeepFault}
use Rattle.law_keeper.specs.declared.keep_fault.KeepFault.TheVariants as keep
use Rattle.law_keeper.specs.JournalKeepers.{holding_of, readiness_of}
use Rattle.law_keeper.specs.declared.readiness.Readiness.TheVariants.{Ready}
use Rattle.law_keeper.proofs.Several.{more_none}

-- a keeper whose journal has a list is settled
pub settled : (o : Outlook) (gate : ℕ) → (o.tells → HasList o gate) → IsSettled (holding_of o)
settled o gate lists = record {
  has_list = λ t. ap is_ok (lists t).is_list;
  sizes = λ t. subst (λ (l : Listing). IfOk l HaveSizes) (sym (lists t).is_list) (lists t).sizes;
  first = λ t. ap (λ (l : Listing). gate_in l 8) (lists t).is_list ∙ (lists t).first;
  durable = λ t list left. sym left.2 ∙ ap list_of ((lists t).durable left.0 left.1);
}

-- lists in place of the files that stand for them
of_files : (P : List ℕ → Type 0) (Q : Listing → Type 0) (o n : Outlook) → ((file : List ℕ) → P file → Q (list_of file)) → disks.LeavesOnly P o n → LeavesOnly Q (holding_of o) (holding_of n)
of_files P Q o n leads run = record {
  tells = run.tells;
  now = λ list left. subst Q left.2 (leads left.0 (run.now left.0 left.1));
  any_moment = λ t. record {
    tells = run.tells;
    later = run.later;
    since = λ list left. subst Q left.2 (leads left.0 (run.since left.0 left.1));
    before = λ moment list le left. ⊎_elim
        (λ old. inl (left.0, old, left.2))
        (λ p. inr (subst Q left.2 (leads left.0 p)))
        (run.before moment left.0 le left.1);
  };
}

-- an opening leaves a list that could be left before, or the same
pub old_or_same : (o n : Outlook) → disks.LeavesOnly (journals.IsOldOrSame o) o n → LeavesOnly (IsOldOrSame (holding_of o)) (holding_of o) (holding_of n)
old_or_same o n run =
    of_files (journals.IsOldOrSame o) (IsOldOrSame (holding_of o)) o n
    (λ file either. ⊎_elim (λ old. inl (file, old, refl)) (λ same. inr same) either) run

-- what is read at a place is loaded at the cursor of that place
module _ (o n : Outlook) (idle : Idles o n) (gate : ℕ) (lists : o.tells → HasList o gate) (cursor place : ℕ) (at_place : place ≡ min (cursor + 8) (2 ^ 64 - 1)) where
  abbrev Read : Result (Option (List ℕ × ℕ)) LoadFault → Type 0
  Read result = o.tells → GivesListed o.seen place result

  nth : (result : Result (Option (List ℕ × ℕ)) LoadFault) → Read result → o.tells → (payloads : List (List ℕ)) (k : ℕ) → list_of o.seen ≡ Ok payloads → gate_in (list_of o.seen) (cursor + 8) ≡ Some k → GivesNth payloads k result
  nth result read t payloads k is at =
      let there : gate_number 8 payloads (cursor + 8) ≡ Some k = ap (λ (l : Listing). gate_in l (cursor + 8)) (sym is) ∙ at in
      let low = gate_bound o gate (lists t) payloads (cursor + 8) k is there in
      let exact : place ≡ cursor + 8 = omega (arith, at_place, low) in
      read t payloads k is (ap (λ p. gate_number 8 payloads p) exact ∙ there)

  pub some_given : (payload : List ℕ) (next : ℕ) → place < next → Read (Ok (Some (payload, next))) → Gives (holding_of o) cursor (holding_of n) (Ok (Some (payload, next - 8)))
  some_given payload next later read = λ t payloads k is at.
      let found = nth (Ok (Some (payload, next))) read t payloads k is at in
      let back : next - 8 + 8 ≡ next = omega (arith, at_place, later) in
      (found.0, ap (λ (l : Listing). gate_in l (next - 8 + 8)) (ap list_of idle.seen ∙ is) ∙ ap (λ p. gate_number 8 payloads p) back ∙ found.1)

  pub none_given : Read (Ok None) → Gives (holding_of o) cursor (holding_of n) (Ok None)
  none_given read = λ t payloads k is at. nth (Ok None) read t payloads k is at

  pub fault_given : (fault : LoadFault) → Read (Err fault) → Gives (holding_of o) cursor (holding_of n) (Err fault)
  fault_given Failed read = λ t payloads k is at. tt
  fault_given (Damaged p b) read = λ t payloads k is at. nth (Err (Damaged p b)) read t payloads k is at
  fault_given Memory read = λ t payloads k is at. tt

-- the cursor of the new end
new_end : (o : Outlook) (gate : ℕ) → HasList o gate → gate_in (list_of o.seen) (gate - 8 + 8) ≡ size_of (list_of o.seen)
new_end o gate h =
    let back : gate - 8 + 8 ≡ gate = omega (arith, h.size) in
    ap (λ (l : Listing). gate_in l (gate - 8 + 8)) h.is_list ∙ ap (λ p. gate_number 8 h.payloads p) back ∙ h.end ∙ sym (ap size_of h.is_list)

-- one payload more
last_more : (payload : List ℕ) (listing : Listing) → with_more (payload ∷ []) listing ≡ with_last payload listing
last_more payload (Ok payloads) = refl
last_more payload (Err damage) = refl

-- a file stands for a list with one payload more or without it
one_or_none : (old file payload : List ℕ) → IsBeforeOrAfter old (payload ∷ []) file → IsWithOrWithout (list_of old) payload (list_of file)
one_or_none old file payload (inl same) = inl same
one_or_none old file payload (inr more) = inr (more ∙ last_more payload (list_of old))

-- a crash leaves it or does not
pub leaves_one : (o n : Outlook) (payload : List ℕ) → (o.tells → disks.LeavesOnly (IsBeforeOrAfter o.seen (payload ∷ [])) o n) → LeavesOneOfTwo payload (holding_of o) (holding_of n)
leaves_one o n payload run = λ t. of_files (IsBeforeOrAfter o.seen (payload ∷ [])) (IsWithOrWithout (list_of o.seen) payload) o n (λ file either. one_or_none o.seen file payload either) (run t)

-- an append that failed, and one that was done
pub failed : (o n : Outlook) (payload : List ℕ) → (o.tells ↔ n.tells) → (o.tells → IsBeforeOrAfter o.seen (payload ∷ []) n.seen) → (o.tells → KeepsGates (list_of o.seen) (list_of n.seen)) → Appends payload (holding_of o) (holding_of n) (Err keep.Failed)
failed o n payload tells left gates = record {
  tells = tells;
  tells_crash = tells;
  list = λ t. one_or_none o.seen n.seen payload (left t);
  places = λ t cursor k at. gates t (cursor + 8) k at;
  end = λ t. tt;
}

pub done : (o n : Outlook) (payload : List ℕ) (gate : ℕ) → (o.tells ↔ n.tells) → (o.tells → list_of n.seen ≡ with_more (payload ∷ []) (list_of o.seen)) → (o.tells → KeepsGates (list_of o.seen) (list_of n.seen)) → (n.tells → HasList n gate)
    → Appends payload (holding_of o) (holding_of n) (Ok (gate - 8))
done o n payload gate tells added gates lists = record {
  tells = tells;
  tells_crash = tells;
  list = λ t. added t ∙ last_more payload (list_of o.seen);
  places = λ t cursor k at. gates t (cursor + 8) k at;
  end = λ t. new_end n gate (lists (tells.0 t));
}

-- several payloads behind a list or not are some of them, the first ones
all_or_none : (old : Listing) (payloads : List (List ℕ)) (list : Listing) → (list ≡ old) ⊎ (list ≡ with_more payloads old) → IsWithFront old payloads list
all_or_none old payloads list (inl same) = (0, same ∙ sym (more_none old))
all_or_none old payloads list (inr more) = (length payloads, more ∙ ap (λ (l : List (List ℕ)). with_more l old) (sym (take_all (length payloads) payloads (omega arith))))

-- a crash leaves all of them or none
pub leaves_some : (o n : Outlook) (payloads : List (List ℕ)) → (o.tells → disks.LeavesOnly (IsBeforeOrAfter o.seen payloads) o n) → LeavesFront payloads (holding_of o) (holding_of n)
leaves_some o n payloads run = λ t crash. of_files (IsBeforeOrAfter o.seen payloads) (IsWithFront (list_of o.seen) payloads) o n (λ file either. all_or_none (list_of o.seen) payloads (list_of file) either) (run t)

-- an append of several that failed, and one that was done
pub failed_all : (o n : Outlook) (payloads : List (List ℕ)) → (o.tells ↔ n.tells) → (o.tells → IsBeforeOrAfter o.seen payloads n.seen) → (o.tells → KeepsGates (list_of o.seen) (list_of n.seen)) → AppendsAll payloads (holding_of o) (holding_of n) (Err keep.Failed)
failed_all o n payloads tells left gates = record {
  tells = tells;
  tells_crash = tells;
  list = λ t. all_or_none (list_of o.seen) payloads (list_of n.seen) (left t);
  places = λ t cursor k at. gates t (cursor + 8) k at;
  end = λ t. tt;
}

pub done_all : (o n : Outlook) (payloads : List (List ℕ)) (gate : ℕ) → (o.tells ↔ n.tells) → (o.tells → list_of n.seen ≡ with_more payloads (list_of o.seen)) → (o.tells → KeepsGates (list_of o.seen) (list_of n.seen)) → (n.tells → HasList n gate)
    → AppendsAll payloads (holding_of o) (holding_of n) (Ok (gate - 8))
done_all o n payloads gate tells added gates lists = record {
  tells = tells;
  tells_crash = tells;
  list = added;
  places = λ t cursor k at. gates t (cursor + 8) k at;
  end = λ t. new_end n gate (lists (tells.0 t));
}

-- one that was not made
pub none_made : (o : Outlook) (payloads : List (List ℕ)) → AppendsAll payloads (holding_of o) (holding_of o) (Err keep.Memory)
none_made o payloads = record {
  tells = (λ t. t, λ t. t);
  tells_crash = (λ t. t, λ t. t);
  list = λ t. (0, sym (more_none (list_of o.seen)));
  places = λ t cursor k at. at;
  end = λ t. tt;
}

pub none_left : (o : Outlook) (payloads : List (List ℕ)) → IsOutlook o → (o.tells → disks.Only o.seen o.may_leave) → LeavesFront payloads (holding_of o) (holding_of o)
none_left o payloads is durable = λ t crash.
    let stays : (file : List ℕ) → o.may_leave file → IsWithFront (list_of o.seen) payloads (list_of file) =
    λ file left. (0, ap list_of (durable t file left) ∙ sym (more_none (list_of o.seen))) in
    of_files o.may_leave (IsWithFront (list_of o.seen) payloads) o o stays (started o.may_leave o is t (λ file left. left))

-- a list with one payload more is a list
ok_last : (payload : List ℕ) (listing : Listing) → IsOk listing → IsOk (with_last payload listing)
ok_last payload (Ok payloads) is = refl
ok_last payload (Err damage) is = absurd (cc is)

became : (old : Listing) (payload : List ℕ) (result : Result ℕ KeepFault) (new : Listing) → IsOk old → Becomes old payload result new → IsOk new
became old payload (Ok end) new is now = ap is_ok now ∙ ok_last payload old is
became old payload (Err keep.Failed) new is (inl same) = ap is_ok same ∙ is
became old payload (Err keep.Failed) new is (inr more) = ap is_ok more ∙ ok_last payload old is
became old payload (Err keep.Memory) new is now = ap is_ok now ∙ is

-- an append makes no damage
pub still_list : (o n : Outlook) (payload : List ℕ) (result : Result ℕ KeepFault) → Appends payload (holding_of o) (holding_of n) result → (o.tells → IsOk (list_of o.seen)) → n.tells → IsOk (list_of n.seen)
still_list o n payload result appended is told = became (list_of o.seen) payload result (list_of n.seen) (is (appended.tells.1 told)) (appended.list (appended.tells.1 told))

ok_more : (payloads : List (List ℕ)) (listing : Listing) → IsOk listing → IsOk (with_more payloads listing)
ok_more payloads (Ok others) is = refl
ok_more payloads (Err damage) is = absurd (cc is)

became_more : (old : Listing) (payloads : List (List ℕ)) (result : Result ℕ KeepFault) (new : Listing) → IsOk old → BecomesMore old payloads result new → IsOk new
became_more old payloads (Ok end) new is now = ap is_ok now ∙ ok_more payloads old is
became_more old payloads (Err fault) new is (count, some) = ap is_ok some ∙ ok_more (take count payloads) old is

-- nor does one of several
pub still_list_all : (o n : Outlook) (payloads : List (List ℕ)) (result : Result ℕ KeepFault) → AppendsAll payloads (holding_of o) (holding_of n) result → (o.tells → IsOk (list_of o.seen)) → n.tells → IsOk (list_of n.seen)
still_list_all o n payloads result appended is told = became_more (list_of o.seen) payloads result (list_of n.seen) (is (appended.tells.1 told)) (appended.list (appended.tells.1 told))

-- only a keeper that was opened is ready, and so is its journal
pub is_ready : (opened ready : Bool) → readiness_of opened ready ≡ Ready → (opened ≡ true) × (ready ≡ true)
is_ready true true is = (refl, refl)
is_ready true false is = absurd (cc is)
is_ready false ready is = absurd (cc is)
