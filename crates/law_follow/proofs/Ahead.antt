-- What a replica has more than before, its batch has, too.
use Rattle.std.proofs.Common.{◌≡◌, ◌∙◌, sym, ap, subst, refl, arith, ℕ, ◌+◌, ◌<◌, ◌≤◌, List, [], ◌∷◌, ◌++◌, length, None, Ok, Option, Vec, append_assoc, length-append}
use Rattle.std.specs.Prelude.{IsTrue}
use Rattle.std.specs.declared.alloc.Global.{Global}
use Rattle.std.proofs.lemmas.List.{append-nil, map-append}
use Rattle.std.proofs.lemmas.List.Elements.{All-nil, All-push}
use Rattle.law_journal.specs.Grammar.{Listing, is_size}
use Rattle.law_keeper.specs.Keepers.{Holding, bytes_of}
use Rattle.law_keeper.specs.declared.readiness.Readiness.{Readiness}
use Rattle.law_register.specs.declared.register.entry.Entry.{Entry}
use Rattle.law_follow.specs.Batches.{AreSized, HasHeld, StaysAhead, batched}
use Rattle.law_follow.specs.Opening.{spellings}
use Rattle.law_follow.specs.Replicas.{Holds, HoldsReplica, payloads_of}
use Rattle.law_follow.specs.declared.batch.Batch.{Batch}
use Rattle.law_follow.specs.declared.replica.Pending.{Pending}
use Rattle.law_follow.specs.declared.replica.Replica.{Replica}
use Rattle.law_follow.proofs.Courses.{front_self}
use Rattle.law_follow.proofs.Handed.{none_given}

-- nothing has come
pub stays_unput : (old new : Replica) (before after : Batch) → new.end ≡ old.end → payloads_of new ≡ payloads_of old
    → after.payloads.items ≡ before.payloads.items → StaysAhead old new before after
stays_unput old new before after end same none = record {
  end = end;
  more = [];
  payloads = same ∙ sym (append-nil (payloads_of old));
  batch = ap bytes_of none ∙ sym (append-nil (batched before));
  sizes = λ sized. subst AreSized (sym none) sized;
}

pub stays_still : (replica : Replica) (batch : Batch) → StaysAhead replica replica batch batch
stays_still replica batch = stays_unput replica replica batch batch refl refl refl

pub stays_reserved : (old new : Replica) (batch : Batch) → new.end ≡ old.end → new.register.entries ≡ old.register.entries
    → StaysAhead old new batch batch
stays_reserved old new batch end same = stays_unput old new batch batch end (ap spellings same) refl

-- there was room made before
pub stays_behind : (old mid new : Replica) (before after : Batch) → mid.end ≡ old.end → mid.register.entries ≡ old.register.entries
    → StaysAhead mid new before after → StaysAhead old new before after
stays_behind old mid new before after end same stays = record {
  end = stays.end ∙ end;
  more = stays.more;
  payloads = stays.payloads ∙ ap (λ (es : List Entry). spellings es ++ stays.more) same;
  batch = stays.batch;
  sizes = stays.sizes;
}

-- one payload has come
pub gathered : (old new : Replica) (before after : Batch) (p : Pending) → new.end ≡ old.end → payloads_of new ≡ payloads_of old ++ p.payload.items ∷ []
    → after.payloads.items ≡ before.payloads.items ++ p.payload ∷ [] → IsTrue (is_size (length p.payload.items)) → StaysAhead old new before after
gathered old new before after p end grown put size = record {
  end = end;
  more = p.payload.items ∷ [];
  payloads = grown;
  batch = ap bytes_of put ∙ map-append (λ (v : Vec ℕ Global). v.items) before.payloads.items (p.payload ∷ []);
  sizes = λ sized. subst AreSized (sym put)
      (All-push (λ (v : Vec ℕ Global). IsTrue (is_size (length v.items))) before.payloads.items p.payload sized size);
}

-- a keeper that has all of a replica, and an empty batch
pub first_held : (h : Holding) (readiness : Readiness) (replica : Replica) (batch : Batch) → HoldsReplica h readiness replica → replica.pending ≡ None
    → batch.payloads.items ≡ [] → HasHeld (payloads_of replica) h readiness replica batch
first_held h readiness replica batch held settled none = record {
  now = record {
    given = payloads_of replica;
    held = subst (λ (p : Option (List ℕ)). Holds h readiness (payloads_of replica) p replica.end) (none_given replica.pending settled) held;
    ahead =
        sym (append-nil (payloads_of replica))
        ∙ ap (λ (l : List (Vec ℕ Global)). payloads_of replica ++ bytes_of l) (sym none);
    sizes = subst AreSized (sym none) (All-nil (λ (v : Vec ℕ Global). IsTrue (is_size (length v.items))));
  };
  begins = front_self (payloads_of replica);
}

-- more has come, of which the keeper was not told
pub stays_held : (first : List (List ℕ)) (h : Holding) (readiness : Readiness) (old new : Replica) (before after : Batch) → StaysAhead old new before after
    → HasHeld first h readiness old before → HasHeld first h readiness new after
stays_held first h readiness old new before after stays held = record {
  now = record {
    given = held.now.given;
    held = subst (λ (n : ℕ). Holds h readiness held.now.given None n) (sym stays.end) held.now.held;
    ahead =
        stays.payloads
        ∙ ap (λ (l : List (List ℕ)). l ++ stays.more) held.now.ahead
        ∙ append_assoc held.now.given (batched before) stays.more
        ∙ ap (λ (l : List (List ℕ)). held.now.given ++ l) (sym stays.batch);
    sizes = stays.sizes held.now.sizes;
  };
  begins = held.begins;
}

-- there are more payloads than at first, where the batch has some
pub more_held : (first : List (List ℕ)) (h : Holding) (readiness : Readiness) (replica : Replica) (batch : Batch) → HasHeld first h readiness replica batch
    → 1 ≤ length (batched batch) → length first < length (payloads_of replica)
more_held first h readiness replica batch held some =
    let long : length (payloads_of replica) ≡ length held.now.given + length (batched batch) =
    ap length held.now.ahead ∙ length-append held.now.given (batched batch) in
    let old : length held.now.given ≡ length first + length held.begins.0 =
    ap length (sym held.begins.1) ∙ length-append first held.begins.0 in
    omega (arith, long, old, some)

-- the keeper has all, where the batch is empty
pub all_held : (first : List (List ℕ)) (h : Holding) (readiness : Readiness) (replica : Replica) (batch : Batch) → HasHeld first h readiness replica batch
    → batch.payloads.items ≡ [] → h.tells → h.list ≡ Ok (payloads_of replica)
all_held first h readiness replica batch held none told = held.now.held.list told ∙ ap (λ (l : List (List ℕ)). listing l) (sym all)
  where
    listing : List (List ℕ) → Listing
    listing l = Ok l

    all : payloads_of replica ≡ held.now.given
    all =
        held.now.ahead
        ∙ ap (λ (l : List (Vec ℕ Global)). held.now.given ++ bytes_of l) none
        ∙ append-nil held.now.given
