-- What is amiss, one word on and behind the last.
use Rattle.std.proofs.Common.{◌≡◌, ◌+◌, ◌<◌, ◌≤◌, ℕ, List, [], Some, drop, get_or, length, refl}
use Rattle.std.proofs.lemmas.List.{drop_more, drop_all}
use Rattle.std.specs.Prelude.{cond}
use Rattle.lawdesk.specs.Amiss.{amiss_from, is_wanted}
use Rattle.lawdesk.specs.declared.amiss.Wanted.{Wanted}
use Rattle.lawdesk.specs.declared.amiss.Wanted.TheVariants.{Command, Nothing}

pub amiss_at : (wants : List Wanted) (words : List (List ℕ)) (index : ℕ) → index < length wants → index < length words
    → amiss_from index (drop index wants) (drop index words)
    ≡ cond (is_wanted (get_or wants index Command) (get_or words index []))
    (amiss_from (index + 1) (drop (index + 1) wants) (drop (index + 1) words))
    (Some (record { index = index; wanted = get_or wants index Command }))
amiss_at wants words index some more = rw (drop_more wants index Command some, drop_more words index [] more) refl

pub amiss_behind : (wants : List Wanted) (words : List (List ℕ)) (index : ℕ) → length wants ≤ index → index < length words
    → amiss_from index (drop index wants) (drop index words) ≡ Some (record { index = index; wanted = Nothing })
amiss_behind wants words index none more = rw (drop_all index wants none, drop_more words index [] more) refl
