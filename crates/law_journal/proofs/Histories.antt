-- The bytes and the changes of a history, after one change more.
use Rattle.std.proofs.Common.{◌≡◌, inl, inr, ⊎_elim, ℕ, ◌+◌, ◌≤◌, Bool, true, false, ◌&&◌, ◌==◌, nat_le, List, [], ◌∷◌, ◌++◌, length, take, drop, if◌then◌else◌, refl, sym, ◌∙◌, ap, subst, arith, length-append, length-take, length-drop}
use Rattle.std.proofs.lemmas.List.{take_all, take-append-le, drop-append-le}
use Rattle.std.proofs.lemmas.Bool.Decides.{nat_tests}
use Rattle.law_journal.specs.Disks.{Torn, Cut, overwritten}
use Rattle.law_journal.specs.MemoryDisks.{HeldBytes, begun, after_change, count_of, total, after_changes, begins_within, all_within, painted_all, image_of, no_image}
use Rattle.law_journal.specs.MemoryLaws.{push_from}
use Rattle.law_journal.specs.declared.history.Change.{Change}
use Rattle.law_journal.specs.declared.history.Change.TheVariants as change
use Rattle.law_journal.proofs.MemorySteps.{outlook, torn_none, cut_none, cut_taken, torn_written}
use Rattle.law_journal.proofs.Painting.{take_all_painted, all_more, torn_painted}

fits_first : (done : Change) (later : List Change) (written : List ℕ) → total (done ∷ later) ≡ length written → count_of done ≤ length written
fits_first done later written is = omega (arith, is)

fits_later : (done : Change) (later : List Change) (written : List ℕ) → total (done ∷ later) ≡ length written → total later ≡ length (drop (count_of done) written)
fits_later done later written is = omega (arith, is, length-drop (count_of done) written)

empty : (written : List ℕ) → 0 ≡ length written → written ≡ []
empty [] is = refl
empty (b ∷ bs) is = absurd (omega (arith, is))

-- all that was written is that of the last change
its_own : (done : Change) (written new : List ℕ) → 0 ≡ length written → count_of done ≡ length new → take (count_of done) (written ++ new) ≡ new
its_own done written new is own = ap (λ (l : List ℕ). take (count_of done) (l ++ new)) (empty written is) ∙ take_all (count_of done) new (omega (arith, own))

-- after one change more, which wrote new bytes
pub changes_more : (changes : List Change) (done : Change) (h : HeldBytes) (written new : List ℕ) → total changes ≡ length written → count_of done ≡ length new
    → after_changes h (written ++ new) (changes ++ done ∷ []) ≡ after_change done new (after_changes h written changes)
changes_more [] done h written new is own = ap (λ (l : List ℕ). after_change done l h) (its_own done written new is own)
changes_more (first ∷ later) done h written new is own =
    let le = fits_first first later written is in
    let k = count_of first in
    ap (λ (l : List ℕ). after_changes (after_change first l h) (drop k (written ++ new)) (later ++ done ∷ [])) (take-append-le k written new le)
    ∙ ap (λ (l : List ℕ). after_changes (after_change first (take k written) h) l (later ++ done ∷ [])) (drop-append-le k written new le)
    ∙ changes_more later done (after_change first (take k written) h) (drop k written) new (fits_later first later written is) own

both : (a b : Bool) → a ≡ true → b ≡ true → (a && b) ≡ true
both true b left right = right
both false b left right = left

first_of_both : (a b : Bool) → (a && b) ≡ true → a ≡ true
first_of_both true b is = refl
first_of_both false b is = is

second_of_both : (a b : Bool) → (a && b) ≡ true → b ≡ true
second_of_both true b is = is
second_of_both false true is = refl
second_of_both false false is = is

-- each write began within the bytes, and so did the last
pub within_more : (changes : List Change) (done : Change) (h : HeldBytes) (written new : List ℕ) → total changes ≡ length written → count_of done ≡ length new
    → all_within h written changes ≡ true → begins_within done (after_changes h written changes).bytes ≡ true → all_within h (written ++ new) (changes ++ done ∷ []) ≡ true
within_more [] done h written new is own so_far last = both (begins_within done h.bytes) true last refl
within_more (first ∷ later) done h written new is own so_far last =
    let le = fits_first first later written is in
    let k = count_of first in
    let here = begins_within first h.bytes in
    let next = after_change first (take k written) h in
    let behind = all_within next (drop k written) later in
    both here _ (first_of_both here behind so_far)
    (ap (λ (l : List ℕ). all_within (after_change first l h) (drop k (written ++ new)) (later ++ done ∷ [])) (take-append-le k written new le)
    ∙ ap (λ (l : List ℕ). all_within next l (later ++ done ∷ [])) (drop-append-le k written new le)
    ∙ within_more later done next (drop k written) new (fits_later first later written is) own (second_of_both here behind so_far) last)

pub total_more : (changes : List Change) (done : Change) → total (changes ++ done ∷ []) ≡ total changes + count_of done
total_more [] done = omega arith
total_more (first ∷ later) done = omega (arith, total_more later done)

-- an image to be looked at, by whether the pick is 0 or 1
abbrev image_by : Bool → Bool → ℕ → HeldBytes → List ℕ
image_by zero_is one_is pick h = if zero_is then h.synced else if one_is then h.bytes else painted_all pick h.waiting h.bytes

module _ (pick : ℕ) where
  -- after a change that is one of the disk's a crash may leave the image, if it could before
  to_next : (zero_is one_is : Bool) (done : Change) (new : List ℕ) (h : HeldBytes) → count_of done ≡ length new → begins_within done h.bytes ≡ true
      → (outlook h).may_leave (image_by zero_is one_is pick h) → (outlook (after_change done new h)).may_leave (image_by zero_is one_is pick (after_change done new h))
  to_next true one_is (change.Write place n) new h own within left = inr (push_from no_image h.pasts (record { change = change.Write place n; before = h.bytes }) h.synced (h.synced, ⊎_elim (λ is. inr is) (λ im. inl im) left, torn_none place n h.synced))
  to_next true one_is (change.Cut n) new h own within left = inr (push_from no_image h.pasts (record { change = change.Cut n; before = h.bytes }) h.synced (h.synced, ⊎_elim (λ is. inr is) (λ im. inl im) left, cut_none n h.synced))
  to_next true one_is change.Sync new h own within left = inl refl
  to_next false true done new h own within left = inl refl
  to_next false false (change.Write place n) new h own within left =
      let begins : place ≤ length h.bytes = grind (arith, nat_tests, within) in
      let now = after_change (change.Write place n) new h in
      let image = painted_all pick h.waiting h.bytes in
      let image2 = painted_all pick now.waiting now.bytes in
      let torn = subst (λ k. Torn place k image (painted_all pick (h.waiting ++ change.Write place k ∷ []) now.bytes)) (sym own) (torn_painted pick h.waiting place new h.bytes begins) in
      inr (push_from no_image h.pasts (record { change = change.Write place n; before = h.bytes }) image2 (image, ⊎_elim (λ is. inr is) (λ im. inl im) left, torn))
  to_next false false (change.Cut n) new h own within left =
      let now = after_change (change.Cut n) new h in
      let image = painted_all pick h.waiting h.bytes in
      let image2 = painted_all pick now.waiting now.bytes in
      let is : image2 ≡ take n image = all_more pick h.waiting (change.Cut n) now.bytes ∙ sym (take_all_painted pick n h.waiting h.bytes) in
      inr (push_from no_image h.pasts (record { change = change.Cut n; before = h.bytes }) image2 (image, ⊎_elim (λ same. inr same) (λ im. inl im) left, subst (Cut n image) (sym is) (cut_taken n image)))
  to_next false false change.Sync new h own within left = inl refl

  own_of : (done : Change) (later : List Change) (written : List ℕ) → total (done ∷ later) ≡ length written → count_of done ≡ length (take (count_of done) written)
  own_of done later written is = omega (arith, is, length-take (count_of done) written)

  along : (zero_is one_is : Bool) (changes : List Change) (written : List ℕ) (h : HeldBytes) → total changes ≡ length written → all_within h written changes ≡ true
      → (outlook h).may_leave (image_by zero_is one_is pick h) → (outlook (after_changes h written changes)).may_leave (image_by zero_is one_is pick (after_changes h written changes))
  along zero_is one_is [] written h is within left = left
  along zero_is one_is (done ∷ later) written h is within left =
      let new = take (count_of done) written in
      let next = after_change done new h in
      let here = begins_within done h.bytes in
      let behind = all_within next (drop (count_of done) written) later in
      along zero_is one_is later (drop (count_of done) written) next (fits_later done later written is) (second_of_both here behind within)
      (to_next zero_is one_is done new h (own_of done later written is) (first_of_both here behind within) left)

  from_begun : (zero_is one_is : Bool) (bytes : List ℕ) → (outlook (begun bytes 0 0)).may_leave (image_by zero_is one_is pick (begun bytes 0 0))
  from_begun true one_is bytes = inl refl
  from_begun false true bytes = inl refl
  from_begun false false bytes = inl refl

  -- a crash may leave each image of bytes with their changes
  pub image_left : (first written : List ℕ) (changes : List Change) → total changes ≡ length written → all_within (begun first 0 0) written changes ≡ true
      → (outlook (after_changes (begun first 0 0) written changes)).may_leave (image_of pick (after_changes (begun first 0 0) written changes))
  image_left first written changes is within = along (pick == 0) (pick == 1) changes written (begun first 0 0) is within (from_begun (pick == 0) (pick == 1) first)

pub length_overwritten : (place : ℕ) (new old : List ℕ) → place ≤ length old → length (overwritten place new old) ≤ length old + length new
length_overwritten place new old le = omega (arith, (torn_written place new old le).no_longer)

-- one change more, which wrote these bytes
module _ (h : HeldBytes) (written : List ℕ) (changes : List Change) (whole : total changes ≡ length written)
    (done : Change) (new written2 : List ℕ) (changes2 : List Change) (own : count_of done ≡ length new) (is_written : written2 ≡ written ++ new) (is_changes : changes2 ≡ changes ++ done ∷ []) where
  pub held_more : after_changes h written2 changes2 ≡ after_change done new (after_changes h written changes)
  held_more =
      ap (λ (l : List ℕ). after_changes h l changes2) is_written
      ∙ ap (λ (l : List Change). after_changes h (written ++ new) l) is_changes
      ∙ changes_more changes done h written new whole own

  pub all_within_more : all_within h written changes ≡ true → begins_within done (after_changes h written changes).bytes ≡ true → all_within h written2 changes2 ≡ true
  all_within_more so_far last =
      ap (λ (l : List ℕ). all_within h l changes2) is_written
      ∙ ap (λ (l : List Change). all_within h (written ++ new) l) is_changes
      ∙ within_more changes done h written new whole own so_far last

  pub whole_more : total changes2 ≡ length written2
  whole_more = ap (λ (l : List Change). total l) is_changes ∙ omega (arith, total_more changes done, whole, own, length-append written new) ∙ sym (ap (λ (l : List ℕ). length l) is_written)

pub length_more : (changes changes2 : List Change) (done : Change) → changes2 ≡ changes ++ done ∷ [] → length changes2 ≡ length changes + 1
length_more changes changes2 done is = ap (λ (l : List Change). length l) is ∙ omega (arith, length-append changes (done ∷ []))

pub waiting_more : (changes changes2 : List Change) (done : Change) (settled : ℕ) → changes2 ≡ changes ++ done ∷ [] → settled ≤ length changes → drop settled changes ++ done ∷ [] ≡ drop settled changes2
waiting_more changes changes2 done settled is le = sym (ap (λ (l : List Change). drop settled l) is ∙ drop-append-le settled changes (done ∷ []) le)

pub begins : (place : ℕ) (bytes : List ℕ) → place ≤ length bytes → nat_le place (length bytes) ≡ true
begins place bytes le = grind (arith, nat_tests, le)
