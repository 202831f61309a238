-- Laws of the outlook of a disk in memory.
use Rattle.std.proofs.Common.{◌≡◌, ◌⊎◌, inl, inr, ⊎_elim, ℕ, ◌+◌, ◌≤◌, Bool, true, false, nat_le, List, [], ◌∷◌, ◌++◌, length, take, refl, sym, subst, arith, length-append}
use Rattle.std.proofs.lemmas.List.{take_all, take-append-le}
use Rattle.std.proofs.lemmas.Bool.Decides.{nat_tests}
use Rattle.law_journal.specs.Disks.{IsOutlook, Elapses}
use Rattle.law_journal.specs.MemoryDisks.{Past, after_effect, images_after, no_image, images_at, outlook_of}

-- the images at the last moment are those of all changes
all_images : (pasts : List Past) (k : ℕ) (c : List ℕ) → length pasts ≤ k → images_after no_image pasts c
    → images_at pasts k c
all_images pasts k c le im = subst (λ (l : List Past). images_after no_image l c) (sym (take_all k pasts le)) im

last_images : (pasts : List Past) (k : ℕ) (c : List ℕ) → length pasts ≤ k → images_at pasts k c
    → images_after no_image pasts c
last_images pasts k c le im = subst (λ (l : List Past). images_after no_image l c) (take_all k pasts le) im

pub memory_is : (bytes : List ℕ) (pasts : List Past) → IsOutlook (outlook_of bytes pasts)
memory_is bytes pasts = record {
  stays = λ t. inl refl;
  counts_now = λ t c le now. ⊎_elim
      (λ is. inl is)
      (λ im. inr (length pasts, le, omega arith, all_images pasts (length pasts) c (omega arith) im))
      now;
  only_now = λ c left. ⊎_elim (λ is. inl is) (λ im. inr (last_images pasts im.0 c im.1 im.3)) left;
}

-- the images after one change more
pub push_to : (images : List ℕ → Type 0) (pasts : List Past) (past : Past) (c : List ℕ)
    → images_after images (pasts ++ past ∷ []) c → after_effect (images_after images pasts) past past.change c
push_to images [] past c im = im
push_to images (first ∷ pasts) past c im = push_to (after_effect images first first.change) pasts past c im

pub push_from : (images : List ℕ → Type 0) (pasts : List Past) (past : Past) (c : List ℕ)
    → after_effect (images_after images pasts) past past.change c → images_after images (pasts ++ past ∷ []) c
push_from images [] past c im = im
push_from images (first ∷ pasts) past c im = push_from (after_effect images first first.change) pasts past c im

module _ (bytes next : List ℕ) (pasts : List Past) (past : Past) where
  abbrev more : List Past
  more = pasts ++ past ∷ []

  size : length more ≡ length pasts + 1
  size = omega (arith, length-append pasts (past ∷ []))

  earlier : (k : ℕ) → k ≤ length pasts → take k more ≡ take k pasts
  earlier k le = take-append-le k pasts (past ∷ []) le

  -- time goes on by a change that can leave the bytes as they were
  pub elapses : after_effect (images_after no_image pasts) past past.change bytes
      → Elapses (outlook_of bytes pasts) (outlook_of next (pasts ++ past ∷ []))
  elapses stayed = record {
    later = omega (arith, size);
    nothing_else = λ t c le left. ⊎_elim (λ is. inr (inl is)) (λ im. by_moment t c im.0 im.1 im.2 im.3) left;
    keeps = λ t c le left. ⊎_elim
        (λ is. let image = subst (images_after no_image more) (sym is) (push_from no_image pasts past bytes stayed) in
        inr (length more, omega (arith, le, size), omega arith, all_images more (length more) c (omega arith) image))
        (λ im. let image = subst (λ (l : List Past). images_after no_image l c) (sym (earlier im.0 im.2)) im.3 in
        inr (im.0, im.1, omega (arith, im.2, size), image))
        left;
  }
    where
      by_moment : (t : ℕ) (c : List ℕ) (k : ℕ) → t ≤ k → k ≤ length more → images_at more k c
          → (outlook_of bytes pasts).left_since t c ⊎ (outlook_of next more).may_leave c
      by_moment t c k from to im = by_test (nat_le k (length pasts)) refl
        where
          by_test : (b : Bool) → nat_le k (length pasts) ≡ b
              → (outlook_of bytes pasts).left_since t c ⊎ (outlook_of next more).may_leave c
          by_test true is =
              let le : k ≤ length pasts = grind (arith, nat_tests, is) in
              inl (inr (k, from, le, subst (λ (l : List Past). images_after no_image l c) (earlier k le) im))
          by_test false is =
              let lt : length pasts + 1 ≤ k = grind (arith, nat_tests, is) in
              inr (inr (last_images more k c (omega (arith, lt, size)) im))
