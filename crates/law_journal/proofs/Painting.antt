-- Bytes of which some are turned into one.
use Rattle.std.proofs.Common.{◌≡◌, ℕ, zero, suc, ◌+◌, ◌-◌, ◌≤◌, min, List, [], ◌∷◌, ◌++◌, length, take, drop, replicate, refl, sym, ◌∙◌, ap, arith}
use Rattle.law_journal.specs.Disks.{Torn, overwritten}
use Rattle.law_journal.specs.MemoryDisks.{painted, painted_by, painted_all}
use Rattle.law_journal.specs.declared.history.Change.{Change}
use Rattle.law_journal.specs.declared.history.Change.TheVariants as change
use Rattle.law_journal.proofs.MemorySteps.{torn_written}

-- the bytes in front, so many of the one, and the bytes behind
pub as_pieces : (pick place n : ℕ) (bytes : List ℕ) (count from : ℕ) → count ≡ min n (length bytes - place) → from ≡ place + n
    → take place bytes ++ replicate count pick ++ drop from bytes ≡ painted pick place n bytes
as_pieces pick zero n [] zero zero c f = refl
as_pieces pick zero n [] zero (suc from) c f = refl
as_pieces pick zero n [] (suc count) from c f = absurd (omega (arith, c))
as_pieces pick (suc place) n [] zero zero c f = refl
as_pieces pick (suc place) n [] zero (suc from) c f = refl
as_pieces pick (suc place) n [] (suc count) from c f = absurd (omega (arith, c))
as_pieces pick zero zero (b ∷ bytes) zero zero c f = ap (λ (l : List ℕ). b ∷ l) (as_pieces pick zero zero bytes zero zero (omega arith) (omega arith))
as_pieces pick zero zero (b ∷ bytes) zero (suc from) c f = absurd (omega (arith, f))
as_pieces pick zero zero (b ∷ bytes) (suc count) from c f = absurd (omega (arith, c))
as_pieces pick zero (suc n) (b ∷ bytes) zero from c f = absurd (omega (arith, c))
as_pieces pick zero (suc n) (b ∷ bytes) (suc count) zero c f = absurd (omega (arith, f))
as_pieces pick zero (suc n) (b ∷ bytes) (suc count) (suc from) c f = ap (λ (l : List ℕ). pick ∷ l) (as_pieces pick zero n bytes count from (omega (arith, c)) (omega (arith, f)))
as_pieces pick (suc place) n (b ∷ bytes) count zero c f = absurd (omega (arith, f))
as_pieces pick (suc place) n (b ∷ bytes) count (suc from) c f = ap (λ (l : List ℕ). b ∷ l) (as_pieces pick place n bytes count from (omega (arith, c)) (omega (arith, f)))

length_painted : (pick place n : ℕ) (bytes : List ℕ) → length (painted pick place n bytes) ≡ length bytes
length_painted pick place n [] = refl
length_painted pick zero zero (b ∷ bytes) = ap (λ k. suc k) (length_painted pick zero zero bytes)
length_painted pick zero (suc n) (b ∷ bytes) = ap (λ k. suc k) (length_painted pick zero n bytes)
length_painted pick (suc place) n (b ∷ bytes) = ap (λ k. suc k) (length_painted pick place n bytes)

-- what is in front of the place stays
front_painted : (pick place n : ℕ) (bytes : List ℕ) → take place (painted pick place n bytes) ≡ take place bytes
front_painted pick zero n bytes = refl
front_painted pick (suc place) n [] = refl
front_painted pick (suc place) n (b ∷ bytes) = ap (λ (l : List ℕ). b ∷ l) (front_painted pick place n bytes)

-- so does what is behind
back_painted : (pick k place n : ℕ) (bytes : List ℕ) → place + n ≤ k → drop k (painted pick place n bytes) ≡ drop k bytes
back_painted pick k place n [] le = refl
back_painted pick zero zero zero (b ∷ bytes) le = ap (λ (l : List ℕ). b ∷ l) (back_painted pick zero zero zero bytes le)
back_painted pick zero zero (suc n) (b ∷ bytes) le = absurd (omega (arith, le))
back_painted pick zero (suc place) n (b ∷ bytes) le = absurd (omega (arith, le))
back_painted pick (suc k) zero zero (b ∷ bytes) le = back_painted pick k zero zero bytes (omega arith)
back_painted pick (suc k) zero (suc n) (b ∷ bytes) le = back_painted pick k zero n bytes (omega (arith, le))
back_painted pick (suc k) (suc place) n (b ∷ bytes) le = back_painted pick k place n bytes (omega (arith, le))

take_painted : (pick k place n : ℕ) (bytes : List ℕ) → take k (painted pick place n bytes) ≡ painted pick place n (take k bytes)
take_painted pick zero place n bytes = refl
take_painted pick (suc k) place n [] = refl
take_painted pick (suc k) zero zero (b ∷ bytes) = ap (λ (l : List ℕ). b ∷ l) (take_painted pick k zero zero bytes)
take_painted pick (suc k) zero (suc n) (b ∷ bytes) = ap (λ (l : List ℕ). pick ∷ l) (take_painted pick k zero n bytes)
take_painted pick (suc k) (suc place) n (b ∷ bytes) = ap (λ (l : List ℕ). b ∷ l) (take_painted pick k place n bytes)

-- what is left behind the first k depends on what was behind them
drop_painted : (pick k place n : ℕ) (bytes bytes2 : List ℕ) → drop k bytes ≡ drop k bytes2 → drop k (painted pick place n bytes) ≡ drop k (painted pick place n bytes2)
drop_painted pick k place n bytes bytes2 is = let (from, count, by) = rest k place n in by bytes ∙ ap (λ (l : List ℕ). painted pick from count l) is ∙ sym (by bytes2)
  where
    rest : (k place n : ℕ) → (from : ℕ) × (count : ℕ) × ((bytes : List ℕ) → drop k (painted pick place n bytes) ≡ painted pick from count (drop k bytes))
    rest zero place n = (place, n, λ bytes. refl)
    rest (suc k) zero zero = let (from, count, by) = rest k zero zero in (from, count, λ bytes. elim bytes as (λ (l : List ℕ). drop (suc k) (painted pick zero zero l) ≡ painted pick from count (drop (suc k) l)) [ [] ↦ refl | b ∷ l ↦ by l ])
    rest (suc k) zero (suc n) = let (from, count, by) = rest k zero n in (from, count, λ bytes. elim bytes as (λ (l : List ℕ). drop (suc k) (painted pick zero (suc n) l) ≡ painted pick from count (drop (suc k) l)) [ [] ↦ refl | b ∷ l ↦ by l ])
    rest (suc k) (suc place) n = let (from, count, by) = rest k place n in (from, count, λ bytes. elim bytes as (λ (l : List ℕ). drop (suc k) (painted pick (suc place) n l) ≡ painted pick from count (drop (suc k) l)) [ [] ↦ refl | b ∷ l ↦ by l ])

pub length_all : (pick : ℕ) (changes : List Change) (bytes : List ℕ) → length (painted_all pick changes bytes) ≡ length bytes
length_all pick [] bytes = refl
length_all pick (change.Write place n ∷ later) bytes = length_all pick later (painted pick place n bytes) ∙ length_painted pick place n bytes
length_all pick (change.Cut n ∷ later) bytes = length_all pick later bytes
length_all pick (change.Sync ∷ later) bytes = length_all pick later bytes

pub take_all_painted : (pick k : ℕ) (changes : List Change) (bytes : List ℕ) → take k (painted_all pick changes bytes) ≡ painted_all pick changes (take k bytes)
take_all_painted pick k [] bytes = refl
take_all_painted pick k (change.Write place n ∷ later) bytes = take_all_painted pick k later (painted pick place n bytes) ∙ ap (λ (l : List ℕ). painted_all pick later l) (take_painted pick k place n bytes)
take_all_painted pick k (change.Cut n ∷ later) bytes = take_all_painted pick k later bytes
take_all_painted pick k (change.Sync ∷ later) bytes = take_all_painted pick k later bytes

drop_all_painted : (pick k : ℕ) (changes : List Change) (bytes bytes2 : List ℕ) → drop k bytes ≡ drop k bytes2 → drop k (painted_all pick changes bytes) ≡ drop k (painted_all pick changes bytes2)
drop_all_painted pick k [] bytes bytes2 is = is
drop_all_painted pick k (change.Write place n ∷ later) bytes bytes2 is = drop_all_painted pick k later (painted pick place n bytes) (painted pick place n bytes2) (drop_painted pick k place n bytes bytes2 is)
drop_all_painted pick k (change.Cut n ∷ later) bytes bytes2 is = drop_all_painted pick k later bytes bytes2 is
drop_all_painted pick k (change.Sync ∷ later) bytes bytes2 is = drop_all_painted pick k later bytes bytes2 is

-- with one change more
pub all_more : (pick : ℕ) (changes : List Change) (done : Change) (bytes : List ℕ) → painted_all pick (changes ++ done ∷ []) bytes ≡ painted_by pick done (painted_all pick changes bytes)
all_more pick [] done bytes = refl
all_more pick (first ∷ later) done bytes = all_more pick later done (painted_by pick first bytes)

-- what a write that a crash cuts short may leave
pub torn_painted : (pick : ℕ) (changes : List Change) (place : ℕ) (new bytes : List ℕ) → place ≤ length bytes
    → Torn place (length new) (painted_all pick changes bytes) (painted_all pick (changes ++ change.Write place (length new) ∷ []) (overwritten place new bytes))
torn_painted pick changes place new bytes within =
    let torn = torn_written place new bytes within in
    let n = length new in
    let after = overwritten place new bytes in
    let more = all_more pick changes (change.Write place n) after in
    let long = ap (λ (l : List ℕ). length l) more ∙ length_painted pick place n (painted_all pick changes after) ∙ length_all pick changes after in
    record {
      before = ap (λ (l : List ℕ). take place l) more ∙ front_painted pick place n (painted_all pick changes after)
          ∙ take_all_painted pick place changes after ∙ ap (λ (l : List ℕ). painted_all pick changes l) torn.before ∙ sym (take_all_painted pick place changes bytes);
      after = ap (λ (l : List ℕ). drop (place + n) l) more ∙ back_painted pick (place + n) place n (painted_all pick changes after) (omega arith)
          ∙ drop_all_painted pick (place + n) changes after bytes torn.after;
      no_shorter = omega (arith, long, torn.no_shorter, length_all pick changes bytes);
      no_longer = omega (arith, long, torn.no_longer, length_all pick changes bytes);
    }
