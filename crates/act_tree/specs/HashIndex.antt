-- Numbers in buckets: the bucket of each by its hash, and which of the first numbers is the latest of a bucket.
use Rattle.act_tree.specs.KeptLists.{ListValue}
use Rattle.std.specs.Prelude.{◌≡◌, ℕ, zero, suc, ◌+◌, ◌-◌, ◌%◌, ◌<◌, ◌≤◌, ◌^◌, ◌==◌, Bool, List, length, map, slice_index, slice_set, Option, Some, None, if◌then◌else◌}

-- what a clause sees of an index: the hash of each number, how many buckets there are, for how many more numbers there is
-- room, and whether it is own: whether it can be written to
pub record IndexValue : Type 0 where
  pub hashes : List ℕ
  pub width : ℕ
  pub room : ℕ
  pub is_own : Bool

-- the bucket of a hash
abbrev pub bucket_of : ℕ → ℕ → ℕ
bucket_of width hash = hash % width

-- the bucket of each number
abbrev pub buckets : ℕ → List ℕ → List ℕ
buckets width hashes = map (bucket_of width) hashes

-- one past the last of the first n numbers that is in a bucket, or 0 where none is
unfoldable pub latest : List ℕ → ℕ → ℕ → ℕ
latest places zero bucket = 0
latest places (suc n) bucket = if slice_index places n == bucket then suc n else latest places n bucket

-- one past the last number that shares the bucket of a hash, or 0
abbrev pub last_in : IndexValue → ℕ → ℕ
last_in index hash =
    latest (buckets index.width index.hashes) (length index.hashes) (bucket_of index.width hash)

-- one past the last number before one that shares its bucket, or 0
abbrev pub previous_in : IndexValue → ℕ → ℕ
previous_in index number =
    latest (buckets index.width index.hashes) number (slice_index (buckets index.width index.hashes) number)

-- the last of the first so many numbers, if there is one, shares the bucket of a hash
abbrev pub EndsIn : IndexValue → ℕ → ℕ → Type 0
EndsIn index hash end =
    0 < end → slice_index (buckets index.width index.hashes) (end - 1) ≡ bucket_of index.width hash

-- Heads and links of the first n numbers. The head of a bucket is its latest number, and the link of a number is the
-- latest before it in its bucket, where it is in one of them.
pub record IsLinked (width : ℕ) (places heads before : List ℕ) (n : ℕ) : Type 0 where
  pub head : (b : ℕ) → b < width → slice_index heads b ≡ latest places n b
  pub link : (k : ℕ) → k < n → slice_index places k < width
      → slice_index before k ≡ latest places k (slice_index places k)

-- the heads and links of all hashes, with no fewer buckets than numbers
pub record IsIndex (width : ℕ) (hashes heads before : List ℕ) : Type 0 where
  pub linked : IsLinked width (buckets width hashes) heads before (length hashes)
  pub as_many_links : length before ≡ length hashes
  pub as_many_heads : length heads ≡ width
  pub enough : length hashes ≤ width
  pub fits : width < 2 ^ 32

-- an index of these three lists, which are own or kept together
pub record AreIndex (hashes heads before : ListValue ℕ) : Type 0 where
  pub index : IsIndex (length heads.items) hashes.items heads.items before.items
  pub heads_alike : heads.is_own ≡ hashes.is_own
  pub links_alike : before.is_own ≡ hashes.is_own

-- the first number of a bucket behind a number, among the first n: none, or this one
abbrev pub IsNext : List ℕ → ℕ → ℕ → ℕ → Option ℕ → Type 0
IsNext places n bucket number None = latest places n bucket ≤ number + 1
IsNext places n bucket number (Some k) =
    (k < n) × (number < k) × (slice_index places k ≡ bucket) × (latest places k bucket ≤ number + 1)

-- What leads to the numbers of a bucket from behind: the link of this one, or the head. First its value, then the
-- heads and the links once it leads elsewhere.
abbrev pub led_by : Option ℕ → List ℕ → List ℕ → ℕ → ℕ
led_by None heads before bucket = slice_index heads bucket
led_by (Some k) heads before bucket = slice_index before k

abbrev pub heads_led : Option ℕ → List ℕ → ℕ → ℕ → List ℕ
heads_led None heads bucket to = slice_set heads bucket to
heads_led (Some k) heads bucket to = heads

abbrev pub links_led : Option ℕ → List ℕ → ℕ → List ℕ
links_led None before to = before
links_led (Some k) before to = slice_set before k to

-- the heads and the links once a number is taken out of a bucket and put into another one, where these are the next
-- behind it in each
abbrev pub heads_moved : List ℕ → List ℕ → ℕ → ℕ → Option ℕ → ℕ → Option ℕ → List ℕ
heads_moved heads before number from out to into =
    heads_led into (heads_led out heads from (slice_index before number)) to (number + 1)

abbrev pub links_moved : List ℕ → List ℕ → ℕ → ℕ → Option ℕ → ℕ → Option ℕ → List ℕ
links_moved heads before number from out to into =
    slice_set (links_led into (links_led out before (slice_index before number)) (number + 1)) number
    (led_by into (heads_led out heads from (slice_index before number))
    (links_led out before (slice_index before number)) to)
