-- What a disk in memory holds, and what a crash may leave of it.
use Rattle.std.specs.Prelude.{ℕ, zero, suc, ◌≡◌, ◌⊎◌, ◌≤◌, ◌+◌, ◌-◌, ◌==◌, Bool, true, ◌&&◌, ◌||◌, nat_le, nat_lt, Result, Ok, Err, List, [], ◌∷◌, length, take, drop, ◌++◌, if◌then◌else◌}
use Rattle.desk_base.specs.MemoryStreams.{CallPlan, next_fails}
use Rattle.law_journal.specs.Disks.{Outlook, Torn, Cut, overwritten}
use Rattle.law_journal.specs.declared.history.Change.{Change}
use Rattle.law_journal.specs.declared.history.Change.TheVariants as change

-- a change, and the bytes from before it
pub record Past : Type 0 where
  pub change : Change
  pub before : List ℕ

-- bytes with their changes: those as last synced, the changes since then, and for how many bytes and changes there is
-- room
pub record HeldBytes : Type 0 where
  pub bytes : List ℕ
  pub pasts : List Past
  pub synced : List ℕ
  pub waiting : List Change
  pub room : ℕ
  pub left : ℕ

-- synced bytes, before the first change
abbrev pub begun : List ℕ → ℕ → ℕ → HeldBytes
begun bytes room left = record { bytes = bytes; pasts = []; synced = bytes; waiting = []; room = room; left = left }

-- a change, and the bytes from before it, behind all others
abbrev pub with_past : Change → HeldBytes → List Past
with_past done h = h.pasts ++ record { change = done; before = h.bytes } ∷ []

-- after a change, a write of these bytes
abbrev pub after_change : Change → List ℕ → HeldBytes → HeldBytes
after_change (change.Write place n) new h = record {
  bytes = overwritten place new h.bytes;
  pasts = with_past (change.Write place n) h;
  synced = h.synced;
  waiting = h.waiting ++ change.Write place n ∷ [];
  room = h.room;
  left = h.left;
}
after_change (change.Cut n) new h = record {
  bytes = take n h.bytes;
  pasts = with_past (change.Cut n) h;
  synced = h.synced;
  waiting = h.waiting ++ change.Cut n ∷ [];
  room = h.room;
  left = h.left;
}
after_change change.Sync new h = record {
  bytes = h.bytes;
  pasts = with_past change.Sync h;
  synced = h.bytes;
  waiting = [];
  room = h.room;
  left = h.left;
}

-- with this room
abbrev pub with_room : ℕ → ℕ → HeldBytes → HeldBytes
with_room room left h = record {
  bytes = h.bytes;
  pasts = h.pasts;
  synced = h.synced;
  waiting = h.waiting;
  room = room;
  left = left;
}

abbrev pub after_write : ℕ → List ℕ → HeldBytes → HeldBytes
after_write place new h =
    with_room (h.room - length new) (h.left - 1) (after_change (change.Write place (length new)) new h)

abbrev pub after_cut : ℕ → HeldBytes → HeldBytes
after_cut len h = with_room h.room (h.left - 1) (after_change (change.Cut len) [] h)

abbrev pub after_sync : HeldBytes → HeldBytes
after_sync h = with_room h.room (h.left - 1) (after_change change.Sync [] h)

-- how many bytes a change wrote
abbrev pub count_of : Change → ℕ
count_of (change.Write place n) = n
count_of (change.Cut n) = 0
count_of change.Sync = 0

abbrev pub total : List Change → ℕ
total [] = 0
total (done ∷ later) = count_of done + total later

-- after changes, of which each takes what it wrote from the front of these bytes
abbrev pub after_changes : HeldBytes → List ℕ → List Change → HeldBytes
after_changes h written [] = h
after_changes h written (done ∷ later) =
    after_changes (after_change done (take (count_of done) written) h) (drop (count_of done) written) later

-- what is held after changes of synced bytes, with no room
abbrev pub held : List ℕ → List ℕ → List Change → HeldBytes
held first written changes = after_changes (begun first 0 0) written changes

-- whether a write began within the bytes
abbrev pub begins_within : Change → List ℕ → Bool
begins_within (change.Write place n) bytes = nat_le place (length bytes)
begins_within (change.Cut n) bytes = true
begins_within change.Sync bytes = true

-- whether each of the changes did
abbrev pub all_within : HeldBytes → List ℕ → List Change → Bool
all_within h written [] = true
all_within h written (done ∷ later) = begins_within done h.bytes
    && all_within (after_change done (take (count_of done) written) h) (drop (count_of done) written) later

-- so many bytes from a place on, as many as there are, turned into one
abbrev pub painted : ℕ → ℕ → ℕ → List ℕ → List ℕ
painted pick place n [] = []
painted pick zero zero (b ∷ bytes) = b ∷ painted pick zero zero bytes
painted pick zero (suc n) (b ∷ bytes) = pick ∷ painted pick zero n bytes
painted pick (suc place) n (b ∷ bytes) = b ∷ painted pick place n bytes

abbrev pub painted_by : ℕ → Change → List ℕ → List ℕ
painted_by pick (change.Write place n) bytes = painted pick place n bytes
painted_by pick (change.Cut n) bytes = bytes
painted_by pick change.Sync bytes = bytes

-- each byte that a change wrote, turned into one
abbrev pub painted_all : ℕ → List Change → List ℕ → List ℕ
painted_all pick [] bytes = bytes
painted_all pick (done ∷ later) bytes = painted_all pick later (painted_by pick done bytes)

-- for 0 the bytes as last synced, for 1 the bytes as a read gives them, for any other value these with each byte that
-- waits for a sync turned into it
abbrev pub picked : ℕ → List ℕ → List ℕ → List Change → List ℕ
picked pick synced bytes waiting = if pick == 0 then synced
    else if pick == 1 then bytes
    else painted_all pick waiting bytes

-- an image to be looked at
abbrev pub image_of : ℕ → HeldBytes → List ℕ
image_of pick h = picked pick h.synced h.bytes h.waiting

-- the images that there were before a change: those so far, and the bytes that a read gave
abbrev pub Before : (List ℕ → Type 0) → Past → List ℕ → Type 0
Before images past file = images file ⊎ (file ≡ past.before)

-- the images after a change
abbrev pub after_effect : (List ℕ → Type 0) → Past → Change → List ℕ → Type 0
after_effect images past (change.Write place n) file = (d : List ℕ) × Before images past d × Torn place n d file
after_effect images past (change.Cut n) file = (d : List ℕ) × Before images past d × Cut n d file
after_effect images past change.Sync file = file ≡ past.before

-- the images after changes
abbrev pub images_after : (List ℕ → Type 0) → List Past → List ℕ → Type 0
images_after images [] = images
images_after images (past ∷ pasts) = images_after (after_effect images past past.change) pasts

-- before the first change there is none but what a read gives
abbrev pub no_image : List ℕ → Type 0
no_image file = ⊥

-- the images after the first so many changes
abbrev pub images_at : List Past → ℕ → List ℕ → Type 0
images_at pasts k = images_after no_image (take k pasts)

-- what is known of a disk in memory
abbrev pub outlook_of : List ℕ → List Past → Outlook
outlook_of bytes pasts = record {
  tells = Unit {0};
  seen = bytes;
  may_leave = λ c. (c ≡ bytes) ⊎ images_after no_image pasts c;
  moment = length pasts;
  left_since = λ t c. (c ≡ bytes) ⊎ ((k : ℕ) × (t ≤ k) × (k ≤ length pasts) × images_at pasts k c);
}

abbrev pub known : HeldBytes → Outlook
known h = outlook_of h.bytes h.pasts

-- an image that a crash may leave of a disk in memory
abbrev pub MayLeave : HeldBytes → List ℕ → Type 0
MayLeave h file = (known h).may_leave file

-- the change that comes next, which writes so many bytes, fails: its call is listed, no more changes may be made, or
-- there is no room for the bytes
abbrev pub change_fails : ℕ → CallPlan → HeldBytes → Bool
change_fails n plan h = next_fails plan || (h.left == 0 || nat_lt h.room n)

-- what is held after a call that succeeds, or that fails
abbrev pub Becomes : {T E : Type 0} → (done failed : HeldBytes → HeldBytes) → HeldBytes → HeldBytes → Result T E → Type 0
Becomes done failed old new (Ok value) = new ≡ done old
Becomes done failed old new (Err fault) = new ≡ failed old
