-- A piece of a disk that is kept in memory.
use Rattle.std.specs.Prelude.{ℕ, ◌≡◌, ◌-◌, ◌≤◌, List, length, take, drop, min}
use Rattle.law_journal.specs.Disks.{Outlook}
use Rattle.law_journal.specs.declared.window.Window.{Window}

-- the piece is what the disk holds from its start on
pub record IsWindow (o : Outlook) (w : Window) : Type 0 where
  pub within : w.held ≤ length w.bytes.items
  pub same : o.tells → take w.held w.bytes.items ≡ take w.held (drop w.start o.seen)

-- a piece from a place on holds as many bytes as there are and it has room for
abbrev pub IsFilled : Outlook → ℕ → ℕ → ℕ → Type 0
IsFilled o place room held = o.tells → held ≡ min room (length o.seen - place)

-- so many bytes from an index on
abbrev pub piece_from : ℕ → ℕ → List ℕ → List ℕ
piece_from at n bytes = take n (drop at bytes)

-- the first bytes, as many as there is room for
pub record IsFront (bytes into : List ℕ) (n : ℕ) : Type 0 where
  pub count : n ≡ min (length bytes) (length into)
  pub same : take n into ≡ take n bytes
