-- What gates show of the connections that come in through them.
use Rattle.std.specs.Prelude.{ℕ, ◌≡◌, ◌+◌, List, [], ◌∷◌, ◌++◌, length, Option, Some, None, IfSome}

-- how a connection ended: the bytes written to it, where it tells them, and how many of its reads and writes had failed
pub record Ended : Type 0 where
  pub written : Option (List ℕ)
  pub read_faults : ℕ
  pub write_faults : ℕ

-- how this connection has ended
abbrev pub ended : {C : Type 0} → (C → Option (List ℕ)) → (C → ℕ) → (C → ℕ) → C → Ended
ended written read_faults write_faults conn =
    record { written = written conn; read_faults = read_faults conn; write_faults = write_faults conn }

-- nothing was written to the connection, and no call of it has failed
pub record IsUnused (written : Option (List ℕ)) (read_faults write_faults : ℕ) : Type 0 where
  pub no_bytes : IfSome written (λ bytes. bytes ≡ [])
  pub no_read_fault : read_faults ≡ 0
  pub no_write_fault : write_faults ≡ 0

-- what a gate shows: how many connections it gave, and how many it took back; where it tells them, the bytes that were left
-- in each as it was given, if the connection tells these, and how each that it took back had ended, oldest first
pub record Tally : Type 0 where
  pub given : ℕ
  pub taken : ℕ
  pub lefts : Option (List (Option (List ℕ)))
  pub ends : Option (List Ended)

-- a list that is told, with one member more at its end
abbrev pub and_one : {A : Type 0} → Option (List A) → A → Option (List A)
and_one None one = None
and_one (Some all) one = Some (all ++ one ∷ [])

-- the tally with one connection more given, which had these bytes left
abbrev pub with_given : Option (List ℕ) → Tally → Tally
with_given left t = record { given = t.given + 1; taken = t.taken; lefts = and_one t.lefts left; ends = t.ends }

-- the tally with one connection more taken back, which had ended so
abbrev pub with_taken : Ended → Tally → Tally
with_taken one t = record { given = t.given; taken = t.taken + 1; lefts = t.lefts; ends = and_one t.ends one }

-- the lists that are told have a member for each connection given, and for each taken back
pub record IsTally (t : Tally) : Type 0 where
  pub lefts : IfSome t.lefts (λ lefts. length lefts ≡ t.given)
  pub ends : IfSome t.ends (λ ends. length ends ≡ t.taken)
