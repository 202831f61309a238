-- Gates in memory, whose calls fail where they are told to.
use Rattle.std.specs.Prelude.{ℕ, ◌-◌, ◌||◌, Bool, true, false, nat_lt, nat_eq, List, [], ◌∷◌, ◌++◌, length, map, slice_get, Option, Some, None, if◌then◌else◌, refl}
use Rattle.std.specs.Coded.{Coded, code_by, coded×, coded_ℕ, coded_bool, coded_list}
use Rattle.desk_base.specs.MemoryStreams.{CallPlan, next_fails, after_call}
use Rattle.desk_base.specs.Streams.{risen}
use Rattle.desk_gates.specs.Tallies.{Tally, ended}

-- a gate in memory: the links that are still to be given, the next first; each link as it was given, and each that was
-- taken back, as it is, oldest first; whether it listens, its plan, and its faults
pub record HeldGate (L : Type 0) : Type 0 where
  pub ahead : List L
  pub given : List L
  pub back : List L
  pub listens : Bool
  pub plan : CallPlan
  pub faults : ℕ

abbrev pub plan_code : Coded CallPlan
plan_code = code_by (List ℕ × ℕ) (coded× (coded_list coded_ℕ) coded_ℕ) (λ plan. (plan.failing, plan.made)) (λ p. record { failing = p.0; made = p.1 }) (λ _. refl)

abbrev pub held_gate_code : {L : Type 0} → Coded L → Coded (HeldGate L)
held_gate_code {L} link =
    code_by (List L × (List L × (List L × (Bool × (CallPlan × ℕ)))))
    (coded× (coded_list link) (coded× (coded_list link) (coded× (coded_list link) (coded× coded_bool (coded× plan_code coded_ℕ)))))
    (λ g. (g.ahead, (g.given, (g.back, (g.listens, (g.plan, g.faults))))))
    (λ p. record { ahead = p.0; given = p.1.0; back = p.1.1.0; listens = p.1.1.1.0; plan = p.1.1.1.1.0; faults = p.1.1.1.1.1 })
    (λ _. refl)

-- a gate of these links, before the first call
abbrev pub new_gate : {L : Type 0} → List L → List ℕ → HeldGate L
new_gate links failing =
    record { ahead = links; given = []; back = []; listens = false; plan = record { failing = failing; made = 0 }; faults = 0 }

-- what it shows of its connections: all that they tell
abbrev pub tally_of : {L : Type 0} → (L → Option (List ℕ)) → (L → Option (List ℕ)) → (L → ℕ) → (L → ℕ) → HeldGate L → Tally
tally_of left written read_faults write_faults g = record {
  given = length g.given;
  taken = length g.back;
  lefts = Some (map left g.given);
  ends = Some (map (ended written read_faults write_faults) g.back);
}

-- link i of the gate: None while it is given out, and past the last
abbrev pub link_at : {L : Type 0} → HeldGate L → ℕ → Option L
link_at g i =
    if nat_lt i (length g.back) then slice_get g.back i
    else (if nat_lt i (length g.given) then None else slice_get g.ahead (i - length g.given))

-- the gate after a call that fails
abbrev pub after_fault : {L : Type 0} → HeldGate L → HeldGate L
after_fault g = record { ahead = g.ahead; given = g.given; back = g.back; listens = g.listens; plan = after_call g.plan; faults = risen g.faults }

-- the gate after it began to listen
abbrev pub listening : {L : Type 0} → HeldGate L → HeldGate L
listening g = record { ahead = g.ahead; given = g.given; back = g.back; listens = true; plan = after_call g.plan; faults = g.faults }

-- the gate after it was asked to listen
abbrev pub after_listen : {L : Type 0} → HeldGate L → HeldGate L
after_listen g = if next_fails g.plan then after_fault g else listening g

-- no link is left
abbrev pub is_empty : {L : Type 0} → HeldGate L → Bool
is_empty g = nat_eq (length g.ahead) 0

-- an accept fails: it is listed, or no link is left
abbrev pub accept_fails : {L : Type 0} → HeldGate L → Bool
accept_fails g = next_fails g.plan || is_empty g

-- the gate after it gave the first of the links ahead, or after a fault where there is none
abbrev pub after_giving : {L : Type 0} → HeldGate L → List L → HeldGate L
after_giving g [] = after_fault g
after_giving g (link ∷ links) =
    record { ahead = links; given = g.given ++ link ∷ []; back = g.back; listens = g.listens; plan = after_call g.plan; faults = g.faults }

-- the gate after it was asked for a connection
abbrev pub after_accept : {L : Type 0} → HeldGate L → HeldGate L
after_accept g = if next_fails g.plan then after_fault g else after_giving g g.ahead

-- the gate after it took this link back
abbrev pub after_done : {L : Type 0} → L → HeldGate L → HeldGate L
after_done link g =
    record { ahead = g.ahead; given = g.given; back = g.back ++ link ∷ []; listens = g.listens; plan = g.plan; faults = g.faults }

-- what is asked of a gate: to listen, to give a connection, or to take this one back
pub data Call (L : Type 0) : Type 0 where
  to_listen : Call L
  to_accept : Call L
  to_take : L → Call L

-- the gate after one of these
abbrev pub after_one : {L : Type 0} → Call L → HeldGate L → HeldGate L
after_one to_listen g = after_listen g
after_one to_accept g = after_accept g
after_one (to_take link) g = after_done link g

-- the gate after all of them, in their order
abbrev pub after_all : {L : Type 0} → List (Call L) → HeldGate L → HeldGate L
after_all [] g = g
after_all (call ∷ calls) g = after_all calls (after_one call g)

-- the links that a gate gave, and behind them those that are still to be given
abbrev pub in_order : {L : Type 0} → HeldGate L → List L
in_order g = g.given ++ g.ahead
