-- A gate in memory gives its links in their order: what it gave, and what is still ahead behind it, stays.
use Rattle.std.proofs.Common.{◌≡◌, Bool, true, false, if◌then◌else◌, List, [], ◌∷◌, ◌++◌, refl, ap, ◌∙◌, append_assoc}
use Rattle.desk_base.specs.MemoryStreams.{next_fails}
use Rattle.desk_gates.specs.MemoryGates.{HeldGate, Call, to_listen, to_accept, to_take, after_fault, listening, after_giving, after_one, after_all, in_order}

listened : {L : Type 0} (g : HeldGate L) (t : Bool) → in_order (if t then after_fault g else listening g) ≡ in_order g
listened g true = refl
listened g false = refl

given_next : {L : Type 0} (g : HeldGate L) (links : List L) → links ≡ g.ahead → in_order (after_giving g links) ≡ in_order g
given_next g [] are = refl
given_next g (link ∷ links) are = append_assoc g.given (link ∷ []) links ∙ ap (λ xs. g.given ++ xs) are

accepted : {L : Type 0} (g : HeldGate L) (t : Bool) → in_order (if t then after_fault g else after_giving g g.ahead) ≡ in_order g
accepted g true = refl
accepted g false = given_next g g.ahead refl

-- one call
one_kept : {L : Type 0} (call : Call L) (g : HeldGate L) → in_order (after_one call g) ≡ in_order g
one_kept to_listen g = listened g (next_fails g.plan)
one_kept to_accept g = accepted g (next_fails g.plan)
one_kept (to_take link) g = refl

-- all calls
pub all_kept : {L : Type 0} (calls : List (Call L)) (g : HeldGate L) → in_order (after_all calls g) ≡ in_order g
all_kept [] g = refl
all_kept (call ∷ calls) g = all_kept calls (after_one call g) ∙ one_kept call g
