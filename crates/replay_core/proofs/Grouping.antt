-- What a group that is put back does to the groups of all things.
use Rattle.std.proofs.Common.{◌≡◌, ◌∙◌, sym, ap, ℕ, Bool, true, false, cond, List, [], ◌∷◌, length, Option, Some, None, refl, arith}
use Rattle.std.proofs.lemmas.Bool.Decides.{nat_tests}
use Rattle.std.proofs.lemmas.Slice.Eq.{bytes_eq-Decides}
use Rattle.desk_base.specs.declared.id.Id.{Id}
use Rattle.law_register.specs.declared.law.modification.Destination.{Destination}
use Rattle.law_register.specs.declared.law.modification.Destination.TheVariants as to
use Rattle.law_register.specs.Answer.Counted.{is_same}
use Rattle.std.specs.Map.{lookup}
use Rattle.law_register.specs.contracts.law.modification.DestinationPartialEq.TheImpl.{eq-value}
use Rattle.replay_core.specs.declared.counted.Group.{Group}
use Rattle.replay_core.specs.Groups.{forces_of, efficacies_of}

-- a choice of groups is one of their force modifications
pub forces_chosen : (b : Bool) (one other : Option Group) → forces_of (cond b one other) ≡ cond b (forces_of one) (forces_of other)
forces_chosen true one other = refl
forces_chosen false one other = refl

-- and of their efficacy modifications
pub efficacies_chosen : (b : Bool) (one other : Option Group) → efficacies_of (cond b one other) ≡ cond b (efficacies_of one) (efficacies_of other)
efficacies_chosen true one other = refl
efficacies_chosen false one other = refl

-- the comparison of destinations is that of the definition
pub eq_is : (a b : Destination) → eq-value.it a b ≡ is_same a b
eq_is (to.Modification a) (to.Modification b) = refl
eq_is (to.Modification a) (to.Node w) = refl
eq_is (to.Node w) (to.Modification b) = refl
eq_is (to.Node v) (to.Node w) = refl

-- where there are no groups, none is found
pub none_found : {X : Type 0} (es : List (Destination × X)) (thing : Destination) → length es ≡ 0 → lookup (is_same thing) es ≡ None
none_found [] thing h = refl
none_found (e ∷ es) thing h = absurd (omega (arith, h))

-- look-ups by tests that agree
pub looked_up : {K X : Type 0} (f g : K → Bool) → ((k : K) → f k ≡ g k) → (es : List (K × X)) → lookup f es ≡ lookup g es
looked_up f g agree [] = refl
looked_up f g agree (e ∷ es) =
    ap (λ b. cond b (Some e.1) (lookup f es)) (agree e.0) ∙ ap (λ o. cond (g e.0) (Some e.1) o) (looked_up f g agree es)

-- a group that was put, as the definition compares
pub group_put : {X : Type 0} (new old : List (Destination × X)) (w : Option X) (key thing t : Destination) → key ≡ thing
    → lookup (eq-value.it t) new ≡ cond (eq-value.it key t) w (lookup (eq-value.it t) old)
    → lookup (is_same t) new ≡ cond (is_same thing t) w (lookup (is_same t) old)
group_put new old w key thing t same put =
    sym (looked_up (eq-value.it t) (is_same t) (eq_is t) new)
    ∙ put
    ∙ ap (λ k. cond (eq-value.it k t) w (lookup (eq-value.it t) old)) same
    ∙ ap (λ b. cond b w (lookup (eq-value.it t) old)) (eq_is thing t)
    ∙ ap (cond (is_same thing t) w) (looked_up (eq-value.it t) (is_same t) (eq_is t) old)
