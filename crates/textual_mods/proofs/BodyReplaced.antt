-- Of a text that others take the place of only what is brought decides.
use Rattle.std.proofs.Common.{◌≡◌, ◌∙◌, sym, ap, Some, None}
use Rattle.std.specs.Prelude.{Ok, Err, option_map}
use Rattle.desk_base.specs.declared.id.Id.{Id}
use Rattle.act_tree.specs.declared.build_fault.BuildFault.{BuildFault}
use Rattle.act_tree.specs.declared.surveying.TheConstants.{NONE_THROUGHOUT}
use Rattle.act_tree.specs.Branches.{Branches}
use Rattle.act_tree.specs.Brought.{bringer, brought}
use Rattle.act_tree.specs.Faults.{first_fault, fault_cause}
use Rattle.act_tree.specs.Provisions.{Own}
use Rattle.act_tree.specs.Trees.{TreeValue}
use Rattle.textual_mods.specs.Edits.{unless_for, within_limits}
use Rattle.textual_mods.proofs.Starting.{owns_again}

module _ (t : TreeValue) (by : Id) (new : Branches Own) where
  told : within_limits t (Ok (brought by new)) ≡ unless_for (option_map fault_cause (first_fault t.numbering t.limit new)) (brought by new)
  told = ap (λ os. unless_for (option_map fault_cause (first_fault t.numbering t.limit os)) (brought by new)) (owns_again NONE_THROUGHOUT (Some (bringer by)) new)

  pub body_held : (fault : BuildFault) → Some fault ≡ first_fault t.numbering t.limit new → within_limits t (Ok (brought by new)) ≡ Err (fault_cause fault)
  body_held fault is = told ∙ ap (λ f. unless_for (option_map fault_cause f) (brought by new)) (sym is)

  pub body_done : None ≡ first_fault t.numbering t.limit new → within_limits t (Ok (brought by new)) ≡ Ok (brought by new)
  body_done is = told ∙ ap (λ f. unless_for (option_map fault_cause f) (brought by new)) (sym is)
