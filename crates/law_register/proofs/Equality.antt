-- `==` holds of acts, modifications and commands exactly where they are equal.
use Rattle.std.proofs.Common.{◌≡◌, true, List, ap, subst, rules}
use Rattle.std.specs.Bool.{Decides}
use Rattle.std.specs.Cmp.{unsigned_Decides}
use Rattle.std.specs.Cmp.Lexicographic.{pointwise, pointwise_decides, bytes_decides}
use Rattle.std.proofs.lemmas.Bool.Decides.{Decides-and, Decides-like}
use Rattle.desk_base.specs.contracts.id.IdPartialEq.TheImpl as ids
use Rattle.desk_base.specs.contracts.period.PeriodPartialEq.TheImpl as periods
use Rattle.desk_base.specs.declared.id.Id.{Id}
use Rattle.desk_base.specs.declared.period.Period.{Period}
use Rattle.eid_paths.proofs.Equality.{numberings_decide}
use Rattle.act_tree.specs.SameNodes.{nodes_decide}
use Rattle.act_tree.specs.contracts.limits.NodeLimitPartialEq.TheImpl as limits
use Rattle.act_tree.specs.declared.limits.NodeLimit.{NodeLimit}
use Rattle.bearing_mods.specs.contracts.efficacy.EfficacyEffectPartialEq.TheImpl as efficacies
use Rattle.bearing_mods.specs.contracts.force.ForceEffectPartialEq.TheImpl as forces
use Rattle.bearing_mods.specs.declared.efficacy.EfficacyEffect.{EfficacyEffect}
use Rattle.bearing_mods.specs.declared.force.ForceEffect.{ForceEffect}
use Rattle.textual_mods.proofs.Equality.{edits_decide}
use Rattle.law_register.specs.contracts.law.act.ActPartialEq.TheImpl as acts
use Rattle.law_register.specs.contracts.law.command.CommandEq.TheImpl.Laws as command_laws
use Rattle.law_register.specs.contracts.law.command.CommandPartialEq.TheImpl as commands
use Rattle.law_register.specs.contracts.law.modification.DestinationPartialEq.TheImpl as destinations
use Rattle.law_register.specs.contracts.law.modification.ModSourcePartialEq.TheImpl as sources
use Rattle.law_register.specs.contracts.law.modification.ModificationEq.TheImpl.Laws as modification_laws
use Rattle.law_register.specs.contracts.law.modification.ModificationPartialEq.TheImpl as modifications
use Rattle.law_register.specs.declared.law.act.Act.{Act}
use Rattle.law_register.specs.declared.law.command.Command.{Command}
use Rattle.law_register.specs.declared.law.command.Command.TheVariants.{Enact, Record, Correct, Withdraw, Restore, DraftAdd, DraftDrop, File}
use Rattle.law_register.specs.declared.law.modification.Destination.{Destination}
use Rattle.law_register.specs.declared.law.modification.ModSource.{ModSource}
use Rattle.law_register.specs.declared.law.modification.Modification.{Modification}
use Rattle.law_register.specs.declared.law.modification.Modification.TheVariants.{Textual, Force, Efficacy}

ids_decide : (a b : Id) → Decides (ids.ghosts.eq a b) (a ≡ b)
ids_decide a b = search rules

periods_decide : (a b : Period) → Decides (periods.ghosts.eq a b) (a ≡ b)
periods_decide a b = search rules

limits_decide : (a b : NodeLimit) → Decides (limits.ghosts.eq a b) (a ≡ b)
limits_decide a b = search rules

forces_decide : (a b : ForceEffect) → Decides (forces.ghosts.eq a b) (a ≡ b)
forces_decide a b = search rules

efficacies_decide : (a b : EfficacyEffect) → Decides (efficacies.ghosts.eq a b) (a ≡ b)
efficacies_decide a b = search rules

sources_decide : (a b : ModSource) → Decides (sources.ghosts.eq a b) (a ≡ b)
sources_decide a b = search rules

destinations_decide : (a b : Destination) → Decides (destinations.ghosts.eq a b) (a ≡ b)
destinations_decide a b = search rules

told_modification : (a b : Modification) → modifications.ghosts.eq a b ≡ true → a ≡ b
told_modification (Textual source force edit) (Textual href own change) h =
    let told = (Decides-and _ _ (sources_decide source href) (Decides-and _ _ (periods_decide force own) (edits_decide edit change))).0 h in
    λ i. Textual (told.0 i) (told.1.0 i) (told.1.1 i)
told_modification (Force source thing on effect) (Force href other from change) h =
    let told = (Decides-and _ _ (sources_decide source href) (Decides-and _ _ (destinations_decide thing other)
    (Decides-and _ _ (unsigned_Decides on from) (forces_decide effect change)))).0 h in
    λ i. Force (told.0 i) (told.1.0 i) (told.1.1.0 i) (told.1.1.1 i)
told_modification (Efficacy source thing on effect) (Efficacy href other from change) h =
    let told = (Decides-and _ _ (sources_decide source href) (Decides-and _ _ (destinations_decide thing other)
    (Decides-and _ _ (unsigned_Decides on from) (efficacies_decide effect change)))).0 h in
    λ i. Efficacy (told.0 i) (told.1.0 i) (told.1.1.0 i) (told.1.1.1 i)
told_modification _ _ h = cc

modifications_decide : (a b : Modification) → Decides (modifications.ghosts.eq a b) (a ≡ b)
modifications_decide a b = (told_modification a b, λ e. subst (λ k. modifications.ghosts.eq a k ≡ true) e (modification_laws.laws-law.refl a))

mods_decide : (a b : List Modification) → Decides (pointwise modifications.ghosts.eq a b) (a ≡ b)
mods_decide = pointwise_decides modifications_decide

acts_decide : (a b : Act) → Decides (acts.ghosts.eq a b) (a ≡ b)
acts_decide a b =
    Decides-like (acts.ghosts.eq a b)
    (λ h i. record {
      work = h.0 i;
      language = h.1.0 i;
      day = h.1.1.0 i;
      numbering = h.1.1.1.0 i;
      limit = h.1.1.1.1.0 i;
      force = h.1.1.1.1.1.0 i;
      body = h.1.1.1.1.1.1 i;
    })
    (λ e. (
      ap (λ (x : Act). x.work) e,
      (
        ap (λ (x : Act). x.language) e,
        (
          ap (λ (x : Act). x.day) e,
          (
            ap (λ (x : Act). x.numbering) e,
            (ap (λ (x : Act). x.limit) e, (ap (λ (x : Act). x.force) e, ap (λ (x : Act). x.body) e)),
          ),
        ),
      ),
    ))
    (Decides-and _ _ (bytes_decides a.work b.work) (Decides-and _ _ (bytes_decides a.language b.language)
    (Decides-and _ _ (unsigned_Decides a.day b.day) (Decides-and _ _ (numberings_decide a.numbering b.numbering)
    (Decides-and _ _ (limits_decide a.limit b.limit) (Decides-and _ _ (periods_decide a.force b.force) (nodes_decide a.body b.body)))))))

told_command : (a b : Command) → commands.ghosts.eq a b ≡ true → a ≡ b
told_command (Enact a) (Enact b) h = ap Enact ((acts_decide a b).0 h)
told_command (Record a mods) (Record b others) h =
    let told = (Decides-and _ _ (bytes_decides a b) (mods_decide mods others)).0 h in
    λ i. Record (told.0 i) (told.1 i)
told_command (Correct a body) (Correct b other) h =
    let told = (Decides-and _ _ (ids_decide a b) (modifications_decide body other)).0 h in
    λ i. Correct (told.0 i) (told.1 i)
told_command (Withdraw a) (Withdraw b) h = ap Withdraw ((ids_decide a b).0 h)
told_command (Restore a) (Restore b) h = ap Restore ((ids_decide a b).0 h)
told_command (DraftAdd a body) (DraftAdd b other) h =
    let told = (Decides-and _ _ (bytes_decides a b) (modifications_decide body other)).0 h in
    λ i. DraftAdd (told.0 i) (told.1 i)
told_command (DraftDrop a) (DraftDrop b) h = ap DraftDrop ((unsigned_Decides a b).0 h)
told_command (File a seen) (File b other) h =
    let told = (Decides-and _ _ (bytes_decides a b) (unsigned_Decides seen other)).0 h in
    λ i. File (told.0 i) (told.1 i)
told_command _ _ h = cc

pub commands_decide : (a b : Command) → Decides (commands.ghosts.eq a b) (a ≡ b)
commands_decide a b = (told_command a b, λ e. subst (λ k. commands.ghosts.eq a k ≡ true) e (command_laws.laws-law.refl a))
