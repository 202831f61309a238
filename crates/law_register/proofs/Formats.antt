-- Which commands ask for the second format.
use Rattle.std.proofs.Common.{◌≡◌, ◌↔◌, ℕ, Bool, true, false, cond, List, refl}
use Rattle.std.specs.List.{list_any}
use Rattle.desk_base.specs.declared.id.Id.{Id}
use Rattle.act_tree.specs.declared.limits.NodeLimit.{NodeLimit}
use Rattle.act_tree.specs.declared.limits.NodeLimit.TheVariants.{Plain, Wide}
use Rattle.law_register.specs.declared.law.act.Act.{Act}
use Rattle.law_register.specs.declared.law.command.Command.TheVariants.{Enact, Record, Correct, DraftAdd}
use Rattle.law_register.specs.declared.law.format.EntryFormat.TheVariants.{First, Second}
use Rattle.law_register.specs.declared.law.modification.Modification.{Modification}
use Rattle.law_register.specs.Law.Formats.{is_wide, asks_second, format_of}
use Rattle.law_register.specs.Law.Sources.{names_provision}

second_where : (b : Bool) → (cond b Second First ≡ Second) ↔ (b ≡ true)
second_where true = (λ h. refl, λ h. refl)
second_where false = (λ h. cc, λ h. cc)

wide_where : (limit : NodeLimit) → (cond (is_wide limit) Second First ≡ Second) ↔ (limit ≡ Wide)
wide_where Plain = (λ h. cc, λ h. cc)
wide_where Wide = (λ h. refl, λ h. refl)

pub enacting_asks : (act : Act) → (format_of (Enact act) ≡ Second) ↔ (act.limit ≡ Wide)
unfolding asks_second
enacting_asks act = wide_where act.limit

pub recording_asks : (work : List ℕ) (mods : List Modification) → (format_of (Record work mods) ≡ Second) ↔ (list_any names_provision mods ≡ true)
unfolding asks_second
recording_asks work mods = second_where (list_any names_provision mods)

pub correcting_asks : (id : Id) (body : Modification) → (format_of (Correct id body) ≡ Second) ↔ (names_provision body ≡ true)
unfolding asks_second
correcting_asks id body = second_where (names_provision body)

pub drafting_asks : (work : List ℕ) (body : Modification) → (format_of (DraftAdd work body) ≡ Second) ↔ (names_provision body ≡ true)
unfolding asks_second
drafting_asks work body = second_where (names_provision body)
