-- How the faults of what a follower stands on are told.
use Rattle.law_keeper.specs.declared.keep_fault.KeepFault.{KeepFault}
use Rattle.law_keeper.specs.declared.keep_fault.KeepFault.TheVariants as keep
use Rattle.law_follow.specs.declared.followed.FollowFault.{FollowFault}
use Rattle.law_follow.specs.declared.followed.FollowFault.TheVariants as stops
use Rattle.law_follow.specs.declared.taken.TakeFault.{TakeFault}
use Rattle.law_follow.specs.declared.taken.TakeFault.TheVariants as fault
use Rattle.law_follow.specs.declared.unfit.Unfit.{Unfit}
use Rattle.law_follow.specs.declared.unfit.Unfit.TheVariants as unfit

abbrev pub keep_refusal : KeepFault → TakeFault
keep_refusal keep.Failed = fault.KeeperFault
keep_refusal keep.Memory = fault.Memory

abbrev pub unfit_refusal : Unfit → TakeFault
unfit_refusal (unfit.NoEntry broken) = fault.BadEntry broken
unfit_refusal (unfit.NotAccepted rule) = fault.NotAccepted rule
unfit_refusal unfit.Memory = fault.Memory

abbrev pub keep_stop : KeepFault → FollowFault
keep_stop keep.Failed = stops.KeeperFault
keep_stop keep.Memory = stops.Memory
