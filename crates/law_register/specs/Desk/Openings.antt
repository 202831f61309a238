-- Why a desk is not opened whose keeper is not.
use Rattle.desk_base.specs.declared.load_fault.LoadFault.{LoadFault}
use Rattle.desk_base.specs.declared.load_fault.LoadFault.TheVariants as load
use Rattle.law_register.specs.declared.desk.damage.Damage.TheVariants.{Journal}
use Rattle.law_register.specs.declared.desk.open_fault.OpenFault.{OpenFault}
use Rattle.law_register.specs.declared.desk.open_fault.OpenFault.TheVariants as fails

-- damage that a keeper tells is damage of what holds the payloads
abbrev pub opening_fault : LoadFault → OpenFault
opening_fault load.Failed = fails.Failed
opening_fault (load.Damaged place byte) = fails.Damaged (Journal place byte)
opening_fault load.Memory = fails.Memory
