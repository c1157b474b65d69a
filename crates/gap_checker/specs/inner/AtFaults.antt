-- Faults of a check as faults of one whose tree is read.
use Rattle.gap_checker.specs.declared.fault.AtFault.{AtFault}
use Rattle.gap_checker.specs.declared.fault.AtFault.TheVariants as at_faults
use Rattle.gap_checker.specs.declared.fault.CheckFault.{CheckFault}
use Rattle.gap_checker.specs.declared.fault.CheckFault.TheVariants as faults

abbrev pub at_fault : CheckFault → AtFault
at_fault faults.Memory = at_faults.Memory
at_fault fault = at_faults.Fault fault
