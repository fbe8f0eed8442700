-- The faults of a source. Assumes nothing.
use Rattle.std.specs.Prelude.{ℕ}
use Rattle.column.specs.declared.fault.SourceFault.{SourceFault}
use Rattle.column.specs.declared.fault.SourceFaultKind.{SourceFaultKind}
use Rattle.column.specs.declared.fault.SourceFaultKind.TheVariants.{TooLarge, Truncated, BadNumber, BadColumn, BadValues, BadRun, Misuse}

-- the number of a fault
abbrev pub fault_number : SourceFaultKind → ℕ
fault_number TooLarge = 1
fault_number Truncated = 2
fault_number BadNumber = 3
fault_number BadColumn = 4
fault_number BadValues = 5
fault_number BadRun = 6
fault_number Misuse = 7

-- a fault met at a place
abbrev pub fault_at : SourceFaultKind → ℕ → SourceFault
fault_at kind place = record { kind = kind; place = place }

-- what a call answers that asks for what cannot be asked for
abbrev pub misuse : SourceFault
misuse = fault_at Misuse 0
