-- Why a call isn't done.
use Rattle.segments.specs.declared.fault.SegmentFault.{SegmentFault}
use Rattle.segments.specs.declared.fault.SegmentFault.TheVariants as faults

-- the disk failed
abbrev pub IsDevice : SegmentFault → Type 0
IsDevice faults.Full = ⊥
IsDevice (faults.Device cause) = Unit {0}
IsDevice faults.NoMemory = ⊥
