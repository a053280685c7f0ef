-- The faults of the lines of a Matrix Market text.
use Rattle.std.specs.Prelude.{⊤}
use Rattle.gm_mtx.specs.declared.faults.MtxFault.{MtxFault}
use Rattle.gm_mtx.specs.declared.faults.MtxFault.TheVariants as fault

-- the faults of lines
abbrev pub IsLineFault : MtxFault → Type 0
IsLineFault fault.TooLong = ⊥
IsLineFault fault.NoMemory = ⊥
IsLineFault _ = ⊤
