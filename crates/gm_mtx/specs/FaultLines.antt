-- The line that is printed for a fault of a Matrix Market text.
use Rattle.std.specs.Prelude.{ℕ, List, [], ◌∷◌, ◌++◌, codes, decimal}
use Rattle.gm_mtx.specs.declared.faults.MtxFault.{MtxFault}
use Rattle.gm_mtx.specs.declared.faults.MtxFault.TheVariants as fault

-- the line for a fault of a kind in a line of the text
abbrev pub fault_line : List ℕ → ℕ → List ℕ
fault_line kind number = codes "graph " ++ kind ++ codes " at line " ++ decimal number ++ 10 ∷ []

-- the line for a fault of the text; a failed read and want of memory are none
abbrev pub mtx_text : MtxFault → List ℕ
mtx_text (fault.BadHeader number) = fault_line (codes "BadHeader") number
mtx_text (fault.Unsupported number) = fault_line (codes "Unsupported") number
mtx_text (fault.BadLine number) = fault_line (codes "BadLine") number
mtx_text (fault.MissingColumn number) = fault_line (codes "MissingColumn") number
mtx_text (fault.OutOfRange number) = fault_line (codes "OutOfRange") number
mtx_text (fault.CountDiffers number) = fault_line (codes "CountDiffers") number
mtx_text (fault.TooManyNodes number) = fault_line (codes "TooManyNodes") number
mtx_text (fault.TooManyEdges number) = fault_line (codes "TooManyEdges") number
mtx_text fault.TooLong = codes "graph TooLong" ++ 10 ∷ []
mtx_text fault.NoMemory = []

-- the faults that a text may have
abbrev pub IsTextFault : MtxFault → Type 0
IsTextFault fault.NoMemory = ⊥
IsTextFault _ = Unit {0}
