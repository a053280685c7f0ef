-- The lines that are written where no program is run: for a name, for a graph text and for the arguments.
use Rattle.std.specs.Prelude.{◌≡◌, ℕ, List, [], ◌++◌, codes, decimal}
use Rattle.gm_base.specs.declared.statuses.Status.{Status}
use Rattle.gm_loader.specs.declared.limits.Limits.{Limits}
use Rattle.gm_loader.specs.declared.faults.GraphFault.{GraphFault}
use Rattle.gm_loader.specs.declared.faults.GraphFault.TheVariants as faults
use Rattle.gm_words.specs.declared.arguments.ArgFault.{ArgFault}
use Rattle.gm_words.specs.declared.arguments.ArgFault.TheVariants as words
use Rattle.gm_listing.specs.Listing.{line_end}

-- how large a graph text and its graph may be
abbrev pub graph_bytes : ℕ
graph_bytes = 1073741824

abbrev pub graph_limits : Limits
graph_limits = record { nodes = 4000000; edges = 16000000; bytes = graph_bytes }

-- what is written, and the status with which the program ends
abbrev pub Says : List ℕ → Status → List ℕ → Status → Type 0
Says text status wanted ending = (text ≡ wanted) × (status ≡ ending)

-- the name of standard input
abbrev pub standard_input : List ℕ
standard_input = codes "-"

-- the lines for a name that names no file, and for one under which a read failed
abbrev pub absent_text : List ℕ → List ℕ
absent_text name = codes "absent " ++ name ++ line_end

abbrev pub read_fault_text : List ℕ → List ℕ
read_fault_text name = codes "read fault " ++ name ++ line_end

-- the line for a fault of a kind in a line of a graph text
abbrev pub graph_line : List ℕ → ℕ → List ℕ
graph_line kind number = codes "graph " ++ kind ++ codes " at line " ++ decimal number ++ line_end

-- the line for a fault of a graph text; a failed read and want of memory are none
abbrev pub graph_text : GraphFault → List ℕ
graph_text (faults.BadLine number) = graph_line (codes "BadLine") number
graph_text (faults.MissingColumn number) = graph_line (codes "MissingColumn") number
graph_text (faults.OutOfRange number) = graph_line (codes "OutOfRange") number
graph_text (faults.NodeTwice number) = graph_line (codes "NodeTwice") number
graph_text (faults.TooManyNodes number) = graph_line (codes "TooManyNodes") number
graph_text (faults.TooManyEdges number) = graph_line (codes "TooManyEdges") number
graph_text faults.TooLong = codes "graph TooLong" ++ line_end
graph_text faults.NoMemory = []

-- the faults that a text may have
abbrev pub IsTextFault : GraphFault → Type 0
IsTextFault faults.NoMemory = ⊥
IsTextFault _ = Unit {0}

-- the line for a fault of a kind in the argument of a name
abbrev pub argument_line : List ℕ → List ℕ → List ℕ
argument_line kind name = codes "argument " ++ kind ++ codes " " ++ name ++ line_end

-- the line for a fault of an argument; want of memory is none
abbrev pub argument_text : ArgFault → List ℕ
argument_text (words.Missing name) = argument_line (codes "Missing") name
argument_text (words.Unknown name) = argument_line (codes "Unknown") name
argument_text (words.Twice name) = argument_line (codes "Twice") name
argument_text (words.BadValue name) = argument_line (codes "BadValue") name
argument_text (words.NoSuchNode name) = argument_line (codes "NoSuchNode") name
argument_text words.NoMemory = []

-- the faults that words may have
abbrev pub IsWordFault : ArgFault → Type 0
IsWordFault words.NoMemory = ⊥
IsWordFault _ = Unit {0}
