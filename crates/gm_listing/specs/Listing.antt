-- The text that a run over a graph leaves, and the status with which it ends the program.
-- Names and values belong together by their order. Where one of the two lists is longer, what is over is not written.
use Rattle.std.specs.Prelude.{ℕ, List, [], ◌∷◌, ◌++◌, codes, decimal, length, map, take, Option, Some, None, slice_get, slice_index, true, false}
use Rattle.std.specs.List.{flat_map, zip, enumerate_from}
use Rattle.std.specs.Fmt.{signed_decimal}
use Rattle.gm_base.specs.declared.statuses.Status.{Status}
use Rattle.gm_base.specs.declared.statuses.Status.TheVariants.{Done as DoneStatus, Fault as FaultStatus, Cut as CutStatus}
use Rattle.gm_base.specs.Places.{place_text}
use Rattle.gm_value.specs.declared.values.Value.{Value}
use Rattle.gm_value.specs.declared.values.Value.TheVariants.{I32, I64, Flag, At}
use Rattle.gm_value.specs.Faults.{fault_text}
use Rattle.gm_model.specs.declared.outcomes.Outcome.{Outcome}
use Rattle.gm_model.specs.declared.outcomes.Outcome.TheVariants.{Done, Fault, Cut}
use Rattle.gm_listing.specs.declared.outputs.Outputs.{Outputs}
use Rattle.gm_listing.specs.declared.outputs.Ending.{Ending}
use Rattle.gm_listing.specs.declared.outputs.Ending.TheVariants.{Turns, Counts}

-- the names of the scalar outputs and of the output properties, each in the order of their declarations
abbrev pub scalar_names : Outputs → List (List ℕ)
scalar_names outputs = map (λ name. name.now) outputs.scalars.now

abbrev pub property_names : Outputs → List (List ℕ)
property_names outputs = map (λ name. name.now) outputs.properties.now

-- the end of each line
abbrev pub line_end : List ℕ
line_end = 10 ∷ []

-- a value: a number in decimal, a truth value by its name, a node by its number in the graph. The numbers of the
-- graph's nodes stand by their indices; past the last one it is 0
abbrev pub value_text : List ℕ → Value → List ℕ
value_text numbers (I32 z) = signed_decimal z
value_text numbers (I64 z) = signed_decimal z
value_text numbers (Flag true) = codes "True"
value_text numbers (Flag false) = codes "False"
value_text numbers (At None) = codes "NIL"
value_text numbers (At (Some k)) = decimal (slice_index numbers k)

-- the line of something that has a value: NAME = VALUE
abbrev pub value_line : List ℕ → List ℕ → Value → List ℕ
value_line numbers name value = name ++ codes " = " ++ value_text numbers value ++ line_end

-- the lines of the scalar outputs
abbrev pub scalar_lines : List ℕ → List (List ℕ) → List Value → List ℕ
scalar_lines numbers names values = flat_map (λ scalar. value_line numbers scalar.0 scalar.1) (zip names values)

-- the line of the result, where there is one
abbrev pub result_line : List ℕ → Option Value → List ℕ
result_line numbers None = []
result_line numbers (Some value) = value_line numbers (codes "return") value

-- a name in the line above the nodes
abbrev pub name_field : List ℕ → List ℕ
name_field name = codes " " ++ name

-- the value of a node in the node's line, of a property that has one for it
abbrev pub value_field : List ℕ → Option Value → List ℕ
value_field numbers None = []
value_field numbers (Some value) = codes " " ++ value_text numbers value

-- the line above the nodes, with the names of the properties
abbrev pub head_line : List (List ℕ) → List ℕ
head_line names = codes "node" ++ flat_map name_field names ++ line_end

-- the values of the node of an index, property by property
abbrev pub value_fields : List ℕ → List (List Value) → ℕ → List ℕ
value_fields numbers properties node = flat_map (λ values. value_field numbers (slice_get values node)) properties

-- the line of the node of an index: its number and its values
abbrev pub node_line : List ℕ → List (List Value) → ℕ → ℕ → List ℕ
node_line numbers properties node number = decimal number ++ value_fields numbers properties node ++ line_end

-- the lines of all nodes, by index
abbrev pub node_lines : List ℕ → List (List Value) → List ℕ
node_lines numbers properties = flat_map (λ node. node_line numbers properties node.0 node.1) (enumerate_from 0 numbers)

-- the names and the nodes, where there is an output property
abbrev pub table : List ℕ → List (List ℕ) → List (List Value) → List ℕ
table numbers names [] = []
table numbers names (values ∷ properties) = head_line names ++ node_lines numbers (values ∷ properties)

-- the same of the properties that have both a name and values
abbrev pub node_table : List ℕ → List (List ℕ) → List (List Value) → List ℕ
node_table numbers names properties = table numbers (take (length properties) names) (take (length names) properties)

-- the last line of a run that took some turns: they alone, or the counts of an image's supersteps and messages too
abbrev pub last_line : Ending → ℕ → List ℕ
last_line Turns turns = codes "turns " ++ decimal turns ++ line_end
last_line (Counts supersteps messages) turns =
    codes "supersteps " ++ decimal supersteps ++ codes " messages " ++ decimal messages ++ codes " turns " ++ decimal turns ++ line_end

-- what a run prints: of one that is done its scalar outputs, its result, its output properties and its last line;
-- of another one line alone
abbrev pub listing : List (List ℕ) → List (List ℕ) → List ℕ → Ending → Outcome → List ℕ
listing scalars properties numbers ending (Done values result nodes turns) =
    scalar_lines numbers scalars values ++ result_line numbers result ++ node_table numbers properties nodes ++ last_line ending turns
listing scalars properties numbers ending (Fault kind place) = codes "fault " ++ fault_text kind ++ codes " at " ++ place_text place ++ line_end
listing scalars properties numbers ending (Cut turns) = codes "cut after " ++ decimal turns ++ codes " turns" ++ line_end

-- the status of a run's end
abbrev pub status_of : Outcome → Status
status_of (Done values result nodes turns) = DoneStatus
status_of (Fault kind place) = FaultStatus
status_of (Cut turns) = CutStatus
