-- A run of two workers that was worked by hand.
use Rattle.std.specs.Prelude.{ℕ, pos, codes, Option, None, List, [], ◌∷◌, ◌++◌}
use Rattle.gm_value.specs.declared.values.Value.TheVariants.{I32}
use Rattle.gm_value.specs.declared.values.VType.TheVariants as types
use Rattle.gm_value.specs.declared.reductions.Reduce.TheVariants as reduce
use Rattle.gm_model.specs.declared.outcomes.Outcome.TheVariants.{Done}
use Rattle.gm_model.specs.declared.outcomes.RunEnd.{RunEnd}
use Rattle.gm_model.specs.Graphs.{NumberedGraph}
use Rattle.gm_image.specs.Term.{Field, Message as Carried, Neighbour}
use Rattle.gm_image.specs.Program.{Program, Node, Fold, Send, Each, Out, Step, Finish}
use Rattle.gm_machine.specs.Vertex.{Message}
use Rattle.gm_core.specs.declared.events.Event.{Event}
use Rattle.gm_core.specs.declared.events.Event.TheVariants.{Compute, Deliver, Arrive, Release}
use Rattle.gm_core.specs.Cores.{Core, start, effects, first_illegal}

-- each node sends its value along its out-edges, and then adds up what came
abbrev pub total : Program
total = record {
  name = codes "total";
  inputs = record { holder = Node; vtype = types.I32; name = codes "v"; slot = 0 } ∷ [];
  outputs = record { holder = Node; vtype = types.I32; name = codes "s"; slot = 1 } ∷ [];
  result = None;
  globals = [];
  fields = types.I32 ∷ types.I32 ∷ [];
  registers = [];
  columns = [];
  kinds = record { combiner = None; values = types.I32 ∷ [] } ∷ [];
  places = record { line = 2; col = 32 } ∷ [];
  blocks =
      record { handlers = []; body = Each Out 1 ∷ Send 0 Neighbour (Field 0 ∷ []) ∷ [] }
      ∷ record { handlers = record { kind = 0; lines = Fold reduce.Sum 0 (record { slot = 1; term = Carried 0 } ∷ []) ∷ [] } ∷ []; body = [] }
      ∷ [];
  master = Step 0 ∷ Step 1 ∷ Finish ∷ [];
}

-- two edges from node 0 to node 1, and one from node 1 to itself
abbrev pub two_nodes : NumberedGraph
two_nodes = record {
  numbers = 4 ∷ 9 ∷ [];
  edges = record { from = 0; to = 1 } ∷ record { from = 0; to = 1 } ∷ record { from = 1; to = 1 } ∷ [];
  node_columns = (I32 (pos 5) ∷ I32 (pos 7) ∷ []) ∷ [];
  edge_columns = [];
}

-- each worker owns the node with its number
abbrev pub owners : List ℕ
owners = 0 ∷ 1 ∷ []

abbrev pub begun : Core
begun = start total two_nodes owners 2 [] 1000000

abbrev pub after_events : List Event → Core
after_events es = effects total two_nodes owners 2 begun es

abbrev pub illegal : List Event → Option ℕ
illegal es = first_illegal total two_nodes owners 2 0 begun es

abbrev pub computed : List Event
computed = Compute 0 0 ∷ Compute 1 1 ∷ []

-- the message of node 1 is delivered first
abbrev pub first_step : List Event
first_step = computed ++ Deliver 1 1 1 ∷ Deliver 0 1 1 ∷ Deliver 0 1 1 ∷ Arrive 0 ∷ Arrive 1 ∷ Release ∷ []

abbrev pub second_step : List Event
second_step = Compute 0 0 ∷ Compute 1 1 ∷ Arrive 0 ∷ Arrive 1 ∷ Release ∷ []

-- how the run ends
abbrev pub over : RunEnd
over = record { outcome = Done [] None ((I32 (pos 0) ∷ I32 (pos 17) ∷ []) ∷ []) 0; supersteps = 2; messages = 3 }

-- a message to node 1
abbrev pub carries : ℕ → Message
carries n = record { to = 1; kind = 0; values = I32 (pos n) ∷ [] }
