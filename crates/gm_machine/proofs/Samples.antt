-- Small images and graphs.
use Rattle.std.specs.Prelude.{ℕ, ℤ, true, Some, None, List, [], ◌∷◌, map, pos, codes}
use Rattle.gm_base.specs.declared.places.Place.{Place}
use Rattle.gm_value.specs.declared.values.VType.TheVariants as types
use Rattle.gm_value.specs.declared.values.Value.{Value}
use Rattle.gm_value.specs.declared.values.Value.TheVariants as values
use Rattle.gm_value.specs.declared.reductions.Reduce.{Reduce}
use Rattle.gm_value.specs.declared.reductions.Reduce.TheVariants as reduce
use Rattle.gm_value.specs.declared.operations.Op2.TheVariants as two
use Rattle.gm_model.specs.Graphs.{NumberedGraph, Edge}
use Rattle.gm_image.specs.declared.images.Kind.{Kind}
use Rattle.gm_image.specs.Term.{Term, Const, Self, Global, Field, Message, Column, Neighbour, Binary}
use Rattle.gm_image.specs.Program.{Program, Item, Holder, Scalar, Handler, Target, SetField, Fold, Put, Send, Skip, Each, Out, SetGlobal, Step, Turn, Back, Finish, Node, Edge as EdgeItem}

abbrev int : ℤ → Term
int z = Const (values.I32 z)

abbrev place : ℕ → ℕ → Place
place line col = record { line = line; col = col }

abbrev item : Holder → List ℕ → ℕ → Item
item holder name slot = record { holder = holder; vtype = types.I32; name = name; slot = slot }

abbrev one_int : Kind
one_int = record { combiner = None; values = types.I32 ∷ [] }

abbrev target : ℕ → Term → List Target
target slot term = record { slot = slot; term = term } ∷ []

-- a handler that adds the value of a message to a field
abbrev adds : ℕ → ℕ → ℕ → Handler
adds kind where_added field = record { kind = kind; lines = Fold reduce.Sum where_added (target field (Message 0)) ∷ [] }

-- counts to a number
abbrev pub spin_to : ℕ → Program
spin_to n = record {
  name = codes "spin";
  inputs = [];
  outputs = [];
  result = Some (types.I32, 0);
  globals = types.I32 ∷ [];
  fields = [];
  registers = [];
  columns = [];
  kinds = [];
  places = place 3 21 ∷ [];
  blocks = [];
  master =
      Turn 3 (Binary two.Lt None (Global 0) (int (pos n)))
      ∷ SetGlobal 0 (Binary two.Add (Some 0) (Global 0) (int (pos 1)))
      ∷ Back 0
      ∷ Finish
      ∷ [];
}

-- each node's sum over its in-neighbours
abbrev pub total : Program
total = record {
  name = codes "total";
  inputs = item Node (codes "v") 0 ∷ [];
  outputs = item Node (codes "s") 1 ∷ [];
  result = None;
  globals = [];
  fields = types.I32 ∷ types.I32 ∷ [];
  registers = [];
  columns = [];
  kinds = one_int ∷ [];
  places = place 2 32 ∷ [];
  blocks =
      record { handlers = []; body = Each Out 1 ∷ Send 0 Neighbour (Field 0 ∷ []) ∷ [] }
      ∷ record { handlers = adds 0 0 1 ∷ []; body = [] }
      ∷ [];
  master = Step 0 ∷ Step 1 ∷ Finish ∷ [];
}

-- the second step reads what the first one wrote
abbrev pub pair : Program
pair = record {
  name = codes "pair";
  inputs = [];
  outputs = item Node (codes "a") 0 ∷ item Node (codes "b") 1 ∷ [];
  result = None;
  globals = [];
  fields = types.I32 ∷ types.I32 ∷ [];
  registers = [];
  columns = [];
  kinds = [];
  places = [];
  blocks =
      record { handlers = []; body = SetField 0 (int (pos 3)) ∷ [] }
      ∷ record { handlers = []; body = SetField 1 (Field 0) ∷ [] }
      ∷ [];
  master = Step 0 ∷ Step 1 ∷ Finish ∷ [];
}

-- pair with its two steps made one
abbrev pub pair_merged : Program
pair_merged = record pair {
  blocks = record { handlers = []; body = SetField 0 (int (pos 3)) ∷ SetField 1 (Field 0) ∷ [] } ∷ [];
  master = Step 0 ∷ Finish ∷ [];
}

-- what a reduction starts from
abbrev start_of : Reduce → ℕ
start_of reduce.Product = 1
start_of r = 0

-- the sum and the product of a property over all nodes
abbrev pub total_of : Reduce → Program
total_of r = record {
  name = codes "t";
  inputs = item Node (codes "v") 0 ∷ [];
  outputs = [];
  result = Some (types.I32, 0);
  globals = types.I32 ∷ [];
  fields = types.I32 ∷ [];
  registers = [];
  columns = [];
  kinds = [];
  places = place 1 53 ∷ [];
  blocks = record { handlers = []; body = Put r 0 (target 0 (Field 0)) ∷ [] } ∷ [];
  master = SetGlobal 0 (int (pos (start_of r))) ∷ Step 0 ∷ Finish ∷ [];
}

-- each node sends its value and then the negative of it, which its out-neighbours add at two places
abbrev pub push : Program
push = record {
  name = codes "acc";
  inputs = item Node (codes "v") 0 ∷ [];
  outputs = item Node (codes "b") 1 ∷ [];
  result = None;
  globals = [];
  fields = types.I32 ∷ types.I32 ∷ [];
  registers = [];
  columns = [];
  kinds = one_int ∷ one_int ∷ [];
  places = place 3 31 ∷ place 3 50 ∷ place 3 46 ∷ [];
  blocks =
      record {
        handlers = [];
        body =
            Each Out 2
            ∷ Send 0 Neighbour (Field 0 ∷ [])
            ∷ Send 1 Neighbour (Binary two.Sub (Some 1) (int (pos 0)) (Field 0) ∷ [])
            ∷ [];
      }
      ∷ record { handlers = adds 0 0 1 ∷ adds 1 2 1 ∷ []; body = [] }
      ∷ [];
  master = Step 0 ∷ Step 1 ∷ Finish ∷ [];
}

-- each node adds up its out-edges, and marks itself where the sum is below ten
abbrev pub weigh : Program
weigh = record {
  name = codes "weigh";
  inputs = item EdgeItem (codes "l") 0 ∷ [];
  outputs = item Node (codes "a") 0 ∷ item Node (codes "b") 1 ∷ [];
  result = None;
  globals = [];
  fields = types.I32 ∷ types.Flag ∷ [];
  registers = [];
  columns = types.I32 ∷ [];
  kinds = [];
  places = place 3 5 ∷ [];
  blocks =
      record {
        handlers = [];
        body =
            Each Out 1
            ∷ Fold reduce.Sum 0 (target 0 (Column 0))
            ∷ Skip 1 (Binary two.Lt None (Field 0) (int (pos 10)))
            ∷ SetField 1 (Const (values.Flag true))
            ∷ [];
      }
      ∷ [];
  master = Step 0 ∷ Finish ∷ [];
}

-- each node sends its value and itself; of what comes a node picks the least value with its node
abbrev pub best : Program
best = record {
  name = codes "best";
  inputs = item Node (codes "v") 0 ∷ [];
  outputs = item Node (codes "m") 1 ∷ record { holder = Node; vtype = types.Node; name = codes "w"; slot = 2 } ∷ [];
  result = None;
  globals = [];
  fields = types.I32 ∷ types.I32 ∷ types.Node ∷ [];
  registers = [];
  columns = [];
  kinds = record { combiner = None; values = types.I32 ∷ types.Node ∷ [] } ∷ [];
  places = place 4 31 ∷ [];
  blocks =
      record { handlers = []; body = SetField 1 (int (pos 2147483647)) ∷ Each Out 1 ∷ Send 0 Neighbour (Field 0 ∷ Self ∷ []) ∷ [] }
      ∷ record {
        handlers = record {
          kind = 0;
          lines = Fold reduce.Min 0 (record { slot = 1; term = Message 0 } ∷ record { slot = 2; term = Message 1 } ∷ []) ∷ [];
        } ∷ [];
        body = [];
      }
      ∷ [];
  master = Step 0 ∷ Step 1 ∷ Finish ∷ [];
}

-- the greatest value of all nodes, with the least node that has it
abbrev pub top : Program
top = record {
  name = codes "top";
  inputs = item Node (codes "v") 0 ∷ [];
  outputs = record { holder = Scalar; vtype = types.I32; name = codes "m"; slot = 0 } ∷ record { holder = Scalar; vtype = types.Node; name = codes "w"; slot = 1 } ∷ [];
  result = None;
  globals = types.I32 ∷ types.Node ∷ [];
  fields = types.I32 ∷ [];
  registers = [];
  columns = [];
  kinds = [];
  places = place 2 9 ∷ [];
  blocks = record { handlers = []; body = Put reduce.Max 0 (record { slot = 0; term = Field 0 } ∷ record { slot = 1; term = Self } ∷ []) ∷ [] } ∷ [];
  master = Step 0 ∷ Finish ∷ [];
}

-- values of 32 bits
abbrev pub ints : List ℤ → List Value
ints zs = map (λ z. values.I32 z) zs

abbrev pub edge : ℕ → ℕ → Edge
edge from to = record { from = from; to = to }

-- a graph of nodes with a value each, and edges without columns
abbrev pub graph_of : List ℕ → List ℤ → List Edge → NumberedGraph
graph_of numbers zs edges = record { numbers = numbers; edges = edges; node_columns = ints zs ∷ []; edge_columns = [] }

-- a graph of edges with a value each, and nodes without columns
abbrev pub weighed : List ℕ → List Edge → List ℤ → NumberedGraph
weighed numbers edges zs = record { numbers = numbers; edges = edges; node_columns = []; edge_columns = ints zs ∷ [] }
