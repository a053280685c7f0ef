-- Small images.
use Rattle.std.specs.Prelude.{true, ℕ, Some, None, [], ◌∷◌, pos, codes}
use Rattle.gm_value.specs.declared.values.VType.TheVariants as types
use Rattle.gm_value.specs.declared.values.Value.TheVariants as values
use Rattle.gm_value.specs.declared.reductions.Reduce.{Reduce}
use Rattle.gm_value.specs.declared.reductions.Reduce.TheVariants as reduce
use Rattle.gm_value.specs.declared.operations.Op2.TheVariants as two
use Rattle.gm_image.specs.Term.{Const, Global, Field, Self, Message, Column, Neighbour, Binary}
use Rattle.gm_image.specs.Program.{Program, SetField, Fold, Put, Send, Skip, Each, Out, SetGlobal, Step, Turn, Back, Finish, Node, Edge}

-- counts to six
abbrev pub spin : Program
spin = record {
  name = codes "spin";
  inputs = [];
  outputs = [];
  result = Some (types.I32, 0);
  globals = types.I32 ∷ [];
  fields = [];
  registers = [];
  columns = [];
  kinds = [];
  places = record { line = 3; col = 21 } ∷ [];
  blocks = [];
  master =
      Turn 3 (Binary two.Lt None (Global 0) (Const (values.I32 (pos 6))))
      ∷ SetGlobal 0 (Binary two.Add (Some 0) (Global 0) (Const (values.I32 (pos 1))))
      ∷ Back 0
      ∷ Finish
      ∷ [];
}

-- each node's sum over its in-neighbours
abbrev pub total : Program
total = record {
  name = codes "total";
  inputs = record { holder = Node; vtype = types.I32; name = codes "v"; slot = 0 } ∷ [];
  outputs = record { holder = Node; vtype = types.I32; name = codes "s"; slot = 1 } ∷ [];
  result = None;
  globals = [];
  fields = types.I32 ∷ types.I32 ∷ [];
  registers = [];
  columns = [];
  kinds = record { combiner = None; values = types.I32 ∷ [] } ∷ [];
  places = record { line = 2; col = 32 } ∷ [];
  blocks =
      record { handlers = []; body = Each Out 1 ∷ Send 0 Neighbour (Field 0 ∷ []) ∷ [] }
      ∷ record {
        handlers = record { kind = 0; lines = Fold reduce.Sum 0 (record { slot = 1; term = Message 0 } ∷ []) ∷ [] } ∷ [];
        body = [];
      }
      ∷ [];
  master = Step 0 ∷ Step 1 ∷ Finish ∷ [];
}

-- the second step reads what the first one wrote
abbrev pub pair : Program
pair = record {
  name = codes "pair";
  inputs = [];
  outputs =
      record { holder = Node; vtype = types.I32; name = codes "a"; slot = 0 }
      ∷ record { holder = Node; vtype = types.I32; name = codes "b"; slot = 1 }
      ∷ [];
  result = None;
  globals = [];
  fields = types.I32 ∷ types.I32 ∷ [];
  registers = [];
  columns = [];
  kinds = [];
  places = [];
  blocks =
      record { handlers = []; body = SetField 0 (Const (values.I32 (pos 3))) ∷ [] }
      ∷ record { handlers = []; body = SetField 1 (Field 0) ∷ [] }
      ∷ [];
  master = Step 0 ∷ Step 1 ∷ Finish ∷ [];
}

-- pair with its two steps made one
abbrev pub pair_merged : Program
pair_merged = record pair {
  blocks =
      record { handlers = []; body = SetField 0 (Const (values.I32 (pos 3))) ∷ SetField 1 (Field 0) ∷ [] }
      ∷ [];
  master = Step 0 ∷ Finish ∷ [];
}

-- spin with the exit of its loop at its back
abbrev pub spin_short : Program
spin_short = record spin {
  master =
      Turn 2 (Binary two.Lt None (Global 0) (Const (values.I32 (pos 6))))
      ∷ SetGlobal 0 (Binary two.Add (Some 0) (Global 0) (Const (values.I32 (pos 1))))
      ∷ Back 0
      ∷ Finish
      ∷ [];
}

-- what a reduction starts from
abbrev pub start_of : Reduce → ℕ
start_of reduce.Product = 1
start_of r = 0

-- the sum and the product of a field over all nodes
abbrev pub total_of : Reduce → Program
total_of r = record {
  name = codes "t";
  inputs = record { holder = Node; vtype = types.I32; name = codes "v"; slot = 0 } ∷ [];
  outputs = [];
  result = Some (types.I32, 0);
  globals = types.I32 ∷ [];
  fields = types.I32 ∷ [];
  registers = [];
  columns = [];
  kinds = [];
  places = record { line = 1; col = 53 } ∷ [];
  blocks = record { handlers = []; body = Put r 0 (record { slot = 0; term = Field 0 } ∷ []) ∷ [] } ∷ [];
  master = SetGlobal 0 (Const (values.I32 (pos (start_of r)))) ∷ Step 0 ∷ Finish ∷ [];
}

-- each node sends its value and then the negative of it, which its out-neighbours add at two places
abbrev pub push : Program
push = record {
  name = codes "a";
  inputs = record { holder = Node; vtype = types.I32; name = codes "v"; slot = 0 } ∷ [];
  outputs = record { holder = Node; vtype = types.I32; name = codes "b"; slot = 1 } ∷ [];
  result = None;
  globals = [];
  fields = types.I32 ∷ types.I32 ∷ [];
  registers = [];
  columns = [];
  kinds =
      record { combiner = None; values = types.I32 ∷ [] } ∷ record { combiner = None; values = types.I32 ∷ [] } ∷ [];
  places = record { line = 3; col = 31 } ∷ record { line = 3; col = 50 } ∷ record { line = 3; col = 46 } ∷ [];
  blocks =
      record {
        handlers = [];
        body =
            Each Out 2
            ∷ Send 0 Neighbour (Field 0 ∷ [])
            ∷ Send 1 Neighbour (Binary two.Sub (Some 1) (Const (values.I32 (pos 0))) (Field 0) ∷ [])
            ∷ [];
      }
      ∷ record {
        handlers =
            record { kind = 0; lines = Fold reduce.Sum 0 (record { slot = 1; term = Message 0 } ∷ []) ∷ [] }
            ∷ record { kind = 1; lines = Fold reduce.Sum 2 (record { slot = 1; term = Message 0 } ∷ []) ∷ [] }
            ∷ [];
        body = [];
      }
      ∷ [];
  master = Step 0 ∷ Step 1 ∷ Finish ∷ [];
}

-- each node keeps the least value of its in-neighbours, and whose it is
abbrev pub best : Program
best = record {
  name = codes "b";
  inputs = record { holder = Node; vtype = types.I32; name = codes "v"; slot = 0 } ∷ [];
  outputs =
      record { holder = Node; vtype = types.I32; name = codes "m"; slot = 1 }
      ∷ record { holder = Node; vtype = types.Node; name = codes "w"; slot = 2 }
      ∷ [];
  result = None;
  globals = [];
  fields = types.I32 ∷ types.I32 ∷ types.Node ∷ [];
  registers = [];
  columns = [];
  kinds = record { combiner = None; values = types.I32 ∷ types.Node ∷ [] } ∷ [];
  places = record { line = 4; col = 39 } ∷ [];
  blocks =
      record {
        handlers = [];
        body =
            SetField 1 (Const (values.I32 (pos 2147483647))) ∷ Each Out 1 ∷ Send 0 Neighbour (Field 0 ∷ Self ∷ []) ∷ [];
      }
      ∷ record {
        handlers =
            record {
              kind = 0;
              lines =
                  Fold reduce.Min 0 (record { slot = 1; term = Message 0 } ∷ record { slot = 2; term = Message 1 } ∷ []) ∷ [];
            }
            ∷ [];
        body = [];
      }
      ∷ [];
  master = Step 0 ∷ Step 1 ∷ Finish ∷ [];
}

-- spin with no master line
abbrev pub spin_endless : Program
spin_endless = record spin { master = [] }

-- each node adds up its out-edges, and marks itself where the sum is below ten
abbrev pub weigh : Program
weigh = record {
  name = codes "w";
  inputs = record { holder = Edge; vtype = types.I32; name = codes "l"; slot = 0 } ∷ [];
  outputs =
      record { holder = Node; vtype = types.I32; name = codes "a"; slot = 0 }
      ∷ record { holder = Node; vtype = types.Flag; name = codes "b"; slot = 1 }
      ∷ [];
  result = None;
  globals = [];
  fields = types.I32 ∷ types.Flag ∷ [];
  registers = [];
  columns = types.I32 ∷ [];
  kinds = [];
  places = record { line = 3; col = 5 } ∷ [];
  blocks =
      record {
        handlers = [];
        body =
            Each Out 1
            ∷ Fold reduce.Sum 0 (record { slot = 0; term = Column 0 } ∷ [])
            ∷ Skip 1 (Binary two.Lt None (Field 0) (Const (values.I32 (pos 10))))
            ∷ SetField 1 (Const (values.Flag true))
            ∷ [];
      }
      ∷ [];
  master = Step 0 ∷ Finish ∷ [];
}
