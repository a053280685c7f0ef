-- What small images do on small graphs, worked out by hand.
use Rattle.std.specs.Prelude.{◌≡◌, true, false, ℕ, pos, negsuc, Some, None, List, [], ◌∷◌, refl}
use Rattle.gm_value.specs.declared.faults.FaultKind.TheVariants.{Overflow}
use Rattle.gm_value.specs.declared.values.Value.{Value}
use Rattle.gm_value.specs.declared.values.Value.TheVariants.{I32, I64, Flag, At}
use Rattle.gm_value.specs.declared.reductions.Reduce.{Reduce}
use Rattle.gm_value.specs.declared.reductions.Reduce.TheVariants.{Sum, Product, Min, Max}
use Rattle.gm_model.specs.declared.outcomes.Outcome.{Outcome}
use Rattle.gm_model.specs.declared.outcomes.Outcome.TheVariants.{Done, Fault, Cut}
use Rattle.gm_model.specs.declared.outcomes.RunEnd.{RunEnd}
use Rattle.gm_model.specs.Graphs.{NumberedGraph}
use Rattle.gm_observe.specs.declared.notes.Note.{Note}
use Rattle.gm_machine.specs.Notes.{noted}
use Rattle.gm_machine.specs.Taking.{Contribution, settled}
use Rattle.gm_machine.specs.Vertex.{Message}
use Rattle.gm_machine.specs.Machine.{machine, Stops, Steps, Ended, Faulted}
use Rattle.gm_machine.specs.States.{State, after, most_supersteps}
use Rattle.gm_machine.proofs.Samples.{spin_to, total, pair, pair_merged, total_of, push, weigh, best, top, ints, edge, graph_of, weighed}

abbrev ends : Outcome → ℕ → ℕ → RunEnd
ends outcome supersteps messages = record { outcome = outcome; supersteps = supersteps; messages = messages }

abbrev empty : NumberedGraph
empty = record { numbers = []; edges = []; node_columns = []; edge_columns = [] }

-- six turns are enough to count to six, and five are not
spin_ends : machine (spin_to 6) empty [] 6 ≡ ends (Done [] (Some (I32 (pos 6))) [] 6) 0 0
spin_ends = refl

spin_is_cut : machine (spin_to 6) empty [] 5 ≡ ends (Cut 5) 0 0
spin_is_cut = refl

-- a far bound costs nothing
spin_ends_below : machine (spin_to 1000) empty [] 1000000 ≡ ends (Done [] (Some (I32 (pos 1000))) [] 1000) 0 0
spin_ends_below = refl

-- three messages go along three edges, two of them between the same nodes
abbrev two_nodes : NumberedGraph
two_nodes = graph_of (4 ∷ 9 ∷ []) (pos 5 ∷ pos 7 ∷ []) (edge 0 1 ∷ edge 0 1 ∷ edge 1 1 ∷ [])

total_ends : machine total two_nodes [] 1000000 ≡ ends (Done [] None (ints (pos 0 ∷ pos 17 ∷ []) ∷ []) 0) 2 3
total_ends = refl

abbrev message : ℕ → ℕ → Message
message to n = record { to = to; kind = 0; values = I32 (pos n) ∷ [] }

-- before the second step they wait
abbrev total_between : State
total_between = record {
  next = Steps 1000000 1 2 (record { globals = []; turns = 0 });
  nodes = record {
    fields = ints (pos 5 ∷ pos 0 ∷ []) ∷ ints (pos 7 ∷ pos 0 ∷ []) ∷ [];
    sent = message 1 5 ∷ message 1 5 ∷ message 1 7 ∷ [];
    supersteps = 1;
    messages = 3;
  };
}

total_waits : after total two_nodes [] 1000000 1 ≡ total_between
total_waits = refl

-- after the second step nothing waits, and nothing changes any more
abbrev total_over : State
total_over = record {
  next = Stops (Ended (record { globals = []; turns = 0 }));
  nodes = record {
    fields = ints (pos 5 ∷ pos 0 ∷ []) ∷ ints (pos 7 ∷ pos 17 ∷ []) ∷ [];
    sent = [];
    supersteps = 2;
    messages = 3;
  };
}

total_is_over : after total two_nodes [] 1000000 2 ≡ total_over
total_is_over = refl

total_stays_over : after total two_nodes [] 1000000 9 ≡ total_over
total_stays_over = refl

-- two steps and no loop: at most two supersteps in each turn; a loop without a step takes none
total_is_bounded : most_supersteps total 3 ≡ 8
total_is_bounded = refl

spin_is_bounded : most_supersteps (spin_to 6) 5 ≡ 0
spin_is_bounded = refl

-- both steps are noted, and so is one that faults
abbrev note : ℕ → ℕ → ℕ → ℕ → Note
note step block vertices messages = record { step = step; block = block; vertices = vertices; messages = messages }

total_is_noted : noted total two_nodes [] 1000000 ≡ note 1 0 2 3 ∷ note 2 1 2 0 ∷ []
total_is_noted = refl

spin_has_no_step : noted (spin_to 6) empty [] 5 ≡ []
spin_has_no_step = refl

fault_is_noted : noted (total_of Sum) (graph_of (0 ∷ 1 ∷ []) (pos 2147483647 ∷ pos 1 ∷ []) []) [] 9 ≡ note 1 0 2 0 ∷ []
fault_is_noted = refl

-- a superstep that faults is the last one
fault_stops : (after (total_of Sum) (graph_of (0 ∷ 1 ∷ []) (pos 2147483647 ∷ pos 1 ∷ []) []) [] 9 1).next
    ≡ Stops (Faulted (record { place = 0; kind = Overflow }) (record { globals = ints (pos 0 ∷ []); turns = 0 }))
fault_stops = refl

-- two steps, and the same with one
abbrev one_edge : NumberedGraph
one_edge = record { numbers = 0 ∷ 1 ∷ []; edges = edge 0 1 ∷ []; node_columns = []; edge_columns = [] }

abbrev threes : List (List Value)
threes = ints (pos 3 ∷ pos 3 ∷ []) ∷ ints (pos 3 ∷ pos 3 ∷ []) ∷ []

pair_ends : machine pair one_edge [] 9 ≡ ends (Done [] None threes 0) 2 0
pair_ends = refl

pair_merged_ends : machine pair_merged one_edge [] 9 ≡ ends (Done [] None threes 0) 1 0
pair_merged_ends = refl

-- one more than the greatest number is a fault; a sum that leaves the range on the way is none; a product with a factor 0 is 0
sum_overflows : machine (total_of Sum) (graph_of (0 ∷ 1 ∷ []) (pos 2147483647 ∷ pos 1 ∷ []) []) [] 9
    ≡ ends (Fault Overflow (record { line = 1; col = 53 })) 1 0
sum_overflows = refl

sum_returns : machine (total_of Sum) (graph_of (0 ∷ 1 ∷ 2 ∷ []) (pos 2147483647 ∷ pos 2147483647 ∷ negsuc 2147483646 ∷ []) []) [] 9
    ≡ ends (Done [] (Some (I32 (pos 2147483647))) [] 0) 1 0
sum_returns = refl

product_overflows : machine (total_of Product) (graph_of (0 ∷ 1 ∷ []) (pos 2147483647 ∷ pos 2147483647 ∷ []) []) [] 9
    ≡ ends (Fault Overflow (record { line = 1; col = 53 })) 1 0
product_overflows = refl

product_of_zero : machine (total_of Product) (graph_of (0 ∷ 1 ∷ 2 ∷ []) (pos 2147483647 ∷ pos 2147483647 ∷ pos 0 ∷ []) []) [] 9
    ≡ ends (Done [] (Some (I32 (pos 0))) [] 0) 1 0
product_of_zero = refl

-- the first place overflows, though both places together would not
first_place_overflows : machine push (graph_of (0 ∷ 1 ∷ 2 ∷ []) (pos 2147483647 ∷ pos 1 ∷ pos 0 ∷ []) (edge 0 2 ∷ edge 1 2 ∷ [])) [] 9
    ≡ ends (Fault Overflow (record { line = 3; col = 31 })) 2 4
first_place_overflows = refl

-- an each that folds, and a skip
weigh_ends : machine weigh (weighed (0 ∷ 1 ∷ []) (edge 0 1 ∷ edge 0 1 ∷ edge 1 0 ∷ []) (pos 5 ∷ pos 7 ∷ pos 3 ∷ [])) [] 9
    ≡ ends (Done [] None (ints (pos 12 ∷ pos 3 ∷ []) ∷ (Flag false ∷ Flag true ∷ []) ∷ []) 0) 1 0
weigh_ends = refl

-- the sum of an each overflows at the place of its fold
weigh_overflows : machine weigh (weighed (0 ∷ 1 ∷ []) (edge 1 0 ∷ edge 1 1 ∷ []) (pos 2147483647 ∷ pos 1 ∷ [])) [] 9
    ≡ ends (Fault Overflow (record { line = 3; col = 5 })) 1 0
weigh_overflows = refl

-- of two in-neighbours with the least value the least node is picked; who has none keeps what it held
best_ends : machine best (graph_of (0 ∷ 1 ∷ 2 ∷ 3 ∷ []) (pos 4 ∷ pos 2 ∷ pos 2 ∷ pos 0 ∷ []) (edge 0 3 ∷ edge 1 3 ∷ edge 2 3 ∷ [])) [] 9
    ≡ ends (Done [] None (ints (pos 2147483647 ∷ pos 2147483647 ∷ pos 2147483647 ∷ pos 2 ∷ []) ∷ (At None ∷ At None ∷ At None ∷ At (Some 1) ∷ []) ∷ []) 0) 2 3
best_ends = refl

-- of two nodes with the greatest value the least is put, but what is held stays where nothing is better
top_ends : machine top (graph_of (0 ∷ 1 ∷ 2 ∷ []) (pos 3 ∷ pos 8 ∷ pos 8 ∷ []) []) [] 9 ≡ ends (Done (I32 (pos 8) ∷ At (Some 1) ∷ []) None [] 0) 1 0
top_ends = refl

top_stays : machine top (graph_of (0 ∷ 1 ∷ []) (pos 0 ∷ negsuc 0 ∷ []) []) [] 9 ≡ ends (Done (I32 (pos 0) ∷ At None ∷ []) None [] 0) 1 0
top_stays = refl

-- contributions to two slots, of a slot beside them and of none
abbrev two : Reduce → ℕ → Value → Value → Contribution
two r place v w = record { place = place; reduce = r; slots = 2 ∷ 0 ∷ []; values = v ∷ w ∷ [] }

abbrev lone : Value → Contribution
lone v = record { place = 0; reduce = Sum; slots = 1 ∷ []; values = v ∷ [] }

-- the best tuple is kept whole: slot by slot 2 and node 0 would be the least
slots_are_one_target : settled 1 (two Min 0 (I32 (pos 5)) (At (Some 0)) ∷ lone (I32 (pos 4)) ∷ two Min 0 (I32 (pos 2)) (At (Some 9)) ∷ []) (At (Some 7) ∷ I32 (pos 3) ∷ I32 (pos 6) ∷ [])
    ≡ record { values = At (Some 9) ∷ I32 (pos 7) ∷ I32 (pos 2) ∷ []; fault = None }
slots_are_one_target = refl

-- in a tie NIL is the least node, and by Max the least rest is kept, of which False comes before True
nil_wins_a_tie : settled 1 (two Min 0 (I32 (pos 2)) (At (Some 0)) ∷ two Min 0 (I32 (pos 2)) (At None) ∷ []) (At (Some 7) ∷ I32 (pos 3) ∷ I32 (pos 6) ∷ [])
    ≡ record { values = At None ∷ I32 (pos 3) ∷ I32 (pos 2) ∷ []; fault = None }
nil_wins_a_tie = refl

least_rest_of_the_greatest : settled 2 (two Max 1 (I32 (pos 8)) (Flag true) ∷ two Max 0 (I32 (pos 8)) (Flag false) ∷ two Max 0 (I32 (pos 7)) (Flag false) ∷ []) (Flag true ∷ I32 (pos 3) ∷ I32 (pos 6) ∷ [])
    ≡ record { values = Flag false ∷ I32 (pos 3) ∷ I32 (pos 8) ∷ []; fault = None }
least_rest_of_the_greatest = refl

-- what does not fit a slot is a fault of the target at its place, and the target keeps what it held
target_faults : settled 2 (two Max 1 (I64 (pos 2147483648)) (Flag true) ∷ lone (I32 (pos 1)) ∷ []) (Flag false ∷ I32 (pos 3) ∷ I32 (pos 6) ∷ [])
    ≡ record { values = Flag false ∷ I32 (pos 4) ∷ I32 (pos 6) ∷ []; fault = Some (record { place = 1; kind = Overflow }) }
target_faults = refl
