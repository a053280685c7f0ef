-- The images of small programs, and their runs.
use Rattle.std.specs.Prelude.{◌≡◌, Bool, true, false, pos, Some, None, List, [], ◌∷◌, refl}
use Rattle.gm_value.specs.declared.values.VType.TheVariants as V
use Rattle.gm_value.specs.declared.values.Value.TheVariants.{I32, Flag, At}
use Rattle.gm_value.specs.declared.faults.FaultKind.TheVariants.{Overflow}
use Rattle.gm_value.specs.declared.operations.Op2.TheVariants as two
use Rattle.gm_value.specs.declared.reductions.Reduce.TheVariants as reduce
use Rattle.gm_model.specs.declared.outcomes.Outcome.TheVariants.{Done, Fault, Cut}
use Rattle.gm_model.specs.Graphs.{NumberedGraph}
use Rattle.gm_ast.specs.Program.{Program}
use Rattle.gm_semantics.specs.Outcomes.{mean}
use Rattle.gm_forms.specs.Cut.{is_flipped}
use Rattle.gm_forms.specs.Order.{is_ordered}
use Rattle.gm_forms.specs.Sharing.{is_race_free}
use Rattle.gm_forms.specs.Typing.{has_types}
use Rattle.gm_forms.specs.Uses.{is_named}
use Rattle.gm_image.specs.Soundness.{is_sound}
use Rattle.gm_image.specs.Term.{Const, Global, Field, Register, Message, Neighbour, Column, Binary}
use Rattle.gm_image.specs.Program.{Each, Out, SetField, SetRegister, Skip, Put, Fold, Send, SetGlobal, Step, Jump, Turn, Back, Finish}
use Rattle.gm_machine.specs.Machine.{machine}
use Rattle.gm_lowering.specs.Lowered.{lowered}
use Rattle.gm_lowering.specs.Plans.{planned}
use Rattle.gm_lowering.proofs.Samples.{sum, weigh, hops, graph, edge, ints, at}

-- a program is ready to be lowered, and its image is sound
abbrev facts : Program → List Bool
facts p = is_flipped p ∷ is_named p ∷ has_types p ∷ is_ordered p ∷ is_race_free p ∷ is_sound (lowered p) ∷ []

abbrev all_hold : List Bool
all_hold = true ∷ true ∷ true ∷ true ∷ true ∷ true ∷ []

sum_facts : facts sum ≡ all_hold
sum_facts = refl

weigh_facts : facts weigh ≡ all_hold
weigh_facts = refl

hops_facts : facts hops ≡ all_hold
hops_facts = refl

-- the image of sum: one block, in whose body the scalar is put
sum_body : (lowered sum).blocks ≡ record {
  handlers = [];
  body =
      Skip 3 (Binary two.Gt None (Field 0) (Const (I32 (pos 1))))
      ∷ SetRegister 0 (Binary two.Sub (Some 0) (Field 0) (Const (I32 (pos 1))))
      ∷ SetField 1 (Binary two.Mul (Some 1) (Register 0) (Register 0))
      ∷ Put reduce.Sum 2 (record { slot = 0; term = Field 1 } ∷ [])
      ∷ [];
} ∷ []
sum_body = refl

sum_master : (lowered sum).master ≡ SetGlobal 0 (Const (I32 (pos 0))) ∷ Step 0 ∷ SetGlobal 1 (Global 0) ∷ Jump 4 ∷ Finish ∷ []
sum_master = refl

sum_places : (lowered sum).places ≡ at 3 50 ∷ at 3 70 ∷ at 3 80 ∷ []
sum_places = refl

abbrev three : NumberedGraph
three = graph (0 ∷ 1 ∷ 2 ∷ []) [] (ints (3 ∷ 1 ∷ 5 ∷ []) ∷ []) []

sum_mean : mean sum three [] 9 ≡ Done [] (Some (I32 (pos 20))) (ints (4 ∷ 0 ∷ 16 ∷ []) ∷ []) 0
sum_mean = refl

sum_run : (machine (lowered sum) three [] 9).outcome ≡ mean sum three [] 9
sum_run = refl

-- a product that is out of range, before a total that would be
abbrev great : NumberedGraph
great = graph (0 ∷ 1 ∷ []) [] (ints (2147483647 ∷ 46341 ∷ []) ∷ []) []

sum_fault : mean sum great [] 9 ≡ Fault Overflow (at 3 70)
sum_fault = refl

sum_fault_run : (machine (lowered sum) great [] 9).outcome ≡ mean sum great [] 9
sum_fault_run = refl

-- the image of weigh: the sender says its value and the edge's, the receiver does the rest
weigh_blocks : (lowered weigh).blocks ≡
    record { handlers = []; body = Each Out 1 ∷ Send 0 Neighbour (Field 0 ∷ Column 0 ∷ []) ∷ [] }
    ∷ record {
      handlers = record {
        kind = 0;
        lines =
            Skip 2 (Binary two.Lt None (Field 0) (Message 0))
            ∷ SetRegister 0 (Binary two.Sub (Some 0) (Message 0) (Field 0))
            ∷ Fold reduce.Sum 2 (record { slot = 1; term = Binary two.Mul (Some 1) (Register 0) (Message 1) } ∷ [])
            ∷ [];
      } ∷ [];
      body = [];
    }
    ∷ []
weigh_blocks = refl

weigh_master : (lowered weigh).master ≡ Step 0 ∷ Step 1 ∷ Finish ∷ []
weigh_master = refl

abbrev square : NumberedGraph
square = graph (0 ∷ 1 ∷ 2 ∷ 3 ∷ []) (edge 0 1 ∷ edge 0 2 ∷ edge 1 3 ∷ edge 2 3 ∷ edge 3 0 ∷ [])
    (ints (7 ∷ 4 ∷ 9 ∷ 2 ∷ []) ∷ []) (ints (3 ∷ 5 ∷ 10 ∷ 100 ∷ 1 ∷ []) ∷ [])

weigh_mean : mean weigh square [] 9 ≡ Done [] None (ints (0 ∷ 9 ∷ 0 ∷ 720 ∷ []) ∷ []) 0
weigh_mean = refl

weigh_run : (machine (lowered weigh) square [] 9).outcome ≡ mean weigh square [] 9
weigh_run = refl

-- one total is out of range
abbrev heavy : NumberedGraph
heavy = graph (0 ∷ 1 ∷ 2 ∷ []) (edge 0 2 ∷ edge 1 2 ∷ []) (ints (1 ∷ 1 ∷ 0 ∷ []) ∷ []) (ints (2147483647 ∷ 1 ∷ []) ∷ [])

weigh_fault : mean weigh heavy [] 9 ≡ Fault Overflow (at 2 90)
weigh_fault = refl

weigh_fault_run : (machine (lowered weigh) heavy [] 9).outcome ≡ mean weigh heavy [] 9
weigh_fault_run = refl

-- the image of hops: the sender of a level computes the value; a turn of the While is a turn of the list
hops_master : (lowered hops).master ≡
    Step 0
    ∷ SetGlobal 1 (Const (Flag true))
    ∷ SetGlobal 2 (Const (I32 (pos 0)))
    ∷ Step 1
    ∷ Turn 12 (Global 1)
    ∷ SetGlobal 2 (Binary two.Add (Some 0) (Global 2) (Const (I32 (pos 1))))
    ∷ SetGlobal 1 (Const (Flag false))
    ∷ Step 2
    ∷ Step 3
    ∷ Step 4
    ∷ Step 5
    ∷ Back 4
    ∷ Finish
    ∷ []
hops_master = refl

hops_kinds : (planned hops).kinds ≡ record { carried = []; values = V.I32 ∷ [] } ∷ []
hops_kinds = refl

hops_mean : mean hops square (At (Some 0) ∷ []) 9 ≡ Done [] None (ints (0 ∷ 1 ∷ 1 ∷ 2 ∷ []) ∷ []) 3
hops_mean = refl

hops_run : (machine (lowered hops) square (At (Some 0) ∷ []) 9).outcome ≡ Done [] None (ints (0 ∷ 1 ∷ 1 ∷ 2 ∷ []) ∷ []) 3
hops_run = refl

-- the bound is reached
hops_cut : mean hops square (At (Some 0) ∷ []) 2 ≡ Cut 2
hops_cut = refl

hops_cut_run : (machine (lowered hops) square (At (Some 0) ∷ []) 2).outcome ≡ Cut 2
hops_cut_run = refl
