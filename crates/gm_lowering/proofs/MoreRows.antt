-- The runs of small programs of the other forms.
use Rattle.std.specs.Prelude.{◌≡◌, Bool, true, pos, Some, None, List, [], ◌∷◌, refl}
use Rattle.gm_value.specs.declared.values.Value.TheVariants.{I32, At}
use Rattle.gm_value.specs.declared.faults.FaultKind.TheVariants.{NilNode}
use Rattle.gm_model.specs.declared.outcomes.Outcome.TheVariants.{Done, Fault}
use Rattle.gm_model.specs.Graphs.{NumberedGraph}
use Rattle.gm_ast.specs.Program.{Program}
use Rattle.gm_semantics.specs.Outcomes.{mean}
use Rattle.gm_forms.specs.Cut.{is_flipped}
use Rattle.gm_forms.specs.Order.{is_ordered}
use Rattle.gm_forms.specs.Sharing.{is_race_free}
use Rattle.gm_forms.specs.Typing.{has_types}
use Rattle.gm_forms.specs.Uses.{is_named}
use Rattle.gm_image.specs.Soundness.{is_sound}
use Rattle.gm_machine.specs.Machine.{machine}
use Rattle.gm_lowering.specs.Lowered.{lowered}
use Rattle.gm_lowering.proofs.Samples.{graph, edge, ints, at}
use Rattle.gm_lowering.proofs.MoreSamples.{home, random, picks, folds, bounds, caps, pairs, tops, gifts, marks, turns}

abbrev facts : Program → List Bool
facts p = is_flipped p ∷ is_named p ∷ has_types p ∷ is_ordered p ∷ is_race_free p ∷ is_sound (lowered p) ∷ []

abbrev all_hold : List Bool
all_hold = true ∷ true ∷ true ∷ true ∷ true ∷ true ∷ []

home_facts : facts home ≡ all_hold
home_facts = refl

random_facts : facts random ≡ all_hold
random_facts = refl

picks_facts : facts picks ≡ all_hold
picks_facts = refl

folds_facts : facts folds ≡ all_hold
folds_facts = refl

bounds_facts : facts bounds ≡ all_hold
bounds_facts = refl

caps_facts : facts caps ≡ all_hold
caps_facts = refl

pairs_facts : facts pairs ≡ all_hold
pairs_facts = refl

tops_facts : facts tops ≡ all_hold
tops_facts = refl

gifts_facts : facts gifts ≡ all_hold
gifts_facts = refl

marks_facts : facts marks ≡ all_hold
marks_facts = refl

turns_facts : facts turns ≡ all_hold
turns_facts = refl

abbrev square : NumberedGraph
square = graph (0 ∷ 1 ∷ 2 ∷ 3 ∷ []) (edge 0 1 ∷ edge 0 2 ∷ edge 1 3 ∷ edge 2 3 ∷ edge 3 0 ∷ edge 3 3 ∷ [])
    (ints (7 ∷ 4 ∷ 9 ∷ 2 ∷ []) ∷ []) []

home_run : (machine (lowered home) square (At (Some 3) ∷ []) 9).outcome ≡ mean home square (At (Some 3) ∷ []) 9
home_run = refl

random_run : (machine (lowered random) square (At (Some 3) ∷ []) 9).outcome ≡ mean random square (At (Some 3) ∷ []) 9
random_run = refl

picks_mean : mean picks square (At (Some 3) ∷ []) 9 ≡ Done [] (Some (I32 (pos 302))) (ints (4 ∷ 4 ∷ 4 ∷ 2 ∷ []) ∷ ints (8 ∷ 5 ∷ 10 ∷ 3 ∷ []) ∷ []) 0
picks_mean = refl

picks_run : (machine (lowered picks) square (At (Some 3) ∷ []) 9).outcome ≡ Done [] (Some (I32 (pos 302))) (ints (4 ∷ 4 ∷ 4 ∷ 2 ∷ []) ∷ ints (8 ∷ 5 ∷ 10 ∷ 3 ∷ []) ∷ []) 0
picks_run = refl

folds_mean : mean folds square (At (Some 3) ∷ []) 9 ≡ Done [] (Some (I32 (pos 14))) (ints (3 ∷ 0 ∷ 5 ∷ 2 ∷ []) ∷ ints (10 ∷ 4 ∷ 14 ∷ 2 ∷ []) ∷ []) 0
folds_mean = refl

folds_run : (machine (lowered folds) square (At (Some 3) ∷ []) 9).outcome ≡ mean folds square (At (Some 3) ∷ []) 9
folds_run = refl

bounds_mean : mean bounds square (At (Some 3) ∷ []) 9 ≡ Done [] (Some (I32 (pos 5))) (ints (4 ∷ 4 ∷ 4 ∷ 2 ∷ []) ∷ ints (4 ∷ 4 ∷ 5 ∷ 2 ∷ []) ∷ []) 0
bounds_mean = refl

bounds_run : (machine (lowered bounds) square (At (Some 3) ∷ []) 9).outcome ≡ Done [] (Some (I32 (pos 5))) (ints (4 ∷ 4 ∷ 4 ∷ 2 ∷ []) ∷ ints (4 ∷ 4 ∷ 5 ∷ 2 ∷ []) ∷ []) 0
bounds_run = refl

caps_mean : mean caps square (At (Some 3) ∷ []) 9 ≡ Done [] (Some (I32 (pos 8))) (ints (8 ∷ 8 ∷ 8 ∷ 18 ∷ []) ∷ ints (0 ∷ 0 ∷ 0 ∷ 0 ∷ []) ∷ []) 0
caps_mean = refl

caps_run : (machine (lowered caps) square (At (Some 3) ∷ []) 9).outcome ≡ Done [] (Some (I32 (pos 8))) (ints (8 ∷ 8 ∷ 8 ∷ 18 ∷ []) ∷ ints (0 ∷ 0 ∷ 0 ∷ 0 ∷ []) ∷ []) 0
caps_run = refl

pairs_mean : mean pairs square (At (Some 3) ∷ []) 9 ≡ Done [] (Some (I32 (pos 0))) (ints (2 ∷ 4 ∷ 7 ∷ 6 ∷ []) ∷ ints (7 ∷ 7 ∷ 9 ∷ 9 ∷ []) ∷ []) 0
pairs_mean = refl

pairs_run : (machine (lowered pairs) square (At (Some 3) ∷ []) 9).outcome ≡ Done [] (Some (I32 (pos 0))) (ints (2 ∷ 4 ∷ 7 ∷ 6 ∷ []) ∷ ints (7 ∷ 7 ∷ 9 ∷ 9 ∷ []) ∷ []) 0
pairs_run = refl

tops_mean : mean tops square (At (Some 3) ∷ []) 9 ≡ Done [] (Some (I32 (pos 3))) (ints (2 ∷ 0 ∷ 3 ∷ 0 ∷ []) ∷ ints (7 ∷ 4 ∷ 4 ∷ 2 ∷ []) ∷ []) 0
tops_mean = refl

tops_run : (machine (lowered tops) square (At (Some 3) ∷ []) 9).outcome ≡ Done [] (Some (I32 (pos 3))) (ints (2 ∷ 0 ∷ 3 ∷ 0 ∷ []) ∷ ints (7 ∷ 4 ∷ 4 ∷ 2 ∷ []) ∷ []) 0
tops_run = refl

gifts_mean : mean gifts square (At (Some 3) ∷ []) 9 ≡ Done [] (Some (I32 (pos 0))) (ints (0 ∷ 13 ∷ 13 ∷ 23 ∷ []) ∷ ints (0 ∷ 0 ∷ 0 ∷ 0 ∷ []) ∷ []) 0
gifts_mean = refl

gifts_run : (machine (lowered gifts) square (At (Some 3) ∷ []) 9).outcome ≡ Done [] (Some (I32 (pos 0))) (ints (0 ∷ 13 ∷ 13 ∷ 23 ∷ []) ∷ ints (0 ∷ 0 ∷ 0 ∷ 0 ∷ []) ∷ []) 0
gifts_run = refl

marks_run : (machine (lowered marks) square (At (Some 3) ∷ []) 9).outcome ≡ mean marks square (At (Some 3) ∷ []) 9
marks_run = refl

turns_run : (machine (lowered turns) square (At (Some 3) ∷ []) 20).outcome ≡ mean turns square (At (Some 3) ∷ []) 20
turns_run = refl

-- a node that is NIL faults where it is checked
random_fault : mean random square (At None ∷ []) 9 ≡ Fault NilNode (at 0 0)
random_fault = refl

random_fault_run : (machine (lowered random) square (At None ∷ []) 9).outcome ≡ mean random square (At None ∷ []) 9
random_fault_run = refl

-- and so it does at the receiver of a message
marks_fault : mean marks square (At None ∷ []) 9 ≡ Fault NilNode (at 0 0)
marks_fault = refl

marks_fault_run : (machine (lowered marks) square (At None ∷ []) 9).outcome ≡ mean marks square (At None ∷ []) 9
marks_fault_run = refl

-- a node that the filter of the For does not pass takes its turn alone
turns_skip : (machine (lowered turns) square (At (Some 1) ∷ []) 20).outcome ≡ mean turns square (At (Some 1) ∷ []) 20
turns_skip = refl
