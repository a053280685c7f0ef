-- Listings worked out by hand, over a graph with the nodes 3 and 7. All numbers have one digit, so each listing is
-- written out whole.
use Rattle.std.proofs.Common.{◌≡◌, ℕ, List, [], ◌∷◌, ◌++◌, Some, None, true, false, pos, negsuc, lit<}
use Rattle.std.specs.Prelude.{codes, decimal}
use Rattle.std.proofs.lemmas.Fmt.{decimal_digit}
use Rattle.gm_value.specs.declared.values.Value.TheVariants.{I32, I64, Flag, At}
use Rattle.gm_value.specs.declared.faults.FaultKind.TheVariants.{NilNode}
use Rattle.gm_model.specs.declared.outcomes.Outcome.TheVariants.{Done, Fault, Cut}
use Rattle.gm_listing.specs.declared.outputs.Ending.TheVariants.{Turns, Counts}
use Rattle.gm_listing.specs.Listing.{line_end, listing}

one : decimal 1 ≡ codes "1"
one = decimal_digit 1 (lit< tt)

two : decimal 2 ≡ codes "2"
two = decimal_digit 2 (lit< tt)

three : decimal 3 ≡ codes "3"
three = decimal_digit 3 (lit< tt)

five : decimal 5 ≡ codes "5"
five = decimal_digit 5 (lit< tt)

seven : decimal 7 ≡ codes "7"
seven = decimal_digit 7 (lit< tt)

nine : decimal 9 ≡ codes "9"
nine = decimal_digit 9 (lit< tt)

abbrev numbers : List ℕ
numbers = 3 ∷ 7 ∷ []

-- the names of two scalar outputs and of two output properties
abbrev scalars : List (List ℕ)
scalars = codes "n" ∷ codes "both" ∷ []

abbrev properties : List (List ℕ)
properties = codes "far" ∷ codes "next" ∷ []

-- a run that is done: its scalars, its result, its nodes and its turns, in this order
pub a_whole_run : listing scalars properties numbers Turns
    (Done (I32 (negsuc 4) ∷ Flag true ∷ []) (Some (At None)) ((I64 (pos 5) ∷ I64 (negsuc 0) ∷ []) ∷ (At (Some 1) ∷ At None ∷ []) ∷ []) 9)
    ≡ codes "n = -5" ++ line_end
    ++ codes "both = True" ++ line_end
    ++ codes "return = NIL" ++ line_end
    ++ codes "node far next" ++ line_end
    ++ codes "3 5 7" ++ line_end
    ++ codes "7 -1 NIL" ++ line_end
    ++ codes "turns 9" ++ line_end
a_whole_run = simp (one, three, five, seven, nine)

-- without a result and an output property
pub scalars_alone : listing scalars [] numbers Turns (Done (Flag false ∷ At None ∷ []) None [] 1)
    ≡ codes "n = False" ++ line_end ++ codes "both = NIL" ++ line_end ++ codes "turns 1" ++ line_end
scalars_alone = simp one

-- after an image
pub with_counts : listing [] [] numbers (Counts 2 5) (Done [] None [] 9) ≡ codes "supersteps 2 messages 5 turns 9" ++ line_end
with_counts = simp (two, five, nine)

-- a graph without nodes
pub no_nodes : listing [] properties [] Turns (Done [] None ([] ∷ [] ∷ []) 1) ≡ codes "node far next" ++ line_end ++ codes "turns 1" ++ line_end
no_nodes = simp one

-- a scalar without a name, a property without values and a node without a value are left out
pub without_partners : listing (codes "n" ∷ []) properties numbers Turns (Done (Flag true ∷ Flag true ∷ []) None ((Flag false ∷ []) ∷ []) 1)
    ≡ codes "n = True" ++ line_end ++ codes "node far" ++ line_end ++ codes "3 False" ++ line_end ++ codes "7" ++ line_end ++ codes "turns 1" ++ line_end
without_partners = simp (one, three, seven)

-- a fault and a cut, each alone
pub a_fault : listing scalars properties numbers Turns (Fault NilNode (record { line = 2; col = 5 })) ≡ codes "fault NilNode at 2:5" ++ line_end
a_fault = simp (two, five)

pub a_cut : listing scalars properties numbers (Counts 2 5) (Cut 7) ≡ codes "cut after 7 turns" ++ line_end
a_cut = simp seven
