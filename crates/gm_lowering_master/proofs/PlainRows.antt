-- Programs of plain loops, and some whose loops are not.
use Rattle.std.specs.Prelude.{◌≡◌, ℕ, Bool, true, false, List, [], ◌∷◌, refl, Some}
use Rattle.gm_value.specs.declared.operations.Op2.TheVariants as two
use Rattle.gm_value.specs.declared.reductions.Reduce.{Reduce}
use Rattle.gm_value.specs.declared.reductions.Reduce.TheVariants as reduce
use Rattle.gm_ast.specs.declared.tree.Domain.TheVariants.{InNbrs}
use Rattle.gm_ast.specs.Program.{always, Expr, Program, Stmt, Binary, sequence, Assign, Combine, Declare, Foreach}
use Rattle.gm_lowering.specs.Layouts.{layout}
use Rattle.gm_lowering.proofs.Samples.{at, key, over, neighbours, reduces, property, variable, to_property, int, sum, weigh, hops, total, scalar}
use Rattle.gm_lowering.proofs.MoreSamples.{home, random, picks, folds, bounds, caps, pairs, tops, gifts, marks, turns}
use Rattle.gm_lowering_master.specs.Follows.{is_followed}
use Rattle.gm_lowering_master.specs.Whole.{has_result}
use Rattle.gm_lowering_master.specs.Plain.{loop_goes, is_plain}
use Rattle.gm_ast.specs.declared.tree.Target.{Target}

-- whether the master list follows a program, and whether its loops are plain
abbrev facts : Program → List Bool
facts p = is_followed (layout p) (has_result p.result) p.body ∷ is_plain (layout p) p.body ∷ []

sum_facts : facts sum ≡ true ∷ true ∷ []
sum_facts = refl

weigh_facts : facts weigh ≡ true ∷ true ∷ []
weigh_facts = refl

home_facts : facts home ≡ true ∷ true ∷ []
home_facts = refl

-- what is reduced to a node's own properties at once is plain
folds_facts : facts folds ≡ true ∷ true ∷ []
folds_facts = refl

-- but by And and Or, which do not ask for their value where what is held decides
abbrev folds_by : Reduce → Bool
folds_by r = loop_goes (layout folds) 9 (key 2) always (sequence (reduces 3 (at 1 3) r (to_property 9 3) (property 9 1) ∷ []))

sums : folds_by reduce.Sum ≡ true
sums = refl

ands : folds_by reduce.And ≡ false
ands = refl

-- what is reduced to a local at once is plain
bounds_facts : facts bounds ≡ true ∷ true ∷ []
bounds_facts = refl

-- what scalars of the procedure keep at once is plain
turns_facts : facts turns ≡ true ∷ true ∷ []
turns_facts = refl

-- but by Min and Max alone
abbrev phase_keeps : Reduce → List Target → List Expr → Bool
phase_keeps r ts es = is_plain (layout turns) (Combine (key 3) (total 3 (at 1 3)) r ts es)

one_value : phase_keeps reduce.Min (scalar 5 ∷ []) (int 1 ∷ []) ≡ true
one_value = refl

one_sum : phase_keeps reduce.Sum (scalar 5 ∷ []) (int 1 ∷ []) ≡ false
one_sum = refl

one_scalar_twice : phase_keeps reduce.Min (scalar 5 ∷ scalar 5 ∷ []) (int 1 ∷ int 2 ∷ []) ≡ true
one_scalar_twice = refl

one_local : phase_keeps reduce.Min (scalar 14 ∷ []) (int 1 ∷ []) ≡ false
one_local = refl

-- what is sent along edges is plain
hops_facts : facts hops ≡ true ∷ true ∷ []
hops_facts = refl

-- and so is a tuple that locals and properties of a node keep at once
picks_facts : facts picks ≡ true ∷ true ∷ []
picks_facts = refl

-- but each target once
abbrev tuple_of : List Target → Bool
tuple_of ts = loop_goes (layout picks) 9 (key 3) always (sequence (Combine (key 8) (total 8 (at 1 8)) reduce.Max ts (property 9 1 ∷ int 1 ∷ []) ∷ []))

two_locals : tuple_of (scalar 14 ∷ scalar 15 ∷ []) ≡ true
two_locals = refl

one_local_twice : tuple_of (scalar 14 ∷ scalar 14 ∷ []) ≡ false
one_local_twice = refl

-- what is reduced at once to a local of an inner loop is plain where receivers of messages evaluate it
caps_facts : facts caps ≡ true ∷ true ∷ []
caps_facts = refl

-- and so is a tuple of such locals
pairs_facts : facts pairs ≡ true ∷ true ∷ []
pairs_facts = refl

-- likewise where the outer node evaluates it, and where it sends along its edges
tops_facts : facts tops ≡ true ∷ true ∷ []
tops_facts = refl

gifts_facts : facts gifts ≡ true ∷ true ∷ []
gifts_facts = refl

-- but by Min and Max alone
abbrev caps_by : Reduce → Bool
caps_by r =
    loop_goes (layout caps) 9 (key 2) always (neighbours 3 10 9 always (
    Declare (key 4) 12 (Some (property 10 1)) ∷ reduces 5 (at 1 6) r (scalar 12) (int 8) ∷ reduces 6 (at 1 7) reduce.Sum (to_property 10 3) (variable 12) ∷ []))

least_values : caps_by reduce.Min ≡ true
least_values = refl

totals : caps_by reduce.Sum ≡ false
totals = refl

abbrev tops_by : Reduce → Bool
tops_by r =
    loop_goes (layout tops) 9 (key 2) always (neighbours 3 10 9 always (
    Declare (key 4) 12 (Some (property 9 1)) ∷ reduces 5 (at 1 6) r (scalar 12) (int 8) ∷ reduces 6 (at 1 7) reduce.Sum (to_property 9 3) (variable 12) ∷ []))

greatest_at_home : tops_by reduce.Max ≡ true
greatest_at_home = refl

totals_at_home : tops_by reduce.Sum ≡ false
totals_at_home = refl

-- what is sent through a node variable is plain
random_facts : facts random ≡ true ∷ true ∷ []
random_facts = refl

-- but where nothing that may fault comes behind the total of a Sum or a Product
abbrev behind_by : Reduce → Expr → Bool
behind_by r e =
    loop_goes (layout random) 9 (key 2) always (sequence (
    Declare (key 3) 11 (Some (property 9 7))
    ∷ Combine (key 4) (total 4 (at 1 4)) r (to_property 11 3 ∷ []) (property 9 1 ∷ [])
    ∷ Assign (key 5) (to_property 9 4) e
    ∷ []))

nothing_behind : behind_by reduce.Sum (property 9 1) ≡ true
nothing_behind = refl

sum_behind : behind_by reduce.Sum (Binary two.Add (at 1 5) (property 9 1) (int 1)) ≡ false
sum_behind = refl

sum_behind_least : behind_by reduce.Min (Binary two.Add (at 1 5) (property 9 1) (int 1)) ≡ true
sum_behind_least = refl

-- the filter of a loop that sends along its edges may fault, where its number is below that of the totals of Sums and Products
abbrev goes : ℕ → Reduce → Bool
goes k r =
    let test = Binary two.Lt (at 7 45) (Binary two.Add (at 7 40) (variable 5) (int 1)) (int 9) in
    loop_goes (layout hops) 6 (key 11) (property 6 3) (neighbours k 7 6 test (reduces 13 (at 7 60) r (to_property 7 2) (variable 5) ∷ []))

filter_leads : goes 12 reduce.Sum ≡ true
filter_leads = refl

filter_follows : goes 14 reduce.Sum ≡ false
filter_follows = refl

filter_follows_least : goes 14 reduce.Min ≡ true
filter_follows_least = refl

-- what eachs send through node variables is plain
abbrev eachs_by : List Stmt → Bool
eachs_by rest = loop_goes (layout marks) 9 (key 4) always (Foreach (key 5) (at 1 3) (over 10 InNbrs 9) always (sequence (Declare (key 6) 17 (Some (property 9 7)) ∷ rest)))

through_local : eachs_by (reduces 9 (at 1 8) reduce.Sum (to_property 17 4) (property 9 1) ∷ []) ≡ true
through_local = refl

-- but beside no property of the outer node, and where nothing that may fault comes behind the total of a Sum or a Product
own_besides : eachs_by (reduces 7 (at 1 6) reduce.Sum (to_property 9 3) (property 9 1) ∷ reduces 9 (at 1 8) reduce.Sum (to_property 17 4) (property 9 1) ∷ []) ≡ false
own_besides = refl

scalar_behind : eachs_by (reduces 9 (at 1 8) reduce.Sum (to_property 17 4) (property 9 1) ∷ reduces 10 (at 1 9) reduce.Max (scalar 5) (property 9 1) ∷ []) ≡ false
scalar_behind = refl

scalar_behind_least : eachs_by (reduces 9 (at 1 8) reduce.Min (to_property 17 4) (property 9 1) ∷ reduces 10 (at 1 9) reduce.Max (scalar 5) (property 9 1) ∷ []) ≡ true
scalar_behind_least = refl

-- what the receivers of messages send through node variables is plain
marks_facts : facts marks ≡ true ∷ true ∷ []
marks_facts = refl

-- but behind what they reduce to the same properties themselves, and where nothing that may fault comes behind the total of a Sum or a Product
abbrev marks_by : List Stmt → Bool
marks_by rest = loop_goes (layout marks) 9 (key 4) always (Foreach (key 5) (at 1 3) (over 10 InNbrs 9) always (sequence (Declare (key 6) 17 (Some (property 10 7)) ∷ rest)))

sent_alone : marks_by (reduces 9 (at 1 8) reduce.Sum (to_property 17 4) (property 9 1) ∷ []) ≡ true
sent_alone = refl

other_properties : marks_by (reduces 7 (at 1 6) reduce.Sum (to_property 10 3) (property 9 1) ∷ reduces 9 (at 1 8) reduce.Sum (to_property 17 4) (property 9 1) ∷ []) ≡ true
other_properties = refl

one_property : marks_by (reduces 7 (at 1 6) reduce.Sum (to_property 10 4) (property 9 1) ∷ reduces 9 (at 1 8) reduce.Sum (to_property 17 4) (property 9 1) ∷ []) ≡ true
one_property = refl

one_property_before : marks_by (reduces 7 (at 1 6) reduce.Min (to_property 17 4) (property 9 1) ∷ reduces 9 (at 1 8) reduce.Min (to_property 10 4) (property 9 1) ∷ []) ≡ false
one_property_before = refl

total_behind : marks_by (reduces 9 (at 1 8) reduce.Sum (to_property 17 4) (property 9 1) ∷ reduces 10 (at 1 9) reduce.Sum (to_property 10 3) (property 9 1) ∷ []) ≡ false
total_behind = refl

total_behind_least : marks_by (reduces 9 (at 1 8) reduce.Min (to_property 17 4) (property 9 1) ∷ reduces 10 (at 1 9) reduce.Sum (to_property 10 3) (property 9 1) ∷ []) ≡ true
total_behind_least = refl
