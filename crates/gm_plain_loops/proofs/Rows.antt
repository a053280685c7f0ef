-- Programs that are ready in the last form of the passes: some that the tests let pass, and for each test some that it does not.
use Rattle.std.specs.Prelude.{◌≡◌, Bool, true, false, ◌&&◌, List, [], ◌∷◌, refl, Some}
use Rattle.gm_value.specs.declared.operations.Op2.TheVariants as two
use Rattle.gm_value.specs.declared.reductions.Reduce.TheVariants as reduce
use Rattle.gm_ast.specs.declared.tree.Domain.TheVariants.{Nodes, InNbrs, OutNbrs}
use Rattle.gm_ast.specs.Program.{always, Live, Binary, Stmt, Declare, Assign, Combine, Foreach, For, Return, Program, sequence}
use Rattle.gm_forms.specs.Cut.{is_flipped}
use Rattle.gm_forms.specs.Order.{is_ordered}
use Rattle.gm_forms.specs.Sharing.{is_race_free}
use Rattle.gm_forms.specs.Typing.{has_types}
use Rattle.gm_forms.specs.Uses.{is_named}
use Rattle.gm_lowering.specs.Layouts.{layout}
use Rattle.gm_lowering.proofs.Samples.{at, key, total, over, nodes, reduces, property, variable, scalar, to_property, int, sum, weigh, hops}
use Rattle.gm_lowering.proofs.MoreSamples.{home, random, picks, folds, caps, gifts, turns}
use Rattle.gm_lowering_master.specs.Follows.{is_followed}
use Rattle.gm_lowering_master.specs.Plain.{is_plain}
use Rattle.gm_lowering_master.specs.Whole.{has_result}
use Rattle.gm_plain_loops.specs.Tests.{tells_phases, suits_loops}

-- a program of the same variables: the graph; properties v, a, b, p; scalars r, s, k, f; iterators n, t; locals q, x, z of an outer and y of an inner body; the iterator c of a For
abbrev program : List Stmt → Program
program body = record home { body = sequence body }

abbrev is_ready : Program → Bool
is_ready p = is_flipped p && (is_named p && (has_types p && (is_ordered p && is_race_free p)))

-- whether it is ready, and passes the tests
abbrev tested : Program → List Bool
tested p = is_ready p ∷ tells_phases p ∷ suits_loops p ∷ []

-- whether the master list follows it, and its loops are plain
abbrev facts : Program → List Bool
facts p = is_followed (layout p) (has_result p.result) p.body ∷ is_plain (layout p) p.body ∷ []

sum_tested : tested sum ≡ true ∷ true ∷ true ∷ []
sum_tested = refl

weigh_tested : tested weigh ≡ true ∷ true ∷ true ∷ []
weigh_tested = refl

hops_tested : tested hops ≡ true ∷ true ∷ true ∷ []
hops_tested = refl

home_tested : tested home ≡ true ∷ true ∷ true ∷ []
home_tested = refl

random_tested : tested random ≡ true ∷ true ∷ true ∷ []
random_tested = refl

picks_tested : tested picks ≡ true ∷ true ∷ true ∷ []
picks_tested = refl

folds_tested : tested folds ≡ true ∷ true ∷ true ∷ []
folds_tested = refl

caps_tested : tested caps ≡ true ∷ true ∷ true ∷ []
caps_tested = refl

gifts_tested : tested gifts ≡ true ∷ true ∷ true ∷ []
gifts_tested = refl

-- ---- sequential phases

-- s = x, a local of loops; so the master list cannot tell it
abbrev tells_local : Program
tells_local = program (Assign (key 1) (scalar 5) (variable 14) ∷ Return (key 2) (at 1 2) (Some (variable 5)) ∷ [])

tells_local_tested : tested tells_local ≡ true ∷ false ∷ true ∷ []
tells_local_tested = refl

tells_local_facts : facts tells_local ≡ false ∷ true ∷ []
tells_local_facts = refl

-- For (n: G.Nodes) { s = 1; }, where n iterates parallel loops
abbrev strange_turns : Program
strange_turns = program (For (key 1) (at 1 1) (over 9 Nodes 0) always (sequence (Assign (key 2) (scalar 5) (int 1) ∷ [])) ∷ Return (key 3) (at 1 2) (Some (variable 5)) ∷ [])

strange_turns_tested : tested strange_turns ≡ true ∷ false ∷ true ∷ []
strange_turns_tested = refl

strange_turns_facts : facts strange_turns ≡ false ∷ true ∷ []
strange_turns_facts = refl

-- For (c: G.Nodes) { .. } <s; k> min= <k; s>; a tuple that is kept at once
turns_tested : tested turns ≡ true ∷ true ∷ true ∷ []
turns_tested = refl

turns_facts : facts turns ≡ true ∷ true ∷ []
turns_facts = refl

-- s max= k + 1; a value that is kept at once
abbrev keeps_one : Program
keeps_one = program (Combine (key 1) (total 1 (at 1 1)) reduce.Max (scalar 5 ∷ []) (Binary two.Add (at 1 1) (variable 6) (int 1) ∷ []) ∷ Return (key 2) (at 1 2) (Some (variable 5)) ∷ [])

keeps_one_tested : tested keeps_one ≡ true ∷ true ∷ true ∷ []
keeps_one_tested = refl

keeps_one_facts : facts keeps_one ≡ true ∷ true ∷ []
keeps_one_facts = refl

-- s min= x, a local of loops
abbrev keeps_local : Program
keeps_local = program (Combine (key 1) (total 1 (at 1 1)) reduce.Min (scalar 5 ∷ []) (variable 14 ∷ []) ∷ Return (key 2) (at 1 2) (Some (variable 5)) ∷ [])

keeps_local_tested : tested keeps_local ≡ true ∷ true ∷ false ∷ []
keeps_local_tested = refl

keeps_local_facts : facts keeps_local ≡ true ∷ false ∷ []
keeps_local_facts = refl

-- ---- names in loops

-- Foreach (n: G.Nodes) { n.p = G; }
abbrev names_graph : Program
names_graph = program (nodes 1 9 always (Assign (key 2) (to_property 9 7) (variable 0) ∷ []) ∷ Return (key 3) (at 1 2) (Some (variable 5)) ∷ [])

names_graph_tested : tested names_graph ≡ true ∷ true ∷ false ∷ []
names_graph_tested = refl

names_graph_facts : facts names_graph ≡ true ∷ false ∷ []
names_graph_facts = refl

-- Foreach (n: G.Nodes) { Node q = n.p; n.p = q, checked; }
abbrev checks_local : Program
checks_local = program (nodes 1 9 always (Declare (key 2) 11 (Some (property 9 7)) ∷ Assign (key 3) (to_property 9 7) (Live 11 (at 1 3)) ∷ []) ∷ Return (key 4) (at 1 2) (Some (variable 5)) ∷ [])

checks_local_tested : tested checks_local ≡ true ∷ true ∷ false ∷ []
checks_local_tested = refl

checks_local_facts : facts checks_local ≡ true ∷ false ∷ []
checks_local_facts = refl

-- Foreach (n: G.Nodes) { Foreach (t: n.InNbrs) (y < 3) { Int y = n.v; n.a += y; } }, where the filter names a local of the body
abbrev filters_by_local : Program
filters_by_local = program (
    Foreach (key 1) (at 1 1) (over 9 Nodes 0) always (
    Foreach (key 2) (at 1 2) (over 10 InNbrs 9) (Binary two.Lt (at 1 3) (variable 12) (int 3)) (sequence (
    Declare (key 3) 12 (Some (property 9 1)) ∷ reduces 4 (at 1 4) reduce.Sum (to_property 9 3) (variable 12) ∷ [])))
    ∷ Return (key 5) (at 1 5) (Some (variable 5))
    ∷ [])

filters_by_local_tested : tested filters_by_local ≡ true ∷ true ∷ false ∷ []
filters_by_local_tested = refl

filters_by_local_facts : facts filters_by_local ≡ true ∷ false ∷ []
filters_by_local_facts = refl

-- ---- reductions

-- Foreach (n: G.Nodes) { Int x = n.v; <s; x> max= <n.v; 4>; }: one of the scalars is the procedure's
abbrev ends_apart : Program
ends_apart = program (
    nodes 1 9 always (Declare (key 2) 14 (Some (property 9 1)) ∷ Combine (key 3) (total 3 (at 1 3)) reduce.Max (scalar 5 ∷ scalar 14 ∷ []) (property 9 1 ∷ int 4 ∷ []) ∷ [])
    ∷ Return (key 4) (at 1 4) (Some (variable 5))
    ∷ [])

ends_apart_tested : tested ends_apart ≡ true ∷ true ∷ false ∷ []
ends_apart_tested = refl

ends_apart_facts : facts ends_apart ≡ true ∷ false ∷ []
ends_apart_facts = refl

-- Foreach (n: G.Nodes) { Foreach (t: n.Nbrs) { t.a += n.v + 1; } }, whose total is numbered below its value
abbrev total_leads : Program
total_leads = program (
    Foreach (key 1) (at 1 1) (over 9 Nodes 0) always (
    Foreach (key 2) (at 1 2) (over 10 OutNbrs 9) always (sequence (Combine (key 4) (total 3 (at 1 3)) reduce.Sum (to_property 10 3 ∷ []) (Binary two.Add (at 1 3) (property 9 1) (int 1) ∷ []) ∷ [])))
    ∷ Return (key 5) (at 1 5) (Some (variable 5))
    ∷ [])

total_leads_tested : tested total_leads ≡ true ∷ true ∷ false ∷ []
total_leads_tested = refl

total_leads_facts : facts total_leads ≡ true ∷ false ∷ []
total_leads_facts = refl

-- Foreach (n: G.Nodes) { Foreach (t: n.Nbrs) { r.a += t.v; } }: through a node variable, at an edge, by receivers that send
abbrev goes_elsewhere : Program
goes_elsewhere = program (
    Foreach (key 1) (at 1 1) (over 9 Nodes 0) always (
    Foreach (key 2) (at 1 2) (over 10 OutNbrs 9) always (sequence (reduces 3 (at 1 3) reduce.Sum (to_property 2 3) (property 10 1) ∷ [])))
    ∷ Return (key 4) (at 1 4) (Some (variable 5))
    ∷ [])

goes_elsewhere_tested : tested goes_elsewhere ≡ true ∷ true ∷ true ∷ []
goes_elsewhere_tested = refl

goes_elsewhere_facts : facts goes_elsewhere ≡ true ∷ true ∷ []
goes_elsewhere_facts = refl

-- Foreach (n: G.Nodes) { Foreach (t: n.Nbrs) { t.b += n.v; r.a += t.v; } }: receivers that send reduce to another property of their own too
abbrev folds_and_sends : Program
folds_and_sends = program (
    Foreach (key 1) (at 1 1) (over 9 Nodes 0) always (
    Foreach (key 2) (at 1 2) (over 10 OutNbrs 9) always (sequence (reduces 3 (at 1 3) reduce.Sum (to_property 10 4) (property 9 1) ∷ reduces 4 (at 1 4) reduce.Sum (to_property 2 3) (property 10 1) ∷ [])))
    ∷ Return (key 5) (at 1 5) (Some (variable 5))
    ∷ [])

folds_and_sends_tested : tested folds_and_sends ≡ true ∷ true ∷ true ∷ []
folds_and_sends_tested = refl

folds_and_sends_facts : facts folds_and_sends ≡ true ∷ true ∷ []
folds_and_sends_facts = refl

-- Foreach (n: G.Nodes) { Foreach (t: n.Nbrs) { t.a += n.v; r.a += t.v; } }: to the same one
abbrev folds_what_it_sends : Program
folds_what_it_sends = program (
    Foreach (key 1) (at 1 1) (over 9 Nodes 0) always (
    Foreach (key 2) (at 1 2) (over 10 OutNbrs 9) always (sequence (reduces 3 (at 1 3) reduce.Sum (to_property 10 3) (property 9 1) ∷ reduces 4 (at 1 4) reduce.Sum (to_property 2 3) (property 10 1) ∷ [])))
    ∷ Return (key 5) (at 1 5) (Some (variable 5))
    ∷ [])

folds_what_it_sends_tested : tested folds_what_it_sends ≡ true ∷ true ∷ true ∷ []
folds_what_it_sends_tested = refl

folds_what_it_sends_facts : facts folds_what_it_sends ≡ true ∷ true ∷ []
folds_what_it_sends_facts = refl

-- Foreach (n: G.Nodes) { Foreach (t: n.Nbrs) { r.a min= t.v; t.a min= n.v; } }: to the same one, behind what is sent
abbrev sends_what_it_folds : Program
sends_what_it_folds = program (
    Foreach (key 1) (at 1 1) (over 9 Nodes 0) always (
    Foreach (key 2) (at 1 2) (over 10 OutNbrs 9) always (sequence (reduces 3 (at 1 3) reduce.Min (to_property 2 3) (property 10 1) ∷ reduces 4 (at 1 4) reduce.Min (to_property 10 3) (property 9 1) ∷ [])))
    ∷ Return (key 5) (at 1 5) (Some (variable 5))
    ∷ [])

sends_what_it_folds_tested : tested sends_what_it_folds ≡ true ∷ true ∷ false ∷ []
sends_what_it_folds_tested = refl

sends_what_it_folds_facts : facts sends_what_it_folds ≡ true ∷ false ∷ []
sends_what_it_folds_facts = refl

-- Foreach (n: G.Nodes) { Foreach (t: n.Nbrs) { r.a min= t.v; s max= t.v + n.v; } }: what may fault stands behind what receivers send, the total of which cannot
abbrev receivers_send_first : Program
receivers_send_first = program (
    Foreach (key 1) (at 1 1) (over 9 Nodes 0) always (
    Foreach (key 2) (at 1 2) (over 10 OutNbrs 9) always (sequence (
    reduces 3 (at 1 3) reduce.Min (to_property 2 3) (property 10 1)
    ∷ reduces 4 (at 1 4) reduce.Max (scalar 5) (Binary two.Add (at 1 5) (property 10 1) (property 9 1))
    ∷ [])))
    ∷ Return (key 5) (at 1 6) (Some (variable 5))
    ∷ [])

receivers_send_first_tested : tested receivers_send_first ≡ true ∷ true ∷ true ∷ []
receivers_send_first_tested = refl

receivers_send_first_facts : facts receivers_send_first ≡ true ∷ true ∷ []
receivers_send_first_facts = refl

-- Foreach (n: G.Nodes) { Foreach (t: n.Nbrs) { r.a += t.v; s max= t.v; } }: a total that cannot fault stands behind a Sum that receivers send
abbrev receivers_add_first : Program
receivers_add_first = program (
    Foreach (key 1) (at 1 1) (over 9 Nodes 0) always (
    Foreach (key 2) (at 1 2) (over 10 OutNbrs 9) always (sequence (
    reduces 3 (at 1 3) reduce.Sum (to_property 2 3) (property 10 1) ∷ reduces 4 (at 1 4) reduce.Max (scalar 5) (property 10 1) ∷ [])))
    ∷ Return (key 5) (at 1 6) (Some (variable 5))
    ∷ [])

receivers_add_first_tested : tested receivers_add_first ≡ true ∷ true ∷ false ∷ []
receivers_add_first_tested = refl

receivers_add_first_facts : facts receivers_add_first ≡ true ∷ false ∷ []
receivers_add_first_facts = refl

-- the same at the outer node
abbrev goes_elsewhere_at_home : Program
goes_elsewhere_at_home = program (
    Foreach (key 1) (at 1 1) (over 9 Nodes 0) always (
    Foreach (key 2) (at 1 2) (over 10 InNbrs 9) always (sequence (reduces 3 (at 1 3) reduce.Sum (to_property 2 3) (property 9 1) ∷ [])))
    ∷ Return (key 4) (at 1 4) (Some (variable 5))
    ∷ [])

goes_elsewhere_at_home_tested : tested goes_elsewhere_at_home ≡ true ∷ true ∷ true ∷ []
goes_elsewhere_at_home_tested = refl

goes_elsewhere_at_home_facts : facts goes_elsewhere_at_home ≡ true ∷ true ∷ []
goes_elsewhere_at_home_facts = refl

-- Foreach (n: G.Nodes) { Foreach (t: n.Nbrs) { Node u = n.p; u.a += n.v; } }: through a local of the inner body
abbrev goes_through_local : Program
goes_through_local = program (
    Foreach (key 1) (at 1 1) (over 9 Nodes 0) always (
    Foreach (key 2) (at 1 2) (over 10 OutNbrs 9) always (sequence (Declare (key 3) 17 (Some (property 9 7)) ∷ reduces 4 (at 1 4) reduce.Sum (to_property 17 3) (property 9 1) ∷ [])))
    ∷ Return (key 5) (at 1 5) (Some (variable 5))
    ∷ [])

goes_through_local_tested : tested goes_through_local ≡ true ∷ true ∷ true ∷ []
goes_through_local_tested = refl

goes_through_local_facts : facts goes_through_local ≡ true ∷ true ∷ []
goes_through_local_facts = refl

-- Foreach (n: G.Nodes) { Foreach (t: n.Nbrs) { n.b += n.v; r.a += n.v; } }: the outer node reduces to a property of its own too
abbrev folds_and_sends_at_home : Program
folds_and_sends_at_home = program (
    Foreach (key 1) (at 1 1) (over 9 Nodes 0) always (
    Foreach (key 2) (at 1 2) (over 10 OutNbrs 9) always (sequence (reduces 3 (at 1 3) reduce.Sum (to_property 9 4) (property 9 1) ∷ reduces 4 (at 1 4) reduce.Sum (to_property 2 3) (property 9 1) ∷ [])))
    ∷ Return (key 5) (at 1 5) (Some (variable 5))
    ∷ [])

folds_and_sends_at_home_tested : tested folds_and_sends_at_home ≡ true ∷ true ∷ false ∷ []
folds_and_sends_at_home_tested = refl

folds_and_sends_at_home_facts : facts folds_and_sends_at_home ≡ true ∷ false ∷ []
folds_and_sends_at_home_facts = refl

-- Foreach (n: G.Nodes) { Foreach (t: n.Nbrs) { r.a += n.v; s max= n.v; } }: a total stands behind a Sum that the outer node sends
abbrev adds_first_at_home : Program
adds_first_at_home = program (
    Foreach (key 1) (at 1 1) (over 9 Nodes 0) always (
    Foreach (key 2) (at 1 2) (over 10 OutNbrs 9) always (sequence (reduces 3 (at 1 3) reduce.Sum (to_property 2 3) (property 9 1) ∷ reduces 4 (at 1 4) reduce.Max (scalar 5) (property 9 1) ∷ [])))
    ∷ Return (key 5) (at 1 5) (Some (variable 5))
    ∷ [])

adds_first_at_home_tested : tested adds_first_at_home ≡ true ∷ true ∷ false ∷ []
adds_first_at_home_tested = refl

adds_first_at_home_facts : facts adds_first_at_home ≡ true ∷ false ∷ []
adds_first_at_home_facts = refl

-- For (c: G.Nodes) { Foreach (n: G.Nodes) { c.a += n.v; } }: through the iterator of a For
abbrev goes_to_turn : Program
goes_to_turn = program (
    For (key 1) (at 1 1) (over 13 Nodes 0) always (sequence (nodes 2 9 always (reduces 3 (at 1 3) reduce.Sum (to_property 13 3) (property 9 1) ∷ []) ∷ []))
    ∷ Return (key 4) (at 1 4) (Some (variable 5))
    ∷ [])

goes_to_turn_tested : tested goes_to_turn ≡ true ∷ true ∷ true ∷ []
goes_to_turn_tested = refl

goes_to_turn_facts : facts goes_to_turn ≡ true ∷ true ∷ []
goes_to_turn_facts = refl

-- Foreach (n: G.Nodes) { Node q = n.p; q.a min= n.v; n.b = n.b + 1; }: what may fault stands behind what is sent, the total of which cannot
abbrev sends_first : Program
sends_first = program (
    nodes 1 9 always (
    Declare (key 2) 11 (Some (property 9 7))
    ∷ reduces 3 (at 1 3) reduce.Min (to_property 11 3) (property 9 1)
    ∷ Assign (key 4) (to_property 9 4) (Binary two.Add (at 1 4) (property 9 4) (int 1))
    ∷ [])
    ∷ Return (key 5) (at 1 5) (Some (variable 5))
    ∷ [])

sends_first_tested : tested sends_first ≡ true ∷ true ∷ true ∷ []
sends_first_tested = refl

sends_first_facts : facts sends_first ≡ true ∷ true ∷ []
sends_first_facts = refl

-- Foreach (n: G.Nodes) { Node q = n.p; q.a min= n.v; q.b max= n.v; }: two are sent, and one has a total behind the other
abbrev sends_twice : Program
sends_twice = program (
    nodes 1 9 always (
    Declare (key 2) 11 (Some (property 9 7))
    ∷ reduces 3 (at 1 3) reduce.Min (to_property 11 3) (property 9 1)
    ∷ reduces 4 (at 1 4) reduce.Max (to_property 11 4) (property 9 1)
    ∷ [])
    ∷ Return (key 5) (at 1 5) (Some (variable 5))
    ∷ [])

sends_twice_tested : tested sends_twice ≡ true ∷ true ∷ true ∷ []
sends_twice_tested = refl

sends_twice_facts : facts sends_twice ≡ true ∷ true ∷ []
sends_twice_facts = refl

-- Foreach (n: G.Nodes) { Node q = n.p; q.a += n.v; s max= n.v; }: a total that cannot fault stands behind a Sum that is sent
abbrev adds_first : Program
adds_first = program (
    nodes 1 9 always (
    Declare (key 2) 11 (Some (property 9 7)) ∷ reduces 3 (at 1 3) reduce.Sum (to_property 11 3) (property 9 1) ∷ reduces 4 (at 1 4) reduce.Max (scalar 5) (property 9 1) ∷ [])
    ∷ Return (key 5) (at 1 5) (Some (variable 5))
    ∷ [])

adds_first_tested : tested adds_first ≡ true ∷ true ∷ false ∷ []
adds_first_tested = refl

adds_first_facts : facts adds_first ≡ true ∷ false ∷ []
adds_first_facts = refl
