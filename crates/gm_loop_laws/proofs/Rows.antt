-- Bodies on which the laws of masks and pieces are worked out.
use Rattle.std.specs.Prelude.{Bool, ◌≡◌, ℕ, nat_eq, true, false, if◌then◌else◌, List, [], ◌∷◌, map, pos, Option, Some, None, Result, Ok, Err, refl}
use Rattle.gm_base.specs.declared.places.Place.{Place}
use Rattle.gm_value.specs.declared.values.VType.{VType}
use Rattle.gm_value.specs.declared.values.VType.TheVariants as V
use Rattle.gm_value.specs.declared.values.Value.{Value}
use Rattle.gm_value.specs.declared.values.Value.TheVariants.{I32, Flag}
use Rattle.gm_value.specs.declared.operations.Op1.TheVariants.{Not}
use Rattle.gm_value.specs.declared.operations.Op2.TheVariants.{Add, Div, Gt}
use Rattle.gm_value.specs.declared.reductions.Reduce.TheVariants.{Sum, Max}
use Rattle.gm_model.specs.Graphs.{NumberedGraph}
use Rattle.gm_ast.specs.declared.tree.Declaration.{Declaration}
use Rattle.gm_ast.specs.declared.tree.Sort.{Sort}
use Rattle.gm_ast.specs.declared.tree.Sort.TheVariants as Sorts
use Rattle.gm_ast.specs.declared.tree.Stage.TheVariants.{Operator, Total}
use Rattle.gm_ast.specs.declared.tree.Domain.TheVariants as D
use Rattle.gm_ast.specs.declared.tree.Head.{Head}
use Rattle.gm_ast.specs.declared.tree.Key.{Key}
use Rattle.gm_ast.specs.declared.tree.Target.TheVariants as T
use Rattle.gm_ast.specs.declared.tree.TotalKey.{TotalKey}
use Rattle.gm_ast.specs.Program.{Expr, always, Const, Var, Property, Unary, Binary, Both, Stmt, Skip, Then, Declare, Assign, Defer, Combine, Foreach, If, sequence}
use Rattle.gm_semantics.specs.declared.faults.Fault.{Fault}
use Rattle.gm_semantics.specs.Stores.{Store}
use Rattle.gm_semantics.specs.Levels.{no_levels}
use Rattle.gm_semantics.specs.Iterations.{Loop}
use Rattle.gm_forms.specs.Forms.{depth_at}
use Rattle.gm_forms.specs.Fission.{pushed_properties, can_cut}
use Rattle.gm_loop_laws.specs.Masks.{looped, in_turn, is_stable}
use Rattle.gm_loop_laws.specs.Pieces.{no_inner, pieces_of, may_part}
use Rattle.gm_loop_laws.specs.Conditions.{conditions_saved}
use Rattle.gm_loop_laws.specs.Inner.{quiet, may_cut_inner}
use Rattle.gm_loop_laws.specs.Resumed.{resumed, may_resume}
use Rattle.gm_loop_laws.specs.Slices.{sliced, knows_none}
use Rattle.gm_loop_laws.specs.Deferring.{undeferred, only_defers}
use Rattle.gm_loop_laws.specs.Localised.{moved, may_move}

abbrev pub here : ℕ → Place
here col = record { line = 1; col = col }

abbrev pub key : ℕ → Key
key k = record { statement = k; stage = Operator }

abbrev pub total : ℕ → TotalKey
total k = record { key = record { statement = k; stage = Total }; place = here 90; shown = here 90 }

abbrev pub row : Sort → VType → ℕ → Declaration
row sort vtype depth = record { name = []; variable = record { sort = sort; vtype = vtype; depth = depth } }

-- the graph, the iterators of both loops, a local, properties p, q and on, two fresh properties, and a local of an inner body
abbrev pub n : ℕ
n = 1

abbrev pub t : ℕ
t = 2

abbrev pub x : ℕ
x = 3

abbrev pub p : ℕ
p = 4

abbrev pub q : ℕ
q = 5

abbrev pub on : ℕ
on = 6

abbrev pub m : ℕ
m = 7

abbrev pub m2 : ℕ
m2 = 8

abbrev pub table : List Declaration
table =
    row Sorts.Graph V.I32 0 ∷ row Sorts.Scalar V.Node 1 ∷ row Sorts.Scalar V.Node 2 ∷ row Sorts.Scalar V.I32 1 ∷ row Sorts.NodeProperty V.I32 0 ∷ row Sorts.NodeProperty V.I32 0
    ∷ row Sorts.NodeProperty V.Flag 0 ∷ row Sorts.NodeProperty V.Flag 0 ∷ row Sorts.NodeProperty V.I32 0 ∷ row Sorts.Scalar V.I32 2 ∷ []

-- two edges, from node 0 to nodes 1 and 2
abbrev pub g : NumberedGraph
g = record { numbers = 0 ∷ 1 ∷ 2 ∷ []; edges = record { from = 0; to = 1 } ∷ record { from = 0; to = 2 } ∷ []; node_columns = []; edge_columns = [] }

abbrev pub loop : Loop
loop = record { graph = g; levels = no_levels; depth = depth_at table; vtype = λ y. V.I32; outer = n; pushed = λ y. false }

-- p is 4, 5 and 6; q is 0; on holds at node 0 alone
abbrev pub begin : Store
begin = record {
  scalar = λ y. I32 (pos 0);
  node = λ y k. if nat_eq y on then Flag (nat_eq k 0) else (if nat_eq y p then (if nat_eq k 0 then I32 (pos 4) else (if nat_eq k 1 then I32 (pos 5) else I32 (pos 6))) else I32 (pos 0));
  edge = λ y k. I32 (pos 0);
}

-- what a property holds at the three nodes
abbrev pub held : ℕ → Result Store Fault → Option (List Value)
held y (Ok s) = Some (map (s.node y) (0 ∷ 1 ∷ 2 ∷ []))
held y (Err f) = None

abbrev pub mask : Expr
mask = Property n on (here 1)

abbrev pub own : ℕ → ℕ → Expr
own y col = Property n y (here col)

-- If (n.on) n.q = n.p; Else n.q = 1;
abbrev first : Stmt
first = Assign (key 2) (T.Property n q (here 3)) (own p 4)

abbrev second : Stmt
second = Assign (key 3) (T.Property n q (here 5)) (Const (I32 (pos 1)))

whole_if : held q (looped loop (key 1) always (If (key 2) mask first second) begin) ≡ Some (I32 (pos 4) ∷ I32 (pos 1) ∷ I32 (pos 1) ∷ [])
whole_if = refl

two_masks : held q (in_turn (looped loop (key 1) (Both always mask) first) (looped loop (key 1) (Both always (Unary Not (here 2) mask)) second) begin) ≡ Some (I32 (pos 4) ∷ I32 (pos 1) ∷ I32 (pos 1) ∷ [])
two_masks = refl

may_be_cut : can_cut table n m (key 1) (here 2) [] first second ≡ true
may_be_cut = refl

stays : is_stable n first mask ≡ true
stays = refl

-- a condition that the first branch changes is no mask for the second one
changes : is_stable n (Assign (key 2) (T.Property n on (here 3)) (Const (Flag false))) mask ≡ false
changes = refl

-- nor is one that can fault
fails : is_stable n first (Binary Gt (here 1) (Binary Div (here 2) (Const (I32 (pos 1))) (own p 4)) (Const (I32 (pos 0)))) ≡ false
fails = refl

-- n.q = n.p; If (n.on) { Foreach (t: n.OutNbrs) { t.m2 max= n.q; } }
abbrev pushes : Stmt
pushes = Foreach (key 3) (here 5) (record { iterator = t; domain = D.OutNbrs; owner = n; place = here 5 }) always (Combine (key 4) (total 4) Max (T.Property t m2 (here 6) ∷ []) (own q 7 ∷ []))

-- each statement that is no block is a piece, and so is an If without an inner loop
abbrev stays_whole : Stmt → Bool
stays_whole (Then a b) = false
stays_whole s = no_inner s

abbrev mixed : Stmt
mixed = sequence (first ∷ If (key 3) mask pushes Skip ∷ [])

-- first under True, and the loop under the condition
its_pieces : pieces_of stays_whole (here 2) always mixed ≡ record { mask = always; part = first } ∷ record { mask = Both always mask; part = pushes } ∷ []
its_pieces = refl

are : may_part stays_whole (here 2) table n m (key 1) (here 2) (pushed_properties n mixed) always mixed ≡ true
are = refl

-- a loop and a statement behind it that reads what it pushes are none
are_not : may_part stays_whole (here 2) table n m (key 1) (here 2) (m2 ∷ []) mask (sequence (pushes ∷ Assign (key 5) (T.Property n q (here 8)) (own m2 9) ∷ [])) ≡ false
are_not = refl

-- Int x = n.p; Foreach (t: n.OutNbrs) { x += 1; } n.q = x;
abbrev counted : Stmt
counted =
    sequence
    (Declare (key 2) x (Some (own p 2))
    ∷ Foreach (key 3) (here 3) (record { iterator = t; domain = D.OutNbrs; owner = n; place = here 3 }) always (Combine (key 4) (total 4) Sum (T.Scalar x (here 4) ∷ []) (Const (I32 (pos 1)) ∷ []))
    ∷ Assign (key 5) (T.Property n q (here 5)) (Var x (here 6)) ∷ [])

-- m2 = x; and then the same with n.m2 in place of x
whole_local : held q (looped loop (key 1) always counted begin) ≡ Some (I32 (pos 6) ∷ I32 (pos 5) ∷ I32 (pos 6) ∷ [])
whole_local = refl

as_property : held q (in_turn (looped loop (key 1) always (Assign (key 1) (T.Property n m2 (here 1)) (Var x (here 1)))) (looped loop (key 1) always (moved x m2 n (here 1) (I32 (pos 0)) counted)) begin) ≡ Some (I32 (pos 6) ∷ I32 (pos 5) ∷ I32 (pos 6) ∷ [])
as_property = refl

its_text : moved x m2 n (here 1) (I32 (pos 0)) counted
    ≡ sequence
    (Assign (key 2) (T.Property n m2 (here 1)) (own p 2)
    ∷ Foreach (key 3) (here 3) (record { iterator = t; domain = D.OutNbrs; owner = n; place = here 3 }) always (Combine (key 4) (total 4) Sum (T.Property n m2 (here 4) ∷ []) (Const (I32 (pos 1)) ∷ []))
    ∷ Assign (key 5) (T.Property n q (here 5)) (own m2 6) ∷ [])
its_text = refl

moves : may_move x n counted ≡ true
moves = refl

-- a local through which a property is read stays
stays_local : may_move x n (Assign (key 5) (T.Property n q (here 5)) (Property x p (here 6))) ≡ false
stays_local = refl

-- n.p <= n.p + 1; n.q = n.p;
abbrev deferring : Stmt
deferring = Then (Defer (key 2) (T.Property n p (here 3)) (Binary Add (here 4) (own p 4) (Const (I32 (pos 1))))) (Assign (key 3) (T.Property n q (here 5)) (own p 6))

abbrev undeferred_loops : Result Store Fault
undeferred_loops =
    in_turn (looped loop (key 1) always (Assign (key 1) (T.Property n m2 (here 1)) (own p 1)))
    (in_turn (looped loop (key 1) always (undeferred p m2 deferring)) (looped loop (key 1) always (Assign (key 1) (T.Property n p (here 1)) (own m2 1)))) begin

written_late : held p (looped loop (key 1) always deferring begin) ≡ Some (I32 (pos 5) ∷ I32 (pos 6) ∷ I32 (pos 7) ∷ [])
written_late = refl

read_before : held q (looped loop (key 1) always deferring begin) ≡ Some (I32 (pos 4) ∷ I32 (pos 5) ∷ I32 (pos 6) ∷ [])
read_before = refl

written_back : held p undeferred_loops ≡ Some (I32 (pos 5) ∷ I32 (pos 6) ∷ I32 (pos 7) ∷ [])
written_back = refl

read_still : held q undeferred_loops ≡ Some (I32 (pos 4) ∷ I32 (pos 5) ∷ I32 (pos 6) ∷ [])
read_still = refl

-- a deferred write that is seen at once would change q
seen_at_once : held q (looped loop (key 1) always (Then (Assign (key 2) (T.Property n p (here 3)) (Binary Add (here 4) (own p 4) (Const (I32 (pos 1))))) (Assign (key 3) (T.Property n q (here 5)) (own p 6))) begin) ≡ Some (I32 (pos 5) ∷ I32 (pos 6) ∷ I32 (pos 7) ∷ [])
seen_at_once = refl

defers : only_defers n p deferring ≡ true
defers = refl

-- a property that is also written otherwise stays
written_twice : only_defers n p (Then deferring (Assign (key 4) (T.Property n p (here 7)) (Const (I32 (pos 1))))) ≡ false
written_twice = refl

-- the condition of the If with number 2 is saved in x
abbrev saved_condition : Stmt
saved_condition = conditions_saved (λ k. if nat_eq k.statement 2 then Some x else None) (here 2) (If (key 2) mask first second)

its_saved_text : saved_condition ≡ Then (Declare (key 2) x (Some mask)) (If (key 2) (Var x (here 2)) first second)
its_saved_text = refl

saved_if_same : held q (looped loop (key 1) always saved_condition begin) ≡ Some (I32 (pos 4) ∷ I32 (pos 1) ∷ I32 (pos 1) ∷ [])
saved_if_same = refl

-- a branch that changes what the condition reads: the saved condition stays, and one that is asked anew does not
abbrev turns_off : Stmt
turns_off = Assign (key 3) (T.Property n on (here 3)) (Const (Flag false))

asked_once : held q (looped loop (key 1) always (conditions_saved (λ k. if nat_eq k.statement 2 then Some x else None) (here 2) (If (key 2) mask turns_off second)) begin) ≡ Some (I32 (pos 0) ∷ I32 (pos 1) ∷ I32 (pos 1) ∷ [])
asked_once = refl

asked_anew : held q (looped loop (key 1) always (Then (If (key 2) mask turns_off Skip) (If (key 2) (Unary Not (here 2) mask) second Skip)) begin) ≡ Some (I32 (pos 1) ∷ I32 (pos 1) ∷ I32 (pos 1) ∷ [])
asked_anew = refl

-- Foreach (t: n.OutNbrs) { Int y = t.p; If (t.on) { y = 0; } t.m2 max= n.q; }: y goes, with the If that only sets it
abbrev y : ℕ
y = 9

abbrev setting : Stmt
setting =
    Foreach (key 3) (here 3) (record { iterator = t; domain = D.OutNbrs; owner = n; place = here 3 }) always
    (sequence
    (Declare (key 4) y (Some (Property t p (here 4))) ∷ If (key 5) (Property t on (here 5)) (Assign (key 6) (T.Scalar y (here 6)) (Const (I32 (pos 0)))) Skip
    ∷ Combine (key 7) (total 7) Max (T.Property t m2 (here 7) ∷ []) (own q 8 ∷ []) ∷ []))

its_slice : sliced (y ∷ []) (n ∷ []) setting
    ≡ Foreach (key 3) (here 3) (record { iterator = t; domain = D.OutNbrs; owner = n; place = here 3 }) always
    (sequence (Skip ∷ Skip ∷ Combine (key 7) (total 7) Max (T.Property t m2 (here 7) ∷ []) (own q 8 ∷ []) ∷ []))
its_slice = refl

slices : knows_none (y ∷ []) (n ∷ []) (sliced (y ∷ []) (n ∷ []) setting) ≡ true
slices = refl

-- what can fault does not go
faults_stay : sliced (x ∷ []) (n ∷ []) (Declare (key 2) x (Some (Binary Div (here 2) (Const (I32 (pos 1))) (own p 3)))) ≡ Declare (key 2) x (Some (Binary Div (here 2) (Const (I32 (pos 1))) (own p 3)))
faults_stay = refl

-- nor what is read
read_stays : knows_none (x ∷ []) (n ∷ []) (sliced (x ∷ []) (n ∷ []) counted) ≡ false
read_stays = refl

-- Foreach (t: n.OutNbrs) { Int y = t.p; n.q += y; t.m2 max= n.p; }: a reduction to each end
abbrev nbrs : Head
nbrs = record { iterator = t; domain = D.OutNbrs; owner = n; place = here 3 }

abbrev pulls : Stmt
pulls = Then (Declare (key 4) y (Some (Property t p (here 4)))) (Combine (key 5) (total 5) Sum (T.Property n q (here 5) ∷ []) (Var y (here 6) ∷ []))

abbrev puts : Stmt
puts = Combine (key 7) (total 7) Max (T.Property t m2 (here 7) ∷ []) (own p 8 ∷ [])

abbrev pushing : Loop
pushing = record loop { pushed = λ z. nat_eq z m2 }

-- the second loop evaluates the local again, which its slice leaves out
second_loop : quiet table n pulls ≡ Then (Declare (key 4) y (Some (Property t p (here 4)))) Skip
second_loop = refl

may_be_cut_inside : may_cut_inner table (m2 ∷ []) n on (here 1) (key 3) (here 3) nbrs always pulls puts ≡ true
may_be_cut_inside = refl

whole_inner : held q (looped pushing (key 1) mask (Foreach (key 3) (here 3) nbrs always (Then pulls puts)) begin) ≡ Some (I32 (pos 11) ∷ I32 (pos 0) ∷ I32 (pos 0) ∷ [])
whole_inner = refl

cut_inner : held q (in_turn (looped pushing (key 1) mask (Foreach (key 3) (here 3) nbrs always pulls)) (looped pushing (key 1) mask (Foreach (key 3) (here 3) nbrs always (Then (quiet table n pulls) puts))) begin) ≡ Some (I32 (pos 11) ∷ I32 (pos 0) ∷ I32 (pos 0) ∷ [])
cut_inner = refl

cut_inner_pushed : held m2 (in_turn (looped pushing (key 1) mask (Foreach (key 3) (here 3) nbrs always pulls)) (looped pushing (key 1) mask (Foreach (key 3) (here 3) nbrs always (Then (quiet table n pulls) puts))) begin) ≡ Some (I32 (pos 0) ∷ I32 (pos 4) ∷ I32 (pos 4) ∷ [])
cut_inner_pushed = refl

-- what the first part gives to the second may not read
reads_given : may_cut_inner table (m2 ∷ []) n on (here 1) (key 3) (here 3) nbrs always pulls (Combine (key 7) (total 7) Max (T.Property t m2 (here 7) ∷ []) (own q 8 ∷ [])) ≡ false
reads_given = refl

-- where both parts give to one property, the first does so under a lesser number: both loops leave what the whole leaves
abbrev puts_first : Stmt
puts_first = Combine (key 3) (total 3) Max (T.Property t m2 (here 7) ∷ []) (own p 8 ∷ [])

abbrev puts_again : Stmt
puts_again = Combine (key 9) (total 9) Max (T.Property t m2 (here 9) ∷ []) (Const (I32 (pos 5)) ∷ [])

both_give : may_cut_inner table (m2 ∷ []) n on (here 1) (key 2) (here 3) nbrs always (Then puts_first pulls) puts_again ≡ true
both_give = refl

both_given : held m2 (in_turn (looped pushing (key 1) mask (Foreach (key 3) (here 3) nbrs always (Then puts_first pulls))) (looped pushing (key 1) mask (Foreach (key 3) (here 3) nbrs always (Then (quiet table n (Then puts_first pulls)) puts_again))) begin)
    ≡ held m2 (looped pushing (key 1) mask (Foreach (key 3) (here 3) nbrs always (Then (Then puts_first pulls) puts_again)) begin)
both_given = refl

-- under a greater number it may not, since the totals are taken by their numbers
gives_late : may_cut_inner table (m2 ∷ []) n on (here 1) (key 2) (here 3) nbrs always (Then puts_first pulls) (Combine (key 3) (total 2) Max (T.Property t m2 (here 9) ∷ []) (Const (I32 (pos 5)) ∷ [])) ≡ false
gives_late = refl

-- Int y = 30 / t.p; n.q += y; then t.m2 max= n.p; the second loop does not divide again, though that may fault
abbrev divides : Stmt
divides = Then (Declare (key 4) y (Some (Binary Div (here 4) (Const (I32 (pos 30))) (Property t p (here 4))))) (Combine (key 5) (total 5) Sum (T.Property n q (here 5) ∷ []) (Var y (here 6) ∷ []))

goes_on : resumed table (n ∷ t ∷ []) n divides puts ≡ Then (Then Skip Skip) puts
goes_on = refl

may_go_on : may_resume table (m2 ∷ []) n on (here 1) (key 3) (here 3) nbrs always divides puts ≡ true
may_go_on = refl

-- what is needed is evaluated again: t.m2 max= y;
abbrev puts_local : Stmt
puts_local = Combine (key 7) (total 7) Max (T.Property t m2 (here 7) ∷ []) (Var y (here 8) ∷ [])

divides_again : resumed table (n ∷ t ∷ []) n divides puts_local ≡ Then (Then (Declare (key 4) y (Some (Binary Div (here 4) (Const (I32 (pos 30))) (Property t p (here 4))))) Skip) puts_local
divides_again = refl

may_divide_again : may_resume table (m2 ∷ []) n on (here 1) (key 3) (here 3) nbrs always divides puts_local ≡ true
may_divide_again = refl

both_loops : held m2 (in_turn (looped pushing (key 1) mask (Foreach (key 3) (here 3) nbrs always divides)) (looped pushing (key 1) mask (Foreach (key 3) (here 3) nbrs always (resumed table (n ∷ t ∷ []) n divides puts_local))) begin)
    ≡ Some (I32 (pos 0) ∷ I32 (pos 6) ∷ I32 (pos 5) ∷ [])
both_loops = refl

-- what sets a local that nothing reads behind it is left out: Int y = t.p; n.q += y; y = 1; t.m2 max= n.p;
last_set : resumed table (n ∷ t ∷ []) n pulls (Then (Assign (key 6) (T.Scalar y (here 7)) (Const (I32 (pos 1)))) puts) ≡ Then (Then Skip Skip) (Then Skip puts)
last_set = refl
