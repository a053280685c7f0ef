-- Rows of the passes: what loops are written as, and which may be.
use Rattle.std.specs.Prelude.{◌≡◌, ℕ, true, false, List, [], ◌∷◌, pos, Some, None, refl}
use Rattle.gm_base.specs.declared.places.Place.{Place}
use Rattle.gm_value.specs.declared.operations.Op1.TheVariants.{Not}
use Rattle.gm_value.specs.declared.operations.Op2.TheVariants.{Div, Eq}
use Rattle.gm_value.specs.declared.reductions.Reduce.TheVariants.{Sum, Min, Max}
use Rattle.gm_value.specs.declared.values.Value.TheVariants.{I32}
use Rattle.gm_value.specs.declared.values.VType.{VType}
use Rattle.gm_value.specs.declared.values.VType.TheVariants as V
use Rattle.gm_ast.specs.declared.tree.Declaration.{Declaration}
use Rattle.gm_ast.specs.declared.tree.Domain.{Domain}
use Rattle.gm_ast.specs.declared.tree.Domain.TheVariants.{Nodes, OutNbrs}
use Rattle.gm_ast.specs.declared.tree.Head.{Head}
use Rattle.gm_ast.specs.declared.tree.Key.{Key}
use Rattle.gm_ast.specs.declared.tree.Sort.{Sort}
use Rattle.gm_ast.specs.declared.tree.Sort.TheVariants as Sorts
use Rattle.gm_ast.specs.declared.tree.Stage.TheVariants.{Operator, Total}
use Rattle.gm_ast.specs.declared.tree.Target.{Target}
use Rattle.gm_ast.specs.declared.tree.Target.TheVariants as T
use Rattle.gm_value.specs.declared.reductions.Reduce.{Reduce}
use Rattle.gm_ast.specs.Program.{Expr, Const, Var, Property, Unary, Binary, Both, always, Stmt, Skip, Then, Declare, Assign, Combine, Foreach, If, Program, sequence}
use Rattle.gm_cut.specs.Parts.{goes_any_way, in_pieces, can_be_parted}
use Rattle.gm_cut.specs.Runs.{with_runs}
use Rattle.gm_cut.specs.Lean.{can_be_lean, has_plain_statements, has_slices_that_go, has_statements_that_go, in_lean_slices}
use Rattle.gm_cut.specs.Slices.{goes_one_way, in_slices, can_be_sliced}

abbrev at : ℕ → Place
at line = record { line = line; col = 1 }

abbrev key : ℕ → Key
key k = record { statement = k; stage = Operator }

abbrev row : Sort → VType → ℕ → Declaration
row sort vtype depth = record { name = []; variable = record { sort = sort; vtype = vtype; depth = depth } }

-- 0: the graph; 1: the outer iterator; 2: the inner one; 3, 4, 5: properties that are numbers; 6: one that is a Bool; 7: a local; 8: a node variable; 9: a local of an inner body
abbrev table : List Declaration
table =
    row Sorts.Graph V.I32 0 ∷ row Sorts.Iterator V.Node 0 ∷ row Sorts.Iterator V.Node 1 ∷ row Sorts.NodeProperty V.I32 0 ∷ row Sorts.NodeProperty V.I32 0 ∷ row Sorts.NodeProperty V.I32 0 ∷ row Sorts.NodeProperty V.Flag 0
    ∷ row Sorts.Scalar V.I32 1 ∷ row Sorts.Scalar V.Node 0 ∷ row Sorts.Scalar V.I32 2 ∷ []

abbrev head : Head
head = record { iterator = 1; domain = Nodes; owner = 0; place = at 1 }

abbrev program : Stmt → Program
program body = record { name = []; declarations = table; inputs = 7; outputs = 0; result = None; statements = 9; body = body }

-- a loop over nodes under a filter, and the loop of a piece
abbrev each : Expr → Stmt → Stmt
each mask body = Foreach (key 1) (at 1) head mask body

abbrev number : ℕ → Expr
number n = Const (I32 (pos n))

-- the property p of the outer node, as it is asked at the place of a line
abbrev own : ℕ → ℕ → Expr
own p line = Property 1 p (at line)

-- n.p = e;
abbrev set : ℕ → ℕ → Expr → Stmt
set line p e = Assign (key line) (T.Property 1 p (at line)) e

abbrev give : ℕ → Reduce → Target → Expr → Stmt
give line op target e = Combine (key line) (record { key = record { statement = line; stage = Total }; place = at line; shown = at line }) op (target ∷ []) (e ∷ [])

-- an inner loop
abbrev along : ℕ → Domain → Stmt → Stmt
along line domain body = Foreach (key line) (at line) (record { iterator = 2; domain = domain; owner = 1; place = at line }) always body

-- n.a = 1; n.b = n.a; Foreach (t: n.Nbrs) { t.p += n.b; } n.a = 2;
abbrev one : Stmt
one = set 2 3 (number 1)

abbrev two : Stmt
two = set 3 4 (own 3 3)

abbrev push : Stmt
push = along 4 OutNbrs (Then (give 5 Sum (T.Property 2 5 (at 5)) (own 4 5)) Skip)

abbrev three : Stmt
three = set 6 3 (number 2)

-- own statements stand together, also those of a block within the block
runs : with_runs 1 (sequence (one ∷ sequence (two ∷ push ∷ []) ∷ three ∷ [])) ≡ Then (sequence (one ∷ two ∷ [])) (Then push (sequence (three ∷ [])))
runs = refl

parted : in_pieces (program (each always (sequence (one ∷ two ∷ push ∷ three ∷ [])))) ≡ program (sequence (each always (sequence (one ∷ two ∷ [])) ∷ each always push ∷ each always (sequence (three ∷ [])) ∷ []))
parted = refl

may : can_be_parted goes_one_way (program (each always (sequence (one ∷ two ∷ push ∷ three ∷ [])))) ≡ true
may = refl

-- a loop of own statements stands as it is, whatever its filter
stays : in_pieces (program (each (Binary Eq (at 1) (Binary Div (at 1) (number 1) (own 3 1)) (number 2)) (sequence (one ∷ two ∷ [])))) ≡ program (each (Binary Eq (at 1) (Binary Div (at 1) (number 1) (own 3 1)) (number 2)) (sequence (one ∷ two ∷ [])))
stays = refl

-- If (n.f) { n.a = 1; Foreach (t: n.Nbrs) { t.p += n.b; } } Else { n.b = n.a; }: each branch under its side of the condition
abbrev four : Stmt
four = set 6 4 (own 3 6)

abbrev asks : Stmt
asks = If (key 2) (own 6 1) (sequence (one ∷ push ∷ [])) (sequence (four ∷ []))

branches : in_pieces (program (each always (sequence (asks ∷ three ∷ []))))
    ≡ program (sequence (each (Both always (own 6 1)) (sequence (one ∷ [])) ∷ each (Both always (own 6 1)) push ∷ each (Both always (Unary Not (at 1) (own 6 1))) (sequence (four ∷ [])) ∷ each always (sequence (three ∷ [])) ∷ []))
branches = refl

may-branch : can_be_parted goes_one_way (program (each always (sequence (asks ∷ [])))) ≡ true
may-branch = refl

-- an If of own statements is one of them
stays-together : in_pieces (program (each always (sequence (push ∷ one ∷ If (key 7) (own 6 7) two three ∷ [])))) ≡ program (sequence (each always push ∷ each always (sequence (one ∷ If (key 7) (own 6 7) two three ∷ [])) ∷ []))
stays-together = refl

-- what can fault behind a Sum through a node variable is another piece: r.p += 1; n.a = 1; n.a = n.a / n.b;
abbrev throw : Stmt
throw = give 2 Sum (T.Property 8 5 (at 2)) (number 1)

abbrev calm : Stmt
calm = set 3 3 (number 1)

abbrev divides : Stmt
divides = set 4 3 (Binary Div (at 4) (own 3 4) (own 4 4))

thrown : in_pieces (program (each always (sequence (throw ∷ calm ∷ divides ∷ [])))) ≡ program (sequence (each always (sequence (throw ∷ calm ∷ [])) ∷ each always (sequence (divides ∷ [])) ∷ []))
thrown = refl

-- a condition that its own branch changes may not be asked again
changed : can_be_parted goes_one_way (program (each always (sequence (If (key 2) (Binary Eq (at 2) (own 3 2) (number 0)) (sequence (three ∷ push ∷ [])) Skip ∷ [])))) ≡ false
changed = refl

-- nor may a filter that a piece changes
filtered : can_be_parted goes_one_way (program (each (Binary Eq (at 1) (own 3 1) (number 0)) (sequence (one ∷ push ∷ [])))) ≡ false
filtered = refl

-- nor one that can fault
faulting : can_be_parted goes_one_way (program (each (Binary Eq (at 1) (Binary Div (at 1) (number 1) (own 4 1)) (number 2)) (sequence (push ∷ [])))) ≡ false
faulting = refl

-- a local that goes across pieces is to be a property: Int x = n.a; Foreach (t: n.Nbrs) { t.p += x; }
across : can_be_parted goes_one_way (program (each always (sequence (Declare (key 2) 7 (Some (own 3 2)) ∷ along 4 OutNbrs (Then (give 5 Sum (T.Property 2 5 (at 5)) (Var 7 (at 5))) Skip) ∷ [])))) ≡ false
across = refl

-- one of a piece alone stays: Foreach (t: n.Nbrs) { t.p += n.b; } Int x = n.a; n.a = x;
within : can_be_parted goes_one_way (program (each always (sequence (push ∷ Declare (key 6) 7 (Some (own 3 6)) ∷ set 7 3 (Var 7 (at 7)) ∷ [])))) ≡ true
within = refl

-- an inner loop that goes two ways: Foreach (t: n.Nbrs) { t.p += n.b; n.a min= t.b; }
two-ways : can_be_parted goes_one_way (program (each always (along 4 OutNbrs (sequence (give 5 Sum (T.Property 2 5 (at 5)) (own 4 5) ∷ give 6 Min (T.Property 1 3 (at 6)) (Property 2 4 (at 6)) ∷ []))))) ≡ false
two-ways = refl

-- which may be a piece where inner loops may go any way
any-way : can_be_parted goes_any_way (program (each always (along 4 OutNbrs (sequence (give 5 Sum (T.Property 2 5 (at 5)) (own 4 5) ∷ give 6 Min (T.Property 1 3 (at 6)) (Property 2 4 (at 6)) ∷ []))))) ≡ true
any-way = refl

-- ---- slices

-- the inner loop of a body, alone in its loop
abbrev inner : List Stmt → Stmt
inner ss = each always (along 2 OutNbrs (sequence ss))

-- t.p += e;
abbrev pushes : ℕ → Expr → Stmt
pushes line e = give line Sum (T.Property 2 5 (at line)) e

-- n.a min= e;
abbrev pulls : ℕ → Expr → Stmt
pulls line e = give line Min (T.Property 1 3 (at line)) e

-- the property p of the inner node
abbrev other : ℕ → ℕ → Expr
other p line = Property 2 p (at line)

-- Int x = e;
abbrev local : ℕ → Expr → Stmt
local line e = Declare (key line) 9 (Some e)

-- Foreach (t: n.Nbrs) { t.p += n.b; n.a min= t.b; } is a loop that pushes, and one that pulls
two-slices : in_slices (program (inner (pushes 3 (own 4 3) ∷ pulls 4 (other 4 4) ∷ []))) ≡ program (sequence (inner (pushes 3 (own 4 3) ∷ []) ∷ inner (pulls 4 (other 4 4) ∷ []) ∷ []))
two-slices = refl

may-slice : can_be_sliced (program (inner (pushes 3 (own 4 3) ∷ pulls 4 (other 4 4) ∷ []))) ≡ true
may-slice = refl

-- neighbours that go one way stand together
three-leaves : in_slices (program (inner (pushes 3 (own 4 3) ∷ pushes 4 (number 1) ∷ pulls 5 (other 4 5) ∷ []))) ≡ program (sequence (inner (pushes 3 (own 4 3) ∷ pushes 4 (number 1) ∷ []) ∷ inner (pulls 5 (other 4 5) ∷ []) ∷ []))
three-leaves = refl

-- a loop that goes one way stands as it is
one-way : in_slices (program (inner (pushes 3 (own 4 3) ∷ pushes 4 (other 4 4) ∷ []))) ≡ program (inner (pushes 3 (own 4 3) ∷ pushes 4 (other 4 4) ∷ []))
one-way = refl

-- a local stands where it is needed: Int x = n.b; t.p += x; n.a min= t.b;
needed-first : in_slices (program (inner (local 3 (own 4 3) ∷ pushes 4 (Var 9 (at 4)) ∷ pulls 5 (other 4 5) ∷ []))) ≡ program (sequence (inner (local 3 (own 4 3) ∷ pushes 4 (Var 9 (at 4)) ∷ []) ∷ inner (pulls 5 (other 4 5) ∷ []) ∷ []))
needed-first = refl

-- Int x = t.b; t.p += n.b; n.a min= x;
needed-later : in_slices (program (inner (local 3 (other 4 3) ∷ pushes 4 (own 4 4) ∷ pulls 5 (Var 9 (at 5)) ∷ []))) ≡ program (sequence (inner (pushes 4 (own 4 4) ∷ []) ∷ inner (local 3 (other 4 3) ∷ pulls 5 (Var 9 (at 5)) ∷ []) ∷ []))
needed-later = refl

may-need : can_be_sliced (program (inner (local 3 (other 4 3) ∷ pushes 4 (own 4 4) ∷ pulls 5 (Var 9 (at 5)) ∷ []))) ≡ true
may-need = refl

-- what can fault is evaluated again: Int x = n.b / t.b; t.p += x; n.a min= t.b;
abbrev quotient : Expr
quotient = Binary Div (at 3) (own 4 3) (other 4 3)

faults-again : in_slices (program (inner (local 3 quotient ∷ pushes 4 (Var 9 (at 4)) ∷ pulls 5 (other 4 5) ∷ []))) ≡ program (sequence (inner (local 3 quotient ∷ pushes 4 (Var 9 (at 4)) ∷ []) ∷ inner (local 3 quotient ∷ pulls 5 (other 4 5) ∷ []) ∷ []))
faults-again = refl

may-fault : can_be_sliced (program (inner (local 3 quotient ∷ pushes 4 (Var 9 (at 4)) ∷ pulls 5 (other 4 5) ∷ []))) ≡ true
may-fault = refl

-- a condition around leaves of several ways does not go to slices yet: If (n.f) { t.p += n.b; n.a min= t.b; }
mixed : can_be_sliced (program (inner (If (key 3) (own 6 3) (sequence (pushes 4 (own 4 4) ∷ pulls 5 (other 4 5) ∷ [])) Skip ∷ []))) ≡ false
mixed = refl

-- what can fault behind a Sum through a node variable: Foreach (t: n.Nbrs) { r.p += 1; n.a min= 1 / t.b; } may be a piece where inner loops may go any way, and falls into slices
abbrev behind-sum : List Stmt
behind-sum = give 3 Sum (T.Property 8 5 (at 3)) (number 1) ∷ give 4 Min (T.Property 1 3 (at 4)) (Binary Div (at 4) (number 1) (Property 2 4 (at 4))) ∷ []

behind-one-way : can_be_parted goes_one_way (program (inner behind-sum)) ≡ false
behind-one-way = refl

behind-any-way : can_be_parted goes_any_way (program (inner behind-sum)) ≡ true
behind-any-way = refl

behind-slices : in_slices (program (inner behind-sum)) ≡ program (sequence (inner (give 3 Sum (T.Property 8 5 (at 3)) (number 1) ∷ []) ∷ inner (give 4 Min (T.Property 1 3 (at 4)) (Binary Div (at 4) (number 1) (Property 2 4 (at 4))) ∷ []) ∷ []))
behind-slices = refl

may-end-behind : can_be_sliced (program (inner behind-sum)) ≡ true
may-end-behind = refl

-- ---- slices that evaluate only what they need

-- what the loop before evaluated without a fault is not evaluated again: Int x = n.b / t.b; t.p += x; n.a min= t.b;
faults-once : in_lean_slices (program (inner (local 3 quotient ∷ pushes 4 (Var 9 (at 4)) ∷ pulls 5 (other 4 5) ∷ []))) ≡ program (sequence (inner (local 3 quotient ∷ pushes 4 (Var 9 (at 4)) ∷ []) ∷ inner (pulls 5 (other 4 5) ∷ []) ∷ []))
faults-once = refl

may-fault-once : can_be_lean (program (inner (local 3 quotient ∷ pushes 4 (Var 9 (at 4)) ∷ pulls 5 (other 4 5) ∷ []))) ≡ true
may-fault-once = refl

-- unless it is needed: Int x = n.b / t.b; t.p += x; n.a min= x;
faults-needed : in_lean_slices (program (inner (local 3 quotient ∷ pushes 4 (Var 9 (at 4)) ∷ pulls 5 (Var 9 (at 5)) ∷ []))) ≡ program (sequence (inner (local 3 quotient ∷ pushes 4 (Var 9 (at 4)) ∷ []) ∷ inner (local 3 quotient ∷ pulls 5 (Var 9 (at 5)) ∷ []) ∷ []))
faults-needed = refl

may-fault-needed : can_be_lean (program (inner (local 3 quotient ∷ pushes 4 (Var 9 (at 4)) ∷ pulls 5 (Var 9 (at 5)) ∷ []))) ≡ true
may-fault-needed = refl

-- a local that nothing reads may be reduced: Int x = 0; x max= t.b; t.p += n.b; n.a min= t.b; its reduction is left out of the second slice
abbrev idle-reduction : Stmt
idle-reduction = inner (local 3 (number 0) ∷ give 4 Max (T.Scalar 9 (at 4)) (other 4 4) ∷ pushes 5 (own 4 5) ∷ pulls 6 (other 4 6) ∷ [])

idle-refused : can_be_sliced (program idle-reduction) ≡ false
idle-refused = refl

idle-taken : can_be_lean (program idle-reduction) ≡ true
idle-taken = refl

-- several groups, of which the last gives to a property of the first: t.p += n.b; n.a min= t.b; t.p += 1;
three-groups : in_lean_slices (program (inner (pushes 3 (own 4 3) ∷ pulls 4 (other 4 4) ∷ pushes 5 (number 1) ∷ []))) ≡ program (sequence (inner (pushes 3 (own 4 3) ∷ []) ∷ inner (pulls 4 (other 4 4) ∷ []) ∷ inner (pushes 5 (number 1) ∷ []) ∷ []))
three-groups = refl

may-give-again : can_be_lean (program (inner (pushes 3 (own 4 3) ∷ pulls 4 (other 4 4) ∷ pushes 5 (number 1) ∷ []))) ≡ true
may-give-again = refl

-- it is asked that each slice goes one way, and that nothing is read that is given
goes-so : has_slices_that_go (program (inner (local 3 quotient ∷ pushes 4 (Var 9 (at 4)) ∷ pulls 5 (other 4 5) ∷ []))) ≡ true
goes-so = refl

each-goes : has_statements_that_go (program (inner (local 3 quotient ∷ pushes 4 (Var 9 (at 4)) ∷ pulls 5 (other 4 5) ∷ []))) ≡ true
each-goes = refl

idle-goes : has_statements_that_go (program idle-reduction) ≡ true
idle-goes = refl

idle-plain : has_plain_statements (program idle-reduction) ≡ true
idle-plain = refl

-- each statement of a condition may go its own way once they stand apart: If (n.f) { t.p += n.b; n.a min= t.b; } goes no way as it is
mixed-goes : has_slices_that_go (program (inner (If (key 3) (own 6 3) (sequence (pushes 4 (own 4 4) ∷ pulls 5 (other 4 5) ∷ [])) Skip ∷ []))) ≡ false
mixed-goes = refl
