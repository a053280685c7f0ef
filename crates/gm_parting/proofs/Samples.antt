-- Rows of loops that may be cut into pieces, and of ready ones that may not, though nothing is deferred, conditions of what is cut ask variables, and locals that can have gone to properties.
use Rattle.std.specs.Prelude.{◌≡◌, ℕ, suc, Bool, true, false, ◌&&◌, not, List, [], ◌∷◌, ◌++◌, pos, Some, None, refl}
use Rattle.std.specs.List.{list_any}
use Rattle.gm_base.specs.declared.places.Place.{Place}
use Rattle.gm_value.specs.declared.operations.Op2.TheVariants.{Div, Eq}
use Rattle.gm_value.specs.declared.reductions.Reduce.{Reduce}
use Rattle.gm_value.specs.declared.reductions.Reduce.TheVariants.{Sum, Min, Max}
use Rattle.gm_value.specs.declared.values.Value.TheVariants.{I32, Flag}
use Rattle.gm_value.specs.declared.values.VType.{VType}
use Rattle.gm_value.specs.declared.values.VType.TheVariants as V
use Rattle.gm_ast.specs.declared.tree.Declaration.{Declaration}
use Rattle.gm_ast.specs.declared.tree.Domain.TheVariants.{Nodes, OutNbrs}
use Rattle.gm_ast.specs.declared.tree.Head.{Head}
use Rattle.gm_ast.specs.declared.tree.Key.{Key}
use Rattle.gm_ast.specs.declared.tree.Sort.{Sort}
use Rattle.gm_ast.specs.declared.tree.Sort.TheVariants as Sorts
use Rattle.gm_ast.specs.declared.tree.Stage.TheVariants.{Operator, Total}
use Rattle.gm_ast.specs.declared.tree.Target.{Target}
use Rattle.gm_ast.specs.declared.tree.Target.TheVariants as T
use Rattle.gm_ast.specs.Program.{Expr, Const, Var, Property, EdgeProperty, Live, Binary, always, Stmt, Skip, Declare, DeclareEdge, Assign, Combine, Foreach, If, Program, sequence}
use Rattle.gm_forms.specs.Cut.{adds_elsewhere, is_own_loop}
use Rattle.gm_forms.specs.Forms.{is_levelled}
use Rattle.gm_forms.specs.Order.{is_ordered}
use Rattle.gm_forms.specs.Sharing.{is_race_free}
use Rattle.gm_forms.specs.Typing.{has_types}
use Rattle.gm_forms.specs.Uses.{is_named}
use Rattle.gm_dissect.specs.AllDeferred.{has_no_deferred}
use Rattle.gm_dissect.specs.Conditions.{with_saved_conditions, has_saved_conditions}
use Rattle.gm_dissect.specs.Locals.{with_kept_locals}
use Rattle.gm_locals.specs.AllLocals.{has_moved_locals}
use Rattle.gm_locals.specs.Groups.{with_locals_kept}
use Rattle.gm_cut.specs.Parts.{goes_any_way, in_pieces, can_be_parted}
use Rattle.gm_cut.specs.Runs.{with_runs, grouped}
use Rattle.gm_cut.specs.Lean.{can_be_lean, has_slices_that_go, has_statements_that_go}
use Rattle.gm_parting.specs.Apart.{with_statements_apart}
use Rattle.gm_parting.specs.Declared.{declared_first, with_locals_declared, has_no_strangers}
use Rattle.gm_parting.specs.Filters.{filter_saved, with_saved_filters}
use Rattle.gm_parting.specs.InnerLoops.{has_inner_loops_apart, has_iterators_in_place}
use Rattle.gm_parting.specs.Iterators.{with_iterators_placed, has_iterators_apart}
use Rattle.gm_parting.specs.Lasting.{has_lasting_filters, has_lasting_conditions, has_numbered_ifs, has_repeatable_conditions}
use Rattle.gm_parting.specs.Locals.{has_declared_locals, has_no_checks}
use Rattle.gm_parting.specs.Passes.{dissected, prepared}
use Rattle.gm_parting.specs.Staying.{locals_stay_within, has_staying_locals}
use Rattle.gm_parting.specs.Tuples.{has_even_tuples}

abbrev at : ℕ → Place
at line = record { line = line; col = 1 }

abbrev key : ℕ → Key
key k = record { statement = k; stage = Operator }

abbrev row : Sort → VType → ℕ → Declaration
row sort vtype depth = record { name = []; variable = record { sort = sort; vtype = vtype; depth = depth } }

-- 0: the graph; 1: the outer iterator, inside so many loops; 2: the inner one; 3, 4, 5: properties that are numbers; 6: one that is a node; 7, 8: nodes that are locals; 9: a number that is one; 10: a number of the procedure; 11: a Bool that is a local
abbrev table_at : ℕ → List Declaration
table_at depth =
    row Sorts.Graph V.I32 0 ∷ row Sorts.Iterator V.Node depth ∷ row Sorts.Iterator V.Node 2 ∷ row Sorts.NodeProperty V.I32 0 ∷ row Sorts.NodeProperty V.I32 0 ∷ row Sorts.NodeProperty V.I32 0 ∷ row Sorts.NodeProperty V.Node 0
    ∷ row Sorts.Scalar V.Node 1 ∷ row Sorts.Scalar V.Node 1 ∷ row Sorts.Scalar V.I32 1 ∷ row Sorts.Scalar V.I32 0 ∷ row Sorts.Scalar V.Flag 1 ∷ []

abbrev head : Head
head = record { iterator = 1; domain = Nodes; owner = 0; place = at 1 }

abbrev program_at : ℕ → Stmt → Program
program_at depth body = record { name = []; declarations = table_at depth; inputs = 7; outputs = 0; result = None; statements = 9; body = body }

abbrev program : Stmt → Program
program body = program_at 1 body

-- a loop over nodes under a filter
abbrev each : Expr → List Stmt → Stmt
each mask ss = Foreach (key 1) (at 1) head mask (sequence ss)

abbrev number : ℕ → Expr
number n = Const (I32 (pos n))

abbrev own : ℕ → ℕ → Expr
own p line = Property 1 p (at line)

abbrev set : ℕ → ℕ → Expr → Stmt
set line p e = Assign (key line) (T.Property 1 p (at line)) e

abbrev gives : ℕ → Reduce → List Target → List Expr → Stmt
gives line op ts es = Combine (key line) (record { key = record { statement = line; stage = Total }; place = at line; shown = at line }) op ts es

abbrev along : ℕ → List Stmt → Stmt
along line ss = Foreach (key line) (at line) (record { iterator = 2; domain = OutNbrs; owner = 1; place = at line }) always (sequence ss)

-- Foreach (t: n.Nbrs) { t.c += n.b; }
abbrev push : ℕ → Stmt
push line = along line (gives (suc line) Sum (T.Property 2 5 (at (suc line)) ∷ []) (own 4 (suc line) ∷ []) ∷ [])

-- ready for cutting
abbrev is_ready : Program → Bool
is_ready p = is_named p && (has_types p && (is_ordered p && (is_race_free p && is_levelled p)))

-- what the passes before give
abbrev is_passed : Program → Bool
is_passed p = has_no_deferred p && (has_saved_conditions p && has_moved_locals p)

abbrev may : Program → Bool
may p = can_be_parted goes_any_way p

-- all facts but one of so many
abbrev facts : Program → List Bool
facts p = has_lasting_filters p ∷ has_lasting_conditions p ∷ has_staying_locals p ∷ has_inner_loops_apart p ∷ has_even_tuples p ∷ has_iterators_in_place p ∷ []

-- one that has all: n.a = 1; Foreach (t: n.Nbrs) { t.c += n.b; }
abbrev plain : Program
plain = program (each always (set 2 3 (number 1) ∷ push 3 ∷ []))

plain-row : (is_ready plain && (is_passed plain && may plain)) ≡ true
plain-row = refl

plain-facts : facts plain ≡ true ∷ true ∷ true ∷ true ∷ true ∷ true ∷ []
plain-facts = refl

-- a filter that can fault: Foreach (n)(1 / n.a == 2) { Foreach (t: n.Nbrs) { t.c += n.b; } }
abbrev faulting : Program
faulting = program (each (Binary Eq (at 1) (Binary Div (at 1) (number 1) (own 3 1)) (number 2)) (push 2 ∷ []))

faulting-row : (is_ready faulting && is_passed faulting) ≡ true
faulting-row = refl

faulting-may : may faulting ≡ false
faulting-may = refl

faulting-facts : facts faulting ≡ false ∷ true ∷ true ∷ true ∷ true ∷ true ∷ []
faulting-facts = refl

-- it goes to a property first: Foreach (n) { n.m = 1 / n.a == 2; } Foreach (n)(n.m) { Foreach (t: n.Nbrs) { t.c += n.b; } }
faulting-saved : (with_saved_filters faulting).body ≡ filter_saved 12 (key 1) (at 1) head (Binary Eq (at 1) (Binary Div (at 1) (number 1) (own 3 1)) (number 2)) (sequence (push 2 ∷ []))
faulting-saved = refl

faulting-goes : may (with_saved_filters faulting) ≡ true
faulting-goes = refl

-- a filter that the body changes: Foreach (n)(n.a == 0) { n.a = 1; Foreach (t: n.Nbrs) { t.c += n.b; } }
abbrev changing : Program
changing = program (each (Binary Eq (at 1) (own 3 1) (number 0)) (set 2 3 (number 1) ∷ push 3 ∷ []))

changing-row : (is_ready changing && is_passed changing) ≡ true
changing-row = refl

changing-may : may changing ≡ false
changing-may = refl

changing-facts : facts changing ≡ false ∷ true ∷ true ∷ true ∷ true ∷ true ∷ []
changing-facts = refl

changing-goes : may (with_saved_filters changing) ≡ true
changing-goes = refl

-- a filter that lasts stays
staying-filter : (with_saved_filters plain).body ≡ plain.body
staying-filter = refl

-- two Sums through locals: Node r = n.d; r.c += 1; Node s = n.d; s.c += 1; the second local stands behind the first Sum, and its Sum stands alone
abbrev throws : ℕ → ℕ → Stmt
throws line r = sequence (Declare (key line) r (Some (own 6 line)) ∷ gives line Sum (T.Property r 5 (at line) ∷ []) (number 1 ∷ []) ∷ [])

abbrev twice : Program
twice = program (each always (throws 2 7 ∷ throws 3 8 ∷ []))

twice-row : (is_ready twice && is_passed twice) ≡ true
twice-row = refl

twice-may : may twice ≡ false
twice-may = refl

twice-facts : facts twice ≡ true ∷ true ∷ false ∷ true ∷ true ∷ true ∷ []
twice-facts = refl

-- a local node that is used behind an inner loop: Node r = n.d; Foreach (t: n.Nbrs) { t.c += n.b; } r.a += 1;
abbrev later : Program
later = program (each always (Declare (key 2) 7 (Some (own 6 2)) ∷ push 3 ∷ gives 5 Sum (T.Property 7 3 (at 5) ∷ []) (number 1 ∷ []) ∷ []))

later-row : (is_ready later && is_passed later) ≡ true
later-row = refl

later-may : may later ≡ false
later-may = refl

later-facts : facts later ≡ true ∷ true ∷ false ∷ true ∷ true ∷ true ∷ []
later-facts = refl

-- the same in the inner loop, which knows a local then: Node r = n.d; Foreach (t: n.Nbrs) { r.c += 1; }
abbrev inside : Program
inside = program (each always (Declare (key 2) 7 (Some (own 6 2)) ∷ along 3 (gives 4 Sum (T.Property 7 5 (at 4) ∷ []) (number 1 ∷ []) ∷ []) ∷ []))

inside-row : (is_ready inside && is_passed inside) ≡ true
inside-row = refl

inside-may : may inside ≡ false
inside-may = refl

inside-facts : facts inside ≡ true ∷ true ∷ false ∷ false ∷ true ∷ true ∷ []
inside-facts = refl

-- a local that the body does not declare, of which a tree may tell: x = n.a; Foreach (t: n.Nbrs) { t.c += x; }
abbrev undeclared : Program
undeclared = program (each always (Assign (key 2) (T.Scalar 9 (at 2)) (own 3 2) ∷ along 3 (gives 4 Sum (T.Property 2 5 (at 4) ∷ []) (Var 9 (at 4) ∷ []) ∷ []) ∷ []))

undeclared-row : (is_ready undeclared && is_passed undeclared) ≡ true
undeclared-row = refl

undeclared-may : may undeclared ≡ false
undeclared-may = refl

-- a tuple of a scalar of the procedure and a local: Int x = 0; <S; x> max= <n.a; 1>; Foreach (t: n.Nbrs) { t.c += n.b; }
abbrev uneven : Program
uneven = program (each always (Declare (key 2) 9 (Some (number 0)) ∷ gives 3 Max (T.Scalar 10 (at 3) ∷ T.Scalar 9 (at 3) ∷ []) (own 3 3 ∷ number 1 ∷ []) ∷ push 4 ∷ []))

uneven-row : (is_ready uneven && is_passed uneven) ≡ true
uneven-row = refl

uneven-may : may uneven ≡ false
uneven-may = refl

uneven-facts : facts uneven ≡ true ∷ true ∷ true ∷ true ∷ false ∷ true ∷ []
uneven-facts = refl

-- what can fault behind a Sum through a node variable within an inner loop: Foreach (t: n.Nbrs) { r.c += 1; n.a min= 1 / t.b; } with r of the procedure. It may be a piece, and falls into slices
abbrev table_with_node : List Declaration
table_with_node =
    row Sorts.Graph V.I32 0 ∷ row Sorts.Iterator V.Node 1 ∷ row Sorts.Iterator V.Node 2 ∷ row Sorts.NodeProperty V.I32 0 ∷ row Sorts.NodeProperty V.I32 0 ∷ row Sorts.NodeProperty V.I32 0 ∷ row Sorts.NodeProperty V.Node 0 ∷ row Sorts.Scalar V.Node 0 ∷ []

abbrev behind : Program
behind = record (program (each always (along 2 (gives 3 Sum (T.Property 7 5 (at 3) ∷ []) (number 1 ∷ []) ∷ gives 4 Min (T.Property 1 3 (at 4) ∷ []) (Binary Div (at 4) (number 1) (Property 2 4 (at 4)) ∷ []) ∷ []) ∷ []))) { declarations = table_with_node }

behind-row : (is_ready behind && is_passed behind) ≡ true
behind-row = refl

behind-may : may behind ≡ true
behind-may = refl

behind-facts : facts behind ≡ true ∷ true ∷ true ∷ true ∷ true ∷ true ∷ []
behind-facts = refl

-- an outer iterator that is declared too deep, as a tree may have it
abbrev deep : Program
deep = program_at 2 (each always (set 2 3 (number 1) ∷ push 3 ∷ []))

deep-row : (is_ready deep && is_passed deep) ≡ true
deep-row = refl

deep-may : may deep ≡ false
deep-may = refl

deep-facts : facts deep ≡ true ∷ true ∷ true ∷ true ∷ true ∷ false ∷ []
deep-facts = refl

-- a filter that names an inner iterator, as a tree may: Foreach (n)(t == n) { Foreach (t: n.Nbrs) { t.c += n.b; } }
abbrev naming : Program
naming = program (each (Binary Eq (at 1) (Var 2 (at 1)) (Var 1 (at 1))) (push 2 ∷ []))

naming-row : (is_ready naming && is_passed naming) ≡ true
naming-row = refl

naming-may : may naming ≡ false
naming-may = refl

naming-facts : facts naming ≡ false ∷ true ∷ true ∷ true ∷ true ∷ true ∷ []
naming-facts = refl

-- its filter is saved then
naming-goes : may (with_saved_filters naming) ≡ true
naming-goes = refl

-- a condition that asks a local which its branch sets: Bool f = True; If (f) { f = False; Foreach (t: n.Nbrs) { t.c += n.b; } }
abbrev asking : Program
asking = program (each always (Declare (key 2) 11 (Some (Const (Flag true))) ∷ If (key 3) (Var 11 (at 3)) (sequence (Assign (key 4) (T.Scalar 11 (at 4)) (Const (Flag false)) ∷ push 5 ∷ [])) Skip ∷ []))

asking-row : (is_ready asking && (has_no_deferred asking && has_saved_conditions asking)) ≡ true
asking-row = refl

-- the local goes to a property, and no condition asks a variable any more; nor may this one be asked again
asking-kept : has_saved_conditions (with_kept_locals asking) ≡ false
asking-kept = refl

asking-may : may (with_kept_locals asking) ≡ false
asking-may = refl

-- where the condition is saved first, in a local that goes to a property, it may
asking-saved : (has_lasting_conditions (with_kept_locals (with_saved_conditions asking)) && may (with_kept_locals (with_saved_conditions asking))) ≡ true
asking-saved = refl

-- two Ifs of one number, as a tree may have them where neither condition can fault, share a local: If (n.a == 0) { If (n.b == 0) { Foreach (t: n.Nbrs) { t.c += n.b; } } } Else { n.a = 1; }
abbrev twin : Program
twin = program (each always (If (key 2) (Binary Eq (at 2) (own 3 2) (number 0)) (sequence (If (key 2) (Binary Eq (at 2) (own 4 2) (number 0)) (push 3) Skip ∷ [])) (set 5 3 (number 1)) ∷ []))

twin-row : (is_ready twin && has_numbered_ifs twin) ≡ false
twin-row = refl

twin-ready : is_ready twin ≡ true
twin-ready = refl

twin-conditions : has_repeatable_conditions (with_saved_conditions twin) ≡ false
twin-conditions = refl

twin-may : may (with_kept_locals (with_saved_conditions twin)) ≡ false
twin-may = refl

-- a check of a local, of which a tree may tell: Node y = n.d; Foreach (t: n.Nbrs) { t.c += n.b; } Node z = y, if it is one;
abbrev checking : Program
checking = program (each always (Declare (key 2) 7 (Some (own 6 2)) ∷ push 3 ∷ Declare (key 5) 8 (Some (Live 7 (at 5))) ∷ []))

checking-row : is_ready checking ≡ true
checking-row = refl

-- ---- what a program must have for the passes, and what comes of them: no iterator of both kinds of loops, no checks of nodes, even tuples
abbrev needs : Program → List Bool
needs p = has_iterators_apart p ∷ has_no_checks p ∷ has_even_tuples p ∷ []

all-needs : needs plain ≡ true ∷ true ∷ true ∷ []
all-needs = refl

faulting-needs : needs faulting ≡ true ∷ true ∷ true ∷ []
faulting-needs = refl

asking-needs : needs asking ≡ true ∷ true ∷ true ∷ []
asking-needs = refl

plain-prepared : may (prepared plain) ≡ true
plain-prepared = refl

faulting-prepared : may (prepared faulting) ≡ true
faulting-prepared = refl

changing-prepared : may (prepared changing) ≡ true
changing-prepared = refl

behind-prepared : may (prepared behind) ≡ true
behind-prepared = refl

-- what can fault behind the Sum stands in another slice then
behind-slices : has_slices_that_go (in_pieces (prepared behind)) ≡ true
behind-slices = refl

asking-prepared : may (prepared asking) ≡ true
asking-prepared = refl

later-needs : needs later ≡ true ∷ true ∷ true ∷ []
later-needs = refl

later-prepared : may (prepared later) ≡ true
later-prepared = refl

later-slices : has_slices_that_go (in_pieces (prepared later)) ≡ true
later-slices = refl

inside-needs : needs inside ≡ true ∷ true ∷ true ∷ []
inside-needs = refl

inside-prepared : may (prepared inside) ≡ true
inside-prepared = refl

inside-slices : has_slices_that_go (in_pieces (prepared inside)) ≡ true
inside-slices = refl

twice-needs : needs twice ≡ true ∷ true ∷ true ∷ []
twice-needs = refl

twice-prepared : may (prepared twice) ≡ true
twice-prepared = refl

twice-slices : has_slices_that_go (in_pieces (prepared twice)) ≡ true
twice-slices = refl

-- its Ifs get numbers of their own
twin-needs : needs twin ≡ true ∷ true ∷ true ∷ []
twin-needs = refl

twin-prepared : may (prepared twin) ≡ true
twin-prepared = refl

-- a local that no body declares is declared as what it holds: x = x; x = n.a; Foreach (t: n.Nbrs) { t.c += x; }
undeclared-needs : (has_declared_locals undeclared ≡ false) × (needs undeclared ≡ true ∷ true ∷ true ∷ [])
undeclared-needs = (refl, refl)

undeclared-declared : with_locals_declared undeclared ≡ program (Foreach (key 1) (at 1) head always (declared_first (key 1) (at 1) (9 ∷ 9 ∷ []) (sequence (Assign (key 2) (T.Scalar 9 (at 2)) (own 3 2) ∷ along 3 (gives 4 Sum (T.Property 2 5 (at 4) ∷ []) (Var 9 (at 4) ∷ []) ∷ []) ∷ []))))
undeclared-declared = refl

undeclared-prepared : may (prepared undeclared) ≡ true
undeclared-prepared = refl

-- one that declares its locals stays
plain-declared : with_locals_declared plain ≡ plain
plain-declared = refl

-- an iterator of another loop, as a tree may name it: Foreach (n) { Foreach (t: n.Nbrs) { If (s == n) { t.c += n.b; } } } with s the iterator of another inner loop
abbrev strange : Program
strange =
    record (program (each always (along 2 (If (key 3) (Binary Eq (at 3) (Var 12 (at 3)) (Var 1 (at 3))) (gives 4 Sum (T.Property 2 5 (at 4) ∷ []) (own 4 4 ∷ [])) Skip ∷ []) ∷ []))) {
      declarations = table_at 1 ++ (row Sorts.Iterator V.Node 1 ∷ []);
    }

strange-row : (is_ready strange && not (has_no_strangers strange)) ≡ true
strange-row = refl

-- which is placed apart from locals
strange-needs : needs strange ≡ true ∷ true ∷ true ∷ []
strange-needs = refl

strange-prepared : (has_no_strangers (with_iterators_placed strange) && may (prepared strange)) ≡ true
strange-prepared = refl

-- an iterator that was declared too deep is placed, too
deep-needs : needs deep ≡ true ∷ true ∷ true ∷ []
deep-needs = refl

deep-prepared : (has_iterators_in_place (with_iterators_placed deep) && may (prepared deep)) ≡ true
deep-prepared = refl

-- two loops, each of which has the iterator of the other for its inner loop, as trees may: Foreach (n) { Foreach (t: n.Nbrs) { t.c += n.b; } } Foreach (t) { Foreach (n: t.Nbrs) { n.c += t.b; } }
abbrev both : Program
both =
    program (sequence (each always (push 2 ∷ [])
    ∷ Foreach (key 4) (at 4) (record head { iterator = 2 }) always (Foreach (key 5) (at 5) (record { iterator = 1; domain = OutNbrs; owner = 2; place = at 5 }) always (sequence (gives 6 Sum (T.Property 1 5 (at 6) ∷ []) (Property 2 4 (at 6) ∷ []) ∷ []))) ∷ []))

-- ---- slices

-- a program in pieces, with the statements of its inner loops apart
abbrev pieces : Program → Program
pieces p = with_statements_apart (in_pieces (prepared p))

-- n.a min= t.b;
abbrev pull : ℕ → Stmt
pull line = gives line Min (T.Property 1 3 (at line) ∷ []) (Property 2 4 (at line) ∷ [])

-- t.c += n.b;
abbrev push-line : ℕ → Stmt
push-line line = gives line Sum (T.Property 2 5 (at line) ∷ []) (own 4 line ∷ [])

abbrev is-zero : ℕ → Expr → Expr
is-zero line e = Binary Eq (at line) e (number 0)

-- a condition around reductions that go several ways: Foreach (t: n.Nbrs) { If (n.b == 0) { t.c += n.b; n.a min= t.b; } }. It may be cut, and goes to slices once its statements stand apart
abbrev several : Program
several = program (each always (along 2 (If (key 3) (is-zero 3 (own 4 3)) (sequence (push-line 4 ∷ pull 5 ∷ [])) Skip ∷ []) ∷ []))

several-row : (is_ready several && may (prepared several)) ≡ true
several-row = refl

several-together : has_slices_that_go (in_pieces (prepared several)) ≡ false
several-together = refl

several-slices : has_slices_that_go (pieces several) ≡ true
several-slices = refl

-- Foreach (t: n.Nbrs) { Bool y = n.b == 0; If (y) { t.c += n.b; } } and then Foreach (t: n.Nbrs) { Bool y = n.b == 0; If (y) { n.a min= t.b; } }
abbrev asked : Stmt → Stmt
asked s = Foreach (key 1) (at 1) head always (along 2 (Declare (key 3) 13 (Some (is-zero 3 (own 4 3))) ∷ If (key 3) (Var 13 (at 2)) (sequence (s ∷ [])) Skip ∷ []))

several-dissected : (dissected several).body ≡ sequence (sequence (asked (push-line 4) ∷ asked (pull 5) ∷ []) ∷ [])
several-dissected = refl

-- an Else, and an If within an If: If (n.b == 0) { t.c += n.b; If (t.b == 0) { n.a min= t.b; } } Else { n.a min= t.b; t.c += n.b; }
abbrev nested : Program
nested =
    program (each always (along 2 (If (key 3) (is-zero 3 (own 4 3)) (sequence (push-line 4 ∷ If (key 5) (is-zero 5 (Property 2 4 (at 5))) (pull 6) Skip ∷ [])) (sequence (pull 7 ∷ [])) ∷ []) ∷ []))

nested-row : (is_ready nested && has_slices_that_go (pieces nested)) ≡ true
nested-row = refl

-- a body that goes one way stays
one-way-stays : (with_statements_apart (program (each always (along 2 (If (key 3) (is-zero 3 (own 4 3)) (sequence (push-line 4 ∷ [])) Skip ∷ []) ∷ [])))).body ≡ each always (along 2 (If (key 3) (is-zero 3 (own 4 3)) (sequence (push-line 4 ∷ [])) Skip ∷ []) ∷ [])
one-way-stays = refl

-- two reductions to one property with one that goes another way between them: t.c += n.b; n.a min= t.b; t.c += n.b;
abbrev again : Program
again = program (each always (along 2 (push-line 3 ∷ pull 4 ∷ push-line 5 ∷ []) ∷ []))

again-row : (is_ready again && may (prepared again)) ≡ true
again-row = refl

again-slices : has_slices_that_go (pieces again) ≡ true
again-slices = refl

-- what can fault at the edge is not evaluated again in the slice behind, which needs none of it: Edge e = t.ToEdge(); Int x = t.b / e.w; t.c += x; n.a += 1;
abbrev repeated : Program
repeated =
    record (program (each always (along 2 (DeclareEdge 12 2 (at 3) ∷ Declare (key 4) 14 (Some (Binary Div (at 4) (Property 2 4 (at 4)) (EdgeProperty 12 13 (at 4))))
    ∷ gives 5 Sum (T.Property 2 5 (at 5) ∷ []) (Var 14 (at 5) ∷ []) ∷ gives 6 Sum (T.Property 1 3 (at 6) ∷ []) (number 1 ∷ []) ∷ []) ∷ []))) {
      declarations = table_at 1 ++ (row Sorts.Edge V.I32 2 ∷ row Sorts.EdgeProperty V.I32 0 ∷ row Sorts.Scalar V.I32 2 ∷ []);
    }

repeated-row : (is_ready repeated && may (prepared repeated)) ≡ true
repeated-row = refl

repeated-lean : (has_statements_that_go (pieces repeated) && (has_slices_that_go (pieces repeated) && can_be_lean (pieces repeated))) ≡ true
repeated-lean = refl

several-lean : (has_statements_that_go (pieces several) && (has_slices_that_go (pieces several) && can_be_lean (pieces several))) ≡ true
several-lean = refl

nested-lean : (has_statements_that_go (pieces nested) && (has_slices_that_go (pieces nested) && can_be_lean (pieces nested))) ≡ true
nested-lean = refl

again-lean : (has_statements_that_go (pieces again) && (has_slices_that_go (pieces again) && can_be_lean (pieces again))) ≡ true
again-lean = refl

-- each of these lacks one, and may not be cut then
both-row : is_ready both ≡ true
both-row = refl

both-needs : needs both ≡ false ∷ true ∷ true ∷ []
both-needs = refl

both-prepared : may (prepared both) ≡ false
both-prepared = refl

checking-needs : needs checking ≡ true ∷ false ∷ true ∷ []
checking-needs = refl

checking-prepared : may (prepared checking) ≡ false
checking-prepared = refl

uneven-needs : needs uneven ≡ true ∷ true ∷ false ∷ []
uneven-needs = refl

uneven-prepared : may (prepared uneven) ≡ false
uneven-prepared = refl

-- ---- nodes through which something is reached: what would do

-- 12: a property that keeps such a node; 13: a local that is set to it just before; 14: such a local of an inner loop
abbrev copied : Stmt → Program
copied body = record (program body) { declarations = table_at 1 ++ (row Sorts.NodeProperty V.Node 0 ∷ row Sorts.Scalar V.Node 1 ∷ row Sorts.Scalar V.Node 2 ∷ []) }

-- n.e = n.d; Foreach (t: n.Nbrs) { t.c += n.b; } Node y = n.e; y.a += 1;
abbrev later-copied : Program
later-copied = copied (each always (set 2 12 (own 6 2) ∷ push 3 ∷ Declare (key 5) 13 (Some (own 12 5)) ∷ gives 5 Sum (T.Property 13 3 (at 5) ∷ []) (number 1 ∷ []) ∷ []))

later-copied-row : (is_ready later-copied && may later-copied) ≡ true
later-copied-row = refl

-- n.e = n.d; Foreach (t: n.Nbrs) { Node y = n.e; y.c += 1; }
abbrev inside-copied : Program
inside-copied = copied (each always (set 2 12 (own 6 2) ∷ along 3 (Declare (key 4) 14 (Some (own 12 4)) ∷ gives 4 Sum (T.Property 14 5 (at 4) ∷ []) (number 1 ∷ []) ∷ []) ∷ []))

inside-copied-row : (is_ready inside-copied && may inside-copied) ≡ true
inside-copied-row = refl

-- two Sums through such locals: the second local joins the run of the first Sum, unless runs end behind each
abbrev twice-body : Stmt
twice-body = sequence (throws 2 7 ∷ throws 3 8 ∷ [])

twice-runs : locals_stay_within (table_at 1) 1 (with_runs 1 twice-body) ≡ false
twice-runs = refl

twice-ended : locals_stay_within (table_at 1) 1 (grouped (is_own_loop 1) (λ run s. is_own_loop 1 s && not (list_any (adds_elsewhere (1 ∷ [])) run)) twice-body) ≡ true
twice-ended = refl

-- locals that are reduced together: Int x = 0; Int y = 0; <x; y> max= <n.a; 1>; Foreach (t: n.Nbrs) { t.c += n.b; } n.a = y; one alone may not go to a property, but both together
abbrev paired : Program
paired = record (program (each always (Declare (key 2) 9 (Some (number 0)) ∷ Declare (key 3) 12 (Some (number 0)) ∷ gives 4 Max (T.Scalar 9 (at 4) ∷ T.Scalar 12 (at 4) ∷ []) (own 3 4 ∷ number 1 ∷ []) ∷ push 5 ∷ set 7 3 (Var 12 (at 7)) ∷ []))) {
  declarations = table_at 1 ++ (row Sorts.Scalar V.I32 1 ∷ []);
}

paired-row : is_ready paired ≡ true
paired-row = refl

paired-needs : needs paired ≡ true ∷ true ∷ true ∷ []
paired-needs = refl

paired-prepared : may (prepared paired) ≡ true
paired-prepared = refl

paired-together : may (with_locals_kept (9 ∷ 12 ∷ []) paired) ≡ true
paired-together = refl
