-- What serves an expression or a statement serves its parts.
use Rattle.std.proofs.Common.{◌≡◌, ◌∙◌, ◌<◌, ◌&&◌, ℕ, zero, suc, true, Vec, Option, Some, List, [], ◌∷◌, map, length, get_or, sym, ap, subst, arith}
use Rattle.std.specs.Prelude.{Box, option_map}
use Rattle.std.specs.List.{list_all}
use Rattle.std.specs.declared.alloc.Global.{Global}
use Rattle.std.proofs.lemmas.Bool.{and_parts}
use Rattle.gm_base.specs.declared.places.Place.{Place}
use Rattle.gm_value.specs.declared.operations.Op1.{Op1}
use Rattle.gm_value.specs.declared.operations.Op2.{Op2}
use Rattle.gm_value.specs.declared.reductions.Reduce.{Reduce}
use Rattle.gm_model.specs.Graphs.{NumberedGraph}
use Rattle.gm_graph.specs.Serving.{Serve}
use Rattle.gm_graph.proofs.Serving.{implied, item, left, right}
use Rattle.gm_ast.specs.declared.tree.Direction.{Direction}
use Rattle.gm_ast.specs.declared.tree.Expr as E
use Rattle.gm_ast.specs.declared.tree.Fold.{Fold}
use Rattle.gm_ast.specs.declared.tree.Head.{Head}
use Rattle.gm_ast.specs.declared.tree.Key.{Key}
use Rattle.gm_ast.specs.declared.tree.Stmt as S
use Rattle.gm_ast.specs.declared.tree.Target.{Target}
use Rattle.gm_ast.specs.declared.tree.TotalKey.{TotalKey}
use Rattle.gm_ast.specs.Program as P
use Rattle.gm_ast.specs.Tree.{expr_of, stmt_of}
use Rattle.gm_loops.specs.Asking.{counts_outward, goes_outward, reads_outward, runs_outward, value_outward}
use Rattle.gm_loops.proofs.Trees.{expr_of-Binary, expr_of-Both, expr_of-Choose, expr_of-Degree, expr_of-Either, expr_of-Fold, expr_of-Unary, stmt_of-Assign, stmt_of-Block, stmt_of-Declare, stmt_of-Defer, stmt_of-Foreach, stmt_of-If, stmt_of-Reduce}

-- what serves an expression or a statement serves its form
expr-is : (rows : Option NumberedGraph) (e : E.Expr) (p : P.Expr) → expr_of e ≡ p → Serve rows (reads_outward (expr_of e)) → Serve rows (reads_outward p)
expr-is rows e p is h = subst (λ (q : P.Expr). Serve rows (reads_outward q)) is h

stmt-is : (rows : Option NumberedGraph) (s : S.Stmt) (p : P.Stmt) → stmt_of s ≡ p → Serve rows (goes_outward (stmt_of s)) → Serve rows (goes_outward p)
stmt-is rows s p is h = subst (λ (q : P.Stmt). Serve rows (goes_outward q)) is h

expr-at : (rows : Option NumberedGraph) (x y : E.Expr) → x ≡ y → Serve rows (reads_outward (expr_of y)) → Serve rows (reads_outward (expr_of x))
expr-at rows x y same h = subst (λ (z : E.Expr). Serve rows (reads_outward (expr_of z))) (sym same) h

stmt-at : (rows : Option NumberedGraph) (x y : S.Stmt) → x ≡ y → Serve rows (goes_outward (stmt_of y)) → Serve rows (goes_outward (stmt_of x))
stmt-at rows x y same h = subst (λ (z : S.Stmt). Serve rows (goes_outward (stmt_of z))) (sym same) h

-- the direction of a degree
pub degree_way : (rows : Option NumberedGraph) (e : E.Expr) (d : Direction) (x : ℕ) (at : Place) → e ≡ E.Degree d x at → Serve rows (reads_outward (expr_of e)) → Serve rows (counts_outward d)
degree_way rows e d x at is h = expr-is rows e (P.Degree d x at) (ap expr_of is ∙ expr_of-Degree d x at) h

-- the parts of an operation
pub unary_inner : (rows : Option NumberedGraph) (e x : E.Expr) (op : Op1) (at : Place) (a : Box E.Expr Global) → e ≡ E.Unary op at a → x ≡ a.value → Serve rows (reads_outward (expr_of e)) → Serve rows (reads_outward (expr_of x))
unary_inner rows e x op at a is same h =
    let whole : Serve rows (reads_outward (P.Unary op at (expr_of a.value))) = expr-is rows e (P.Unary op at (expr_of a.value)) (ap expr_of is ∙ expr_of-Unary op at a) h in
    expr-at rows x a.value same whole

pub binary_left : (rows : Option NumberedGraph) (e x : E.Expr) (op : Op2) (at : Place) (a : Box E.Expr Global) (b : Box E.Expr Global) → e ≡ E.Binary op at a b → x ≡ a.value → Serve rows (reads_outward (expr_of e)) → Serve rows (reads_outward (expr_of x))
binary_left rows e x op at a b is same h =
    let whole : Serve rows (reads_outward (P.Binary op at (expr_of a.value) (expr_of b.value))) = expr-is rows e (P.Binary op at (expr_of a.value) (expr_of b.value)) (ap expr_of is ∙ expr_of-Binary op at a b) h in
    expr-at rows x a.value same (left rows (reads_outward (expr_of a.value)) (reads_outward (expr_of b.value)) whole)

pub binary_right : (rows : Option NumberedGraph) (e x : E.Expr) (op : Op2) (at : Place) (a : Box E.Expr Global) (b : Box E.Expr Global) → e ≡ E.Binary op at a b → x ≡ b.value → Serve rows (reads_outward (expr_of e)) → Serve rows (reads_outward (expr_of x))
binary_right rows e x op at a b is same h =
    let whole : Serve rows (reads_outward (P.Binary op at (expr_of a.value) (expr_of b.value))) = expr-is rows e (P.Binary op at (expr_of a.value) (expr_of b.value)) (ap expr_of is ∙ expr_of-Binary op at a b) h in
    expr-at rows x b.value same (right rows (reads_outward (expr_of a.value)) (reads_outward (expr_of b.value)) whole)

pub both_left : (rows : Option NumberedGraph) (e x : E.Expr) (a : Box E.Expr Global) (b : Box E.Expr Global) → e ≡ E.Both a b → x ≡ a.value → Serve rows (reads_outward (expr_of e)) → Serve rows (reads_outward (expr_of x))
both_left rows e x a b is same h =
    let whole : Serve rows (reads_outward (P.Both (expr_of a.value) (expr_of b.value))) = expr-is rows e (P.Both (expr_of a.value) (expr_of b.value)) (ap expr_of is ∙ expr_of-Both a b) h in
    expr-at rows x a.value same (left rows (reads_outward (expr_of a.value)) (reads_outward (expr_of b.value)) whole)

pub both_right : (rows : Option NumberedGraph) (e x : E.Expr) (a : Box E.Expr Global) (b : Box E.Expr Global) → e ≡ E.Both a b → x ≡ b.value → Serve rows (reads_outward (expr_of e)) → Serve rows (reads_outward (expr_of x))
both_right rows e x a b is same h =
    let whole : Serve rows (reads_outward (P.Both (expr_of a.value) (expr_of b.value))) = expr-is rows e (P.Both (expr_of a.value) (expr_of b.value)) (ap expr_of is ∙ expr_of-Both a b) h in
    expr-at rows x b.value same (right rows (reads_outward (expr_of a.value)) (reads_outward (expr_of b.value)) whole)

pub either_left : (rows : Option NumberedGraph) (e x : E.Expr) (a : Box E.Expr Global) (b : Box E.Expr Global) → e ≡ E.Either a b → x ≡ a.value → Serve rows (reads_outward (expr_of e)) → Serve rows (reads_outward (expr_of x))
either_left rows e x a b is same h =
    let whole : Serve rows (reads_outward (P.Either (expr_of a.value) (expr_of b.value))) = expr-is rows e (P.Either (expr_of a.value) (expr_of b.value)) (ap expr_of is ∙ expr_of-Either a b) h in
    expr-at rows x a.value same (left rows (reads_outward (expr_of a.value)) (reads_outward (expr_of b.value)) whole)

pub either_right : (rows : Option NumberedGraph) (e x : E.Expr) (a : Box E.Expr Global) (b : Box E.Expr Global) → e ≡ E.Either a b → x ≡ b.value → Serve rows (reads_outward (expr_of e)) → Serve rows (reads_outward (expr_of x))
either_right rows e x a b is same h =
    let whole : Serve rows (reads_outward (P.Either (expr_of a.value) (expr_of b.value))) = expr-is rows e (P.Either (expr_of a.value) (expr_of b.value)) (ap expr_of is ∙ expr_of-Either a b) h in
    expr-at rows x b.value same (right rows (reads_outward (expr_of a.value)) (reads_outward (expr_of b.value)) whole)

pub choose_test : (rows : Option NumberedGraph) (e x : E.Expr) (c : Box E.Expr Global) (a : Box E.Expr Global) (b : Box E.Expr Global) → e ≡ E.Choose c a b → x ≡ c.value → Serve rows (reads_outward (expr_of e)) → Serve rows (reads_outward (expr_of x))
choose_test rows e x c a b is same h =
    let whole : Serve rows (reads_outward (P.Choose (expr_of c.value) (expr_of a.value) (expr_of b.value))) = expr-is rows e (P.Choose (expr_of c.value) (expr_of a.value) (expr_of b.value)) (ap expr_of is ∙ expr_of-Choose c a b) h in
    expr-at rows x c.value same (left rows (reads_outward (expr_of c.value)) ((reads_outward (expr_of a.value)) && (reads_outward (expr_of b.value))) whole)

pub choose_yes : (rows : Option NumberedGraph) (e x : E.Expr) (c : Box E.Expr Global) (a : Box E.Expr Global) (b : Box E.Expr Global) → e ≡ E.Choose c a b → x ≡ a.value → Serve rows (reads_outward (expr_of e)) → Serve rows (reads_outward (expr_of x))
choose_yes rows e x c a b is same h =
    let whole : Serve rows (reads_outward (P.Choose (expr_of c.value) (expr_of a.value) (expr_of b.value))) = expr-is rows e (P.Choose (expr_of c.value) (expr_of a.value) (expr_of b.value)) (ap expr_of is ∙ expr_of-Choose c a b) h in
    expr-at rows x a.value same (left rows (reads_outward (expr_of a.value)) (reads_outward (expr_of b.value)) (right rows (reads_outward (expr_of c.value)) ((reads_outward (expr_of a.value)) && (reads_outward (expr_of b.value))) whole))

pub choose_no : (rows : Option NumberedGraph) (e x : E.Expr) (c : Box E.Expr Global) (a : Box E.Expr Global) (b : Box E.Expr Global) → e ≡ E.Choose c a b → x ≡ b.value → Serve rows (reads_outward (expr_of e)) → Serve rows (reads_outward (expr_of x))
choose_no rows e x c a b is same h =
    let whole : Serve rows (reads_outward (P.Choose (expr_of c.value) (expr_of a.value) (expr_of b.value))) = expr-is rows e (P.Choose (expr_of c.value) (expr_of a.value) (expr_of b.value)) (ap expr_of is ∙ expr_of-Choose c a b) h in
    expr-at rows x b.value same (right rows (reads_outward (expr_of a.value)) (reads_outward (expr_of b.value)) (right rows (reads_outward (expr_of c.value)) ((reads_outward (expr_of a.value)) && (reads_outward (expr_of b.value))) whole))

-- the parts of a reduction
pub fold_range : (rows : Option NumberedGraph) (e : E.Expr) (f : Fold) (head : Head) (a b : Box E.Expr Global) → e ≡ E.Fold f head a b → Serve rows (reads_outward (expr_of e)) → Serve rows (runs_outward head.domain)
fold_range rows e f head a b is h =
    left rows (runs_outward head.domain) ((reads_outward (expr_of a.value)) && (reads_outward (expr_of b.value))) (expr-is rows e (P.Folded f head (expr_of a.value) (expr_of b.value)) (ap expr_of is ∙ expr_of-Fold f head a b) h)

pub fold_filter : (rows : Option NumberedGraph) (e x : E.Expr) (f : Fold) (head : Head) (a : Box E.Expr Global) (b : Box E.Expr Global) → e ≡ E.Fold f head a b → x ≡ a.value → Serve rows (reads_outward (expr_of e)) → Serve rows (reads_outward (expr_of x))
fold_filter rows e x f head a b is same h =
    let whole : Serve rows (reads_outward (P.Folded f head (expr_of a.value) (expr_of b.value))) = expr-is rows e (P.Folded f head (expr_of a.value) (expr_of b.value)) (ap expr_of is ∙ expr_of-Fold f head a b) h in
    expr-at rows x a.value same (left rows (reads_outward (expr_of a.value)) (reads_outward (expr_of b.value)) (right rows (runs_outward head.domain) ((reads_outward (expr_of a.value)) && (reads_outward (expr_of b.value))) whole))

pub fold_body : (rows : Option NumberedGraph) (e x : E.Expr) (f : Fold) (head : Head) (a : Box E.Expr Global) (b : Box E.Expr Global) → e ≡ E.Fold f head a b → x ≡ b.value → Serve rows (reads_outward (expr_of e)) → Serve rows (reads_outward (expr_of x))
fold_body rows e x f head a b is same h =
    let whole : Serve rows (reads_outward (P.Folded f head (expr_of a.value) (expr_of b.value))) = expr-is rows e (P.Folded f head (expr_of a.value) (expr_of b.value)) (ap expr_of is ∙ expr_of-Fold f head a b) h in
    expr-at rows x b.value same (right rows (reads_outward (expr_of a.value)) (reads_outward (expr_of b.value)) (right rows (runs_outward head.domain) ((reads_outward (expr_of a.value)) && (reads_outward (expr_of b.value))) whole))

-- one of several values
pub value_item : (rows : Option NumberedGraph) (es found : List E.Expr) (i : ℕ) (x : E.Expr) → found ≡ es → i < length found → x ≡ get_or found i x → Serve rows (list_all reads_outward (map expr_of es)) → Serve rows (reads_outward (expr_of x))
value_item rows es found i x same lt is h =
    expr-at rows x (get_or found i x) is (item rows reads_outward expr_of found i x lt (subst (λ (all : List E.Expr). Serve rows (list_all reads_outward (map expr_of all))) (sym same) h))

-- a value that is there
pub some_value : (rows : Option NumberedGraph) (value : Option E.Expr) (x : E.Expr) → value ≡ Some x → Serve rows (value_outward (option_map expr_of value)) → Serve rows (reads_outward (expr_of x))
some_value rows value x is h = subst (λ (v : Option E.Expr). Serve rows (value_outward (option_map expr_of v))) is h

-- the parts of a statement
pub block_served : (rows : Option NumberedGraph) (s : S.Stmt) (stmts : Vec S.Stmt Global) → s ≡ S.Block stmts → Serve rows (goes_outward (stmt_of s)) → Serve rows (goes_outward (P.sequence (map stmt_of stmts.items)))
block_served rows s stmts is h = stmt-is rows s (P.sequence (map stmt_of stmts.items)) (ap stmt_of is ∙ stmt_of-Block stmts) h

pub declare_value : (rows : Option NumberedGraph) (s : S.Stmt) (key : Key) (x : ℕ) (value : Option E.Expr) → s ≡ S.Declare key x value → Serve rows (goes_outward (stmt_of s)) → Serve rows (value_outward (option_map expr_of value))
declare_value rows s key x value is h = stmt-is rows s (P.Declare key x (option_map expr_of value)) (ap stmt_of is ∙ stmt_of-Declare key x value) h

pub assign_value : (rows : Option NumberedGraph) (s : S.Stmt) (key : Key) (t : Target) (e : E.Expr) → s ≡ S.Assign key t e → Serve rows (goes_outward (stmt_of s)) → Serve rows (reads_outward (expr_of e))
assign_value rows s key t e is h = stmt-is rows s (P.Assign key t (expr_of e)) (ap stmt_of is ∙ stmt_of-Assign key t e) h

pub defer_value : (rows : Option NumberedGraph) (s : S.Stmt) (key : Key) (t : Target) (e : E.Expr) → s ≡ S.Defer key t e → Serve rows (goes_outward (stmt_of s)) → Serve rows (reads_outward (expr_of e))
defer_value rows s key t e is h = stmt-is rows s (P.Defer key t (expr_of e)) (ap stmt_of is ∙ stmt_of-Defer key t e) h

pub reduce_values : (rows : Option NumberedGraph) (s : S.Stmt) (key : Key) (total : TotalKey) (r : Reduce) (ts : Vec Target Global) (es : Vec E.Expr Global) (found : List E.Expr) → s ≡ S.Reduce key total r ts es → found ≡ es.items → Serve rows (goes_outward (stmt_of s)) → Serve rows (list_all reads_outward (map expr_of found))
reduce_values rows s key total r ts es found is same h =
    let whole : Serve rows (goes_outward (P.Combine key total r ts.items (map expr_of es.items))) = stmt-is rows s (P.Combine key total r ts.items (map expr_of es.items)) (ap stmt_of is ∙ stmt_of-Reduce key total r ts es) h in
    subst (λ (all : List E.Expr). Serve rows (list_all reads_outward (map expr_of all))) (sym same) whole

pub if_test : (rows : Option NumberedGraph) (s : S.Stmt) (key : Key) (test : E.Expr) (first : Box S.Stmt Global) (other : Box S.Stmt Global) → s ≡ S.If key test first other → Serve rows (goes_outward (stmt_of s)) → Serve rows (reads_outward (expr_of test))
if_test rows s key test first other is h =
    let whole : Serve rows (goes_outward (P.If key (expr_of test) (stmt_of first.value) (stmt_of other.value))) = stmt-is rows s (P.If key (expr_of test) (stmt_of first.value) (stmt_of other.value)) (ap stmt_of is ∙ stmt_of-If key test first other) h in
    left rows (reads_outward (expr_of test)) ((goes_outward (stmt_of first.value)) && (goes_outward (stmt_of other.value))) whole

pub if_first : (rows : Option NumberedGraph) (s : S.Stmt) (x : S.Stmt) (key : Key) (test : E.Expr) (first : Box S.Stmt Global) (other : Box S.Stmt Global) → s ≡ S.If key test first other → x ≡ first.value → Serve rows (goes_outward (stmt_of s)) → Serve rows (goes_outward (stmt_of x))
if_first rows s x key test first other is same h =
    let whole : Serve rows (goes_outward (P.If key (expr_of test) (stmt_of first.value) (stmt_of other.value))) = stmt-is rows s (P.If key (expr_of test) (stmt_of first.value) (stmt_of other.value)) (ap stmt_of is ∙ stmt_of-If key test first other) h in
    stmt-at rows x first.value same (left rows (goes_outward (stmt_of first.value)) (goes_outward (stmt_of other.value)) (right rows (reads_outward (expr_of test)) ((goes_outward (stmt_of first.value)) && (goes_outward (stmt_of other.value))) whole))

pub if_other : (rows : Option NumberedGraph) (s : S.Stmt) (x : S.Stmt) (key : Key) (test : E.Expr) (first : Box S.Stmt Global) (other : Box S.Stmt Global) → s ≡ S.If key test first other → x ≡ other.value → Serve rows (goes_outward (stmt_of s)) → Serve rows (goes_outward (stmt_of x))
if_other rows s x key test first other is same h =
    let whole : Serve rows (goes_outward (P.If key (expr_of test) (stmt_of first.value) (stmt_of other.value))) = stmt-is rows s (P.If key (expr_of test) (stmt_of first.value) (stmt_of other.value)) (ap stmt_of is ∙ stmt_of-If key test first other) h in
    stmt-at rows x other.value same (right rows (goes_outward (stmt_of first.value)) (goes_outward (stmt_of other.value)) (right rows (reads_outward (expr_of test)) ((goes_outward (stmt_of first.value)) && (goes_outward (stmt_of other.value))) whole))

pub foreach_range : (rows : Option NumberedGraph) (s : S.Stmt) (key : Key) (at : Place) (head : Head) (test : E.Expr) (body : Box S.Stmt Global) → s ≡ S.Foreach key at head test body → Serve rows (goes_outward (stmt_of s)) → Serve rows (runs_outward head.domain)
foreach_range rows s key at head test body is h =
    let whole : Serve rows (goes_outward (P.Foreach key at head (expr_of test) (stmt_of body.value))) = stmt-is rows s (P.Foreach key at head (expr_of test) (stmt_of body.value)) (ap stmt_of is ∙ stmt_of-Foreach key at head test body) h in
    left rows (runs_outward head.domain) ((reads_outward (expr_of test)) && (goes_outward (stmt_of body.value))) whole

pub foreach_filter : (rows : Option NumberedGraph) (s : S.Stmt) (key : Key) (at : Place) (head : Head) (test : E.Expr) (body : Box S.Stmt Global) → s ≡ S.Foreach key at head test body → Serve rows (goes_outward (stmt_of s)) → Serve rows (reads_outward (expr_of test))
foreach_filter rows s key at head test body is h =
    let whole : Serve rows (goes_outward (P.Foreach key at head (expr_of test) (stmt_of body.value))) = stmt-is rows s (P.Foreach key at head (expr_of test) (stmt_of body.value)) (ap stmt_of is ∙ stmt_of-Foreach key at head test body) h in
    left rows (reads_outward (expr_of test)) (goes_outward (stmt_of body.value)) (right rows (runs_outward head.domain) ((reads_outward (expr_of test)) && (goes_outward (stmt_of body.value))) whole)

pub foreach_body : (rows : Option NumberedGraph) (s : S.Stmt) (x : S.Stmt) (key : Key) (at : Place) (head : Head) (test : E.Expr) (body : Box S.Stmt Global) → s ≡ S.Foreach key at head test body → x ≡ body.value → Serve rows (goes_outward (stmt_of s)) → Serve rows (goes_outward (stmt_of x))
foreach_body rows s x key at head test body is same h =
    let whole : Serve rows (goes_outward (P.Foreach key at head (expr_of test) (stmt_of body.value))) = stmt-is rows s (P.Foreach key at head (expr_of test) (stmt_of body.value)) (ap stmt_of is ∙ stmt_of-Foreach key at head test body) h in
    stmt-at rows x body.value same (right rows (reads_outward (expr_of test)) (goes_outward (stmt_of body.value)) (right rows (runs_outward head.domain) ((reads_outward (expr_of test)) && (goes_outward (stmt_of body.value))) whole))

-- one of the statements of a block
among : (stmts : List S.Stmt) (i : ℕ) (d : S.Stmt) → i < length stmts → goes_outward (P.sequence (map stmt_of stmts)) ≡ true → goes_outward (stmt_of (get_or stmts i d)) ≡ true
among [] i d lt h = absurd (omega arith)
among (s ∷ stmts) zero d lt h = (and_parts (goes_outward (stmt_of s)) (goes_outward (P.sequence (map stmt_of stmts))) h).0
among (s ∷ stmts) (suc i) d lt h = among stmts i d (omega arith) (and_parts (goes_outward (stmt_of s)) (goes_outward (P.sequence (map stmt_of stmts))) h).1

pub stmt_item : (rows : Option NumberedGraph) (stmts found : List S.Stmt) (i : ℕ) (x : S.Stmt) → found ≡ stmts → i < length found → x ≡ get_or found i x → Serve rows (goes_outward (P.sequence (map stmt_of stmts))) → Serve rows (goes_outward (stmt_of x))
stmt_item rows stmts found i x same lt is h =
    let there : Serve rows (goes_outward (P.sequence (map stmt_of found))) = subst (λ (all : List S.Stmt). Serve rows (goes_outward (P.sequence (map stmt_of all)))) (sym same) h in
    stmt-at rows x (get_or found i x) is (implied rows (goes_outward (P.sequence (map stmt_of found))) (goes_outward (stmt_of (get_or found i x))) (among found i x lt) there)
