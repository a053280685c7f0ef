-- What serves a statement serves its parts, where it holds others in turns.
use Rattle.std.proofs.Common.{◌≡◌, ◌∙◌, ◌&&◌, ℕ, true, Option, None, Some, refl, ap, sym, subst}
use Rattle.std.specs.Prelude.{Box}
use Rattle.std.specs.declared.alloc.Global.{Global}
use Rattle.gm_base.specs.declared.places.Place.{Place}
use Rattle.gm_model.specs.Graphs.{NumberedGraph}
use Rattle.gm_graph.specs.Serving.{Serve}
use Rattle.gm_graph.proofs.Serving.{left, right}
use Rattle.gm_ast.specs.declared.tree.Expr.{Expr}
use Rattle.gm_ast.specs.declared.tree.Head.{Head}
use Rattle.gm_ast.specs.declared.tree.Key.{Key}
use Rattle.gm_ast.specs.declared.tree.Search.{Search}
use Rattle.gm_ast.specs.declared.tree.Stmt as S
use Rattle.gm_ast.specs.declared.tree.Stmt.{Stmt}
use Rattle.gm_ast.specs.Program as P
use Rattle.gm_ast.specs.Tree.{expr_of, stmt_of}
use Rattle.gm_loops.specs.Asking.{goes_outward, reads_outward, runs_outward}
use Rattle.gm_meaning.proofs.Trees.{stmt_of-Declare-Some, stmt_of-Do, stmt_of-For, stmt_of-Group, stmt_of-InBfs, stmt_of-InBfsBoth, stmt_of-Return-Some, stmt_of-While}

-- what serves a statement serves its form
stmt-is : (rows : Option NumberedGraph) (s : Stmt) (p : P.Stmt) → stmt_of s ≡ p → Serve rows (goes_outward (stmt_of s)) → Serve rows (goes_outward p)
stmt-is rows s p is h = subst (λ (q : P.Stmt). Serve rows (goes_outward q)) is h

stmt-at : (rows : Option NumberedGraph) (x y : Stmt) → x ≡ y → Serve rows (goes_outward (stmt_of y)) → Serve rows (goes_outward (stmt_of x))
stmt-at rows x y same h = subst (λ (z : Stmt). Serve rows (goes_outward (stmt_of z))) (sym same) h

pub declared_value : (rows : Option NumberedGraph) (s : Stmt) (key : Key) (x : ℕ) (test : Expr) → s ≡ S.Declare key x (Some test) → Serve rows (goes_outward (stmt_of s)) → Serve rows (reads_outward (expr_of test))
declared_value rows s key x test is h =
    let whole : Serve rows (goes_outward (P.Declare key x (Some (expr_of test)))) = stmt-is rows s (P.Declare key x (Some (expr_of test))) (ap stmt_of is ∙ stmt_of-Declare-Some key x test) h in
    whole

pub group_value : (rows : Option NumberedGraph) (s : Stmt) (key : Key) (at : Place) (g : ℕ) (p : ℕ) (test : Expr) → s ≡ S.Group key at g p test → Serve rows (goes_outward (stmt_of s)) → Serve rows (reads_outward (expr_of test))
group_value rows s key at g p test is h =
    let whole : Serve rows (goes_outward (P.Group key at g p (expr_of test))) = stmt-is rows s (P.Group key at g p (expr_of test)) (ap stmt_of is ∙ stmt_of-Group key at g p test) h in
    whole

pub for_filter : (rows : Option NumberedGraph) (s : Stmt) (key : Key) (at : Place) (head : Head) (test : Expr) (body : Box Stmt Global) → s ≡ S.For key at head test body → Serve rows (goes_outward (stmt_of s)) → Serve rows (reads_outward (expr_of test))
for_filter rows s key at head test body is h =
    let whole : Serve rows (goes_outward (P.For key at head (expr_of test) (stmt_of body.value))) = stmt-is rows s (P.For key at head (expr_of test) (stmt_of body.value)) (ap stmt_of is ∙ stmt_of-For key at head test body) h in
    left rows (reads_outward (expr_of test)) (goes_outward (stmt_of body.value)) (right rows (runs_outward head.domain) ((reads_outward (expr_of test)) && (goes_outward (stmt_of body.value))) whole)

pub for_body : (rows : Option NumberedGraph) (s : Stmt) (x : Stmt) (key : Key) (at : Place) (head : Head) (test : Expr) (body : Box Stmt Global) → s ≡ S.For key at head test body → x ≡ body.value → Serve rows (goes_outward (stmt_of s)) → Serve rows (goes_outward (stmt_of x))
for_body rows s x key at head test body is same h =
    let whole : Serve rows (goes_outward (P.For key at head (expr_of test) (stmt_of body.value))) = stmt-is rows s (P.For key at head (expr_of test) (stmt_of body.value)) (ap stmt_of is ∙ stmt_of-For key at head test body) h in
    stmt-at rows x body.value same (right rows (reads_outward (expr_of test)) (goes_outward (stmt_of body.value)) (right rows (runs_outward head.domain) ((reads_outward (expr_of test)) && (goes_outward (stmt_of body.value))) whole))

pub while_test : (rows : Option NumberedGraph) (s : Stmt) (key : Key) (at : Place) (test : Expr) (body : Box Stmt Global) → s ≡ S.While key at test body → Serve rows (goes_outward (stmt_of s)) → Serve rows (reads_outward (expr_of test))
while_test rows s key at test body is h =
    let whole : Serve rows (goes_outward (P.While key at (expr_of test) (stmt_of body.value))) = stmt-is rows s (P.While key at (expr_of test) (stmt_of body.value)) (ap stmt_of is ∙ stmt_of-While key at test body) h in
    left rows (reads_outward (expr_of test)) (goes_outward (stmt_of body.value)) whole

pub while_body : (rows : Option NumberedGraph) (s : Stmt) (x : Stmt) (key : Key) (at : Place) (test : Expr) (body : Box Stmt Global) → s ≡ S.While key at test body → x ≡ body.value → Serve rows (goes_outward (stmt_of s)) → Serve rows (goes_outward (stmt_of x))
while_body rows s x key at test body is same h =
    let whole : Serve rows (goes_outward (P.While key at (expr_of test) (stmt_of body.value))) = stmt-is rows s (P.While key at (expr_of test) (stmt_of body.value)) (ap stmt_of is ∙ stmt_of-While key at test body) h in
    stmt-at rows x body.value same (right rows (reads_outward (expr_of test)) (goes_outward (stmt_of body.value)) whole)

pub do_body : (rows : Option NumberedGraph) (s : Stmt) (x : Stmt) (key : Key) (at : Place) (body : Box Stmt Global) (test : Expr) → s ≡ S.Do key at body test → x ≡ body.value → Serve rows (goes_outward (stmt_of s)) → Serve rows (goes_outward (stmt_of x))
do_body rows s x key at body test is same h =
    let whole : Serve rows (goes_outward (P.Do key at (stmt_of body.value) (expr_of test))) = stmt-is rows s (P.Do key at (stmt_of body.value) (expr_of test)) (ap stmt_of is ∙ stmt_of-Do key at body test) h in
    stmt-at rows x body.value same (left rows (goes_outward (stmt_of body.value)) (reads_outward (expr_of test)) whole)

pub do_test : (rows : Option NumberedGraph) (s : Stmt) (key : Key) (at : Place) (body : Box Stmt Global) (test : Expr) → s ≡ S.Do key at body test → Serve rows (goes_outward (stmt_of s)) → Serve rows (reads_outward (expr_of test))
do_test rows s key at body test is h =
    let whole : Serve rows (goes_outward (P.Do key at (stmt_of body.value) (expr_of test))) = stmt-is rows s (P.Do key at (stmt_of body.value) (expr_of test)) (ap stmt_of is ∙ stmt_of-Do key at body test) h in
    right rows (goes_outward (stmt_of body.value)) (reads_outward (expr_of test)) whole

pub search_filter : (rows : Option NumberedGraph) (s : Stmt) (key : Key) (at : Place) (search : Search) (test : Expr) (body : Box Stmt Global) → s ≡ S.InBfs key at search test body → Serve rows (goes_outward (stmt_of s)) → Serve rows (reads_outward (expr_of test))
search_filter rows s key at search test body is h =
    let whole : Serve rows (goes_outward (P.InBfs key at search (expr_of test) (stmt_of body.value))) = stmt-is rows s (P.InBfs key at search (expr_of test) (stmt_of body.value)) (ap stmt_of is ∙ stmt_of-InBfs key at search test body) h in
    left rows (reads_outward (expr_of test)) (goes_outward (stmt_of body.value)) whole

pub search_body : (rows : Option NumberedGraph) (s : Stmt) (x : Stmt) (key : Key) (at : Place) (search : Search) (test : Expr) (body : Box Stmt Global) → s ≡ S.InBfs key at search test body → x ≡ body.value → Serve rows (goes_outward (stmt_of s)) → Serve rows (goes_outward (stmt_of x))
search_body rows s x key at search test body is same h =
    let whole : Serve rows (goes_outward (P.InBfs key at search (expr_of test) (stmt_of body.value))) = stmt-is rows s (P.InBfs key at search (expr_of test) (stmt_of body.value)) (ap stmt_of is ∙ stmt_of-InBfs key at search test body) h in
    stmt-at rows x body.value same (right rows (reads_outward (expr_of test)) (goes_outward (stmt_of body.value)) whole)

pub both_filter : (rows : Option NumberedGraph) (s : Stmt) (key : Key) (at : Place) (search : Search) (test : Expr) (body : Box Stmt Global) (back_key : Key) (back_test : Expr) (back : Box Stmt Global) → s ≡ S.InBfsBoth key at search test body back_key back_test back → Serve rows (goes_outward (stmt_of s)) → Serve rows (reads_outward (expr_of test))
both_filter rows s key at search test body back_key back_test back is h =
    let whole : Serve rows (goes_outward (P.InBfsBoth key at search (expr_of test) (stmt_of body.value) back_key (expr_of back_test) (stmt_of back.value))) = stmt-is rows s (P.InBfsBoth key at search (expr_of test) (stmt_of body.value) back_key (expr_of back_test) (stmt_of back.value)) (ap stmt_of is ∙ stmt_of-InBfsBoth key at search test body back_key back_test back) h in
    left rows (reads_outward (expr_of test)) (goes_outward (stmt_of body.value)) (left rows ((reads_outward (expr_of test)) && (goes_outward (stmt_of body.value))) ((reads_outward (expr_of back_test)) && (goes_outward (stmt_of back.value))) whole)

pub both_body : (rows : Option NumberedGraph) (s : Stmt) (x : Stmt) (key : Key) (at : Place) (search : Search) (test : Expr) (body : Box Stmt Global) (back_key : Key) (back_test : Expr) (back : Box Stmt Global) → s ≡ S.InBfsBoth key at search test body back_key back_test back → x ≡ body.value → Serve rows (goes_outward (stmt_of s)) → Serve rows (goes_outward (stmt_of x))
both_body rows s x key at search test body back_key back_test back is same h =
    let whole : Serve rows (goes_outward (P.InBfsBoth key at search (expr_of test) (stmt_of body.value) back_key (expr_of back_test) (stmt_of back.value))) = stmt-is rows s (P.InBfsBoth key at search (expr_of test) (stmt_of body.value) back_key (expr_of back_test) (stmt_of back.value)) (ap stmt_of is ∙ stmt_of-InBfsBoth key at search test body back_key back_test back) h in
    stmt-at rows x body.value same (right rows (reads_outward (expr_of test)) (goes_outward (stmt_of body.value)) (left rows ((reads_outward (expr_of test)) && (goes_outward (stmt_of body.value))) ((reads_outward (expr_of back_test)) && (goes_outward (stmt_of back.value))) whole))

pub both_back_filter : (rows : Option NumberedGraph) (s : Stmt) (key : Key) (at : Place) (search : Search) (test : Expr) (body : Box Stmt Global) (back_key : Key) (back_test : Expr) (back : Box Stmt Global) → s ≡ S.InBfsBoth key at search test body back_key back_test back → Serve rows (goes_outward (stmt_of s)) → Serve rows (reads_outward (expr_of back_test))
both_back_filter rows s key at search test body back_key back_test back is h =
    let whole : Serve rows (goes_outward (P.InBfsBoth key at search (expr_of test) (stmt_of body.value) back_key (expr_of back_test) (stmt_of back.value))) = stmt-is rows s (P.InBfsBoth key at search (expr_of test) (stmt_of body.value) back_key (expr_of back_test) (stmt_of back.value)) (ap stmt_of is ∙ stmt_of-InBfsBoth key at search test body back_key back_test back) h in
    left rows (reads_outward (expr_of back_test)) (goes_outward (stmt_of back.value)) (right rows ((reads_outward (expr_of test)) && (goes_outward (stmt_of body.value))) ((reads_outward (expr_of back_test)) && (goes_outward (stmt_of back.value))) whole)

pub both_back : (rows : Option NumberedGraph) (s : Stmt) (x : Stmt) (key : Key) (at : Place) (search : Search) (test : Expr) (body : Box Stmt Global) (back_key : Key) (back_test : Expr) (back : Box Stmt Global) → s ≡ S.InBfsBoth key at search test body back_key back_test back → x ≡ back.value → Serve rows (goes_outward (stmt_of s)) → Serve rows (goes_outward (stmt_of x))
both_back rows s x key at search test body back_key back_test back is same h =
    let whole : Serve rows (goes_outward (P.InBfsBoth key at search (expr_of test) (stmt_of body.value) back_key (expr_of back_test) (stmt_of back.value))) = stmt-is rows s (P.InBfsBoth key at search (expr_of test) (stmt_of body.value) back_key (expr_of back_test) (stmt_of back.value)) (ap stmt_of is ∙ stmt_of-InBfsBoth key at search test body back_key back_test back) h in
    stmt-at rows x back.value same (right rows (reads_outward (expr_of back_test)) (goes_outward (stmt_of back.value)) (right rows ((reads_outward (expr_of test)) && (goes_outward (stmt_of body.value))) ((reads_outward (expr_of back_test)) && (goes_outward (stmt_of back.value))) whole))

pub returned_value : (rows : Option NumberedGraph) (s : Stmt) (key : Key) (at : Place) (test : Expr) → s ≡ S.Return key at (Some test) → Serve rows (goes_outward (stmt_of s)) → Serve rows (reads_outward (expr_of test))
returned_value rows s key at test is h =
    let whole : Serve rows (goes_outward (P.Return key at (Some (expr_of test)))) = stmt-is rows s (P.Return key at (Some (expr_of test))) (ap stmt_of is ∙ stmt_of-Return-Some key at test) h in
    whole

-- an expression that asks nothing is served by any rows
pub any_rows : (rows : Option NumberedGraph) (e : Expr) → reads_outward (expr_of e) ≡ true → Serve rows (reads_outward (expr_of e))
any_rows (Some r) e h = refl
any_rows None e h = h
