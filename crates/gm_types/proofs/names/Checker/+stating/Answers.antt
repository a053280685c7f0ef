use Rattle.std.proofs.Common.{◌≡◌, ◌+◌, ◌∙◌, ◌∷◌, [], List, Option, refl, ap, sym, subst, map, drop, option_map}
use Rattle.std.specs.Prelude.{Some, box_value}
use Rattle.std.proofs.lemmas.Result.{IfOk-weaker, IfOk-from_err}
use Rattle.gm_ast.specs.Names.{Env, both, numbered}
use Rattle.gm_ast.specs.Program.{Skip, sequence}
use Rattle.gm_ast.specs.Statements.{checked, loops_of, test, searched}
use Rattle.gm_ast.specs.Surface.{SurfaceStmt}
use Rattle.gm_ast.specs.SurfaceTree as Spelled
use Rattle.gm_ast.specs.SurfaceTree.{name_of, head_of, target_of, test_of, type_of, expr_of}
use Rattle.gm_ast.specs.Tree.{stmt_of}
use Rattle.gm_ast.proofs.SurfaceTrees.{stmt_of-Block, stmt_of-Loop, stmt_of-While, stmt_of-Do, stmt_of-InBfs, stmt_of-InBfsBoth}
use Rattle.gm_types.specs.declared.names.Checker.{Checker}
use Rattle.gm_types.specs.declared.statements.Around.{Around}
use Rattle.gm_types.specs.Views.{env_of, Follows}
use Rattle.gm_types.specs.Blocks.{Blocks}
use Rattle.gm_types.proofs.Blocks.{begun_of, blocks-first, blocks-next, blocks-end, follows-block}
use Rattle.gm_types.proofs.Fits.{held-next}
use Rattle.gm_types.proofs.Items.{drop-item, nothing-left}
use Rattle.gm_types.specs.Shapes.{branch_in}
use Rattle.gm_types.proofs.Plain.{sequence-held, if_tree}
use Rattle.gm_types.proofs.Stated.{key-of, leaves-from, judges-ended, judges-absent, judges-back, judges-Loop, judges-If, judges-While, judges-Do, judges-InBfs, judges-InBfsBoth}
use Rattle.gm_types.proofs.Scopes.{judges-iterated}
use Rattle.gm_types.proofs.Walks.{judges-both}
use Rattle.gm_types.proofs.names.Checker.+stating.Goals as goal

pub block-loop-stmt-init : goal.block-loop-stmt-init
block-loop-stmt-init t c = rw c.new.ensures.items (blocks-first c.args.self.now (map Spelled.stmt_of c.args.stmts.now.items))

pub block-loop-stmt-preserved : goal.block-loop-stmt-preserved
block-loop-stmt-preserved t c =
    let stmts = c.args.stmts.now.items in
    let i = c.loop-stmt.stmt-index in
    let item = c.stmt-item.result in
    let self = c.loop-stmt.self in
    let around = c.in_ok-around.ensures.around in
    let rest : map Spelled.stmt_of (drop i stmts) ≡ Spelled.stmt_of item ∷ map Spelled.stmt_of (drop (i + 1) stmts) = ap (map Spelled.stmt_of) (drop-item stmts i item (rw c.deref-stmt-items.ensures.value at c.loop-stmt-test.true) (rw c.deref-stmt-items.ensures.value at c.stmt-item.is)) in
    let w = subst (λ (r : List SurfaceStmt). Blocks c.args.self.now self (option_map (λ v. map stmt_of v.items) c.loop-stmt.held) (map Spelled.stmt_of stmts) r) rest c.loop-stmt.invariant in
    let s = Spelled.stmt_of item in
    let h = subst (λ (b : Checker). Follows b c.checked.new.self s (checked s (env_of b)) (option_map stmt_of c.in_ok-part.part)) c.in_ok-around.ensures.begun c.in_ok-part.ensures in
    rw (held-next stmt_of c.loop-stmt.held c.in_ok-held.held c.in_ok-part.part c.in_ok-held.ensures)
    (rw (ap (λ (a : Around). a.key) around) (blocks-next (map Spelled.stmt_of stmts) s (map Spelled.stmt_of (drop (i + 1) stmts)) w h))

pub block-returns : goal.block-returns
block-returns t c =
    let stmts = c.args.stmts.now.items in
    let i = c.loop-stmt.stmt-index in
    let rest : map Spelled.stmt_of (drop i stmts) ≡ [] = ap (map Spelled.stmt_of) (nothing-left stmts i (rw c.deref-stmt-items.ensures.value at c.loop-stmt-test.false)) in
    let w = subst (λ (r : List SurfaceStmt). Blocks c.args.self.now c.loop-stmt.self (option_map (λ v. map stmt_of v.items) c.loop-stmt.held) (map Spelled.stmt_of stmts) r) rest c.loop-stmt.invariant in
    blocks-end (map Spelled.stmt_of stmts) w (c.block_of.ensures ∙ sequence-held c.loop-stmt.held)
    (rw c.len-known.ensures.len at c.truncate.ensures.entries) refl

pub scoped-returns : goal.scoped-returns
scoped-returns t c =
    let a = c.in_ok-around in
    rw c.in_ok-held.ensures
    (judges-ended (Spelled.stmt_of c.args.s.now) a.around a.ensures.around a.ensures.begun c.in_ok-part.ensures c.end.ensures.known c.end.ensures.rest)

pub otherwise-returns-in_ok-absent-in-None : goal.otherwise-returns-in_ok-absent-in-None
otherwise-returns-in_ok-absent-in-None t c = rw (c.in-None.is, c.in_ok-absent-in-None.ensures) (judges-absent c.in_ok-take_numbers-in-None.ensures)

pub otherwise-returns-in-Some : goal.otherwise-returns-in-Some
otherwise-returns-in-Some t c = rw c.in-Some.is (rw c.deref.ensures at c.scoped.ensures)

pub judge_half-returns : goal.judge_half-returns
judge_half-returns t c =
    rw c.half_with.ensures
    (judges-both (test (test_of c.args.filter.now)) (numbered (checked (Spelled.stmt_of c.args.body.now))) c.in_ok-asked.ensures c.in_ok-inner.ensures)

pub judge_loop-returns : goal.judge_loop-returns
judge_loop-returns t c =
    let head = head_of c.args.head.now in
    let f = test_of c.args.filter.now in
    let s = Spelled.stmt_of c.args.body.now in
    let e = rw c.loops_of.ensures at c.in_ok-iterator.ensures.enters in
    let h = c.in_ok-half.ensures in
    let l = leaves-from c.len-known.ensures.len refl (key-of h ∙ ap (λ (env : Env). env.key) e.names) c.leave.ensures.known c.leave.ensures.iterators c.leave.ensures.rest in
    judges-Loop c.args.place c.args.word head f s c.ranged-owner.ensures
    (judges-iterated head.iterator (loops_of c.args.word) (both (test f) (numbered (checked s))) e h l)
    (rw c.in_ok-iterator.ensures.index at c.loop_with.ensures)

pub judge_search-returns : goal.judge_search-returns
judge_search-returns t c =
    let x = name_of c.args.iterator.now in
    let f = test_of c.args.filter.now in
    let s = Spelled.stmt_of c.args.body.now in
    let e = c.in_ok-visited.ensures.enters in
    let h = c.in_ok-half.ensures in
    let l = leaves-from c.len-known.ensures.len refl (key-of h ∙ ap (λ (env : Env). env.key) e.names) c.leave.ensures.known c.leave.ensures.iterators c.leave.ensures.rest in
    judges-InBfs c.args.place x (name_of c.args.graph.now) (name_of c.args.root.now) f s c.graph_searched-around.ensures c.rooted-start.ensures
    (judges-iterated x 1 (both (test f) (numbered (checked s))) e h l)
    (rw c.in_ok-visited.ensures.index at c.bfs_with.ensures)

pub checked-returns-in-Block : goal.checked-returns-in-Block
checked-returns-in-Block t c =
    rw (c.in-Block.is, stmt_of-Block)
    (IfOk-weaker c.block.result _ _ (λ r h. follows-block (map Spelled.stmt_of c.in-Block.stmts.items) h) c.block.ensures)

pub checked-returns-in-Loop : goal.checked-returns-in-Loop
checked-returns-in-Loop t c = rw (c.in-Loop.is, stmt_of-Loop) (rw c.deref-in-Loop.ensures at c.judge_loop.ensures)

pub checked-returns-in_ok-second-in-If : goal.checked-returns-in_ok-second-in-If
checked-returns-in_ok-second-in-If t c =
    let r = c.in-If in
    rw (r.is, if_tree r.place r.test r.yes r.no)
    (judges-If r.place (expr_of r.test) (Spelled.stmt_of (box_value r.yes)) (branch_in r.no) c.in_ok-asked-in-If.ensures (rw c.deref-in-If.ensures at c.in_ok-first-in-If.ensures) c.in_ok-second-in-If.ensures c.if_with.ensures)

pub checked-returns-in_ok-inner-in-While : goal.checked-returns-in_ok-inner-in-While
checked-returns-in_ok-inner-in-While t c =
    let r = c.in-While in
    rw (r.is, stmt_of-While)
    (judges-While r.place (expr_of r.test) (Spelled.stmt_of (box_value r.body)) c.in_ok-asked-in-While.ensures (rw c.deref-in-While.ensures at c.in_ok-inner-in-While.ensures) c.while_with.ensures)

pub checked-returns-in_ok-asked-in-Do : goal.checked-returns-in_ok-asked-in-Do
checked-returns-in_ok-asked-in-Do t c =
    let r = c.in-Do in
    rw (r.is, stmt_of-Do)
    (judges-Do r.place (Spelled.stmt_of (box_value r.body)) (expr_of r.test) (rw c.deref-in-Do.ensures at c.in_ok-inner-in-Do.ensures) c.in_ok-asked-in-Do.ensures c.do_with.ensures)

pub checked-returns-in-InBfs : goal.checked-returns-in-InBfs
checked-returns-in-InBfs t c = rw (c.in-InBfs.is, stmt_of-InBfs) (rw c.deref-in-InBfs.ensures at c.judge_search.ensures)

pub checked-returns-in_ok-behind-in-InBfsBoth : goal.checked-returns-in_ok-behind-in-InBfsBoth
checked-returns-in_ok-behind-in-InBfsBoth t c =
    let r = c.in-InBfsBoth in
    let x = name_of r.iterator in
    let f = test_of r.filter in
    let g = test_of r.back_filter in
    let s = Spelled.stmt_of (box_value r.body) in
    let b = Spelled.stmt_of (box_value r.back) in
    let e = c.in_ok-visited-in-InBfsBoth.ensures.enters in
    let h = judges-both (both (test f) (numbered (checked s))) (numbered (searched (test g) (numbered (checked b))))
    (rw c.deref-in-InBfsBoth.ensures at c.in_ok-front-in-InBfsBoth.ensures) (rw c.deref-in-InBfsBoth-2.ensures at c.in_ok-behind-in-InBfsBoth.ensures) in
    let l = leaves-from c.len-known.ensures.len refl (key-of h ∙ ap (λ (env : Env). env.key) e.names) c.leave.ensures.known c.leave.ensures.iterators c.leave.ensures.rest in
    rw (r.is, stmt_of-InBfsBoth)
    (judges-InBfsBoth r.place x (name_of r.graph) (name_of r.root) f s r.reverse g b c.graph_searched-around.ensures c.rooted-start.ensures
    (judges-iterated x 1 (both (both (test f) (numbered (checked s))) (numbered (searched (test g) (numbered (checked b))))) e h l)
    (rw c.in_ok-visited-in-InBfsBoth.ensures.index at c.bfs_both_with.ensures))

pub block-returns-in_err-around : goal.block-returns-in_err-around
block-returns-in_err-around t c = IfOk-from_err _ _ c.from_residual.ensures.0

pub block-returns-in_err-part : goal.block-returns-in_err-part
block-returns-in_err-part t c = IfOk-from_err _ _ c.from_residual-in_err-part.ensures.0

pub block-returns-in_err-held : goal.block-returns-in_err-held
block-returns-in_err-held t c = IfOk-from_err _ _ c.from_residual-in_err-held.ensures.0

pub checked-returns-in_err-asked-in-If : goal.checked-returns-in_err-asked-in-If
checked-returns-in_err-asked-in-If t c = IfOk-from_err _ _ c.from_residual.ensures.0

pub checked-returns-in_err-first-in-If : goal.checked-returns-in_err-first-in-If
checked-returns-in_err-first-in-If t c = IfOk-from_err _ _ c.from_residual-in_err-first-in-If.ensures.0

pub checked-returns-in_err-second-in-If : goal.checked-returns-in_err-second-in-If
checked-returns-in_err-second-in-If t c = IfOk-from_err _ _ c.from_residual-in_err-second-in-If.ensures.0

pub checked-returns-in_err-asked-in-While : goal.checked-returns-in_err-asked-in-While
checked-returns-in_err-asked-in-While t c = IfOk-from_err _ _ c.from_residual-in_err-asked-in-While.ensures.0

pub checked-returns-in_err-inner-in-While : goal.checked-returns-in_err-inner-in-While
checked-returns-in_err-inner-in-While t c = IfOk-from_err _ _ c.from_residual-in_err-inner-in-While.ensures.0

pub checked-returns-in_err-inner-in-Do : goal.checked-returns-in_err-inner-in-Do
checked-returns-in_err-inner-in-Do t c = IfOk-from_err _ _ c.from_residual-in_err-inner-in-Do.ensures.0

pub checked-returns-in_err-asked-in-Do : goal.checked-returns-in_err-asked-in-Do
checked-returns-in_err-asked-in-Do t c = IfOk-from_err _ _ c.from_residual-in_err-asked-in-Do.ensures.0

pub checked-returns-in_err-visited-in-InBfsBoth : goal.checked-returns-in_err-visited-in-InBfsBoth
checked-returns-in_err-visited-in-InBfsBoth t c = IfOk-from_err _ _ c.from_residual-in_err-visited-in-InBfsBoth.ensures.0

pub checked-returns-in_err-front-in-InBfsBoth : goal.checked-returns-in_err-front-in-InBfsBoth
checked-returns-in_err-front-in-InBfsBoth t c = IfOk-from_err _ _ c.from_residual-in_err-front-in-InBfsBoth.ensures.0

pub checked-returns-in_err-behind-in-InBfsBoth : goal.checked-returns-in_err-behind-in-InBfsBoth
checked-returns-in_err-behind-in-InBfsBoth t c = IfOk-from_err _ _ c.from_residual-in_err-behind-in-InBfsBoth.ensures.0

pub judge_back-returns-in_err-around : goal.judge_back-returns-in_err-around
judge_back-returns-in_err-around t c = IfOk-from_err _ _ c.from_residual.ensures.0

pub judge_back-returns-in_err-half : goal.judge_back-returns-in_err-half
judge_back-returns-in_err-half t c = IfOk-from_err _ _ c.from_residual-in_err-half.ensures.0

pub judge_half-returns-in_err-asked : goal.judge_half-returns-in_err-asked
judge_half-returns-in_err-asked t c = IfOk-from_err _ _ c.from_residual.ensures.0

pub judge_half-returns-in_err-inner : goal.judge_half-returns-in_err-inner
judge_half-returns-in_err-inner t c = IfOk-from_err _ _ c.from_residual-in_err-inner.ensures.0

pub judge_loop-returns-in_err-iterator : goal.judge_loop-returns-in_err-iterator
judge_loop-returns-in_err-iterator t c = IfOk-from_err _ _ c.from_residual.ensures.0

pub judge_loop-returns-in_err-half : goal.judge_loop-returns-in_err-half
judge_loop-returns-in_err-half t c = IfOk-from_err _ _ c.from_residual-in_err-half.ensures.0

pub judge_search-returns-in_err-visited : goal.judge_search-returns-in_err-visited
judge_search-returns-in_err-visited t c = IfOk-from_err _ _ c.from_residual.ensures.0

pub judge_search-returns-in_err-half : goal.judge_search-returns-in_err-half
judge_search-returns-in_err-half t c = IfOk-from_err _ _ c.from_residual-in_err-half.ensures.0

pub otherwise-returns-in_err-take_numbers-in-None : goal.otherwise-returns-in_err-take_numbers-in-None
otherwise-returns-in_err-take_numbers-in-None t c = IfOk-from_err _ _ c.from_residual.ensures.0

pub otherwise-returns-in_err-absent-in-None : goal.otherwise-returns-in_err-absent-in-None
otherwise-returns-in_err-absent-in-None t c = IfOk-from_err _ _ c.from_residual-in_err-absent-in-None.ensures.0

pub scoped-returns-in_err-around : goal.scoped-returns-in_err-around
scoped-returns-in_err-around t c = IfOk-from_err _ _ c.from_residual.ensures.0

pub scoped-returns-in_err-part : goal.scoped-returns-in_err-part
scoped-returns-in_err-part t c = IfOk-from_err _ _ c.from_residual-in_err-part.ensures.0

pub scoped-returns-in_err-held : goal.scoped-returns-in_err-held
scoped-returns-in_err-held t c = IfOk-from_err _ _ c.from_residual-in_err-held.ensures.0
