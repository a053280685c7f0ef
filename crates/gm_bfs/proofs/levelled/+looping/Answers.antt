use Rattle.std.proofs.Common.{◌<◌, length, arith, refl, rules, ap, sym, ◌∙◌, map}
use Rattle.std.specs.Prelude.{box_value}
use Rattle.gm_ast.specs.declared.tree.Stmt.{the_lemmas}
use Rattle.gm_ast.specs.Program.{sequence}
use Rattle.gm_ast.specs.Tree.{stmt_of}
use Rattle.gm_bfs.specs.Levelled.{searches_out}
use Rattle.gm_bfs.proofs.InPlaceTrees.{on-ok, inside-stmt, changed-If, changed-For, changed-While, changed-Do}
use Rattle.gm_bfs.proofs.InPlace.{done-none, done-next, done-all, left-none, left-next, written-back}
use Rattle.gm_bfs.proofs.Sequences.{searches_out-sequence, map-twice}
use Rattle.gm_bfs.proofs.levelled.+looping.Goals as goal

pub searches_among-loop-stmt-init : goal.searches_among-loop-stmt-init
searches_among-loop-stmt-init t c = (done-none stmt_of (searches_out c.args.fresh c.args.count) c.deref_mut-stmt-items.result.now, left-none c.deref_mut-stmt-items.result.now)

pub searches_among-loop-stmt-preserved : goal.searches_among-loop-stmt-preserved
searches_among-loop-stmt-preserved t c =
    let at = c.loop-stmt in
    let inside : at.stmt-index < length at.stmt-items = omega arith in (
      done-next stmt_of (searches_out c.args.fresh c.args.count) c.deref_mut-stmt-items.result.now at.stmt-index at.stmt-items c.searches_out.new.s c.stmt-item.result inside c.in_ok-searches_out.ensures at.invariant.0,
      left-next c.deref_mut-stmt-items.result.now at.stmt-index at.stmt-items c.searches_out.new.s at.invariant.1,
    )

pub searches_among-returns : goal.searches_among-returns
searches_among-returns t c =
    let at = c.loop-stmt in
    let out = searches_out c.args.fresh c.args.count in
    ap (λ xs. sequence (map stmt_of xs)) (written-back c.args.stmts.now.len at.stmt-items _ (omega arith))
    ∙ ap sequence (done-all stmt_of out c.deref_mut-stmt-items.result.now at.stmt-index at.stmt-items (omega arith) at.invariant.0)
    ∙ ap (λ xs. sequence (map out (map stmt_of xs))) c.deref_mut-stmt-items.ensures.value
    ∙ sym (searches_out-sequence c.args.fresh c.args.count stmt_of c.args.stmts.now.items ∙ ap sequence (map-twice out stmt_of c.args.stmts.now.items))

pub searches_out-returns-in_ok-searches_out-in-If : goal.searches_out-returns-in_ok-searches_out-in-If
searches_out-returns-in_ok-searches_out-in-If t c =
    let at = c.in-If in
    let out = searches_out c.args.fresh c.args.count in
    let yes = c.deref_mut-in-If.ensures.value ∙ ap box_value at.yes-is in
    let no = c.deref_mut-in-If-2.ensures.value ∙ ap box_value at.no-is in
    on-ok c.searches_out-in-If-2.result c.searches_out-in-If-2.ensures (λ r. changed-If out (λ k e a b. refl) c.args.s.now _ at.key at.test at.yes at.no c.searches_out-in-If.new.s c.searches_out-in-If-2.new.s
    at.is (rw at.is (search (rules, the_lemmas))) (inside-stmt out at.yes _ _ yes c.in_ok-searches_out-in-If.ensures) (inside-stmt out at.no _ _ no r))

pub searches_out-returns-in-For : goal.searches_out-returns-in-For
searches_out-returns-in-For t c =
    let at = c.in-For in
    let out = searches_out c.args.fresh c.args.count in
    let inside = c.deref_mut.ensures.value ∙ ap box_value at.body-is in
    on-ok c.searches_out.result c.searches_out.ensures (λ r. changed-For out (λ k at h c a. refl) c.args.s.now _ at.key at.place at.head at.filter at.body c.searches_out.new.s
    at.is (rw at.is (search (rules, the_lemmas))) (inside-stmt out at.body _ _ inside r))

pub searches_out-returns-in-While : goal.searches_out-returns-in-While
searches_out-returns-in-While t c =
    let at = c.in-While in
    let out = searches_out c.args.fresh c.args.count in
    let inside = c.deref_mut-in-While.ensures.value ∙ ap box_value at.body-is in
    on-ok c.searches_out-in-While.result c.searches_out-in-While.ensures (λ r. changed-While out (λ k at c a. refl) c.args.s.now _ at.key at.place at.test at.body c.searches_out-in-While.new.s
    at.is (rw at.is (search (rules, the_lemmas))) (inside-stmt out at.body _ _ inside r))

pub searches_out-returns-in-Do : goal.searches_out-returns-in-Do
searches_out-returns-in-Do t c =
    let at = c.in-Do in
    let out = searches_out c.args.fresh c.args.count in
    let inside = c.deref_mut-in-Do.ensures.value ∙ ap box_value at.body-is in
    on-ok c.searches_out-in-Do.result c.searches_out-in-Do.ensures (λ r. changed-Do out (λ k at a c. refl) c.args.s.now _ at.key at.place at.body at.test c.searches_out-in-Do.new.s
    at.is (rw at.is (search (rules, the_lemmas))) (inside-stmt out at.body _ _ inside r))
