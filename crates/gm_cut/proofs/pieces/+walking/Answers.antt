use Rattle.std.proofs.Common.{◌≡◌, rules, [], ◌∷◌, ◌++◌, length, refl, sym, ap, ◌∙◌, map, append-nil}
use Rattle.std.specs.Prelude.{◌||◌}
use Rattle.std.specs.Global.{Vec}
use Rattle.std.specs.Vec.Iter.{into_iter_items, into_iter_len}
use Rattle.gm_ast.specs.declared.tree.Stmt as S
use Rattle.gm_ast.specs.declared.tree.Stmt.{the_lemmas}
use Rattle.gm_ast.specs.Program.{Foreach, If, sequence}
use Rattle.gm_ast.specs.Tree.{expr_of, stmt_of}
use Rattle.gm_dissect.proofs.Trees.{stmt_of-Block, nothing_left, ok-then}
use Rattle.gm_cut.specs.Own.{adds_beyond}
use Rattle.gm_cut.specs.Taken.{Taken, run_piece}
use Rattle.gm_cut.specs.Walks.{adds_in, branch_pieces, cut_pieces, loops_of, walked}
use Rattle.gm_cut.proofs.Walks.{adds_more, joined-walk, alone-walk, cut-walk, loops_behind, step_loops, step_run, both_branches, branch_end, block_piece, ok-both}
use Rattle.gm_cut.proofs.pieces.+walking.Goals as goal

pub cut-returns-in_ok-walk-in-If-clause-loops : goal.cut-returns-in_ok-walk-in-If-clause-loops
cut-returns-in_ok-walk-in-If-clause-loops t c =
    let site = c.args.site in
    let a = c.into_inner.result in
    let b = c.into_inner-in-If.result in
    let seen : stmt_of c.args.s ≡ If c.in-If.key (expr_of c.in-If.test) (stmt_of c.in-If.yes.value) (stmt_of c.in-If.no.value) = ap stmt_of c.in-If.is ∙ search (rules, the_lemmas) in
    let whole : stmt_of c.args.s ≡ If c.in-If.key (expr_of c.in-If.test) (stmt_of a) (stmt_of b) =
    seen ∙ ap (λ y. If c.in-If.key (expr_of c.in-If.test) (stmt_of y) (stmt_of c.in-If.no.value)) (sym c.into_inner.ensures)
    ∙ ap (λ z. If c.in-If.key (expr_of c.in-If.test) (stmt_of a) (stmt_of z)) (sym c.into_inner-in-If.ensures) in
    ok-then c.cut_branch-in-If.result c.cut_branch-in-If.ensures.loops (λ r e.
    both_branches site.key site.place site.head (expr_of c.args.mask.now) (expr_of c.in-If.test) (expr_of c.in_ok-other-in-If.other) c.in-If.key (stmt_of a) (stmt_of b) (stmt_of c.args.s)
    (map stmt_of c.args.walk.loops.items) (map stmt_of c.in_ok-walk-in-If.walk.loops.items) (map stmt_of r.loops.items)
    whole c.in_ok-other-in-If.ensures c.in_ok-walk-in-If.ensures.loops e)

pub cut-returns-in_ok-walk-in-If-clause-run : goal.cut-returns-in_ok-walk-in-If-clause-run
cut-returns-in_ok-walk-in-If-clause-run t c = c.cut_branch-in-If.ensures.run

pub cut-returns-in_ok-walk-in-If-clause-adds : goal.cut-returns-in_ok-walk-in-If-clause-adds
cut-returns-in_ok-walk-in-If-clause-adds t c = c.cut_branch-in-If.ensures.adds

pub cut-returns-in-Block-clause-loops : goal.cut-returns-in-Block-clause-loops
cut-returns-in-Block-clause-loops t c =
    let k = c.args.site.key in
    let at = c.args.site.place in
    let h = c.args.site.head in
    let n = c.args.site.head.iterator in
    let mask = expr_of c.args.mask.now in
    let xs = map stmt_of c.args.walk.loops.items in
    let block = stmt_of-Block c.in-Block.stmts in
    let items = map stmt_of c.in-Block.stmts.items in
    let whole : stmt_of c.args.s ≡ sequence items = ap stmt_of c.in-Block.is ∙ block in
    ok-then c.push_loop.result c.push_loop.ensures.loops (λ r e.
    e ∙ ap (λ s. xs ++ (Foreach k at h mask s ∷ [])) block ∙ ap (λ ps. xs ++ loops_of k at h ps) (block_piece n at mask items) ∙ ap (λ s. xs ++ loops_of k at h (cut_pieces n at mask s)) (sym whole))

pub cut_under-returns-clause-loops : goal.cut_under-returns-clause-loops
cut_under-returns-clause-loops t c =
    let site = c.args.site in
    ok-then c.close.result c.close.ensures.loops (λ r e.
    branch_end site.key site.place site.head (expr_of c.args.filter.now) (expr_of c.args.filter.now) (stmt_of c.args.s) (map stmt_of c.args.walk.run.items) (map stmt_of c.in_ok-behind.behind.run.items)
    (map stmt_of c.args.walk.loops.items) (map stmt_of c.in_ok-behind.behind.loops.items) (map stmt_of r.loops.items)
    refl (ap (map stmt_of) c.requires.run) c.in_ok-behind.ensures.loops c.in_ok-behind.ensures.run e)

pub cut_under-returns-clause-run : goal.cut_under-returns-clause-run
cut_under-returns-clause-run t c = c.close.ensures.run

pub cut_under-returns-clause-adds : goal.cut_under-returns-clause-adds
cut_under-returns-clause-adds t c = c.close.ensures.adds

pub cut_branch-returns-in-Ok-clause-loops : goal.cut_branch-returns-in-Ok-clause-loops
cut_branch-returns-in-Ok-clause-loops t c =
    let site = c.args.site in
    let xs = map stmt_of c.args.walk.loops.items in
    ok-then c.cut_under-outcome.result c.cut_under-outcome.ensures.loops (λ r e. e ∙ ap (λ f. xs ++ loops_of site.key site.place site.head (branch_pieces site.head.iterator site.place f (stmt_of c.args.s))) c.in-Ok.ensures)

pub cut_branch-returns-in-Ok-clause-run : goal.cut_branch-returns-in-Ok-clause-run
cut_branch-returns-in-Ok-clause-run t c = c.cut_under-outcome.ensures.run

pub cut_branch-returns-in-Ok-clause-adds : goal.cut_branch-returns-in-Ok-clause-adds
cut_branch-returns-in-Ok-clause-adds t c = c.cut_under-outcome.ensures.adds

pub take-returns-in-Block-clause-loops : goal.take-returns-in-Block-clause-loops
take-returns-in-Block-clause-loops t c =
    let k = c.args.site.key in
    let at = c.args.site.place in
    let h = c.args.site.head in
    let n = c.args.site.head.iterator in
    let mask = expr_of c.args.mask.now in
    let run = map stmt_of c.args.walk.run.items in
    let block : stmt_of c.args.s ≡ sequence (map stmt_of c.in-Block.stmts.items) = ap stmt_of c.in-Block.is ∙ stmt_of-Block c.in-Block.stmts in
    let xs = map stmt_of c.args.walk.loops.items in
    ok-then c.take_all.result c.take_all.ensures.loops (λ r e. e ∙ ap (λ s. xs ++ loops_of k at h (walked n at mask run s).pieces) (sym block))

pub take-returns-in-Block-clause-run : goal.take-returns-in-Block-clause-run
take-returns-in-Block-clause-run t c =
    let k = c.args.site.key in
    let at = c.args.site.place in
    let h = c.args.site.head in
    let n = c.args.site.head.iterator in
    let mask = expr_of c.args.mask.now in
    let run = map stmt_of c.args.walk.run.items in
    let block : stmt_of c.args.s ≡ sequence (map stmt_of c.in-Block.stmts.items) = ap stmt_of c.in-Block.is ∙ stmt_of-Block c.in-Block.stmts in
    ok-then c.take_all.result c.take_all.ensures.run (λ r e. e ∙ ap (λ s. (walked n at mask run s).run) (sym block))

pub take-returns-in-Block-clause-adds : goal.take-returns-in-Block-clause-adds
take-returns-in-Block-clause-adds t c = c.take_all.ensures.adds

pub take-returns-in_default : goal.take-returns-in_default
take-returns-in_default t c = record { loops = c.take_one.ensures.loops; run = c.take_one.ensures.run; adds = c.take_one.ensures.adds }

pub take_all-loop-stmt-init : goal.take_all-loop-stmt-init
take_all-loop-stmt-init t c = (refl, refl, c.requires, search rules)

pub take_all-loop-stmt-preserved : goal.take_all-loop-stmt-preserved
take_all-loop-stmt-preserved t c =
    let k = c.args.site.key in
    let at = c.args.site.place in
    let h = c.args.site.head in
    let n = c.args.site.head.iterator in
    let mask = expr_of c.args.mask.now in
    let before = c.loop-stmt in
    let xs = map stmt_of before.behind.loops.items in
    let run = map stmt_of before.behind.run.items in
    let behind = c.in_ok-behind.behind in
    let rest = sequence (map stmt_of (into_iter_items c.next.new.self)) in
    let left : into_iter_len c.next.new.self ≡ length (into_iter_items c.next.new.self) = search rules in (
      step_loops k at h mask run (map stmt_of behind.run.items) (stmt_of c.in-Some.stmt) rest xs (map stmt_of behind.loops.items) c.in_ok-behind.ensures.loops c.in_ok-behind.ensures.run
          ∙ ap (λ l. xs ++ loops_of k at h (walked n at mask run (sequence (map stmt_of l))).pieces) (sym c.in-Some.ensures.steps.0) ∙ before.invariant.0,
      step_run k at h mask run (map stmt_of behind.run.items) (stmt_of c.in-Some.stmt) rest c.in_ok-behind.ensures.run
          ∙ ap (λ l. (walked n at mask run (sequence (map stmt_of l))).run) (sym c.in-Some.ensures.steps.0) ∙ before.invariant.1,
      c.in_ok-behind.ensures.adds,
      left,
    )

pub take_all-returns-clause-loops : goal.take_all-returns-clause-loops
take_all-returns-clause-loops t c =
    let k = c.args.site.key in
    let at = c.args.site.place in
    let h = c.args.site.head in
    let n = c.args.site.head.iterator in
    let mask = expr_of c.args.mask.now in
    let last = c.loop-stmt in
    let xs = map stmt_of last.behind.loops.items in
    let run = map stmt_of last.behind.run.items in
    let first = map stmt_of c.args.walk.run.items in
    let empty : into_iter_items last.stmt-iterator ≡ [] = nothing_left _ (sym last.invariant.3 ∙ c.in-None.ensures.steps.0) in
    sym (append-nil xs) ∙ ap (λ l. xs ++ loops_of k at h (walked n at mask run (sequence (map stmt_of l))).pieces) (sym empty) ∙ last.invariant.0
    ∙ ap (λ l. map stmt_of c.args.walk.loops.items ++ loops_of k at h (walked n at mask first (sequence (map stmt_of l))).pieces) c.into_iter-stmt-iterator.ensures.into_iter_gives.0

pub take_all-returns-clause-run : goal.take_all-returns-clause-run
take_all-returns-clause-run t c =
    let at = c.args.site.place in
    let n = c.args.site.head.iterator in
    let mask = expr_of c.args.mask.now in
    let last = c.loop-stmt in
    let run = map stmt_of last.behind.run.items in
    let first = map stmt_of c.args.walk.run.items in
    let empty : into_iter_items last.stmt-iterator ≡ [] = nothing_left _ (sym last.invariant.3 ∙ c.in-None.ensures.steps.0) in
    ap (λ l. (walked n at mask run (sequence (map stmt_of l))).run) (sym empty) ∙ last.invariant.1
    ∙ ap (λ l. (walked n at mask first (sequence (map stmt_of l))).run) c.into_iter-stmt-iterator.ensures.into_iter_gives.0

pub take_all-returns-clause-adds : goal.take_all-returns-clause-adds
take_all-returns-clause-adds t c = c.loop-stmt.invariant.2

pub take_one-returns-then-joins-clause-loops : goal.take_one-returns-then-joins-clause-loops
take_one-returns-then-joins-clause-loops t c =
    let k = c.args.site.key in
    let at = c.args.site.place in
    let h = c.args.site.head in
    let n = c.args.site.head.iterator in
    let mask = expr_of c.args.mask.now in
    let run = map stmt_of c.args.walk.run.items in
    let s = stmt_of c.args.s in
    let xs = map stmt_of c.args.walk.loops.items in
    let step = joined-walk n at mask run s c.args.walk.adds c.requires.single c.requires.adds _ (sym c.if-joins.true ∙ c.joins.ensures) refl in
    ok-then c.join.result c.join.ensures.loops (λ r e. ap (λ (l : Vec S.Stmt). map stmt_of l.items) e ∙ sym (append-nil xs) ∙ ap (λ (w : Taken). xs ++ loops_of k at h w.pieces) step)

pub take_one-returns-then-joins-clause-run : goal.take_one-returns-then-joins-clause-run
take_one-returns-then-joins-clause-run t c =
    let at = c.args.site.place in
    let n = c.args.site.head.iterator in
    let mask = expr_of c.args.mask.now in
    let run = map stmt_of c.args.walk.run.items in
    let s = stmt_of c.args.s in
    let step = joined-walk n at mask run s c.args.walk.adds c.requires.single c.requires.adds _ (sym c.if-joins.true ∙ c.joins.ensures) refl in
    ok-then c.join.result c.join.ensures.run (λ r e. e ∙ ap (λ (w : Taken). w.run) step)

pub take_one-returns-then-joins-clause-adds : goal.take_one-returns-then-joins-clause-adds
take_one-returns-then-joins-clause-adds t c =
    let n = c.args.site.head.iterator in
    let run = map stmt_of c.args.walk.run.items in
    let s = stmt_of c.args.s in
    ok-both c.join.result c.join.ensures.adds c.join.ensures.run (λ r a e. a ∙ ap (λ b. b || adds_beyond n s) c.requires.adds ∙ sym (adds_more n run s) ∙ ap (adds_in n) (sym e))

pub take_one-returns-then-is_own-clause-loops : goal.take_one-returns-then-is_own-clause-loops
take_one-returns-then-is_own-clause-loops t c =
    let k = c.args.site.key in
    let at = c.args.site.place in
    let h = c.args.site.head in
    let n = c.args.site.head.iterator in
    let mask = expr_of c.args.mask.now in
    let run = map stmt_of c.args.walk.run.items in
    let s = stmt_of c.args.s in
    let xs = map stmt_of c.args.walk.loops.items in
    let step = alone-walk n at mask run s c.args.walk.adds c.requires.single c.requires.adds (sym c.if-joins.false ∙ c.joins.ensures) (sym c.if-is_own.true ∙ c.is_own.ensures) in
    ok-then c.join-then-is_own.result c.join-then-is_own.ensures.loops (λ r e. ap (λ (l : Vec S.Stmt). map stmt_of l.items) e ∙ c.in-Ok.ensures.loops ∙ ap (λ (w : Taken). xs ++ loops_of k at h w.pieces) step)

pub take_one-returns-then-is_own-clause-run : goal.take_one-returns-then-is_own-clause-run
take_one-returns-then-is_own-clause-run t c =
    let at = c.args.site.place in
    let n = c.args.site.head.iterator in
    let mask = expr_of c.args.mask.now in
    let run = map stmt_of c.args.walk.run.items in
    let s = stmt_of c.args.s in
    let step = alone-walk n at mask run s c.args.walk.adds c.requires.single c.requires.adds (sym c.if-joins.false ∙ c.joins.ensures) (sym c.if-is_own.true ∙ c.is_own.ensures) in
    ok-then c.join-then-is_own.result c.join-then-is_own.ensures.run (λ r e. e ∙ ap (λ l. map stmt_of l ++ (s ∷ [])) c.in-Ok.ensures.run ∙ ap (λ (w : Taken). w.run) step)

pub take_one-returns-then-is_own-clause-adds : goal.take_one-returns-then-is_own-clause-adds
take_one-returns-then-is_own-clause-adds t c =
    let n = c.args.site.head.iterator in
    let s = stmt_of c.args.s in
    ok-both c.join-then-is_own.result c.join-then-is_own.ensures.adds c.join-then-is_own.ensures.run (λ r a e.
    a ∙ ap (λ b. b || adds_beyond n s) c.in-Ok.ensures.adds ∙ sym (adds_more n [] s) ∙ ap (adds_in n) (sym (e ∙ ap (λ l. map stmt_of l ++ (s ∷ [])) c.in-Ok.ensures.run)))

pub take_one-returns-else-is_own-clause-loops : goal.take_one-returns-else-is_own-clause-loops
take_one-returns-else-is_own-clause-loops t c =
    let k = c.args.site.key in
    let at = c.args.site.place in
    let h = c.args.site.head in
    let n = c.args.site.head.iterator in
    let mask = expr_of c.args.mask.now in
    let run = map stmt_of c.args.walk.run.items in
    let s = stmt_of c.args.s in
    let xs = map stmt_of c.args.walk.loops.items in
    let step = cut-walk n at mask run s c.args.walk.adds c.requires.single c.requires.adds (sym c.if-joins.false ∙ c.joins.ensures) (sym c.if-is_own.false ∙ c.is_own.ensures) in
    let more = cut_pieces n at mask s in
    ok-then c.cut.result c.cut.ensures.loops (λ r e. e ∙ ap (λ l. l ++ loops_of k at h more) c.in-Ok.ensures.loops ∙ loops_behind k at h xs (run_piece mask run) more ∙ ap (λ (w : Taken). xs ++ loops_of k at h w.pieces) step)

pub take_one-returns-else-is_own-clause-run : goal.take_one-returns-else-is_own-clause-run
take_one-returns-else-is_own-clause-run t c =
    let at = c.args.site.place in
    let n = c.args.site.head.iterator in
    let mask = expr_of c.args.mask.now in
    let run = map stmt_of c.args.walk.run.items in
    let s = stmt_of c.args.s in
    let step = cut-walk n at mask run s c.args.walk.adds c.requires.single c.requires.adds (sym c.if-joins.false ∙ c.joins.ensures) (sym c.if-is_own.false ∙ c.is_own.ensures) in
    ok-then c.cut.result c.cut.ensures.run (λ r e. ap (map stmt_of) e ∙ ap (λ (w : Taken). w.run) step)

pub take_one-returns-else-is_own-clause-adds : goal.take_one-returns-else-is_own-clause-adds
take_one-returns-else-is_own-clause-adds t c =
    let n = c.args.site.head.iterator in
    ok-both c.cut.result c.cut.ensures.adds c.cut.ensures.run (λ r a e. a ∙ ap (λ l. adds_in n (map stmt_of l)) (sym e))
