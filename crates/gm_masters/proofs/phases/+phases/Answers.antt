use Rattle.std.proofs.Common.{◌≡◌, IfOk, ap, subst, sym, ◌∙◌, get_or, map, length, length-append, rules, arith}
use Rattle.std.specs.Prelude.{◌+◌}
use Rattle.gm_ast.specs.declared.tree.Stmt.{the_lemmas}
use Rattle.gm_ast.specs.Program.{Combine, For, If, While, Do, sequence}
use Rattle.gm_ast.specs.Tree.{expr_of, stmt_of}
use Rattle.gm_image.specs.Views.{term}
use Rattle.gm_lowering.specs.Lowered.{Part, part}
use Rattle.gm_lowering.specs.Plans.{kinds_in}
use Rattle.gm_masters.specs.Parts.{as_at, as_frame, as_part, combined_part}
use Rattle.gm_masters.proofs.Around.{if_is, while_is, do_is, for_is}
use Rattle.gm_masters.proofs.Behind.{start_is, left_is, left_counted, end_is, end_counted}
use Rattle.gm_masters.proofs.phases.+phases.Goals as goal

pub block_part-loop-stmt-init : goal.block_part-loop-stmt-init
block_part-loop-stmt-init t c =
    let counted = c.new-part.ensures.kinds in (
      start_is (as_frame c.args.frame.now) (as_at c.args.at) (sequence (map stmt_of c.args.stmts.now.items)) (as_part c.new-part.result) c.new-part.result.kinds c.new-part.ensures.part c.new-part.ensures.kinds,
      omega arith,
    )

pub block_part-loop-stmt-preserved : goal.block_part-loop-stmt-preserved
block_part-loop-stmt-preserved t c =
    let w = as_frame c.args.frame.now in
    let stmts = c.args.stmts.now.items in
    let i = c.loop-stmt.stmt-index in
    let item : c.stmt-item.result ≡ get_or stmts i c.stmt-item.result = c.stmt-item.is ∙ ap (λ l. get_or l i c.stmt-item.result) c.deref-stmt-items.ensures.value in (
      left_is w (as_at c.args.at) (as_at c.in_ok-here.here) stmts i c.stmt-item.result (as_part c.loop-stmt.part) (as_part c.in_ok-more.more) (as_part c.append.new.self) _
          c.loop-stmt.part.kinds c.in_ok-more.more.kinds c.append.new.self.kinds
          (omega arith) item c.in_ok-here.ensures c.in_ok-more.ensures.part c.in_ok-more.ensures.kinds c.in_ok-append.ensures.part c.in_ok-append.ensures.kinds c.loop-stmt.invariant.0,
      left_counted w.layout.declarations stmts i c.stmt-item.result c.loop-stmt.part.kinds c.in_ok-more.more.kinds c.append.new.self.kinds _
          (omega arith) item c.in_ok-more.ensures.kinds c.in_ok-append.ensures.kinds c.loop-stmt.invariant.1,
    )

pub block_part-returns-clause-part : goal.block_part-returns-clause-part
block_part-returns-clause-part t c =
    end_is (as_frame c.args.frame.now) (as_at c.args.at) c.args.stmts.now.items c.loop-stmt.stmt-index (as_part c.loop-stmt.part) _ c.loop-stmt.part.kinds (omega arith) c.loop-stmt.invariant.0

pub block_part-returns-clause-kinds : goal.block_part-returns-clause-kinds
block_part-returns-clause-kinds t c =
    end_counted (as_frame c.args.frame.now).layout.declarations c.args.stmts.now.items c.loop-stmt.stmt-index c.loop-stmt.part.kinds _ (omega arith) c.loop-stmt.invariant.1

pub lower_phase-returns-in_ok-part-in-For-clause-part : goal.lower_phase-returns-in_ok-part-in-For-clause-part
lower_phase-returns-in_ok-part-in-For-clause-part t c =
    let w = as_frame c.args.frame.now in
    let at = as_at c.args.at in
    let body = c.deref-in-For.result.now in
    let found : stmt_of c.args.s.now ≡ For c.in-For.key c.in-For.place c.in-For.head (expr_of c.in-For.filter) (stmt_of c.in-For.body.value) = ap stmt_of c.in-For.is ∙ search (rules, the_lemmas) in
    let whole : stmt_of c.args.s.now ≡ For c.in-For.key c.in-For.place c.in-For.head (expr_of c.in-For.filter) (stmt_of body) =
    found ∙ ap (λ y. For c.in-For.key c.in-For.place c.in-For.head (expr_of c.in-For.filter) (stmt_of y)) (sym c.deref-in-For.ensures) in
    for_is w c.in-For.key c.in-For.place c.in-For.head (expr_of c.in-For.filter) (stmt_of body) at (as_at c.in_ok-start-in-For.start) c.in_ok-told-in-For.told.places (term c.in_ok-told-in-For.told.value) (as_part c.in_ok-turn-in-For.turn) (as_part c.in_ok-part-in-For.part)
    c.in_ok-told-in-For.ensures.places c.in_ok-told-in-For.ensures.value c.in_ok-start-in-For.ensures c.in_ok-turn-in-For.ensures.part c.in_ok-part-in-For.ensures.part
    ∙ sym (ap (λ s. part w s at) whole)

pub lower_phase-returns-in_ok-part-in-For-clause-kinds : goal.lower_phase-returns-in_ok-part-in-For-clause-kinds
lower_phase-returns-in_ok-part-in-For-clause-kinds t c =
    let w = as_frame c.args.frame.now in
    let at = as_at c.args.at in
    let body = c.deref-in-For.result.now in
    let found : stmt_of c.args.s.now ≡ For c.in-For.key c.in-For.place c.in-For.head (expr_of c.in-For.filter) (stmt_of c.in-For.body.value) = ap stmt_of c.in-For.is ∙ search (rules, the_lemmas) in
    let whole : stmt_of c.args.s.now ≡ For c.in-For.key c.in-For.place c.in-For.head (expr_of c.in-For.filter) (stmt_of body) =
    found ∙ ap (λ y. For c.in-For.key c.in-For.place c.in-For.head (expr_of c.in-For.filter) (stmt_of y)) (sym c.deref-in-For.ensures) in
    c.in_ok-part-in-For.ensures.kinds ∙ c.in_ok-turn-in-For.ensures.kinds ∙ sym (ap (λ s. length (kinds_in w.layout.declarations s)) whole)

pub lower_phase-returns-in_ok-part-in-While-clause-part : goal.lower_phase-returns-in_ok-part-in-While-clause-part
lower_phase-returns-in_ok-part-in-While-clause-part t c =
    let w = as_frame c.args.frame.now in
    let at = as_at c.args.at in
    let body = c.deref-in-While.result.now in
    let found : stmt_of c.args.s.now ≡ While c.in-While.key c.in-While.place (expr_of c.in-While.test) (stmt_of c.in-While.body.value) = ap stmt_of c.in-While.is ∙ search (rules, the_lemmas) in
    let whole : stmt_of c.args.s.now ≡ While c.in-While.key c.in-While.place (expr_of c.in-While.test) (stmt_of body) =
    found ∙ ap (λ y. While c.in-While.key c.in-While.place (expr_of c.in-While.test) (stmt_of y)) (sym c.deref-in-While.ensures) in
    while_is w c.in-While.key c.in-While.place (expr_of c.in-While.test) (stmt_of body) at (as_at c.in_ok-start-in-While.start) c.in_ok-told-in-While.told.places (term c.in_ok-told-in-While.told.value) (as_part c.in_ok-turn-in-While.turn) (as_part c.in_ok-part-in-While.part)
    c.in_ok-told-in-While.ensures.places c.in_ok-told-in-While.ensures.value c.in_ok-start-in-While.ensures c.in_ok-turn-in-While.ensures.part c.in_ok-part-in-While.ensures.part
    ∙ sym (ap (λ s. part w s at) whole)

pub lower_phase-returns-in_ok-part-in-While-clause-kinds : goal.lower_phase-returns-in_ok-part-in-While-clause-kinds
lower_phase-returns-in_ok-part-in-While-clause-kinds t c =
    let w = as_frame c.args.frame.now in
    let at = as_at c.args.at in
    let body = c.deref-in-While.result.now in
    let found : stmt_of c.args.s.now ≡ While c.in-While.key c.in-While.place (expr_of c.in-While.test) (stmt_of c.in-While.body.value) = ap stmt_of c.in-While.is ∙ search (rules, the_lemmas) in
    let whole : stmt_of c.args.s.now ≡ While c.in-While.key c.in-While.place (expr_of c.in-While.test) (stmt_of body) =
    found ∙ ap (λ y. While c.in-While.key c.in-While.place (expr_of c.in-While.test) (stmt_of y)) (sym c.deref-in-While.ensures) in
    c.in_ok-part-in-While.ensures.kinds ∙ c.in_ok-turn-in-While.ensures.kinds ∙ sym (ap (λ s. length (kinds_in w.layout.declarations s)) whole)

pub lower_phase-returns-in_ok-part-in-Do-clause-part : goal.lower_phase-returns-in_ok-part-in-Do-clause-part
lower_phase-returns-in_ok-part-in-Do-clause-part t c =
    let w = as_frame c.args.frame.now in
    let at = as_at c.args.at in
    let body = c.deref-in-Do.result.now in
    let found : stmt_of c.args.s.now ≡ Do c.in-Do.key c.in-Do.place (stmt_of c.in-Do.body.value) (expr_of c.in-Do.test) = ap stmt_of c.in-Do.is ∙ search (rules, the_lemmas) in
    let whole : stmt_of c.args.s.now ≡ Do c.in-Do.key c.in-Do.place (stmt_of body) (expr_of c.in-Do.test) =
    found ∙ ap (λ y. Do c.in-Do.key c.in-Do.place (stmt_of y) (expr_of c.in-Do.test)) (sym c.deref-in-Do.ensures) in
    do_is w c.in-Do.key c.in-Do.place (expr_of c.in-Do.test) (stmt_of body) at (as_at c.in_ok-start-in-Do.start) c.in_ok-told-in-Do.told.places (term c.in_ok-told-in-Do.told.value) (as_part c.in_ok-turn-in-Do.turn) (as_part c.in_ok-part-in-Do.part)
    c.in_ok-told-in-Do.ensures.places c.in_ok-told-in-Do.ensures.value c.in_ok-start-in-Do.ensures c.in_ok-turn-in-Do.ensures.part c.in_ok-part-in-Do.ensures.part
    ∙ sym (ap (λ s. part w s at) whole)

pub lower_phase-returns-in_ok-part-in-Do-clause-kinds : goal.lower_phase-returns-in_ok-part-in-Do-clause-kinds
lower_phase-returns-in_ok-part-in-Do-clause-kinds t c =
    let w = as_frame c.args.frame.now in
    let at = as_at c.args.at in
    let body = c.deref-in-Do.result.now in
    let found : stmt_of c.args.s.now ≡ Do c.in-Do.key c.in-Do.place (stmt_of c.in-Do.body.value) (expr_of c.in-Do.test) = ap stmt_of c.in-Do.is ∙ search (rules, the_lemmas) in
    let whole : stmt_of c.args.s.now ≡ Do c.in-Do.key c.in-Do.place (stmt_of body) (expr_of c.in-Do.test) =
    found ∙ ap (λ y. Do c.in-Do.key c.in-Do.place (stmt_of y) (expr_of c.in-Do.test)) (sym c.deref-in-Do.ensures) in
    c.in_ok-part-in-Do.ensures.kinds ∙ c.in_ok-turn-in-Do.ensures.kinds ∙ sym (ap (λ s. length (kinds_in w.layout.declarations s)) whole)

pub lower_phase-returns-in_ok-part-in-If-clause-part : goal.lower_phase-returns-in_ok-part-in-If-clause-part
lower_phase-returns-in_ok-part-in-If-clause-part t c =
    let w = as_frame c.args.frame.now in
    let at = as_at c.args.at in
    let a = c.deref-in-If.result.now in
    let b = c.deref-in-If-2.result.now in
    let found : stmt_of c.args.s.now ≡ If c.in-If.key (expr_of c.in-If.test) (stmt_of c.in-If.yes.value) (stmt_of c.in-If.no.value) = ap stmt_of c.in-If.is ∙ search (rules, the_lemmas) in
    let whole : stmt_of c.args.s.now ≡ If c.in-If.key (expr_of c.in-If.test) (stmt_of a) (stmt_of b) =
    found ∙ ap (λ y. If c.in-If.key (expr_of c.in-If.test) (stmt_of y) (stmt_of c.in-If.no.value)) (sym c.deref-in-If.ensures)
    ∙ ap (λ y. If c.in-If.key (expr_of c.in-If.test) (stmt_of a) (stmt_of y)) (sym c.deref-in-If-2.ensures) in
    if_is w c.in-If.key (expr_of c.in-If.test) (stmt_of a) (stmt_of b) at (as_at c.in_ok-start-in-If.start) (as_at c.in_ok-behind-in-If.behind) c.in_ok-told-in-If.told.places (term c.in_ok-told-in-If.told.value)
    (as_part c.in_ok-first-in-If.first) (as_part c.in_ok-second-in-If.second) (as_part c.in_ok-part-in-If.part) c.in_ok-first-in-If.first.kinds
    c.in_ok-told-in-If.ensures.places c.in_ok-told-in-If.ensures.value c.in_ok-start-in-If.ensures c.in_ok-first-in-If.ensures.part c.in_ok-first-in-If.ensures.kinds c.in_ok-behind-in-If.ensures
    (c.in_ok-second-in-If.ensures.part ∙ ap (λ j. part w (stmt_of b) j) c.in_ok-other-in-If.ensures) c.in_ok-part-in-If.ensures.part
    ∙ sym (ap (λ s. part w s at) whole)

pub lower_phase-returns-in_ok-part-in-If-clause-kinds : goal.lower_phase-returns-in_ok-part-in-If-clause-kinds
lower_phase-returns-in_ok-part-in-If-clause-kinds t c =
    let w = as_frame c.args.frame.now in
    let at = as_at c.args.at in
    let a = c.deref-in-If.result.now in
    let b = c.deref-in-If-2.result.now in
    let found : stmt_of c.args.s.now ≡ If c.in-If.key (expr_of c.in-If.test) (stmt_of c.in-If.yes.value) (stmt_of c.in-If.no.value) = ap stmt_of c.in-If.is ∙ search (rules, the_lemmas) in
    let whole : stmt_of c.args.s.now ≡ If c.in-If.key (expr_of c.in-If.test) (stmt_of a) (stmt_of b) =
    found ∙ ap (λ y. If c.in-If.key (expr_of c.in-If.test) (stmt_of y) (stmt_of c.in-If.no.value)) (sym c.deref-in-If.ensures)
    ∙ ap (λ y. If c.in-If.key (expr_of c.in-If.test) (stmt_of a) (stmt_of y)) (sym c.deref-in-If-2.ensures) in
    let ds = w.layout.declarations in
    c.in_ok-part-in-If.ensures.kinds
    ∙ ap (λ n. n + c.in_ok-second-in-If.second.kinds) c.in_ok-first-in-If.ensures.kinds
    ∙ ap (λ n. length (kinds_in ds (stmt_of a)) + n) c.in_ok-second-in-If.ensures.kinds
    ∙ sym (length-append (kinds_in ds (stmt_of a)) (kinds_in ds (stmt_of b)))
    ∙ sym (ap (λ s. length (kinds_in ds s)) whole)

pub lower_phase-returns-in-Reduce-clause-part : goal.lower_phase-returns-in-Reduce-clause-part
lower_phase-returns-in-Reduce-clause-part t c =
    let w = as_frame c.args.frame.now in
    let at = as_at c.args.at in
    let key = c.in-Reduce.key in
    let reduce = c.in-Reduce.reduce in
    let found : stmt_of c.args.s.now ≡ Combine key c.in-Reduce.total reduce c.in-Reduce.targets.items (map expr_of c.in-Reduce.values.items) = ap stmt_of c.in-Reduce.is ∙ search (rules, the_lemmas) in
    let whole : combined_part w at key reduce c.deref.result.now (map expr_of c.deref-in-Reduce.result.now) ≡ part w (stmt_of c.args.s.now) at =
    ap (λ ts. combined_part w at key reduce ts (map expr_of c.deref-in-Reduce.result.now)) c.deref.ensures.value
    ∙ ap (λ es. combined_part w at key reduce c.in-Reduce.targets.items (map expr_of es)) c.deref-in-Reduce.ensures.value
    ∙ sym (ap (λ s. part w s at) found) in
    subst (λ (q : Part). IfOk c.combine.result (λ r. as_part r ≡ q)) whole c.combine.ensures.part
