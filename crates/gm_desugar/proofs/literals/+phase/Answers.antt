use Rattle.std.proofs.Common.{◌≡◌, ◌<◌, ◌≤◌, refl, ap, sym, ◌∙◌, length, map, rules, arith}
use Rattle.std.specs.Prelude.{slice_index_or}
use Rattle.std.proofs.lemmas.List.{length-map}
use Rattle.gm_ast.specs.Program.{sequence}
use Rattle.gm_ast.specs.Tree.{stmt_of}
use Rattle.gm_desugar.specs.Literals.{each_expr, with_literals}
use Rattle.gm_desugar.proofs.InPlace.{each_expr-sequence}
use Rattle.gm_desugar.proofs.Partly.{partly-more, partly-all}
use Rattle.gm_desugar.proofs.literals.+phase.Goals as goal

pub settle_phases-loop-i-init : goal.settle_phases-loop-i-init
settle_phases-loop-i-init t c = (search rules, refl)

pub settle_phases-loop-i-preserved : goal.settle_phases-loop-i-preserved
settle_phases-loop-i-preserved t c =
    let at = c.loop-i in
    let here : at.i < length at.stmts.items = omega (arith, c.len-i-end.ensures) in
    let changed : stmt_of c.settle_phase.new.s ≡ each_expr with_literals (stmt_of (slice_index_or at.stmts.items at.i c.index_mut.result.now)) = c.settle_phase.ensures ∙ ap (λ s. each_expr with_literals (stmt_of s)) c.index_mut.ensures.value in
    (search rules, partly-more stmt_of (each_expr with_literals) c.args.stmts.now.items at.stmts.items at.i c.index_mut.result.now c.settle_phase.new.s at.invariant.1 here changed)

pub settle_phases-returns : goal.settle_phases-returns
settle_phases-returns t c =
    let at = c.loop-i in
    let stmts = map stmt_of c.args.stmts.now.items in
    let end : length stmts ≤ at.i = omega (arith, c.len-i-end.ensures, length-map c.args.stmts.now.items stmt_of) in
    ap sequence (at.invariant.1 ∙ partly-all (each_expr with_literals) stmts at.i end) ∙ sym (each_expr-sequence with_literals stmts)

pub settle_part-returns : goal.settle_part-returns
settle_part-returns t c = c.settle_phase.ensures ∙ ap (λ s. each_expr with_literals (stmt_of s)) c.deref_mut.ensures.value
