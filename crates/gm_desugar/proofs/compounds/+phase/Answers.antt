use Rattle.std.proofs.Common.{◌≡◌, ◌<◌, ◌≤◌, refl, ap, sym, ◌∙◌, length, map, rules, arith}
use Rattle.std.specs.Prelude.{slice_index_or}
use Rattle.std.proofs.lemmas.List.{length-map}
use Rattle.gm_ast.specs.Program.{sequence}
use Rattle.gm_ast.specs.Tree.{stmt_of}
use Rattle.gm_desugar.specs.Compounds.{expanded}
use Rattle.gm_desugar.proofs.InPlace.{expanded-sequence}
use Rattle.gm_desugar.proofs.Partly.{partly-more, partly-all}
use Rattle.gm_desugar.proofs.compounds.+phase.Goals as goal

pub expand_phases-loop-i-init : goal.expand_phases-loop-i-init
expand_phases-loop-i-init t c = (search rules, refl)

pub expand_phases-loop-i-preserved : goal.expand_phases-loop-i-preserved
expand_phases-loop-i-preserved t c =
    let at = c.loop-i in
    let here : at.i < length at.stmts.items = omega (arith, c.len-i-end.ensures) in
    let changed : stmt_of c.expand.new.s ≡ expanded c.args.declarations.now (stmt_of (slice_index_or at.stmts.items at.i c.index_mut.result.now)) = c.in_ok-expand.ensures ∙ ap (λ s. expanded c.args.declarations.now (stmt_of s)) c.index_mut.ensures.value in
    (search rules, partly-more stmt_of (expanded c.args.declarations.now) c.args.stmts.now.items at.stmts.items at.i c.index_mut.result.now c.expand.new.s at.invariant.1 here changed)

pub expand_phases-returns : goal.expand_phases-returns
expand_phases-returns t c =
    let at = c.loop-i in
    let stmts = map stmt_of c.args.stmts.now.items in
    let end : length stmts ≤ at.i = omega (arith, c.len-i-end.ensures, length-map c.args.stmts.now.items stmt_of) in
    ap sequence (at.invariant.1 ∙ partly-all (expanded c.args.declarations.now) stmts at.i end) ∙ sym (expanded-sequence c.args.declarations.now stmts)

pub expand_part-returns : goal.expand_part-returns
expand_part-returns t c = c.in_ok-expand.ensures ∙ ap (λ s. expanded c.args.declarations.now (stmt_of s)) c.deref_mut.ensures.value
