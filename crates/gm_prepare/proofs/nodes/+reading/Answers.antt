use Rattle.std.proofs.Common.{◌≡◌, ◌+◌, ◌<◌, ◌≤◌, refl, ap, sym, ◌∙◌, length, map, rules, arith, ◌∷◌, [], Some, option_map}
use Rattle.std.specs.Prelude.{slice_index_or}
use Rattle.std.proofs.lemmas.List.{length-map}
use Rattle.gm_ast.specs.Program.{Declare, Var, sequence}
use Rattle.gm_ast.specs.Tree.{expr_of, stmt_of}
use Rattle.gm_dissect.proofs.InPlace.{left}
use Rattle.gm_parting.specs.Nodes.{node_before, nodes_in, nodes_read, separate}
use Rattle.gm_prepare.proofs.InPlace.{stmt_of-Reduce, reduce-is, reduced-first}
use Rattle.gm_prepare.proofs.Counted.{partly-more, counted-more, partly-all, counted-all, counted_before}
use Rattle.gm_prepare.proofs.Walks.{reads-sequence, nodes-sequence, ok-always}
use Rattle.gm_prepare.proofs.nodes.+reading.Goals as goal

pub read_block-loop-i-init : goal.read_block-loop-i-init
read_block-loop-i-init t c = (search rules, refl, omega arith)

pub read_block-loop-i-preserved : goal.read_block-loop-i-preserved
read_block-loop-i-preserved t c =
    let at = c.loop-i in
    let g = nodes_read c.args.declarations.now c.args.outer c.args.locals.outer c.args.locals.inner in
    let n = nodes_in c.args.declarations.now in
    let ss = map stmt_of c.args.stmts.now.items in
    let d = c.index_mut.result.now in
    let one = slice_index_or at.stmts.items at.i d in
    let here : at.i < length at.stmts.items = omega (arith, c.len-i-end.ensures) in
    let changed : stmt_of c.read_body.new.body ≡ g (c.args.done + counted_before g n at.i ss) (stmt_of one) =
    c.in_ok-now.ensures.changed ∙ ap (λ s. g at.so_far (stmt_of s)) c.index_mut.ensures.value ∙ ap (λ m. g m (stmt_of one)) at.invariant.2 in
    let count : c.in_ok-now.now ≡ at.so_far + n (stmt_of one) = c.in_ok-now.ensures.done ∙ ap (λ s. at.so_far + n (stmt_of s)) c.index_mut.ensures.value in
    let more = counted-more g n stmt_of ss at.stmts.items at.i c.args.done d at.invariant.1 here in (
      search rules,
      partly-more g n stmt_of ss at.stmts.items at.i c.args.done d c.read_body.new.body at.invariant.1 here changed,
      omega (arith, count, more, at.invariant.2),
    )

pub read_block-returns-clause-done : goal.read_block-returns-clause-done
read_block-returns-clause-done t c =
    let at = c.loop-i in
    let g = nodes_read c.args.declarations.now c.args.outer c.args.locals.outer c.args.locals.inner in
    let n = nodes_in c.args.declarations.now in
    let ss = map stmt_of c.args.stmts.now.items in
    let end : length ss ≤ at.i = omega (arith, c.len-i-end.ensures, length-map c.args.stmts.now.items stmt_of) in
    at.invariant.2 ∙ ap (λ m. c.args.done + m) (counted-all g n ss at.i end ∙ nodes-sequence c.args.declarations.now c.args.outer c.args.locals.outer c.args.locals.inner ss)

pub read_block-returns-clause-changed : goal.read_block-returns-clause-changed
read_block-returns-clause-changed t c =
    let at = c.loop-i in
    let g = nodes_read c.args.declarations.now c.args.outer c.args.locals.outer c.args.locals.inner in
    let n = nodes_in c.args.declarations.now in
    let ss = map stmt_of c.args.stmts.now.items in
    let end : length ss ≤ at.i = omega (arith, c.len-i-end.ensures, length-map c.args.stmts.now.items stmt_of) in
    ap sequence (at.invariant.1 ∙ partly-all g n ss at.i c.args.done end) ∙ reads-sequence c.args.declarations.now c.args.outer c.args.locals.outer c.args.locals.inner c.args.done ss

pub read_inner-returns-clause-done : goal.read_inner-returns-clause-done
read_inner-returns-clause-done t c = c.in_ok-done.ensures.done ∙ ap (λ s. c.args.done + nodes_in c.args.declarations.now (stmt_of s)) c.deref_mut.ensures.value

pub read_inner-returns-clause-changed : goal.read_inner-returns-clause-changed
read_inner-returns-clause-changed t c = c.in_ok-done.ensures.changed ∙ ap (λ s. nodes_read c.args.declarations.now c.args.outer c.args.locals.outer c.args.locals.inner c.args.done (stmt_of s)) c.deref_mut.ensures.value

pub read_body-returns-in_ok-read_first-in-Reduce-clause-changed : goal.read_body-returns-in_ok-read_first-in-Reduce-clause-changed
read_body-returns-in_ok-read_first-in-Reduce-clause-changed t c =
    let at = c.in-Reduce in
    let ds = c.args.declarations.now in
    let k = left at.key-is in
    let ts = (left at.targets-is).items in
    let es = map expr_of (left at._values-is).items in
    let v = c.in_ok-variable-in-Reduce.variable in
    let read = c.in-Some.read in
    let f = nodes_read ds c.args.outer c.args.locals.outer c.args.locals.inner c.args.done in
    ok-always c.sum-in-Reduce.result
    (c.in_ok-read_first-in-Reduce.ensures ∙ ap (λ s. separate c.args.outer k (sequence (Declare k v (Some (Var read.variable read.place)) ∷ s ∷ []))) (stmt_of-Reduce _ _ _ _ _)
    ∙ reduced-first ds c.args.outer c.args.locals.outer c.args.locals.inner c.args.done k (left at._total-is) (left at._reduce-is) ts _ es v (Var read.variable read.place) c.in_ok-variable-in-Reduce.ensures c.reach_through.ensures
    (ap (node_before ds) (sym c.deref.ensures.value) ∙ sym c.node_before.ensures ∙ ap (option_map (λ r. Var r.variable r.place)) c.in-Some.is)
    ∙ sym (ap f (reduce-is at.key-is at._total-is at._reduce-is at.targets-is at._values-is at.is)))
