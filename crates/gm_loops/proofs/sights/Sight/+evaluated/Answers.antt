use Rattle.std.proofs.Common.{◌≡◌, ◌∙◌, ◌≤◌, ◌+◌, ◌-◌, ℕ, List, ◌∷◌, length, Result, ap, sym, subst, arith, rules}
use Rattle.gm_value.specs.declared.values.Value.{Value}
use Rattle.gm_model.specs.Graphs.{Step}
use Rattle.gm_ast.specs.Program.{Expr}
use Rattle.gm_ast.specs.Tree.{expr_of}
use Rattle.gm_ast.specs.declared.tree.Expr.{the_lemmas as expr_lemmas}
use Rattle.gm_graph.specs.Serving.{Serve}
use Rattle.gm_loops.specs.Asking.{reads_outward}
use Rattle.gm_semantics.specs.declared.faults.Fault.{Fault}
use Rattle.gm_semantics.specs.Faults.{oks, joined}
use Rattle.gm_semantics.specs.Expressions.{View, Answer, evaluated, early, element, entered, reduce_of, reduction, settled}
use Rattle.gm_loops.specs.Parts.{parts}
use Rattle.gm_loops.specs.Ranges.{step_of, steps_at}
use Rattle.gm_loops.specs.Runnings.{Runs, elements_at, listed}
use Rattle.gm_loops.specs.Sights.{view_of}
use Rattle.gm_loops.specs.declared.scopes.Scope.{the_lemmas as scope_lemmas}
use Rattle.gm_loops.proofs.Elements.{one-more, unpassed}
use Rattle.gm_loops.proofs.Serving.{binary_right, choose_no, choose_yes, fold_body}
use Rattle.gm_loops.proofs.Trees.{expr_of-Binary, expr_of-Fold}
use Rattle.gm_loops.proofs.sights.Sight.+evaluated.Goals as goal
use Rattle.gm_loops.proofs.sights.Sight.+evaluated.Goals.{then-passes, else-passes}

pub evaluated-requires-in-Binary-2 : goal.evaluated-requires-in-Binary-2
evaluated-requires-in-Binary-2 t c =
    let asked : Serve c.args.self.now.setting.now.in_rows.now (reads_outward (expr_of c.deref-in-Binary-2.result.now)) =
    binary_right _ _ _ _ _ _ _ c.in-Binary.is c.deref-in-Binary-2.ensures c.requires.asked in
    (search (rules, expr_lemmas), (c.requires.fits, asked))

pub evaluated-requires-in-Choose-2 : goal.evaluated-requires-in-Choose-2
evaluated-requires-in-Choose-2 t c =
    let asked : Serve c.args.self.now.setting.now.in_rows.now (reads_outward (expr_of c.deref-in-Choose-2.result.now)) =
    choose_yes _ _ _ _ _ _ c.in-Choose.is c.deref-in-Choose-2.ensures c.requires.asked in
    (search (rules, expr_lemmas), (c.requires.fits, asked))

pub evaluated-requires-in-Choose-3 : goal.evaluated-requires-in-Choose-3
evaluated-requires-in-Choose-3 t c =
    let asked : Serve c.args.self.now.setting.now.in_rows.now (reads_outward (expr_of c.deref-in-Choose-3.result.now)) =
    choose_no _ _ _ _ _ _ c.in-Choose.is c.deref-in-Choose-3.ensures c.requires.asked in
    (search (rules, expr_lemmas), (c.requires.fits, asked))

pub evaluated-requires-then-passes : goal.evaluated-requires-then-passes
evaluated-requires-then-passes t c =
    let asked : Serve c.args.self.now.setting.now.in_rows.now (reads_outward (expr_of c.deref-then-passes.result.now)) =
    fold_body _ _ _ _ _ _ _ c.in-Fold.is c.deref-then-passes.ensures c.requires.asked in
    (search (rules, expr_lemmas), (rw c.entered-then-passes.ensures c.requires.fits, rw c.entered-then-passes.ensures asked))

pub returns-in-Binary : goal.returns-in-Binary
returns-in-Binary t c = rw (c.in-Binary.is, expr_of-Binary) (search rules)

pub returns-after-elements : goal.returns-after-elements
returns-after-elements t c =
    let w : View = view_of c.args.self.now c.args.scope.now c.args.store.now in
    let test : Expr = expr_of c.in-Fold.filter.value in
    let body : Expr = expr_of c.in-Fold.body.value in
    let r = c.range-range.result in
    let f = c.in-Fold.fold in
    let none : c.elements.k ≡ 0 = omega arith in
    let all : steps_at r c.elements.k ≡ steps_at r 0 = ap (steps_at r) none in
    rw (c.in-Fold.is, expr_of-Fold)
    (c.early.ensures ∙ ap early (c.closed.ensures (elements_at f c.in-Fold.head test body w (steps_at r c.elements.k)) c.elements.invariant.runs
    ∙ ap (λ (steps : List Step). reduction f (elements_at f c.in-Fold.head test body w steps)) (all ∙ c.range-range.ensures.steps)))

pub elements-preserved-in-Some : goal.elements-preserved-in-Some
elements-preserved-in-Some t c =
    let w : View = view_of c.args.self.now c.args.scope.now c.args.store.now in
    let test : Expr = expr_of c.in-Fold.filter.value in
    let body : Expr = expr_of c.in-Fold.body.value in
    let r = c.range-range.result in
    let f = c.in-Fold.fold in
    let head = c.in-Fold.head in
    let hop = c.in-Some.hop in
    let k = c.elements.k in
    let same : k - 1 + 1 ≡ k = omega arith in
    let steps : steps_at r (k - 1) ≡ step_of r.graph.now hop ∷ steps_at r k = c.in-Some.ensures.step ∙ ap (λ (m : ℕ). step_of r.graph.now hop ∷ steps_at r m) same in
    let others = elements_at f head test body w (steps_at r k) in
    let seen : parts c.evaluated-in-Some.result ≡ evaluated test (entered w head (step_of r.graph.now hop) f.filter) = search (rules, scope_lemmas) in
    let passed : c.settled-test.result ≡ settled (evaluated test (entered w head (step_of r.graph.now hop) f.filter)) =
    c.settled-test.ensures ∙ ap settled seen in
    let value : element f.word c.settled-test.result c.if-passes.value ≡ element f.word c.settled-test.result (settled (evaluated body (entered w head (step_of r.graph.now hop) f.body))) =
    elim c.if-passes.branch [
      | then-passes b ↦ ap (element f.word c.settled-test.result) (b.value-is ∙ b.settled-value.ensures ∙ ap settled (let sight : parts b.evaluated-then-passes.result ≡ evaluated body (entered w head (step_of r.graph.now hop) f.body) = search (rules, scope_lemmas) in sight))
      | else-passes b ↦ unpassed f.word c.settled-test.result _ _ (sym c.passes.ensures ∙ b.if-passes.false)
    ] in
    let one : listed c.element.result ≡ element f.word (settled (evaluated test (entered w head (step_of r.graph.now hop) f.filter))) (settled (evaluated body (entered w head (step_of r.graph.now hop) f.body))) =
    c.element.ensures.element ∙ value ∙ ap (λ (a : Answer). element f.word a (settled (evaluated body (entered w head (step_of r.graph.now hop) f.body)))) passed in
    let more : listed c.element.result ∷ others ≡ elements_at f head test body w (steps_at r (k - 1)) =
    ap (λ (x : Result (List Value) Fault). x ∷ others) one ∙ sym (ap (elements_at f head test body w) steps) in
    let before : Runs c.reduce_of-reduce.result f.vtype c.elements.run others = rw c.reduce_of-reduce.ensures c.elements.invariant.runs in
    let after = rw c.reduce_of-reduce.ensures at (c.with-run.ensures f.vtype others before) in
    let grown = one-more c.element.result others in
    record {
      within = omega arith;
      few = subst (λ (es : List (Result (List Value) Fault)). length (joined (oks es)) + (k - 1) ≤ 2147483647) more (omega (arith, grown, c.elements.invariant.few));
      runs = subst (λ (es : List (Result (List Value) Fault)). Runs (reduce_of f.word) f.vtype c.with-run.result es) more after;
    }
