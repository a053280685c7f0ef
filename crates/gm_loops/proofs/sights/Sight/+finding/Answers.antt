use Rattle.std.proofs.Common.{◌≡◌, ◌∙◌, ◌≤◌, ◌+◌, ◌-◌, ℕ, true, false, List, [], ◌∷◌, length, None, Ok, Result, ap, sym, subst, arith, rules}
use Rattle.std.proofs.lemmas.Option.{IfSome_then}
use Rattle.gm_value.specs.declared.values.Value.{Value}
use Rattle.gm_value.specs.Operations.{is_true}
use Rattle.gm_value.specs.Totals.{IsTotal}
use Rattle.gm_model.specs.Graphs.{Step}
use Rattle.gm_ast.specs.Program.{Expr}
use Rattle.gm_ast.specs.Tree.{expr_of}
use Rattle.gm_ast.specs.declared.tree.Expr.{the_lemmas as expr_lemmas}
use Rattle.gm_graph.specs.Serving.{Serve}
use Rattle.gm_loops.specs.Asking.{reads_outward}
use Rattle.gm_semantics.specs.declared.faults.Fault.{Fault}
use Rattle.gm_semantics.specs.Faults.{least, errs, oks, joined}
use Rattle.gm_semantics.specs.Expressions.{View, Answer, Evaluated, evaluated, early, element, entered, members_of, plain, reduce_of, reduction, settled, steps_in}
use Rattle.gm_loops.specs.Ranges.{step_of, steps_at}
use Rattle.gm_loops.specs.Runnings.{elements_at}
use Rattle.gm_loops.specs.Sights.{view_of}
use Rattle.gm_loops.specs.declared.scopes.Scope.{the_lemmas as scope_lemmas}
use Rattle.gm_loops.proofs.Elements.{no-fault-reduction, one-member, passed-element, unpassed-element}
use Rattle.gm_loops.proofs.Serving.{binary_right, choose_no, choose_yes, fold_body}
use Rattle.gm_loops.proofs.Trees.{expr_of-Fold}
use Rattle.gm_loops.proofs.sights.Sight.+finding.Goals as goal

pub faultless_operation-faultless-requires-in-Binary-2 : goal.faultless_operation-faultless-requires-in-Binary-2
faultless_operation-faultless-requires-in-Binary-2 t c =
    let asked : Serve c.args.self.now.setting.now.in_rows.now (reads_outward (expr_of c.deref-in-Binary-2.result.now)) =
    binary_right _ _ _ _ _ _ _ c.in-Binary.is c.deref-in-Binary-2.ensures c.requires.asked in
    (search (rules, expr_lemmas), (c.requires.fits, asked))

pub faultless_operation-faultless-requires-in-Choose-2 : goal.faultless_operation-faultless-requires-in-Choose-2
faultless_operation-faultless-requires-in-Choose-2 t c =
    let asked : Serve c.args.self.now.setting.now.in_rows.now (reads_outward (expr_of c.deref-in-Choose-2.result.now)) =
    choose_yes _ _ _ _ _ _ c.in-Choose.is c.deref-in-Choose-2.ensures c.requires.asked in
    (search (rules, expr_lemmas), (c.requires.fits, asked))

pub faultless_operation-faultless-requires-in-Choose-3 : goal.faultless_operation-faultless-requires-in-Choose-3
faultless_operation-faultless-requires-in-Choose-3 t c =
    let asked : Serve c.args.self.now.setting.now.in_rows.now (reads_outward (expr_of c.deref-in-Choose-3.result.now)) =
    choose_no _ _ _ _ _ _ c.in-Choose.is c.deref-in-Choose-3.ensures c.requires.asked in
    (search (rules, expr_lemmas), (c.requires.fits, asked))

pub faultless_fold-faultless-requires-then-is_true : goal.faultless_fold-faultless-requires-then-is_true
faultless_fold-faultless-requires-then-is_true t c =
    let asked : Serve c.args.self.now.setting.now.in_rows.now (reads_outward (expr_of c.deref-then-is_true.result.now)) =
    fold_body _ _ _ _ _ _ _ c.in-Fold.is c.deref-then-is_true.ensures c.requires.asked in
    (search (rules, expr_lemmas), (rw c.entered-taking.ensures c.requires.fits, rw c.entered-taking.ensures asked))

pub faultless_fold-returns-in-Fold : goal.faultless_fold-returns-in-Fold
faultless_fold-returns-in-Fold t c =
    let w : View = view_of c.args.self.now c.args.scope.now c.args.store.now in
    let test : Expr = expr_of c.in-Fold.filter.value in
    let body : Expr = expr_of c.in-Fold.body.value in
    let r = c.range-range.result in
    let f = c.in-Fold.fold in
    let head = c.in-Fold.head in
    let none : c.elements.k ≡ 0 = omega arith in
    let all : steps_at r c.elements.k ≡ steps_at r 0 = ap (steps_at r) none in
    let es : List (Result (List Value) Fault) = elements_at f head test body w (steps_at r c.elements.k) in
    let whole : c.closed_total.result ≡ reduction f (elements_at f head test body w (steps_in w head)) =
    c.closed_total.ensures (joined (oks es)) c.elements.invariant.total
    ∙ sym (no-fault-reduction f es c.elements.invariant.sound)
    ∙ ap (λ (steps : List Step). reduction f (elements_at f head test body w steps)) (all ∙ c.range-range.ensures.steps) in
    rw (c.in-Fold.is, expr_of-Fold)
    (IfSome_then c.sound.result c.sound.ensures (λ v e. ap early (sym whole ∙ e)))

pub faultless_fold-elements-preserved-then-is_true : goal.faultless_fold-elements-preserved-then-is_true
faultless_fold-elements-preserved-then-is_true t c =
    let w : View = view_of c.args.self.now c.args.scope.now c.args.store.now in
    let test : Expr = expr_of c.in-Fold.filter.value in
    let body : Expr = expr_of c.in-Fold.body.value in
    let r = c.range-range.result in
    let f = c.in-Fold.fold in
    let head = c.in-Fold.head in
    let hop = c.in-Some-at.hop in
    let k = c.elements.k in
    let passed : Value = c.in_ok-passed.passed in
    let value : Value = c.in_ok-value.value in
    let same : k - 1 + 1 ≡ k = omega arith in
    let steps : steps_at r (k - 1) ≡ step_of r.graph.now hop ∷ steps_at r k = c.in-Some-at.ensures.step ∙ ap (λ (m : ℕ). step_of r.graph.now hop ∷ steps_at r m) same in
    let others : List (Result (List Value) Fault) = elements_at f head test body w (steps_at r k) in
    let sees : evaluated test (entered w head (step_of r.graph.now hop) f.filter) ≡ plain (Ok passed) = search (rules, scope_lemmas) in
    let takes : evaluated body (entered w head (step_of r.graph.now hop) f.body) ≡ plain (Ok value) = search (rules, scope_lemmas) in
    let holds : is_true passed ≡ true = sym c.is_true.ensures ∙ c.if-is_true.true in
    let one : element f.word (settled (evaluated test (entered w head (step_of r.graph.now hop) f.filter))) (settled (evaluated body (entered w head (step_of r.graph.now hop) f.body))) ≡ Ok (members_of f.word value) =
    ap (λ (e : Evaluated). element f.word (settled e) (settled (evaluated body (entered w head (step_of r.graph.now hop) f.body)))) sees
    ∙ ap (λ (e : Evaluated). element f.word (Ok passed) (settled e)) takes
    ∙ passed-element f.word passed value holds in
    let more : Ok (members_of f.word value) ∷ others ≡ elements_at f head test body w (steps_at r (k - 1)) =
    ap (λ (x : Result (List Value) Fault). x ∷ others) (sym one) ∙ sym (ap (elements_at f head test body w) steps) in
    let before : IsTotal c.reduce_of-reduce.result f.vtype c.elements.total (joined (oks others)) = rw c.reduce_of-reduce.ensures c.elements.invariant.total in
    let after = rw c.reduce_of-reduce.ensures at (c.added-total.ensures f.vtype (joined (oks others)) before) in
    let grown = one-member f.word value (joined (oks others)) in
    record {
      within = omega arith;
      few = subst (λ (es : List (Result (List Value) Fault)). length (joined (oks es)) + (k - 1) ≤ 2147483647) more (omega (arith, grown, c.elements.invariant.few));
      sound = subst (λ (es : List (Result (List Value) Fault)). least (errs es) ≡ None) more c.elements.invariant.sound;
      total = subst (λ (es : List (Result (List Value) Fault)). IsTotal (reduce_of f.word) f.vtype c.added-total.result (joined (oks es))) more after;
    }

pub faultless_fold-elements-preserved-else-is_true : goal.faultless_fold-elements-preserved-else-is_true
faultless_fold-elements-preserved-else-is_true t c =
    let w : View = view_of c.args.self.now c.args.scope.now c.args.store.now in
    let test : Expr = expr_of c.in-Fold.filter.value in
    let body : Expr = expr_of c.in-Fold.body.value in
    let r = c.range-range.result in
    let f = c.in-Fold.fold in
    let head = c.in-Fold.head in
    let hop = c.in-Some-at.hop in
    let k = c.elements.k in
    let passed : Value = c.in_ok-passed.passed in
    let same : k - 1 + 1 ≡ k = omega arith in
    let steps : steps_at r (k - 1) ≡ step_of r.graph.now hop ∷ steps_at r k = c.in-Some-at.ensures.step ∙ ap (λ (m : ℕ). step_of r.graph.now hop ∷ steps_at r m) same in
    let others : List (Result (List Value) Fault) = elements_at f head test body w (steps_at r k) in
    let sees : evaluated test (entered w head (step_of r.graph.now hop) f.filter) ≡ plain (Ok passed) = search (rules, scope_lemmas) in
    let fails : is_true passed ≡ false = sym c.is_true.ensures ∙ c.if-is_true.false in
    let taken : Answer = settled (evaluated body (entered w head (step_of r.graph.now hop) f.body)) in
    let one : element f.word (settled (evaluated test (entered w head (step_of r.graph.now hop) f.filter))) taken ≡ Ok [] =
    ap (λ (e : Evaluated). element f.word (settled e) taken) sees ∙ unpassed-element f.word passed taken fails in
    let more : Ok [] ∷ others ≡ elements_at f head test body w (steps_at r (k - 1)) =
    ap (λ (x : Result (List Value) Fault). x ∷ others) (sym one) ∙ sym (ap (elements_at f head test body w) steps) in
    record {
      within = omega arith;
      few = subst (λ (es : List (Result (List Value) Fault)). length (joined (oks es)) + (k - 1) ≤ 2147483647) more (omega (arith, c.elements.invariant.few));
      sound = subst (λ (es : List (Result (List Value) Fault)). least (errs es) ≡ None) more c.elements.invariant.sound;
      total = subst (λ (es : List (Result (List Value) Fault)). IsTotal (reduce_of f.word) f.vtype c.elements.total (joined (oks es))) more c.elements.invariant.total;
    }
