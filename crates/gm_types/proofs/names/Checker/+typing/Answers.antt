use Rattle.std.proofs.Common.{refl, ap, ◌∙◌}
use Rattle.std.proofs.lemmas.Result.{IfOk-from_err}
use Rattle.std.specs.Prelude.{box_value}
use Rattle.gm_base.specs.declared.rules.Rule.TheVariants.{T10}
use Rattle.gm_ast.specs.Judged.{refused_unless}
use Rattle.gm_ast.specs.Kinds.{is_flag}
use Rattle.gm_ast.specs.Names.{Env, both, keyed}
use Rattle.gm_ast.specs.Typing.{typed, condition, start_of}
use Rattle.gm_ast.specs.SurfaceTree.{name_of, head_of, expr_of, optional_of}
use Rattle.gm_ast.proofs.SurfaceTrees.{expr_of-Prefix, expr_of-Infix, expr_of-Choose, expr_of-Member, expr_of-Method, expr_of-Reduction}
use Rattle.gm_types.proofs.Walks.{judges-by, judges-both, judges-keyed}
use Rattle.gm_types.proofs.Scopes.{judges-iterated}
use Rattle.gm_types.proofs.Stated.{key-of, leaves-from}
use Rattle.gm_types.proofs.Forms.{judges-Prefix, judges-Infix, judges-Choose, judges-Reduction}
use Rattle.gm_types.proofs.names.Checker.+typing.Goals as goal

pub judge_prefix-returns : goal.judge_prefix-returns
judge_prefix-returns t c =
    judges-Prefix c.args.place c.args.op (expr_of c.args.inner.now) c.in_ok-operand.ensures c.in_ok-part.ensures.part c.in_ok-part.ensures.least refl refl

pub judge_optional-returns-in_ok-part-in-Some : goal.judge_optional-returns-in_ok-part-in-Some
judge_optional-returns-in_ok-part-in-Some t c =
    rw c.in-Some.is
    (judges-keyed {old = c.args.self.now} c.args.key (typed (expr_of (box_value c.in-Some.e))) (rw c.deref.ensures at c.in_ok-part-in-Some.ensures))

pub typed-returns-in-Member : goal.typed-returns-in-Member
typed-returns-in-Member t c = rw (c.in-Member.is, expr_of-Member) c.judge_member.ensures

pub typed-returns-in-Method : goal.typed-returns-in-Method
typed-returns-in-Method t c = rw (c.in-Method.is, expr_of-Method) c.judge_method.ensures

pub typed-returns-in-Prefix : goal.typed-returns-in-Prefix
typed-returns-in-Prefix t c = rw (c.in-Prefix.is, expr_of-Prefix) (rw c.deref-in-Prefix.ensures at c.judge_prefix.ensures)

pub typed-returns-in_ok-part-in-Infix : goal.typed-returns-in_ok-part-in-Infix
typed-returns-in_ok-part-in-Infix t c =
    rw (c.in-Infix.is, expr_of-Infix)
    (judges-Infix _ _ (expr_of (box_value c.in-Infix.left)) (expr_of (box_value c.in-Infix.right))
    (rw c.deref-in-Infix.ensures at c.in_ok-first-in-Infix.ensures) (rw c.deref-in-Infix-2.ensures at c.in_ok-second-in-Infix.ensures)
    c.in_ok-part-in-Infix.ensures.part c.in_ok-part-in-Infix.ensures.least refl refl)

pub typed-returns-in_ok-part-in-Choose : goal.typed-returns-in_ok-part-in-Choose
typed-returns-in_ok-part-in-Choose t c =
    rw (c.in-Choose.is, expr_of-Choose)
    (judges-Choose _ (expr_of (box_value c.in-Choose.test)) (expr_of (box_value c.in-Choose.yes)) (expr_of (box_value c.in-Choose.no))
    (judges-by (λ p. refused_unless (is_flag p.kind) T10 (start_of (expr_of (box_value c.in-Choose.test))) p.core)
    (rw c.deref-in-Choose.ensures at c.in_ok-tested-in-Choose.ensures)
    (rw (c.start_of.ensures, c.deref-in-Choose-2.ensures) at c.condition-asked.ensures.part) (rw (c.start_of.ensures, c.deref-in-Choose-2.ensures) at c.condition-asked.ensures.least) refl refl)
    (rw c.deref-in-Choose-3.ensures at c.in_ok-first-in-Choose.ensures) (rw c.deref-in-Choose-4.ensures at c.in_ok-second-in-Choose.ensures)
    c.in_ok-part-in-Choose.ensures.part c.in_ok-part-in-Choose.ensures.least refl refl)

pub typed-returns-in_ok-part-in-Reduction : goal.typed-returns-in_ok-part-in-Reduction
typed-returns-in_ok-part-in-Reduction t c =
    let r = c.in-Reduction in
    let p = c.in-Some.reducer in
    let f = optional_of r.filter in
    let b = optional_of r.body in
    let e = c.in_ok-iterator-in-Reduction.ensures.enters in
    let asked = judges-by (λ q. refused_unless (is_flag q.kind) T10 (start_of f) q.core) c.in_ok-tested-in-Reduction.ensures
    (rw c.start_of_optional.ensures at c.condition-asked-in-Reduction.ensures.part) (rw c.start_of_optional.ensures at c.condition-asked-in-Reduction.ensures.least) refl refl in
    let held = judges-both (keyed p.filter (condition (start_of f) (typed f))) (keyed p.body (typed b)) asked c.in_ok-inner-in-Reduction.ensures in
    let l = leaves-from c.len-known.ensures.len refl (key-of held ∙ ap (λ (env : Env). env.key) e.names) c.leave.ensures.known c.leave.ensures.iterators c.leave.ensures.rest in
    rw (r.is, expr_of-Reduction)
    (judges-Reduction r.place r.word (head_of r.head) f b r.close p c.fold_numbers-numbers.result
    c.in-Some.ensures c.fold_numbers-numbers.ensures c.ranged-owner.ensures c.in_ok-take_numbers-in-Reduction.ensures
    (judges-iterated (name_of r.head.iterator) 1 (both (keyed p.filter (condition (start_of f) (typed f))) (keyed p.body (typed b))) e held l)
    (rw (c.start_of_optional-start.ensures, c.in_ok-iterator-in-Reduction.ensures.index) at c.in_ok-part-in-Reduction.ensures.part)
    (rw (c.start_of_optional-start.ensures, c.in_ok-iterator-in-Reduction.ensures.index) at c.in_ok-part-in-Reduction.ensures.least)
    refl refl)

pub judge_optional-returns-in_err-part-in-Some : goal.judge_optional-returns-in_err-part-in-Some
judge_optional-returns-in_err-part-in-Some t c = IfOk-from_err _ _ c.from_residual.ensures.0

pub judge_prefix-returns-in_err-operand : goal.judge_prefix-returns-in_err-operand
judge_prefix-returns-in_err-operand t c = IfOk-from_err _ _ c.from_residual.ensures.0

pub judge_prefix-returns-in_err-part : goal.judge_prefix-returns-in_err-part
judge_prefix-returns-in_err-part t c = IfOk-from_err _ _ c.from_residual-in_err-part.ensures.0

pub typed-returns-in_err-part-in-Number : goal.typed-returns-in_err-part-in-Number
typed-returns-in_err-part-in-Number t c = IfOk-from_err _ _ c.from_residual.ensures.0

pub typed-returns-in_err-first-in-Infix : goal.typed-returns-in_err-first-in-Infix
typed-returns-in_err-first-in-Infix t c = IfOk-from_err _ _ c.from_residual-in_err-first-in-Infix.ensures.0

pub typed-returns-in_err-second-in-Infix : goal.typed-returns-in_err-second-in-Infix
typed-returns-in_err-second-in-Infix t c = IfOk-from_err _ _ c.from_residual-in_err-second-in-Infix.ensures.0

pub typed-returns-in_err-part-in-Infix : goal.typed-returns-in_err-part-in-Infix
typed-returns-in_err-part-in-Infix t c = IfOk-from_err _ _ c.from_residual-in_err-part-in-Infix.ensures.0

pub typed-returns-in_err-tested-in-Choose : goal.typed-returns-in_err-tested-in-Choose
typed-returns-in_err-tested-in-Choose t c = IfOk-from_err _ _ c.from_residual-in_err-tested-in-Choose.ensures.0

pub typed-returns-in_err-first-in-Choose : goal.typed-returns-in_err-first-in-Choose
typed-returns-in_err-first-in-Choose t c = IfOk-from_err _ _ c.from_residual-in_err-first-in-Choose.ensures.0

pub typed-returns-in_err-second-in-Choose : goal.typed-returns-in_err-second-in-Choose
typed-returns-in_err-second-in-Choose t c = IfOk-from_err _ _ c.from_residual-in_err-second-in-Choose.ensures.0

pub typed-returns-in_err-part-in-Choose : goal.typed-returns-in_err-part-in-Choose
typed-returns-in_err-part-in-Choose t c = IfOk-from_err _ _ c.from_residual-in_err-part-in-Choose.ensures.0

pub typed-returns-in_err-take_numbers-in-Reduction : goal.typed-returns-in_err-take_numbers-in-Reduction
typed-returns-in_err-take_numbers-in-Reduction t c = IfOk-from_err _ _ c.from_residual-in_err-take_numbers-in-Reduction.ensures.0

pub typed-returns-in_err-iterator-in-Reduction : goal.typed-returns-in_err-iterator-in-Reduction
typed-returns-in_err-iterator-in-Reduction t c = IfOk-from_err _ _ c.from_residual-in_err-iterator-in-Reduction.ensures.0

pub typed-returns-in_err-tested-in-Reduction : goal.typed-returns-in_err-tested-in-Reduction
typed-returns-in_err-tested-in-Reduction t c = IfOk-from_err _ _ c.from_residual-in_err-tested-in-Reduction.ensures.0

pub typed-returns-in_err-inner-in-Reduction : goal.typed-returns-in_err-inner-in-Reduction
typed-returns-in_err-inner-in-Reduction t c = IfOk-from_err _ _ c.from_residual-in_err-inner-in-Reduction.ensures.0

pub typed-returns-in_err-part-in-Reduction : goal.typed-returns-in_err-part-in-Reduction
typed-returns-in_err-part-in-Reduction t c = IfOk-from_err _ _ c.from_residual-in_err-part-in-Reduction.ensures.0
