use Rattle.std.proofs.Common.{◌≡◌, ap, ◌∙◌, sym}
use Rattle.gm_ast.specs.Program as P
use Rattle.gm_ast.specs.Tree.{expr_of}
use Rattle.gm_desugar.specs.Literals.{with_literals, at_once}
use Rattle.gm_desugar.proofs.Trees.{expr_of-Unary, expr_of-Binary, expr_of-Both, expr_of-Either, expr_of-Choose, expr_of-Fold}
use Rattle.gm_desugar.proofs.literals.+settle.Goals as goal

pub returns-in-Unary : goal.returns-in-Unary
returns-in-Unary t c =
    let inner : expr_of c.settle.new.e ≡ with_literals (expr_of c.in-Unary.inner.value) = c.settle.ensures ∙ ap (λ e. with_literals (expr_of e)) c.deref_mut.ensures.value in
    c.negate.ensures ∙ ap at_once (expr_of-Unary c.in-Unary.op c.in-Unary.place _ ∙ ap (P.Unary c.in-Unary.op c.in-Unary.place) inner) ∙ sym (ap with_literals (ap expr_of c.in-Unary.is ∙ expr_of-Unary c.in-Unary.op c.in-Unary.place c.in-Unary.inner))

pub returns-in-Binary : goal.returns-in-Binary
returns-in-Binary t c = simp (c.in-Binary.is, expr_of-Binary, c.settle-in-Binary.ensures, c.settle-in-Binary-2.ensures, c.deref_mut-in-Binary.ensures.value, c.deref_mut-in-Binary-2.ensures.value)

pub returns-in-Both : goal.returns-in-Both
returns-in-Both t c = simp (c.in-Both.is, expr_of-Both, c.settle-in-Both.ensures, c.settle-in-Both-2.ensures, c.deref_mut-in-Both.ensures.value, c.deref_mut-in-Both-2.ensures.value)

pub returns-in-Either : goal.returns-in-Either
returns-in-Either t c = simp (c.in-Either.is, expr_of-Either, c.settle-in-Either.ensures, c.settle-in-Either-2.ensures, c.deref_mut-in-Either.ensures.value, c.deref_mut-in-Either-2.ensures.value)

pub returns-in-Choose : goal.returns-in-Choose
returns-in-Choose t c = simp (c.in-Choose.is, expr_of-Choose, c.settle-in-Choose.ensures, c.settle-in-Choose-2.ensures, c.settle-in-Choose-3.ensures, c.deref_mut-in-Choose.ensures.value, c.deref_mut-in-Choose-2.ensures.value, c.deref_mut-in-Choose-3.ensures.value)

pub returns-in-Fold : goal.returns-in-Fold
returns-in-Fold t c = simp (c.in-Fold.is, expr_of-Fold, c.settle-in-Fold.ensures, c.settle-in-Fold-2.ensures, c.deref_mut-in-Fold.ensures.value, c.deref_mut-in-Fold-2.ensures.value)
