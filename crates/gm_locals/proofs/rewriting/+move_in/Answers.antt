use Rattle.gm_locals.proofs.InPlace.{expr_of-Unary, expr_of-Binary, expr_of-Both, expr_of-Either, expr_of-Choose, expr_of-Fold}
use Rattle.gm_locals.proofs.rewriting.+move_in.Goals as goal

pub returns-in-Unary : goal.returns-in-Unary
returns-in-Unary t c = simp (c.in-Unary.is, expr_of-Unary, c.move_in.ensures, c.deref_mut.ensures.value)

pub returns-in-Binary : goal.returns-in-Binary
returns-in-Binary t c = simp (c.in-Binary.is, expr_of-Binary, c.move_in-in-Binary.ensures, c.move_in-in-Binary-2.ensures, c.deref_mut-in-Binary.ensures.value, c.deref_mut-in-Binary-2.ensures.value)

pub returns-in-Both : goal.returns-in-Both
returns-in-Both t c = simp (c.in-Both.is, expr_of-Both, c.move_in-in-Both.ensures, c.move_in-in-Both-2.ensures, c.deref_mut-in-Both.ensures.value, c.deref_mut-in-Both-2.ensures.value)

pub returns-in-Either : goal.returns-in-Either
returns-in-Either t c = simp (c.in-Either.is, expr_of-Either, c.move_in-in-Either.ensures, c.move_in-in-Either-2.ensures, c.deref_mut-in-Either.ensures.value, c.deref_mut-in-Either-2.ensures.value)

pub returns-in-Choose : goal.returns-in-Choose
returns-in-Choose t c = simp (c.in-Choose.is, expr_of-Choose, c.move_in-in-Choose.ensures, c.move_in-in-Choose-2.ensures, c.move_in-in-Choose-3.ensures, c.deref_mut-in-Choose.ensures.value, c.deref_mut-in-Choose-2.ensures.value, c.deref_mut-in-Choose-3.ensures.value)

pub returns-in-Fold : goal.returns-in-Fold
returns-in-Fold t c = simp (c.in-Fold.is, expr_of-Fold)
