-- The syntax of assignments and of the end of a procedure, as a tree holds them.
use Rattle.std.proofs.Common.{◌≡◌, ℕ, refl, rules, option_map, Option}
use Rattle.std.specs.Prelude.{Some, None}
use Rattle.gm_base.specs.declared.places.Place.{Place}
use Rattle.gm_base.specs.declared.rules.Rule.TheVariants.{T14}
use Rattle.gm_value.specs.declared.values.VType.{VType}
use Rattle.gm_ast.specs.declared.tree.Key.{Key}
use Rattle.gm_ast.specs.declared.tree.Target.{Target}
use Rattle.gm_ast.specs.declared.tree.Expr as E
use Rattle.gm_ast.specs.declared.tree.Stmt as S
use Rattle.gm_ast.specs.declared.tree.Stmt.{the_lemmas as stmt_lemmas}
use Rattle.gm_ast.specs.Program as P
use Rattle.gm_ast.specs.Judged.{then_answer}
use Rattle.gm_ast.specs.Kinds.{Part}
use Rattle.gm_ast.specs.Statements.{fits_goal, returned}
use Rattle.gm_ast.specs.Tree.{expr_of, stmt_of}

pub stmt_of-Assign : (k : Key) (t : Target) (e : E.Expr) → stmt_of (S.Assign k t e) ≡ P.Assign k t (expr_of e)
stmt_of-Assign k t e = search (rules, stmt_lemmas)

pub stmt_of-Defer : (k : Key) (t : Target) (e : E.Expr) → stmt_of (S.Defer k t e) ≡ P.Defer k t (expr_of e)
stmt_of-Defer k t e = search (rules, stmt_lemmas)

pub stmt_of-Group : (k : Key) (at : Place) (g p : ℕ) (e : E.Expr) → stmt_of (S.Group k at g p e) ≡ P.Group k at g p (expr_of e)
stmt_of-Group k at g p e = search (rules, stmt_lemmas)

pub stmt_of-Return : (k : Key) (at : Place) (e : Option E.Expr) → stmt_of (S.Return k at e) ≡ P.Return k at (option_map expr_of e)
stmt_of-Return k at e = search (rules, stmt_lemmas)

-- a returned value goes where the procedure's result does
pub returned-fits : (k : Key) (at : Place) (wanted : Option VType) (p : Part) → returned k at wanted p ≡ then_answer (fits_goal wanted T14 at p) (λ e. P.Return k at (Some e))
returned-fits k at None p = refl
returned-fits k at (Some t) p = refl
