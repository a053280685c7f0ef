-- Loops of a sequential phase that are written as others.
use Rattle.std.proofs.Common.{◌≤◌, ℕ, arith}
use Rattle.gm_base.specs.declared.places.Place.{Place}
use Rattle.gm_ast.specs.declared.tree.Head.{Head}
use Rattle.gm_ast.specs.declared.tree.Key.{Key}
use Rattle.gm_ast.specs.Program.{Expr, Stmt, Then, Foreach, For, If, While, Do}
use Rattle.gm_dissect.specs.Loops.{each_loop}
use Rattle.gm_depth.specs.Nesting.{body_nesting, nesting}
use Rattle.gm_depth.proofs.Limits.{Within, AllWithin}
use Rattle.gm_shallow.proofs.Nesting.{both}

module _ (f : Key → Place → Head → Expr → Stmt → Stmt) where
  -- each within a limit of levels
  pub loops-within : (n : ℕ) → ((k : Key) (at : Place) (hd : Head) (test : Expr) (body : Stmt) → Within n test → AllWithin n body → AllWithin n (f k at hd test body)) → (s : Stmt) → AllWithin n s → AllWithin n (each_loop f s)
  loops-within n fine (Then a b) h = (loops-within n fine a h.0, loops-within n fine b h.1)
  loops-within n fine (Foreach k at hd test body) h = fine k at hd test body h.0 h.1
  loops-within n fine (For k at hd test body) h = (h.0, loops-within n fine body h.1)
  loops-within n fine (If k c a b) h = (h.0, (loops-within n fine a h.1.0, loops-within n fine b h.1.1))
  loops-within n fine (While k at c body) h = (h.0, loops-within n fine body h.1)
  loops-within n fine (Do k at body c) h = (loops-within n fine body h.0, h.1)
  loops-within n fine s h = h

  -- each with no more Ifs within one another
  pub loops-nest : ((k : Key) (at : Place) (hd : Head) (test : Expr) (body : Stmt) → nesting (f k at hd test body) ≤ body_nesting body) → (s : Stmt) → nesting (each_loop f s) ≤ nesting s
  loops-nest fine (Then a b) = both (loops-nest fine a) (loops-nest fine b)
  loops-nest fine (Foreach k at hd test body) = fine k at hd test body
  loops-nest fine (For k at hd test body) = loops-nest fine body
  loops-nest fine (If k c a b) = both (loops-nest fine a) (loops-nest fine b)
  loops-nest fine (While k at c body) = loops-nest fine body
  loops-nest fine (Do k at body c) = loops-nest fine body
  loops-nest fine s = omega arith
