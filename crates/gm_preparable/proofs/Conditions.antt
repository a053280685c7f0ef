-- Conditions that are set before.
use Rattle.std.proofs.Common.{ℕ, Bool, true, false, List}
use Rattle.gm_base.specs.declared.places.Place.{Place}
use Rattle.gm_ast.specs.declared.tree.Head.{Head}
use Rattle.gm_ast.specs.declared.tree.Key.{Key}
use Rattle.gm_ast.specs.declared.tree.Target.{Target}
use Rattle.gm_ast.specs.Program.{Expr, Stmt, Then, For, If, While, Do}
use Rattle.gm_forms.specs.Forms.{is_told}
use Rattle.gm_desugar.specs.Conditions.{if_hoisted, for_hoisted, while_hoisted, do_hoisted, hoisted}
use Rattle.gm_preparable.proofs.Standing.{Outside, Phase}

module _ (goes : List Target → Type 0) (outer inner : ℕ → Type 0) (c : ℕ) where
  if-stands : (told : Bool) (k : Key) (e : Expr) (a b : Stmt) → Outside outer inner e → Phase goes outer inner a → Phase goes outer inner b → Phase goes outer inner (if_hoisted told c k e a b)
  if-stands true k e a b h x y = (h, (x, y))
  if-stands false k e a b h x y = (h, ((tt, (x, y)), tt))

  for-stands : (told : Bool) (k : Key) (at : Place) (hd : Head) (e : Expr) (s : Stmt) → Outside outer inner e → Phase goes outer inner s → Phase goes outer inner (for_hoisted told c k at hd e s)
  for-stands true k at hd e s h x = (h, x)
  for-stands false k at hd e s h x = (tt, (h, ((tt, (x, tt)), tt)))

  while-stands : (told : Bool) (k : Key) (at : Place) (e : Expr) (s : Stmt) → Outside outer inner e → Phase goes outer inner s → Phase goes outer inner (while_hoisted told c k at e s)
  while-stands true k at e s h x = (h, x)
  while-stands false k at e s h x = (h, ((tt, (x, (h, tt))), tt))

  do-stands : (told : Bool) (k : Key) (at : Place) (s : Stmt) (e : Expr) → Outside outer inner e → Phase goes outer inner s → Phase goes outer inner (do_hoisted told c k at s e)
  do-stands true k at s e h x = (x, h)
  do-stands false k at s e h x = ((x, (h, tt)), tt)

  pub conditions-stand : (s : Stmt) → Phase goes outer inner s → Phase goes outer inner (hoisted c s)
  conditions-stand (Then a b) h = (conditions-stand a h.0, conditions-stand b h.1)
  conditions-stand (For k at hd e s) h = for-stands (is_told e) k at hd e (hoisted c s) h.0 (conditions-stand s h.1)
  conditions-stand (If k e a b) h = if-stands (is_told e) k e (hoisted c a) (hoisted c b) h.0 (conditions-stand a h.1.0) (conditions-stand b h.1.1)
  conditions-stand (While k at e s) h = while-stands (is_told e) k at e (hoisted c s) h.0 (conditions-stand s h.1)
  conditions-stand (Do k at s e) h = do-stands (is_told e) k at (hoisted c s) e h.1 (conditions-stand s h.0)
  conditions-stand s h = h
