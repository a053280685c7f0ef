-- Conditions that are set before add no level.
use Rattle.std.proofs.Common.{◌≡◌, ◌≤◌, ℕ, Bool, true, false, length, max, arith}
use Rattle.gm_base.specs.declared.places.Place.{Place}
use Rattle.gm_ast.specs.declared.tree.Head.{Head}
use Rattle.gm_ast.specs.declared.tree.Key.{Key}
use Rattle.gm_ast.specs.Program.{Expr, Stmt, Then, For, If, While, Do, Program}
use Rattle.gm_forms.specs.Forms.{is_told}
use Rattle.gm_desugar.specs.Conditions.{if_hoisted, for_hoisted, while_hoisted, do_hoisted, hoisted, with_conditions}
use Rattle.gm_depth.specs.Depths.{all_within}
use Rattle.gm_depth.proofs.Limits.{Within, AllWithin, parts, whole}
use Rattle.gm_depth.specs.Nesting.{nesting}
use Rattle.gm_shallow.proofs.Nesting.{both}

module _ (n : ℕ) (one : 1 ≤ n) (c : ℕ) where
  if-within : (told : Bool) (k : Key) (e : Expr) (a b : Stmt) → Within n e → AllWithin n a → AllWithin n b → AllWithin n (if_hoisted told c k e a b)
  if-within true k e a b h x y = (h, (x, y))
  if-within false k e a b h x y = (h, ((one, (x, y)), tt))

  for-within : (told : Bool) (k : Key) (at : Place) (hd : Head) (e : Expr) (s : Stmt) → Within n e → AllWithin n s → AllWithin n (for_hoisted told c k at hd e s)
  for-within true k at hd e s h x = (h, x)
  for-within false k at hd e s h x = (one, (h, ((one, (x, tt)), tt)))

  while-within : (told : Bool) (k : Key) (at : Place) (e : Expr) (s : Stmt) → Within n e → AllWithin n s → AllWithin n (while_hoisted told c k at e s)
  while-within true k at e s h x = (h, x)
  while-within false k at e s h x = (h, ((one, (x, (h, tt))), tt))

  do-within : (told : Bool) (k : Key) (at : Place) (s : Stmt) (e : Expr) → Within n e → AllWithin n s → AllWithin n (do_hoisted told c k at s e)
  do-within true k at s e h x = (x, h)
  do-within false k at s e h x = ((x, (h, tt)), one)

  conditions-within : (s : Stmt) → AllWithin n s → AllWithin n (hoisted c s)
  conditions-within (Then a b) h = (conditions-within a h.0, conditions-within b h.1)
  conditions-within (For k at hd e s) h = for-within (is_told e) k at hd e (hoisted c s) h.0 (conditions-within s h.1)
  conditions-within (If k e a b) h = if-within (is_told e) k e (hoisted c a) (hoisted c b) h.0 (conditions-within a h.1.0) (conditions-within b h.1.1)
  conditions-within (While k at e s) h = while-within (is_told e) k at e (hoisted c s) h.0 (conditions-within s h.1)
  conditions-within (Do k at s e) h = do-within (is_told e) k at (hoisted c s) e h.1 (conditions-within s h.0)
  conditions-within s h = h

pub conditions-keep : (n : ℕ) (p : Program) → 1 ≤ n → all_within n p.body ≡ true → all_within n (with_conditions p).body ≡ true
conditions-keep n p one h = whole n (hoisted (length p.declarations) p.body) (conditions-within n one (length p.declarations) p.body (parts n p.body h))

-- ---- Ifs within one another, in bodies of parallel loops

module _ (c : ℕ) where
  if-nests : (told : Bool) (k : Key) (e : Expr) (a b : Stmt) → nesting (if_hoisted told c k e a b) ≤ max (nesting a) (nesting b)
  if-nests true k e a b = omega arith
  if-nests false k e a b = omega arith

  for-nests : (told : Bool) (k : Key) (at : Place) (hd : Head) (e : Expr) (s : Stmt) → nesting (for_hoisted told c k at hd e s) ≤ nesting s
  for-nests true k at hd e s = omega arith
  for-nests false k at hd e s = omega arith

  while-nests : (told : Bool) (k : Key) (at : Place) (e : Expr) (s : Stmt) → nesting (while_hoisted told c k at e s) ≤ nesting s
  while-nests true k at e s = omega arith
  while-nests false k at e s = omega arith

  do-nests : (told : Bool) (k : Key) (at : Place) (s : Stmt) (e : Expr) → nesting (do_hoisted told c k at s e) ≤ nesting s
  do-nests true k at s e = omega arith
  do-nests false k at s e = omega arith

  conditions-nests : (s : Stmt) → nesting (hoisted c s) ≤ nesting s
  conditions-nests (Then a b) = both (conditions-nests a) (conditions-nests b)
  conditions-nests (For k at hd e s) =
      let x : nesting (hoisted c s) ≤ nesting s = conditions-nests s in
      let y : nesting (for_hoisted (is_told e) c k at hd e (hoisted c s)) ≤ nesting (hoisted c s) = for-nests (is_told e) k at hd e (hoisted c s) in
      omega arith
  conditions-nests (If k e a b) =
      let x : nesting (hoisted c a) ≤ nesting a = conditions-nests a in
      let y : nesting (hoisted c b) ≤ nesting b = conditions-nests b in
      let z : nesting (if_hoisted (is_told e) c k e (hoisted c a) (hoisted c b)) ≤ max (nesting (hoisted c a)) (nesting (hoisted c b)) = if-nests (is_told e) k e (hoisted c a) (hoisted c b) in
      omega arith
  conditions-nests (While k at e s) =
      let x : nesting (hoisted c s) ≤ nesting s = conditions-nests s in
      let y : nesting (while_hoisted (is_told e) c k at e (hoisted c s)) ≤ nesting (hoisted c s) = while-nests (is_told e) k at e (hoisted c s) in
      omega arith
  conditions-nests (Do k at s e) =
      let x : nesting (hoisted c s) ≤ nesting s = conditions-nests s in
      let y : nesting (do_hoisted (is_told e) c k at (hoisted c s) e) ≤ nesting (hoisted c s) = do-nests (is_told e) k at (hoisted c s) e in
      omega arith
  conditions-nests s = omega arith

pub conditions-nest : (p : Program) → nesting (with_conditions p).body ≤ nesting p.body
conditions-nest p = conditions-nests (length p.declarations) p.body
