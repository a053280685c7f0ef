-- The law of locals that are kept in node properties.
use Rattle.std.specs.Prelude.{◌≡◌, ◌≢◌, ◌<◌, ◌≤◌, ℕ, nat_eq, Bool, true, false, ◌&&◌, ◌||◌, not, if◌then◌else◌, List, [], ◌∷◌, map, Option, Some, None}
use Rattle.std.specs.List.{list_all}
use Rattle.gm_base.specs.declared.places.Place.{Place}
use Rattle.gm_value.specs.declared.values.Value.{Value}
use Rattle.gm_value.specs.Numbers.{zero_of}
use Rattle.gm_ast.specs.declared.tree.Key.{Key}
use Rattle.gm_ast.specs.declared.tree.Target.{Target}
use Rattle.gm_ast.specs.declared.tree.Target.TheVariants as T
use Rattle.gm_ast.specs.Program.{Expr, Const, Var, Property, Degree, Live, Unary, Binary, Both, Either, Choose, Folded, always, Stmt, Then, Declare, Assign, Defer, Combine, Foreach, If}
use Rattle.gm_semantics.specs.Iterations.{Loop}
use Rattle.gm_semantics.specs.Frames.{ReadsBelow, NamesBelow}
use Rattle.gm_loop_laws.specs.Masks.{looped, in_turn, SameChange}

-- x: the local; q: the property; n: the loop's iterator; at: the place of a read or write that cannot fault; zero: the first value of the local
module _ (x q n : ℕ) (at : Place) (zero : Value) where
  -- an expression that reads the property in place of the local
  abbrev pub moved_in : Expr → Expr
  moved_in (Var y place) = if nat_eq y x then Property n q place else Var y place
  moved_in (Unary op place e) = Unary op place (moved_in e)
  moved_in (Binary op place a b) = Binary op place (moved_in a) (moved_in b)
  moved_in (Both a b) = Both (moved_in a) (moved_in b)
  moved_in (Either a b) = Either (moved_in a) (moved_in b)
  moved_in (Choose c a b) = Choose (moved_in c) (moved_in a) (moved_in b)
  moved_in e = e

  -- a target likewise
  abbrev pub moved_target : Target → Target
  moved_target (T.Scalar y place) = if nat_eq y x then T.Property n q place else T.Scalar y place
  moved_target (T.Property y p place) = T.Property y p place

  -- a declaration of the local sets the property
  abbrev pub moved_declared : Key → ℕ → Option Expr → Stmt
  moved_declared k y None = if nat_eq y x then Assign k (T.Property n q at) (Const zero) else Declare k y None
  moved_declared k y (Some e) = if nat_eq y x then Assign k (T.Property n q at) (moved_in e) else Declare k y (Some (moved_in e))

  -- a body that keeps the local in the property
  abbrev pub moved : Stmt → Stmt
  moved (Then a b) = Then (moved a) (moved b)
  moved (Declare k y e) = moved_declared k y e
  moved (Assign k t e) = Assign k (moved_target t) (moved_in e)
  moved (Defer k t e) = Defer k t (moved_in e)
  moved (Combine k total r ts es) = Combine k total r (map moved_target ts) (map moved_in es)
  moved (If k c a b) = If k (moved_in c) (moved a) (moved b)
  moved (Foreach k place h test body) = Foreach k place h (moved_in test) (moved body)
  moved s = s

-- whether an expression without reductions reads a variable at most by its name: it is no node through which something is read
abbrev pub names_plainly : ℕ → Expr → Bool
names_plainly x (Property y p at) = not (nat_eq y x)
names_plainly x (Degree d y at) = not (nat_eq y x)
names_plainly x (Live y at) = not (nat_eq y x)
names_plainly x (Unary op at e) = names_plainly x e
names_plainly x (Binary op at a b) = names_plainly x a && names_plainly x b
names_plainly x (Both a b) = names_plainly x a && names_plainly x b
names_plainly x (Either a b) = names_plainly x a && names_plainly x b
names_plainly x (Choose c a b) = names_plainly x c && (names_plainly x a && names_plainly x b)
names_plainly x (Folded f h test e) = false
names_plainly x _ = true

abbrev pub option_plainly : ℕ → Option Expr → Bool
option_plainly x None = true
option_plainly x (Some e) = names_plainly x e

-- whether a target is neither of two scalars, nor reached through the first
abbrev pub is_apart : ℕ → ℕ → Target → Bool
is_apart x n (T.Scalar y at) = not (nat_eq y x) && not (nat_eq y n)
is_apart x n (T.Property y p at) = not (nat_eq y x)

-- whether targets are one local alone
abbrev pub is_it : ℕ → List Target → Bool
is_it x (T.Scalar y at ∷ []) = nat_eq y x
is_it x _ = false

-- whether a local of a body may be kept in a property: it is no node through which something is reached, it is reduced alone, and the iterator is not written
abbrev pub may_move : ℕ → ℕ → Stmt → Bool
may_move x n (Then a b) = may_move x n a && may_move x n b
may_move x n (Declare k y e) = not (nat_eq y n) && option_plainly x e
may_move x n (Assign k t e) = (is_apart x n t || is_it x (t ∷ [])) && names_plainly x e
may_move x n (Defer k t e) = is_apart x n t && names_plainly x e
may_move x n (Combine k total r ts es) = (list_all (is_apart x n) ts || is_it x ts) && list_all (names_plainly x) es
may_move x n (If k c a b) = names_plainly x c && (may_move x n a && may_move x n b)
may_move x n (Foreach k at h test body) = not (nat_eq h.owner x) && (not (nat_eq h.iterator x) && (not (nat_eq h.iterator n) && (names_plainly x test && may_move x n body)))
may_move x n _ = true

-- a local of an outer body is kept in a fresh property, which has at every node what the local holds before the loop: the same fault, or stores that agree in all that the loop names
abbrev pub LocalsMove : Type 0
LocalsMove = (j : ℕ) (loop : Loop) (x q : ℕ) (key : Key) (at : Place) (test : Expr) (body : Stmt) →
    let n = loop.outer in
    let zero = zero_of (loop.vtype x) in
    x < j → n < j → x ≢ n → j ≤ q → loop.depth x ≡ 1 → loop.pushed q ≡ false → ReadsBelow j test → NamesBelow j body →
    names_plainly x test ≡ true → may_move x n body ≡ true →
    SameChange j (looped loop key test body) (in_turn (looped loop key always (Assign key (T.Property n q at) (Var x at))) (looped loop key (moved_in x q n at zero test) (moved x q n at zero body)))
