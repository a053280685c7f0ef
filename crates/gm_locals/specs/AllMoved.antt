-- Several locals of a loop's body, kept in properties of the loop's node at once.
use Rattle.std.specs.Prelude.{◌≡◌, ℕ, suc, nat_eq, if◌then◌else◌, List, [], ◌∷◌, ◌++◌, map, Option, Some, None, option_map}
use Rattle.gm_base.specs.declared.places.Place.{Place}
use Rattle.gm_value.specs.declared.values.Value.{Value}
use Rattle.gm_value.specs.Numbers.{zero_of}
use Rattle.gm_ast.specs.declared.tree.Declaration.{Declaration}
use Rattle.gm_ast.specs.declared.tree.Head.{Head}
use Rattle.gm_ast.specs.declared.tree.Key.{Key}
use Rattle.gm_ast.specs.declared.tree.Target.{Target}
use Rattle.gm_ast.specs.declared.tree.Target.TheVariants as T
use Rattle.gm_ast.specs.Program.{Expr, Const, Var, Property, Unary, Binary, Both, Either, Choose, Stmt, Then, Declare, Assign, Defer, Combine, Foreach, If, sequence}
use Rattle.gm_semantics.specs.Statements.{variable_at}
use Rattle.gm_dissect.specs.Locals.{set_to}
use Rattle.gm_locals.specs.Groups.{locals_loop}

-- the property of a variable, one for each of some locals, from the property q on
abbrev pub property_of : ℕ → List ℕ → ℕ → Option ℕ
property_of q [] y = None
property_of q (x ∷ xs) y = if nat_eq y x then Some q else property_of (suc q) xs y

-- the first values of variables
abbrev pub first_values : List Declaration → ℕ → Value
first_values ds y = zero_of (variable_at ds y).vtype

-- a read of a variable, or of its property through the iterator n, if it has one
abbrev pub read_from : ℕ → Option ℕ → ℕ → Place → Expr
read_from n None y place = Var y place
read_from n (Some p) y place = Property n p place

-- a write to a variable, or to its property
abbrev pub aimed_at : ℕ → Option ℕ → ℕ → Place → Target
aimed_at n None y place = T.Scalar y place
aimed_at n (Some p) y place = T.Property n p place

-- what a declaration sets a variable to, of which the first value is known
abbrev pub set_value : (ℕ → Value) → ℕ → Option Expr → Expr
set_value zero y None = Const (zero y)
set_value zero y (Some e) = e

-- a declaration of a variable, or a write to its property
abbrev pub declared_at : ℕ → Place → (ℕ → Value) → Option ℕ → Key → ℕ → Option Expr → Stmt
declared_at n at zero None k y e = Declare k y e
declared_at n at zero (Some p) k y e = Assign k (T.Property n p at) (set_value zero y e)

-- home: the property of a variable, if it goes to one; n: the loop's iterator
module _ (home : ℕ → Option ℕ) (n : ℕ) where
  -- an expression that reads the properties in place of the locals
  abbrev pub all_moved_in : Expr → Expr
  all_moved_in (Var y place) = read_from n (home y) y place
  all_moved_in (Unary op place e) = Unary op place (all_moved_in e)
  all_moved_in (Binary op place a b) = Binary op place (all_moved_in a) (all_moved_in b)
  all_moved_in (Both a b) = Both (all_moved_in a) (all_moved_in b)
  all_moved_in (Either a b) = Either (all_moved_in a) (all_moved_in b)
  all_moved_in (Choose c a b) = Choose (all_moved_in c) (all_moved_in a) (all_moved_in b)
  all_moved_in e = e

  -- a target likewise
  abbrev pub all_moved_target : Target → Target
  all_moved_target (T.Scalar y place) = aimed_at n (home y) y place
  all_moved_target (T.Property y p place) = T.Property y p place

  -- a body that keeps the locals in the properties. at: the place of a write that cannot fault; zero: the first values
  abbrev pub all_moved : Place → (ℕ → Value) → Stmt → Stmt
  all_moved at zero (Then a b) = Then (all_moved at zero a) (all_moved at zero b)
  all_moved at zero (Declare k y e) = declared_at n at zero (home y) k y (option_map all_moved_in e)
  all_moved at zero (Assign k t e) = Assign k (all_moved_target t) (all_moved_in e)
  all_moved at zero (Defer k t e) = Defer k t (all_moved_in e)
  all_moved at zero (Combine k total r ts es) = Combine k total r (map all_moved_target ts) (map all_moved_in es)
  all_moved at zero (If k c a b) = If k (all_moved_in c) (all_moved at zero a) (all_moved at zero b)
  all_moved at zero (Foreach k place h test body) = Foreach k place h (all_moved_in test) (all_moved at zero body)
  all_moved at zero s = s

-- the loops that set properties to locals, the first of them q
abbrev pub settings : ℕ → List ℕ → Place → Head → List Stmt
settings q [] at h = []
settings q (x ∷ xs) at h = set_to q x at h ∷ settings (suc q) xs at h

-- a statement behind them, in one row, if there are some
abbrev pub set_before : ℕ → List ℕ → Place → Head → Stmt → Stmt
set_before q [] at h s = s
set_before q (x ∷ xs) at h s = sequence (settings q (x ∷ xs) at h ++ (s ∷ []))

-- a loop that keeps locals one after another keeps them at once
abbrev pub LocalsGoAtOnce : Type 0
LocalsGoAtOnce = (ds : List Declaration) (xs : List ℕ) (q : ℕ) (k : Key) (at : Place) (h : Head) (test : Expr) (body : Stmt) →
    let home = property_of q xs in
    locals_loop ds xs q k at h test body ≡ set_before q xs at h (Foreach k at h (all_moved_in home h.iterator test) (all_moved home h.iterator at (first_values ds) body))
