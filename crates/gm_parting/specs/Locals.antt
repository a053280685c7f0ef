-- Bodies that name no local, and bodies of which each local may go to a property.
use Rattle.std.specs.Prelude.{ℕ, Bool, true, false, ◌&&◌, ◌||◌, List, [], ◌∷◌, ◌++◌, Option, Some, None}
use Rattle.std.specs.List.{list_all}
use Rattle.gm_ast.specs.declared.tree.Declaration.{Declaration}
use Rattle.gm_ast.specs.declared.tree.Sort.TheVariants.{Scalar}
use Rattle.gm_ast.specs.declared.tree.Target.{Target}
use Rattle.gm_ast.specs.declared.tree.Target.TheVariants as T
use Rattle.gm_ast.specs.Names.{sort_eq}
use Rattle.gm_ast.specs.Program.{Expr, Live, Unary, Binary, Both, Either, Choose, Stmt, Then, Declare, Assign, Defer, Combine, Foreach, If, Program}
use Rattle.gm_semantics.specs.Statements.{variable_at}
use Rattle.gm_forms.specs.Cut.{is_own_loop, is_no_local}
use Rattle.gm_forms.specs.Sharing.{told_in, sights_in_option, sights_in_all}
use Rattle.gm_loop_laws.specs.Localised.{names_plainly, may_move}
use Rattle.gm_dissect.specs.Locals.{declares}
use Rattle.gm_cut.specs.Parts.{each_passes}

-- may: which scalars and nodes may be named inside some iterators
module _ (may : List ℕ → ℕ → Bool) where
  -- the scalar of a target, or the node variable through which it is reached
  abbrev pub target_passes : List ℕ → Target → Bool
  target_passes its (T.Scalar x at) = may its x
  target_passes its (T.Property x p at) = may its x

  -- whether a body names such ones alone
  abbrev pub names_pass : List ℕ → Stmt → Bool
  names_pass its (Then a b) = names_pass its a && names_pass its b
  names_pass its (Declare k x e) = may its x && list_all (may its) (sights_in_option e).scalars
  names_pass its (Assign k t e) = target_passes its t && list_all (may its) (told_in e)
  names_pass its (Defer k t e) = target_passes its t && list_all (may its) (told_in e)
  names_pass its (Combine k total r ts es) = list_all (target_passes its) ts && list_all (may its) (sights_in_all es).scalars
  names_pass its (If k c a b) = list_all (may its) (told_in c) && (names_pass its a && names_pass its b)
  names_pass its (Foreach k at h test body) =
      may its h.owner && (list_all (may (its ++ (h.iterator ∷ []))) (told_in test) && names_pass (its ++ (h.iterator ∷ [])) body)
  names_pass its _ = true

-- whether a loop's body names no local of it, but the iterators around
abbrev pub names_no_local : List Declaration → ℕ → Stmt → Bool
names_no_local ds n body = names_pass (is_no_local ds) (n ∷ []) body

-- whether a variable is a scalar that a loop's body declares, and may be kept in a property
abbrev pub may_be_kept : List Declaration → ℕ → Expr → Stmt → ℕ → Bool
may_be_kept ds n test body x = sort_eq Scalar (variable_at ds x).sort && (declares x body && (names_plainly x test && may_move x n body))

-- whether each local that a loop's body names is such a one
abbrev pub locals_may_go : List Declaration → ℕ → Expr → Stmt → Bool
locals_may_go ds n test body = names_pass (λ its x. is_no_local ds its x || may_be_kept ds n test body x) (n ∷ []) body

-- whether the loops of a program that are not of own statements name no local
abbrev pub has_no_locals : Program → Bool
has_no_locals p = each_passes (λ k at h test body. is_own_loop h.iterator body || names_no_local p.declarations h.iterator body) p.body

-- whether each local that such a loop names may go to a property
abbrev pub has_movable_locals : Program → Bool
has_movable_locals p = each_passes (λ k at h test body. is_own_loop h.iterator body || locals_may_go p.declarations h.iterator test body) p.body

-- whether each local that a loop's body names is declared in it
abbrev pub declares_its_locals : List Declaration → ℕ → Stmt → Bool
declares_its_locals ds n body = names_pass (λ its x. is_no_local ds its x || declares x body) (n ∷ []) body

-- whether each that a loop names is, if it is not of own statements
abbrev pub has_declared_locals : Program → Bool
has_declared_locals p = each_passes (λ k at h test body. is_own_loop h.iterator body || declares_its_locals p.declarations h.iterator body) p.body

-- whether an expression checks no node variable
abbrev pub checks_none : Expr → Bool
checks_none (Live x at) = false
checks_none (Unary op at e) = checks_none e
checks_none (Binary op at a b) = checks_none a && checks_none b
checks_none (Both a b) = checks_none a && checks_none b
checks_none (Either a b) = checks_none a && checks_none b
checks_none (Choose c a b) = checks_none c && (checks_none a && checks_none b)
checks_none e = true

abbrev pub may_check_none : Option Expr → Bool
may_check_none None = true
may_check_none (Some e) = checks_none e

-- whether no expression of a body does
abbrev pub checks_nothing : Stmt → Bool
checks_nothing (Then a b) = checks_nothing a && checks_nothing b
checks_nothing (Declare k x e) = may_check_none e
checks_nothing (Assign k t e) = checks_none e
checks_nothing (Defer k t e) = checks_none e
checks_nothing (Combine k total r ts es) = list_all checks_none es
checks_nothing (If k c a b) = checks_none c && (checks_nothing a && checks_nothing b)
checks_nothing (Foreach k at h test body) = checks_none test && checks_nothing body
checks_nothing _ = true

-- whether no loop that is not of own statements does
abbrev pub has_no_checks : Program → Bool
has_no_checks p = each_passes (λ k at h test body. is_own_loop h.iterator body || checks_nothing body) p.body
