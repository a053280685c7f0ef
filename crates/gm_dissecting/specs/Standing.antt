-- Statements that stand under saved conditions, as the walk puts them there.
use Rattle.std.specs.Prelude.{ℕ, Bool, true, false, if◌then◌else◌, List}
use Rattle.gm_base.specs.declared.places.Place.{Place}
use Rattle.gm_value.specs.declared.operations.Op1.TheVariants.{Not}
use Rattle.gm_ast.specs.declared.tree.Declaration.{Declaration}
use Rattle.gm_ast.specs.Program.{Expr, Var, Unary, Stmt, Foreach}
use Rattle.gm_cut.specs.Slices.{goes_one_way}
use Rattle.gm_parting.specs.Apart.{apart}

-- that a local holds, or that it does not
abbrev pub condition : Bool → ℕ → Place → Expr
condition true y at = Var y at
condition false y at = Unary Not at (Var y at)

-- the body of a loop over nodes n: an inner loop whose statements stand apart where it goes several ways, or as it is
abbrev pub inner_apart : List Declaration → ℕ → ℕ → Stmt → Stmt
inner_apart ds first n (Foreach j here inner test body) = Foreach j here inner test (if goes_one_way ds n inner test body then body else apart here first body)
inner_apart ds first n body = body
