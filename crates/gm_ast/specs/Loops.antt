-- What the rules of races and of canonical form ask of variables, targets and ranges.
use Rattle.std.specs.Prelude.{ℕ, Bool, true, false, ◌||◌, if◌then◌else◌, List, [], ◌∷◌, Option, Some, None, option_map, slice_get}
use Rattle.gm_base.specs.declared.places.Place.{Place}
use Rattle.gm_base.specs.declared.rules.Refusal.{Refusal}
use Rattle.gm_base.specs.declared.rules.Rule.{Rule}
use Rattle.gm_base.specs.Rules.{broken_at}
use Rattle.gm_ast.specs.declared.tree.Declaration.{Declaration}
use Rattle.gm_ast.specs.declared.tree.Variable.{Variable}
use Rattle.gm_ast.specs.declared.tree.Sort.TheVariants.{Scalar, NodeProperty, EdgeProperty}
use Rattle.gm_ast.specs.declared.tree.Domain.{Domain}
use Rattle.gm_ast.specs.declared.tree.Domain.TheVariants.{Nodes, UpNbrs, DownNbrs}
use Rattle.gm_ast.specs.declared.tree.Target.{Target}
use Rattle.gm_ast.specs.Names.{is}

-- the violation, where a test holds
abbrev pub broken_if : Bool → Rule → Place → List Refusal
broken_if bad r at = if bad then broken_at r at ∷ [] else []

-- whether some member passes a test
abbrev pub any : {A : Type 0} → (A → Bool) → List A → Bool
any f [] = false
any f (x ∷ xs) = f x || any f xs

-- what is declared as a variable
abbrev pub declared_at : List Declaration → ℕ → Option Variable
declared_at ds x = option_map (λ d. d.variable) (slice_get ds x)

-- whether what is declared is a scalar
abbrev pub is_scalar : Option Variable → Bool
is_scalar None = false
is_scalar (Some v) = is Scalar v

-- whether what is declared is a property
abbrev pub is_property : Option Variable → Bool
is_property None = false
is_property (Some v) = is NodeProperty v || is EdgeProperty v

-- how many parallel loops are around a scalar's declaration
abbrev pub depth_of : Option Variable → ℕ
depth_of None = 0
depth_of (Some v) = v.depth

-- the variable that an assignment writes
abbrev pub target_variable : Target → ℕ
target_variable (Target.Scalar x at) = x
target_variable (Target.Property x p at) = p

-- the place of an assignment's first token
abbrev pub target_place : Target → Place
target_place (Target.Scalar x at) = at
target_place (Target.Property x p at) = at

-- whether a range is all nodes
abbrev pub is_nodes : Domain → Bool
is_nodes Nodes = true
is_nodes _ = false

-- whether a range asks for the levels of a search
abbrev pub asks_levels : Domain → Bool
asks_levels UpNbrs = true
asks_levels DownNbrs = true
asks_levels _ = false
