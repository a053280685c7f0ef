-- How a checker notes violations, and types layer by layer.
use Rattle.std.specs.Prelude.{◌≡◌, ℕ, Bool, List, ◌++◌, fold, take, option_map}
use Rattle.gm_base.specs.declared.rules.Refusal.{Refusal}
use Rattle.gm_base.specs.declared.rules.Rule.TheVariants.{T4}
use Rattle.gm_base.specs.Rules.{least_from}
use Rattle.gm_ast.specs.declared.kinds.Role.{Role}
use Rattle.gm_ast.specs.declared.surface.PropertyLayer.{PropertyLayer}
use Rattle.gm_ast.specs.declared.surface.SpelledType.{SpelledType}
use Rattle.gm_ast.specs.Surface.{SurfaceType, SurfaceGroup, Plain}
use Rattle.gm_ast.specs.Procedures.{types_broken}
use Rattle.gm_types.specs.Views.{env_of}
use Rattle.gm_ast.specs.SurfaceTree.{name_of, layer_over}
use Rattle.gm_ast.specs.Judged.{unless}
use Rattle.gm_ast.specs.Names.{Env}
use Rattle.gm_ast.specs.Statements.{plain_fits, property_fits, graph_named}
use Rattle.gm_types.specs.declared.names.Checker.{Checker}

-- a checker that has noted some violations, and is otherwise as before
pub record Notes (old new : Checker) (broken : List Refusal) : Type 0 where
  pub least : new.least ≡ least_from old.least broken
  pub rest : new ≡ record old { least = new.least }

-- the type within all but the first layers
abbrev pub type_upto : SpelledType → ℕ → SurfaceType
type_upto t n = fold layer_over (Plain t.place t.word (option_map name_of t.graph)) (take n t.layers.items)

-- what a property breaks by itself
abbrev pub layer_broken : PropertyLayer → Role → Bool → Env → List Refusal
layer_broken l role of_nodes env = unless (property_fits role env.depth l.bearer of_nodes) T4 l.place ++ graph_named env (option_map name_of l.graph)

-- what an innermost type breaks
abbrev pub plain_broken : SpelledType → Role → Env → List Refusal
plain_broken t role env = unless (plain_fits role t.word) T4 t.place ++ graph_named env (option_map name_of t.graph)

-- a walk over groups whose types are judged
pub record Noting (role : Role) (initial self : Checker) (all rest : List SurfaceGroup) : Type 0 where
  pub least : least_from self.least (types_broken role (env_of initial) rest) ≡ least_from initial.least (types_broken role (env_of initial) all)
  pub same : self ≡ record initial { least = self.least }
