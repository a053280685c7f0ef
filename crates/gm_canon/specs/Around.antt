-- What stands around a part, as a walker holds it.
use Rattle.std.specs.Prelude.{◌≡◌, ℕ, ◌-◌, List, [], ◌∷◌, map, take, length, Option, Some, None}
use Rattle.gm_base.specs.declared.places.Place.{Place}
use Rattle.gm_base.specs.declared.rules.Refusal.{Refusal}
use Rattle.gm_base.specs.declared.rules.Rule.{Rule}
use Rattle.gm_base.specs.Rules.{broken_at, least_from}
use Rattle.gm_ast.specs.Canonical as Canonical
use Rattle.gm_ast.specs.Canonical.{Around}
use Rattle.gm_canon.specs.declared.loops.Code.{Code}
use Rattle.gm_canon.specs.declared.loops.Code.TheVariants.{Body, Search, Filter, Reduction, Group}
use Rattle.gm_canon.specs.declared.loops.Loop.{Loop}
use Rattle.gm_canon.specs.declared.walks.Walker.{Walker}

-- which parallel code a loop makes of a part
abbrev pub code_of : Code → Canonical.Code
code_of Body = Canonical.Body
code_of Search = Canonical.Search
code_of Filter = Canonical.Filter
code_of Reduction = Canonical.Reduction
code_of Group = Canonical.Group'

-- a parallel loop
abbrev pub loop_of : Loop → Canonical.Loop
loop_of l = record { code = code_of l.code; iterator = l.iterator }

-- what stands around the part that a walker judges
abbrev pub around_of : Walker → Around
around_of w = record { declarations = w.declarations.now; loops = map loop_of w.loops.items }

-- the violation of a rule at a place, if there is one
abbrev pub refused_as : Option Rule → Place → List Refusal
refused_as None at = []
refused_as (Some r) at = broken_at r at ∷ []

-- a walker that has noted some violations, around which the same stands as before
pub record Notes (old new : Walker) (broken : List Refusal) : Type 0 where
  pub least : new.least ≡ least_from old.least broken
  pub same : around_of new ≡ around_of old

-- a walker that has entered a loop
pub record Enters (old new : Walker) (code : Code) (iterator : ℕ) : Type 0 where
  pub least : new.least ≡ old.least
  pub inside : around_of new ≡ Canonical.within (around_of old) (code_of code) iterator

-- a walker that has left the innermost loop
pub record Leaves (old new : Walker) : Type 0 where
  pub least : new.least ≡ old.least
  pub declarations : new.declarations ≡ old.declarations
  pub loops : map loop_of new.loops.items ≡ take (length (map loop_of old.loops.items) - 1) (map loop_of old.loops.items)
