use Rattle.std.proofs.Common.{◌≡◌, List, [], ◌∷◌, refl, arith}
use Rattle.std.proofs.lemmas.Grind.{common_steps}
use Rattle.gm_ast.specs.declared.tree.Target.{Target}
use Rattle.gm_lowering.specs.Bodies.{image_targets}
use Rattle.gm_lowering.specs.Layouts.{Layout}
use Rattle.gm_bodies.proofs.bodies.slots.Goals as goal

-- no values, no slots
no-values : (c : Layout) (ts : List Target) → image_targets c ts [] ≡ []
no-values c [] = refl
no-values c (t ∷ ts) = refl

pub returns : goal.returns
returns c = grind (arith, common_steps, no-values)
