-- The law of locals that are kept in properties, also where they are reduced together with others.
use Rattle.std.proofs.Common.{◌≡◌, ◌≢◌, arith, ℕ, cond, refl, sym, ap, subst, ◌∙◌, Some, Ok}
use Rattle.std.proofs.lemmas.Bool.{ne_eqb}
use Rattle.gm_base.specs.declared.places.Place.{Place}
use Rattle.gm_value.specs.declared.values.Value.TheVariants.{At}
use Rattle.gm_value.specs.Bag.{IsIn}
use Rattle.gm_value.specs.Numbers.{zero_of}
use Rattle.gm_ast.specs.declared.tree.Key.{Key}
use Rattle.gm_ast.specs.Program.{Var}
use Rattle.gm_semantics.specs.declared.slots.Slot.TheVariants.{Node}
use Rattle.gm_semantics.specs.Stores.{Store}
use Rattle.gm_semantics.specs.Faults.{then_with}
use Rattle.gm_semantics.specs.Levels.{nodes}
use Rattle.gm_semantics.specs.Expressions.{evaluated, plain}
use Rattle.gm_semantics.specs.Iterations.{Loop}
use Rattle.gm_semantics.specs.Loops.{iteration}
use Rattle.gm_semantics.specs.Frames.{Agree, AlikeStores}
use Rattle.gm_loop_laws.specs.Masks.{looped}
use Rattle.gm_loop_laws.specs.Localised.{moved_in, moved}
use Rattle.gm_loop_laws.proofs.Alone.{nodes-below}
use Rattle.gm_loop_laws.proofs.Masks.{agree-trans, seen}
use Rattle.gm_loop_laws.proofs.Endings.{done-alike}
use Rattle.gm_loop_laws.proofs.Setting.{put, sets, put-there, put-other}
use Rattle.gm_locals.specs.Beside.{LocalsMoveBeside}
use Rattle.gm_locals.proofs.LinkedBeside.{linked-iteration}

-- what the property is set to
local-known : (loop : Loop) (x : ℕ) (key : Key) (at : Place) (t : Store) → x ≢ loop.outer → (y : ℕ) → IsIn y (nodes loop.graph) → evaluated (Var x at) (seen loop key t y) ≡ plain (Ok (t.scalar x))
local-known loop x key at t apart y i = ap (λ c. plain (Ok (cond c (At (Some y)) (t.scalar x)))) (ne_eqb loop.outer x (λ e. apart (sym e)))

-- the law of locals that are kept in properties
pub locals-move-beside : LocalsMoveBeside
locals-move-beside = λ j loop x q key at test body local iterates apart fresh deep quiet reads names plain moves s t agree.
    let n = loop.outer in
    let zero = zero_of (loop.vtype x) in
    let known = local-known loop x key at t apart in
    let u = put loop key q at (Var x at) t (λ y. t.scalar x) known in
    let agrees : Agree j t u = record { scalar = λ y b. refl; node = λ p y b. put-other loop key q at (Var x at) t (λ y. t.scalar x) known p y (ne_eqb q p (λ e. omega arith)); edge = λ p e b. refl } in
    let both = agree-trans j s t u agree agrees in
    subst (λ r. AlikeStores j (looped loop key test body s) (then_with r (looped loop key (moved_in x q n at zero test) (moved x q n at zero body))))
    (sym (sets loop key q at (Var x at) t (λ y. t.scalar x) known))
    (done-alike j (iteration loop key test body s) (iteration loop key (moved_in x q n at zero test) (moved x q n at zero body) u) (nodes loop.graph) s u
    (λ k i.
    let l = linked-iteration j loop x q k at local iterates apart fresh deep quiet (nodes-below loop.graph k i) key test body s u plain reads moves names both
    (put-there loop key q at (Var x at) t (λ y. t.scalar x) known k i ∙ agree.scalar x local) in
    record { node = λ p y b. l.shows (Node p y) b; with_outermost = l.with_outermost; deferred = l.deferred; fault = l.fault; below = l.outer_below }) both)
