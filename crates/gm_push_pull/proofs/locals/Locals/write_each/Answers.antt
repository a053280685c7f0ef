use Rattle.std.proofs.Common.{◌≡◌, ◌∙◌, ◌||◌, [], List, Bool, false, ◌+◌, sym, subst, drop, get_or}
use Rattle.gm_ast.specs.declared.tree.Target.{Target}
use Rattle.gm_push_pull.specs.declared.locals.Locals.{Locals}
use Rattle.gm_push_pull.specs.Tests.{holds}
use Rattle.gm_push_pull.specs.Locals.{is_known}
use Rattle.gm_push_pull.specs.Sweeps.{Demand, Grows, written}
use Rattle.gm_push_pull.proofs.Ors.{or-nothing}
use Rattle.gm_push_pull.proofs.Growing.{grows-none, write-next}
use Rattle.gm_push_pull.proofs.Items.{drop-at, nothing-left}
use Rattle.std.proofs.lemmas.Bool.{false≢true}
use Rattle.gm_push_pull.proofs.locals.Locals.write_each.Goals as goal

pub loop-target-preserved : goal.loop-target-preserved
loop-target-preserved c =
    let z = c.args.self.now in
    let self = c.loop-target.self in
    let r = c.args.reads in
    let targets = c.args.targets.now in
    let i = c.loop-target.target-index in
    let none = Target.Scalar 0 (record { line = 0; col = 0 }) in
    let target = get_or targets i none in
    let rest = drop-at targets i none c.loop-target-test.true in
    let left = subst (λ (ts : List Target). (new : Locals) (more : Bool) → Grows self new (λ t B. Demand (is_known z) B (written ts) (holds r t)) more → Grows z new (λ t B. Demand (is_known z) B (written targets) (holds r t)) (c.loop-target.changed || more)) rest c.loop-target.invariant.left in
    record {
      known = λ x. c.in_ok-changed.ensures.known x ∙ c.loop-target.invariant.known x;
      left = write-next c.loop-target.changed r targets target (drop (i + 1) targets) c.loop-target.invariant.known left c.in_ok-changed.ensures;
    }

pub returns : goal.returns
returns c =
    let z = c.args.self.now in
    let self = c.loop-target.self in
    let r = c.args.reads in
    let targets = c.args.targets.now in
    let none : drop c.loop-target.target-index targets ≡ [] = nothing-left targets c.loop-target.target-index c.loop-target-test.false in
    let done = grows-none self {D = λ t B. Demand (is_known z) B (written []) (holds r t)} (λ t x a b q. absurd (false≢true b)) in
    subst (λ b. Grows z self (λ t B. Demand (is_known z) B (written targets) (holds r t)) b) (or-nothing c.loop-target.changed)
    (c.loop-target.invariant.left self false (subst (λ (ts : List Target). Grows self self (λ t B. Demand (is_known z) B (written ts) (holds r t)) false) (sym none) done))
