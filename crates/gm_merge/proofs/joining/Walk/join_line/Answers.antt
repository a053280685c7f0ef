use Rattle.std.proofs.Common.{◌≡◌, ◌∙◌, ◌+◌, Option, Some, None, List, refl, sym, ap, subst}
use Rattle.std.specs.Prelude.{slice_get}
use Rattle.gm_image.specs.Program.{Command, Step}
use Rattle.gm_machine.specs.Machine.{block_at}
use Rattle.gm_merge.specs.declared.joining.Kept.{Kept}
use Rattle.gm_merge.specs.Joining.{with_pair_joined}
use Rattle.gm_merge.specs.Walk.{step_of, IfKept}
use Rattle.gm_merge.proofs.Standing.{step-is, first-none, second-none}
use Rattle.gm_merge.proofs.Stepping.{walk-on, walk-forgets}
use Rattle.gm_merge.proofs.joining.Walk.join_line.Goals as goal

pub join_steps-requires : goal.join_steps-requires
join_steps-requires g c =
    let s = c.requires.1 in
    let p = g.image in
    let first : slice_get p.master c.args.i ≡ Some (Step c.in-Some.a) =
    step-is (slice_get p.master c.args.i) c.in-Some.a (ap (λ (ms : List Command). step_of (slice_get ms c.args.i)) (sym s.walk.master) ∙ sym c.in-Some.ensures) in
    let second : slice_get p.master (c.args.i + 1) ≡ Some (Step c.in-Some-step_at.b) =
    step-is (slice_get p.master (c.args.i + 1)) c.in-Some-step_at.b (ap (λ (ms : List Command). step_of (slice_get ms (c.args.i + 1))) (sym s.walk.master) ∙ sym c.in-Some-step_at.ensures) in (
      first,
      (
        second,
        (
          subst (λ (k : Option Kept). IfKept k (block_at p c.in-Some.a)) (sym c.take-kept.ensures.value) (s.kept c.in-Some.a first),
          (walk-forgets c.args.self.now _ c.args.plan.now c.args.i p refl refl refl c.take-kept.ensures.after s, c.take-kept.ensures.after),
        ),
      ),
    )

pub returns : goal.returns
returns g c = c.join_steps.ensures

pub returns-in_default : goal.returns-in_default
returns-in_default g c =
    let s = c.requires.1 in
    let p = g.image in
    walk-on _ c.args.plan.now c.args.i p _ c.take-kept.ensures.after (walk-forgets c.args.self.now _ c.args.plan.now c.args.i p refl refl refl c.take-kept.ensures.after s)
    (first-none p c.args.i (slice_get p.master c.args.i) (slice_get p.master (c.args.i + 1))
    (ap (λ (ms : List Command). step_of (slice_get ms c.args.i)) (sym s.walk.master) ∙ sym c.step_at.ensures ∙ c.in_default.is))

pub returns-in_default-step_at : goal.returns-in_default-step_at
returns-in_default-step_at g c =
    let s = c.requires.1 in
    let p = g.image in
    let first : slice_get p.master c.args.i ≡ Some (Step c.in-Some.a) =
    step-is (slice_get p.master c.args.i) c.in-Some.a (ap (λ (ms : List Command). step_of (slice_get ms c.args.i)) (sym s.walk.master) ∙ sym c.in-Some.ensures) in
    walk-on _ c.args.plan.now c.args.i p _ c.take-kept.ensures.after (walk-forgets c.args.self.now _ c.args.plan.now c.args.i p refl refl refl c.take-kept.ensures.after s)
    (ap (λ (m : Option Command). with_pair_joined p c.args.i m (slice_get p.master (c.args.i + 1))) first
    ∙ second-none p c.args.i c.in-Some.a (slice_get p.master (c.args.i + 1))
    (ap (λ (ms : List Command). step_of (slice_get ms (c.args.i + 1))) (sym s.walk.master) ∙ sym c.step_at-2.ensures ∙ c.in_default-step_at.is))
