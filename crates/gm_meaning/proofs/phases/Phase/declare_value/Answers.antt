use Rattle.std.proofs.Common.{◌∙◌, ap, sym}
use Rattle.gm_semantics.specs.declared.slots.Slot.TheVariants.{Scalar}
use Rattle.gm_semantics.specs.Expressions.{Answer}
use Rattle.gm_semantics.specs.Stores.{Store, write}
use Rattle.gm_semantics.specs.Statements.{State, with_store, with_value}
use Rattle.gm_meaning.specs.declared.phases.Course.TheVariants.{Goes, Faults}
use Rattle.gm_meaning.specs.Phases.{state_of}
use Rattle.gm_meaning.proofs.Going.{runs-as, runs-same, runs-store, with_held}
use Rattle.gm_meaning.proofs.phases.Phase.declare_value.Goals as goal

pub returns-in-Ok : goal.returns-in-Ok
returns-in-Ok c =
    let f = c.args.setting.now in
    let x = c.args.x in
    let v = c.in-Ok.value in
    runs-as f c.args.self.now (with_held c.args.self.now c.set_scalar.new.self) Goes (λ s. with_store s (write s.store (Scalar x) v)) _
    (runs-store f c.args.self.now c.set_scalar.new.self (λ (s : Store). write s (Scalar x) v) c.set_scalar.ensures.store c.set_scalar.ensures.undo c.set_scalar.ensures.shape c.requires.rest)
    (let s : State = state_of f c.args.self.now in ap (λ (a : Answer). with_value a (λ w. with_store s (write s.store (Scalar x) w))) (sym c.in-Ok.is ∙ c.value.ensures))

pub returns-in-Err : goal.returns-in-Err
returns-in-Err c =
    let f = c.args.setting.now in
    let x = c.args.x in
    let s : State = state_of f c.args.self.now in
    runs-same f c.args.self.now (Faults c.in-Err.fault) _ (ap (λ (a : Answer). with_value a (λ w. with_store s (write s.store (Scalar x) w))) (sym c.in-Err.is ∙ c.value.ensures)) c.requires.rest
