use Rattle.std.proofs.Common.{◌∙◌, ap, sym}
use Rattle.gm_value.specs.declared.values.Value.{Value}
use Rattle.gm_ast.specs.declared.tree.Sort.{Sort}
use Rattle.gm_semantics.specs.declared.slots.Slot.TheVariants.{Scalar}
use Rattle.gm_semantics.specs.Stores.{write, fill}
use Rattle.gm_semantics.specs.Statements.{declared}
use Rattle.gm_store.specs.Held.{store_of}
use Rattle.gm_meaning.proofs.Going.{declared-other}
use Rattle.gm_meaning.proofs.phases.set_first.Goals as goal

pub returns-in-Scalar-clause-store : goal.returns-in-Scalar-clause-store
returns-in-Scalar-clause-store c = λ edge.
    let x = c.args.x in
    let s = store_of edge c.args.store.now in
    c.set_scalar.ensures.store edge ∙ ap (λ (v : Value). write s (Scalar x) v) c.zero.ensures ∙ ap (λ (sort : Sort). declared sort c.args.variable.vtype x s) (sym c.in-Scalar.is)

pub returns-in-NodeProperty-clause-store : goal.returns-in-NodeProperty-clause-store
returns-in-NodeProperty-clause-store c = λ edge.
    let x = c.args.x in
    let s = store_of edge c.args.store.now in
    c.fill.ensures.store edge ∙ ap (λ (v : Value). fill s x v) c.zero-in-NodeProperty.ensures ∙ ap (λ (sort : Sort). declared sort c.args.variable.vtype x s) (sym c.in-NodeProperty.is)

pub returns-in_default-clause-store : goal.returns-in_default-clause-store
returns-in_default-clause-store c = λ edge.
    sym (declared-other c.args.variable.sort c.args.variable.vtype c.args.x (store_of edge c.args.store.now) c.in_default.not-Scalar c.in_default.not-NodeProperty)
