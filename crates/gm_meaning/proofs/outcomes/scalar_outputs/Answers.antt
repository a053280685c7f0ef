use Rattle.std.proofs.Common.{◌∙◌, ◌+◌, ◌-◌, ◌++◌, ◌∷◌, [], ℕ, List, Vec, map, ap, sym, Global}
use Rattle.std.specs.Prelude.{filter}
use Rattle.gm_value.specs.declared.values.Value.{Value}
use Rattle.gm_ast.specs.declared.tree.Sort.TheVariants as Sorts
use Rattle.gm_semantics.specs.Levels.{numbers_from}
use Rattle.gm_semantics.specs.Outcomes.{is_of}
use Rattle.gm_store.specs.Held.{scalar_of}
use Rattle.gm_meaning.proofs.Numbers.{listed-next, listed-left}
use Rattle.gm_meaning.proofs.outcomes.scalar_outputs.Goals as goal
use Rattle.gm_meaning.proofs.outcomes.scalar_outputs.Goals.{then-is_of+in_ok-push, else-is_of}

pub loop-x-preserved : goal.loop-x-preserved
loop-x-preserved c =
    let t = c.args.tree.now in
    let f = scalar_of c.args.store.now in
    let p = is_of t.declarations.items Sorts.Scalar in
    let x = c.loop-x.x in
    let end : ℕ = t.inputs + t.outputs in
    let before = c.loop-x.values.items in
    let left : List Value = map f (filter p (numbers_from (x + 1) (end - (x + 1)))) in
    elim c.if-is_of.branch [
      | then-is_of+in_ok-push w ↦
          ap (λ (vs : Vec Value Global). vs.items ++ left) w.values-is
          ∙ ap (λ (ys : List Value). ys ++ left) (w.in_ok-push.ensures.items ∙ ap (λ (v : Value). before ++ v ∷ []) w.scalar.ensures)
          ∙ listed-next f p x end before c.loop-x-test.true (sym c.is_of.ensures ∙ w.if-is_of.true) ∙ c.loop-x.invariant
      | else-is_of w ↦
          ap (λ (vs : Vec Value Global). vs.items ++ left) w.values-is
          ∙ listed-left f p x end before c.loop-x-test.true (sym c.is_of.ensures ∙ w.if-is_of.false) ∙ c.loop-x.invariant
    ]
