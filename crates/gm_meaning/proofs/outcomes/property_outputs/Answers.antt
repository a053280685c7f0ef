use Rattle.std.proofs.Common.{◌∙◌, ◌+◌, ◌-◌, ◌++◌, ◌∷◌, [], ℕ, List, Vec, map, ap, sym, Global}
use Rattle.std.specs.Prelude.{filter}
use Rattle.gm_value.specs.declared.values.Value.{Value}
use Rattle.gm_columns.specs.declared.columns.Values.{Values}
use Rattle.gm_ast.specs.declared.tree.Sort.TheVariants as Sorts
use Rattle.gm_semantics.specs.Levels.{numbers_from, nodes}
use Rattle.gm_semantics.specs.Outcomes.{is_of}
use Rattle.gm_store.specs.Held.{node_of}
use Rattle.gm_meaning.specs.Ends.{values_below}
use Rattle.gm_meaning.proofs.Numbers.{listed-next, listed-left}
use Rattle.gm_meaning.proofs.outcomes.property_outputs.Goals as goal
use Rattle.gm_meaning.proofs.outcomes.property_outputs.Goals.{then-is_of+in_ok-values_of+in_ok-push, else-is_of}

pub loop-x-preserved : goal.loop-x-preserved
loop-x-preserved c =
    let t = c.args.tree.now in
    let store = c.args.store.now in
    let f : ℕ → List Value = λ y. map (node_of store y) (nodes c.args.graph.now) in
    let p = is_of t.declarations.items Sorts.NodeProperty in
    let x = c.loop-x.x in
    let end : ℕ = t.inputs + t.outputs in
    let before : List (List Value) = c.loop-x.lists.items in
    let left : List (List Value) = map f (filter p (numbers_from (x + 1) (end - (x + 1)))) in
    elim c.if-is_of.branch [
      | then-is_of+in_ok-values_of+in_ok-push w ↦
          ap (λ (vs : Vec Values Global). vs.items ++ left) w.lists-is
          ∙ ap (λ (ys : List (List Value)). ys ++ left)
          (w.in_ok-push.ensures.items ∙ ap (λ (v : List Value). before ++ v ∷ []) (w.in_ok-values_of.ensures ∙ ap (λ (n : ℕ). values_below store x n) w.node_count.ensures.count))
          ∙ listed-next f p x end before c.loop-x-test.true (sym c.is_of.ensures ∙ w.if-is_of.true) ∙ c.loop-x.invariant
      | else-is_of w ↦
          ap (λ (vs : Vec Values Global). vs.items ++ left) w.lists-is
          ∙ listed-left f p x end before c.loop-x-test.true (sym c.is_of.ensures ∙ w.if-is_of.false) ∙ c.loop-x.invariant
    ]
