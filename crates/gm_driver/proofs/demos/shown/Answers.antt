use Rattle.std.proofs.Common.{◌≡◌, ◌≤◌, ◌<◌, ◌∙◌, List, [], ◌∷◌, length, get_or, ap, sym, arith}
use Rattle.gm_value.specs.declared.values.Value.{Value}
use Rattle.gm_model.specs.declared.outcomes.Outcome.TheVariants.{Done}
use Rattle.gm_driver.proofs.DemoLemmas.{other-unended}
use Rattle.gm_driver.proofs.demos.shown.Goals as goal

-- a list of one item
one_item : {A : Type 0} (xs : List A) (v : A) → 1 ≤ length xs → length xs < 2 → v ≡ get_or xs 0 v → xs ≡ v ∷ []
one_item [] v some few is = absurd (omega (arith, some))
one_item (x ∷ []) v some few is = ap (λ y. y ∷ []) (sym is)
one_item (x ∷ (y ∷ ys)) v some few is = absurd (omega (arith, few))

pub returns-clause-one : goal.returns-clause-one
returns-clause-one c =
    let one = one_item c.as_slice.result.now c.values-item.result c.in-len1.len_at_least c.in-len1.len_below c.values-item.is in
    record {
      scalars = c.in-Done.scalars;
      result = c.in-Done.result;
      ended = c.in-Done.is ∙ ap (λ (ps : List (List Value)). Done c.in-Done.scalars c.in-Done.result ps c.in-Done.turns) (sym c.as_slice.ensures ∙ one);
    }

pub returns-in_default-clause-other : goal.returns-in_default-clause-other
returns-in_default-clause-other c = λ _. other-unended c.args.outcome.now c.in_default.not-Done
