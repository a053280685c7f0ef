-- One more cell.
use Rattle.std.proofs.Common.{◌+◌, [], ◌∷◌, ◌++◌, ap, ◌∙◌}
use Rattle.gm_value.specs.declared.values.Value.{Value}
use Rattle.gm_value.specs.declared.values.Value.TheVariants as values
use Rattle.std.specs.Prelude.{pos}
use Rattle.gm_machine.specs.MessageValues.{width}
use Rattle.gm_machine.proofs.WordLemmas.{cells-more, words-more}
use Rattle.gm_machine.proofs.message_values.push_cells.Goals as goal

pub loop-value-preserved : goal.loop-value-preserved
loop-value-preserved c =
    let d : Value = values.I32 (pos 0) in
    record {
      added = cells-more c.args.cells.now.items c.loop-value.cells.items c.push.new.self.items c.args.values.now c.loop-value.value-index c.loop-value.at d c.loop-value-test.true c.loop-value.invariant.added c.loop-value.invariant.at
          (c.in_ok-push.ensures.items ∙ ap (λ t. c.loop-value.cells.items ++ record { vtype = t; at = c.loop-value.at } ∷ []) c.word_type-vtype.ensures);
      at = c.in-Some.ensures ∙ ap (λ t. c.loop-value.at + width t) c.word_type-vtype.ensures ∙ words-more c.args.values.now c.loop-value.value-index c.loop-value.at d c.loop-value-test.true c.loop-value.invariant.at;
    }
