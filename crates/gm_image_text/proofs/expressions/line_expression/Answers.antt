use Rattle.gm_image_text.specs.Reading.{expression_at}
use Rattle.gm_image_text.proofs.expressions.line_expression.Goals as goal

pub returns : goal.returns
unfolding expression_at
returns c = c.expression.ensures
