use Rattle.std.proofs.Common.{◌≡◌, ◌-◌, suc, arith}
use Rattle.gm_image_text.specs.Reading.{words_left}
use Rattle.gm_image_text.proofs.Shorter.{term_step}
use Rattle.gm_image_text.proofs.expressions.+expressions.Goals as goal

pub expression-returns : goal.expression-returns
expression-returns _ c =
    let more : c.args.levels ≡ suc (c.args.levels - 1) = omega (arith, c.if-levels-eq0.false) in
    rw (term_step c.args.levels (c.args.levels - 1) (words_left c.args.words) (words_left c.in_ok-head.rest) c.in_ok-head.head more c.in_ok-head.ensures) c.behind_head.ensures

pub behind_head-returns-in-Leaf : goal.behind_head-returns-in-Leaf
behind_head-returns-in-Leaf _ c = rw (c.in-Leaf.is, c.leaf_expr.ensures)

pub behind_head-returns-in-Constant : goal.behind_head-returns-in-Constant
behind_head-returns-in-Constant _ c = rw c.in-Constant.is c.read_constant.ensures

pub behind_head-returns-in-Indexed : goal.behind_head-returns-in-Indexed
behind_head-returns-in-Indexed _ c = rw c.in-Indexed.is c.read_indexed.ensures

pub behind_head-returns-in-One : goal.behind_head-returns-in-One
behind_head-returns-in-One _ c = rw c.in-One.is c.read_one.ensures

pub behind_head-returns-in-PlacedOne : goal.behind_head-returns-in-PlacedOne
behind_head-returns-in-PlacedOne _ c = rw c.in-PlacedOne.is c.read_placed_one.ensures

pub behind_head-returns-in-Two : goal.behind_head-returns-in-Two
behind_head-returns-in-Two _ c = rw c.in-Two.is c.read_two.ensures

pub behind_head-returns-in-PlacedTwo : goal.behind_head-returns-in-PlacedTwo
behind_head-returns-in-PlacedTwo _ c = rw c.in-PlacedTwo.is c.read_placed_two.ensures

pub behind_head-returns-in-Choice : goal.behind_head-returns-in-Choice
behind_head-returns-in-Choice _ c = rw c.in-Choice.is c.read_choice.ensures
