use Rattle.std.specs.Prelude.{map, codes}
use Rattle.std.specs.Fmt.{decimal}
use Rattle.std.specs.List.{flat_map}
use Rattle.gm_image.specs.Views.{term}
use Rattle.gm_image_text.specs.Spelling.{term_words}
use Rattle.gm_image_text.proofs.Writing.{sent}
use Rattle.gm_image_text.proofs.put_rows.put_send.Goals as goal

pub returns : goal.returns
returns c =
    sent c.args.text.now.items c.put.new.text.items c.put_number.new.text.items c.put_expr.new.text.items c.put_exprs.new.text.items (codes "send") (decimal c.args.kind) (term_words (term c.args.to.now)) (flat_map term_words (map term c.args.values.now))
    c.in_ok-put.ensures c.in_ok-put_number.ensures c.in_ok-put_expr.ensures c.in_ok-put_exprs.ensures
