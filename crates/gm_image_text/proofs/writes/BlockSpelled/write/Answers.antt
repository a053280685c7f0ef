use Rattle.std.specs.Prelude.{map, codes}
use Rattle.gm_image.specs.Views.{handler, line}
use Rattle.gm_image_text.specs.Spelling.{listed, one_line, handler_lines, vertex_words}
use Rattle.gm_image_text.proofs.Writing.{two_texts, text_seen}
use Rattle.gm_image_text.proofs.writes.BlockSpelled.write.Goals as goal

pub returns : goal.returns
returns c =
    let handlers = c.args.self.now.handlers in
    let body = c.args.self.now.body in
    two_texts c.args.text.now.items c.put_listed.new.text.items c.put_listed-2.new.text.items (listed (codes "block") handler_lines (map handler handlers)) (listed (codes "body") (one_line vertex_words) (map line body))
    (text_seen (codes "block") handler handler_lines handlers c.args.text.now.items c.put_listed.new.text.items c.in_ok-put_listed.ensures)
    (text_seen (codes "body") line (one_line vertex_words) body c.put_listed.new.text.items c.put_listed-2.new.text.items c.in_ok-put_listed-2.ensures)
