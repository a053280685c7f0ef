use Rattle.std.specs.Prelude.{map, codes}
use Rattle.gm_image.specs.Views.{block, command}
use Rattle.gm_image_text.specs.Spelling.{listed, one_line, block_lines, command_words}
use Rattle.gm_image_text.proofs.Writing.{two_texts, text_seen}
use Rattle.gm_image_text.proofs.writes.put_closing.Goals as goal

pub returns : goal.returns
returns c =
    let blocks = c.args.image.now.blocks in
    let master = c.args.image.now.master in
    two_texts c.args.text.now.items c.put_listed.new.text.items c.put_listed-2.new.text.items (listed (codes "blocks") block_lines (map block blocks)) (listed (codes "master") (one_line command_words) (map command master))
    (text_seen (codes "blocks") block block_lines blocks c.args.text.now.items c.put_listed.new.text.items c.in_ok-put_listed.ensures)
    (text_seen (codes "master") command (one_line command_words) master c.put_listed.new.text.items c.put_listed-2.new.text.items c.in_ok-put_listed-2.ensures)
