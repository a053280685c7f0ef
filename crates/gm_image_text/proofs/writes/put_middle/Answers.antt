use Rattle.std.specs.Prelude.{codes, ◌++◌}
use Rattle.gm_image_text.specs.Spelling.{listed, one_line, type_lines, kind_words, place_pair}
use Rattle.gm_image_text.proofs.Writing.{two_texts}
use Rattle.gm_image_text.proofs.writes.put_middle.Goals as goal

pub returns : goal.returns
returns c =
    let i = c.args.image.now in
    let t0 = c.args.text.now.items in
    let t1 = c.put_listed.new.text.items in
    let t2 = c.put_listed-2.new.text.items in
    let t3 = c.put_listed-3.new.text.items in
    let t4 = c.put_listed-4.new.text.items in
    let t5 = c.put_listed-5.new.text.items in
    let t6 = c.put_listed-6.new.text.items in
    let globals = listed (codes "globals") type_lines i.globals in
    let fields = listed (codes "fields") type_lines i.fields in
    let registers = listed (codes "registers") type_lines i.registers in
    let columns = listed (codes "columns") type_lines i.columns in
    let kinds = listed (codes "kinds") (one_line kind_words) i.kinds in
    let places = listed (codes "places") (one_line place_pair) i.places in
    two_texts t0 t1 t6 globals (fields ++ (registers ++ (columns ++ (kinds ++ places)))) c.in_ok-put_listed.ensures
    (two_texts t1 t2 t6 fields (registers ++ (columns ++ (kinds ++ places))) c.in_ok-put_listed-2.ensures
    (two_texts t2 t3 t6 registers (columns ++ (kinds ++ places)) c.in_ok-put_listed-3.ensures
    (two_texts t3 t4 t6 columns (kinds ++ places) c.in_ok-put_listed-4.ensures (two_texts t4 t5 t6 kinds places c.in_ok-put_listed-5.ensures c.in_ok-put_listed-6.ensures))))
