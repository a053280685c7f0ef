use Rattle.std.proofs.lemmas.Result.{IfOk-weaker}
use Rattle.gm_input.specs.Outside.{outside}
use Rattle.gm_input.proofs.Naming.{text_of_front}
use Rattle.gm_driver.specs.Images.{IsCompiled, not_read, was_read}
use Rattle.gm_driver.specs.Fronts.{most_program}
use Rattle.gm_driver.proofs.Checking.{front_compiled}
use Rattle.gm_driver.proofs.programs.compile.Goals as goal

pub returns-in-Ok : goal.returns-in-Ok
returns-in-Ok g c =
    let before = outside g.S.Source g.F.Files c.args.input.now c.args.files.now in
    let after = outside g.S.Source g.F.Files c.read_named.new.input c.read_named.new.files in
    let w = text_of_front most_program c.args.name.now before after c.in-Ok.text.items c.in-Ok.ensures.read in
    IfOk-weaker c.compile_text.result _ _
    (λ a v.
    let said : IsCompiled c.in-Ok.text.items a.text.items a.status = v in
    was_read w.0 w.1.0 (front_compiled c.in-Ok.text.items w.0 a.text.items a.status w.1.1 said))
    c.compile_text.ensures

pub returns-in-Err : goal.returns-in-Err
returns-in-Err g c =
    let before = outside g.S.Source g.F.Files c.args.input.now c.args.files.now in
    let after = outside g.S.Source g.F.Files c.read_named.new.input c.read_named.new.files in
    IfOk-weaker c.unread.result _ _ (λ a h. not_read (h before after c.in-Err.ensures.unread)) c.unread.ensures
