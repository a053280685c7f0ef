use Rattle.gm_input.specs.Outside.{outside}
use Rattle.gm_input.specs.Roads.{no_code}
use Rattle.gm_input.proofs.Answering.{said_on, said_weaker, weaker}
use Rattle.gm_input.proofs.Roading.{all_replied, bad_replied, unread_replied}
use Rattle.gm_driver.specs.Runs.{IsRunReply, program_road}
use Rattle.gm_driver.proofs.Checking.{program_right}
use Rattle.gm_driver.proofs.runs.run_steps.Goals as goal

pub returns-in_err-front : goal.returns-in_err-front
returns-in_err-front g c =
    let b = outside g.S.Source g.F.Files c.args.input.now c.args.files.now in
    let a = outside g.S.Source g.F.Files c.read_code.new.input c.read_code.new.files in
    said_on (λ s. IsRunReply c.args.prog.now c.args.graph.now c.args.words.now c.args.options.now b a s.text.items s.status) c.from_residual.result c.in_err-front.field-0.0 c.from_residual.ensures.1
    (weaker _ _ c.in_err-front.field-0.0 (λ s said. no_code said) c.in_err-front.ensures.halt)

pub returns-in_err-it : goal.returns-in_err-it
returns-in_err-it g c =
    let b = outside g.S.Source g.F.Files c.args.input.now c.args.files.now in
    let a = outside g.S.Source g.F.Files c.read_code.new.input c.read_code.new.files in
    said_on (λ s. IsRunReply c.args.prog.now c.args.graph.now c.args.words.now c.args.options.now b a s.text.items s.status) c.from_residual-in_err-it.result c.in_err-it.field-0.0 c.from_residual-in_err-it.ensures.1
    (weaker _ _ c.in_err-it.field-0.0
    (λ s said. bad_replied (program_road c.args.words.now c.args.options.now) c.args.prog.now c.args.graph.now b a c.in_ok-front.front.program.items c.in_ok-front.front.ahead.items c.in_ok-front.front.ended s.text.items s.status
    (program_right c.args.words.now c.args.options.now) c.in_ok-front.ensures.read said)
    c.in_err-it.ensures.halt)

pub returns-in_err-text : goal.returns-in_err-text
returns-in_err-text g c =
    let b = outside g.S.Source g.F.Files c.args.input.now c.args.files.now in
    let m = outside g.S.Source g.F.Files c.read_code.new.input c.read_code.new.files in
    let a = outside g.S.Source g.F.Files c.read_graph.new.input c.read_graph.new.files in
    said_on (λ s. IsRunReply c.args.prog.now c.args.graph.now c.args.words.now c.args.options.now b a s.text.items s.status) c.from_residual-in_err-text.result c.in_err-text.field-0.0 c.from_residual-in_err-text.ensures.1
    (weaker _ _ c.in_err-text.field-0.0
    (λ s said. unread_replied (program_road c.args.words.now c.args.options.now) c.args.prog.now c.args.graph.now b m a c.in_ok-front.front.program.items c.in_ok-front.front.ahead.items c.in_ok-front.front.ended
    c.in_ok-it.ensures.runs.source s.text.items s.status (program_right c.args.words.now c.args.options.now) c.in_ok-front.ensures.read c.in_ok-it.ensures.runs.stands said)
    c.in_err-text.ensures.halt)

pub returns : goal.returns
returns g c =
    let b = outside g.S.Source g.F.Files c.args.input.now c.args.files.now in
    let m = outside g.S.Source g.F.Files c.read_code.new.input c.read_code.new.files in
    let a = outside g.S.Source g.F.Files c.read_graph.new.input c.read_graph.new.files in
    said_weaker _ (λ s. IsRunReply c.args.prog.now c.args.graph.now c.args.words.now c.args.options.now b a s.text.items s.status) c.run_over.result
    (λ s said. all_replied (program_road c.args.words.now c.args.options.now) c.args.prog.now c.args.graph.now b m a c.in_ok-front.front.program.items c.in_ok-front.front.ahead.items c.in_ok-front.front.ended
    c.in_ok-text.text.items c.in_ok-it.ensures.runs.source s.text.items s.status (program_right c.args.words.now c.args.options.now) c.in_ok-front.ensures.read c.in_ok-it.ensures.runs.stands c.in_ok-text.ensures.read (said c.in_ok-it.ensures.runs.source c.in_ok-it.ensures.runs.runs))
    c.run_over.ensures

pub run_over-requires-clause-rows : goal.run_over-requires-clause-rows
run_over-requires-clause-rows g c = λ _ _. c.in_ok-it.ensures.runs.rows
