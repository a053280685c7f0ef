use Rattle.std.proofs.Common.{refl}
use Rattle.gm_image.specs.Views.{program}
use Rattle.gm_input.specs.Outside.{outside}
use Rattle.gm_input.specs.Roads.{no_code}
use Rattle.gm_input.proofs.Answering.{said_on, said_weaker, weaker}
use Rattle.gm_input.proofs.Roading.{all_replied, bad_replied, unread_replied}
use Rattle.gm_exec.specs.Replies.{IsExecReply, image_road, untold}
use Rattle.gm_exec.specs.Runs.{IsUntold}
use Rattle.gm_exec.proofs.Fronts.{image_right}
use Rattle.gm_exec.proofs.TellingParts.{told-read}
use Rattle.gm_exec.proofs.replies.exec_steps.Goals as goal

pub returns-in_err-front-clause-reply : goal.returns-in_err-front-clause-reply
returns-in_err-front-clause-reply g c =
    let b = outside g.S.Source g.F.Files c.args.input.now c.args.files.now in
    let a = outside g.S.Source g.F.Files c.read_code.new.input c.read_code.new.files in
    said_on (λ s. IsExecReply c.args.image.now c.args.graph.now c.args.words.now c.args.options.now _ b a s.text.items s.status) c.from_residual.result c.in_err-front.field-0.0 c.from_residual.ensures.1
    (weaker _ _ c.in_err-front.field-0.0 (λ s said. no_code said) c.in_err-front.ensures.halt)

pub returns-in_err-front-clause-untold : goal.returns-in_err-front-clause-untold
returns-in_err-front-clause-untold g c =
    said_on (λ s. IsUntold s.status _ _) c.from_residual.result c.in_err-front.field-0.0 c.from_residual.ensures.1
    (weaker _ _ c.in_err-front.field-0.0 (λ s said. λ _. refl) c.in_err-front.ensures.halt)

pub returns-in_err-sound-clause-reply : goal.returns-in_err-sound-clause-reply
returns-in_err-sound-clause-reply g c =
    let b = outside g.S.Source g.F.Files c.args.input.now c.args.files.now in
    let a = outside g.S.Source g.F.Files c.read_code.new.input c.read_code.new.files in
    said_on (λ s. IsExecReply c.args.image.now c.args.graph.now c.args.words.now c.args.options.now _ b a s.text.items s.status) c.from_residual-in_err-sound.result c.in_err-sound.field-0.0 c.from_residual-in_err-sound.ensures.1
    (weaker _ _ c.in_err-sound.field-0.0
    (λ s said. bad_replied (image_road c.args.words.now c.args.options.now _) c.args.image.now c.args.graph.now b a c.in_ok-front.front.program.items c.in_ok-front.front.ahead.items c.in_ok-front.front.ended s.text.items s.status
    (image_right c.args.words.now c.args.options.now _) c.in_ok-front.ensures.read said)
    c.in_err-sound.ensures.halt)

pub returns-in_err-sound-clause-untold : goal.returns-in_err-sound-clause-untold
returns-in_err-sound-clause-untold g c =
    said_on (λ s. IsUntold s.status _ _) c.from_residual-in_err-sound.result c.in_err-sound.field-0.0 c.from_residual-in_err-sound.ensures.1
    (weaker _ _ c.in_err-sound.field-0.0 (λ s said. λ _. refl) c.in_err-sound.ensures.halt)

pub returns-in_err-text-clause-reply : goal.returns-in_err-text-clause-reply
returns-in_err-text-clause-reply g c =
    let b = outside g.S.Source g.F.Files c.args.input.now c.args.files.now in
    let m = outside g.S.Source g.F.Files c.read_code.new.input c.read_code.new.files in
    let a = outside g.S.Source g.F.Files c.read_graph.new.input c.read_graph.new.files in
    said_on (λ s. IsExecReply c.args.image.now c.args.graph.now c.args.words.now c.args.options.now _ b a s.text.items s.status) c.from_residual-in_err-text.result c.in_err-text.field-0.0 c.from_residual-in_err-text.ensures.1
    (weaker _ _ c.in_err-text.field-0.0
    (λ s said. unread_replied (image_road c.args.words.now c.args.options.now _) c.args.image.now c.args.graph.now b m a c.in_ok-front.front.program.items c.in_ok-front.front.ahead.items c.in_ok-front.front.ended
    (program c.in_ok-sound.sound) s.text.items s.status (image_right c.args.words.now c.args.options.now _) c.in_ok-front.ensures.read c.in_ok-sound.ensures.stands said)
    c.in_err-text.ensures.halt)

pub returns-in_err-text-clause-untold : goal.returns-in_err-text-clause-untold
returns-in_err-text-clause-untold g c =
    said_on (λ s. IsUntold s.status _ _) c.from_residual-in_err-text.result c.in_err-text.field-0.0 c.from_residual-in_err-text.ensures.1
    (weaker _ _ c.in_err-text.field-0.0 (λ s said. λ _. refl) c.in_err-text.ensures.halt)

pub returns-clause-reply : goal.returns-clause-reply
returns-clause-reply g c =
    let b = outside g.S.Source g.F.Files c.args.input.now c.args.files.now in
    let m = outside g.S.Source g.F.Files c.read_code.new.input c.read_code.new.files in
    let a = outside g.S.Source g.F.Files c.read_graph.new.input c.read_graph.new.files in
    said_weaker _ (λ s. IsExecReply c.args.image.now c.args.graph.now c.args.words.now c.args.options.now _ b a s.text.items s.status) c.run_text.result
    (λ s said. all_replied (image_road c.args.words.now c.args.options.now _) c.args.image.now c.args.graph.now b m a c.in_ok-front.front.program.items c.in_ok-front.front.ahead.items c.in_ok-front.front.ended
    c.in_ok-text.text.items (program c.in_ok-sound.sound) s.text.items s.status (image_right c.args.words.now c.args.options.now _) c.in_ok-front.ensures.read c.in_ok-sound.ensures.stands c.in_ok-text.ensures.read said)
    c.run_text.ensures.answer

pub returns-in_err-front-clause-part : goal.returns-in_err-front-clause-part
returns-in_err-front-clause-part g c = untold refl

pub returns-in_err-sound-clause-part : goal.returns-in_err-sound-clause-part
returns-in_err-sound-clause-part g c = untold refl

pub returns-in_err-text-clause-part : goal.returns-in_err-text-clause-part
returns-in_err-text-clause-part g c = untold refl

pub returns-clause-part : goal.returns-clause-part
returns-clause-part g c =
    let b = outside g.S.Source g.F.Files c.args.input.now c.args.files.now in
    let m = outside g.S.Source g.F.Files c.read_code.new.input c.read_code.new.files in
    let a = outside g.S.Source g.F.Files c.read_graph.new.input c.read_graph.new.files in
    told-read c.args.words.now c.args.options.now c.args.image.now c.args.graph.now b m a c.in_ok-front.front.program.items c.in_ok-front.front.ahead.items c.in_ok-front.front.ended
    c.in_ok-text.text.items (program c.in_ok-sound.sound) _ _ c.in_ok-front.ensures.read c.in_ok-sound.ensures.stands c.in_ok-text.ensures.read c.run_text.ensures.part
