use Rattle.std.proofs.Common.{◌≡◌, ◌∙◌, ◌||◌, Bool, List, take, map, sym, ap}
use Rattle.gm_verify.proofs.Lists.{taken-all}
use Rattle.gm_verify.proofs.Slots.{or-assoc, or-none}
use Rattle.gm_image.specs.Parts.{is_among}
use Rattle.gm_image.specs.Views.{line}
use Rattle.gm_merge.specs.Registers.{line_reads, reads_some}
use Rattle.gm_merge.proofs.Restarting.{reads-more}
use Rattle.gm_merge.proofs.registers.add_read.Goals as goal

pub loop-vertex_line-init : goal.loop-vertex_line-init
loop-vertex_line-init c = λ r. or-none (is_among r c.args.reads.now.items)

pub loop-vertex_line-preserved : goal.loop-vertex_line-preserved
loop-vertex_line-preserved c = λ r.
    let xs = c.args.lines.now in
    let i = c.loop-vertex_line.vertex_line-index in
    let x = c.vertex_line-item.result in
    c.in_ok-add_line_read.ensures r
    ∙ ap (λ (b : Bool). b || line_reads (line x) r) (c.loop-vertex_line.invariant r)
    ∙ or-assoc (is_among r c.args.reads.now.items) (reads_some (map line (take i xs)) r) (line_reads (line x) r)
    ∙ ap (λ (b : Bool). is_among r c.args.reads.now.items || b) (sym (reads-more xs i x r c.loop-vertex_line-test.true c.vertex_line-item.is))

pub returns : goal.returns
returns c = λ r.
    c.loop-vertex_line.invariant r
    ∙ ap (λ xs. is_among r c.args.reads.now.items || reads_some (map line xs) r) (taken-all c.args.lines.now c.loop-vertex_line.vertex_line-index c.loop-vertex_line-test.false)
