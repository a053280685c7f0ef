-- The core before any event.
use Rattle.std.proofs.Common.{◌∙◌, ℕ, refl, map, sym, subst, ap, length}
use Rattle.std.specs.Prelude.{IsTrue}
use Rattle.gm_image.specs.Soundness.{is_sound}
use Rattle.std.specs.List.{enumerate_from}
use Rattle.gm_machine.specs.Vertex.{Message}
use Rattle.std.proofs.lemmas.List.{length-replicate, length-map}
use Rattle.std.proofs.lemmas.List.FromFn.{length-enumerate_from}
use Rattle.gm_image.specs.Views.{program}
use Rattle.gm_image.specs.declared.images.Image.{Image}
use Rattle.gm_machine.specs.Machine.{start_fields}
use Rattle.gm_core.specs.CoreViews.{row_at, IsRound}
use Rattle.gm_core.proofs.CoreChanges.{starts-is}
use Rattle.gm_core.proofs.RowReads.{row-of_replicate}
use Rattle.gm_core.proofs.runs.begin.Goals as goal

pub returns-clause-wide : goal.returns-clause-wide
returns-clause-wide c =
    let g = c.args.setting.now.graph.now in
    let fields = c.in_ok-fields.fields.items in
    record {
      bounded = c.in_ok-master.ensures.bounded;
      fields =
          let same = sym (length-map fields (λ row. row.items)) ∙ ap length c.in_ok-fields.ensures ∙ length-map (enumerate_from 0 g.numbers) (start_fields (program c.image-image.result.now) g) ∙ length-enumerate_from 0 g.numbers in
          same;
      waiting = ap length c.in_ok-waiting.ensures ∙ length-replicate c.args.setting.now.workers _;
      round = subst (λ (n : ℕ). IsRound n c.args.setting.now.workers c.in_ok-round.round) c.node_count-nodes.ensures.count c.in_ok-round.ensures.wide;
    }

pub returns-clause-core : goal.returns-clause-core
returns-clause-core c =
    let p = program c.args.setting.now.image.now in
    let g = c.args.setting.now.graph.now in
    let round = c.in_ok-round.ensures in
    starts-is p g c.args.setting.now.owners.now c.args.setting.now.workers c.args.args.now c.args.turns _
    c.in_ok-master.ensures.next
    (c.in_ok-fields.ensures ∙ ap (λ (i : Image). map (start_fields (program i) g) (enumerate_from 0 g.numbers)) c.image-image.ensures.same)
    (λ w. ap (λ rows. row_at rows w) c.in_ok-waiting.ensures ∙ row-of_replicate {A = Message} c.args.setting.now.workers w)
    refl refl round.computed round.puts round.fault round.sent round.mail round.arrived

pub returns-clause-sound : goal.returns-clause-sound
returns-clause-sound c = subst (λ (i : Image). IsTrue (is_sound (program i))) c.image-image.ensures.same c.image-image.ensures.sound
