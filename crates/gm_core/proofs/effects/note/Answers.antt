-- One more node has computed.
use Rattle.std.proofs.Common.{◌∙◌, true, refl}
use Rattle.std.specs.Prelude.{slice_set}
use Rattle.std.proofs.lemmas.List.{length-set}
use Rattle.gm_model.specs.Graphs.{node_count}
use Rattle.gm_core.proofs.CoreChanges.{marks-noted}
use Rattle.gm_core.proofs.effects.note.Goals as goal

pub returns-clause-wide : goal.returns-clause-wide
returns-clause-wide c =
    let old = c.args.round.now in
    record {
      marks = length-set old.marks.items c.args.node true ∙ c.requires.wide.marks;
      marked =
          marks-noted (node_count c.args.setting.now.graph.now) c.args.node old.computed.items c.push.new.self.items old.marks.items (slice_set old.marks.items c.args.node true)
          c.requires.wide.marks c.requires.node c.requires.wide.marked c.in_ok-push.ensures.items refl;
      unsent = c.in_ok-post.ensures.square;
      incoming = c.requires.wide.incoming;
      arrived = c.requires.wide.arrived;
    }

pub returns-clause-mail : goal.returns-clause-mail
returns-clause-mail c = c.in_ok-post.ensures.mail c.args.round.now.incoming.items
