-- The mail changes, and nothing else.
use Rattle.std.proofs.Common.{◌∙◌, ap, arith}
use Rattle.gm_core.specs.Mails.{Mail}
use Rattle.gm_core.specs.Cores.{Core}
use Rattle.gm_core.specs.CoreViews.{core_of}
use Rattle.gm_machine.specs.Vertex.{Message}
use Rattle.gm_core.proofs.effects.deliver.Goals as goal

pub hand_over-requires-clause-from : goal.hand_over-requires-clause-from
hand_over-requires-clause-from c = omega (arith, c.requires.wide.round.unsent.long, c.requires.from)

pub hand_over-requires-clause-row : goal.hand_over-requires-clause-row
hand_over-requires-clause-row c = omega (arith, c.requires.wide.round.unsent.each c.args.from c.requires.from, c.requires.to)

pub hand_over-requires-clause-to : goal.hand_over-requires-clause-to
hand_over-requires-clause-to c = omega (arith, c.requires.wide.round.incoming, c.requires.to)

pub returns-clause-wide : goal.returns-clause-wide
returns-clause-wide c =
    let round = c.requires.wide.round in
    record {
      bounded = c.requires.wide.bounded;
      fields = c.requires.wide.fields;
      waiting = c.requires.wide.waiting;
      round = record {
        marks = round.marks;
        marked = round.marked;
        unsent = c.in_ok-hand_over.ensures.square c.args.setting.now.workers round.unsent;
        incoming = c.in_ok-hand_over.ensures.long ∙ round.incoming;
        arrived = round.arrived;
      };
    }

pub returns-clause-core : goal.returns-clause-core
returns-clause-core c =
    let s : Core = core_of c.args.core.now in
    ap (λ (m : Mail Message). record s { mail = m }) c.in_ok-hand_over.ensures.mail
