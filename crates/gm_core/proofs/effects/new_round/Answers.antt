-- Nothing has happened.
use Rattle.std.proofs.Common.{◌∙◌, false, sym, ap, length}
use Rattle.gm_core.specs.Cores.{is_in}
use Rattle.std.specs.Prelude.{slice_index_or}
use Rattle.std.proofs.lemmas.List.{length-replicate}
use Rattle.gm_core.proofs.RowReads.{nothing-is, square-replicate, replicate-default}
use Rattle.gm_core.proofs.effects.new_round.Goals as goal

pub returns-clause-mail : goal.returns-clause-mail
returns-clause-mail c = nothing-is c.args.workers c.in_ok-unsent.unsent.items c.in_ok-incoming.incoming.items c.in_ok-unsent.ensures c.in_ok-incoming.ensures

pub returns-clause-arrived : goal.returns-clause-arrived
returns-clause-arrived c = λ w. ap (λ marks. slice_index_or marks w false) c.in_ok-arrived.ensures ∙ replicate-default c.args.workers w false

pub returns-clause-wide : goal.returns-clause-wide
returns-clause-wide c = record {
  marks = ap length c.in_ok-marks.ensures ∙ length-replicate c.args.nodes false;
  marked = λ n in_range. ap (λ marks. slice_index_or marks n false) c.in_ok-marks.ensures ∙ replicate-default c.args.nodes n false ∙ ap (is_in n) (sym c.new.ensures.items);
  unsent = square-replicate c.args.workers c.in_ok-unsent.unsent.items c.in_ok-unsent.ensures;
  incoming = ap length c.in_ok-incoming.ensures ∙ length-replicate c.args.workers _;
  arrived = ap length c.in_ok-arrived.ensures ∙ length-replicate c.args.workers false;
}
