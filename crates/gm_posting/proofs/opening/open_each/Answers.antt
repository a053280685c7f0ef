use Rattle.std.proofs.Common.{ap, ◌+◌, ◌∙◌, length, sym, subst}
use Rattle.gm_posting.specs.Rows.{OpensAll}
use Rattle.std.proofs.lemmas.List.{length_push}
use Rattle.gm_posting.proofs.RowLemmas.{opens-none, opens-more}
use Rattle.gm_posting.proofs.opening.open_each.Goals as goal

pub loop-own-init : goal.loop-own-init
loop-own-init g c = record {
  count = ap (λ (l : _). length l) c.new-mailboxes.ensures.items;
  each = subst (λ (ids : _). OpensAll (length c.args.rows.now) ids c.args.rows.now) (sym c.new-mailboxes.ensures.items) (opens-none c.args.rows.now c.requires.empty);
}

pub loop-own-preserved : goal.loop-own-preserved
loop-own-preserved g c =
    let grown = c.in_ok-push.ensures.items in
    record {
      count = ap (λ (l : _). length l) grown ∙ length_push c.loop-own.mailboxes.items c.in_ok-mailbox.mailbox ∙ ap (λ n. n + 1) c.loop-own.invariant.count;
      each =
          subst (λ (ids : _). OpensAll (length c.args.rows.now) ids c.open_one.new.rows) (sym grown)
          (opens-more (length c.args.rows.now) c.loop-own.own c.loop-own.mailboxes.items c.in_ok-mailbox.mailbox c.loop-own.rows c.open_one.new.rows c.loop-own.invariant.count c.loop-own.invariant.each c.in_ok-mailbox.ensures);
    }
