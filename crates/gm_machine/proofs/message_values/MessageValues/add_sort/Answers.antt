-- Cells without a sort, and a sort with its cells.
use Rattle.std.proofs.Common.{[], ◌∙◌, sym}
use Rattle.std.proofs.lemmas.List.{append-nil}
use Rattle.gm_machine.specs.MessageValues.{cells_of}
use Rattle.gm_machine.proofs.message_values.MessageValues.add_sort.Goals as goal

pub returns-in_err-push_cells-clause-grows : goal.returns-in_err-push_cells-clause-grows
returns-in_err-push_cells-clause-grows c = record {
  sorts = [];
  cells = c.in_err-push_cells.ensures.part.0;
  words = [];
  sorts_are = sym (append-nil c.args.self.now.sorts.items);
  cells_are = c.in_err-push_cells.ensures.part.1;
  words_are = sym (append-nil c.args.self.now.words.items);
}

pub returns-in_err-push-clause-grows : goal.returns-in_err-push-clause-grows
returns-in_err-push-clause-grows c = record {
  sorts = [];
  cells = cells_of 0 c.args.values.now;
  words = [];
  sorts_are = c.in_err-push.ensures.items ∙ sym (append-nil c.args.self.now.sorts.items);
  cells_are = c.in_ok-push_cells.ensures.added;
  words_are = sym (append-nil c.args.self.now.words.items);
}
