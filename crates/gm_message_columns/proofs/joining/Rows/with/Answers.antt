-- The rows of others stand behind these.
use Rattle.std.proofs.Common.{◌∙◌, ap, map, subst, sym}
use Rattle.gm_columns.specs.TypedRows.{typed_row}
use Rattle.gm_message_columns.specs.MessageTables.{HaveRows, all_values, types_of}
use Rattle.gm_message_columns.proofs.TableLemmas.{joined-types}
use Rattle.gm_message_columns.proofs.GrowthLemmas.{all-full, grown-sort}
use Rattle.gm_message_columns.proofs.JoiningLemmas.{all-directed}
use Rattle.gm_message_columns.proofs.joining.Rows.with.Goals as goal

pub invariant_of-result : goal.invariant_of-result
invariant_of-result c = (
  all-full c.self.inside.sort.kind c.self.inside.to.items c.extend_from_slice.new.self.items c.args.to.now (map typed_row c.self.inside.values.items) (map typed_row c.append_all.new.rows.items) c.values.result.now c.args.self c.args.more.now
      c.self.view_is c.values.ensures.columns c.requires.sort c.self.invariant.0 (subst (λ n. HaveRows n c.values.result.now) (sym c.requires.nodes) c.values.ensures.rows) c.in_ok-extend_from_slice.ensures.items c.in_ok-append_all.ensures,
  ap types_of c.in_ok-append_all.ensures ∙ joined-types (map typed_row c.self.inside.values.items) (all_values c.values.result.now) ∙ c.self.invariant.1,
)

pub returns-clause-sort : goal.returns-clause-sort
returns-clause-sort c =
    grown-sort c.self.inside.sort.kind c.self.inside.to.items c.extend_from_slice.new.self.items (map typed_row c.self.inside.values.items) (map typed_row c.append_all.new.rows.items) (all_values c.values.result.now) c.args.self c.args.more.now
    c.self.view_is c.requires.sort c.in_ok-append_all.ensures

pub returns-clause-added : goal.returns-clause-added
returns-clause-added c =
    all-directed c.self.inside.sort.kind c.self.inside.to.items c.extend_from_slice.new.self.items c.args.to.now (map typed_row c.self.inside.values.items) (map typed_row c.append_all.new.rows.items) c.values.result.now c.args.self c.args.more.now
    c.self.view_is c.values.ensures.columns c.requires.sort c.self.invariant.0 c.requires.nodes c.in_ok-extend_from_slice.ensures.items c.in_ok-append_all.ensures
