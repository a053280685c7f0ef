-- The passes up to loops that go one way each, one after another, and what a program must have for them.
use Rattle.std.specs.Prelude.{◌≡◌, true}
use Rattle.gm_ast.specs.Program.{Program}
use Rattle.gm_dissect.specs.AllDeferred.{without_deferred}
use Rattle.gm_locals.specs.AllGroups.{with_groups_kept}
use Rattle.gm_cut.specs.Lean.{in_lean_slices}
use Rattle.gm_cut.specs.Parts.{in_pieces}
use Rattle.gm_parting.specs.Apart.{with_statements_apart}
use Rattle.gm_parting.specs.Declared.{with_locals_declared}
use Rattle.gm_parting.specs.Filters.{with_saved_filters}
use Rattle.gm_parting.specs.Iterators.{with_iterators_placed, has_iterators_apart}
use Rattle.gm_parting.specs.Locals.{has_no_checks}
use Rattle.gm_parting.specs.Nodes.{with_nodes_read}
use Rattle.gm_parting.specs.Numbers.{with_conditions_apart}
use Rattle.gm_parting.specs.Tuples.{has_even_tuples}

-- iterators are placed by what they iterate, bodies declare the locals that they name, deferred writes go to copies, then filters to a property and conditions to locals, and then bodies read nodes first and locals go to properties together
abbrev pub prepared : Program → Program
prepared p = with_groups_kept (with_nodes_read (with_conditions_apart (with_saved_filters (without_deferred (with_locals_declared (with_iterators_placed p))))))

-- and then bodies go to pieces, the statements of inner loops that go several ways stand apart, and these go to slices
abbrev pub dissected : Program → Program
dissected p = in_lean_slices (with_statements_apart (in_pieces (prepared p)))

-- no variable iterates a loop over nodes and an inner loop, and in each loop that is not of own statements no node variable is checked, and tuples are even
pub record MayBePrepared (p : Program) : Type 0 where
  pub apart : has_iterators_apart p ≡ true
  pub checks : has_no_checks p ≡ true
  pub tuples : has_even_tuples p ≡ true
