use Rattle.std.proofs.Common.{◌≡◌, [], ◌∷◌, ◌++◌, map, ap, rules}
use Rattle.std.specs.Prelude.{filter}
use Rattle.gm_ast.specs.Tree.{stmt_of}
use Rattle.gm_slices.specs.Keeping.{may_serve_again}
use Rattle.gm_slices.specs.Nests.{nest_of}
use Rattle.gm_slices.proofs.Done.{ends-lean}
use Rattle.gm_slices.proofs.SliceWalks.{on-then}
use Rattle.gm_slices.proofs.slices.end_group.Goals as goal

pub returns : goal.returns
returns c ss =
    let groups = c.args.groups.now in
    let n = c.args.nest.now.around.head.iterator in
    let again = may_serve_again c.args.declarations.now (n ∷ c.args.nest.now.within.head.iterator ∷ []) n in
    let empty : map stmt_of c.replace-group.new.dest.items ≡ [] = first_of (cc, search rules) in
    on-then c.keep_done.result c.keep_done.ensures (λ e.
    let done : map stmt_of c.keep_done.new.done.items ≡ map stmt_of groups.done.items ++ filter again (map stmt_of groups.group.items) = first_of (cc, search rules) in
    ends-lean c.args.declarations.now (nest_of c.args.nest.now) (map stmt_of groups.loops.items) (map stmt_of c.push_slice.new.loops.items) (map stmt_of groups.done.items) (map stmt_of c.keep_done.new.done.items)
    (map stmt_of groups.group.items) (map stmt_of c.replace-group.new.dest.items) (map stmt_of c.new-none.result.items) (map stmt_of groups.waits.items) ss c.in_ok-push_slice.ensures (ap (map stmt_of) c.new-none.ensures.items)
    done empty)
