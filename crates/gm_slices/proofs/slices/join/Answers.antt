use Rattle.std.proofs.Common.{map, ap, ◌∙◌, refl}
use Rattle.std.proofs.lemmas.List.{map-append}
use Rattle.gm_ast.specs.Tree.{stmt_of}
use Rattle.gm_slices.specs.Nests.{nest_of}
use Rattle.gm_slices.proofs.SliceWalks.{joins}
use Rattle.gm_slices.proofs.slices.join.Goals as goal

pub returns : goal.returns
returns c ss =
    let groups = c.args.groups.now in
    joins c.args.declarations.now (nest_of c.args.nest.now) (map stmt_of groups.loops.items) (map stmt_of groups.done.items) (map stmt_of groups.group.items) (map stmt_of c.append.new.self.items)
    (map stmt_of groups.waits.items) (map stmt_of c.append.new.other.items) ss _ (ap (map stmt_of) c.in_ok-append.ensures.items ∙ map-append stmt_of groups.group.items groups.waits.items)
    (ap (map stmt_of) c.in_ok-append.ensures.other_items) refl
