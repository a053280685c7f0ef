use Rattle.std.proofs.Common.{◌≡◌, [], ◌∷◌, ◌++◌, map, sym, ap, ◌∙◌}
use Rattle.std.proofs.lemmas.List.{map-append}
use Rattle.gm_ast.specs.Tree.{stmt_of}
use Rattle.gm_slices.specs.Nests.{nest_of}
use Rattle.gm_slices.specs.SliceWalks.{loops_behind, placed}
use Rattle.gm_slices.proofs.SliceWalks.{on-then, places, waits-more}
use Rattle.gm_slices.proofs.slices.take_told.Goals as goal

pub returns-then-still : goal.returns-then-still
returns-then-still c ss =
    let groups = c.args.groups.now in
    let ds = c.args.declarations.now in
    let nest = nest_of c.args.nest.now in
    let loops = map stmt_of groups.loops.items in
    let done = map stmt_of groups.done.items in
    let group = map stmt_of groups.group.items in
    let waits : map stmt_of c.push.new.self.items ≡ map stmt_of groups.waits.items ++ (stmt_of c.args.s ∷ []) = ap (map stmt_of) c.in_ok-push.ensures.items ∙ map-append stmt_of groups.waits.items (c.args.s ∷ []) in
    ap (λ w. loops ++ loops_behind ds nest groups.fresh done group w ss) waits
    ∙ waits-more ds nest loops done group (map stmt_of groups.waits.items) ss (stmt_of c.args.s) groups.fresh (sym c.requires ∙ c.if-still.true)

pub returns : goal.returns
returns c ss =
    let groups = c.args.groups.now in
    let ds = c.args.declarations.now in
    let nest = nest_of c.args.nest.now in
    let loops = map stmt_of groups.loops.items in
    let done = map stmt_of groups.done.items in
    let group = map stmt_of groups.group.items in
    let waits : map stmt_of c.push.new.self.items ≡ map stmt_of groups.waits.items ++ (stmt_of c.args.s ∷ []) = ap (map stmt_of) c.in_ok-push.ensures.items ∙ map-append stmt_of groups.waits.items (c.args.s ∷ []) in
    on-then c.place.result (c.place.ensures ss) (λ e.
    e ∙ ap (λ w. loops ++ placed ds nest groups.fresh done group w ss) waits
    ∙ places ds nest loops done group (map stmt_of groups.waits.items) ss (stmt_of c.args.s) groups.fresh (sym c.requires ∙ c.if-still.false))
