use Rattle.std.proofs.Common.{◌++◌, ap, ◌∙◌, map}
use Rattle.std.specs.Prelude.{box_value}
use Rattle.gm_ast.specs.Tree.{expr_of, stmt_of}
use Rattle.gm_layouts.specs.Where.{where_of}
use Rattle.gm_lowering.specs.Plans.{way_of}
use Rattle.gm_message.specs.Views.{as_way}
use Rattle.gm_places.specs.Sites.{spots_at}
use Rattle.gm_places.specs.Spots.{as_spot}
use Rattle.gm_places.proofs.Added.{choice_added, reduce_added, stmt_of-If, stmt_of-Reduce}
use Rattle.gm_places.proofs.spreads.+spreading.Goals as goal

pub add_spots_of-returns-in_ok-add_reduction-in-Reduce : goal.add_spots_of-returns-in_ok-add_reduction-in-Reduce
add_spots_of-returns-in_ok-add_reduction-in-Reduce t c =
    let site = c.args.site.now in
    let r = c.in-Reduce in
    let ways =
    c.way_of-way.ensures ∙ ap (λ ds. way_of ds site.node c.deref.result.now) c.declarations.ensures
    ∙ ap (λ ts. way_of (where_of site.layout.now).declarations site.node ts) c.deref.ensures.value
    in
    rw (r.is, stmt_of-Reduce)
    (reduce_added site r.key r.total r.reduce r.targets.items (map expr_of r.values.items) (as_way c.way_of-way.result)
    (map as_spot c.args.spots.now.items) (map as_spot c.add_spots_in_all.new.spots.items) (map as_spot c.add_reduction.new.spots.items) ways
    (rw c.deref-in-Reduce.ensures.value at c.in_ok-add_spots_in_all-in-Reduce.ensures)
    (rw c.deref-in-Reduce-2.ensures.value at c.in_ok-add_reduction-in-Reduce.ensures))

pub add_spots_of-returns-in_ok-add_spots_of-in-If-2 : goal.add_spots_of-returns-in_ok-add_spots_of-in-If-2
add_spots_of-returns-in_ok-add_spots_of-in-If-2 t c =
    let site = c.args.site.now in
    let r = c.in-If in
    let first = c.in_ok-add_spots_of-in-If.ensures ∙ ap (λ s. map as_spot c.add_spots_in-in-If.new.spots.items ++ spots_at site (stmt_of s)) c.deref-in-If.ensures in
    let second = c.in_ok-add_spots_of-in-If-2.ensures ∙ ap (λ s. map as_spot c.add_spots_of.new.spots.items ++ spots_at site (stmt_of s)) c.deref-in-If-2.ensures in
    rw (r.is, stmt_of-If)
    (choice_added site r.key (expr_of r.test) (stmt_of (box_value r.yes)) (stmt_of (box_value r.no)) (map as_spot c.args.spots.now.items)
    (map as_spot c.add_spots_in-in-If.new.spots.items) (map as_spot c.add_spots_of.new.spots.items) (map as_spot c.add_spots_of-in-If.new.spots.items)
    c.in_ok-add_spots_in-in-If.ensures first second)
