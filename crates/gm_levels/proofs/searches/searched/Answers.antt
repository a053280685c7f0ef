use Rattle.std.proofs.Common.{arith, ◌≡◌, ◌<◌, ◌∙◌, ◌+◌, length, refl, ap, subst}
use Rattle.std.proofs.lemmas.Bool.Decides.{nat_tests}
use Rattle.std.proofs.lemmas.List.{nil_from_length}
use Rattle.gm_levels.specs.Searches.{AreMarked, targets_of}
use Rattle.gm_levels.specs.declared.searches.Search.{Search}
use Rattle.gm_levels.specs.declared.searches.Reached.{Reached}
use Rattle.gm_levels.proofs.Searching.{begun, round, reached, found_within}
use Rattle.gm_levels.proofs.searches.searched.Goals as goal

pub loop-alloc-init : goal.loop-alloc-init
loop-alloc-init c =
    let g = c.args.graph.now in
    begun g c.args.root c.node_count.ensures.known c.requires c.in_ok-search.search (rw (← c.node_count.ensures.count) c.in_ok-search.ensures.cells) c.in_ok-search.ensures.found

pub mark_from-requires-clause-frontier : goal.mark_from-requires-clause-frontier
mark_from-requires-clause-frontier c =
    let same = c.as_slice.ensures.value ∙ ap (λ v. v.items) c.replace-frontier.ensures.value in
    found_within c.args.graph.now c.args.root c.loop-alloc.count c.loop-alloc.search c.as_slice.result.now c.node_count.ensures.known c.loop-alloc.invariant same

pub loop-alloc-preserved : goal.loop-alloc-preserved
loop-alloc-preserved c =
    let g = c.args.graph.now in
    let s = c.loop-alloc.search in
    let same : c.as_slice.result.now ≡ s.found.items = c.as_slice.ensures.value ∙ ap (λ v. v.items) c.replace-frontier.ensures.value in
    let more : 0 < length s.found.items = grind (arith, nat_tests) in
    let cleared : Search = record { cells = s.cells; found = c.replace-frontier.new.dest } in
    let marked : AreMarked (targets_of g c.as_slice.result.now) (c.loop-alloc.count + 1) cleared c.mark_from.new.self = c.in_ok-mark_from.ensures in
    round g c.args.root c.node_count.ensures.known c.requires c.loop-alloc.count s cleared c.mark_from.new.self c.loop-alloc.invariant more refl (ap (λ v. v.items) c.replace-frontier.ensures.after ∙ c.new-in-loop-alloc.ensures.items) (subst (λ ns. AreMarked (targets_of g ns) (c.loop-alloc.count + 1) cleared c.mark_from.new.self) same marked)

pub returns : goal.returns
returns c =
    let s = c.loop-alloc.search in
    let empty : length s.found.items ≡ 0 = grind (arith, nat_tests) in
    let all : Reached = record { cells = s.cells; count = c.loop-alloc.count } in
    reached c.args.graph.now c.args.root c.node_count.ensures.known c.requires c.loop-alloc.count s all c.loop-alloc.invariant (nil_from_length s.found.items empty) refl refl
