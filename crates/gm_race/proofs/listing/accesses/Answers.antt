use Rattle.std.proofs.Common.{List, map, rules, subst, sym, ap, ◌∙◌}
use Rattle.std.proofs.lemmas.List.Sorted.{answers_always}
use Rattle.gm_ast.specs.declared.accesses.Access.{Access}
use Rattle.gm_ast.specs.Accesses.{accesses}
use Rattle.gm_ast.specs.Tree.{program_of}
use Rattle.gm_race.specs.Views.{access_of}
use Rattle.gm_race.specs.Listing.{key_of, IsListingOf}
use Rattle.gm_race.proofs.Listed.{listing-sorted}
use Rattle.gm_race.proofs.listing.accesses.Goals as goal

pub returns : goal.returns
returns c =
    let by = answers_always _ _ _ (λ f a r g k. search rules) in
    let sort = c.in_ok-sort_by_key.ensures in
    let all = c.in_ok-found.ensures ∙ ap (λ t. accesses (program_of t)) c.tree.ensures.tree in
    let listed = c.in_ok-listed.ensures ∙ ap (map access_of) c.deref.ensures.value in
    let h = listing-sorted c.in_ok-found.found.items c.sort_by_key.new.self.items sort.permutation (sort.sorted key_of by) (sort.stable key_of by) in
    subst (λ (xs : List Access). IsListingOf xs c.in_ok-listed.listed.items) all
    (subst (λ (ys : List Access). IsListingOf (map access_of c.in_ok-found.found.items) ys) (sym listed) h)
