use Rattle.std.proofs.Common.{◌≡◌, ◌<◌, [], ◌∷◌, suc, length, map, refl, ap, sym, subst, ◌∙◌, arith, rules}
use Rattle.std.proofs.lemmas.List.{length-set}
use Rattle.std.specs.Prelude.{◌-◌, slice_index_or}
use Rattle.std.proofs.lemmas.Bool.Decides.{nat_tests}
use Rattle.gm_ast.specs.Program.{Skip, sequence}
use Rattle.gm_ast.specs.Tree.{stmt_of}
use Rattle.gm_dissect.proofs.Trees.{stmt_of-Block}
use Rattle.gm_slices.specs.Keeping.{branches, wanted, with_branches, with_wants}
use Rattle.gm_slices.specs.Sets.{set_of}
use Rattle.gm_slices.proofs.SliceWalks.{on-then}
use Rattle.gm_slices.proofs.Wanted.{Reached, begins-there, goes-before, ends-there, set-before, branches-block, branched-block, if-kept, if-needs, if-gone, if-rest}
use Rattle.gm_slices.proofs.keeping.+keeping.Goals as goal

pub keep_all-loop-left-init : goal.keep_all-loop-left-init
keep_all-loop-left-init t c =
    let n = c.args.ends.outer in
    let its = n ∷ c.args.ends.inner ∷ [] in
    let m = set_of c.args.needs.now in
    let ys = c.args.stmts.now.items in
    let long : c.len-left.result ≡ length ys = first_of (search rules, omega (arith, c.len-left.ensures)) in
    let r : Reached c.args.declarations.now its n c.args.new m stmt_of (map stmt_of ys) ys c.len-left.result m =
    subst (λ k. Reached c.args.declarations.now its n c.args.new m stmt_of (map stmt_of ys) ys k m) (sym long) (begins-there c.args.declarations.now its n c.args.new m stmt_of ys) in
    (r.within, refl, (λ k d h. refl), r)

pub keep_all-loop-left-preserved : goal.keep_all-loop-left-preserved
keep_all-loop-left-preserved t c =
    let n = c.args.ends.outer in
    let its = n ∷ c.args.ends.inner ∷ [] in
    let ds = c.args.declarations.now in
    let new = c.args.new in
    let at = c.loop-left in
    let i = at.left - 1 in
    let d = c.index_mut.result.now in
    let more : 0 < at.left = grind (arith, nat_tests) in
    let one : at.left ≡ suc (at.left - 1) = omega arith in
    let kept : stmt_of c.keep.new.s ≡ wanted ds its n new (stmt_of (slice_index_or at.stmts.items i d)) (set_of at.needs) = c.in_ok-keep.ensures.kept ∙ ap (λ s. wanted ds its n new (stmt_of s) (set_of at.needs)) c.index_mut.ensures.value in
    let needs : set_of c.keep.new.needs ≡ with_wants ds its n new (stmt_of (slice_index_or at.stmts.items i d)) (set_of at.needs) =
    c.in_ok-keep.ensures.needs ∙ ap (λ s. with_wants ds its n new (stmt_of s) (set_of at.needs)) c.index_mut.ensures.value in
    let r =
    goes-before ds its n new (set_of c.args.needs.now) stmt_of (map stmt_of c.args.stmts.now.items) at.stmts.items at.left i d c.keep.new.s (set_of at.needs) (set_of c.keep.new.needs) at.invariant.3 one kept needs in (
      r.within,
      length-set at.stmts.items i c.keep.new.s ∙ at.invariant.1,
      (λ k e h. set-before at.stmts.items i k c.keep.new.s e h ∙ at.invariant.2 k e (omega arith)),
      r,
    )

pub keep_all-returns-clause-kept : goal.keep_all-returns-clause-kept
keep_all-returns-clause-kept t c =
    let n = c.args.ends.outer in
    let its = n ∷ c.args.ends.inner ∷ [] in
    let ds = c.args.declarations.now in
    let m = set_of c.args.needs.now in
    let at = c.loop-left in
    let xs = map stmt_of c.args.stmts.now.items in
    let none : at.left ≡ 0 = grind (arith, nat_tests) in
    (ends-there ds its n c.args.new m stmt_of xs at.stmts.items (set_of at.needs) (subst (λ k. Reached ds its n c.args.new m stmt_of xs at.stmts.items k (set_of at.needs)) none at.invariant.3)).0

pub keep_all-returns-clause-needs : goal.keep_all-returns-clause-needs
keep_all-returns-clause-needs t c =
    let n = c.args.ends.outer in
    let its = n ∷ c.args.ends.inner ∷ [] in
    let ds = c.args.declarations.now in
    let m = set_of c.args.needs.now in
    let at = c.loop-left in
    let xs = map stmt_of c.args.stmts.now.items in
    let none : at.left ≡ 0 = grind (arith, nat_tests) in
    (ends-there ds its n c.args.new m stmt_of xs at.stmts.items (set_of at.needs) (subst (λ k. Reached ds its n c.args.new m stmt_of xs at.stmts.items k (set_of at.needs)) none at.invariant.3)).1

pub keep_part-returns-clause-kept : goal.keep_part-returns-clause-kept
keep_part-returns-clause-kept t c =
    let n = c.args.ends.outer in
    c.in_ok-keep.ensures.kept ∙ ap (λ s. wanted c.args.declarations.now (n ∷ c.args.ends.inner ∷ []) n c.args.new (stmt_of s) (set_of c.args.needs.now)) c.deref_mut.ensures.value

pub keep_part-returns-clause-needs : goal.keep_part-returns-clause-needs
keep_part-returns-clause-needs t c =
    let n = c.args.ends.outer in
    c.in_ok-keep.ensures.needs ∙ ap (λ s. with_wants c.args.declarations.now (n ∷ c.args.ends.inner ∷ []) n c.args.new (stmt_of s) (set_of c.args.needs.now)) c.deref_mut.ensures.value

pub keep_branches-returns-in-Block-clause-kept : goal.keep_branches-returns-in-Block-clause-kept
keep_branches-returns-in-Block-clause-kept t c =
    let n = c.args.ends.outer in
    let its = n ∷ c.args.ends.inner ∷ [] in
    let ds = c.args.declarations.now in
    let m = set_of c.args.needs.now in
    let xs = map stmt_of c.in-Block.field-0.items in
    let block : stmt_of c.args.s.now ≡ sequence xs = ap stmt_of c.in-Block.is ∙ stmt_of-Block c.in-Block.field-0 in
    block ∙ branches-block ds its n c.args.new xs m ∙ ap (λ s. branches ds its n c.args.new s m) (sym block)

pub keep_branches-returns-in-Block-clause-needs : goal.keep_branches-returns-in-Block-clause-needs
keep_branches-returns-in-Block-clause-needs t c =
    let n = c.args.ends.outer in
    let its = n ∷ c.args.ends.inner ∷ [] in
    let ds = c.args.declarations.now in
    let m = set_of c.args.needs.now in
    let xs = map stmt_of c.in-Block.field-0.items in
    let block : stmt_of c.args.s.now ≡ sequence xs = ap stmt_of c.in-Block.is ∙ stmt_of-Block c.in-Block.field-0 in
    branched-block ds its n c.args.new xs m ∙ ap (λ s. with_branches ds its n c.args.new s m) (sym block)

pub keep_if-returns-then-wanted-clause-kept : goal.keep_if-returns-then-wanted-clause-kept
keep_if-returns-then-wanted-clause-kept t c =
    let n = c.args.ends.outer in
    on-then c.keep_branches.result c.keep_branches.ensures.kept (λ e.
    e ∙ if-kept c.args.declarations.now (n ∷ c.args.ends.inner ∷ []) n c.args.new (stmt_of c.args.s.now) (set_of c.args.needs.now) c.requires (sym c.is_wanted-wanted.ensures ∙ c.if-wanted.true))

pub keep_if-returns-then-wanted-clause-needs : goal.keep_if-returns-then-wanted-clause-needs
keep_if-returns-then-wanted-clause-needs t c =
    let n = c.args.ends.outer in
    on-then c.keep_branches.result c.keep_branches.ensures.needs (λ e.
    e ∙ if-needs c.args.declarations.now (n ∷ c.args.ends.inner ∷ []) n c.args.new (stmt_of c.args.s.now) (set_of c.args.needs.now) c.requires (sym c.is_wanted-wanted.ensures ∙ c.if-wanted.true))

pub keep_if-returns-clause-kept : goal.keep_if-returns-clause-kept
keep_if-returns-clause-kept t c =
    let n = c.args.ends.outer in
    let gone : stmt_of c.put.new.s ≡ Skip = ap stmt_of c.put.ensures ∙ stmt_of-Block c.new.result ∙ ap (λ l. sequence (map stmt_of l)) c.new.ensures.items in
    gone ∙ if-gone c.args.declarations.now (n ∷ c.args.ends.inner ∷ []) n c.args.new (stmt_of c.args.s.now) (set_of c.args.needs.now) c.requires (sym c.is_wanted-wanted.ensures ∙ c.if-wanted.false)

pub keep_if-returns-clause-needs : goal.keep_if-returns-clause-needs
keep_if-returns-clause-needs t c =
    let n = c.args.ends.outer in
    if-rest c.args.declarations.now (n ∷ c.args.ends.inner ∷ []) n c.args.new (stmt_of c.args.s.now) (set_of c.args.needs.now) c.requires (sym c.is_wanted-wanted.ensures ∙ c.if-wanted.false)
