-- One more node has a mark or is another worker's, or not.
use Rattle.std.proofs.Common.{◌≡◌, ◌∙◌, Bool, ℕ, true, false, nat_eq, sym, arith, rules}
use Rattle.std.specs.Prelude.{slice_index_or, if◌then◌else◌}
use Rattle.gm_core.specs.Cores.{owner}
use Rattle.gm_core.proofs.LegalLemmas.{all-more, all-fails}
use Rattle.gm_core.proofs.legality.has_computed.Goals as goal

pub returns-then-not-done : goal.returns-then-not-done
returns-then-not-done c =
    let test : ℕ → Bool = λ n. if nat_eq (owner c.args.owners.now n) c.args.worker then slice_index_or c.args.marks.now n false else true in
    let fails : c.is_done-done.result ≡ false = search rules in
    sym (all-fails test c.args.nodes c.loop-node.node (omega (arith, c.loop-node-test.true)) (sym c.is_done-done.ensures ∙ fails))

pub loop-node-preserved : goal.loop-node-preserved
loop-node-preserved c =
    let test : ℕ → Bool = λ n. if nat_eq (owner c.args.owners.now n) c.args.worker then slice_index_or c.args.marks.now n false else true in
    let passes : c.is_done-done.result ≡ true = search rules in
    all-more test c.loop-node.node c.loop-node.invariant (sym c.is_done-done.ensures ∙ passes)
