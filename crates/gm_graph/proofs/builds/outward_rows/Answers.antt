use Rattle.std.proofs.Common.{◌≡◌, ◌∙◌, arith, ap, length, subst, List, ℕ}
use Rattle.std.specs.Prelude.{IfOk}
use Rattle.std.proofs.lemmas.List.FromFn.{length-range_with_len}
use Rattle.gm_graph.specs.Rows.{IsGroupedWith, lines_of}
use Rattle.gm_graph.proofs.builds.outward_rows.Goals as goal

pub new-requires-clause-numbers_len : goal.new-requires-clause-numbers_len
new-requires-clause-numbers_len c =
    omega (arith, ap length c.in_ok-lines.ensures, c.len.ensures, length-range_with_len 0 c.len.result)

pub returns : goal.returns
returns c =
    let count : c.len.result ≡ length c.args.sources.items = omega (arith, c.len.ensures) in
    let P : List ℕ → Type 0 = λ l. IfOk c.new.result (IsGroupedWith c.args.nodes c.args.sources.items c.args.targets.items l) in
    subst P (c.in_ok-lines.ensures ∙ ap lines_of count) c.new.ensures
