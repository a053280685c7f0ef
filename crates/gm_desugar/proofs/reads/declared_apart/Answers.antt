use Rattle.std.proofs.Common.{◌≡◌, ◌+◌, sym, ap, ◌∙◌, Some, option_map}
use Rattle.gm_ast.specs.Program.{Declare}
use Rattle.gm_ast.specs.Tree.{expr_of}
use Rattle.gm_trees.specs.Places.{after_all}
use Rattle.gm_desugar.specs.Reads.{set_unless, after_reads, count_unless, count_reads, apart}
use Rattle.gm_desugar.proofs.InPlace.{apart-after}
use Rattle.gm_desugar.proofs.reads.declared_apart.Goals as goal

pub returns-in_ok-set-in-Some-clause-apart : goal.returns-in_ok-set-in-Some-clause-apart
returns-in_ok-set-in-Some-clause-apart c =
    let k = c.args.key in
    let n = c.args.next.now in
    let e = expr_of c.in-Some.value in
    let alone = c.is_single-alone.result in
    ap (λ r. after_all r (Declare k c.args.variable (Some (expr_of c.reads_unless.new.e)))) c.in_ok-set-in-Some.ensures.set
    ∙ ap (λ d. after_all (set_unless alone n k e) (Declare k c.args.variable (Some d))) c.in_ok-set-in-Some.ensures.told
    ∙ apart-after alone n k e (λ d. Declare k c.args.variable (Some d)) ∙ ap (λ a. after_reads a n k e (λ d. Declare k c.args.variable (Some d))) c.is_single-alone.ensures
    ∙ sym (ap (λ o. apart n (Declare k c.args.variable (option_map expr_of o))) c.in-Some.is)

pub returns-in_ok-set-in-Some-clause-next : goal.returns-in_ok-set-in-Some-clause-next
returns-in_ok-set-in-Some-clause-next c =
    let n = c.args.next.now in
    let e = expr_of c.in-Some.value in
    c.in_ok-set-in-Some.ensures.next ∙ ap (λ a. n + count_unless a e) c.is_single-alone.ensures
    ∙ sym (ap (λ o. n + count_reads (Declare c.args.key c.args.variable (option_map expr_of o))) c.in-Some.is)
