use Rattle.std.proofs.Common.{◌≡◌, ◌∷◌, ◌+◌, [], List, ap, sym, subst, drop, map}
use Rattle.std.specs.Prelude.{flat_map}
use Rattle.std.proofs.lemmas.List.{map-append}
use Rattle.gm_ast.specs.Program.{Expr}
use Rattle.gm_ast.specs.Tree.{expr_of}
use Rattle.gm_ast.specs.Ways.{mentions}
use Rattle.gm_push_pull.specs.Webs.{Adds, link_from}
use Rattle.gm_push_pull.proofs.Webs.{adds-none, adds-then}
use Rattle.gm_push_pull.proofs.Items.{drop-item, nothing-left}
use Rattle.gm_push_pull.proofs.web.Web.link_values.Goals as goal

pub loop-value-init : goal.loop-value-init
loop-value-init c = λ new g. g

pub loop-value-preserved : goal.loop-value-preserved
loop-value-preserved c =
    let values = c.args.values.now in
    let i = c.loop-value.value-index in
    let item = c.value-item.result in
    let site = c.args.site in
    let rest : map expr_of (drop i values) ≡ expr_of item ∷ map expr_of (drop (i + 1) values) = ap (map expr_of) (drop-item values i item c.loop-value-test.true c.value-item.is) in
    let here = mentions (expr_of item) in
    let more = flat_map mentions (map expr_of (drop (i + 1) values)) in
    λ new g. c.loop-value.invariant new (subst (λ (es : List Expr). Adds c.loop-value.self new (map (link_from site) (flat_map mentions es))) (sym rest)
    (subst (Adds c.loop-value.self new) (sym (map-append (link_from site) here more)) (adds-then (map (link_from site) here) (map (link_from site) more) c.in_ok-link_mentions.ensures g)))

pub returns : goal.returns
returns c =
    let values = c.args.values.now in
    let none : map expr_of (drop c.loop-value.value-index values) ≡ [] = ap (map expr_of) (nothing-left values c.loop-value.value-index c.loop-value-test.false) in
    c.loop-value.invariant c.loop-value.self (subst (λ (es : List Expr). Adds c.loop-value.self c.loop-value.self (map (link_from c.args.site) (flat_map mentions es))) (sym none) (adds-none c.loop-value.self))
