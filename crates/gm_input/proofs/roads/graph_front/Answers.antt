use Rattle.std.proofs.Common.{◌≡◌, refl, ap, rules, true, false}
use Rattle.std.specs.Prelude.{Err}
use Rattle.std.proofs.lemmas.Result.{IfOk-weaker}
use Rattle.gm_input.specs.Names.{IsNameStop, name_stop}
use Rattle.gm_input.specs.Outside.{outside}
use Rattle.gm_input.specs.Roads.{AreApart, behind, named}
use Rattle.gm_input.specs.Texts.{standard_input}
use Rattle.gm_input.proofs.Naming.{front_unread, passed-on}
use Rattle.gm_input.proofs.roads.graph_front.Goals as goal

pub returns-in_err-read_rest-clause-unread : goal.returns-in_err-read_rest-clause-unread
returns-in_err-read_rest-clause-unread g c =
    let yes : c.are_input.result ≡ true = c.if-are_input.true in
    let both : (c.args.code.now ≡ standard_input) × (c.args.graph.now ≡ standard_input) = c.are_input.ensures.0 (search rules) in
    let b = outside g.S.Source g.F.Files c.args.input.now c.args.files.now in
    let a = outside g.S.Source g.F.Files c.read_rest.new.source c.args.files.now in
    passed-on (IsNameStop c.args.graph.now b a) c.from_residual.result (name_stop c.in_err-read_rest.field-0.0) c.from_residual.ensures.1
    (front_unread c.args.graph.now b a c.in_err-read_rest.field-0.0 both.1 (record { map = refl; quiet = refl; found = refl }) (λ same. c.in_err-read_rest.ensures.failed (ap Err same)))

pub returns-in_ok-read_rest-clause-read : goal.returns-in_ok-read_rest-clause-read
returns-in_ok-read_rest-clause-read g c =
    let yes : c.are_input.result ≡ true = c.if-are_input.true in
    let both : (c.args.code.now ≡ standard_input) × (c.args.graph.now ≡ standard_input) = c.are_input.ensures.0 (search rules) in
    behind both.0 both.1 c.in_ok-read_rest.ensures.ok c.in_ok-read_rest.ensures.taken (c.in_ok-read_rest.ensures.quiet (λ e. cc)) (record { map = refl; quiet = refl; found = refl })

pub returns-else-are_input-clause-read : goal.returns-else-are_input-clause-read
returns-else-are_input-clause-read g c =
    let other : c.are_input.result ≡ false = c.if-are_input.false in
    let two : AreApart c.args.code.now c.args.graph.now = λ is also. absurd (let h = c.are_input.ensures.1 (is, also) in search rules) in
    IfOk-weaker c.read_named.result _ _ (λ v front. named two front) c.read_named.ensures.read
