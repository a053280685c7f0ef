use Rattle.std.proofs.Common.{◌≡◌, ℕ, length, vec_len, refl, ap, sym, subst, rules, arith, true, false}
use Rattle.std.specs.Prelude.{Err}
use Rattle.gm_input.specs.Fronts.{GaveAtMost, farthest}
use Rattle.gm_input.specs.Names.{IsNameStop, name_stop}
use Rattle.gm_input.specs.Outside.{outside}
use Rattle.gm_input.specs.Roads.{AreApart, front_read, whole_read}
use Rattle.gm_input.specs.Texts.{standard_input}
use Rattle.gm_input.proofs.Naming.{front_unread, passed-on}
use Rattle.gm_input.proofs.roads.code_front.Goals as goal

pub returns-in_err-read_front-clause-unread : goal.returns-in_err-read_front-clause-unread
returns-in_err-read_front-clause-unread g c =
    let yes : c.are_input.result ≡ true = c.if-are_input.true in
    let both : (c.args.code.now ≡ standard_input) × (c.args.graph.now ≡ standard_input) = c.are_input.ensures.0 (search rules) in
    let b = outside g.S.Source g.F.Files c.args.input.now c.args.files.now in
    let a = outside g.S.Source g.F.Files c.read_front.new.source c.args.files.now in
    passed-on (IsNameStop c.args.code.now b a) c.from_residual.result (name_stop c.in_err-read_front.field-0.0) c.from_residual.ensures.1
    (front_unread c.args.code.now b a c.in_err-read_front.field-0.0 both.0 (record { map = refl; quiet = refl; found = refl }) (λ same. c.in_err-read_front.ensures.failed (ap Err same)))

pub returns-in_ok-read_front-clause-read : goal.returns-in_ok-read_front-clause-read
returns-in_ok-read_front-clause-read g c =
    let yes : c.are_input.result ≡ true = c.if-are_input.true in
    let both : (c.args.code.now ≡ standard_input) × (c.args.graph.now ≡ standard_input) = c.are_input.ensures.0 (search rules) in
    let size : length c.in_ok-read_front.field-0.program.items ≡ vec_len c.in_ok-read_front.field-0.program = first_of (search rules, omega arith) in
    let gave : GaveAtMost (g.S.Source.left c.args.input.now) (g.S.Source.left c.read_front.new.source) (farthest (length c.in_ok-read_front.field-0.program.items)) =
    subst (λ (k : ℕ). GaveAtMost (g.S.Source.left c.args.input.now) (g.S.Source.left c.read_front.new.source) (farthest k)) (sym size) c.in_ok-read_front.ensures.no_further in
    front_read both.0 both.1 c.in_ok-read_front.ensures.ok gave c.in_ok-read_front.ensures.as_far c.in_ok-read_front.ensures.at_end (c.in_ok-read_front.ensures.quiet (λ e. cc))
    (record { map = refl; quiet = refl; found = refl })

pub returns-in_ok-read_named-clause-read : goal.returns-in_ok-read_named-clause-read
returns-in_ok-read_named-clause-read g c =
    let other : c.are_input.result ≡ false = c.if-are_input.false in
    let two : AreApart c.args.code.now c.args.graph.now = λ is also. absurd (let h = c.are_input.ensures.1 (is, also) in search rules) in
    whole_read two (rw c.alone.ensures c.in_ok-read_named.ensures.read)
