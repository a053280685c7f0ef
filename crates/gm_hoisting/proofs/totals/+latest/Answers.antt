use Rattle.std.proofs.Common.{◌≡◌, ◌++◌, rules, sym, ap, ◌∙◌}
use Rattle.gm_ast.specs.Program as Program
use Rattle.gm_ast.specs.Tree.{expr_of}
use Rattle.gm_ast.specs.declared.tree.Expr.{the_lemmas}
use Rattle.gm_forms.specs.Order.{can_fail2, fault_if, fault_of, rest_in}
use Rattle.gm_hoisting.specs.Hoisting.{latest_of}
use Rattle.gm_hoisting.proofs.LatestFaults.{latest_append}
use Rattle.gm_hoisting.proofs.totals.+latest.Goals as goal

pub returns-in-Binary : goal.returns-in-Binary
returns-in-Binary t c =
    let k = c.args.key in
    let f = fault_of k c.args.place in
    let own = fault_if (can_fail2 c.in-Binary.op) k c.in-Binary.at in
    let a = expr_of c.in-Binary.left.value in
    let b = expr_of c.in-Binary.right.value in
    let is : expr_of c.args.e.now ≡ Program.Binary c.in-Binary.op c.in-Binary.at a b = ap expr_of c.in-Binary.is ∙ search (rules, the_lemmas) in
    let at_own : fault_of k c.later_if-own-in-Binary.result ≡ latest_of f own = search rules in
    let first : fault_of k c.latest-first.result ≡ latest_of (fault_of k c.later_if-own-in-Binary.result) (rest_in a k) = search rules in
    let second : fault_of k c.latest-in-Binary.result ≡ latest_of (fault_of k c.latest-first.result) (rest_in b k) = search rules in
    second ∙ ap (λ g. latest_of g (rest_in b k)) (first ∙ ap (λ g. latest_of g (rest_in a k)) at_own)
    ∙ sym (latest_append f own (rest_in a k ++ rest_in b k) ∙ latest_append (latest_of f own) (rest_in a k) (rest_in b k)) ∙ ap (λ e. latest_of f (rest_in e k)) (sym is)

pub returns-in-Both : goal.returns-in-Both
returns-in-Both t c =
    let k = c.args.key in
    let f = fault_of k c.args.place in
    let a = expr_of c.in-Both.left.value in
    let b = expr_of c.in-Both.right.value in
    let is : expr_of c.args.e.now ≡ Program.Both a b = ap expr_of c.in-Both.is ∙ search (rules, the_lemmas) in
    let first : fault_of k c.latest-first-in-Both.result ≡ latest_of f (rest_in a k) = search rules in
    let second : fault_of k c.latest-in-Both.result ≡ latest_of (fault_of k c.latest-first-in-Both.result) (rest_in b k) = search rules in
    second ∙ ap (λ g. latest_of g (rest_in b k)) first ∙ sym (latest_append f (rest_in a k) (rest_in b k)) ∙ ap (λ e. latest_of f (rest_in e k)) (sym is)

pub returns-in-Either : goal.returns-in-Either
returns-in-Either t c =
    let k = c.args.key in
    let f = fault_of k c.args.place in
    let a = expr_of c.in-Either.left.value in
    let b = expr_of c.in-Either.right.value in
    let is : expr_of c.args.e.now ≡ Program.Either a b = ap expr_of c.in-Either.is ∙ search (rules, the_lemmas) in
    let first : fault_of k c.latest-first-in-Either.result ≡ latest_of f (rest_in a k) = search rules in
    let second : fault_of k c.latest-in-Either.result ≡ latest_of (fault_of k c.latest-first-in-Either.result) (rest_in b k) = search rules in
    second ∙ ap (λ g. latest_of g (rest_in b k)) first ∙ sym (latest_append f (rest_in a k) (rest_in b k)) ∙ ap (λ e. latest_of f (rest_in e k)) (sym is)

pub returns-in-Choose : goal.returns-in-Choose
returns-in-Choose t c =
    let k = c.args.key in
    let f = fault_of k c.args.place in
    let a = expr_of c.in-Choose.test.value in
    let b = expr_of c.in-Choose.yes.value in
    let d = expr_of c.in-Choose.no.value in
    let is : expr_of c.args.e.now ≡ Program.Choose a b d = ap expr_of c.in-Choose.is ∙ search (rules, the_lemmas) in
    let first : fault_of k c.latest-first-in-Choose.result ≡ latest_of f (rest_in a k) = search rules in
    let second : fault_of k c.latest-second.result ≡ latest_of (fault_of k c.latest-first-in-Choose.result) (rest_in b k) = search rules in
    let third : fault_of k c.latest-in-Choose.result ≡ latest_of (fault_of k c.latest-second.result) (rest_in d k) = search rules in
    third ∙ ap (λ g. latest_of g (rest_in d k)) (second ∙ ap (λ g. latest_of g (rest_in b k)) first)
    ∙ sym (latest_append f (rest_in a k) (rest_in b k ++ rest_in d k) ∙ latest_append (latest_of f (rest_in a k)) (rest_in b k) (rest_in d k)) ∙ ap (λ e. latest_of f (rest_in e k)) (sym is)
