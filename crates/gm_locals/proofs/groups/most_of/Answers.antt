use Rattle.std.proofs.Common.{◌≡◌, true, false, arith, rules}
use Rattle.std.specs.List.{list_all}
use Rattle.gm_ast.specs.Tree.{expr_of, stmt_of}
use Rattle.gm_locals.specs.Groups.{may_keep}
use Rattle.gm_locals.proofs.Rounds.{go-on, end-here, end-empty, first-round}
use Rattle.gm_locals.proofs.groups.most_of.Goals as goal

pub loop-round-init : goal.loop-round-init
loop-round-init c = first-round c.args.declarations.now c.args.iterator (expr_of c.args.test.now) (stmt_of c.args.body.now) c.args.locals.items c.args.rounds

pub loop-round-preserved : goal.loop-round-preserved
loop-round-preserved c =
    let at = c.loop-round in
    let ds = c.args.declarations.now in
    let n = c.args.iterator in
    let test = expr_of c.args.test.now in
    let body = stmt_of c.args.body.now in
    let xs = at.locals.items in
    let some : list_all (may_keep ds xs n test body) xs ≡ false = first_of (cc, search rules) in
    go-on ds n test body xs c.args.rounds at._round _ _ (omega arith) some (first_of (cc, search rules)) at.invariant

pub returns-then-may_keep_all : goal.returns-then-may_keep_all
returns-then-may_keep_all c =
    let at = c.loop-round in
    let ds = c.args.declarations.now in
    let n = c.args.iterator in
    let test = expr_of c.args.test.now in
    let body = stmt_of c.args.body.now in
    let xs = at.locals.items in
    let all : list_all (may_keep ds xs n test body) xs ≡ true = first_of (cc, search rules) in
    end-here ds n test body xs c.args.rounds at._round _ (omega arith) all at.invariant

pub returns : goal.returns
returns c =
    let at = c.loop-round in
    let n = c.args.iterator in
    let test = expr_of c.args.test.now in
    let body = stmt_of c.args.body.now in
    end-empty c.args.declarations.now n test body at.locals.items c.args.rounds at._round _ _ (omega arith) (first_of (cc, search rules)) at.invariant
