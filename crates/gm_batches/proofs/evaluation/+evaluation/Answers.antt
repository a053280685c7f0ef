use Rattle.std.proofs.Common.{◌≡◌, subst, Option, Some, true, false, arith, rules}
use Rattle.std.specs.Prelude.{IfNone, IfSome}
use Rattle.gm_value.specs.Operations.{is_flag}
use Rattle.gm_value.specs.declared.values.Value.TheVariants.{Flag}
use Rattle.gm_columns.specs.Columns.{TypedRow}
use Rattle.gm_image.specs.Views.{term}
use Rattle.gm_image.specs.Term.{Const}
use Rattle.gm_kernels.specs.Pointwise.{held, left_out}
use Rattle.gm_batches.specs.NodeBatches.{rows_in}
use Rattle.gm_batches.specs.declared.guards.Guard.{Guard}
use Rattle.gm_batches.specs.Guards.{IsGuard}
use Rattle.gm_batches.proofs.ColumnLaws.{if_ok}
use Rattle.gm_batches.proofs.GuardLaws.{same_rows, rows_of_column, parts_fit, inside_fit, outside_fit, choose_guarded, and_guarded, or_guarded, choose_unguarded, and_unguarded, or_unguarded}
use Rattle.gm_batches.proofs.evaluation.+evaluation.Goals as goal

pub unary_of-returns : goal.unary_of-returns
unary_of-returns t c =
    if_ok c.one.result
    (λ got follows. follows c.args.batch.now (rows_in c.args.batch.now c.args.rows) (term c.args.a.now) c.in_ok-operand.ensures)
    c.one.ensures

pub binary_of-binary-requires : goal.binary_of-binary-requires
binary_of-binary-requires t c =
    same_rows c.args.batch.now (rows_in c.args.batch.now c.args.rows) (term c.args.a.now) (term c.args.c.now) c.in_ok-left.left c.in_ok-right.right
    c.in_ok-left.ensures c.in_ok-right.ensures

pub binary_of-returns : goal.binary_of-returns
binary_of-returns t c =
    if_ok c.binary.result
    (λ got follows. follows c.args.batch.now (rows_in c.args.batch.now c.args.rows) c.args.place (term c.args.a.now) (term c.args.c.now)
    c.in_ok-left.ensures c.in_ok-right.ensures)
    c.binary.ensures

pub both-guard_of-requires-clause-rows : goal.both-guard_of-requires-clause-rows
both-guard_of-requires-clause-rows t c =
    rows_of_column c.args.batch.now (rows_in c.args.batch.now c.args.rows) (term c.args.c.now) c.in_ok-truths.truths c.in_ok-truths.ensures

pub either-guard_of-requires-clause-rows : goal.either-guard_of-requires-clause-rows
either-guard_of-requires-clause-rows t c =
    rows_of_column c.args.batch.now (rows_in c.args.batch.now c.args.rows) (term c.args.c.now) c.in_ok-truths.truths c.in_ok-truths.ensures

pub choice_of-guard_of-requires-clause-rows : goal.choice_of-guard_of-requires-clause-rows
choice_of-guard_of-requires-clause-rows t c =
    rows_of_column c.args.batch.now (rows_in c.args.batch.now c.args.rows) (term c.args.c.now) c.in_ok-truths.truths c.in_ok-truths.ensures

pub both_in-join-requires-clause-some : goal.both_in-join-requires-clause-some
both_in-join-requires-clause-some t c =
    let guard = c.args.guard.now in
    inside_fit c.args.batch.now c.deref.result.now guard.parts.held.items guard.parts.left_out.items (term c.args.a.now) guard.truths c.in_ok-some.some
    c.requires.parts c.deref.ensures.value c.in_ok-some.ensures

pub both_in-join-requires-clause-others : goal.both_in-join-requires-clause-others
both_in-join-requires-clause-others t c =
    let guard = c.args.guard.now in
    outside_fit c.args.batch.now c.deref-2.result.now guard.parts.held.items guard.parts.left_out.items (Const (Flag false)) guard.truths c.in_ok-others.others
    c.requires.parts c.deref-2.ensures.value c.in_ok-others.ensures

pub both_in-returns : goal.both_in-returns
both_in-returns t c =
    let guard = c.args.guard.now in
    if_ok c.join.result
    (λ got follows. λ rs e parted is. and_guarded c.args.batch.now rs c.deref.result.now c.deref-2.result.now guard.parts.held.items guard.parts.left_out.items
    e (term c.args.a.now) guard.truths c.in_ok-some.some c.in_ok-others.others got c.deref.ensures.value c.deref-2.ensures.value
    c.in_ok-some.ensures c.in_ok-others.ensures follows parted is)
    c.join.ensures

pub either_in-join-requires-clause-some : goal.either_in-join-requires-clause-some
either_in-join-requires-clause-some t c =
    let guard = c.args.guard.now in
    inside_fit c.args.batch.now c.deref.result.now guard.parts.held.items guard.parts.left_out.items (Const (Flag true)) guard.truths c.in_ok-some.some
    c.requires.parts c.deref.ensures.value c.in_ok-some.ensures

pub either_in-join-requires-clause-others : goal.either_in-join-requires-clause-others
either_in-join-requires-clause-others t c =
    let guard = c.args.guard.now in
    outside_fit c.args.batch.now c.deref-2.result.now guard.parts.held.items guard.parts.left_out.items (term c.args.a.now) guard.truths c.in_ok-others.others
    c.requires.parts c.deref-2.ensures.value c.in_ok-others.ensures

pub either_in-returns : goal.either_in-returns
either_in-returns t c =
    let guard = c.args.guard.now in
    if_ok c.join.result
    (λ got follows. λ rs e parted is. or_guarded c.args.batch.now rs c.deref.result.now c.deref-2.result.now guard.parts.held.items guard.parts.left_out.items
    e (term c.args.a.now) guard.truths c.in_ok-some.some c.in_ok-others.others got c.deref.ensures.value c.deref-2.ensures.value
    c.in_ok-some.ensures c.in_ok-others.ensures follows parted is)
    c.join.ensures

pub choice_in-join-requires-clause-some : goal.choice_in-join-requires-clause-some
choice_in-join-requires-clause-some t c =
    let guard = c.args.guard.now in
    inside_fit c.args.batch.now c.deref.result.now guard.parts.held.items guard.parts.left_out.items (term c.args.a.now) guard.truths c.in_ok-some.some
    c.requires.parts c.deref.ensures.value c.in_ok-some.ensures

pub choice_in-join-requires-clause-others : goal.choice_in-join-requires-clause-others
choice_in-join-requires-clause-others t c =
    let guard = c.args.guard.now in
    outside_fit c.args.batch.now c.deref-2.result.now guard.parts.held.items guard.parts.left_out.items (term c.args.d.now) guard.truths c.in_ok-others.others
    c.requires.parts c.deref-2.ensures.value c.in_ok-others.ensures

pub choice_in-returns : goal.choice_in-returns
choice_in-returns t c =
    let guard = c.args.guard.now in
    if_ok c.join.result
    (λ got follows. λ rs e parted is. choose_guarded c.args.batch.now rs c.deref.result.now c.deref-2.result.now guard.parts.held.items guard.parts.left_out.items
    e (term c.args.a.now) (term c.args.d.now) guard.truths c.in_ok-some.some c.in_ok-others.others got c.deref.ensures.value c.deref-2.ensures.value
    c.in_ok-some.ensures c.in_ok-others.ensures follows parted is)
    c.join.ensures

pub both-both_in-requires : goal.both-both_in-requires
both-both_in-requires t c =
    let b = c.args.batch.now in
    let rs = rows_in b c.args.rows in
    let guard = c.in-Some.guard in (
      search rules,
      (
        c.requires.batch,
        parts_fit b rs guard.parts.held.items guard.parts.left_out.items (term c.args.c.now) c.in_ok-truths.truths guard.truths c.in_ok-truths.ensures
            (subst (λ o. IfSome o (λ (g : Guard). c.in_ok-truths.truths ≡ Some g.truths)) c.in-Some.is c.in_ok-guard.ensures.same)
            (subst (λ o. IfSome o (λ (g : Guard). IsGuard rs g.truths g.parts.held.items g.parts.left_out.items)) c.in-Some.is c.in_ok-guard.ensures.parts)
            c.requires.rows,
      ),
    )

pub both-returns-in-None : goal.both-returns-in-None
both-returns-in-None t c =
    let truths = c.in_ok-truths.truths in
    and_unguarded c.args.batch.now (rows_in c.args.batch.now c.args.rows) (term c.args.c.now) (term c.args.a.now) truths c.in_ok-truths.ensures
    (subst (λ (o : Option Guard). IfNone o (IfSome truths (λ (found : TypedRow). is_flag found.vtype ≡ false))) c.in-None.is c.in_ok-guard.ensures.none)

pub either-either_in-requires : goal.either-either_in-requires
either-either_in-requires t c =
    let b = c.args.batch.now in
    let rs = rows_in b c.args.rows in
    let guard = c.in-Some.guard in (
      omega (arith, c.decreases),
      (
        c.requires.batch,
        parts_fit b rs guard.parts.held.items guard.parts.left_out.items (term c.args.c.now) c.in_ok-truths.truths guard.truths c.in_ok-truths.ensures
            (subst (λ o. IfSome o (λ (g : Guard). c.in_ok-truths.truths ≡ Some g.truths)) c.in-Some.is c.in_ok-guard.ensures.same)
            (subst (λ o. IfSome o (λ (g : Guard). IsGuard rs g.truths g.parts.held.items g.parts.left_out.items)) c.in-Some.is c.in_ok-guard.ensures.parts)
            c.requires.rows,
      ),
    )

pub either-returns-in-None : goal.either-returns-in-None
either-returns-in-None t c =
    let truths = c.in_ok-truths.truths in
    or_unguarded c.args.batch.now (rows_in c.args.batch.now c.args.rows) (term c.args.c.now) (term c.args.a.now) truths c.in_ok-truths.ensures
    (subst (λ (o : Option Guard). IfNone o (IfSome truths (λ (found : TypedRow). is_flag found.vtype ≡ false))) c.in-None.is c.in_ok-guard.ensures.none)

pub choice_of-choice_in-requires : goal.choice_of-choice_in-requires
choice_of-choice_in-requires t c =
    let b = c.args.batch.now in
    let rs = rows_in b c.args.rows in
    let guard = c.in-Some.guard in (
      omega (arith, c.decreases),
      (
        c.requires.batch,
        parts_fit b rs guard.parts.held.items guard.parts.left_out.items (term c.args.c.now) c.in_ok-truths.truths guard.truths c.in_ok-truths.ensures
            (subst (λ o. IfSome o (λ (g : Guard). c.in_ok-truths.truths ≡ Some g.truths)) c.in-Some.is c.in_ok-guard.ensures.same)
            (subst (λ o. IfSome o (λ (g : Guard). IsGuard rs g.truths g.parts.held.items g.parts.left_out.items)) c.in-Some.is c.in_ok-guard.ensures.parts)
            c.requires.rows,
      ),
    )

pub choice_of-returns-in-None : goal.choice_of-returns-in-None
choice_of-returns-in-None t c =
    let truths = c.in_ok-truths.truths in
    choose_unguarded c.args.batch.now (rows_in c.args.batch.now c.args.rows) (term c.args.c.now) (term c.args.a.now) (term c.args.d.now) truths c.in_ok-truths.ensures
    (subst (λ (o : Option Guard). IfNone o (IfSome truths (λ (found : TypedRow). is_flag found.vtype ≡ false))) c.in-None.is c.in_ok-guard.ensures.none)
