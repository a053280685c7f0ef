use Rattle.std.proofs.Common.{◌≡◌, append-nil, length, take, ap, ◌∙◌, arith}
use Rattle.std.proofs.Math.Seq.{take-length}
use Rattle.gm_loader.proofs.Counting.{IsSetOf-more}
use Rattle.gm_loader.proofs.sets.NumberSet.insert_all.Goals as goal

pub loop-place-init : goal.loop-place-init
loop-place-init c = λ before s. rw (append-nil before) s

pub loop-place-preserved : goal.loop-place-preserved
loop-place-preserved c = λ before s.
    IsSetOf-more before c.args.numbers.now c.loop-place.place _ 0 c.loop-place.self c.insert.new.self c.in_ok-insert.field-0 (omega (arith, c.loop-place-test.true, c.len-place-end.ensures.len)) c.get.ensures
    (record { is_new = c.in_ok-insert.ensures.added; members = c.in_ok-insert.ensures.has; count = c.in_ok-insert.ensures.count }) (c.loop-place.invariant before s)

pub returns : goal.returns
returns c = λ before s.
    let end : c.loop-place.place ≡ length c.args.numbers.now = omega (arith, c.len-place-end.ensures.len) in
    let all : take c.loop-place.place c.args.numbers.now ≡ c.args.numbers.now = ap (λ k. take k c.args.numbers.now) end ∙ take-length c.args.numbers.now in
    rw all at (c.loop-place.invariant before s)
