use Rattle.std.proofs.Common.{◌≡◌, ◌≤◌, ◌<◌, ◌+◌, ◌-◌, ◌∙◌, length, min, vec_len, refl, rules, arith}
use Rattle.gm_input.specs.Fronts.{Appends, farthest}
use Rattle.gm_input.specs.Lines.{AreParted, held}
use Rattle.gm_input.proofs.Searching.{held_few, nothing_read}
use Rattle.gm_input.proofs.Reading.{so_far_none, so_far_more, longer_by, held_read, gave, front_ended, front_parted, front_long, far_ended, far_parted, far_long, at_end}
use Rattle.gm_input.proofs.fronts.read_front.Goals as goal

pub pieces-init : goal.pieces-init
pieces-init g c = record {
  buffer_len = search rules;
  quiet = refl;
  so_far = rw c.new-bytes.ensures.items (so_far_none (g.S.Source.left c.args.source.now));
  read = rw c.new-bytes.ensures.items nothing_read;
  size = rw c.new-bytes.ensures.items (omega arith);
}

pub pieces-preserved : goal.pieces-preserved
pieces-preserved g c =
    let part : Appends (g.S.Source.left c.pieces.source) (g.S.Source.left c.read_piece.new.source) c.pieces.bytes.items c.read_piece.new.bytes.items c.in_ok-count.count = c.in_ok-count.ensures.ok in
    let few : length (held c.pieces.line) ≤ 3 = held_few c.pieces.line in
    let there : length (held c.pieces.line) ≤ length c.pieces.bytes.items = held_read c.pieces.bytes.items c.pieces.line c.pieces.invariant.read in
    let more : length c.read_piece.new.bytes.items ≡ length c.pieces.bytes.items + c.in_ok-count.count =
    longer_by (g.S.Source.left c.pieces.source) (g.S.Source.left c.read_piece.new.source) c.pieces.bytes.items c.read_piece.new.bytes.items c.in_ok-count.count part in
    let test : length c.pieces.bytes.items - length (held c.pieces.line) < c.args.most = omega (arith, c.len.ensures, c.held.ensures) in
    let short : c.in_ok-count.count ≤ 65536 = search (rules, c.in_ok-count.ensures.within, c.pieces.invariant.buffer_len) in
    record {
      buffer_len = search rules;
      quiet = c.in_ok-count.ensures.quiet (λ e. cc) ∙ c.pieces.invariant.quiet;
      so_far = so_far_more (g.S.Source.left c.args.source.now) (g.S.Source.left c.pieces.source) (g.S.Source.left c.read_piece.new.source) c.pieces.bytes.items c.read_piece.new.bytes.items c.in_ok-count.count c.pieces.invariant.so_far part;
      read = rw c.deref.ensures.value at c.in-Open.ensures;
      size = omega (arith, test, short, few, there, more);
    }

pub returns-then-count-eq0-clause-no_further : goal.returns-then-count-eq0-clause-no_further
returns-then-count-eq0-clause-no_further g c =
    let part : Appends (g.S.Source.left c.pieces.source) (g.S.Source.left c.read_piece.new.source) c.pieces.bytes.items c.read_piece.new.bytes.items c.in_ok-count.count = c.in_ok-count.ensures.ok in
    let few : length (held c.pieces.line) ≤ 3 = held_few c.pieces.line in
    let there : length (held c.pieces.line) ≤ length c.pieces.bytes.items = held_read c.pieces.bytes.items c.pieces.line c.pieces.invariant.read in
    let more : length c.read_piece.new.bytes.items ≡ length c.pieces.bytes.items + c.in_ok-count.count =
    longer_by (g.S.Source.left c.pieces.source) (g.S.Source.left c.read_piece.new.source) c.pieces.bytes.items c.read_piece.new.bytes.items c.in_ok-count.count part in
    let test : length c.pieces.bytes.items - length (held c.pieces.line) < c.args.most = omega (arith, c.len.ensures, c.held.ensures) in
    let close : length c.read_piece.new.bytes.items ≤ vec_len c.whole.result.program + 3 = omega (arith, c.whole.ensures.close (omega (arith, test, few, there, more))) in
    gave (g.S.Source.left c.args.source.now) (g.S.Source.left c.read_piece.new.source) c.read_piece.new.bytes.items (farthest (vec_len c.whole.result.program))
    (so_far_more (g.S.Source.left c.args.source.now) (g.S.Source.left c.pieces.source) (g.S.Source.left c.read_piece.new.source) c.pieces.bytes.items c.read_piece.new.bytes.items c.in_ok-count.count c.pieces.invariant.so_far part) (omega (arith, close))

pub returns-then-count-eq0-clause-ok : goal.returns-then-count-eq0-clause-ok
returns-then-count-eq0-clause-ok g c =
    let none : c.in_ok-count.count ≡ 0 = search rules in
    let part : Appends (g.S.Source.left c.pieces.source) (g.S.Source.left c.read_piece.new.source) c.pieces.bytes.items c.read_piece.new.bytes.items c.in_ok-count.count = c.in_ok-count.ensures.ok in
    front_ended (g.S.Source.left c.args.source.now) (g.S.Source.left c.pieces.source) (g.S.Source.left c.read_piece.new.source) c.pieces.bytes.items c.read_piece.new.bytes.items
    c.whole.result.program.items c.whole.result.ahead.items c.args.most c.whole.result.ended
    c.pieces.invariant.so_far (rw none at part) c.whole.ensures.program c.whole.ensures.graph c.whole.ensures.ahead c.whole.ensures.ended

pub returns-in-Mark-clause-ok : goal.returns-in-Mark-clause-ok
returns-in-Mark-clause-ok g c =
    let part : Appends (g.S.Source.left c.pieces.source) (g.S.Source.left c.read_piece.new.source) c.pieces.bytes.items c.read_piece.new.bytes.items c.in_ok-count.count = c.in_ok-count.ensures.ok in
    let parts : AreParted c.read_piece.new.bytes.items c.in-Mark.start c.in-Mark.end × (c.len-before.result < c.in-Mark.end) = rw c.deref.ensures.value at c.in-Mark.ensures in
    front_parted (g.S.Source.left c.args.source.now) (g.S.Source.left c.read_piece.new.source) c.read_piece.new.bytes.items
    c.in_ok-parted-in-Mark.field-0.program.items c.in_ok-parted-in-Mark.field-0.ahead.items c.in-Mark.start c.in-Mark.end c.args.most c.in_ok-parted-in-Mark.field-0.ended
    (so_far_more (g.S.Source.left c.args.source.now) (g.S.Source.left c.pieces.source) (g.S.Source.left c.read_piece.new.source) c.pieces.bytes.items c.read_piece.new.bytes.items c.in_ok-count.count c.pieces.invariant.so_far part)
    parts.0 c.in_ok-parted-in-Mark.ensures.program c.in_ok-parted-in-Mark.ensures.ahead c.in_ok-parted-in-Mark.ensures.going_on

pub returns-in-Mark-clause-no_further : goal.returns-in-Mark-clause-no_further
returns-in-Mark-clause-no_further g c =
    let part : Appends (g.S.Source.left c.pieces.source) (g.S.Source.left c.read_piece.new.source) c.pieces.bytes.items c.read_piece.new.bytes.items c.in_ok-count.count = c.in_ok-count.ensures.ok in
    let parts : AreParted c.read_piece.new.bytes.items c.in-Mark.start c.in-Mark.end × (c.len-before.result < c.in-Mark.end) = rw c.deref.ensures.value at c.in-Mark.ensures in
    let few : length (held c.pieces.line) ≤ 3 = held_few c.pieces.line in
    let there : length (held c.pieces.line) ≤ length c.pieces.bytes.items = held_read c.pieces.bytes.items c.pieces.line c.pieces.invariant.read in
    let more : length c.read_piece.new.bytes.items ≡ length c.pieces.bytes.items + c.in_ok-count.count =
    longer_by (g.S.Source.left c.pieces.source) (g.S.Source.left c.read_piece.new.source) c.pieces.bytes.items c.read_piece.new.bytes.items c.in_ok-count.count part in
    let test : length c.pieces.bytes.items - length (held c.pieces.line) < c.args.most = omega (arith, c.len.ensures, c.held.ensures) in
    let short : c.in_ok-count.count ≤ 65536 = search (rules, c.in_ok-count.ensures.within, c.pieces.invariant.buffer_len) in
    let size : vec_len c.in_ok-parted-in-Mark.field-0.program ≡ min c.in-Mark.start c.args.most = c.in_ok-parted-in-Mark.ensures.size in
    let before : c.len-before.result ≡ length c.pieces.bytes.items = omega (arith, c.len-before.ensures) in
    let near : length c.pieces.bytes.items ≤ c.in-Mark.start + 3 = omega (arith, before, parts.1, parts.0.short) in
    let all : length c.read_piece.new.bytes.items ≤ farthest (vec_len c.in_ok-parted-in-Mark.field-0.program) = omega (arith, test, short, few, there, more, size, near) in
    gave (g.S.Source.left c.args.source.now) (g.S.Source.left c.read_piece.new.source) c.read_piece.new.bytes.items (farthest (vec_len c.in_ok-parted-in-Mark.field-0.program))
    (so_far_more (g.S.Source.left c.args.source.now) (g.S.Source.left c.pieces.source) (g.S.Source.left c.read_piece.new.source) c.pieces.bytes.items c.read_piece.new.bytes.items c.in_ok-count.count c.pieces.invariant.so_far part) all

pub returns-clause-ok : goal.returns-clause-ok
returns-clause-ok g c =
    front_long (g.S.Source.left c.args.source.now) (g.S.Source.left c.pieces.source) c.pieces.bytes.items c.longer.result.program.items c.longer.result.ahead.items c.args.most c.longer.result.ended
    c.pieces.invariant.so_far c.longer.ensures.program (omega (arith, c.longer.ensures.full))

pub returns-clause-no_further : goal.returns-clause-no_further
returns-clause-no_further g c =
    gave (g.S.Source.left c.args.source.now) (g.S.Source.left c.pieces.source) c.pieces.bytes.items (farthest (vec_len c.longer.result.program))
    c.pieces.invariant.so_far (omega (arith, c.pieces.invariant.size, c.longer.ensures.full))

pub returns-then-count-eq0-clause-as_far : goal.returns-then-count-eq0-clause-as_far
returns-then-count-eq0-clause-as_far g c =
    let none : c.in_ok-count.count ≡ 0 = search rules in
    let part : Appends (g.S.Source.left c.pieces.source) (g.S.Source.left c.read_piece.new.source) c.pieces.bytes.items c.read_piece.new.bytes.items c.in_ok-count.count = c.in_ok-count.ensures.ok in
    far_ended (g.S.Source.left c.args.source.now) (g.S.Source.left c.pieces.source) (g.S.Source.left c.read_piece.new.source) c.pieces.bytes.items c.read_piece.new.bytes.items c.args.most
    c.pieces.invariant.so_far (rw none at part)

pub returns-then-count-eq0-clause-at_end : goal.returns-then-count-eq0-clause-at_end
returns-then-count-eq0-clause-at_end g c =
    let none : c.in_ok-count.count ≡ 0 = search rules in
    let part : Appends (g.S.Source.left c.pieces.source) (g.S.Source.left c.read_piece.new.source) c.pieces.bytes.items c.read_piece.new.bytes.items c.in_ok-count.count = c.in_ok-count.ensures.ok in
    λ ended. at_end (g.S.Source.left c.args.source.now) (g.S.Source.left c.pieces.source) (g.S.Source.left c.read_piece.new.source) c.pieces.bytes.items c.read_piece.new.bytes.items
    c.pieces.invariant.so_far (rw none at part)

pub returns-in-Mark-clause-as_far : goal.returns-in-Mark-clause-as_far
returns-in-Mark-clause-as_far g c =
    let part : Appends (g.S.Source.left c.pieces.source) (g.S.Source.left c.read_piece.new.source) c.pieces.bytes.items c.read_piece.new.bytes.items c.in_ok-count.count = c.in_ok-count.ensures.ok in
    let parts : AreParted c.read_piece.new.bytes.items c.in-Mark.start c.in-Mark.end × (c.len-before.result < c.in-Mark.end) = rw c.deref.ensures.value at c.in-Mark.ensures in
    far_parted (g.S.Source.left c.args.source.now) (g.S.Source.left c.read_piece.new.source) c.read_piece.new.bytes.items c.in-Mark.start c.in-Mark.end c.args.most
    (so_far_more (g.S.Source.left c.args.source.now) (g.S.Source.left c.pieces.source) (g.S.Source.left c.read_piece.new.source) c.pieces.bytes.items c.read_piece.new.bytes.items c.in_ok-count.count c.pieces.invariant.so_far part)
    parts.0

pub returns-clause-as_far : goal.returns-clause-as_far
returns-clause-as_far g c =
    far_long (g.S.Source.left c.args.source.now) (g.S.Source.left c.pieces.source) c.pieces.bytes.items c.args.most c.pieces.invariant.so_far
    (omega (arith, c.len.ensures, c.held.ensures))
