use Rattle.std.proofs.Common.{◌≡◌, ◌≤◌, ◌<◌, ◌+◌, ◌∙◌, [], length, refl, ap, inl, rules, arith, append-nil, length-append}
use Rattle.gm_input.specs.Fronts.{Appends}
use Rattle.gm_input.proofs.Reading.{so_far_none, behind_more, behind_ended, behind_done}
use Rattle.gm_input.proofs.fronts.read_behind.Goals as goal

pub pieces-init : goal.pieces-init
pieces-init g c = record {
  buffer_len = search rules;
  quiet = refl;
  read = [];
  behind = rw append-nil refl;
  so_far = so_far_none (g.S.Source.left c.args.source.now);
  near = omega arith;
}

pub pieces-preserved : goal.pieces-preserved
pieces-preserved g c =
    let part : Appends (g.S.Source.left c.pieces.source) (g.S.Source.left c.read_piece.new.source) c.pieces.bytes.items c.read_piece.new.bytes.items c.in_ok-count.count = c.in_ok-count.ensures.ok in
    let more = behind_more (g.S.Source.left c.args.source.now) (g.S.Source.left c.pieces.source) (g.S.Source.left c.read_piece.new.source) c.args.ahead.items c.pieces.invariant.read c.pieces.bytes.items c.read_piece.new.bytes.items c.in_ok-count.count c.pieces.invariant.behind c.pieces.invariant.so_far part in
    let short : c.in_ok-count.count ≤ 65536 = search (rules, c.in_ok-count.ensures.within, c.pieces.invariant.buffer_len) in
    let size : length c.pieces.bytes.items ≡ length c.args.ahead.items + length c.pieces.invariant.read = ap length c.pieces.invariant.behind ∙ length-append c.args.ahead.items c.pieces.invariant.read in
    let test : length c.pieces.bytes.items < c.args.most = omega (arith, c.len.ensures) in
    record {
      buffer_len = search rules;
      quiet = c.in_ok-count.ensures.quiet (λ e. cc) ∙ c.pieces.invariant.quiet;
      read = more.0;
      behind = more.1;
      so_far = more.3;
      near = omega (arith, more.2, short, size, test);
    }

pub returns-then-count-eq0-clause-ok : goal.returns-then-count-eq0-clause-ok
returns-then-count-eq0-clause-ok g c =
    let none : c.in_ok-count.count ≡ 0 = search rules in
    let part : Appends (g.S.Source.left c.pieces.source) (g.S.Source.left c.read_piece.new.source) c.pieces.bytes.items c.read_piece.new.bytes.items c.in_ok-count.count = c.in_ok-count.ensures.ok in
    let last : Appends (g.S.Source.left c.pieces.source) (g.S.Source.left c.read_piece.new.source) c.pieces.bytes.items c.read_piece.new.bytes.items 0 = rw none at part in
    behind_ended (g.S.Source.left c.args.source.now) (g.S.Source.left c.pieces.source) (g.S.Source.left c.read_piece.new.source) c.args.most c.args.ahead.items c.pieces.invariant.read c.pieces.bytes.items c.read_piece.new.bytes.items
    c.pieces.invariant.behind c.pieces.invariant.so_far last c.pieces.invariant.near

pub returns-clause-ok : goal.returns-clause-ok
returns-clause-ok g c =
    behind_done (g.S.Source.left c.args.source.now) (g.S.Source.left c.pieces.source) c.args.most c.args.ahead.items c.pieces.invariant.read c.pieces.bytes.items
    c.pieces.invariant.behind c.pieces.invariant.so_far c.pieces.invariant.near (inl (omega (arith, c.len.ensures)))
