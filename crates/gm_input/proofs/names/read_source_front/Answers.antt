use Rattle.std.proofs.Common.{◌≡◌, ◌+◌, ◌≤◌, ◌∙◌, length, refl, rules}
use Rattle.gm_files.specs.Streams.{AppendsFront}
use Rattle.gm_input.proofs.NameReading.{so_far_none, so_far_more, front_ended}
use Rattle.gm_input.proofs.names.read_source_front.Goals as goal

pub pieces-init : goal.pieces-init
pieces-init g c = record {
  room_left = search rules;
  buffer_len = search rules;
  quiet = refl;
  so_far = rw c.new-bytes.ensures.items (so_far_none (g.S.Source.left c.args.source.now));
}

pub pieces-preserved : goal.pieces-preserved
pieces-preserved g c =
    let part : AppendsFront (g.S.Source.left c.pieces.source) (g.S.Source.left c.read_piece.new.source) c.pieces.bytes.items c.read_piece.new.bytes.items c.in_ok-count.count = c.in_ok-count.ensures.ok in
    record {
      room_left = search rules;
      buffer_len = search rules;
      quiet = c.in_ok-count.ensures.quiet (λ e. cc) ∙ c.pieces.invariant.quiet;
      so_far = so_far_more (g.S.Source.left c.args.source.now) (g.S.Source.left c.pieces.source) (g.S.Source.left c.read_piece.new.source) c.pieces.bytes.items c.read_piece.new.bytes.items c.in_ok-count.count c.pieces.invariant.so_far part;
    }

pub returns-then-count-eq0-clause-ok : goal.returns-then-count-eq0-clause-ok
returns-then-count-eq0-clause-ok g c =
    let part : AppendsFront (g.S.Source.left c.pieces.source) (g.S.Source.left c.read_piece.new.source) c.pieces.bytes.items c.read_piece.new.bytes.items c.in_ok-count.count = c.in_ok-count.ensures.ok in
    let none : c.in_ok-count.count ≡ 0 = search rules in
    let size : length c.pieces.bytes.items + c.pieces.room ≡ c.args.most = c.pieces.invariant.room_left in
    let few : length c.read_piece.new.bytes.items ≤ c.args.most = search (rules, none, size, c.in_ok-count.ensures.longer) in
    front_ended (g.S.Source.left c.args.source.now) (g.S.Source.left c.pieces.source) (g.S.Source.left c.read_piece.new.source) c.pieces.bytes.items c.read_piece.new.bytes.items c.args.most
    c.pieces.invariant.so_far (rw none at part) few
