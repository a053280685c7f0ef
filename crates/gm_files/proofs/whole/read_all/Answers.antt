use Rattle.std.proofs.Common.{refl, rules}
use Rattle.std.proofs.lemmas.Result.{err_from_is_err_and}
use Rattle.gm_files.specs.Streams.{ReadsPast}
use Rattle.gm_files.proofs.Reading.{so_far_none, so_far_past}
use Rattle.gm_files.proofs.whole.read_all.Goals as goal

pub pieces-init : goal.pieces-init
pieces-init g c = record {
  room_left = search rules;
  buffer_len = search rules;
  quiet = refl;
  so_far = rw c.new-bytes.ensures.items (so_far_none (g.S.Source.left c.args.source.now));
}

pub returns-in_err-count-clause-too_long : goal.returns-in_err-count-clause-too_long
returns-in_err-count-clause-too_long g c = λ e.
    let p = err_from_is_err_and c.from_residual-in_err-count.result c.from_residual-in_err-count.ensures.1 in
    let long : ReadsPast (g.S.Source.left c.pieces.source) (g.S.Source.left c.read_piece.new.source) c.pieces.room = c.in_err-count.ensures.too_long (cc (p.1, p.2, e)) in
    so_far_past (g.S.Source.left c.args.source.now) (g.S.Source.left c.pieces.source) (g.S.Source.left c.read_piece.new.source) c.pieces.bytes.items c.args.limit c.pieces.room c.pieces.invariant.so_far long c.pieces.invariant.room_left
