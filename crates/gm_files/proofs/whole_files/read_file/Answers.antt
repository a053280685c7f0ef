use Rattle.std.proofs.Common.{refl, rules}
use Rattle.gm_files.proofs.FileReading.{so_far_none, so_far_more}
use Rattle.gm_files.specs.Files.{AddsPart}
use Rattle.gm_files.proofs.whole_files.read_file.Goals as goal

pub pieces-init : goal.pieces-init
pieces-init g c = record {
  room_left = search rules;
  buffer_len = search rules;
  kept = refl;
  no_fault = refl;
  no_absence = refl;
  so_far = rw c.new-bytes.ensures.items (so_far_none (g.F.Files.told c.args.files.now) c.args.name.now);
}

pub pieces-preserved : goal.pieces-preserved
pieces-preserved g c =
    let part : AddsPart (g.F.Files.told c.pieces.files) c.args.name.now c.pieces.bytes.items c.read_file_piece.new.bytes.items c.in_ok-count.count = c.in_ok-count.ensures.ok in
    record {
      room_left = search rules;
      buffer_len = search rules;
      kept = search rules;
      no_fault = search rules;
      no_absence = search rules;
      so_far = so_far_more (g.F.Files.told c.args.files.now) c.args.name.now c.pieces.bytes.items c.read_file_piece.new.bytes.items c.in_ok-count.count c.pieces.invariant.so_far (rw c.pieces.invariant.kept at part);
    }
