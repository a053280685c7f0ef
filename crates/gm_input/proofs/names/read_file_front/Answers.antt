use Rattle.std.proofs.Common.{◌∙◌, refl, rules}
use Rattle.gm_files.specs.Files.{AddsPart}
use Rattle.gm_input.proofs.NameReading.{file_none, file_more}
use Rattle.gm_input.proofs.names.read_file_front.Goals as goal

pub pieces-init : goal.pieces-init
pieces-init g c = record {
  room_left = search rules;
  buffer_len = search rules;
  kept = refl;
  no_fault = refl;
  no_absence = refl;
  so_far = rw c.new-bytes.ensures.items (file_none (g.F.Files.told c.args.files.now) c.args.name.now);
}

pub pieces-preserved : goal.pieces-preserved
pieces-preserved g c =
    let part : AddsPart (g.F.Files.told c.pieces.files) c.args.name.now c.pieces.bytes.items c.read_file_piece.new.bytes.items c.in_ok-count.count = c.in_ok-count.ensures.ok in
    record {
      room_left = search rules;
      buffer_len = search rules;
      kept = search rules;
      no_fault = c.in_ok-count.ensures.no_fault (λ e. cc) ∙ c.pieces.invariant.no_fault;
      no_absence = c.in_ok-count.ensures.no_absence (λ e. cc) ∙ c.pieces.invariant.no_absence;
      so_far = file_more (g.F.Files.told c.args.files.now) c.args.name.now c.pieces.bytes.items c.read_file_piece.new.bytes.items c.in_ok-count.count c.pieces.invariant.so_far (rw c.pieces.invariant.kept at part);
    }
