use Rattle.std.proofs.Common.{◌≡◌, ◌∙◌, ◌&&◌, ◌||◌, ◌++◌, Bool, List, map, sym, ap}
use Rattle.std.specs.List.{list_all}
use Rattle.std.proofs.lemmas.List.Folds.{list_all-append}
use Rattle.gm_image.specs.Program.{Line}
use Rattle.gm_image.specs.Parts.{is_among}
use Rattle.gm_image.specs.Views.{line}
use Rattle.gm_merge_laws.specs.Joins.{put_globals, sends_nothing, cannot_fault}
use Rattle.gm_merge.specs.Bounds.{lines_bound}
use Rattle.gm_merge.proofs.Bounding.{bound_append}
use Rattle.gm_merge.proofs.Putting.{puts-both}
use Rattle.gm_merge.proofs.Testing.{silent-lines, calm-lines}
use Rattle.gm_merge.proofs.joinable.Earlier.add.Goals as goal

pub returns : goal.returns
returns c = λ ls shows.
    let more : List Line = map line c.args.more.now in
    record {
      puts = λ n. c.in_ok-add_puts.ensures n ∙ ap (λ b. b || is_among n (put_globals more)) (shows.puts n) ∙ sym (puts-both ls more n);
      bound = c.lines_bound-self.ensures ∙ ap (λ n. lines_bound n more) shows.bound ∙ sym (bound_append 0 ls more);
      silent = c.both_hold-self.ensures ∙ ap (λ b. b && c.lines_hold-silent.result) shows.silent ∙ ap (λ b. list_all sends_nothing ls && b) (c.lines_hold-silent.ensures ∙ silent-lines more) ∙ sym (list_all-append sends_nothing ls more);
      calm = c.both_hold-self-2.ensures ∙ ap (λ b. b && c.lines_hold-calm.result) shows.calm ∙ ap (λ b. list_all cannot_fault ls && b) (c.lines_hold-calm.ensures ∙ calm-lines more) ∙ sym (list_all-append cannot_fault ls more);
    }
