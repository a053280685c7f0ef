use Rattle.std.proofs.Common.{◌≡◌, ◌∙◌, ◌<◌, ◌+◌, ℕ, Bool, List, sym, ap, map, length, arith}
use Rattle.std.proofs.lemmas.List.{length-map}
use Rattle.gm_image.specs.declared.lines.MasterLine.{MasterLine}
use Rattle.gm_image.specs.Program.{Command}
use Rattle.gm_image.specs.Views.{block, command}
use Rattle.gm_merge.specs.Trimmed.{is_run, kept_blocks, kept_count}
use Rattle.gm_merge.specs.Numbers.{flag_at, count_at, numbered}
use Rattle.gm_merge.proofs.Numbering.{blocks-same, count-same, numbers-same}
use Rattle.gm_merge.proofs.trimming.trim_lists.Goals as goal

pub returns-clause-blocks : goal.returns-clause-blocks
returns-clause-blocks c =
    let ms = map command c.args.master.items in
    let bs = map block c.args.blocks.items in
    c.in_ok-kept.ensures
    ∙ ap (λ (fs : List Bool). kept_blocks (flag_at fs) 0 bs) c.as_slice-3.ensures.value
    ∙ blocks-same (flag_at c.in_ok-runs.runs.items) (is_run ms) 0 bs
    (λ k l.
    let z : 0 + k ≡ k = omega arith in
    let inside : k < c.len.result = omega (arith, l, length-map c.args.blocks.items block, c.len.ensures) in
    ap (flag_at c.in_ok-runs.runs.items) z ∙ c.in_ok-runs.ensures.runs k inside
    ∙ ap (λ (xs : List MasterLine). is_run (map command xs) k) c.as_slice.ensures.value ∙ ap (is_run ms) (sym z))

pub returns-clause-master : goal.returns-clause-master
returns-clause-master c =
    let ms = map command c.args.master.items in
    let flags = c.in_ok-runs.runs.items in
    let n = length c.args.blocks.items in
    let long : length flags ≡ n = omega (arith, c.in_ok-runs.ensures.long, c.len.ensures) in
    c.in_ok-lines.ensures
    ∙ ap (λ (ns : List ℕ). map (numbered (count_at ns)) ms) c.as_slice-4.ensures.value
    ∙ numbers-same (count_at c.in_ok-numbers.numbers.items) (is_run ms) n ms
    (λ q l.
    let inside : q < length c.as_slice-2.result.now = omega (arith, l, long, ap (λ (fs : List Bool). length fs) c.as_slice-2.ensures.value) in
    c.in_ok-numbers.ensures.numbers q inside
    ∙ ap (λ (fs : List Bool). kept_count (flag_at fs) 0 q) c.as_slice-2.ensures.value
    ∙ count-same (flag_at flags) (is_run ms) 0 q
    (λ k m.
    let z : 0 + k ≡ k = omega arith in
    let below : k < c.len.result = omega (arith, l, m, c.len.ensures) in
    ap (flag_at flags) z ∙ c.in_ok-runs.ensures.runs k below
    ∙ ap (λ (xs : List MasterLine). is_run (map command xs) k) c.as_slice.ensures.value ∙ ap (is_run ms) (sym z)))
    c.requires.inside
