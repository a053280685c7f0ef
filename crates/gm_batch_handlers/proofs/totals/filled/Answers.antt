use Rattle.std.proofs.Common.{◌≡◌, ◌∙◌, ap, map, replicate, sym, rules, w32, w64, to_z, of_z}
use Rattle.gm_kernels.proofs.Copies.{map-replicate}
use Rattle.gm_value.specs.declared.values.Value.TheVariants.{I32, I64, Flag}
use Rattle.gm_batch_handlers.proofs.totals.filled.Goals as goal

pub returns-in_ok-ints-in-I32 : goal.returns-in_ok-ints-in-I32
returns-in_ok-ints-in-I32 c =
    let same : to_z w32 (of_z w32 c.in-I32.cell) ≡ c.in-I32.cell = search rules in
    ap (map (λ z. I32 z)) (c.in_ok-ints-in-I32.ensures ∙ ap (replicate c.args.rows) same)
    ∙ map-replicate (λ z. I32 z) c.args.rows c.in-I32.cell
    ∙ ap (replicate c.args.rows) (sym c.in-I32.is)

pub returns-in_ok-longs-in-I64 : goal.returns-in_ok-longs-in-I64
returns-in_ok-longs-in-I64 c =
    let same : to_z w64 (of_z w64 c.in-I64.cell) ≡ c.in-I64.cell = search rules in
    ap (map (λ z. I64 z)) (c.in_ok-longs-in-I64.ensures ∙ ap (replicate c.args.rows) same)
    ∙ map-replicate (λ z. I64 z) c.args.rows c.in-I64.cell
    ∙ ap (replicate c.args.rows) (sym c.in-I64.is)

pub returns-in_ok-flags-in-Flag : goal.returns-in_ok-flags-in-Flag
returns-in_ok-flags-in-Flag c =
    ap (map (λ b. Flag b)) c.in_ok-flags-in-Flag.ensures
    ∙ map-replicate (λ b. Flag b) c.args.rows c.in-Flag.cell
    ∙ ap (replicate c.args.rows) (sym c.in-Flag.is)
