use Rattle.std.proofs.Common.{◌≡◌, ◌∙◌, ◌<◌, ℕ, Bool, true, false, not, Ok, List, get_or, length, refl, ap, sym, arith, rules}
use Rattle.std.proofs.lemmas.List.{get_or-map, length-map}
use Rattle.gm_value.specs.declared.values.Value.{Value}
use Rattle.gm_value.specs.declared.values.Value.TheVariants.{Flag}
use Rattle.gm_value.specs.Operations.{is_true}
use Rattle.gm_semantics.specs.Expressions.{plain}
use Rattle.gm_columns.specs.declared.cells.Cells.TheVariants.{Flags}
use Rattle.gm_loops.specs.Columns.{IsColumn}
use Rattle.gm_loops.proofs.filters.is_over.Goals as goal

not-true : (b : Bool) → not b ≡ true → is_true (Flag b) ≡ false
not-true true e = cc
not-true false e = refl

pub returns-then-at-len : goal.returns-then-at-len
returns-then-at-len c = λ test w i known over.
    let flags : List Bool = c.in-Some-Flags.flags.items in
    let at : ℕ = c.args.node in
    let b : Bool = c.index.result.now in
    let column : IsColumn test w i (Flags c.in-Some-Flags.flags) = search rules in
    let within : at < length flags = omega (arith, c.if-at-len.true, c.len.ensures) in
    let read : b ≡ get_or flags at b = search rules in
    record {
      value = Flag b;
      fails = not-true b over;
      found = column.values at (Flag b) (omega (arith, within, length-map flags (λ b. Flag b), column.full))
          ∙ ap (λ (u : Value). plain (Ok u)) (get_or-map (λ b. Flag b) flags at b (Flag b) within ∙ ap (λ (x : Bool). Flag x) (sym read));
    }
