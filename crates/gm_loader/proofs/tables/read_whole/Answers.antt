use Rattle.std.proofs.Common.{rules, w32, to_z, ◌≡◌, ◌≤◌, ◌++◌, ◌∷◌, [], ℕ, pos, true, leb, refl, ap, ◌∙◌, arith}
use Rattle.std.specs.Prelude.{Some, Ok}
use Rattle.std.proofs.lemmas.Bool.Decides.{nat_tests}
use Rattle.gm_value.specs.declared.values.VType.TheVariants.{I32}
use Rattle.gm_value.specs.declared.values.Value.{Value}
use Rattle.gm_value.specs.declared.values.Value.TheVariants as value
use Rattle.gm_columns.specs.Columns.{TypedRow}
use Rattle.gm_loader.specs.Fields.{value_in, whole_value}
use Rattle.gm_loader.specs.Tables.{with_value}
use Rattle.gm_loader.proofs.tables.read_whole.Goals as goal

-- a number that an Int can be
fits_int : (n : ℕ) → n ≤ 2147483647 → whole_value I32 (Some (pos n)) ≡ Ok (value.I32 (pos n))
fits_int n small =
    let fits : leb n 2147483647 ≡ true = grind (arith, nat_tests, small) in
    rw fits refl

-- a column with one value more
longer : (before after : TypedRow) (v : Value) → after.vtype ≡ before.vtype → after.values ≡ before.values ++ v ∷ [] → after ≡ with_value before v
longer before after v vtype values =
    ap (λ t. let row : TypedRow = record { vtype = t; values = after.values } in row) vtype
    ∙ ap (λ l. let row : TypedRow = record { vtype = before.vtype; values = l } in row) values

pub returns : goal.returns
returns c =
    let n = c.in-Some.whole.number in
    let same : to_z w32 n ≡ pos n = search rules in
    let is : c.args.column.now.vtype ≡ I32 = search rules in
    record {
      part = c.in-Some.ensures.part;
      value = value.I32 (pos n);
      first = c.in-Some.ensures.first;
      spelled = ap (λ t. value_in t c.in-Some.ensures.part) is ∙ (ap (whole_value I32) c.in-Some.ensures.spelled ∙ fits_int n (omega arith));
      added = longer c.args.column.now c.push.new.self (value.I32 (pos n)) c.in_ok-push.ensures.vtype (c.in_ok-push.ensures.added ∙ ap (λ z. c.args.column.now.values ++ value.I32 z ∷ []) same);
    }
