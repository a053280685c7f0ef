use Rattle.std.proofs.Common.{◌≡◌, ◌≤◌, true, take}
use Rattle.std.specs.List.{list_all}
use Rattle.gm_fields.specs.Fields.{is_digit, decimal_value}
use Rattle.gm_loader.proofs.quick.leading_digits.Given as goal

abbrev pub invariant-loop-end : goal.invariant-loop-end
invariant-loop-end l = record {
  digits : list_all is_digit (take l.end l.text) ≡ true;
  spelled : decimal_value (take l.end l.text) ≡ l.number;
  small : l.number ≤ 9000000000000000009;
}
