-- Verdicts that the rules compute on small images.
use Rattle.std.specs.Prelude.{◌≡◌, refl, true, Some, None, List, [], ◌∷◌, codes}
use Rattle.gm_value.specs.declared.values.VType.TheVariants as types
use Rattle.gm_value.specs.declared.values.Value.TheVariants as values
use Rattle.gm_value.specs.declared.reductions.Reduce.TheVariants as reduce
use Rattle.gm_image.specs.declared.rules.ImageRule.TheVariants.{I1, I2, I3, I4, I5, I6, I7, I8, I9, I10}
use Rattle.gm_image.specs.Term.{Const, Field, Message, Neighbour}
use Rattle.gm_image.specs.Program.{Program, Line, SetField, Fold, Put, Send, Skip, Each, Out, Command, Step, Jump, Finish}
use Rattle.gm_image.specs.Rows.{line_count}
use Rattle.gm_image.specs.Soundness.{is_sound, first_broken}
use Rattle.gm_image.proofs.Samples.{spin, spin_short, spin_endless, total, total_of, pair, pair_merged, push, best, weigh}

-- sound ones

spin_is_sound : is_sound spin ≡ true
spin_is_sound = refl

total_is_sound : is_sound total ≡ true
total_is_sound = refl

pair_is_sound : is_sound pair ≡ true
pair_is_sound = refl

pair_merged_is_sound : is_sound pair_merged ≡ true
pair_merged_is_sound = refl

sum_is_sound : is_sound (total_of reduce.Sum) ≡ true
sum_is_sound = refl

push_is_sound : is_sound push ≡ true
push_is_sound = refl

best_is_sound : is_sound best ≡ true
best_is_sound = refl

weigh_is_sound : is_sound weigh ≡ true
weigh_is_sound = refl

-- the texts of spin and total have 19 and 30 lines

spin_has_nineteen_lines : line_count spin ≡ 19
spin_has_nineteen_lines = refl

total_has_thirty_lines : line_count total ≡ 30
total_has_thirty_lines = refl

-- total with other blocks: the body of its first, and the lines of the handler of its second
abbrev total_with : List Line → List Line → Program
total_with body lines = record total {
  blocks =
      record { handlers = []; body = body }
      ∷ record { handlers = record { kind = 0; lines = lines } ∷ []; body = [] }
      ∷ [];
}

-- what total's first block sends, and how its second takes it
abbrev sends : List Line
sends = Send 0 Neighbour (Field 0 ∷ []) ∷ []

abbrev takes : List Line
takes = Fold reduce.Sum 0 (record { slot = 1; term = Message 0 } ∷ []) ∷ []

-- total with another second master line
abbrev total_then : Command → Program
total_then c = record total { master = Step 0 ∷ c ∷ Finish ∷ [] }

-- one of each rule that is broken, at its line

unknown_block : first_broken (total_then (Step 2)) ≡ Some (record { rule = I1; line = 29 })
unknown_block = refl

unknown_field : first_broken (total_with (Each Out 1 ∷ Send 0 Neighbour (Field 2 ∷ []) ∷ []) takes) ≡ Some (record { rule = I1; line = 22 })
unknown_field = refl

node_for_a_number : first_broken (total_with (Each Out 1 ∷ Send 0 Neighbour (Neighbour ∷ []) ∷ []) takes) ≡ Some (record { rule = I2; line = 22 })
node_for_a_number = refl

jump_backward : first_broken (total_then (Jump 0)) ≡ Some (record { rule = I3; line = 29 })
jump_backward = refl

exit_at_the_back : first_broken spin_short ≡ Some (record { rule = I4; line = 18 })
exit_at_the_back = refl

second_end : first_broken (total_then Finish) ≡ Some (record { rule = I5; line = 29 })
second_end = refl

no_master_line : first_broken spin_endless ≡ Some (record { rule = I5; line = 15 })
no_master_line = refl

each_past_the_end : first_broken (total_with (Each Out 2 ∷ sends) takes) ≡ Some (record { rule = I6; line = 21 })
each_past_the_end = refl

skip_into_an_each : first_broken (total_with (Skip 1 (Const (values.Flag true)) ∷ Each Out 1 ∷ sends) takes) ≡ Some (record { rule = I6; line = 21 })
skip_into_an_each = refl

skip_over_an_each : first_broken (total_with (Skip 2 (Const (values.Flag true)) ∷ Each Out 1 ∷ sends) takes) ≡ None
skip_over_an_each = refl

neighbour_outside_an_each : first_broken (total_with (Skip 1 (Const (values.Flag true)) ∷ sends) takes) ≡ Some (record { rule = I7; line = 22 })
neighbour_outside_an_each = refl

set_in_a_handler : first_broken (total_with (Each Out 1 ∷ sends) (SetField 1 (Message 0) ∷ [])) ≡ Some (record { rule = I8; line = 25 })
set_in_a_handler = refl

folded_field_is_read : first_broken (total_with (Each Out 1 ∷ sends) (Skip 0 (Const (values.Flag true)) ∷ Fold reduce.Sum 0 (record { slot = 1; term = Field 1 } ∷ []) ∷ [])) ≡ Some (record { rule = I8; line = 26 })
folded_field_is_read = refl

folded_two_ways : first_broken (total_with (Each Out 1 ∷ sends) (Fold reduce.Max 0 (record { slot = 1; term = Message 0 } ∷ []) ∷ takes)) ≡ Some (record { rule = I8; line = 26 })
folded_two_ways = refl

-- the sum of a field over all nodes, with one more line in its block
abbrev sum_and : Line → Program
sum_and l = record (total_of reduce.Sum) {
  blocks = record { handlers = []; body = Put reduce.Sum 0 (record { slot = 0; term = Field 0 } ∷ []) ∷ l ∷ [] } ∷ [];
}

put_two_ways : first_broken (sum_and (Put reduce.Min 0 (record { slot = 0; term = Field 0 } ∷ []))) ≡ Some (record { rule = I9; line = 20 })
put_two_ways = refl

put_in_one_way : first_broken (sum_and (Put reduce.Sum 0 (record { slot = 0; term = Field 0 } ∷ []))) ≡ None
put_in_one_way = refl

name_with_a_digit_first : first_broken (record spin { name = codes "5pin" }) ≡ Some (record { rule = I10; line = 2 })
name_with_a_digit_first = refl

surplus_column : first_broken (record spin { columns = types.I32 ∷ [] }) ≡ Some (record { rule = I10; line = 10 })
surplus_column = refl

-- of two rules that one line breaks the lesser counts, and of two lines the earlier one
two_rules_at_one_line : first_broken (total_with (Send 0 Neighbour (Neighbour ∷ []) ∷ []) takes) ≡ Some (record { rule = I2; line = 21 })
two_rules_at_one_line = refl

two_lines : first_broken (record (total_then (Step 2)) { name = [] }) ≡ Some (record { rule = I10; line = 2 })
two_lines = refl
