-- The definitions on rows worked by hand.
use Rattle.std.proofs.Common.{◌≡◌, ℕ, pos, None, List, [], ◌∷◌, refl}
use Rattle.gm_value.specs.declared.values.Value.{Value}
use Rattle.gm_value.specs.declared.values.Value.TheVariants.{I32}
use Rattle.gm_value.specs.declared.reductions.Reduce.TheVariants.{Min, Sum}
use Rattle.gm_batch_handlers.specs.Gifts.{Gift, Closes, gifts_of, of_node, to_slot, values_given, with_totals}
use Rattle.gm_batch_handlers.specs.Handling.{messages_in}

abbrev number : ℕ → Value
number n = I32 (pos n)

-- two messages of kind 3, to places 1 and 0, with two values each
two : messages_in 3 (1 ∷ 0 ∷ []) ((number 5 ∷ number 6 ∷ []) ∷ (number 7 ∷ number 8 ∷ []) ∷ [])
    ≡ record { to = 1; kind = 3; values = number 5 ∷ number 7 ∷ [] } ∷ record { to = 0; kind = 3; values = number 6 ∷ number 8 ∷ [] } ∷ []
two = refl

-- three gifts to slot 2, two of them of node 1
abbrev three : List Gift
three = gifts_of Sum 9 2 (1 ∷ 0 ∷ 1 ∷ []) (number 5 ∷ number 6 ∷ number 7 ∷ [])

ones : values_given (of_node 1 (to_slot 2 three)) ≡ number 5 ∷ number 7 ∷ []
ones = refl

none : to_slot 0 three ≡ []
none = refl

-- what they close to
sum : Closes Sum (number 10) (values_given (of_node 1 three)) (number 22)
sum = refl

least : Closes Min (number 10) (number 12 ∷ number 4 ∷ []) (number 4)
least = refl

stays : Closes Min (number 10) [] (number 10)
stays = refl

-- slots without totals keep their columns
kept : with_totals ((number 1 ∷ []) ∷ (number 2 ∷ []) ∷ []) (None ∷ None ∷ []) ≡ (number 1 ∷ []) ∷ (number 2 ∷ []) ∷ []
kept = refl
