-- The definitions at worked values.
use Rattle.std.proofs.Common.{◌≡◌, true, false, ◌∷◌, ◌++◌, refl}
use Rattle.std.specs.Prelude.{codes}
use Rattle.gm_token.specs.declared.words.Word.TheVariants.{Name, Foreach, Nodes, Collection, Slash, MinAssign, Assign}
use Rattle.gm_token.specs.Words.{names, name_word}
use Rattle.gm_token.specs.Places.{start, past}
use Rattle.gm_token.specs.Spellings.{decimal_value, may_precede}

foreach_is : name_word (codes "Foreach") ≡ Foreach
unfolding names
foreach_is = refl

nodes_is : name_word (codes "Nodes") ≡ Nodes
unfolding names
nodes_is = refl

sequence_is : name_word (codes "N_Q") ≡ Collection
unfolding names
sequence_is = refl

other_case_is : name_word (codes "foreach") ≡ Name
unfolding names
other_case_is = refl

longer_is : name_word (codes "Foreach1") ≡ Name
unfolding names
longer_is = refl

value_is : decimal_value (codes "0070") ≡ 70
value_is = refl

limit_is : decimal_value (codes "9223372036854775807") ≡ 9223372036854775807
limit_is = refl

-- CR is a byte like any other, and LF ends a line
place_is : past start (codes "ab" ++ 13 ∷ 10 ∷ codes "cde") ≡ record { line = 2; col = 4 }
place_is = refl

min_before_equal : may_precede MinAssign (codes "= 1") ≡ false
min_before_equal = refl

min_before_blank : may_precede MinAssign (codes " = 1") ≡ true
min_before_blank = refl

slash_before_star : may_precede Slash (codes "* x") ≡ false
slash_before_star = refl

equal_before_equal : may_precede Assign (codes "=") ≡ true
equal_before_equal = refl
