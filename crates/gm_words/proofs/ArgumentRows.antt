-- The values of inputs at words that are written out, as their definition computes them.
use Rattle.std.proofs.Common.{◌≡◌, ℕ, List, [], ◌∷◌, Some, None, Ok, Err, true, pos, negsuc, refl, codes}
use Rattle.gm_value.specs.declared.values.VType.TheVariants as type
use Rattle.gm_value.specs.declared.values.Value.TheVariants.{I32, I64, Flag, At}
use Rattle.gm_words.specs.declared.arguments.ArgFault.TheVariants.{Missing, Unknown, Twice, BadValue, NoSuchNode}
use Rattle.gm_words.specs.declared.arguments.Input.{Input}
use Rattle.gm_words.specs.Arguments.{given_by, in_order, values_bound}

abbrev root : List Input
root = record { name = codes "root"; vtype = type.Node } ∷ []

abbrev nodes : List ℕ
nodes = 0 ∷ 1 ∷ 5 ∷ 9223372036854775807 ∷ []

-- no word
missing : values_bound root [] nodes ≡ Err (Missing (codes "root"))
unfolding given_by in_order
missing = refl

-- x=1
unknown : values_bound root (codes "x=1" ∷ []) nodes ≡ Err (Unknown (codes "x"))
unfolding given_by in_order
unknown = refl

-- root=0 root=0
twice : values_bound root (codes "root=0" ∷ codes "root=0" ∷ []) nodes ≡ Err (Twice (codes "root"))
unfolding given_by in_order
twice = refl

-- root=zero
bad_value : values_bound root (codes "root=zero" ∷ []) nodes ≡ Err (BadValue (codes "root"))
unfolding given_by in_order
bad_value = refl

-- root=9223372036854775808
too_large : values_bound root (codes "root=9223372036854775808" ∷ []) nodes ≡ Err (BadValue (codes "root"))
unfolding given_by in_order
too_large = refl

-- root=9
no_such_node : values_bound root (codes "root=9" ∷ []) nodes ≡ Err (NoSuchNode (codes "root"))
unfolding given_by in_order
no_such_node = refl

-- root=9 x=1, where the first faulty word counts
first_fault : values_bound root (codes "root=9" ∷ codes "x=1" ∷ []) nodes ≡ Err (NoSuchNode (codes "root"))
unfolding given_by in_order
first_fault = refl

-- root=005, the node of index 2
by_number : values_bound root (codes "root=005" ∷ []) nodes ≡ Ok (At (Some 2) ∷ [])
unfolding given_by in_order
by_number = refl

-- root=NIL
nil : values_bound root (codes "root=NIL" ∷ []) nodes ≡ Ok (At None ∷ [])
unfolding given_by in_order
nil = refl

abbrev three : List Input
three = record { name = codes "k"; vtype = type.I32 } ∷ record { name = codes "far"; vtype = type.I64 } ∷ record { name = codes "both"; vtype = type.Flag } ∷ []

-- both=True far=-9223372036854775808 k=-0
in_their_order : values_bound three (codes "both=True" ∷ codes "far=-9223372036854775808" ∷ codes "k=-0" ∷ []) nodes
    ≡ Ok (I32 (pos 0) ∷ I64 (negsuc 9223372036854775807) ∷ Flag true ∷ [])
unfolding given_by in_order
in_their_order = refl

-- k=2147483648
past_its_range : values_bound three (codes "k=2147483648" ∷ []) nodes ≡ Err (BadValue (codes "k"))
unfolding given_by in_order
past_its_range = refl

-- both=0, and then the first input without a word
first_missing : values_bound three (codes "both=0" ∷ []) nodes ≡ Err (Missing (codes "k"))
unfolding given_by in_order
first_missing = refl
