-- The numbers of the statements of reductions, in the order of the text.
use Rattle.std.specs.Prelude.{ℕ, nat_lt, Bool, true, ◌&&◌, List, [], ◌∷◌, ◌++◌}
use Rattle.gm_ast.specs.Program.{Stmt, Then, Combine, Foreach, For, If, While, Do, InBfs, InBfsBoth, Program}

-- the numbers under which the reductions of a loop's body are taken, those of its inner loops among them
abbrev pub numbers_in : Stmt → List ℕ
numbers_in (Then a b) = numbers_in a ++ numbers_in b
numbers_in (Combine k total r ts es) = total.key.statement ∷ []
numbers_in (If k c a b) = numbers_in a ++ numbers_in b
numbers_in (Foreach k at h test body) = numbers_in body
numbers_in _ = []

-- whether a number is less than all of some
abbrev pub is_below : ℕ → List ℕ → Bool
is_below n [] = true
is_below n (m ∷ ms) = nat_lt n m && is_below n ms

-- whether each number is less than all behind it
abbrev pub rise : List ℕ → Bool
rise [] = true
rise (n ∷ ns) = is_below n ns && rise ns

-- whether the numbers of each parallel loop of a sequential phase rise
abbrev pub numbers_rise_in : Stmt → Bool
numbers_rise_in (Then a b) = numbers_rise_in a && numbers_rise_in b
numbers_rise_in (Foreach k at h test body) = rise (numbers_in body)
numbers_rise_in (For k at h test body) = numbers_rise_in body
numbers_rise_in (If k c a b) = numbers_rise_in a && numbers_rise_in b
numbers_rise_in (While k at c body) = numbers_rise_in body
numbers_rise_in (Do k at body c) = numbers_rise_in body
numbers_rise_in (InBfs k at s test body) = rise (numbers_in body)
numbers_rise_in (InBfsBoth k at s test body back_key back_test back) = rise (numbers_in body) && rise (numbers_in back)
numbers_rise_in _ = true

-- whether those of each parallel loop of a program rise
abbrev pub numbers_rise : Program → Bool
numbers_rise p = numbers_rise_in p.body
