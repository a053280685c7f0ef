-- Keys of the reductions of a sequential phase, as a text numbers them.
use Rattle.std.specs.Prelude.{nat_eq, nat_lt, Bool, true, ◌&&◌, ◌||◌, List, [], ◌∷◌, ◌++◌}
use Rattle.std.specs.List.{list_all}
use Rattle.gm_ast.specs.declared.tree.Key.{Key}
use Rattle.gm_ast.specs.Keys.{stage_rank}
use Rattle.gm_ast.specs.Program.{Expr, Unary, Binary, Both, Either, Choose, Folded, Stmt, Then, Declare, Assign, Combine, For, If, While, Do, Return}
use Rattle.gm_desugar.specs.Literals.{passes}

-- whether a key comes before another: by statement, then by stage
abbrev pub key_lt : Key → Key → Bool
key_lt a b = nat_lt a.statement b.statement || (nat_eq a.statement b.statement && nat_lt (stage_rank a.stage) (stage_rank b.stage))

-- the keys under which an expression's reductions may fault: each one's filter, braces and total
abbrev pub keys_in : Expr → List Key
keys_in (Unary op at e) = keys_in e
keys_in (Binary op at a b) = keys_in a ++ keys_in b
keys_in (Both a b) = keys_in a ++ keys_in b
keys_in (Either a b) = keys_in a ++ keys_in b
keys_in (Choose c a b) = keys_in c ++ (keys_in a ++ keys_in b)
keys_in (Folded f h test e) = (f.filter ∷ keys_in test) ++ ((f.body ∷ keys_in e) ++ (f.total.key ∷ []))
keys_in _ = []

-- whether a key comes after all of some, and whether it comes before all
abbrev pub all_under : Key → List Key → Bool
all_under k ks = list_all (λ j. key_lt j k) ks

abbrev pub all_over : Key → List Key → Bool
all_over k ks = list_all (key_lt k) ks

-- whether the keys of each reduction of an expression of a sequential phase rise: those of reductions in its filter, the filter's, those of reductions in its braces, the braces', the total's
abbrev pub rises : Expr → Bool
rises (Unary op at e) = rises e
rises (Binary op at a b) = rises a && rises b
rises (Both a b) = rises a && rises b
rises (Either a b) = rises a && rises b
rises (Choose c a b) = rises c && (rises a && rises b)
rises (Folded f h test e) =
    all_under f.filter (keys_in test) && (all_over f.filter (keys_in e) && (all_under f.body (keys_in e) && (key_lt f.filter f.body && key_lt f.body f.total.key)))
rises _ = true

-- the same of all reductions of a sequential phase
abbrev pub all_rise : Stmt → Bool
all_rise (Then a b) = all_rise a && all_rise b
all_rise (Declare k x e) = passes rises e
all_rise (Assign k t e) = rises e
all_rise (Combine k total r ts es) = list_all rises es
all_rise (For k at h test body) = rises test && all_rise body
all_rise (If k c a b) = rises c && (all_rise a && all_rise b)
all_rise (While k at c body) = rises c && all_rise body
all_rise (Do k at body c) = all_rise body && rises c
all_rise (Return k at e) = passes rises e
all_rise _ = true
