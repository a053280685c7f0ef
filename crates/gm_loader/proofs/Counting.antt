-- How many different node numbers some lines have.
use Rattle.std.proofs.Common.{◌≡◌, ◌≤◌, ◌<◌, ◌+◌, ℕ, zero, suc, Bool, true, false, cond, ◌||◌, min, eqb, ltb, List, [], ◌∷◌, ◌++◌, length, map, take, get_or, refl, ap, sym, ◌∙◌, arith, append_assoc}
use Rattle.std.proofs.lemmas.Bool.Decides.{nat_tests}
use Rattle.std.proofs.lemmas.List.{take_more}
use Rattle.std.proofs.lemmas.List.Folds.{list_any-append}
use Rattle.gm_graph.specs.Builds.{distinct}
use Rattle.gm_loader.specs.declared.sets.NumberSet.{NumberSet}
use Rattle.gm_loader.specs.declared.counts.NodeCount.{NodeCount}
use Rattle.gm_loader.specs.Lines.{Line, Skipped, NodeLine, EdgeLine}
use Rattle.gm_loader.specs.GraphText.{edge_rows, node_rows, numbers_on}
use Rattle.gm_loader.specs.Sets.{IsSetOf, SameNumbers, EachBelow, Counts}
use Rattle.gm_loader.proofs.Members.{among, distinct-within, IsSetOf-push, Inserts}

-- a list has no more different numbers than elements
distinct_len : (xs : List ℕ) → length (distinct xs) ≤ length xs
distinct_len [] = omega arith
distinct_len (x ∷ xs) =
    let more : length (distinct xs) ≤ length xs = distinct_len xs in
    elim (among x xs) as (λ v. length (cond v (distinct xs) (x ∷ distinct xs)) ≤ length (x ∷ xs)) [
      | true ↦ omega (arith, more)
      | false ↦ omega (arith, more)
    ]

-- the numbers below a limit
abbrev upto : ℕ → List ℕ
upto zero = []
upto (suc k) = k ∷ upto k

upto_len : (k : ℕ) → length (upto k) ≡ k
upto_len zero = refl
upto_len (suc k) = ap suc (upto_len k)

in_upto : (k n : ℕ) → n < k → among n (upto k) ≡ true
in_upto zero n h = absurd (omega (arith, h))
in_upto (suc k) n h =
    elim (eqb k n) as (λ v. eqb k n ≡ v → (v || among n (upto k)) ≡ true) [
      | true ↦ λ is. refl
      | false ↦ λ is. let less : n < k = grind (arith, nat_tests, is, h) in in_upto k n less
    ] refl

-- no more different numbers are below a limit than the limit
pub few_below : (limit : ℕ) (xs : List ℕ) → EachBelow limit xs → length (distinct xs) ≤ limit
few_below limit xs h =
    let inside : length (distinct xs) ≤ length (distinct (upto limit)) = distinct-within xs (upto limit) (λ n here. in_upto limit n (h n here)) in
    omega (arith, inside, distinct_len (upto limit), upto_len limit)

-- a set of the same numbers
pub IsSetOf-same : (xs ys : List ℕ) (set : NumberSet) → SameNumbers xs ys → IsSetOf xs set → IsSetOf ys set
IsSetOf-same xs ys set same s =
    let up : length (distinct xs) ≤ length (distinct ys) = distinct-within xs ys (λ n here. sym (same n) ∙ here) in
    let down : length (distinct ys) ≤ length (distinct xs) = distinct-within ys xs (λ n here. same n ∙ here) in
    let size : length (distinct xs) ≡ length (distinct ys) = omega (arith, up, down) in
    record {
      members = λ n. s.members n ∙ same n;
      count = s.count ∙ ap (λ k. min k 18446744073709551615) size;
    }

-- a set with one number more of a list
pub IsSetOf-more : (before numbers : List ℕ) (i n d : ℕ) (old new : NumberSet) (added : Bool) → i < length numbers → n ≡ get_or numbers i d → Inserts old new n added
    → IsSetOf (before ++ take i numbers) old → IsSetOf (before ++ take (i + 1) numbers) new
IsSetOf-more before numbers i n d old new added h is more s =
    let longer : take (i + 1) numbers ≡ take i numbers ++ n ∷ [] = take_more numbers i d h ∙ ap (λ k. take i numbers ++ k ∷ []) (sym is) in
    rw (longer, ← append_assoc before (take i numbers) (n ∷ [])) (IsSetOf-push (before ++ take i numbers) old new n added s more.is_new more.members more.count)

-- two numbers more, all below the limit
below_two : (limit n : ℕ) (x y z : Bool) → (x ≡ true → n < limit) → (y ≡ true → n < limit) → (z ≡ true → n < limit) → (x || (y || (z || false))) ≡ true → n < limit
below_two limit n true y z f g h e = f refl
below_two limit n false true z f g h e = g refl
below_two limit n false false z f g h e = h (flat z e) where
  flat : (z : Bool) → (z || false) ≡ true → z ≡ true
  flat true e = refl
  flat false e = e

equal_below : (limit n m : ℕ) → m < limit → eqb m n ≡ true → n < limit
equal_below limit n m h e = grind (arith, nat_tests, e, h)

pub EachBelow-two : (limit : ℕ) (before numbers : List ℕ) (a b : ℕ) → EachBelow limit before → a < limit → b < limit → SameNumbers (before ++ a ∷ b ∷ []) numbers → EachBelow limit numbers
EachBelow-two limit before numbers a b h la lb same = λ n here.
    below_two limit n (among n before) (eqb a n) (eqb b n) (h n) (equal_below limit n a la) (equal_below limit n b lb)
    (sym (list_any-append (λ m. eqb m n) before (a ∷ b ∷ [])) ∙ same n ∙ here)

-- a count that has two numbers more: both were put into its set
pub count_more : (most : ℕ) (before numbers : List ℕ) (old new : NodeCount) (middle : NumberSet) (a b : ℕ) (x y : Bool)
    → old.counted ≡ true → new.counted ≡ true → Inserts old.set middle a x → Inserts middle new.set b y
    → Counts most before old → SameNumbers (before ++ a ∷ b ∷ []) numbers → Counts most numbers new
count_more most before numbers old new middle a b x y was is i j c same =
    let first : IsSetOf (before ++ a ∷ []) middle = IsSetOf-push before old.set middle a x (c.counted was) i.is_new i.members i.count in
    let both : IsSetOf ((before ++ a ∷ []) ++ b ∷ []) new.set = IsSetOf-push (before ++ a ∷ []) middle new.set b y first j.is_new j.members j.count in
    let whole : IsSetOf (before ++ a ∷ b ∷ []) new.set = rw (← append_assoc before (a ∷ []) (b ∷ [])) both in
    record {
      counted = λ e. IsSetOf-same (before ++ a ∷ b ∷ []) numbers new.set same whole;
      uncounted = λ e. cc;
      empty = λ e. cc;
    }

-- it began to count
pub count_begun : (most : ℕ) (before numbers rows : List ℕ) (old new : NodeCount)
    → old.counted ≡ false → new.counted ≡ true → (IsSetOf [] old.set → IsSetOf rows new.set)
    → Counts most before old → SameNumbers rows numbers → Counts most numbers new
count_begun most before numbers rows old new was is set c same = record {
  counted = λ e. IsSetOf-same rows numbers new.set same (set (c.empty was));
  uncounted = λ e. cc;
  empty = λ e. cc;
}

-- it need not count yet
pub count_same : (most : ℕ) (before numbers : List ℕ) (old : NodeCount) (a b : ℕ) → old.counted ≡ false → a < most → b < most
    → Counts most before old → SameNumbers (before ++ a ∷ b ∷ []) numbers → Counts most numbers old
count_same most before numbers old a b was la lb c same = record {
  counted = λ e. cc;
  uncounted = λ e. EachBelow-two most before numbers a b (c.uncounted was) la lb same;
  empty = c.empty;
}

-- whether there are more than the limit
pub exceeding : (most : ℕ) (numbers : List ℕ) (count : NodeCount) (over : Bool) → most < 4294967296 → count.counted ≡ true → over ≡ ltb most count.set.count
    → Counts most numbers count → over ≡ ltb most (length (distinct numbers))
exceeding most numbers count over small is e c =
    let s : IsSetOf numbers count.set = c.counted is in
    let size : count.set.count ≡ min (length (distinct numbers)) 18446744073709551615 = s.count in
    e ∙ capped (length (distinct numbers)) size where
      capped : (k : ℕ) → count.set.count ≡ min k 18446744073709551615 → ltb most count.set.count ≡ ltb most k
      capped k same = elim (ltb most k) as (λ v. ltb most k ≡ v → ltb most count.set.count ≡ v) [
        | true ↦ λ more. let less : most < k = grind (arith, nat_tests, more) in let less' : most < count.set.count = omega (arith, less, same, small) in grind (arith, nat_tests, less')
        | false ↦ λ none. let few : k ≤ most = grind (arith, nat_tests, none) in let few' : count.set.count ≤ most = omega (arith, few, same) in grind (arith, nat_tests, few')
      ] refl

pub not_exceeding : (most : ℕ) (numbers : List ℕ) (count : NodeCount) → count.counted ≡ false → Counts most numbers count → false ≡ ltb most (length (distinct numbers))
not_exceeding most numbers count is c =
    let few : length (distinct numbers) ≤ most = few_below most numbers (c.uncounted is) in
    sym (within few) where
      within : {k : ℕ} → k ≤ most → ltb most k ≡ false
      within {k} h = grind (arith, nat_tests, h)

-- the rows of some lines have the numbers on these
on_node : (b a c d : Bool) → (a || c) ≡ d → (a || (b || c)) ≡ (b || d)
on_node true true c d e = refl
on_node true false c d e = refl
on_node false a c d e = e

on_edge : (x y a b c d : Bool) → ((a || b) || c) ≡ d → (((x || a) || (y || b)) || c) ≡ (x || (y || d))
on_edge true y a b c d e = refl
on_edge false true true b c d e = refl
on_edge false true false b c d e = refl
on_edge false false a b c d e = e

on_lines : (ls : List Line) (n : ℕ) → ((among n (map (λ e. e.from) (edge_rows ls)) || among n (map (λ e. e.to) (edge_rows ls))) || among n (map (λ r. r.number) (node_rows ls))) ≡ among n (numbers_on ls)
on_lines [] n = refl
on_lines (Skipped ∷ ls) n = on_lines ls n
on_lines (NodeLine m vs ∷ ls) n =
    on_node (eqb m n) (among n (map (λ e. e.from) (edge_rows ls)) || among n (map (λ e. e.to) (edge_rows ls))) (among n (map (λ r. r.number) (node_rows ls))) (among n (numbers_on ls)) (on_lines ls n)
on_lines (EdgeLine a b vs ∷ ls) n =
    on_edge (eqb a n) (eqb b n) (among n (map (λ e. e.from) (edge_rows ls))) (among n (map (λ e. e.to) (edge_rows ls))) (among n (map (λ r. r.number) (node_rows ls))) (among n (numbers_on ls)) (on_lines ls n)

apart : (n : ℕ) (xs ys zs : List ℕ) → among n (xs ++ ys ++ zs) ≡ ((among n xs || among n ys) || among n zs)
apart n xs ys zs =
    list_any-append (λ m. eqb m n) (xs ++ ys) zs ∙ ap (λ b. b || among n zs) (list_any-append (λ m. eqb m n) xs ys)

pub same_rows : (ls : List Line) → SameNumbers (map (λ e. e.from) (edge_rows ls) ++ map (λ e. e.to) (edge_rows ls) ++ map (λ r. r.number) (node_rows ls)) (numbers_on ls)
same_rows ls = λ n. apart n (map (λ e. e.from) (edge_rows ls)) (map (λ e. e.to) (edge_rows ls)) (map (λ r. r.number) (node_rows ls)) ∙ on_lines ls n
