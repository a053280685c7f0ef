-- Numbers in tables are ranks.
use Rattle.std.proofs.Common.{◌≡◌, ◌<◌, ◌≤◌, ℕ, zero, suc, Bool, true, false, cond, List, [], ◌∷◌, length, map, get_or, refl, ap, ◌∙◌, sym, subst, arith}
use Rattle.std.specs.Prelude.{◌+◌, ◌-◌, filter}
use Rattle.gm_ast.specs.declared.tree.Declaration.{Declaration}
use Rattle.gm_ast.specs.declared.tree.Tree.{Tree}
use Rattle.gm_ast.specs.declared.tree.Variable.{Variable}
use Rattle.gm_ast.specs.Tree.{program_of}
use Rattle.gm_semantics.specs.Levels.{numbers_from}
use Rattle.gm_semantics.specs.Statements.{variable_at, undeclared}
use Rattle.gm_lowering.specs.Layouts.{layout, has_field, field_types}
use Rattle.gm_layouts.specs.declared.layouts.Row.{Row}
use Rattle.gm_layouts.specs.declared.layouts.Room.{Room}
use Rattle.gm_layouts.specs.declared.layouts.Room.TheVariants.{Globals, Registers, Columns}
use Rattle.gm_layouts.specs.Tables.{rows_from, numbers, held_types, number_in, held_at}
use Rattle.gm_layouts.specs.Tests.{in_room, field_of, types_in}

-- a number in the table
pub number_at : (b : Bool) (t : List ℕ) (x d : ℕ) → x < length t → number_in b t x ≡ get_or t x d
number_at b [] x d lt = absurd (omega arith)
number_at true (n ∷ []) zero d lt = omega arith
number_at false (n ∷ []) zero d lt = refl
number_at b (n ∷ []) (suc x) d lt = absurd (omega arith)
number_at b (n ∷ (m ∷ ms)) zero d lt = refl
number_at b (n ∷ (m ∷ ms)) (suc x) d lt = number_at b (m ∷ ms) x d (omega arith)

-- a number behind the table
pub number_past : (b : Bool) (t : List ℕ) (x d : ℕ) → 0 < length t → length t ≤ x
    → number_in b t x ≡ cond b (get_or t (length t - 1) d + (x - (length t - 1))) (get_or t (length t - 1) d)
number_past b [] x d some le = absurd (omega arith)
number_past true (n ∷ []) x d some le = omega arith
number_past false (n ∷ []) x d some le = refl
number_past b (n ∷ (m ∷ ms)) zero d some le = absurd (omega arith)
number_past b (n ∷ (m ∷ ms)) (suc x) d some le =
    let e : length (n ∷ (m ∷ ms)) - 1 ≡ suc (length (m ∷ ms) - 1) = omega arith in
    let f : suc x - suc (length (m ∷ ms) - 1) ≡ x - (length (m ∷ ms) - 1) = omega arith in
    number_past b (m ∷ ms) x d (omega arith) (omega arith)
    ∙ ap (λ z. cond b (get_or (m ∷ ms) (length (m ∷ ms) - 1) d + z) (get_or (m ∷ ms) (length (m ∷ ms) - 1) d)) (sym f)
    ∙ ap (λ z. cond b (get_or (n ∷ (m ∷ ms)) z d + (suc x - z)) (get_or (n ∷ (m ∷ ms)) z d)) (sym e)

-- the same, where what stands for a missing number is zero
pub number_at_0 : (b : Bool) (t : List ℕ) (x : ℕ) → x < length t → number_in b t x ≡ get_or t x 0
number_at_0 b t x lt = number_at b t x 0 lt

pub number_past_0 : (b : Bool) (t : List ℕ) (x : ℕ) → 0 < length t → length t ≤ x
    → number_in b t x ≡ cond b (get_or t (length t - 1) 0 + (x - (length t - 1))) (get_or t (length t - 1) 0)
number_past_0 b t x some le = number_past b t x 0 some le

first-number : (b : Bool) (n m : ℕ) (rs : List Row) → number_in b (n ∷ numbers m rs) zero ≡ n
first-number b n m [] = refl
first-number b n m (r ∷ rs) = refl

next-number : (b : Bool) (n m : ℕ) (rs : List Row) (x : ℕ) → number_in b (n ∷ numbers m rs) (suc x) ≡ number_in b (numbers m rs) x
next-number b n m [] x = refl
next-number b n m (r ∷ rs) x = refl

-- numbers all of which pass a test, or none
all-or-none : (b : Bool) (test : ℕ → Bool) (k x : ℕ) → ((i : ℕ) → test (k + i) ≡ b) → length (filter test (numbers_from k x)) ≡ cond b x 0
all-or-none true test k zero same = refl
all-or-none false test k zero same = refl
all-or-none b test k (suc x) same =
    let here : test k ≡ b = subst (λ z. test z ≡ b) (let e : k + 0 ≡ k = omega arith in e) (same 0) in
    let there = all-or-none b test (suc k) x (λ i. subst (λ z. test z ≡ b) (let e : k + suc i ≡ suc k + i = omega arith in e) (same (suc i))) in
    ap (λ c. length (cond c (k ∷ filter test (numbers_from (suc k) x)) (filter test (numbers_from (suc k) x)))) here ∙ by b there where
      by : (b : Bool) → length (filter test (numbers_from (suc k) x)) ≡ cond b x 0
          → length (cond b (k ∷ filter test (numbers_from (suc k) x)) (filter test (numbers_from (suc k) x))) ≡ cond b (suc x) 0
      by true e = ap suc e
      by false e = e

abbrev Along : (ℕ → Variable) → ℕ → List Declaration → Type 0
Along at k ds = (i : ℕ) → at (k + i) ≡ variable_at ds i

along-here : (at : ℕ → Variable) (k : ℕ) (d : Declaration) (ds : List Declaration) → Along at k (d ∷ ds) → at k ≡ d.variable
along-here at k d ds same = subst (λ z. at z ≡ d.variable) (let e : k + 0 ≡ k = omega arith in e) (same 0)

along-on : (at : ℕ → Variable) (k : ℕ) (d : Declaration) (ds : List Declaration) → Along at k (d ∷ ds) → Along at (suc k) ds
along-on at k d ds same i = subst (λ z. at z ≡ variable_at ds i) (let e : k + suc i ≡ suc k + i = omega arith in e) (same (suc i))

numbers-are : (test : ℕ → Variable → Bool) (b : Bool) (at : ℕ → Variable) (k n : ℕ) (ds : List Declaration) (x : ℕ)
    → ((i : ℕ) → test i undeclared ≡ b) → Along at k ds
    → number_in b (numbers n (rows_from test k ds)) x ≡ n + length (filter (λ y. test y (at y)) (numbers_from k x))
numbers-are test b at k n [] x none same =
    by b (all-or-none b (λ y. test y (at y)) k x (λ i. ap (test (k + i)) (same i) ∙ none (k + i))) where
      by : (b : Bool) → length (filter (λ y. test y (at y)) (numbers_from k x)) ≡ cond b x 0
          → cond b (n + x) n ≡ n + length (filter (λ y. test y (at y)) (numbers_from k x))
      by true e = ap (λ z. n + z) (sym e)
      by false e = (let f : n ≡ n + 0 = omega arith in f) ∙ ap (λ z. n + z) (sym e)
numbers-are test b at k n (d ∷ ds) zero none same =
    first-number b n (cond (test k d.variable) (suc n) n) (rows_from test (suc k) ds) ∙ (let f : n ≡ n + 0 = omega arith in f)
numbers-are test b at k n (d ∷ ds) (suc x) none same =
    next-number b n (cond (test k d.variable) (suc n) n) (rows_from test (suc k) ds) x
    ∙ numbers-are test b at (suc k) (cond (test k d.variable) (suc n) n) ds x none (along-on at k d ds same)
    ∙ by (test k d.variable)
    ∙ ap (λ c. n + length (cond c (k ∷ filter (λ y. test y (at y)) (numbers_from (suc k) x)) (filter (λ y. test y (at y)) (numbers_from (suc k) x)))) (sym (ap (test k) (along-here at k d ds same))) where
      by : (c : Bool) → cond c (suc n) n + length (filter (λ y. test y (at y)) (numbers_from (suc k) x))
          ≡ n + length (cond c (k ∷ filter (λ y. test y (at y)) (numbers_from (suc k) x)) (filter (λ y. test y (at y)) (numbers_from (suc k) x)))
      by true = omega arith
      by false = refl

types-are : (test : ℕ → Variable → Bool) (at : ℕ → Variable) (k : ℕ) (ds : List Declaration) → Along at k ds
    → held_types (rows_from test k ds) ≡ map (λ y. (at y).vtype) (filter (λ y. test y (at y)) (numbers_from k (length ds)))
types-are test at k [] same = refl
types-are test at k (d ∷ ds) same =
    ap (λ ts. cond (test k d.variable) (d.variable.vtype ∷ ts) ts) (types-are test at (suc k) ds (along-on at k d ds same))
    ∙ ap (λ v. cond (test k v) (v.vtype ∷ map (λ y. (at y).vtype) rest) (map (λ y. (at y).vtype) rest)) (sym (along-here at k d ds same))
    ∙ by (test k (at k)) where
      rest : List ℕ
      rest = filter (λ y. test y (at y)) (numbers_from (suc k) (length ds))

      by : (c : Bool) → cond c ((at k).vtype ∷ map (λ y. (at y).vtype) rest) (map (λ y. (at y).vtype) rest) ≡ map (λ y. (at y).vtype) (cond c (k ∷ rest) rest)
      by true = refl
      by false = refl

along-all : (ds : List Declaration) → Along (variable_at ds) 0 ds
along-all ds i = ap (variable_at ds) (let e : 0 + i ≡ i = omega arith in e)

no-more : (n : ℕ) → 0 + n ≡ n
no-more n = omega arith

pub global_number : (t : Tree) (x : ℕ) → number_in true (numbers 0 (rows_from (in_room Globals) 0 t.declarations.items)) x ≡ (layout (program_of t)).global x
global_number t x = numbers-are (in_room Globals) true (variable_at t.declarations.items) 0 0 t.declarations.items x (λ i. refl) (along-all t.declarations.items) ∙ no-more _

pub register_number : (t : Tree) (x : ℕ) → number_in false (numbers 0 (rows_from (in_room Registers) 0 t.declarations.items)) x ≡ (layout (program_of t)).register x
register_number t x = numbers-are (in_room Registers) false (variable_at t.declarations.items) 0 0 t.declarations.items x (λ i. refl) (along-all t.declarations.items) ∙ no-more _

pub column_number : (t : Tree) (x : ℕ) → number_in false (numbers 0 (rows_from (in_room Columns) 0 t.declarations.items)) x ≡ (layout (program_of t)).column x
column_number t x = numbers-are (in_room Columns) false (variable_at t.declarations.items) 0 0 t.declarations.items x (λ i. refl) (along-all t.declarations.items) ∙ no-more _

pub field_number : (t : Tree) (x : ℕ) → number_in false (numbers 0 (rows_from (field_of (program_of t)) 0 t.declarations.items)) x ≡ (layout (program_of t)).field x
field_number t x = numbers-are (field_of (program_of t)) false (variable_at t.declarations.items) 0 0 t.declarations.items x (λ i. refl) (along-all t.declarations.items) ∙ no-more _

pub rooms_held : (t : Tree) (r : Room) → held_types (rows_from (in_room r) 0 t.declarations.items) ≡ types_in (program_of t) r
rooms_held t r = types-are (in_room r) (variable_at t.declarations.items) 0 t.declarations.items (along-all t.declarations.items)

pub fields_held : (t : Tree) → held_types (rows_from (field_of (program_of t)) 0 t.declarations.items) ≡ field_types (program_of t)
fields_held t = types-are (field_of (program_of t)) (variable_at t.declarations.items) 0 t.declarations.items (along-all t.declarations.items)

rows-held : (test : ℕ → Variable → Bool) (at : ℕ → Variable) (k : ℕ) (ds : List Declaration) (x : ℕ)
    → ((i : ℕ) → test i undeclared ≡ false) → Along at k ds → held_at (rows_from test k ds) x ≡ test (k + x) (at (k + x))
rows-held test at k [] x none same = sym (ap (test (k + x)) (same x) ∙ none (k + x))
rows-held test at k (d ∷ ds) zero none same = ap (λ z. test z d.variable) (let e : k ≡ k + 0 = omega arith in e) ∙ ap (test (k + 0)) (sym (same 0))
rows-held test at k (d ∷ ds) (suc x) none same =
    rows-held test at (suc k) ds x none (along-on at k d ds same) ∙ ap (λ z. test z (at z)) (let e : suc k + x ≡ k + suc x = omega arith in e)

pub kept_at : (t : Tree) (x : ℕ) → held_at (rows_from (field_of (program_of t)) 0 t.declarations.items) x ≡ (layout (program_of t)).is_kept x
kept_at t x =
    rows-held (field_of (program_of t)) (variable_at t.declarations.items) 0 t.declarations.items x (λ i. refl) (along-all t.declarations.items)
    ∙ ap (λ z. has_field (program_of t) z) (let e : 0 + x ≡ x = omega arith in e)
