-- What compilation says of a text.
use Rattle.std.proofs.Common.{◌≡◌, ◌∙◌, ℕ, suc, Bool, true, false, cond, List, [], ◌∷◌, Option, refl, sym, ap, subst}
use Rattle.std.specs.Prelude.{IfSome, IsTrue, Some, None, ◌&&◌, find, is_some, nat_lt, not}
use Rattle.std.specs.List.{list_all}
use Rattle.gm_ast.specs.Program.{Program}
use Rattle.gm_canon.specs.Verdict.{StandsFor}
use Rattle.gm_image.specs.Program as images
use Rattle.gm_image.specs.Rows.{Row, line_count, rows}
use Rattle.gm_image.specs.Soundness.{broken_from, broken_or, first_broken, image_rules, is_sound, keeps, keeps_all, line_limit}
use Rattle.gm_image.specs.Views.{program}
use Rattle.gm_compile.specs.Compiled.{Represents, compiled, has_image}
use Rattle.gm_run.specs.declared.compiling.Compiled.{Compiled}
use Rattle.gm_run.specs.Compiled.{RunsAs}
use Rattle.gm_driver.specs.Images.{IsCompiledOf, IsCompiledOrNone, IsRunnableOf}
use Rattle.gm_driver.specs.declared.images.Runnable.TheVariants as runnable

-- what is compiled of the program of a text, or none
pub compiled_or_none : (whole : List ℕ) (p : Program) (o : Option Compiled) → StandsFor whole p → IfSome o (λ c. program c.image ≡ compiled p) → is_some o ≡ has_image p
    → IfSome o (λ c. (text : List ℕ) → StandsFor text p → Represents (program c.image) p) → IfSome o (λ c. (text : List ℕ) → StandsFor text p → RunsAs c p) → IsCompiledOrNone whole o
compiled_or_none whole p (Some c) stands made which represents runs = record {
  source = p;
  has = record { stands = stands; has = sym which; represents = subst (λ (x : images.Program). Represents x p) made (represents whole stands) };
  made = made;
  runs = runs whole stands;
}
compiled_or_none whole p None stands made which represents runs = record { source = p; stands = stands; none = sym which }

-- what is compiled of a text's program runs as the program
pub compiled_runs : (whole : List ℕ) (c : Compiled) → IsCompiledOf whole c → IsRunnableOf whole (runnable.Compiled c)
compiled_runs whole c it = record { source = it.source; stands = it.has.stands; runs = it.runs; rows = it.runs.rows }

-- ---- soundness

-- a test that all pass is failed by none
none_fails : {A : Type 0} (test : A → Bool) (xs : List A) → list_all test xs ≡ true → find (λ x. not (test x)) xs ≡ None
none_fails test [] all = refl
none_fails test (x ∷ xs) all = by (test x) (none_fails test xs) all
  where
    by : (b : Bool) → (list_all test xs ≡ true → find (λ y. not (test y)) xs ≡ None) → b && list_all test xs ≡ true → cond (not b) (Some x) (find (λ y. not (test y)) xs) ≡ None
    by true rest passed = rest passed
    by false rest passed = absurd cc

-- lines that keep every rule break none
no_line_breaks : (i : images.Program) (n : ℕ) (rs : List Row) → list_all (keeps_all i) rs ≡ true → broken_from i n rs ≡ None
no_line_breaks i n [] all = refl
no_line_breaks i n (row ∷ more) all = by (keeps_all i row) refl (no_line_breaks i (suc n) more) all
  where
    by : (b : Bool) → keeps_all i row ≡ b → (list_all (keeps_all i) more ≡ true → broken_from i (suc n) more ≡ None) → b && list_all (keeps_all i) more ≡ true → broken_from i n (row ∷ more) ≡ None
    by true is rest passed = ap (λ r. broken_or r n (broken_from i (suc n) more)) (none_fails (keeps i row) image_rules is) ∙ rest passed
    by false is rest passed = absurd cc

first_holds : (a b : Bool) → a && b ≡ true → a ≡ true
first_holds true b both = refl
first_holds false b both = both

-- no line of a sound image breaks a rule
pub none_broken : (i : images.Program) → IsTrue (is_sound i) → first_broken i ≡ None
none_broken i sound = no_line_breaks i 1 (rows i) (first_holds (list_all (keeps_all i) (rows i)) (nat_lt (line_count i) line_limit) sound)
