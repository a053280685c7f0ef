-- Single words, and choices of them, derive what is read as them.
use Rattle.std.proofs.Common.{◌≡◌, ℤ, Bool, true, false, List, ◌∷◌, refl, Option, Some}
use Rattle.std.specs.Prelude.{◌||◌}
use Rattle.std.proofs.lemmas.Bool.{both_ways}
use Rattle.std.proofs.lemmas.Option.{none-some}
use Rattle.gm_base.specs.declared.places.Place.{Place}
use Rattle.gm_value.specs.declared.values.VType.{VType}
use Rattle.gm_value.specs.declared.reductions.Reduce.{Reduce}
use Rattle.gm_token.specs.declared.words.Word.{Word}
use Rattle.gm_token.specs.declared.words.Word.TheVariants as words
use Rattle.gm_token.specs.Tokens.{Token}
use Rattle.gm_ast.specs.declared.surface.Bearer.{Bearer}
use Rattle.gm_ast.specs.declared.surface.Infix.{Infix}
use Rattle.gm_ast.specs.declared.surface.LoopWord.{LoopWord}
use Rattle.gm_ast.specs.declared.surface.Range.{Range}
use Rattle.gm_ast.specs.declared.surface.ReductionWord.{ReductionWord}
use Rattle.gm_ast.specs.declared.surface.TypeWord.{TypeWord}
use Rattle.gm_ast.specs.Surface.{SurfaceName}
use Rattle.gm_parse.specs.declared.around.Around.{Around}
use Rattle.gm_parse.specs.declared.levels.Level.{Level}
use Rattle.gm_parse.specs.declared.levels.Level.TheVariants as levels
use Rattle.gm_parse.specs.Terminals.{Terminal, fits}
use Rattle.gm_parse.specs.Grammar.{Rule, ◌▸◌, ◌∣◌, the, a_name, procedure_sign, bare_sign, element_sign, bearer_sign, loop_word_sign, range_sign, value_sign, test_sign, cast_sign, argument_sign, rule, ReduceSign}
use Rattle.gm_parse.specs.Grammar as G
use Rattle.gm_parse.specs.Levels.{signs_of}
use Rattle.gm_parse.specs.Choices.{procedure_word, bare_type, element_type, bearer_word, cast_type, range_word, loop_word, value_reduction, test_reduction, reduce_sign, argument_operation, infix_of}
use Rattle.gm_parse.specs.Trees.{ReadsWord, ReadsAs, ReadsName, ReadsNumber}
use Rattle.gm_depth.proofs.Derivations.{Derived, Last, token, left, right}

pub word : {k : Terminal} {a : Around} {us vs : List Token} {p : Place} → ReadsWord k us p vs → Derived (G.Token k) a us vs (Last a)
word (ReadsWord.word f) = token f

pub name : {a : Around} {us vs : List Token} {x : SurfaceName} → ReadsName us x vs → Derived a_name a us vs (Last a)
name (ReadsName.name f) = token f

pub number : {a : Around} {us vs : List Token} {p : Place} {n : ℤ} → ReadsNumber us p n vs → Derived (the words.Number) a us vs (Last a)
number (ReadsNumber.number f) = token f

-- whether a choice of words has a word
abbrev pub has_word : Rule → Word → Bool
has_word (G.Token k) w = fits k w
has_word (x ∣ y) w = has_word x w || has_word y w
has_word _ w = false

pub choice : (x : Rule) {a : Around} {t : Token} {us : List Token} → has_word x t.word ≡ true → Derived x a (t ∷ us) us (Last a)
choice (G.Token k) h = token h
choice (G.Of q) h = absurd (both_ways false refl h)
choice (x ▸ y) h = absurd (both_ways false refl h)
choice (x ∣ y) {a} {t} {us} h = by (has_word x t.word) refl (λ e. choice x e) (λ e. choice y e) h
  where
    by : (b : Bool) → has_word x t.word ≡ b → (has_word x t.word ≡ true → Derived x a (t ∷ us) us (Last a)) → (has_word y t.word ≡ true → Derived y a (t ∷ us) us (Last a)) → b || has_word y t.word ≡ true → Derived (x ∣ y) a (t ∷ us) us (Last a)
    by true e f g h = left (f e)
    by false e f g h = right (g h)
choice (G.Maybe x) h = absurd (both_ways false refl h)
choice (G.Many x) h = absurd (both_ways false refl h)
choice (G.Attached k x) h = absurd (both_ways false refl h)
choice (G.Within n x) h = absurd (both_ways false refl h)

pub meant : {A : Type 0} {meaning : Word → Option A} (x : Rule) → ((w : Word) (y : A) → meaning w ≡ Some y → has_word x w ≡ true) → {a : Around} {us vs : List Token} {y : A} {p : Place} → ReadsAs meaning us y p vs → Derived x a us vs (Last a)
meant x has {y} (ReadsAs.word {t} e) = choice x (has t.word y e)

-- ---- what stands for something is among the words of its choice

pub procedure-has : (w : Word) (y : Word) → procedure_word w ≡ Some y → has_word procedure_sign w ≡ true
procedure-has words.Procedure y h = refl
procedure-has words.Proc y h = refl
procedure-has _ y h = absurd (none-some y h)

pub bare-has : (w : Word) (y : TypeWord) → bare_type w ≡ Some y → has_word bare_sign w ≡ true
bare-has words.IntType y h = refl
bare-has words.LongType y h = refl
bare-has words.BoolType y h = refl
bare-has words.Graph y h = refl
bare-has words.DGraph y h = refl
bare-has _ y h = absurd (none-some y h)

pub element-has : (w : Word) (y : TypeWord) → element_type w ≡ Some y → has_word element_sign w ≡ true
element-has words.Node y h = refl
element-has words.Edge y h = refl
element-has _ y h = absurd (none-some y h)

pub bearer-has : (w : Word) (y : Bearer) → bearer_word w ≡ Some y → has_word bearer_sign w ≡ true
bearer-has words.NP y h = refl
bearer-has words.NodeProp y h = refl
bearer-has words.NodeProperty y h = refl
bearer-has words.EP y h = refl
bearer-has words.EdgeProp y h = refl
bearer-has words.EdgeProperty y h = refl
bearer-has _ y h = absurd (none-some y h)

pub cast-has : (w : Word) (y : VType) → cast_type w ≡ Some y → has_word cast_sign w ≡ true
cast-has words.IntType y h = refl
cast-has words.LongType y h = refl
cast-has _ y h = absurd (none-some y h)

pub range-has : (w : Word) (y : Range) → range_word w ≡ Some y → has_word range_sign w ≡ true
range-has words.Nodes y h = refl
range-has words.Nbrs y h = refl
range-has words.OutNbrs y h = refl
range-has words.InNbrs y h = refl
range-has words.UpNbrs y h = refl
range-has words.DownNbrs y h = refl
range-has _ y h = absurd (none-some y h)

pub loop-has : (w : Word) (y : LoopWord) → loop_word w ≡ Some y → has_word loop_word_sign w ≡ true
loop-has words.Foreach y h = refl
loop-has words.For y h = refl
loop-has _ y h = absurd (none-some y h)

pub value-has : (w : Word) (y : ReductionWord) → value_reduction w ≡ Some y → has_word value_sign w ≡ true
value-has words.Sum y h = refl
value-has words.Product y h = refl
value-has words.Min y h = refl
value-has words.Max y h = refl
value-has words.All y h = refl
value-has _ y h = absurd (none-some y h)

pub test-has : (w : Word) (y : ReductionWord) → test_reduction w ≡ Some y → has_word test_sign w ≡ true
test-has words.Exist y h = refl
test-has words.Count y h = refl
test-has _ y h = absurd (none-some y h)

pub reduce-has : (w : Word) (y : Reduce) → reduce_sign w ≡ Some y → has_word (rule ReduceSign) w ≡ true
unfolding rule
reduce-has words.PlusAssign y h = refl
reduce-has words.StarAssign y h = refl
reduce-has words.MinAssign y h = refl
reduce-has words.MaxAssign y h = refl
reduce-has words.AndAndAssign y h = refl
reduce-has words.AndAssign y h = refl
reduce-has words.OrOrAssign y h = refl
reduce-has words.OrAssign y h = refl
reduce-has _ y h = absurd (none-some y h)

pub argument-has : (w : Word) (y : Reduce) → argument_operation w ≡ Some y → has_word argument_sign w ≡ true
argument-has words.MinAssign y h = refl
argument-has words.MaxAssign y h = refl
argument-has _ y h = absurd (none-some y h)

or-has : (w : Word) (y : Infix) → infix_of levels.Or w ≡ Some y → has_word (signs_of levels.Or) w ≡ true
or-has words.OrOr y h = refl
or-has _ y h = absurd (none-some y h)

and-has : (w : Word) (y : Infix) → infix_of levels.And w ≡ Some y → has_word (signs_of levels.And) w ≡ true
and-has words.AndAnd y h = refl
and-has _ y h = absurd (none-some y h)

equality-has : (w : Word) (y : Infix) → infix_of levels.Equality w ≡ Some y → has_word (signs_of levels.Equality) w ≡ true
equality-has words.Equal y h = refl
equality-has words.NotEqual y h = refl
equality-has _ y h = absurd (none-some y h)

relation-has : (w : Word) (y : Infix) → infix_of levels.Relation w ≡ Some y → has_word (signs_of levels.Relation) w ≡ true
relation-has words.Less y h = refl
relation-has words.Greater y h = refl
relation-has words.LessEqual y h = refl
relation-has words.GreaterEqual y h = refl
relation-has _ y h = absurd (none-some y h)

sum-has : (w : Word) (y : Infix) → infix_of levels.Sum w ≡ Some y → has_word (signs_of levels.Sum) w ≡ true
sum-has words.Plus y h = refl
sum-has words.Minus y h = refl
sum-has _ y h = absurd (none-some y h)

product-has : (w : Word) (y : Infix) → infix_of levels.Product w ≡ Some y → has_word (signs_of levels.Product) w ≡ true
product-has words.Star y h = refl
product-has words.Slash y h = refl
product-has words.Percent y h = refl
product-has _ y h = absurd (none-some y h)

pub infix-has : (l : Level) (w : Word) (y : Infix) → infix_of l w ≡ Some y → has_word (signs_of l) w ≡ true
infix-has levels.Or = or-has
infix-has levels.And = and-has
infix-has levels.Equality = equality-has
infix-has levels.Relation = relation-has
infix-has levels.Sum = sum-has
infix-has levels.Product = product-has
