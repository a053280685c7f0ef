-- What is made of two answers, and of several parts that are all there.
use Rattle.std.proofs.Common.{◌≡◌, true, false, List, [], ◌∷◌, length, ◌<◌, refl, ap, arith, Option}
use Rattle.std.specs.Prelude.{Ok, Err, Some, None, option_map}
use Rattle.std.specs.Option.{option_zip}
use Rattle.gm_base.specs.declared.rules.Refusal.{Refusal}
use Rattle.gm_base.specs.Rules.{least_from}
use Rattle.gm_value.specs.declared.values.VType.TheVariants.{I32, I64}
use Rattle.gm_ast.specs.declared.kinds.Kind.{Kind}
use Rattle.gm_ast.specs.declared.kinds.Kind.TheVariants.{Flexible, Of, Edge}
use Rattle.gm_ast.specs.Judged.{Answer, ok_of, errs_of, then_answer, both_of}
use Rattle.gm_ast.specs.Kinds.{Part, part_of, narrowed, is_empty, settled, settled_as}
use Rattle.gm_ast.specs.Program.{Expr}
use Rattle.gm_ast.specs.Typing.{paired_after}

-- nothing is made of an answer that stands for nothing
pub none_then : {A B : Type 0} (a : Answer A) (f : A → B) → None ≡ ok_of a → None ≡ ok_of (then_answer a f)
none_then (Ok a) f h = cc
none_then (Err rs) f h = refl

-- nor anything else
pub none_either : {A B C : Type 0} (a : Answer A) (f : A → B) (g : A → C) → None ≡ ok_of (then_answer a f) → None ≡ ok_of (then_answer a g)
none_either (Ok a) f g h = cc
none_either (Err rs) f g h = refl

-- something made of what is made of an answer
pub then_more : {A B C : Type 0} (a : Answer A) (f : A → B) (g : B → C) (b : B) → Some b ≡ ok_of (then_answer a f) → Some (g b) ≡ ok_of (then_answer a (λ x. g (f x)))
then_more (Ok a) f g b h = ap (option_map g) h
then_more (Err rs) f g b h = cc

-- the first of two has no answer
pub none_first : (x y : Answer Expr) → None ≡ ok_of x → None ≡ ok_of (paired_after x y)
none_first (Ok a) y h = cc
none_first (Err rs) y h = refl

pub least_first : (least : Option Refusal) (x y : Answer Expr) → None ≡ ok_of x → least_from least (errs_of x) ≡ least_from least (errs_of (paired_after x y))
least_first least (Ok a) y h = cc
least_first least (Err rs) y h = refl

-- the second of two has no answer
pub none_second : (x y : Answer Expr) → None ≡ ok_of y → None ≡ ok_of (paired_after x y)
none_second (Ok a) (Ok b) h = cc
none_second (Ok a) (Err rs) h = refl
none_second (Err rs) y h = refl

-- both have one
pub both_answers : (x y : Answer Expr) (a b : Expr) → Some a ≡ ok_of x → Some b ≡ ok_of y → Some (a, b) ≡ ok_of (paired_after x y)
both_answers (Ok c) (Ok d) a b h k = cc
both_answers (Ok c) (Err rs) a b h k = cc
both_answers (Err rs) y a b h k = cc

-- what is broken by the second, where the first has an answer
pub least_second : (least : Option Refusal) (x y : Answer Expr) (a : Expr) → Some a ≡ ok_of x
    → least_from (least_from least (errs_of x)) (errs_of y) ≡ least_from least (errs_of (paired_after x y))
least_second least (Ok c) (Ok d) a h = refl
least_second least (Ok c) (Err rs) a h = refl
least_second least (Err rs) y a h = cc

-- one of three parts is not there
pub zip_none : {A B C D E F : Type 0} (f : A → D) (g : B → E) (k : C → F) (a : Option A) (b : Option B) (c : Option C)
    → option_zip a (option_zip b c) ≡ None → both_of (option_map f a) (both_of (option_map g b) (option_map k c)) ≡ None
zip_none f g k None b c h = refl
zip_none f g k (Some a) None c h = refl
zip_none f g k (Some a) (Some b) None h = refl
zip_none f g k (Some a) (Some b) (Some c) h = cc

-- a list without members, and one with some
pub no_member : {A : Type 0} (xs : List A) → length xs ≡ 0 → is_empty xs ≡ true
no_member [] h = refl
no_member (x ∷ xs) h = absurd (omega arith)

pub some_member : {A : Type 0} (xs : List A) → 0 < length xs → is_empty xs ≡ false
some_member [] h = absurd (omega arith)
some_member (x ∷ xs) h = refl

-- a flexible part beside which nothing gives a type
pub settled-int : (p : Part) → p.kind ≡ Flexible → is_empty p.large ≡ true → part_of (Of I32) (narrowed p.core) ≡ settled p
settled-int p h e = rw (h, e)

pub settled-long : (p : Part) → p.kind ≡ Flexible → is_empty p.large ≡ false → part_of (Of I64) p.core ≡ settled p
settled-long p h e = rw (h, e)

-- a part that is not flexible
pub settled-same : (p : Part) → (p.kind ≡ Flexible → ⊥) → p ≡ settled p
settled-same p h = go p.kind h
  where
    go : (k : Kind) → (k ≡ Flexible → ⊥) → p ≡ settled_as k p
    go Flexible n = absurd (n refl)
    go (Of t) n = refl
    go Edge n = refl
