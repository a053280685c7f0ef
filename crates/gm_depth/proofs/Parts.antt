-- What holds of a part, if there is one, goes from parts to what is made of them.
use Rattle.std.proofs.Common.{Bool, true, false, Option, Some, None}
use Rattle.std.specs.Prelude.{if◌then◌else◌, Ok, Err}
use Rattle.gm_base.specs.declared.places.Place.{Place}
use Rattle.gm_base.specs.declared.rules.Rule.{Rule}
use Rattle.gm_ast.specs.Judged.{Judged, Answer, both_of, part_by, ok_of, refused_unless, then_answer}
use Rattle.gm_ast.specs.Statements.{answers_with}

-- what holds of a part, if there is one
abbrev pub IfPart : {A : Type 0} → (A → Type 0) → Option A → Type 0
IfPart P None = Unit {0}
IfPart P (Some a) = P a

pub anything : {A : Type 0} (o : Option A) → IfPart (λ a. Unit {0}) o
anything None = tt
anything (Some a) = tt

pub if-weaker : {A : Type 0} (P Q : A → Type 0) (o : Option A) → ((a : A) → P a → Q a) → IfPart P o → IfPart Q o
if-weaker P Q None f h = tt
if-weaker P Q (Some a) f h = f a h

pub if-by : {A B : Type 0} (P : A → Type 0) (Q : B → Type 0) (o : Option A) (rule : A → Answer B)
    → IfPart P o → ((a : A) → P a → IfPart Q (ok_of (rule a))) → IfPart Q (part_by o rule)
if-by P Q None rule h f = tt
if-by P Q (Some a) rule h f = f a h

pub if-both : {A B : Type 0} (P : A → Type 0) (Q : B → Type 0) (a : Option A) (b : Option B)
    → IfPart P a → IfPart Q b → IfPart (λ p. P p.0 × Q p.1) (both_of a b)
if-both P Q None b h k = tt
if-both P Q (Some a) None h k = tt
if-both P Q (Some a) (Some b) h k = (h, k)

pub if-good : {A : Type 0} (Q : A → Type 0) (good : Bool) (r : Rule) (at : Place) (a : A) → Q a → IfPart Q (ok_of (refused_unless good r at a))
if-good Q true r at a h = h
if-good Q false r at a h = tt

pub if-then : {A B : Type 0} (P : A → Type 0) (Q : B → Type 0) (x : Answer A) (f : A → B) → IfPart P (ok_of x) → ((a : A) → P a → Q (f a)) → IfPart Q (ok_of (then_answer x f))
if-then P Q (Ok a) f h k = k a h
if-then P Q (Err rs) f h k = tt

pub if-else : {A : Type 0} (Q : A → Type 0) (c : Bool) (x y : Answer A) → IfPart Q (ok_of x) → IfPart Q (ok_of y) → IfPart Q (ok_of (if c then x else y))
if-else Q true x y h k = h
if-else Q false x y h k = k

pub if-with : {A B C : Type 0} (P : A → Type 0) (Q : B → Type 0) (R : C → Type 0) (f : A → B → C) (x : Answer A) (y : Answer B)
    → IfPart P (ok_of x) → IfPart Q (ok_of y) → ((a : A) (b : B) → P a → Q b → R (f a b)) → IfPart R (ok_of (answers_with f x y))
if-with P Q R f (Ok a) (Ok b) h k both = both a b h k
if-with P Q R f (Ok a) (Err rs) h k both = tt
if-with P Q R f (Err es) (Ok b) h k both = tt
if-with P Q R f (Err es) (Err rs) h k both = tt

pub if-judged : {A : Type 0} (P : A → Type 0) (c : Bool) (x y : Judged A) → IfPart P x.part → IfPart P y.part → IfPart P (if c then x else y).part
if-judged P true x y h k = h
if-judged P false x y h k = k
