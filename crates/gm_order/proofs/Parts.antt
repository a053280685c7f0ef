-- Small steps that several proofs share.
use Rattle.std.proofs.Common.{Bool, true, false, Option, Some, None}
use Rattle.std.specs.Prelude.{if◌then◌else◌, Ok, Err}
use Rattle.gm_ast.specs.Judged.{Judged, Answer, ok_of}
use Rattle.gm_ast.specs.Statements.{answers_with}
use Rattle.gm_ready.proofs.Judging.{IfPart}

pub anything : {A : Type 0} (o : Option A) → IfPart (λ a. Unit {0}) o
anything None = tt
anything (Some a) = tt

pub if-with : {A B C : Type 0} (P : A → Type 0) (Q : B → Type 0) (R : C → Type 0) (f : A → B → C) (x : Answer A) (y : Answer B)
    → IfPart P (ok_of x) → IfPart Q (ok_of y) → ((a : A) (b : B) → P a → Q b → R (f a b)) → IfPart R (ok_of (answers_with f x y))
if-with P Q R f (Ok a) (Ok b) h k both = both a b h k
if-with P Q R f (Ok a) (Err rs) h k both = tt
if-with P Q R f (Err es) (Ok b) h k both = tt
if-with P Q R f (Err es) (Err rs) h k both = tt

pub if-judged : {A : Type 0} (P : A → Type 0) (c : Bool) (x y : Judged A) → IfPart P x.part → IfPart P y.part → IfPart P (if c then x else y).part
if-judged P true x y h k = h
if-judged P false x y h k = k
