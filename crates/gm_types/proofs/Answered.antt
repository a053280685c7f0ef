-- What is made of an answer.
use Rattle.std.proofs.Common.{◌≡◌, ℕ, refl, ap, Option}
use Rattle.std.specs.Prelude.{Ok, Err, Some, None, option_map}
use Rattle.gm_ast.specs.Judged.{Answer, ok_of, errs_of, then_answer, part_by, both_of}

-- it breaks what the answer breaks
pub errs_then : {A B : Type 0} (a : Answer A) (f : A → B) → errs_of (then_answer a f) ≡ errs_of a
errs_then (Ok a) f = refl
errs_then (Err rs) f = refl

-- it is made of what the answer stands for
pub ok_then : {A B : Type 0} (a : Answer A) (f : A → B) (x : A) → Some x ≡ ok_of a → Some (f x) ≡ ok_of (then_answer a f)
ok_then (Ok a) f x h = ap (option_map f) h
ok_then (Err rs) f x h = cc

-- something made of a number and of a part
pub made-beside : {A B : Type 0} (n : ℕ) (f : ℕ → A → B) (o : Option A) → option_map (f n) o ≡ part_by (both_of (Some n) o) (λ q. Ok (f q.0 q.1))
made-beside n f None = refl
made-beside n f (Some a) = refl
