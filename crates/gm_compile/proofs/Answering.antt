-- What holds of an answer that is there where a test holds.
use Rattle.std.proofs.Common.{◌≡◌, sym, ap, subst, ◌∙◌, true, false}
use Rattle.std.specs.Prelude.{Bool, ◌&&◌, Option, Some, None, Result, Ok, Err, IfOk, IfSome, is_some}

pub some-if : {A : Type 0} (r : Option A) (b : Bool) (x : A) (P : A → Type 0) → IfSome r (λ y. y ≡ x) → is_some r ≡ b → (b ≡ true → P x) → IfSome r P
some-if None b x P same which f = record {}
some-if (Some y) b x P same which f = subst P (sym same) (f (sym which))

pub some-of : {A : Type 0} (r : Option A) (x : A) (P : A → Type 0) → IfSome r (λ y. y ≡ x) → P x → IfSome r P
some-of None x P same px = record {}
some-of (Some y) x P same px = subst P (sym same) px

-- a test that fails leaves no answer, whatever is asked besides
pub none-of : (a b : Bool) → false ≡ a → false ≡ a && b
none-of a b h = ap (λ x. x && b) h

-- one that holds leaves the other to decide
pub rest-of : (a b c : Bool) → true ≡ a → c ≡ b → c ≡ a && b
rest-of a b c h same = same ∙ ap (λ x. x && b) h

pub ok-some-of : {A E : Type 0} (r : Result (Option A) E) (x : A) (P : A → Type 0) → IfOk r (λ o. IfSome o (λ y. y ≡ x)) → P x → IfOk r (λ o. IfSome o P)
ok-some-of (Ok o) x P same px = some-of o x P same px
ok-some-of (Err e) x P same px = record {}

-- what holds of an answer holds of one that it gives
pub ok-map : {A E : Type 0} (r : Result A E) (P Q : A → Type 0) → IfOk r P → ((x : A) → P x → Q x) → IfOk r Q
ok-map (Ok x) P Q h f = f x h
ok-map (Err e) P Q h f = record {}

-- what is there passes the test
pub ok-some-if : {A E : Type 0} (r : Result (Option A) E) (b : Bool) (P Q : A → Type 0) → IfOk r (λ o. is_some o ≡ b) → IfOk r (λ o. IfSome o P) → ((x : A) → b ≡ true → P x → Q x) → IfOk r (λ o. IfSome o Q)
ok-some-if (Ok (Some x)) b P Q which h f = f x (sym which) h
ok-some-if (Ok None) b P Q which h f = record {}
ok-some-if (Err e) b P Q which h f = record {}
