-- Steps of a text that may fail, taken apart.
use Rattle.std.proofs.Common.{◌≡◌, refl, ap, List}
use Rattle.std.specs.Prelude.{Result, Ok, Err}
use Rattle.gm_image_text.specs.Lines.{Line}
use Rattle.gm_image_text.specs.Sections.{◌>>=◌}

pub ok_is : {A E : Type 0} (x y : A) → ◌≡◌ {A = Result A E} (Ok x) (Ok y) → x ≡ y
ok_is x y e = cc

pub err_is : {A E : Type 0} (x y : E) → ◌≡◌ {A = Result A E} (Err x) (Err y) → x ≡ y
err_is x y e = cc

-- a step that gives something
pub bind_ok : {A B : Type 0} (r : Result A (List Line)) (f : A → Result B (List Line)) (y : B) → r >>= f ≡ Ok y → (x : A) × (r ≡ Ok x) × (f x ≡ Ok y)
bind_ok (Err e) f y h = cc
bind_ok (Ok x) f y h = (x, refl, h)

-- a step that fails, or a later one
pub data Fails {A B : Type 0} (r : Result A (List Line)) (f : A → Result B (List Line)) (e : List Line) : Type 0 where
  here : (is : r ≡ Err e) → Fails r f e
  later : (x : A) (was : r ≡ Ok x) (is : f x ≡ Err e) → Fails r f e

pub bind_err : {A B : Type 0} (r : Result A (List Line)) (f : A → Result B (List Line)) (e : List Line) → r >>= f ≡ Err e → Fails r f e
bind_err (Err d) f e h = Fails.here (ap (λ v. Err v) (err_is d e h))
bind_err (Ok x) f e h = Fails.later x refl h

pub never : {A E : Type 0} (e : E) (x : A) → ◌≡◌ {A = Result A E} (Err e) (Ok x) → ⊥
never e x f = cc
