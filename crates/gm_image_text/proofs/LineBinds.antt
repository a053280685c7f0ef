-- Steps of a line that may fail, taken apart.
use Rattle.std.proofs.Common.{◌≡◌, refl}
use Rattle.std.specs.Prelude.{Option, Some, None, option_map}
use Rattle.gm_image_text.specs.Reading.{◌>>=◌}

pub some_is : {A : Type 0} (x y : A) → Some x ≡ Some y → x ≡ y
some_is x y e = cc

pub bind_some : {A B : Type 0} (o : Option A) (f : A → Option B) (y : B) → o >>= f ≡ Some y → (x : A) × (o ≡ Some x) × (f x ≡ Some y)
bind_some None f y e = cc
bind_some (Some x) f y e = (x, refl, e)

pub map_some : {A B : Type 0} (o : Option A) (f : A → B) (y : B) → option_map f o ≡ Some y → (x : A) × (o ≡ Some x) × (f x ≡ y)
map_some None f y e = cc
map_some (Some x) f y e = (x, refl, some_is (f x) y e)
