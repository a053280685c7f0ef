-- What is said of an operation, by its operands: its type, and that it is no value of a message.
use Rattle.std.proofs.Common.{◌≡◌, ℕ, Option, false, refl}
use Rattle.gm_image.specs.declared.shapes.One.{One}
use Rattle.gm_image.specs.declared.shapes.One.TheVariants as one
use Rattle.gm_image.specs.declared.shapes.Two.{Two}
use Rattle.gm_image.specs.declared.shapes.Two.TheVariants as two
use Rattle.gm_image.specs.Term.{Term}
use Rattle.gm_image.specs.Program.{Program}
use Rattle.gm_image.specs.Sorts.{sort_of}
use Rattle.gm_image.specs.Folds.{is_its_value}
use Rattle.gm_image.specs.Shapes.{one_term, two_term}
use Rattle.gm_verify.specs.ShapeSorts.{sort_by_one, sort_by_two}

pub sort_one : (p : Program) (k : Option ℕ) (op : One) (a : Term) → sort_of p k (one_term op a) ≡ sort_by_one op (sort_of p k a)
sort_one p k one.NodeAt a = refl
sort_one p k (one.Live place) a = refl
sort_one p k (one.Op op place) a = refl

pub sort_two : (p : Program) (k : Option ℕ) (op : Two) (a b : Term) → sort_of p k (two_term op a b) ≡ sort_by_two op (sort_of p k a) (sort_of p k b)
sort_two p k (two.Op op place) a b = refl
sort_two p k two.And a b = refl
sort_two p k two.Or a b = refl

pub value_one : (op : One) (a : Term) → is_its_value (one_term op a) ≡ false
value_one one.NodeAt a = refl
value_one (one.Live place) a = refl
value_one (one.Op op place) a = refl

pub value_two : (op : Two) (a b : Term) → is_its_value (two_term op a b) ≡ false
value_two (two.Op op place) a b = refl
value_two two.And a b = refl
value_two two.Or a b = refl
