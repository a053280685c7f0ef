-- Booleans.
use Rattle.std.proofs.Common.{◌≡◌, true, false, refl}
use Rattle.std.proofs.lemmas.Bool.{both_ways}

pub none : {A : Type 0} → false ≡ true → A
none e = absurd (both_ways false refl e)
