-- Blocks of a sequential phase whose loops keep in properties all locals that they can.
use Rattle.std.proofs.Common.{◌≡◌, ◌+◌, ℕ, List, [], ◌∷◌, ◌++◌, length, refl, ap}
use Rattle.gm_ast.specs.declared.tree.Declaration.{Declaration}
use Rattle.gm_ast.specs.Program.{Stmt, Then, sequence}
use Rattle.gm_locals.specs.AllGroups.{groups_in, with_groups}
use Rattle.gm_locals.proofs.Partly.{changed, gathered}

pub groups-sequence : (ds : List Declaration) (q : ℕ) (xs : List Stmt) → sequence (changed (with_groups ds) (groups_in ds) q xs) ≡ with_groups ds q (sequence xs)
groups-sequence ds q [] = refl
groups-sequence ds q (x ∷ xs) = ap (Then (with_groups ds q x)) (groups-sequence ds (q + length (groups_in ds x)) xs)

pub gathered-sequence : (ds : List Declaration) (q : ℕ) (xs : List Stmt) → gathered (with_groups ds) (groups_in ds) xs ≡ groups_in ds (sequence xs)
gathered-sequence ds q [] = refl
gathered-sequence ds q (x ∷ xs) = ap (λ l. groups_in ds x ++ l) (gathered-sequence ds q xs)
