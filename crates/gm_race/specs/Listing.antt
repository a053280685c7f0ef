-- Accesses in the order in which they are listed.
use Rattle.std.specs.Prelude.{◌≡◌, ℕ, nat_lt, Bool, ◌&&◌, ◌||◌, List, filter, All}
use Rattle.std.specs.List.Sorted.{IsPermutation, IsSortedBy, ties}
use Rattle.gm_base.specs.Places.{place_lt, place_eq}
use Rattle.gm_ast.specs.declared.accesses.AccessKind.{AccessKind}
use Rattle.gm_ast.specs.declared.accesses.AccessKind.TheVariants.{OwnRead, OtherRead, LevelRead, OwnWrite, StrayWrite, OwnReduce, PushReduce, Deferred}
use Rattle.gm_ast.specs.declared.accesses.Access.{Access}
use Rattle.gm_race.specs.declared.found.Found.{Found}
use Rattle.gm_race.specs.declared.listing.ListingKey.{ListingKey}
use Rattle.gm_race.specs.Views.{kind_of}

-- a kind's number in the order of kinds
abbrev pub rank_of : AccessKind → ℕ
rank_of OwnRead = 0
rank_of OtherRead = 1
rank_of LevelRead = 2
rank_of OwnWrite = 3
rank_of StrayWrite = 4
rank_of (OwnReduce op) = 5
rank_of (PushReduce op) = 6
rank_of Deferred = 7

-- whether an access is listed before another: by place, and at one place by kind
abbrev pub listed_before : Access → Access → Bool
listed_before a b = place_lt a.place b.place || (place_eq a.place b.place && nat_lt (rank_of a.kind) (rank_of b.kind))

-- a listing of all accesses: it has each as often, in order, and those of one place and one kind in their own order
pub record IsListingOf (all listed : List Access) : Type 0 where
  pub same : IsPermutation all listed
  pub ordered : IsSortedBy listed_before listed
  pub stable : All (λ a. filter (ties listed_before a) listed ≡ filter (ties listed_before a) all) all

-- what the order of accesses goes by
abbrev pub key_of : Found → ListingKey
key_of f = record { place = f.place; rank = rank_of (kind_of f.kind) }
