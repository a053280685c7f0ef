-- How clauses see a worker's passes, and what is true of them.
use Rattle.gm_posting.specs.Traffic.{Traffic, traffic_by, AreInPlace}
use Rattle.gm_posting.specs.declared.posts.Posts.TheInside.{Inside}

module _ {T : Type 0} where
  abbrev pub traffic_of : Inside T → Traffic T
  traffic_of p = traffic_by p.worker p.posts.items

  abbrev pub IsInPlace : Inside T → Type 0
  IsInPlace p = AreInPlace p.worker p.posts.items
