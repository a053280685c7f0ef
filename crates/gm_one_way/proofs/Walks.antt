-- What is known of the inner loops of each loop of a phase is known of those of each loop that comes of it.
use Rattle.std.proofs.Common.{refl, false, List, Option}
use Rattle.std.proofs.lemmas.Bool.{both_ways}
use Rattle.gm_base.specs.declared.places.Place.{Place}
use Rattle.gm_value.specs.declared.values.VType.{VType}
use Rattle.gm_ast.specs.declared.tree.Declaration.{Declaration}
use Rattle.gm_ast.specs.declared.tree.Head.{Head}
use Rattle.gm_ast.specs.declared.tree.Key.{Key}
use Rattle.gm_ast.specs.Program.{Expr, Stmt, Skip, Then, Declare, DeclareEdge, Assign, Defer, Combine, Group, Foreach, For, If, While, Do, InBfs, InBfsBoth, Return}
use Rattle.gm_dissect.specs.Loops.{each_loop}
use Rattle.gm_dissect.proofs.Kept.{Sound}
use Rattle.gm_parting.proofs.Loops.{sound-both, sound-branches, sound-for, sound-while, sound-do}
use Rattle.gm_one_way.specs.Along.{AllAlong, EachAlong}

-- ds: the table; dt: that of the loops that come of it
module _ (ds dt : List Declaration) (res : Option VType) (f : Key → Place → Head → Expr → Stmt → Stmt)
    (loops : (k : Key) (at : Place) (h : Head) (mask : Expr) (body : Stmt) → Sound ds res (Foreach k at h mask body) → AllAlong ds h.iterator body → EachAlong dt (f k at h mask body)) where
  pub each-along : (s : Stmt) → Sound ds res s → EachAlong ds s → EachAlong dt (each_loop f s)
  each-along (Then a b) s e = let r = sound-both ds res a b s in (each-along a r.0 e.0, each-along b r.1 e.1)
  each-along (Foreach k at h mask body) s e = loops k at h mask body s e
  each-along (For k at h test body) s e = each-along body (sound-for ds res k at h test body s) e
  each-along (If k c a b) s e = let r = sound-branches ds res k c a b s in (each-along a r.0 e.0, each-along b r.1 e.1)
  each-along (While k at c body) s e = each-along body (sound-while ds res k at c body s) e
  each-along (Do k at body c) s e = each-along body (sound-do ds res k at body c s) e
  each-along Skip s e = tt
  each-along (Declare k x v) s e = tt
  each-along (DeclareEdge x y at) s e = tt
  each-along (Assign k u v) s e = tt
  each-along (Defer k u v) s e = tt
  each-along (Combine k total r ts es) s e = tt
  each-along (Group k at g p v) s e = tt
  each-along (InBfs k at hd c body) s e = absurd (both_ways false refl s.form)
  each-along (InBfsBoth k at hd c body bk d back) s e = absurd (both_ways false refl s.form)
  each-along (Return k at v) s e = tt
