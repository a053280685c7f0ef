-- What accesses that meet do, summed up.
use Rattle.std.specs.Prelude.{Bool, false, ◌||◌, not, if◌then◌else◌, List, fold, Option, Some, None}
use Rattle.gm_base.specs.declared.places.Place.{Place}
use Rattle.gm_base.specs.Places.{place_lt}
use Rattle.gm_ast.specs.declared.accesses.Operation.{Operation}
use Rattle.gm_ast.specs.Races.{is_own_change, is_push_reduce, is_deferred, is_change, is_own_reduce, operation_eq}
use Rattle.gm_race.specs.declared.found.Reduction.{Reduction}
use Rattle.gm_race.specs.declared.found.Kind.{Kind}
use Rattle.gm_race.specs.declared.found.Kind.TheVariants.{OwnReduce, PushReduce}
use Rattle.gm_race.specs.declared.found.Found.{Found}
use Rattle.gm_race.specs.declared.firsts.Firsts.{Firsts}
use Rattle.gm_race.specs.declared.uses.Uses.{Uses}
use Rattle.gm_race.specs.declared.uses.InnerUses.{InnerUses}
use Rattle.gm_race.specs.Views.{operation_of, kind_of}

-- the earlier of two places
abbrev pub earlier : Place → Place → Place
earlier a b = if place_lt b a then b else a

-- the earliest of a place, if there is one, and another
abbrev pub earliest : Option Place → Place → Option Place
earliest None b = Some b
earliest (Some a) b = Some (earlier a b)

-- whether there is a place, and it does not stand behind another
abbrev pub reaches : Option Place → Place → Bool
reaches None at = false
reaches (Some p) at = not (place_lt at p)

-- the earliest reduction, and the earliest of those that do something else, with one more reduction
abbrev pub with_reduction : Option Firsts → Reduction → Place → Option Firsts
with_reduction None r at = Some (record { reduction = r; place = at; other = None })
with_reduction (Some f) r at = Some
    (if operation_eq (operation_of f.reduction) (operation_of r) then record f { place = earlier f.place at }
    else (if place_lt at f.place then record { reduction = r; place = at; other = Some f.place } else record f { other = earliest f.other at }))

-- whether a reduction that does not do what an operation does stands at a place or before it
abbrev pub mixes_with : Option Firsts → Operation → Place → Bool
mixes_with None op at = false
mixes_with (Some f) op at = if operation_eq (operation_of f.reduction) op then reaches f.other at else not (place_lt at f.place)

-- with an access, if that reduces
abbrev pub with_reduce : Option Firsts → Kind → Place → Option Firsts
with_reduce fs (OwnReduce r) at = with_reduction fs r at
with_reduce fs (PushReduce r) at = with_reduction fs r at
with_reduce fs _ at = fs

-- with an access, if that reduces to other nodes
abbrev pub with_push : Option Firsts → Kind → Place → Option Firsts
with_push fs (PushReduce r) at = with_reduction fs r at
with_push fs _ at = fs

-- no access
abbrev pub no_uses : Uses
no_uses = record { changed = false; pushed = false; deferred = None; change = None; reductions = None; pushes = None }

-- what accesses do, with one more access
abbrev pub with_use : Uses → Found → Uses
with_use u f = record {
  changed = u.changed || is_own_change (kind_of f.kind);
  pushed = u.pushed || is_push_reduce (kind_of f.kind);
  deferred = if is_deferred (kind_of f.kind) then earliest u.deferred f.place else u.deferred;
  change = if is_change (kind_of f.kind) then earliest u.change f.place else u.change;
  reductions = with_reduce u.reductions f.kind f.place;
  pushes = with_push u.pushes f.kind f.place;
}

-- what accesses do
abbrev pub uses_of : List Found → Uses
uses_of fs = fold with_use no_uses fs

-- no access in an inner loop
abbrev pub no_inner : InnerUses
no_inner = record { reduced = false; reductions = None }

-- what accesses in an inner loop do, with one more access
abbrev pub with_inner : InnerUses → Found → InnerUses
with_inner u f = record {
  reduced = u.reduced || is_own_reduce (kind_of f.kind);
  reductions = with_reduce u.reductions f.kind f.place;
}

-- what accesses in an inner loop do
abbrev pub inner_of : List Found → InnerUses
inner_of fs = fold with_inner no_inner fs
