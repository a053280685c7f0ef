-- Loops that pull as those of their other ends add a level: the outer filter beside the inner one.
use Rattle.std.proofs.Common.{◌≡◌, ◌≤◌, ℕ, suc, Bool, true, false, cond, arith}
use Rattle.gm_base.specs.declared.places.Place.{Place}
use Rattle.gm_ast.specs.declared.tree.Head.{Head}
use Rattle.gm_ast.specs.declared.tree.Key.{Key}
use Rattle.gm_ast.specs.Program.{Expr, Both, Stmt, Then, Foreach, For, If, While, Do, Program}
use Rattle.gm_flip.specs.Pulling.{pulls}
use Rattle.gm_flip.specs.Flipped.{is_always, joined, turned, flipped_loop, flipped, without_pulls}
use Rattle.gm_depth.specs.Depths.{all_within}
use Rattle.gm_depth.proofs.Limits.{Within, AllWithin, parts, whole, longer-one, longer}

module _ (n : ℕ) where
  more : n ≤ suc n
  more = omega arith

  joined-within : (mask test : Expr) → Within n mask → Within n test → Within (suc n) (joined mask test)
  joined-within mask test h k = by (is_always mask)
    where
      by : (nothing : Bool) → Within (suc n) (cond nothing test (Both mask test))
      by true = omega arith
      by false = omega arith

  same : (k : Key) (at : Place) (hd : Head) (mask : Expr) (s : Stmt) → Within n mask → AllWithin n s → AllWithin (suc n) (Foreach k at hd mask s)
  same k at hd mask s h x = (longer-one n (suc n) more mask h, longer n (suc n) more s x)

  turned-within : (k : Key) (at : Place) (hd : Head) (mask : Expr) (s : Stmt) → Within n mask → AllWithin n s → AllWithin (suc n) (turned k at hd mask s)
  turned-within k at hd mask (Foreach j here i test body) h x = (omega arith, (joined-within mask test h x.0, longer n (suc n) more body x.1))
  turned-within k at hd mask s h x = same k at hd mask s h x

  loop-within : (k : Key) (at : Place) (hd : Head) (mask : Expr) (body : Stmt) → Within n mask → AllWithin n body → AllWithin (suc n) (flipped_loop k at hd mask body)
  loop-within k at hd mask body h x = by (pulls hd.iterator body)
    where
      by : (turns : Bool) → AllWithin (suc n) (cond turns (turned k at hd mask body) (Foreach k at hd mask body))
      by true = turned-within k at hd mask body h x
      by false = same k at hd mask body h x

  phase-within : (s : Stmt) → AllWithin n s → AllWithin (suc n) (flipped s)
  phase-within (Then a b) h = (phase-within a h.0, phase-within b h.1)
  phase-within (Foreach k at hd mask body) h = loop-within k at hd mask body h.0 h.1
  phase-within (For k at hd test body) h = (longer-one n (suc n) more test h.0, phase-within body h.1)
  phase-within (If k c a b) h = (longer-one n (suc n) more c h.0, (phase-within a h.1.0, phase-within b h.1.1))
  phase-within (While k at c body) h = (longer-one n (suc n) more c h.0, phase-within body h.1)
  phase-within (Do k at body c) h = (phase-within body h.0, longer-one n (suc n) more c h.1)
  phase-within s h = longer n (suc n) more s h

pub pulls-add : (n : ℕ) (p : Program) → 0 ≤ n → all_within n p.body ≡ true → all_within (suc n) (without_pulls p).body ≡ true
pulls-add n p least h = whole (suc n) (without_pulls p).body (phase-within n p.body (parts n p.body h))
