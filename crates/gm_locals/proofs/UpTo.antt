-- What is below a number is below any greater one.
use Rattle.std.proofs.Common.{◌≡◌, ◌≤◌, ◌+◌, ◌-◌, arith, ℕ, zero, suc, subst}
use Rattle.gm_ast.specs.Program.{Expr, Stmt}
use Rattle.gm_semantics.specs.Frames.{ReadsBelow, NamesBelow}
use Rattle.gm_locals.proofs.Staying.{read-up, names-up}

reads-further : (d k : ℕ) (e : Expr) → ReadsBelow k e → ReadsBelow (d + k) e
reads-further zero k e h =
    let same : k ≡ 0 + k = omega arith in
    subst (λ j. ReadsBelow j e) same h
reads-further (suc d) k e h =
    let same : suc (d + k) ≡ suc d + k = omega arith in
    subst (λ j. ReadsBelow j e) same (read-up (d + k) e (reads-further d k e h))

names-further : (d k : ℕ) (s : Stmt) → NamesBelow k s → NamesBelow (d + k) s
names-further zero k s h =
    let same : k ≡ 0 + k = omega arith in
    subst (λ j. NamesBelow j s) same h
names-further (suc d) k s h =
    let same : suc (d + k) ≡ suc d + k = omega arith in
    subst (λ j. NamesBelow j s) same (names-up (d + k) s (names-further d k s h))

pub reads-up-to : (k q : ℕ) → k ≤ q → (e : Expr) → ReadsBelow k e → ReadsBelow q e
reads-up-to k q l e h =
    let same : (q - k) + k ≡ q = omega (arith, l) in
    subst (λ j. ReadsBelow j e) same (reads-further (q - k) k e h)

pub names-up-to : (k q : ℕ) → k ≤ q → (s : Stmt) → NamesBelow k s → NamesBelow q s
names-up-to k q l s h =
    let same : (q - k) + k ≡ q = omega (arith, l) in
    subst (λ j. NamesBelow j s) same (names-further (q - k) k s h)
