-- The search for the line that parts two texts, byte by byte.
use Rattle.std.proofs.Common.{◌≡◌, ◌≤◌, ◌<◌, ◌+◌, ◌∙◌, ℕ, suc, false, List, [], ◌∷◌, ◌++◌, length, take, drop, get_or, refl, sym, ap, subst, arith, append_assoc, append-nil, length-append, inl, inr, add-one, drop-cons}
use Rattle.std.specs.Prelude.{Option, Some, None, ◌==◌}
use Rattle.std.proofs.lemmas.Bool.Decides.{eqb_tells}
use Rattle.std.proofs.lemmas.List.{take_more, take-append-drop, length-take-le}
use Rattle.std.proofs.Math.Seq.{take-append_seam, drop-append-add}
use Rattle.gm_input.specs.declared.lines.LineSoFar.{LineSoFar}
use Rattle.gm_input.specs.declared.lines.LineSoFar.TheVariants.{Empty, OneSign, TwoSigns, SignsAndReturn, Other}
use Rattle.gm_input.specs.Parts.{program_from, graph_from}
use Rattle.gm_input.specs.Lines.{AreRead, AreParted, begins, held, line_with}

-- with one byte more a line goes on: what was held and the byte are known to be of the program, or are held
record GoesOn (line next : LineSoFar) (b : ℕ) : Type 0 where
  pub moved : List ℕ
  pub same : held line ++ b ∷ [] ≡ moved ++ held next
  pub program : (rest : List ℕ) → program_from (begins line) (held line ++ b ∷ rest) ≡ moved ++ program_from (begins next) (held next ++ rest)
  pub graph : (rest : List ℕ) → graph_from (begins line) (held line ++ b ∷ rest) ≡ graph_from (begins next) (held next ++ rest)

-- with one byte more the line `%%` ends
record Ends (line : LineSoFar) (b : ℕ) : Type 0 where
  pub program : (rest : List ℕ) → program_from (begins line) (held line ++ b ∷ rest) ≡ []
  pub graph : (rest : List ℕ) → graph_from (begins line) (held line ++ b ∷ rest) ≡ rest

abbrev Goes : LineSoFar → ℕ → Option LineSoFar → Type 0
Goes line b None = Ends line b
Goes line b (Some next) = GoesOn line next b

at_sign : (line : LineSoFar) → Goes line 37 (line_with line 37)
at_sign Empty = record { moved = []; same = refl; program = λ rest. refl; graph = λ rest. refl }
at_sign OneSign = record { moved = []; same = refl; program = λ rest. refl; graph = λ rest. refl }
at_sign TwoSigns = record { moved = 37 ∷ 37 ∷ 37 ∷ []; same = refl; program = λ rest. refl; graph = λ rest. refl }
at_sign SignsAndReturn = record { moved = 37 ∷ 37 ∷ 13 ∷ 37 ∷ []; same = refl; program = λ rest. refl; graph = λ rest. refl }
at_sign Other = record { moved = 37 ∷ []; same = refl; program = λ rest. refl; graph = λ rest. refl }

at_end : (line : LineSoFar) → Goes line 10 (line_with line 10)
at_end Empty = record { moved = 10 ∷ []; same = refl; program = λ rest. refl; graph = λ rest. refl }
at_end OneSign = record { moved = 37 ∷ 10 ∷ []; same = refl; program = λ rest. refl; graph = λ rest. refl }
at_end TwoSigns = record { program = λ rest. refl; graph = λ rest. refl }
at_end SignsAndReturn = record { program = λ rest. refl; graph = λ rest. refl }
at_end Other = record { moved = 10 ∷ []; same = refl; program = λ rest. refl; graph = λ rest. refl }

at_return : (line : LineSoFar) → Goes line 13 (line_with line 13)
at_return Empty = record { moved = 13 ∷ []; same = refl; program = λ rest. refl; graph = λ rest. refl }
at_return OneSign = record { moved = 37 ∷ 13 ∷ []; same = refl; program = λ rest. refl; graph = λ rest. refl }
at_return TwoSigns = record { moved = []; same = refl; program = λ rest. refl; graph = λ rest. refl }
at_return SignsAndReturn = record { moved = 37 ∷ 37 ∷ 13 ∷ 13 ∷ []; same = refl; program = λ rest. refl; graph = λ rest. refl }
at_return Other = record { moved = 13 ∷ []; same = refl; program = λ rest. refl; graph = λ rest. refl }

at_other : (line : LineSoFar) (b : ℕ) → (b == 37) ≡ false → (b == 10) ≡ false → (b == 13) ≡ false → Goes line b (line_with line b)
at_other Empty b sign end return = rw (sign, end) (record { moved = b ∷ []; same = refl; program = λ rest. simp (sign, end); graph = λ rest. simp (sign, end) })
at_other OneSign b sign end return = rw (sign, end) (record { moved = 37 ∷ b ∷ []; same = refl; program = λ rest. simp (sign, end); graph = λ rest. simp (sign, end) })
at_other TwoSigns b sign end return = rw (end, return) (record { moved = 37 ∷ 37 ∷ b ∷ []; same = refl; program = λ rest. simp (end, return); graph = λ rest. simp (end, return) })
at_other SignsAndReturn b sign end return = rw end (record { moved = 37 ∷ 37 ∷ 13 ∷ b ∷ []; same = refl; program = λ rest. simp end; graph = λ rest. simp end })
at_other Other b sign end return = rw end (record { moved = b ∷ []; same = refl; program = λ rest. simp end; graph = λ rest. simp end })

-- a byte is one of the three that the line `%%` has, or none of them
goes : (line : LineSoFar) (b : ℕ) → Goes line b (line_with line b)
goes line b =
    elim (eqb_tells b 37) [
      | inl sign ↦ subst (λ (x : ℕ). Goes line x (line_with line x)) (sym sign.1) (at_sign line)
      | inr no_sign ↦ elim (eqb_tells b 10) [
        | inl end ↦ subst (λ (x : ℕ). Goes line x (line_with line x)) (sym end.1) (at_end line)
        | inr no_end ↦ elim (eqb_tells b 13) [
          | inl return ↦ subst (λ (x : ℕ). Goes line x (line_with line x)) (sym return.1) (at_return line)
          | inr no_return ↦ at_other line b no_sign.0 no_end.0 no_return.0
        ]
      ]
    ]

-- nothing was read yet
pub nothing_read : AreRead [] Empty
nothing_read = record { known = []; all = refl; program = λ rest. refl; graph = λ rest. refl }

-- one byte more
pub read_more : (bytes : List ℕ) (line next : LineSoFar) (b : ℕ) → AreRead bytes line → line_with line b ≡ Some next → AreRead (bytes ++ b ∷ []) next
read_more bytes line next b read on =
    let step : GoesOn line next b = rw on at (goes line b) in
    record {
      known = read.known ++ step.moved;
      all = rw (read.all, append_assoc, step.same) (sym (append_assoc read.known step.moved (held next)));
      program = λ rest. rw append_assoc (read.program (b ∷ rest) ∙ rw (step.program rest) (sym (append_assoc read.known step.moved (program_from (begins next) (held next ++ rest)))));
      graph = λ rest. rw append_assoc (read.graph (b ∷ rest) ∙ step.graph rest);
    }

-- the bytes that are held are four with the byte that ends the line `%%`
pub held_few : (line : LineSoFar) → length (held line) ≤ 3
held_few Empty = omega arith
held_few OneSign = omega arith
held_few TwoSigns = omega arith
held_few SignsAndReturn = omega arith
held_few Other = omega arith

-- the line `%%` ends with this byte
mark_ends : (front : List ℕ) (line : LineSoFar) (b : ℕ) (more : List ℕ) (start : ℕ) → AreRead front line → line_with line b ≡ None
    → start + length (held line) ≡ length front → AreParted (front ++ b ∷ more) start (length front + 1)
mark_ends front line b more start read on place =
    let step : Ends line b = rw on at (goes line b) in
    let size : length front ≡ length read.known + length (held line) = ap length read.all ∙ length-append read.known (held line) in
    let first : start ≡ length read.known = omega arith in
    let few : length (held line) ≤ 3 = held_few line in
    let all : length (front ++ b ∷ more) ≡ length front + suc (length more) = length-append front (b ∷ more) in
    let known : take start (front ++ b ∷ more) ≡ read.known = rw (first, read.all, append_assoc) (take-append_seam read.known (held line ++ b ∷ more)) in
    let behind : drop (length front + 1) (front ++ b ∷ more) ≡ more = drop-append-add front (b ∷ more) 1 in
    record {
      within = omega arith;
      ordered = omega arith;
      short = omega arith;
      program = λ rest. rw append_assoc (read.program (b ∷ more ++ rest) ∙ rw (step.program (more ++ rest), append-nil) (sym known));
      graph = λ rest. rw append_assoc (read.graph (b ∷ more ++ rest) ∙ step.graph (more ++ rest) ∙ ap (λ (xs : List ℕ). xs ++ rest) (sym behind));
    }

-- a list is what stands before an index, the item there, and what stands behind
parts_at : (bytes : List ℕ) (at : ℕ) → at < length bytes → bytes ≡ take at bytes ++ get_or bytes at 0 ∷ drop (at + 1) bytes
parts_at bytes at h = sym (take-append-drop at bytes) ∙ ap (λ (xs : List ℕ). take at bytes ++ xs) (rw add-one (drop-cons bytes at 0 h))

pub mark_here : (bytes : List ℕ) (line : LineSoFar) (at start : ℕ) → at < length bytes → AreRead (take at bytes) line → line_with line (get_or bytes at 0) ≡ None
    → start + length (held line) ≡ at → AreParted bytes start (at + 1)
mark_here bytes line at start h read on place =
    let size : length (take at bytes) ≡ at = length-take-le at bytes (omega arith) in
    let here : AreParted (take at bytes ++ get_or bytes at 0 ∷ drop (at + 1) bytes) start (length (take at bytes) + 1) =
    mark_ends (take at bytes) line (get_or bytes at 0) (drop (at + 1) bytes) start read on (omega arith) in
    let moved : AreParted (take at bytes ++ get_or bytes at 0 ∷ drop (at + 1) bytes) start (at + 1) = rw size at here in
    subst (λ (xs : List ℕ). AreParted xs start (at + 1)) (sym (parts_at bytes at h)) moved

pub read_on : (bytes : List ℕ) (line next : LineSoFar) (at : ℕ) → at < length bytes → AreRead (take at bytes) line → line_with line (get_or bytes at 0) ≡ Some next
    → AreRead (take (at + 1) bytes) next
read_on bytes line next at h read on = rw (take_more bytes at 0 h) (read_more (take at bytes) line next (get_or bytes at 0) read on)

-- what is held is a part of what was read
pub held_within : (bytes : List ℕ) (line : LineSoFar) (at : ℕ) → at ≤ length bytes → AreRead (take at bytes) line → length (held line) ≤ at
held_within bytes line at h read =
    let size : length (take at bytes) ≡ at = length-take-le at bytes h in
    let parts : length (take at bytes) ≡ length read.known + length (held line) = ap length read.all ∙ length-append read.known (held line) in
    omega arith
