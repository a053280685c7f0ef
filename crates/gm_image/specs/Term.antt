-- Expressions without where they lie in memory.
use Rattle.std.specs.Prelude.{ℕ, Option}
use Rattle.gm_value.specs.declared.values.Value.{Value}
use Rattle.gm_value.specs.declared.operations.Op1.{Op1}
use Rattle.gm_value.specs.declared.operations.Op2.{Op2}

-- an expression: an operation that may fault has the index of its place
pub data Term : Type 0 where
  Const : (v : Value) → Term
  Global : (g : ℕ) → Term
  NodeCount : Term
  EdgeCount : Term
  Field : (f : ℕ) → Term
  Self : Term
  OutDegree : Term
  InDegree : Term
  Register : (r : ℕ) → Term
  Message : (i : ℕ) → Term
  Neighbour : Term
  Column : (w : ℕ) → Term
  NodeAt : (a : Term) → Term
  Live : (place : ℕ) (a : Term) → Term
  Unary : (op : Op1) (place : Option ℕ) (a : Term) → Term
  Binary : (op : Op2) (place : Option ℕ) (a b : Term) → Term
  And : (a b : Term) → Term
  Or : (a b : Term) → Term
  Choose : (c a b : Term) → Term
