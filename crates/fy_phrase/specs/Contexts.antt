-- What waits for the phrase in focus. One type serves every machine of the language: the copy rule holds phrases in it, the
-- push-enter machine their addresses.
use Rattle.std.specs.Prelude.{ℕ}
use Rattle.fy_base.specs.declared.data.Place.{Place}
use Rattle.fy_base.specs.declared.data.Datum.{Datum}
use Rattle.fy_base.specs.declared.data.UnOp.{UnOp}
use Rattle.fy_base.specs.declared.data.BinOp.{BinOp}
use Rattle.fy_base.specs.declared.data.PutKind.{PutKind}
use Rattle.fy_phrase.specs.Tree.{Tree, Trees}

-- a context that holds arguments as A, other phrases as P, lists of parts as Ps and cells that are wanted as E; what may fault has the place of its operation
pub data Context (A P Ps E : Type 0) : Type 0 where
  -- the operand of an operator on one datum
  op_1 : (op : UnOp) (at : Place) → Context A P Ps E
  -- the left operand, before the right one q
  op_l : (op : BinOp) (q : P) (at : Place) → Context A P Ps E
  -- the right operand, after the left one's value u
  op_r : (op : BinOp) (u : Datum) (at : Place) → Context A P Ps E
  -- the condition, before p or q
  if_c : (p q : P) → Context A P Ps E
  -- the index, before one of the parts
  case_c : (parts : Ps) (at : Place) → Context A P Ps E
  -- the procedure that is called with q
  arg_c : (q : A) → Context A P Ps E
  -- the phrase whose field i is selected
  pick_c : (i : ℕ) → Context A P Ps E
  -- the first of two commands, before q
  then_c : (q : P) → Context A P Ps E
  -- the value to be assigned, before the acceptor p
  assign_c : (p : P) → Context A P Ps E
  -- the acceptor that is assigned v
  store_c : (v : Datum) → Context A P Ps E
  -- the condition of a loop, before its body c
  while_c : (loop c : P) → Context A P Ps E
  -- the body of a loop, before the loop again
  body_c : (loop : P) → Context A P Ps E
  -- the body of a loop without an end, before the loop again
  loop_c : (loop : P) → Context A P Ps E
  -- the first value of a new variable of depth d, before the phrase that it stands in
  new_c : (d : ℕ) (body : P) → Context A P Ps E
  -- the phrase that cell n stands in
  drop_c : (n : ℕ) → Context A P Ps E
  -- the datum to be put
  put_c : (kind : PutKind) → Context A P Ps E
  -- the command that jump n ends
  esc_c : (n : ℕ) → Context A P Ps E
  -- how many cells a new sequence of depth d is to have, before the phrase that it stands in
  cells_c : (d : ℕ) (body : P) (at : Place) → Context A P Ps E
  -- how many of its v cells sequence n of depth d has so far, before the phrase that it stands in
  fill_c : (n v d : ℕ) (body : P) (at : Place) → Context A P Ps E
  -- the index of a cell
  element_c : (wanted : E) → Context A P Ps E

-- the copy rule's contexts hold phrases, and the number of a sequence
abbrev pub CopyContext : Type 0
CopyContext = Context Tree Tree Trees ℕ

-- a context C and the load before it was pushed
pub record Pushed (C : Type 0) : Type 0 where
  pub base : ℕ
  pub context : C
