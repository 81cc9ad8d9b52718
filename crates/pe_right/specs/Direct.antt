-- Which code is code in which the constants are handed as data.
use Rattle.std.specs.Prelude.{ℕ, ◌≡◌, length, slice_get, Option, Some, None}
use Rattle.fy_base.specs.declared.data.Datum.{Datum}
use Rattle.fy_phrase.specs.Tree.{Tree}
use Rattle.pe_code.specs.declared.code.PeInsn.{PeInsn}
use Rattle.pe_code.specs.declared.code.PeInsn.TheVariants as insn
use Rattle.pe_code.specs.declared.code.PeItem.{PeItem}
use Rattle.pe_code.specs.declared.code.PeCode.{PeCode}
use Rattle.pe_right.specs.Constants.{constant}
use Rattle.pe_right.specs.Right.{IsNodeUnder}

-- node k of the phrase is a constant with the value
pub record IsConstantAt (p : Tree) (k : ℕ) (v : Datum) : Type 0 where
  pub depth : ℕ
  pub node : Tree
  pub stands : IsNodeUnder 0 0 p depth k node
  pub value : constant node ≡ Some v

-- the node of an argument or a definition that an instruction hands as a thunk
abbrev pub thunk_handed : PeInsn → Option ℕ
thunk_handed (insn.Pass k y) = Some k
thunk_handed (insn.Let k y) = Some k
thunk_handed _ = None

-- it hands no constant as a thunk
abbrev pub HandsNoConstant : Tree → PeInsn → Type 0
HandsNoConstant p i = (k : ℕ) (v : Datum) → thunk_handed i ≡ Some k → IsConstantAt p k v → ⊥

-- the second instruction is the first, or hands the datum of a constant that the first hands as a thunk
pub data IsHanded (p : Tree) : PeInsn → PeInsn → Type 0 where
  passed : {k y : ℕ} {v : Datum} → IsConstantAt p k v → IsHanded p (insn.Pass k y) (insn.PassData v y)
  bound : {k y : ℕ} {v : Datum} → IsConstantAt p k v → IsHanded p (insn.Let k y) (insn.LetData v y)
  same : {i : PeInsn} → HandsNoConstant p i → IsHanded p i i

pub record IsItemHanded (p : Tree) (old new : PeItem) : Type 0 where
  pub insn : IsHanded p old.insn new.insn
  pub depth : new.depth ≡ old.depth
  pub place : new.place ≡ old.place

-- all else is as in the code
pub record IsDirectOf (p : Tree) (code made : PeCode) : Type 0 where
  pub count : length made.items ≡ length code.items
  pub items : (a : ℕ) (old : PeItem) → slice_get code.items a ≡ Some old → (new : PeItem) × (slice_get made.items a ≡ Some new) × IsItemHanded p old new
  pub entries : made.entries ≡ code.entries
  pub shapes : made.shapes ≡ code.shapes
  pub assignment : made.assignment ≡ code.assignment
  pub sequences : made.sequences ≡ code.sequences
  pub thunks : made.thunks ≡ code.thunks
