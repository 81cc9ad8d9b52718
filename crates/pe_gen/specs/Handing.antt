-- Instructions in which constants among the nodes of a phrase are handed as data.
use Rattle.std.specs.Prelude.{ℕ, List, slice_get, Option, Some, None}
use Rattle.fy_base.specs.declared.data.Datum.{Datum}
use Rattle.fy_phrase.specs.Tree.{Tree}
use Rattle.pe_code.specs.declared.code.PeInsn.{PeInsn}
use Rattle.pe_code.specs.declared.code.PeInsn.TheVariants as insn
use Rattle.pe_code.specs.declared.code.PeItem.{PeItem}
use Rattle.pe_right.specs.Constants.{constant}

-- the datum of the node that was found, if it is a constant
abbrev pub datum_in : Option (ℕ × Tree) → Option Datum
datum_in None = None
datum_in (Some node) = constant node.1

-- an argument, as its datum where it has one
abbrev pub passing : ℕ → ℕ → Option Datum → PeInsn
passing k y None = insn.Pass k y
passing k y (Some v) = insn.PassData v y

-- a definition, in the same way
abbrev pub binding : ℕ → ℕ → Option Datum → PeInsn
binding k y None = insn.Let k y
binding k y (Some v) = insn.LetData v y

-- the instruction, with data for constants of the list of nodes
abbrev pub with_data : List (ℕ × Tree) → PeInsn → PeInsn
with_data ns (insn.Pass k y) = passing k y (datum_in (slice_get ns k))
with_data ns (insn.Let k y) = binding k y (datum_in (slice_get ns k))
with_data ns i = i

abbrev pub item_with_data : List (ℕ × Tree) → PeItem → PeItem
item_with_data ns item = record { insn = with_data ns item.insn; depth = item.depth; place = item.place }
