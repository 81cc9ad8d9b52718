-- Code that never goes wrong: each word that is read or written lies under a window that was asked for in the same block. Decided by computation, block by block.
use Rattle.std.specs.Prelude.{ℕ, ◌-◌, ◌/◌, ◌%◌, ◌^◌, ℤ, pos, negsuc, Bool, true, false, not, ◌&&◌, nat_lt, nat_le, nat_eq, if◌then◌else◌, List, [], ◌∷◌, length}
use Rattle.rv_insn.specs.declared.instructions.ImmOp.{ImmOp}
use Rattle.rv_insn.specs.declared.instructions.ImmOp.TheVariants.{Addi}
use Rattle.rv_insn.specs.Encoding.{amount_bits}
use Rattle.rv_word.specs.declared.micros.Register.{Register}
use Rattle.rv_word.specs.declared.micros.Register.TheVariants.{Zero}
use Rattle.rv_word.specs.declared.micros.Micro.{Micro}
use Rattle.rv_word.specs.declared.micros.Micro.TheVariants.{Set, Imm, Shift, Alu, Window, Get, Save, Look, Room, Test, Jump, Enter, Put, Take, End, Exhaust, Fault}
use Rattle.rv_word.specs.Word.{Named, Code, get, set, zeros}

-- what numbers are judged by: how many blocks, words of the table and places there are
pub record Bounds : Type 0 where
  pub blocks : ℕ
  pub table_words : ℕ
  pub places : ℕ

-- a number of twelve bits with sign
abbrev pub is_short : ℤ → Bool
is_short (pos n) = nat_lt n 2048
is_short (negsuc n) = nat_lt n 2048

abbrev pub is_zero : Register → Bool
is_zero Zero = true
is_zero _ = false

-- what a micro-operation needs, where each register has a window of so many words (none where it is 0)
abbrev pub has_needs : Bounds → Micro → Named → Bool
has_needs b (Set r v) windows = nat_lt v (2 ^ 64)
has_needs b (Imm op r s imm) windows = is_short imm
has_needs b (Shift op r s amount) windows = nat_lt amount (2 ^ amount_bits op)
has_needs b (Alu op r s t) windows = true
has_needs b (Window r k) windows = not (is_zero r) && (nat_le 1 k && nat_le k 4096)
has_needs b (Get r s k) windows = nat_lt k (get windows s) && nat_lt k 256
has_needs b (Save s k r) windows = nat_lt k (get windows s) && nat_lt k 256
has_needs b (Look r s) windows = not (is_zero s) && nat_le 1 b.table_words
has_needs b (Room k label) windows = nat_le k 4096 && nat_lt label b.blocks
has_needs b (Test op r s label) windows = nat_lt label b.blocks
has_needs b (Jump label) windows = nat_lt label b.blocks
has_needs b (Enter r) windows = true
has_needs b (Put r) windows = not (is_zero r)
has_needs b (Take r) windows = true
has_needs b End windows = true
has_needs b Exhaust windows = true
has_needs b (Fault kind place) windows = nat_lt place b.places

-- what is left of a window of k words, seen from so many bytes on
abbrev pub moved_window : ℤ → ℕ → ℕ
moved_window (pos n) k = if nat_eq (n % 8) 0 then k - n / 8 else 0
moved_window (negsuc n) k = 0

-- addition of a number passes the window on, other operations none
abbrev pub imm_window : ImmOp → ℤ → ℕ → ℕ
imm_window Addi imm k = moved_window imm k
imm_window _ imm k = 0

-- the windows behind a micro-operation. Behind a test and a demand for room there are none, since code may jump over what they become
abbrev pub windows_behind : Micro → Named → Named
windows_behind (Set r v) windows = set windows r 0
windows_behind (Imm op r s imm) windows = set windows r (imm_window op imm (get windows s))
windows_behind (Shift op r s amount) windows = set windows r 0
windows_behind (Alu op r s t) windows = set windows r 0
windows_behind (Window r k) windows = set windows r k
windows_behind (Get r s k) windows = set windows r 0
windows_behind (Look r s) windows = set (set windows s 0) r 0
windows_behind (Take r) windows = set windows r 0
windows_behind (Room k label) windows = zeros
windows_behind (Test op r s label) windows = zeros
windows_behind _ windows = windows

-- no operation behind it is reached from it
abbrev pub closes : Micro → Bool
closes (Jump label) = true
closes (Enter r) = true
closes End = true
closes Exhaust = true
closes (Fault kind place) = true
closes _ = false

-- a block from some operation on: each has what it needs, and the last closes it
abbrev pub is_disciplined_from : Bounds → Named → List Micro → Bool
is_disciplined_from b windows [] = false
is_disciplined_from b windows (m ∷ []) = has_needs b m windows && closes m
is_disciplined_from b windows (m ∷ n ∷ rest) = has_needs b m windows && is_disciplined_from b (windows_behind m windows) (n ∷ rest)

abbrev pub are_disciplined : Bounds → List (List Micro) → Bool
are_disciplined b [] = true
are_disciplined b (micros ∷ blocks) = is_disciplined_from b zeros micros && are_disciplined b blocks

abbrev pub are_below : ℕ → List ℕ → Bool
are_below n [] = true
are_below n (label ∷ labels) = nat_lt label n && are_below n labels

abbrev pub bounds_of : Code → Bounds
bounds_of code = record { blocks = length code.blocks; table_words = length code.table; places = length code.places }

-- code whose blocks are so, with an entry where it starts
abbrev pub is_disciplined : Code → Bool
is_disciplined code =
    are_disciplined (bounds_of code) code.blocks && (are_below (length code.blocks) code.entries && nat_le 1 (length code.entries))
