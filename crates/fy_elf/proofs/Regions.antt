-- The byte at an address: in a region, below it and past it.
use Rattle.std.proofs.Common.{◌≡◌, ℕ, ◌+◌, ◌-◌, ◌*◌, ◌%◌, ◌<◌, ◌≤◌, true, false, ltb, leb, eqb, length, drop, ap, ◌∙◌, refl, arith, Some, None, Ok}
use Rattle.std.specs.List.{slice_index}
use Rattle.std.proofs.Math.Nat.{mod-one}
use Rattle.std.proofs.Math.Bool.{and-false}
use Rattle.std.proofs.lemmas.Bool.{lt-ltb, le-ltb, le-leb, lt-leb}
use Rattle.std.proofs.lemmas.List.{get_or-drop}
use Rattle.fy_base.specs.Outside.{Bytes}
use Rattle.fy_elf.specs.Memory.{ProgramHeader, filled, loaded_by, byte_loaded}
use Rattle.rv_insn.specs.declared.instructions.LoadOp.TheVariants.{Lbu}
use Rattle.rv_insn.specs.Memory.{lies_in, load, load_size, load_value}
use Rattle.rv_insn.specs.Program.{Program, code_start, table_start, stack_start, code_bytes, table_bytes}

-- ---- the segment of a file

abbrev pub load_header : ℕ → ℕ → ℕ → ℕ → ProgramHeader
load_header offset address file_size memory_size = record { kind = 1; offset = offset; address = address; file_size = file_size; memory_size = memory_size }

pub loaded_in : (bytes : Bytes) (o s f m a : ℕ) → s ≤ a → a < s + m → loaded_by bytes (load_header o s f m) a ≡ Some (filled bytes o f (a - s))
loaded_in bytes o s f m a low high = let l : leb s a ≡ true = le-leb s a low in let h : ltb a (s + m) ≡ true = lt-ltb a (s + m) high in rw (l, h) refl

pub loaded_below : (bytes : Bytes) (o s f m a : ℕ) → a < s → loaded_by bytes (load_header o s f m) a ≡ None
loaded_below bytes o s f m a low = let l : leb s a ≡ false = lt-leb s a low in rw l refl

pub loaded_above : (bytes : Bytes) (o s f m a : ℕ) → s + m ≤ a → loaded_by bytes (load_header o s f m) a ≡ None
loaded_above bytes o s f m a high = let h : ltb a (s + m) ≡ false = le-ltb a (s + m) high in rw (h, and-false (leb s a)) refl

pub filled_within : (bytes : Bytes) (o f k : ℕ) → k < f → filled bytes o f k ≡ slice_index bytes (o + k)
filled_within bytes o f k low = let l : ltb k f ≡ true = lt-ltb k f low in rw l refl

-- ---- a region of the machine

pub lies_within : (start count a : ℕ) → start ≤ a → a < start + count → lies_in start count a 1 ≡ true
lies_within start count a low high =
    let l : leb start a ≡ true = le-leb start a low in let h : leb (a + 1) (start + count) ≡ true = le-leb (a + 1) (start + count) (omega arith) in rw (l, h) refl

pub lies_below : (start count a : ℕ) → a < start → lies_in start count a 1 ≡ false
lies_below start count a low = let l : leb start a ≡ false = lt-leb start a low in rw l refl

pub lies_above : (start count a : ℕ) → start + count ≤ a → lies_in start count a 1 ≡ false
lies_above start count a high = let h : leb (a + 1) (start + count) ≡ false = lt-leb (a + 1) (start + count) (omega arith) in rw (h, and-false (leb start a)) refl

-- the value of one byte
pub byte_value : (bytes : Bytes) (k : ℕ) → load_value Lbu (drop k bytes) ≡ slice_index bytes k
unfolding load_value
byte_value bytes k = let first : slice_index (drop k bytes) 0 ≡ slice_index bytes (k + 0) = get_or-drop k bytes 0 0 in let e : k + 0 ≡ k = omega arith in omega (arith, first, ap (λ n. slice_index bytes n) e)

aligned : (a : ℕ) → eqb (a % load_size Lbu) 0 ≡ true
unfolding load_size
aligned a = ap (λ k. eqb k 0) (mod-one a)

-- where the byte lies in none of the regions before
in_stack : (p : Program) (stack : Bytes) (a : ℕ) → lies_in stack_start (length stack) a 1 ≡ true → load p stack Lbu a ≡ Ok (load_value Lbu (drop (a - stack_start) stack))
unfolding load load_size
in_stack p stack a s = rw (aligned a, s) refl

in_table : (p : Program) (stack : Bytes) (a : ℕ) → lies_in stack_start (length stack) a 1 ≡ false → lies_in table_start (8 * length p.table) a 1 ≡ true → load p stack Lbu a ≡ Ok (load_value Lbu (drop (a - table_start) (table_bytes p)))
unfolding load load_size
in_table p stack a s t = rw (aligned a, s, t) refl

in_code : (p : Program) (stack : Bytes) (a : ℕ) → lies_in stack_start (length stack) a 1 ≡ false → lies_in table_start (8 * length p.table) a 1 ≡ false → lies_in code_start (4 * length p.words) a 1 ≡ true
    → load p stack Lbu a ≡ Ok (load_value Lbu (drop (a - code_start) (code_bytes p)))
unfolding load load_size
in_code p stack a s t c = rw (aligned a, s, t, c) refl

in_none : (p : Program) (stack : Bytes) (a : ℕ) → lies_in stack_start (length stack) a 1 ≡ false → lies_in table_start (8 * length p.table) a 1 ≡ false → lies_in code_start (4 * length p.words) a 1 ≡ false → byte_loaded (load p stack Lbu a) ≡ None
unfolding load load_size
in_none p stack a s t c = rw (aligned a, s, t, c) refl

pub stack_byte : (p : Program) (stack : Bytes) (a : ℕ) → lies_in stack_start (length stack) a 1 ≡ true → byte_loaded (load p stack Lbu a) ≡ Some (slice_index stack (a - stack_start))
stack_byte p stack a s = ap byte_loaded (in_stack p stack a s) ∙ ap (λ v. Some v) (byte_value stack (a - stack_start))

pub table_byte : (p : Program) (stack : Bytes) (a : ℕ) → lies_in stack_start (length stack) a 1 ≡ false → lies_in table_start (8 * length p.table) a 1 ≡ true → byte_loaded (load p stack Lbu a) ≡ Some (slice_index (table_bytes p) (a - table_start))
table_byte p stack a s t = ap byte_loaded (in_table p stack a s t) ∙ ap (λ v. Some v) (byte_value (table_bytes p) (a - table_start))

pub code_byte : (p : Program) (stack : Bytes) (a : ℕ) → lies_in stack_start (length stack) a 1 ≡ false → lies_in table_start (8 * length p.table) a 1 ≡ false → lies_in code_start (4 * length p.words) a 1 ≡ true
    → byte_loaded (load p stack Lbu a) ≡ Some (slice_index (code_bytes p) (a - code_start))
code_byte p stack a s t c = ap byte_loaded (in_code p stack a s t c) ∙ ap (λ v. Some v) (byte_value (code_bytes p) (a - code_start))

pub no_byte : (p : Program) (stack : Bytes) (a : ℕ) → lies_in stack_start (length stack) a 1 ≡ false → lies_in table_start (8 * length p.table) a 1 ≡ false → lies_in code_start (4 * length p.words) a 1 ≡ false → byte_loaded (load p stack Lbu a) ≡ None
no_byte p stack a s t c = in_none p stack a s t c
