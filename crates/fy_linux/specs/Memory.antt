-- What Linux makes of an executable file: its entry, and the memory of its segments, page by page, each with what it may be used for.
-- System V Application Binary Interface, "Program Header" and "Program Loading"; execve(2) and elf(5); Linux, fs/binfmt_elf.c (elf_load).
use Rattle.std.specs.Prelude.{◌≡◌, ℕ, ◌+◌, ◌-◌, ◌*◌, ◌/◌, ◌%◌, ◌<◌, ◌≤◌, Bool, ◌&&◌, nat_le, nat_lt, nat_eq, if◌then◌else◌, List, [], ◌∷◌, length, map, slice_get, slice_index, All, Some, None}
use Rattle.std.specs.List.{range_with_len}
use Rattle.std.specs.Option.{IfSome}
use Rattle.std.specs.declared.option.Option.{Option}
use Rattle.fy_base.specs.Outside.{Bytes}
use Rattle.fy_elf.specs.Memory.{half_at, word_at, double_at, elf_entry, byte_loaded}
use Rattle.fy_image.specs.declared.image.Image.{Image}
use Rattle.rv_guard.specs.declared.pieces.Piece.{Piece}
use Rattle.rv_insn.specs.declared.instructions.LoadOp.TheVariants.{Lbu}
use Rattle.rv_insn.specs.Memory.{load}
use Rattle.rv_insn.specs.Program.{Program, code_start, table_start, stack_start}
use Rattle.fy_linux.specs.File.{page_up}
use Rattle.fy_linux.specs.Process.{Process, IsLinuxProgram, process_start}

-- a program header: p_type, p_flags, p_offset, p_vaddr, p_filesz and p_memsz
pub record LoadHeader : Type 0 where
  pub kind : ℕ
  pub flags : ℕ
  pub offset : ℕ
  pub address : ℕ
  pub file_size : ℕ
  pub memory_size : ℕ

abbrev pub load_header_at : Bytes → ℕ → LoadHeader
load_header_at bytes place = record {
  kind = word_at bytes place;
  flags = word_at bytes (place + 4);
  offset = double_at bytes (place + 8);
  address = double_at bytes (place + 16);
  file_size = double_at bytes (place + 32);
  memory_size = double_at bytes (place + 40);
}

-- all of them, by e_phoff, e_phentsize and e_phnum
unfoldable pub load_headers : Bytes → List LoadHeader
load_headers bytes = map (λ k. load_header_at bytes (double_at bytes 32 + k * half_at bytes 54)) (range_with_len 0 (half_at bytes 56))

-- a byte of memory, and what it may be used for: 1 to execute, 2 to write, 4 to read
pub record Mapped : Type 0 where
  pub byte : ℕ
  pub flags : ℕ

-- where the page begins in which an address lies
abbrev pub page_down : ℕ → ℕ
page_down n = n / 4096 * 4096

-- the byte so far behind where a segment begins: the file's, whose last page is mapped whole where no zeros follow in memory, else 0
abbrev pub segment_byte : Bytes → LoadHeader → ℕ → ℕ
segment_byte bytes h k =
    if nat_lt k h.file_size then slice_index bytes (h.offset + k)
    else (if nat_eq h.file_size h.memory_size then slice_index bytes (h.offset + k)
    else 0)

-- what a segment maps at an address: whole pages
abbrev pub mapped_by : Bytes → LoadHeader → ℕ → Option Mapped
mapped_by bytes h address =
    if nat_eq h.kind 1 && (nat_le h.address address && nat_lt address (page_up (h.address + h.memory_size)))
    then Some (record { byte = segment_byte bytes h (address - h.address); flags = h.flags })
    else None

abbrev pub or_else : Option Mapped → Option Mapped → Option Mapped
or_else None later = later
or_else (Some byte) later = Some byte

abbrev pub first_mapped : Bytes → List LoadHeader → ℕ → Option Mapped
first_mapped bytes [] address = None
first_mapped bytes (h ∷ headers) address = or_else (mapped_by bytes h address) (first_mapped bytes headers address)

-- the memory of a process that executes the file
unfoldable pub linux_memory : Bytes → ℕ → Option Mapped
linux_memory bytes address = first_mapped bytes (load_headers bytes) address

-- a segment that can be mapped: it begins with a page, in memory and in the file
abbrev pub BeginsPage : LoadHeader → Type 0
BeginsPage h = h.kind ≡ 1 → (h.address % 4096 ≡ 0) × (h.offset % 4096 ≡ 0) × (h.file_size ≤ h.memory_size)

-- what the code, the table and the stack may be used for
abbrev pub use_of : ℕ → ℕ
use_of address = if nat_le stack_start address then 6 else (if nat_le table_start address then 4 else 5)

-- the file is that of a process that starts so: it begins at its entry, and what it can load stands in memory, and may be used as it uses it
pub record FileLoads (image : Image) (pieces : List Piece) (bytes : Bytes) : Type 0 where
  pub pages : All BeginsPage (load_headers bytes)
  pub entry : (regs : List ℕ) (input : Bytes) → elf_entry bytes ≡ (process_start image regs input).core.pc
  pub memory : (program : Program) (regs : List ℕ) (input : Bytes) (address : ℕ) → IsLinuxProgram image pieces program
      → IfSome (byte_loaded (load program (process_start image regs input).core.stack Lbu address))
      (λ byte. linux_memory bytes address ≡ Some (record { byte = byte; flags = use_of address }))
