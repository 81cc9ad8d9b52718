-- What an ELF file is to a loader: its entry, and the memory of its segments.
-- System V Application Binary Interface, "Object Files", "ELF Header" and "Program Header", and "Program Loading".
use Rattle.std.specs.Prelude.{◌≡◌, ℕ, ◌+◌, ◌-◌, ◌*◌, ◌&&◌, nat_le, nat_lt, nat_eq, if◌then◌else◌, List, [], ◌∷◌, map, take, drop, slice_index, Some, None}
use Rattle.std.specs.List.{range_with_len}
use Rattle.std.specs.Int.{w16, w32, w64, from_le_bytes}
use Rattle.std.specs.declared.option.Option.{Option}
use Rattle.std.specs.declared.result.Result.{Result}
use Rattle.std.specs.declared.result.Result.TheVariants.{Ok, Err}
use Rattle.fy_base.specs.Outside.{Bytes}
use Rattle.fy_base.specs.declared.data.TrapKind.{TrapKind}
use Rattle.fy_image.specs.declared.image.Image.{Image}
use Rattle.fy_image.specs.Machine.{IsProgramOf, start_of}
use Rattle.rv_insn.specs.declared.instructions.LoadOp.TheVariants.{Lbu}
use Rattle.rv_insn.specs.Memory.{load}
use Rattle.rv_insn.specs.Program.{Program}

-- the number of 2, of 4 and of 8 bytes at an offset
abbrev pub half_at : Bytes → ℕ → ℕ
half_at bytes offset = from_le_bytes w16 (take 2 (drop offset bytes))

abbrev pub word_at : Bytes → ℕ → ℕ
word_at bytes offset = from_le_bytes w32 (take 4 (drop offset bytes))

abbrev pub double_at : Bytes → ℕ → ℕ
double_at bytes offset = from_le_bytes w64 (take 8 (drop offset bytes))

-- a program header: p_type, p_offset, p_vaddr, p_filesz and p_memsz
pub record ProgramHeader : Type 0 where
  pub kind : ℕ
  pub offset : ℕ
  pub address : ℕ
  pub file_size : ℕ
  pub memory_size : ℕ

abbrev pub program_header_at : Bytes → ℕ → ProgramHeader
program_header_at bytes place = record {
  kind = word_at bytes place;
  offset = double_at bytes (place + 8);
  address = double_at bytes (place + 16);
  file_size = double_at bytes (place + 32);
  memory_size = double_at bytes (place + 40);
}

-- all of them, by e_phoff, e_phentsize and e_phnum
unfoldable pub program_headers_of : Bytes → List ProgramHeader
program_headers_of bytes = map (λ k. program_header_at bytes (double_at bytes 32 + k * half_at bytes 54)) (range_with_len 0 (half_at bytes 56))

-- the file's bytes from an offset on, so many, and zeros behind them
abbrev pub filled : Bytes → ℕ → ℕ → ℕ → ℕ
filled bytes offset count k = if nat_lt k count then slice_index bytes (offset + k) else 0

-- the byte that a segment loads at an address
abbrev pub loaded_by : Bytes → ProgramHeader → ℕ → Option ℕ
loaded_by bytes header address =
    if nat_eq header.kind 1 && nat_le header.address address && nat_lt address (header.address + header.memory_size)
    then Some (filled bytes header.offset header.file_size (address - header.address))
    else None

-- the first byte of two
abbrev pub or_else : Option ℕ → Option ℕ → Option ℕ
or_else None later = later
or_else (Some byte) later = Some byte

-- the byte of the first segment that loads one
abbrev pub first_loaded : Bytes → List ProgramHeader → ℕ → Option ℕ
first_loaded bytes [] address = None
first_loaded bytes (header ∷ headers) address = or_else (loaded_by bytes header address) (first_loaded bytes headers address)

-- the memory of an ELF file: the byte at each address that has one
unfoldable pub elf_memory : Bytes → ℕ → Option ℕ
elf_memory bytes address = first_loaded bytes (program_headers_of bytes) address

-- e_entry
unfoldable pub elf_entry : Bytes → ℕ
elf_entry bytes = double_at bytes 24

-- the byte that a load reads
abbrev pub byte_loaded : Result ℕ TrapKind → Option ℕ
byte_loaded (Ok byte) = Some byte
byte_loaded (Err trap) = None

-- what is loaded is what the machine of an image starts with
pub record LoadsAsStart (image : Image) (bytes : Bytes) : Type 0 where
  pub entry : elf_entry bytes ≡ (start_of image).pc
  pub memory : (program : Program) → IsProgramOf image program → (address : ℕ)
      → elf_memory bytes address ≡ byte_loaded (load program (start_of image).stack Lbu address)
