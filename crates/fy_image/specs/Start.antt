-- The memory and the pc that an image starts with.
use Rattle.std.specs.Prelude.{ℕ, ◌*◌, replicate}
use Rattle.std.specs.List.{flat_map}
use Rattle.fy_base.specs.Outside.{Bytes}
use Rattle.fy_image.specs.declared.image.Image.{Image}
use Rattle.fy_image.specs.Form.{word, double}

-- a region of memory: the address of its first byte, and its bytes
pub record Region : Type 0 where
  pub start : ℕ
  pub bytes : Bytes

-- the three regions, and where the first instruction is
pub record Memory : Type 0 where
  pub pc : ℕ
  pub code : Region
  pub table : Region
  pub stack : Region

-- the code and the table hold the image's words; every byte of the stack is 0
unfoldable pub start_memory : Image → Memory
start_memory image = record {
  pc = 65536;
  code = record { start = 65536; bytes = flat_map word image.code };
  table = record { start = 536870912; bytes = flat_map double image.table };
  stack = record { start = 1073741824; bytes = replicate (8 * image.stack_words) 0 };
}
