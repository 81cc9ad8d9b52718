-- Laws of processes.
use Rattle.std.specs.Prelude.{◌≡◌, ◌≢◌, ℕ, ◌+◌}
use Rattle.fy_base.specs.Outside.{Bytes, IsPrefix}
use Rattle.fy_image.specs.declared.image.Image.{Image}
use Rattle.rv_guard.specs.Guarded.{IsGuarded}
use Rattle.rv_insn.specs.Program.{Program}
use Rattle.fy_linux.specs.File.{IsLinuxFile}
use Rattle.fy_linux.specs.Memory.{FileLoads}
use Rattle.fy_linux.specs.Process.{Process, System, running, process_after}

-- n + m steps are n and then m
abbrev pub ProcessesSplit : Type 0
ProcessesSplit = (program : Program) (system : System) (n m : ℕ) (p : Process) → process_after program system (n + m) p ≡ process_after program system m (process_after program system n p)

-- what was written only grows
pub record Grows (before now : Process) : Type 0 where
  pub out : IsPrefix before.out now.out
  pub err : IsPrefix before.err now.err

abbrev pub ProcessesGrow : Type 0
ProcessesGrow = (program : Program) (system : System) (n m : ℕ) (p : Process) → Grows (process_after program system n p) (process_after program system (n + m) p)

-- a process that has left, or of which nothing is said, stays as it is
abbrev pub ProcessesStay : Type 0
ProcessesStay = (program : Program) (system : System) (n : ℕ) (p : Process) → p.standing ≢ running → process_after program system n p ≡ p

-- Linux makes of the file of an image what its process starts with
abbrev pub FilesLoad : Type 0
FilesLoad = (image : Image) (bytes : Bytes) (file : IsLinuxFile image bytes) → FileLoads image file.guarded.pieces bytes
