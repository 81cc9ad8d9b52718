-- Runs of the machine on an input: those of the instructions' own definitions, from a machine that goes on.
pub use Rattle.rv_insn.specs.Run.{World, tick, run}
pub use Rattle.fy_image.specs.Machine.{going_world}
