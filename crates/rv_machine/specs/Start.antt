-- The machine of an image, which selection and the audit of images speak of too: see the crate of images.
pub use Rattle.fy_image.specs.Machine.{IsProgramOf, start_regs, machine_after}
unfoldable pub use Rattle.fy_image.specs.Machine.{start_of}
