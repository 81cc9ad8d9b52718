-- What a refusal is as one of bytes or of linking.
use Rattle.fy_read.specs.declared.error.ReadError.{ReadError}
use Rattle.fy_read.specs.declared.error.ReadError.TheVariants as read
use Rattle.fy_front.specs.declared.error.FrontError.{FrontError}
use Rattle.fy_front.specs.declared.error.FrontError.TheVariants as front
use Rattle.fy_link.specs.declared.error.UnitReadError.{UnitReadError}
use Rattle.fy_link.specs.declared.error.UnitReadError.TheVariants as unread
use Rattle.fy_link.specs.declared.error.LinkError.{LinkError}
use Rattle.fy_link.specs.declared.error.LinkError.TheVariants as unlinked

-- of the joined text
abbrev pub link_of_text : FrontError → LinkError
link_of_text (front.Refused why) = unlinked.Text why
link_of_text front.OutOfMemory = unlinked.OutOfMemory

-- of the source in bytes that are read as a unit
abbrev pub of_source : FrontError → UnitReadError
of_source (front.Refused why) = unread.BadUnit
of_source front.OutOfMemory = unread.OutOfMemory

-- of the text of a derivation there
abbrev pub of_text : ReadError → UnitReadError
of_text read.OutOfMemory = unread.OutOfMemory
of_text e = unread.BadUnit
