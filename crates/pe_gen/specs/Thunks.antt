-- What a form makes a thunk of.
use Rattle.std.specs.Prelude.{Option, Some, None}
use Rattle.fy_phrase.specs.Tree.{Tree, app, let_in, rec}
use Rattle.pe_gen.specs.declared.thunks.ThunkOf.{ThunkOf}
use Rattle.pe_gen.specs.declared.thunks.ThunkOf.TheVariants.{Argument, Definition, Itself}

abbrev pub thunk_of : Tree → Option ThunkOf
thunk_of (app p q at) = Some Argument
thunk_of (let_in d p b at) = Some Definition
thunk_of (rec d T b at) = Some Itself
thunk_of p = None
