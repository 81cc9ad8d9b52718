-- How large the code of a phrase is.
use Rattle.std.specs.Prelude.{◌≡◌, ◌≤◌, length, All}
use Rattle.std.specs.Option.{ForSome}
use Rattle.fy_phrase.specs.Tree.{Tree}
use Rattle.fy_phrase.specs.Sizes.{depth}
use Rattle.fy_derive.specs.Shapes.{thunks}
use Rattle.pe_code.specs.declared.code.PeCode.{PeCode}
use Rattle.pe_code.specs.Code.{body_of}

-- it makes no frame deeper than the phrase's binders, and has a thunk node for each argument, definition and recursion
pub record HasSizesOf (p : Tree) (code : PeCode) : Type 0 where
  pub frames : All (λ item. ForSome (body_of item.insn) (λ body. item.depth ≤ depth p)) code.items
  pub thunk_nodes : length code.thunks ≡ thunks p
