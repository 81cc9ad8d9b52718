-- Which items and entries the code of a phrase has, and in which order.
use Rattle.std.specs.Prelude.{ℕ, ◌<◌, ◌≤◌, ◌≡◌, false, length, Some}
use Rattle.fy_phrase.specs.declared.shapes.Pair.{Pair}
use Rattle.fy_phrase.specs.Tree.{Tree}
use Rattle.pe_code.specs.declared.code.PeCode.{PeCode}
use Rattle.pe_code.specs.Code.{entry_of}
use Rattle.pe_code.specs.Entries.{AreInOrder}
use Rattle.pe_right.specs.Right.{IsNodeUnder}
use Rattle.pe_gen.specs.Sites.{is_merge, IsBefore}

-- the address is a pair's own: its node is no merge, and is entered there at its shape
pub record IsOwn (p : Tree) (code : PeCode) (x : Pair) (a : ℕ) : Type 0 where
  pub depth : ℕ
  pub form : Tree
  pub node : IsNodeUnder 0 0 p depth x.node form
  pub whole : is_merge form ≡ false
  pub entered : entry_of code x.node x.shape ≡ Some a

-- there is an item for each pair whose node is no merge, and no other item; behind the program's, which is item 0, they are in order of node and shape, as all entries are
pub record IsLaidOut (p : Tree) (code : PeCode) : Type 0 where
  pub each : (a : ℕ) → a < length code.items → (x : Pair) × IsOwn p code x a
  pub one : (a : ℕ) (x y : Pair) → IsOwn p code x a → IsOwn p code y a → x ≡ y
  pub order : (a b : ℕ) (x y : Pair) → 1 ≤ a → a < b → IsOwn p code x a → IsOwn p code y b → IsBefore x y
  pub entries : AreInOrder code.entries
