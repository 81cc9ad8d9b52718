-- What a reader has read of a text: pieces, and the beginning of one.
use Rattle.std.specs.Prelude.{◌≡◌, ℕ, Bool, false, List, [], ◌∷◌, ◌++◌, decimal}
use Rattle.fy_base.specs.Outside.{Bytes}
use Rattle.fy_read.specs.declared.read.Begun.TheVariants as variant
use Rattle.fy_read.specs.declared.read.Reader.{Reader}
use Rattle.fy_read.specs.Halfway.{Holds}
use Rattle.fy_read.specs.OpenLevels.{levels_of}
use Rattle.fy_read.specs.Opened.{nodes_of}

-- the text is that of the pieces that its nodes and its levels stand for
abbrev pub HoldsAt : List Bytes → Bytes → Bool → Reader → Type 0
HoldsAt names text loose r = Holds r.nodes.count names text loose r.awaited (nodes_of r.nodes) (levels_of r.levels)

-- whether the last piece is a word or a number or not
pub record HoldsSomehow (names : List Bytes) (text : Bytes) (r : Reader) : Type 0 where
  pub loose : Bool
  pub holds : HoldsAt names text loose r

-- and these bytes of a word or a number behind it
pub record HoldsBefore (names : List Bytes) (text part : Bytes) (r : Reader) : Type 0 where
  pub done : Bytes
  pub is : text ≡ done ++ part
  pub holds : HoldsAt names done false r

-- and the first byte of `->` behind it
pub record HoldsDash (names : List Bytes) (text : Bytes) (r : Reader) : Type 0 where
  pub done : Bytes
  pub loose : Bool
  pub is : text ≡ done ++ 45 ∷ []
  pub holds : HoldsAt names done loose r

-- the reader has read this text
pub data IsRead (names : List Bytes) (text : Bytes) (r : Reader) : Type 0 where
  at_piece : r.begun ≡ variant.Nothing → HoldsAt names text r.is_loose r → IsRead names text r
  in_word : r.begun ≡ variant.Word → HoldsBefore names text r.letters.items r → IsRead names text r
  in_number : (n : ℕ) → r.begun ≡ variant.Number n → HoldsBefore names text (decimal n) r → IsRead names text r
  in_dash : r.begun ≡ variant.Dash → HoldsDash names text r → IsRead names text r

-- the reader has read these bytes behind what it had read before
abbrev pub Reads : List Bytes → List Bytes → Bytes → Reader → Reader → Type 0
Reads names later bytes old r = (text : Bytes) → IsRead names text old → IsRead later (text ++ bytes) r

-- the same under any names, where nothing had begun, behind a word or a number or not
abbrev pub ReadsOn : Bool → Bytes → Reader → Reader → Type 0
ReadsOn loose bytes old r = (names : List Bytes) (text : Bytes) → HoldsAt names text loose old → IsRead names (text ++ bytes) r

-- the reader has taken this word whole
abbrev pub ReadsWord : Bytes → Reader → Reader → Type 0
ReadsWord w old r = (names : List Bytes) (text : Bytes) → HoldsBefore names text w old → IsRead names text r
