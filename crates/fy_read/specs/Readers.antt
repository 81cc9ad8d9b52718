-- How far a reader of a text has come.
use Rattle.std.specs.Prelude.{◌≡◌, ℕ, Bool, true, false, not, IsTrue, length, Option, Some, None}
use Rattle.std.specs.Option.{is_some}
use Rattle.fy_base.specs.Outside.{Bytes}
use Rattle.fy_types.specs.Words.{is_name_like}
use Rattle.fy_read.specs.declared.levels.Levels.{Levels}
use Rattle.fy_read.specs.declared.read.Awaited.{Awaited}
use Rattle.fy_read.specs.declared.read.Awaited.TheVariants as awaited
use Rattle.fy_read.specs.declared.read.Begun as declared
use Rattle.fy_read.specs.declared.read.Begun.TheVariants as variant
use Rattle.fy_read.specs.declared.read.Reader.{Reader}
use Rattle.fy_read.specs.declared.stop.Stop.{Stop}
use Rattle.fy_read.specs.declared.stop.Stop.TheVariants.{Misfit}
use Rattle.fy_read.specs.OpenLevels.{levels_of}
use Rattle.fy_read.specs.OpenTypes.{PlainLevels, TakesPart, TakesJoint}
use Rattle.fy_read.specs.Opened.{PlainNodes, nodes_of, needed, extra, AreWaiting}
use Rattle.fy_read.specs.Steps.{Reached, at, Begun, nothing, letters, digits, dash, Spot, spot, node_word}

-- the parentheses that are open
abbrev pub parens : Levels → ℕ
parens ls = length (levels_of ls).outer

abbrev pub reached_by : Awaited → PlainNodes → ℕ → Reached
reached_by awaited.Node n k = at (needed n) 0 awaited.Node
reached_by awaited.Bracket n k = at (extra n.waiting) 0 awaited.Bracket
reached_by (awaited.Count c) n k = at (extra n.waiting) 0 (awaited.Count c)
reached_by awaited.Part n k = at (extra n.waiting) k awaited.Part
reached_by awaited.Colon n k = at (extra n.waiting) k awaited.Colon
reached_by awaited.Joint n k = at (extra n.waiting) k awaited.Joint

-- where its whole pieces have come
abbrev pub reached : Reader → Reached
reached r = reached_by r.awaited (nodes_of r.nodes) (parens r.levels)

abbrev pub begun_by : declared.Begun → Bytes → Bool → Begun
begun_by variant.Nothing w loose = nothing loose
begun_by variant.Word w loose = letters w
begun_by (variant.Number n) w loose = digits n
begun_by variant.Dash w loose = dash

abbrev pub spot_of : Reader → Spot
spot_of r = spot (reached r) (begun_by r.begun r.letters.items r.is_loose)

-- the derivation isn't whole where something else than a node comes next
abbrev pub IsUnfinished : Awaited → PlainNodes → Type 0
IsUnfinished awaited.Node n = Unit {0}
IsUnfinished a n = n.whole ≡ None

-- whether a word may come next: of a node while the derivation isn't whole, or of a type
abbrev pub takes_word : Awaited → PlainNodes → Bool
takes_word awaited.Node n = not (is_some n.whole)
takes_word awaited.Part n = true
takes_word a n = false

-- where a word may come: of a node while the derivation isn't whole, or of a type, and that looks like a name
abbrev pub MayBegin : Awaited → PlainNodes → Bytes → Type 0
MayBegin awaited.Node n w = n.whole ≡ None
MayBegin awaited.Part n w = IsTrue (is_name_like w)
MayBegin a n w = ⊥

-- such a word has begun, and that of a node isn't there yet; or the first byte of `->`, where a type goes on
abbrev pub IsBegun : declared.Begun → Awaited → PlainNodes → Bytes → Bool → Type 0
IsBegun variant.Word awaited.Node n w loose = (n.whole ≡ None) × (node_word w ≡ None)
IsBegun variant.Word awaited.Part n w loose = IsTrue (is_name_like w)
IsBegun variant.Word a n w loose = ⊥
IsBegun variant.Dash awaited.Joint n w loose = loose ≡ false
IsBegun variant.Dash a n w loose = ⊥
IsBegun b a n w loose = Unit {0}

-- the levels are within the limit where a type is read
abbrev pub AreFit : Awaited → PlainLevels → Type 0
AreFit awaited.Node Ls = Unit {0}
AreFit awaited.Bracket Ls = Unit {0}
AreFit (awaited.Count c) Ls = Unit {0}
AreFit awaited.Part Ls = TakesPart Ls
AreFit awaited.Colon Ls = TakesPart Ls
AreFit awaited.Joint Ls = TakesJoint Ls

pub record AreSound (a : Awaited) (b : declared.Begun) (w : Bytes) (loose : Bool) (n : PlainNodes) (Ls : PlainLevels) : Type 0 where
  pub waiting : AreWaiting n.waiting
  pub unfinished : IsUnfinished a n
  pub levels : AreFit a Ls
  pub begun : IsBegun b a n w loose

abbrev pub IsSound : Reader → Type 0
IsSound r = AreSound r.awaited r.begun r.letters.items r.is_loose (nodes_of r.nodes) (levels_of r.levels)

-- the parts have come where the bytes lead
pub record AreLed (o : Option Spot) (a : Awaited) (b : declared.Begun) (w : Bytes) (loose : Bool) (n : PlainNodes) (Ls : PlainLevels) : Type 0 where
  pub at : o ≡ Some (spot (reached_by a n (length Ls.outer)) (begun_by b w loose))
  pub sound : AreSound a b w loose n Ls

abbrev pub IsLed : Option Spot → Reader → Type 0
IsLed o r = AreLed o r.awaited r.begun r.letters.items r.is_loose (nodes_of r.nodes) (levels_of r.levels)

-- the piece that had begun is whole, and nothing else has begun
pub record AreEnded (o : Option Reached) (a : Awaited) (b : declared.Begun) (w : Bytes) (loose : Bool) (n : PlainNodes) (Ls : PlainLevels) : Type 0 where
  pub at : o ≡ Some (reached_by a n (length Ls.outer))
  pub sound : AreSound a b w loose n Ls
  pub nothing : b ≡ variant.Nothing
  pub behind : loose ≡ true

abbrev pub IsEnded : Option Reached → Reader → Type 0
IsEnded o r = AreEnded o r.awaited r.begun r.letters.items r.is_loose (nodes_of r.nodes) (levels_of r.levels)

-- no text goes on where reading stops for a misfit
abbrev pub IsMisfit : {A : Type 0} → Option A → Stop → Type 0
IsMisfit o stop = stop ≡ Misfit → o ≡ None
