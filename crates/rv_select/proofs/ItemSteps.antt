-- The word machine makes a step of the machine of items.
use Rattle.std.proofs.Common.{◌≡◌, ℕ, ◌+◌, ◌*◌, ◌<◌, ◌++◌, length, drop}
use Rattle.std.specs.Prelude.{slice_get}
use Rattle.fy_base.specs.Outside.{Bytes}
use Rattle.rv_insn.specs.declared.events.Event.TheVariants as event
use Rattle.pe_code.specs.declared.code.PeCode.{PeCode}
use Rattle.pe_items.specs.Items.{address_on, ItemState}
use Rattle.pe_items.specs.Step as item
use Rattle.pe_items.specs.Step.{ItemMove}
use Rattle.rv_word.specs.Word.{Data, Code, State, Led, goes, hangs, stops, wrong}
use Rattle.rv_word.specs.Laws.{WordOutputGrows}
use Rattle.rv_runtime.specs.Laws as runtime
use Rattle.rv_operators.specs.Laws as operators
use Rattle.rv_straight.specs.Laws.{StraightCodeWorks}
use Rattle.rv_select.specs.Layout.{Stands}

-- what is proved of the routines and the operators
pub record Helpers : Type 0 where
  pub exhausts : runtime.ExhaustionIsTold
  pub puts_ints : runtime.IntsArePut
  pub puts_truths : runtime.TruthsArePut
  pub makes_frames : runtime.FramesAreMade
  pub unary : operators.UnaryOperatorsWork
  pub binary : operators.BinaryOperatorsWork
  pub unary_fits : operators.UnaryResultsFit
  pub binary_fits : operators.BinaryResultsFit
  pub straight : StraightCodeWorks
  pub grows : WordOutputGrows

-- a state that stands for one of items, with this input left, this output and so many words
pub record IsAt (code : PeCode) (w : Code) (s : ItemState) (input output : Bytes) (size : ℕ) (t : State) : Type 0 where
  pub stands : Stands code w s t
  pub input_is : t.held.input ≡ input
  pub output_is : t.held.output ≡ output
  pub size_is : length t.held.words ≡ size

-- the items and the foot have more words than there are
pub record IsTooMuch (s : ItemState) (output : Bytes) (size : ℕ) (e : Data) : Type 0 where
  pub output_is : e.output ≡ output
  pub past : size < address_on s.items

abbrev pub ComesTo : PeCode → Code → ItemState → Bytes → Bytes → ℕ → Led → Type 0
ComesTo code w s input output size (goes t) = IsAt code w s input output size t
ComesTo code w s input output size (hangs e) = ⊥
ComesTo code w s input output size (stops event.Exhausted e) = IsTooMuch s output size e
ComesTo code w s input output size (stops _ e) = ⊥
ComesTo code w s input output size wrong = ⊥

-- the run has ended so
pub record EndsAs (input output : Bytes) (e : Data) : Type 0 where
  pub input_is : e.input ≡ input
  pub output_is : e.output ≡ output

-- from data before a step: where nothing is defined, nothing is said
abbrev pub Follows : PeCode → Code → Data → ItemMove → Led → Type 0
Follows code w e (item.goes s) led = ComesTo code w s e.input e.output (length e.words) led
Follows code w e (item.puts text s) led = ComesTo code w s e.input (e.output ++ text) (length e.words) led
Follows code w e (item.takes go) led = ComesTo code w (go (slice_get e.input 0)) (drop 1 e.input) e.output (length e.words) led
Follows code w e (item.faults kind at) led = (d : Data) × (led ≡ stops (event.Fault kind at) d) × EndsAs e.input e.output d
Follows code w e item.sticks led = Unit {0}

-- what a step costs at most, where frames are of such depth
abbrev pub step_cost : ℕ → ℕ
step_cost deepest = 900 + 16 * deepest
