-- The nodes of a derivation that is read, as far as they are begun: what they wait for, and what becomes of them.
use Rattle.std.specs.Prelude.{◌≡◌, ℕ, suc, ◌+◌, ◌-◌, ◌<◌, ◌≤◌, nat_lt, if◌then◌else◌, List, [], ◌∷◌, map, reverse, Option, Some, None}
use Rattle.std.specs.Option.{option_map}
use Rattle.fy_types.specs.Types.{PlainType}
use Rattle.fy_types.specs.Reading.{plain_type}
use Rattle.fy_read.specs.declared.nodes.Given.{Given}
use Rattle.fy_read.specs.declared.nodes.Given.TheVariants.{Whole, Waiting}
use Rattle.fy_read.specs.declared.nodes.Nodes.{Nodes}
use Rattle.fy_read.specs.declared.nodes.Open.{Open}
use Rattle.fy_read.specs.declared.nodes.Open.TheVariants.{Sub, Alt, Left, Right, Meet, Rule}
use Rattle.fy_read.specs.declared.stop.Stop.{Stop}
use Rattle.fy_read.specs.declared.stop.Stop.TheVariants.{Misfit, TooLarge, TooDeep, OutOfMemory}
use Rattle.fy_derive.specs.Derivations.{PlainDerivation, PlainDerivations, sub, meets, alt, left, right, rule, no_derivations, and_derivation, count, most_nodes, most_nesting}
use Rattle.fy_derive.specs.Reading.{plain_derivation, plain_derivations}

-- a node that waits for derivations; a meet, or a rule, of so many has those that came
pub data PlainOpen : Type 0 where
  in_sub : PlainType → PlainOpen
  in_alt : ℕ → PlainOpen
  in_left : PlainOpen
  in_right : PlainOpen
  in_meet : ℕ → PlainDerivations → PlainOpen
  in_rule : ℕ → PlainDerivations → PlainOpen

abbrev pub plain_open : Open → PlainOpen
plain_open (Sub T) = in_sub (plain_type T)
plain_open (Alt i) = in_alt i
plain_open Left = in_left
plain_open Right = in_right
plain_open (Meet n ds) = in_meet n (plain_derivations ds)
plain_open (Rule n ds) = in_rule n (plain_derivations ds)

-- a derivation added last
abbrev pub added : PlainDerivations → PlainDerivation → PlainDerivations
added no_derivations d = and_derivation d no_derivations
added (and_derivation e ds) d = and_derivation e (added ds d)

-- what becomes of a node that is given a derivation: it is whole, or waits for more
pub data PlainGiven : Type 0 where
  is_whole : PlainDerivation → PlainGiven
  is_waiting : PlainOpen → PlainGiven

abbrev pub plain_given : Given → PlainGiven
plain_given (Whole d) = is_whole (plain_derivation d)
plain_given (Waiting o) = is_waiting (plain_open o)

abbrev pub filled : PlainOpen → PlainDerivation → PlainGiven
filled (in_sub T) d = is_whole (sub T d)
filled (in_alt i) d = is_whole (alt i d)
filled in_left d = is_whole (left d)
filled in_right d = is_whole (right d)
filled (in_meet n ds) d = if nat_lt (count (added ds d)) n then is_waiting (in_meet n (added ds d)) else is_whole (meets (added ds d))
filled (in_rule n ds) d = if nat_lt (count (added ds d)) n then is_waiting (in_rule n (added ds d)) else is_whole (rule (added ds d))

-- the nodes that wait, the innermost first, and the whole once it is there
pub record PlainNodes : Type 0 where
  pub waiting : List PlainOpen
  pub whole : Option PlainDerivation

abbrev pub nodes_of : Nodes → PlainNodes
nodes_of n = record { waiting = reverse (map plain_open n.waiting.items); whole = option_map plain_derivation n.whole }

-- with one more node that waits
abbrev pub with_node : PlainOpen → PlainNodes → PlainNodes
with_node o n = record { waiting = o ∷ n.waiting; whole = n.whole }

-- a derivation goes to the node that waits for it, and each whole one that comes of it to the next
abbrev pub given_on : PlainGiven → List PlainOpen → (PlainDerivation → PlainNodes) → PlainNodes
given_on (is_whole e) os next = next e
given_on (is_waiting o) os next = record { waiting = o ∷ os; whole = None }

abbrev pub given : List PlainOpen → PlainDerivation → PlainNodes
given [] d = record { waiting = []; whole = Some d }
given (o ∷ os) d = given_on (filled o d) os (given os)

-- the limit that one more node passes, the number of nodes before their nesting
abbrev pub PassesCount : ℕ → ℕ → Stop → Type 0
PassesCount count depth TooLarge = most_nodes ≤ count
PassesCount count depth TooDeep = (count < most_nodes) × (most_nesting ≤ depth)
PassesCount count depth Misfit = ⊥
PassesCount count depth OutOfMemory = ⊥

-- the derivations that the node misses
abbrev pub missing : PlainOpen → ℕ
missing (in_sub T) = 1
missing (in_alt i) = 1
missing in_left = 1
missing in_right = 1
missing (in_meet n ds) = n - count ds
missing (in_rule n ds) = n - count ds

-- the derivations that are needed beside the next one
abbrev pub extra : List PlainOpen → ℕ
extra [] = 0
extra (o ∷ os) = (missing o - 1) + extra os

abbrev pub needed_by : Option PlainDerivation → List PlainOpen → ℕ
needed_by (Some d) os = 0
needed_by None os = suc (extra os)

-- the derivations that are needed
abbrev pub needed : PlainNodes → ℕ
needed n = needed_by n.whole n.waiting

-- each of the nodes misses a derivation
abbrev pub AreWaiting : List PlainOpen → Type 0
AreWaiting [] = Unit {0}
AreWaiting (o ∷ os) = (0 < missing o) × AreWaiting os

-- derivations one behind the other
abbrev pub joined : PlainDerivations → PlainDerivations → PlainDerivations
joined no_derivations es = es
joined (and_derivation d ds) es = and_derivation d (joined ds es)

-- with the first of these derivations the node becomes this one, before the rest
pub data Fills : PlainOpen → PlainDerivations → PlainDerivation → PlainDerivations → Type 0 where
  a_sub : {T : PlainType} {d : PlainDerivation} {rest : PlainDerivations} → Fills (in_sub T) (and_derivation d rest) (sub T d) rest
  an_alt : {i : ℕ} {d : PlainDerivation} {rest : PlainDerivations} → Fills (in_alt i) (and_derivation d rest) (alt i d) rest
  a_left : {d : PlainDerivation} {rest : PlainDerivations} → Fills in_left (and_derivation d rest) (left d) rest
  a_right : {d : PlainDerivation} {rest : PlainDerivations} → Fills in_right (and_derivation d rest) (right d) rest
  a_meet : {n : ℕ} {ds rest : PlainDerivations} (more : PlainDerivations) → count (joined ds more) ≡ n →
      Fills (in_meet n ds) (joined more rest) (meets (joined ds more)) rest
  a_rule : {n : ℕ} {ds rest : PlainDerivations} (more : PlainDerivations) → count (joined ds more) ≡ n →
      Fills (in_rule n ds) (joined more rest) (rule (joined ds more)) rest

-- with these derivations, which are still to come, the nodes become this one
pub data Closes : List PlainOpen → PlainDerivations → PlainDerivation → Type 0 where
  no_node : {d : PlainDerivation} → Closes [] (and_derivation d no_derivations) d
  a_node : {o : PlainOpen} {os : List PlainOpen} {ds rest : PlainDerivations} {e d : PlainDerivation} →
      Fills o ds e rest → Closes os (and_derivation e rest) d → Closes (o ∷ os) ds d

abbrev pub BecomesBy : Option PlainDerivation → List PlainOpen → PlainDerivations → PlainDerivation → Type 0
BecomesBy (Some e) os ds d = (ds ≡ no_derivations) × (d ≡ e)
BecomesBy None os ds d = Closes os ds d

abbrev pub Becomes : PlainNodes → PlainDerivations → PlainDerivation → Type 0
Becomes n ds d = BecomesBy n.whole n.waiting ds d
