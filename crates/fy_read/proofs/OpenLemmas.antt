-- A derivation that is given to the nodes that wait.
use Rattle.std.proofs.Common.{◌≡◌, ℕ, ◌+◌, ◌-◌, ◌<◌, Bool, true, false, List, [], ◌∷◌, refl, ap, sym, ◌∙◌, subst, arith, ltb-true, ltb-false}
use Rattle.std.specs.Prelude.{if◌then◌else◌, nat_lt}
use Rattle.fy_derive.specs.Derivations.{PlainDerivation, PlainDerivations, sub, meets, alt, left, right, rule, no_derivations, and_derivation, count}
use Rattle.fy_read.specs.Opened.{PlainOpen, in_sub, in_alt, in_left, in_right, in_meet, in_rule, added, is_whole, is_waiting, PlainNodes, given_on, given, missing, extra, needed, AreWaiting, joined, Fills, a_sub, an_alt, a_left, a_right, a_meet, a_rule, Closes, no_node, a_node, Becomes}

pub count-added : (ds : PlainDerivations) (d : PlainDerivation) → count (added ds d) ≡ count ds + 1
count-added no_derivations d = refl
count-added (and_derivation e ds) d = omega (arith, count-added ds d)

pub joined-added : (ds : PlainDerivations) (d : PlainDerivation) (es : PlainDerivations) → joined (added ds d) es ≡ joined ds (and_derivation d es)
joined-added no_derivations d es = refl
joined-added (and_derivation e ds) d es = ap (and_derivation e) (joined-added ds d es)

pub joined-one : (ds : PlainDerivations) (d : PlainDerivation) → joined ds (and_derivation d no_derivations) ≡ added ds d
joined-one no_derivations d = refl
joined-one (and_derivation e ds) d = ap (and_derivation e) (joined-one ds d)

-- with one more member a meet and a rule wait as before
meet_fills : {n : ℕ} {ms ds rest : PlainDerivations} {d e : PlainDerivation} → Fills (in_meet n (added ms d)) ds e rest →
    Fills (in_meet n ms) (and_derivation d ds) e rest
meet_fills {n = n} {ms = ms} {d = d} (a_meet {rest = rest} more many) =
    subst (λ es. Fills (in_meet n ms) (and_derivation d (joined more rest)) (meets es) rest) (sym (joined-added ms d more))
    (a_meet (and_derivation d more) (ap count (sym (joined-added ms d more)) ∙ many))

rule_fills : {n : ℕ} {ms ds rest : PlainDerivations} {d e : PlainDerivation} → Fills (in_rule n (added ms d)) ds e rest →
    Fills (in_rule n ms) (and_derivation d ds) e rest
rule_fills {n = n} {ms = ms} {d = d} (a_rule {rest = rest} more many) =
    subst (λ es. Fills (in_rule n ms) (and_derivation d (joined more rest)) (rule es) rest) (sym (joined-added ms d more))
    (a_rule (and_derivation d more) (ap count (sym (joined-added ms d more)) ∙ many))

last_member : (n : ℕ) (ms : PlainDerivations) (d : PlainDerivation) → 0 < n - count ms → nat_lt (count (added ms d)) n ≡ false →
    count (joined ms (and_derivation d no_derivations)) ≡ n
last_member n ms d waits full = ap count (joined-one ms d) ∙ omega (arith, count-added ms d, waits, ltb-false _ _ full)

-- what a filled node becomes, closed over the others
GivenCloses : List PlainOpen → Type 0
GivenCloses os = (e : PlainDerivation) (ds : PlainDerivations) (d : PlainDerivation) → Becomes (given os e) ds d → Closes os (and_derivation e ds) d

meet_closes : (n : ℕ) (ms : PlainDerivations) (os : List PlainOpen) (c : PlainDerivation) (ds : PlainDerivations) (d : PlainDerivation) →
    GivenCloses os →
    0 < n - count ms → (b : Bool) → nat_lt (count (added ms c)) n ≡ b →
    Becomes (given_on (if b then is_waiting (in_meet n (added ms c)) else is_whole (meets (added ms c))) os (given os)) ds d →
    Closes (in_meet n ms ∷ os) (and_derivation c ds) d
unfolding GivenCloses
meet_closes n ms os c ds d ih waits true e (a_node fills closes) = a_node (meet_fills fills) closes
meet_closes n ms os c ds d ih waits false e h =
    a_node (a_meet {ds = ms} {rest = ds} (and_derivation c no_derivations) (last_member n ms c waits e))
    (subst (λ es. Closes os (and_derivation (meets es) ds) d) (sym (joined-one ms c)) (ih (meets (added ms c)) ds d h))

rule_closes : (n : ℕ) (ms : PlainDerivations) (os : List PlainOpen) (c : PlainDerivation) (ds : PlainDerivations) (d : PlainDerivation) →
    GivenCloses os →
    0 < n - count ms → (b : Bool) → nat_lt (count (added ms c)) n ≡ b →
    Becomes (given_on (if b then is_waiting (in_rule n (added ms c)) else is_whole (rule (added ms c))) os (given os)) ds d →
    Closes (in_rule n ms ∷ os) (and_derivation c ds) d
unfolding GivenCloses
rule_closes n ms os c ds d ih waits true e (a_node fills closes) = a_node (rule_fills fills) closes
rule_closes n ms os c ds d ih waits false e h =
    a_node (a_rule {ds = ms} {rest = ds} (and_derivation c no_derivations) (last_member n ms c waits e))
    (subst (λ es. Closes os (and_derivation (rule es) ds) d) (sym (joined-one ms c)) (ih (rule (added ms c)) ds d h))

-- what the nodes become after they are given a derivation, they become with it
pub given_closes : (os : List PlainOpen) → AreWaiting os → (e : PlainDerivation) (ds : PlainDerivations) (d : PlainDerivation) →
    Becomes (given os e) ds d → Closes os (and_derivation e ds) d
unfolding GivenCloses
given_closes [] waits e ds d h =
    subst (λ ds. Closes [] (and_derivation e ds) d) (sym h.0) (subst (λ d. Closes [] (and_derivation e no_derivations) d) (sym h.1) no_node)
given_closes (in_sub T ∷ os) waits e ds d h = a_node a_sub (given_closes os waits.1 (sub T e) ds d h)
given_closes (in_alt i ∷ os) waits e ds d h = a_node an_alt (given_closes os waits.1 (alt i e) ds d h)
given_closes (in_left ∷ os) waits e ds d h = a_node a_left (given_closes os waits.1 (left e) ds d h)
given_closes (in_right ∷ os) waits e ds d h = a_node a_right (given_closes os waits.1 (right e) ds d h)
given_closes (in_meet n ms ∷ os) waits e ds d h = meet_closes n ms os e ds d (given_closes os waits.1) waits.0 _ refl h
given_closes (in_rule n ms ∷ os) waits e ds d h = rule_closes n ms os e ds d (given_closes os waits.1) waits.0 _ refl h

-- the nodes need one derivation fewer, and wait still
Given : List PlainOpen → PlainNodes → Type 0
Given os n = (needed n ≡ extra os) × AreWaiting n.waiting

list_needed : (n : ℕ) (ms : PlainDerivations) (o : PlainOpen) (w : PlainDerivation) (os : List PlainOpen) (c : PlainDerivation) →
    ((e : PlainDerivation) → Given os (given os e)) → AreWaiting os → missing o ≡ n - count (added ms c) → 0 < n - count ms → (b : Bool) →
    nat_lt (count (added ms c)) n ≡ b →
    (needed (given_on (if b then is_waiting o else is_whole w) os (given os)) ≡ (n - count ms - 1) + extra os)
    × AreWaiting (given_on (if b then is_waiting o else is_whole w) os (given os)).waiting
unfolding Given
list_needed n ms o w os c ih all many waits true e =
    let less = ltb-true _ _ e in
    (omega (arith, many, count-added ms c, waits, less), (omega (arith, many, less), all))
list_needed n ms o w os c ih all many waits false e =
    let t = ih w in
    (omega (arith, t.0, count-added ms c, waits, ltb-false _ _ e), t.1)

pub given_needed : (os : List PlainOpen) → AreWaiting os → (e : PlainDerivation) → (needed (given os e) ≡ extra os) × AreWaiting (given os e).waiting
unfolding Given
given_needed [] waits e = (refl, tt)
given_needed (in_sub T ∷ os) waits e = let t = given_needed os waits.1 (sub T e) in (omega (arith, t.0), t.1)
given_needed (in_alt i ∷ os) waits e = let t = given_needed os waits.1 (alt i e) in (omega (arith, t.0), t.1)
given_needed (in_left ∷ os) waits e = let t = given_needed os waits.1 (left e) in (omega (arith, t.0), t.1)
given_needed (in_right ∷ os) waits e = let t = given_needed os waits.1 (right e) in (omega (arith, t.0), t.1)
given_needed (in_meet n ms ∷ os) waits e =
    list_needed n ms (in_meet n (added ms e)) (meets (added ms e)) os e (given_needed os waits.1) waits.1 refl waits.0 _ refl
given_needed (in_rule n ms ∷ os) waits e =
    list_needed n ms (in_rule n (added ms e)) (rule (added ms e)) os e (given_needed os waits.1) waits.1 refl waits.0 _ refl
