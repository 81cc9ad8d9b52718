-- The pieces of a derivation, as far as they are read, spell what its nodes become.
use Rattle.std.proofs.Common.{ℕ, ◌<◌, ◌≤◌, ◌^◌, List, [], ◌∷◌, ◌++◌, codes, refl, sym, subst, append_assoc, arith}
use Rattle.std.specs.Prelude.{Some, None}
use Rattle.std.proofs.lemmas.List.{append-nil}
use Rattle.fy_base.specs.Outside.{Bytes}
use Rattle.fy_lexer.specs.Tokens.{HasAdded}
use Rattle.fy_types.specs.Types.{PlainType}
use Rattle.fy_derive.specs.Derivations.{PlainDerivation, PlainDerivations, no_derivations, and_derivation, count}
use Rattle.fy_derive.specs.Derivations as plain
use Rattle.fy_read.specs.Halfway.{NodesRead}
use Rattle.fy_read.specs.Opened.{PlainOpen, in_sub, in_alt, in_left, in_right, in_meet, in_rule, PlainNodes, given, AreWaiting, joined, Fills, Closes, no_node, a_node, Becomes}
use Rattle.fy_read.specs.Opened as fills
use Rattle.fy_read.specs.Spelling.{Piece, word, number, sign, Sign, TypeLevel, SpellsType, SpellsDerivation, a_ns, a_sub, a_meet, an_alt, a_left, a_right, a_rule, SpellsDerivations, none, and_one}
use Rattle.fy_read.proofs.OpenLemmas.{given_closes}

-- the nodes, and that none is whole
abbrev pub opened : List PlainOpen → PlainNodes
opened os = record { waiting = os; whole = None }

only_one : {names : List Bytes} {d : PlainDerivation} {ts m : List Piece} → SpellsDerivation names d ts m →
    SpellsDerivations names no_derivations m [] → SpellsDerivation names d ts []
only_one one none = one

only : {names : List Bytes} {d : PlainDerivation} {ts : List Piece} → SpellsDerivations names (and_derivation d no_derivations) ts [] →
    SpellsDerivation names d ts []
only (and_one one rest) = only_one one rest

pub read_nothing : (names : List Bytes) → NodesRead names (opened []) []
read_nothing names = record { goes_on = go } where
  go : (later : List Bytes) → HasAdded names later → (ds : PlainDerivations) (d : PlainDerivation) (ts : List Piece) →
      Closes [] ds d → SpellsDerivations later ds ts [] → SpellsDerivation later d ts []
  go later more ds d ts no_node s = only s

-- more pieces, where they turn what is still to come into what was to come before
read_more : {names : List Bytes} {n m : PlainNodes} {ps : List Piece} (qs : List Piece) →
    ((later : List Bytes) → HasAdded names later → (ds : PlainDerivations) (d : PlainDerivation)
    (ts : List Piece) → Becomes m ds d → SpellsDerivations later ds ts [] →
    (es : PlainDerivations) × Becomes n es d × SpellsDerivations later es (qs ++ ts) []) →
    NodesRead names n ps → NodesRead names m (ps ++ qs)
read_more {ps = ps} qs turn read = record {
  goes_on = λ later more ds d ts becomes s.
      let t = turn later more ds d ts becomes s in
      subst (λ us. SpellsDerivation later d us []) (sym (append_assoc ps qs ts)) (read.goes_on later more t.0 d (qs ++ ts) t.1 t.2);
}

pub read_ns : {names : List Bytes} {ps : List Piece} (os : List PlainOpen) → AreWaiting os → NodesRead names (opened os) ps →
    NodesRead names (given os plain.by_ns) (ps ++ word (codes "ns") ∷ [])
read_ns os waiting read = read_more (word (codes "ns") ∷ [])
    (λ later more ds d ts becomes s. (and_derivation plain.by_ns ds, given_closes os waiting plain.by_ns ds d becomes, and_one a_ns s)) read

pub read_no_premise : {names : List Bytes} {ps : List Piece} (os : List PlainOpen) → AreWaiting os → NodesRead names (opened os) ps →
    NodesRead names (given os (plain.rule no_derivations)) (ps ++ word (codes "rule") ∷ number 0 ∷ [])
read_no_premise os waiting read = read_more (word (codes "rule") ∷ number 0 ∷ [])
    (λ later more ds d ts becomes s. (
      and_derivation (plain.rule no_derivations) ds,
      given_closes os waiting (plain.rule no_derivations) ds d becomes,
      and_one
          (a_rule {ds = no_derivations} (omega arith) none) s,
    )) read

left_turns : {names : List Bytes} {os : List PlainOpen} (ds : PlainDerivations) (d : PlainDerivation) (ts : List Piece) → Closes (in_left ∷ os) ds d →
    SpellsDerivations names ds ts [] →
    (es : PlainDerivations) × Closes os es d × SpellsDerivations names es (word (codes "left") ∷ ts) []
left_turns ds d ts (a_node (fills.a_left {d = c} {rest = rest}) closes) (and_one one all) =
    (and_derivation (plain.left c) rest, closes, and_one (a_left one) all)

pub read_left : {names : List Bytes} {ps : List Piece} (os : List PlainOpen) → NodesRead names (opened os) ps →
    NodesRead names (opened (in_left ∷ os)) (ps ++ word (codes "left") ∷ [])
read_left os read = read_more (word (codes "left") ∷ []) (λ later more ds d ts becomes s. left_turns ds d ts becomes s) read

right_turns : {names : List Bytes} {os : List PlainOpen} (ds : PlainDerivations) (d : PlainDerivation) (ts : List Piece) →
    Closes (in_right ∷ os) ds d → SpellsDerivations names ds ts [] →
    (es : PlainDerivations) × Closes os es d × SpellsDerivations names es (word (codes "right") ∷ ts) []
right_turns ds d ts (a_node (fills.a_right {d = c} {rest = rest}) closes) (and_one one all) =
    (and_derivation (plain.right c) rest, closes, and_one (a_right one) all)

pub read_right : {names : List Bytes} {ps : List Piece} (os : List PlainOpen) → NodesRead names (opened os) ps →
    NodesRead names (opened (in_right ∷ os)) (ps ++ word (codes "right") ∷ [])
read_right os read = read_more (word (codes "right") ∷ []) (λ later more ds d ts becomes s. right_turns ds d ts becomes s) read

alt_turns : {names : List Bytes} {os : List PlainOpen} (i : ℕ) → i < 2 ^ 32 → (ds : PlainDerivations) (d : PlainDerivation) (ts : List Piece) →
    Closes (in_alt i ∷ os) ds d →
    SpellsDerivations names ds ts [] → (es : PlainDerivations) × Closes os es d × SpellsDerivations names es (word (codes "alt") ∷ number i ∷ ts) []
alt_turns i small ds d ts (a_node (fills.an_alt {d = c} {rest = rest}) closes) (and_one one all) =
    (and_derivation (plain.alt i c) rest, closes, and_one (an_alt small one) all)

pub read_alt : {names : List Bytes} {ps : List Piece} (os : List PlainOpen) (i : ℕ) → i < 2 ^ 32 → NodesRead names (opened os) ps →
    NodesRead names (opened (in_alt i ∷ os)) (ps ++ word (codes "alt") ∷ number i ∷ [])
read_alt os i small read = read_more (word (codes "alt") ∷ number i ∷ []) (λ later more ds d ts becomes s. alt_turns i small ds d ts becomes s) read

sub_turns : {names : List Bytes} {os : List PlainOpen} (T : PlainType) (us : List Piece) →
    ((ts : List Piece) → SpellsType names TypeLevel.type T (us ++ sign Sign.close_bracket ∷ ts) (sign Sign.close_bracket ∷ ts)) →
    (ds : PlainDerivations) (d : PlainDerivation) (ts : List Piece) → Closes (in_sub T ∷ os) ds d → SpellsDerivations names ds ts [] →
    (es : PlainDerivations) × Closes os es d × SpellsDerivations names es
    (word (codes "sub") ∷ sign Sign.open_bracket ∷ (us ++ sign Sign.close_bracket ∷ ts)) []
sub_turns T us type ds d ts (a_node (fills.a_sub {d = c} {rest = rest}) closes) (and_one one all) =
    (and_derivation (plain.sub T c) rest, closes, and_one (a_sub (type ts) one) all)

-- derivations that follow each other are spelled one behind the other
joined_spelled : {names : List Bytes} {rest : PlainDerivations} (more : PlainDerivations) (ts : List Piece) →
    SpellsDerivations names (joined more rest) ts [] →
    (m : List Piece) × SpellsDerivations names more ts m × SpellsDerivations names rest m []
joined_spelled no_derivations ts s = (ts, none, s)
joined_spelled (and_derivation d more) ts (and_one {m = m} one all) = let t = joined_spelled more m all in (t.0, and_one one t.1, t.2)

meet_turns : {names : List Bytes} {os : List PlainOpen} (n : ℕ) → 2 ≤ n → n ≤ 65536 →
    (ds : PlainDerivations) (d : PlainDerivation) (ts : List Piece) →
    Closes (in_meet n no_derivations ∷ os) ds d → SpellsDerivations names ds ts [] →
    (es : PlainDerivations) × Closes os es d × SpellsDerivations names es (word (codes "meet") ∷ number n ∷ ts) []
meet_turns {names = names} n low high ds d ts (a_node (fills.a_meet {rest = rest} more many) closes) s =
    let t = joined_spelled more ts s in (
      and_derivation (plain.meets more) rest,
      closes,
      subst (λ k. SpellsDerivations names (and_derivation (plain.meets more) rest) (word (codes "meet") ∷ number k ∷ ts) []) many
          (and_one (a_meet (omega (arith, low, many)) (omega (arith, high, many)) t.1) t.2),
    )

pub read_meet : {names : List Bytes} {ps : List Piece} (os : List PlainOpen) (n : ℕ) → 2 ≤ n → n ≤ 65536 → NodesRead names (opened os) ps →
    NodesRead names (opened (in_meet n no_derivations ∷ os)) (ps ++ word (codes "meet") ∷ number n ∷ [])
read_meet os n low high read =
    read_more (word (codes "meet") ∷ number n ∷ []) (λ later more ds d ts becomes s. meet_turns n low high ds d ts becomes s) read

rule_turns : {names : List Bytes} {os : List PlainOpen} (n : ℕ) → n ≤ 65536 → (ds : PlainDerivations) (d : PlainDerivation) (ts : List Piece) →
    Closes (in_rule n no_derivations ∷ os) ds d → SpellsDerivations names ds ts [] →
    (es : PlainDerivations) × Closes os es d × SpellsDerivations names es (word (codes "rule") ∷ number n ∷ ts) []
rule_turns {names = names} n high ds d ts (a_node (fills.a_rule {rest = rest} more many) closes) s =
    let t = joined_spelled more ts s in (
      and_derivation (plain.rule more) rest,
      closes,
      subst (λ k. SpellsDerivations names (and_derivation (plain.rule more) rest) (word (codes "rule") ∷ number k ∷ ts) []) many
          (and_one (a_rule (omega (arith, high, many)) t.1) t.2),
    )

pub read_rule : {names : List Bytes} {ps : List Piece} (os : List PlainOpen) (n : ℕ) → n ≤ 65536 → NodesRead names (opened os) ps →
    NodesRead names (opened (in_rule n no_derivations ∷ os)) (ps ++ word (codes "rule") ∷ number n ∷ [])
read_rule os n high read = read_more (word (codes "rule") ∷ number n ∷ []) (λ later more ds d ts becomes s. rule_turns n high ds d ts becomes s) read

-- a type in brackets, which its pieces spell under these names or more
pub read_sub : {names : List Bytes} {ps : List Piece} (os : List PlainOpen) (T : PlainType) (us : List Piece) →
    ((later : List Bytes) → HasAdded names later → (ts : List Piece) → SpellsType later TypeLevel.type T (us ++ sign Sign.close_bracket ∷ ts)
    (sign Sign.close_bracket ∷ ts)) →
    NodesRead names (opened os) ps →
    NodesRead names (opened (in_sub T ∷ os)) (ps ++ word (codes "sub") ∷ sign Sign.open_bracket ∷ (us ++ sign Sign.close_bracket ∷ []))
read_sub os T us type read = read_more (word (codes "sub") ∷ sign Sign.open_bracket ∷ (us ++ sign Sign.close_bracket ∷ []))
    (λ later more ds d ts becomes s.
    let t = sub_turns T us (type later more) ds d ts becomes s in (
      t.0,
      t.1,
      subst (λ ws. SpellsDerivations later t.0 (word (codes "sub") ∷ sign Sign.open_bracket ∷ ws) [])
          (sym (append_assoc us (sign Sign.close_bracket ∷ []) ts)) t.2,
    )) read

-- the whole
pub read_whole : {names : List Bytes} {ps : List Piece} (os : List PlainOpen) (d : PlainDerivation) → HasAdded names names →
    NodesRead names (record { waiting = os; whole = Some d }) ps → SpellsDerivation names d ps []
read_whole {names = names} {ps = ps} os d same read =
    subst (λ us. SpellsDerivation names d us []) (append-nil ps) (read.goes_on names same no_derivations d [] (refl, refl) none)
