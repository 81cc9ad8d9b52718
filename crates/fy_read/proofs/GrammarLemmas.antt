-- Pieces that lead from the beginning to the end are those of some derivation.
use Rattle.std.proofs.Common.{◌≡◌, ◌⊎◌, inl, inr, ℕ, zero, suc, ◌+◌, ◌<◌, ◌≤◌, Bool, true, false, not, ◌&&◌, nat_le, IsTrue, List, [], ◌∷◌, codes, length, refl, ap, sym, ◌∙◌, subst, arith, leb-true}
use Rattle.std.specs.Prelude.{Option, Some, None, if◌then◌else◌, slice_get}
use Rattle.std.specs.Map.{lookup}
use Rattle.std.specs.Str.{bytes_eq}
use Rattle.std.proofs.lemmas.Slice.Eq.{bytes_eq-Decides}
use Rattle.fy_base.specs.Outside.{Bytes}
use Rattle.fy_types.specs.Print.{atom_text}
use Rattle.fy_types.specs.declared.types.Atom.TheVariants as atoms
use Rattle.fy_types.specs.Types.{PlainType, PlainTypes}
use Rattle.fy_types.specs.Types as types
use Rattle.fy_types.specs.Words.{is_name_like, is_word, is_identifier}
use Rattle.fy_read.specs.declared.counts.Counted.{Counted}
use Rattle.fy_read.specs.declared.counts.Counted.TheVariants as counted
use Rattle.fy_read.specs.declared.read.Awaited.TheVariants as awaited
use Rattle.fy_read.specs.declared.words.NodeWord.{NodeWord}
use Rattle.fy_read.specs.declared.words.NodeWord.TheVariants as node
use Rattle.std.specs.Option.{is_some}
use Rattle.fy_read.specs.declared.words.TypeWord.{TypeWord}
use Rattle.fy_read.specs.declared.words.TypeWord.TheVariants as part
use Rattle.fy_derive.specs.Derivations.{PlainDerivation, PlainDerivations, count, no_derivations, and_derivation}
use Rattle.fy_derive.specs.Derivations as plain
use Rattle.fy_read.specs.Spelling.{Piece, word, number, sign, open_bracket, close_bracket, open_paren, close_paren, colon, arrow, ampersand, TypeLevel, meet_of, SpellsType, an_arrow, no_arrow, members, a_field, no_field, ns, atom, group, MoreTypes, no_more, one_more, SpellsDerivation, a_ns, a_sub, a_meet, an_alt, a_left, a_right, a_rule, SpellsDerivations, none, and_one}
use Rattle.fy_read.specs.Steps.{node_text, Reached, at, after_all, after_known, after_node, after_type_word, type_words, type_word, part_type, node_words, node_word, is_type_word, least, greatest, wanted, begin, finish}

-- what fits nothing leads nowhere
pub nowhere : (ps : List Piece) → after_all None ps ≡ None
nowhere [] = refl
nowhere (p ∷ ps) = nowhere ps

pub lost : {X : Type 0} (ps : List Piece) (c : Reached) → after_all None ps ≡ Some c → X
lost ps c h = let e : None ≡ Some c = sym (nowhere ps) ∙ h in absurd cc

-- each text of a table is that of its entry
abbrev pub AreTextsBy : {X : Type 0} → (X → Bytes) → List (Bytes × X) → Type 0
AreTextsBy text [] = Unit {0}
AreTextsBy text (e ∷ es) = (e.0 ≡ text e.1) × AreTextsBy text es

abbrev pub AreTexts : List (Bytes × NodeWord) → Type 0
AreTexts es = AreTextsBy node_text es

found_step : {X : Type 0} (text : X → Bytes) (w : Bytes) (x : X) (e : Bytes × X) (more : Option X) (b : Bool) → bytes_eq w e.0 ≡ b → e.0 ≡ text e.1 →
    (more ≡ Some x → w ≡ text x) → (if b then Some e.1 else more) ≡ Some x → w ≡ text x
found_step text w x e more true is here later h = let same : e.1 ≡ x = cc in (bytes_eq-Decides w e.0).0 is ∙ (here ∙ ap text same)
found_step text w x e more false is here later h = later h

found : {X : Type 0} (text : X → Bytes) (w : Bytes) (x : X) (es : List (Bytes × X)) → AreTextsBy text es → lookup (bytes_eq w) es ≡ Some x →
    w ≡ text x
found text w x [] all h = absurd cc
found text w x (e ∷ es) all h = found_step text w x e (lookup (bytes_eq w) es) (bytes_eq w e.0) refl all.0 (found text w x es all.1) h

pub texts_of_words : AreTexts node_words
unfolding node_words
texts_of_words = (refl, (refl, (refl, (refl, (refl, (refl, (refl, tt)))))))

pub node_word-text : (w : Bytes) (x : NodeWord) → node_word w ≡ Some x → w ≡ node_text x
node_word-text w x h = found node_text w x node_words texts_of_words h

-- each word among the pieces is some name
abbrev pub AreNamed : List Bytes → List Piece → Type 0
AreNamed names [] = Unit {0}
AreNamed names (word w ∷ ps) = ((i : ℕ) × (slice_get names i ≡ Some w)) × AreNamed names ps
AreNamed names (number n ∷ ps) = AreNamed names ps
AreNamed names (sign s ∷ ps) = AreNamed names ps

-- a type in progress: with arrows before its last members
pub data Joined (names : List Bytes) : List Piece → List Piece → Type 0 where
  last : {A : PlainType} {As : PlainTypes} {us m ts : List Piece} →
      SpellsType names TypeLevel.field A us m → MoreTypes names As m ts → Joined names us ts
  behind_arrow : {D : PlainType} {us m ts : List Piece} →
      SpellsType names TypeLevel.inter D us (sign arrow ∷ m) → Joined names m ts → Joined names us ts

Joined-type : {names : List Bytes} {us ts : List Piece} → Joined names us ts → (T : PlainType) × SpellsType names TypeLevel.type T us ts
Joined-type (last {A = A} {As = As} a as') = (meet_of A As, no_arrow (members a as'))
Joined-type (behind_arrow {D = D} d rest) = let t = Joined-type rest in (types.arrow D t.0, an_arrow d t.1)

more-push : {names : List Bytes} {As : PlainTypes} {B : PlainType} {m q ts r : List Piece} → MoreTypes names As m q → q ≡ sign ampersand ∷ ts →
    SpellsType names TypeLevel.field B ts r → (Bs : PlainTypes) × MoreTypes names Bs m r
more-push {names = names} {B = B} {r = r} no_more e b =
    (types.and_type B types.no_types, subst (λ q. MoreTypes names (types.and_type B types.no_types) q r) (sym e) (one_more b no_more))
more-push (one_more {A = A} a as') e b = let t = more-push as' e b in (types.and_type A t.0, one_more a t.1)

Joined-and : {names : List Bytes} {B : PlainType} {us ts q m : List Piece} → Joined names us q → q ≡ sign ampersand ∷ ts →
    SpellsType names TypeLevel.field B ts m → Joined names us m
Joined-and (last a as') e b = last a (more-push as' e b).1
Joined-and (behind_arrow d rest) e b = behind_arrow d (Joined-and rest e b)

Joined-arrow : {names : List Bytes} {B : PlainType} {us ts q m : List Piece} → Joined names us q → q ≡ sign arrow ∷ ts →
    SpellsType names TypeLevel.field B ts m → Joined names us m
Joined-arrow {names = names} {us = us} (last {A = A} {As = As} a as') e b =
    behind_arrow (subst (λ q. SpellsType names TypeLevel.inter (meet_of A As) us q) e (members a as')) (last b no_more)
Joined-arrow (behind_arrow d rest) e b = behind_arrow d (Joined-arrow rest e b)

-- behind what began, so many parentheses are closed, and then the bracket, before the rest
abbrev pub IsClosed : List Bytes → ℕ → List Piece → List Piece → Type 0
IsClosed names zero us r = (T : PlainType) × SpellsType names TypeLevel.type T us (sign close_bracket ∷ r)
IsClosed names (suc k) us r =
    (T : PlainType) × (m : List Piece) × SpellsType names TypeLevel.type T us (sign close_paren ∷ m)
    × ((vs : List Piece) → Joined names vs m → IsClosed names k vs r)

-- the pieces close them, whatever type is in progress
abbrev pub Closes : List Bytes → ℕ → List Piece → List Piece → Type 0
Closes names k ts r = (us : List Piece) → Joined names us ts → IsClosed names k us r

-- the pieces begin with a part of a type, and those behind it close them
pub record Opens (names : List Bytes) (k : ℕ) (ts r : List Piece) : Type 0 where
  pub A : PlainType
  pub m : List Piece
  pub part : SpellsType names TypeLevel.field A ts m
  pub closes : Closes names k m r

-- what stands behind the bracket, which leads to the end
pub record Behind (names : List Bytes) (n : ℕ) (ts r : List Piece) : Type 0 where
  pub leads : after_all (Some (at (suc n) 0 awaited.Node)) r ≡ Some finish
  pub named : AreNamed names r
  pub shorter : length r < length ts

Behind-more : {names : List Bytes} {n : ℕ} {ts r : List Piece} (p : Piece) → Behind names n ts r → Behind names n (p ∷ ts) r
Behind-more p b = record { leads = b.leads; named = b.named; shorter = omega (arith, b.shorter) }

abbrev AtPart : List Bytes → ℕ → ℕ → List Piece → Type 0
AtPart names n k ts = (r : List Piece) × Opens names k ts r × Behind names n ts r

abbrev AtJoint : List Bytes → ℕ → ℕ → List Piece → Type 0
AtJoint names n k ts = (r : List Piece) × Closes names k ts r × Behind names n ts r

-- the words of types
IsPart : List Bytes → Bytes → Type 0
IsPart names w = (A : PlainType) × ((r : List Piece) → SpellsType names TypeLevel.field A (word w ∷ r) r)

-- the text of a word that is a type
abbrev pub part_text : TypeWord → Bytes
part_text part.Ns = codes "ns"
part_text (part.Atom a) = atom_text a

parts_texts : AreTextsBy part_text type_words
unfolding type_words
parts_texts = (refl, (refl, (refl, (refl, (refl, (refl, (refl, (refl, (refl, tt)))))))))

pub type_word-text : (w : Bytes) (x : TypeWord) → type_word w ≡ Some x → w ≡ part_text x
type_word-text w x h = found part_text w x type_words parts_texts h

part_one : (x : TypeWord) → is_word (part_text x) ≡ true
part_one part.Ns = refl
part_one (part.Atom atoms.Int) = refl
part_one (part.Atom atoms.Bool) = refl
part_one (part.Atom atoms.Char) = refl
part_one (part.Atom atoms.Comm) = refl
part_one (part.Atom atoms.Compl) = refl
part_one (part.Atom atoms.IntAcc) = refl
part_one (part.Atom atoms.BoolAcc) = refl
part_one (part.Atom atoms.CharAcc) = refl

pub type_word-one : (w : Bytes) (x : TypeWord) → type_word w ≡ Some x → is_word w ≡ true
type_word-one w x h = ap is_word (type_word-text w x h) ∙ part_one x

-- such a word is its type
pub part_spelled : (names : List Bytes) (x : TypeWord) (r : List Piece) → SpellsType names TypeLevel.field (part_type x) (word (part_text x) ∷ r) r
part_spelled names part.Ns r = no_field ns
part_spelled names (part.Atom a) r = no_field (atom {a = a})

part_by : (names : List Bytes) (w : Bytes) (o : Option TypeWord) → type_word w ≡ o → is_some o ≡ true → IsPart names w
unfolding IsPart
part_by names w None e h = absurd cc
part_by names w (Some x) e h = (
  part_type x,
  λ r. subst (λ w. SpellsType names TypeLevel.field (part_type x) (word w ∷ r) r) (sym (type_word-text w x e))
      (part_spelled names x r),
)

part_word : (names : List Bytes) (w : Bytes) → is_type_word w ≡ true → IsPart names w
part_word names w h = part_by names w (type_word w) refl h

-- a word leads from before a part to behind it, or to the colon of its field
word_part : (names : List Bytes) (n k : ℕ) (w : Bytes) (c : Reached) → after_type_word n k w ≡ Some c →
    (IsPart names w × (c ≡ at n k awaited.Joint)) ⊎ (IsTrue (is_identifier w) × (c ≡ at n k awaited.Colon))
word_part names n k w c = by (is_name_like w) (is_word w) (is_type_word w) refl where
  by : (a b t : Bool) → is_type_word w ≡ t →
      (if a then (if b then (if t then Some (at n k awaited.Joint) else None) else Some (at n k awaited.Colon)) else None) ≡ Some c →
      (IsPart names w × (c ≡ at n k awaited.Joint)) ⊎ (IsTrue (a && not b) × (c ≡ at n k awaited.Colon))
  by true true true e h = inl (part_word names w e, cc)
  by true true false e h = absurd cc
  by true false t e h = inr (refl, cc)
  by false b t e h = absurd cc

abbrev AtColon : List Bytes → ℕ → ℕ → List Piece → Type 0
AtColon names n k ts = (us : List Piece) × (ts ≡ sign colon ∷ us) × AtPart names n k us

-- behind the name of a field, or a word of a type
at_word : (names : List Bytes) (n k : ℕ) (w : Bytes) (ts : List Piece) → ((i : ℕ) × (slice_get names i ≡ Some w)) →
    (after_all (Some (at n k awaited.Colon)) ts ≡ Some finish → AtColon names n k ts) →
    (after_all (Some (at n k awaited.Joint)) ts ≡ Some finish → AtJoint names n k ts) →
    (o : Option Reached) → after_type_word n k w ≡ o → after_all o ts ≡ Some finish → AtPart names n k (word w ∷ ts)
unfolding IsPart
at_word names n k w ts numbered named_field joint None e h = lost ts finish h
at_word names n k w ts numbered named_field joint (Some c) e h =
    elim (word_part names n k w c e) [
      | inl p ↦
          let j = joint (subst (λ c. after_all (Some c) ts ≡ Some finish) p.1 h) in
          (j.0, record { A = p.0.0; m = ts; part = p.0.1 ts; closes = j.1 }, Behind-more (word w) j.2)
      | inr p ↦
          let q = named_field (subst (λ c. after_all (Some c) ts ≡ Some finish) p.1 h) in
          let o = q.2.1 in
          let part : SpellsType names TypeLevel.field (types.field numbered.0 o.A) (word w ∷ ts) o.m =
          subst (λ us. SpellsType names TypeLevel.field (types.field numbered.0 o.A) (word w ∷ us) o.m) (sym q.1) (a_field numbered.1 p.0 o.part) in
          let b : Behind names n ts q.2.0 = subst (λ us. Behind names n us q.2.0) (sym q.1) (Behind-more (sign colon) q.2.2) in
          (q.2.0, record { A = types.field numbered.0 o.A; m = o.m; part = part; closes = o.closes }, Behind-more (word w) b)
    ]

mutual
  at_part : (names : List Bytes) (n k : ℕ) (ts : List Piece) → AreNamed names ts → after_all (Some (at n k awaited.Part)) ts ≡ Some finish →
      AtPart names n k ts
  at_part names n k [] named h = absurd cc
  at_part names n k (number m ∷ ts) named h = lost ts finish h
  at_part names n k (sign open_paren ∷ ts) named h =
      let t = at_part names n (suc k) ts named h in
      let o = t.1 in
      let inside = o.closes ts (last o.part no_more) in
      (t.0, record { A = inside.0; m = inside.1; part = no_field (group inside.2); closes = inside.3 }, Behind-more (sign open_paren) t.2)
  at_part names n k (sign open_bracket ∷ ts) named h = lost ts finish h
  at_part names n k (sign close_bracket ∷ ts) named h = lost ts finish h
  at_part names n k (sign close_paren ∷ ts) named h = lost ts finish h
  at_part names n k (sign colon ∷ ts) named h = lost ts finish h
  at_part names n k (sign arrow ∷ ts) named h = lost ts finish h
  at_part names n k (sign ampersand ∷ ts) named h = lost ts finish h
  at_part names n k (word w ∷ ts) named h =
      at_word names n k w ts named.0 (at_colon names n k ts named.1) (at_joint names n k ts named.1) (after_type_word n k w) refl h

  at_colon : (names : List Bytes) (n k : ℕ) (ts : List Piece) → AreNamed names ts → after_all (Some (at n k awaited.Colon)) ts ≡ Some finish →
      AtColon names n k ts
  at_colon names n k [] named h = absurd cc
  at_colon names n k (number m ∷ ts) named h = lost ts finish h
  at_colon names n k (word w ∷ ts) named h = lost ts finish h
  at_colon names n k (sign open_paren ∷ ts) named h = lost ts finish h
  at_colon names n k (sign open_bracket ∷ ts) named h = lost ts finish h
  at_colon names n k (sign close_bracket ∷ ts) named h = lost ts finish h
  at_colon names n k (sign close_paren ∷ ts) named h = lost ts finish h
  at_colon names n k (sign colon ∷ ts) named h = (ts, refl, at_part names n k ts named h)
  at_colon names n k (sign arrow ∷ ts) named h = lost ts finish h
  at_colon names n k (sign ampersand ∷ ts) named h = lost ts finish h

  at_joint : (names : List Bytes) (n k : ℕ) (ts : List Piece) → AreNamed names ts → after_all (Some (at n k awaited.Joint)) ts ≡ Some finish →
      AtJoint names n k ts
  at_joint names n k [] named h = absurd cc
  at_joint names n k (number m ∷ ts) named h = lost ts finish h
  at_joint names n k (word w ∷ ts) named h = lost ts finish h
  at_joint names n k (sign open_paren ∷ ts) named h = lost ts finish h
  at_joint names n k (sign open_bracket ∷ ts) named h = lost ts finish h
  at_joint names n k (sign colon ∷ ts) named h = lost ts finish h
  at_joint names n zero (sign close_bracket ∷ ts) named h = (ts, (λ us j. Joined-type j), record { leads = h; named = named; shorter = omega arith })
  at_joint names n (suc k) (sign close_bracket ∷ ts) named h = lost ts finish h
  at_joint names n zero (sign close_paren ∷ ts) named h = lost ts finish h
  at_joint names n (suc k) (sign close_paren ∷ ts) named h =
      let t = at_joint names n k ts named h in
      (t.0, (λ us j. let T = Joined-type j in (T.0, ts, T.1, t.1)), Behind-more (sign close_paren) t.2)
  at_joint names n k (sign arrow ∷ ts) named h =
      let t = at_part names n k ts named h in
      let o = t.1 in
      (t.0, (λ us j. o.closes us (Joined-arrow j refl o.part)), Behind-more (sign arrow) t.2)
  at_joint names n k (sign ampersand ∷ ts) named h =
      let t = at_part names n k ts named h in
      let o = t.1 in
      (t.0, (λ us j. o.closes us (Joined-and j refl o.part)), Behind-more (sign ampersand) t.2)

-- derivations one behind the other to the end, so many
pub record AreAll (names : List Bytes) (n : ℕ) (ts : List Piece) : Type 0 where
  pub ds : PlainDerivations
  pub many : count ds ≡ n
  pub spelled : SpellsDerivations names ds ts []

-- the first so many, and the others
record IsSplit (names : List Bytes) (k m : ℕ) (ts : List Piece) : Type 0 where
  front : PlainDerivations
  rest : PlainDerivations
  mid : List Piece
  many : count front ≡ k
  others : count rest ≡ m
  spelled : SpellsDerivations names front ts mid
  behind : SpellsDerivations names rest mid []

split : (names : List Bytes) (k m : ℕ) (ts : List Piece) (ds : PlainDerivations) → count ds ≡ k + m → SpellsDerivations names ds ts [] →
    IsSplit names k m ts
split names zero m ts ds e all =
    record { front = no_derivations; rest = ds; mid = ts; many = refl; others = omega (arith, e); spelled = none; behind = all }
split names (suc k) m ts no_derivations e all = absurd (omega (arith, e))
split names (suc k) m ts (and_derivation d ds) e (and_one {m = mid} one all) =
    let t = split names k m mid ds (omega (arith, e)) all in
    record {
      front = and_derivation d t.front;
      rest = t.rest;
      mid = t.mid;
      many = omega (arith, t.many);
      others = t.others;
      spelled = and_one one t.spelled;
      behind = t.behind;
    }

record IsOne (names : List Bytes) (m : ℕ) (ts : List Piece) : Type 0 where
  d : PlainDerivation
  rest : PlainDerivations
  mid : List Piece
  others : count rest ≡ m
  spelled : SpellsDerivation names d ts mid
  behind : SpellsDerivations names rest mid []

first : (names : List Bytes) (m : ℕ) (ts : List Piece) (ds : PlainDerivations) → count ds ≡ suc m → SpellsDerivations names ds ts [] →
    IsOne names m ts
first names m ts no_derivations e all = absurd (omega (arith, e))
first names m ts (and_derivation d ds) e (and_one {m = mid} one all) =
    record { d = d; rest = ds; mid = mid; others = omega (arith, e); spelled = one; behind = all }

-- a derivation and those behind it
one_then : {names : List Bytes} {m : ℕ} {ts mid : List Piece} (d : PlainDerivation) (ds : PlainDerivations) →
    count ds ≡ m → SpellsDerivation names d ts mid → SpellsDerivations names ds mid [] → AreAll names (suc m) ts
one_then d ds e one all = record { ds = and_derivation d ds; many = omega (arith, e); spelled = and_one one all }

abbrev Below : List Bytes → ℕ → Type 0
Below names b =
    (n : ℕ) (ts : List Piece) → length ts ≤ b → AreNamed names ts → after_all (Some (at n 0 awaited.Node)) ts ≡ Some finish → AreAll names n ts

-- behind the word of a node with a number
record AtCount (names : List Bytes) (m : ℕ) (c : Counted) (ts : List Piece) : Type 0 where
  x : ℕ
  rest : List Piece
  is : ts ≡ number x ∷ rest
  low : least c ≤ x
  high : x ≤ greatest c
  all : AreAll names (wanted c x + m) rest

count_step : (names : List Bytes) (b m : ℕ) (c : Counted) (x : ℕ) (ts : List Piece) → Below names b → length ts ≤ b → AreNamed names ts →
    (low high : Bool) → nat_le (least c) x ≡ low → nat_le x (greatest c) ≡ high →
    after_all (if low && high then Some (at (wanted c x + m) 0 awaited.Node) else None) ts ≡ Some finish → AtCount names m c (number x ∷ ts)
count_step names b m c x ts ih short named true true low high h =
    record { x = x; rest = ts; is = refl; low = leb-true _ _ low; high = leb-true _ _ high; all = ih (wanted c x + m) ts short named h }
count_step names b m c x ts ih short named true false low high h = lost ts finish h
count_step names b m c x ts ih short named false high' low high h = lost ts finish h

at_count : (names : List Bytes) (b m : ℕ) (c : Counted) (ts : List Piece) → Below names b → length ts ≤ b → AreNamed names ts →
    after_all (Some (at m 0 (awaited.Count c))) ts ≡ Some finish → AtCount names m c ts
at_count names b m c [] ih short named h = absurd cc
at_count names b m c (word w ∷ ts) ih short named h = lost ts finish h
at_count names b m c (sign s ∷ ts) ih short named h = lost ts finish h
at_count names b m c (number x ∷ ts) ih short named h = count_step names b m c x ts ih (omega (arith, short)) named _ _ refl refl h

-- behind `sub`
record AtBracket (names : List Bytes) (m : ℕ) (ts : List Piece) : Type 0 where
  T : PlainType
  inside : List Piece
  rest : List Piece
  is : ts ≡ sign open_bracket ∷ inside
  spelled : SpellsType names TypeLevel.type T inside (sign close_bracket ∷ rest)
  all : AreAll names (suc m) rest

at_bracket : (names : List Bytes) (b m : ℕ) (ts : List Piece) → Below names b → length ts ≤ b → AreNamed names ts →
    after_all (Some (at m 0 awaited.Bracket)) ts ≡ Some finish → AtBracket names m ts
at_bracket names b m [] ih short named h = absurd cc
at_bracket names b m (word w ∷ ts) ih short named h = lost ts finish h
at_bracket names b m (number x ∷ ts) ih short named h = lost ts finish h
at_bracket names b m (sign close_bracket ∷ ts) ih short named h = lost ts finish h
at_bracket names b m (sign open_paren ∷ ts) ih short named h = lost ts finish h
at_bracket names b m (sign close_paren ∷ ts) ih short named h = lost ts finish h
at_bracket names b m (sign colon ∷ ts) ih short named h = lost ts finish h
at_bracket names b m (sign arrow ∷ ts) ih short named h = lost ts finish h
at_bracket names b m (sign ampersand ∷ ts) ih short named h = lost ts finish h
at_bracket names b m (sign open_bracket ∷ ts) ih short named h =
    let t = at_part names m 0 ts named h in
    let T = t.1.closes ts (last t.1.part no_more) in
    record {
      T = T.0;
      inside = ts;
      rest = t.0;
      is = refl;
      spelled = T.1;
      all = ih (suc m) t.0
          (omega (arith, short, t.2.shorter)) t.2.named t.2.leads;
    }

by_node : (names : List Bytes) (b m : ℕ) (ts : List Piece) → Below names b → length ts ≤ b → AreNamed names ts →
    (o : Option NodeWord) → after_all (after_known m o) ts ≡ Some finish → (w : Bytes) → node_word w ≡ o → AreAll names (suc m) (word w ∷ ts)
by_node names b m ts ih short named None h w e = lost ts finish h
by_node names b m ts ih short named (Some x) h w e =
    subst (λ w. AreAll names (suc m) (word w ∷ ts)) (sym (node_word-text w x e)) (known x h)
  where
    known : (x : NodeWord) → after_all (Some (after_node m x)) ts ≡ Some finish → AreAll names (suc m) (word (node_text x) ∷ ts)
    known node.Ns h = let t = ih m ts short named h in one_then plain.by_ns t.ds t.many a_ns t.spelled
    known node.Left h =
        let t = ih (suc m) ts short named h in
        let o = first names m ts t.ds t.many t.spelled in one_then (plain.left o.d) o.rest o.others (a_left o.spelled) o.behind
    known node.Right h =
        let t = ih (suc m) ts short named h in
        let o = first names m ts t.ds t.many t.spelled in one_then (plain.right o.d) o.rest o.others (a_right o.spelled) o.behind
    known node.Sub h =
        let t = at_bracket names b m ts ih short named h in
        let o = first names m t.rest t.all.ds t.all.many t.all.spelled in
        subst (λ ts. AreAll names (suc m) (word (codes "sub") ∷ ts)) (sym t.is)
        (one_then (plain.sub t.T o.d) o.rest o.others (a_sub t.spelled o.spelled) o.behind)
    known node.Meet h =
        let t = at_count names b m counted.Members ts ih short named h in
        let o = split names t.x m t.rest t.all.ds t.all.many t.all.spelled in
        subst (λ ts. AreAll names (suc m) (word (codes "meet") ∷ ts)) (sym (t.is ∙ ap (λ x. number x ∷ t.rest) (sym o.many)))
        (one_then (plain.meets o.front) o.rest o.others (a_meet (omega (arith, t.low, o.many)) (omega (arith, t.high, o.many)) o.spelled) o.behind)
    known node.Alt h =
        let t = at_count names b m counted.Alternatives ts ih short named h in
        let o = first names m t.rest t.all.ds (omega (arith, t.all.many)) t.all.spelled in
        subst (λ ts. AreAll names (suc m) (word (codes "alt") ∷ ts)) (sym t.is)
        (one_then (plain.alt t.x o.d) o.rest o.others (an_alt (omega (arith, t.high)) o.spelled) o.behind)
    known node.Rule h =
        let t = at_count names b m counted.Premises ts ih short named h in
        let o = split names t.x m t.rest t.all.ds t.all.many t.all.spelled in
        subst (λ ts. AreAll names (suc m) (word (codes "rule") ∷ ts)) (sym (t.is ∙ ap (λ x. number x ∷ t.rest) (sym o.many)))
        (one_then (plain.rule o.front) o.rest o.others (a_rule (omega (arith, t.high, o.many)) o.spelled) o.behind)

at_nodes : (names : List Bytes) (b : ℕ) → Below names b
at_nodes names b zero [] short named h = record { ds = no_derivations; many = refl; spelled = none }
at_nodes names b zero (word w ∷ ts) short named h = lost ts finish h
at_nodes names b zero (number x ∷ ts) short named h = lost ts finish h
at_nodes names b zero (sign s ∷ ts) short named h = lost ts finish h
at_nodes names b (suc m) [] short named h = absurd cc
at_nodes names b (suc m) (number x ∷ ts) short named h = lost ts finish h
at_nodes names b (suc m) (sign s ∷ ts) short named h = lost ts finish h
at_nodes names zero (suc m) (word w ∷ ts) short named h = absurd (omega (arith, short))
at_nodes names (suc b) (suc m) (word w ∷ ts) short named h =
    by_node names b m ts (at_nodes names b) (omega (arith, short)) named.1 (node_word w) h w refl

-- the words among the pieces, as names
abbrev words_in : List Piece → List Bytes
words_in [] = []
words_in (word w ∷ ps) = w ∷ words_in ps
words_in (number n ∷ ps) = words_in ps
words_in (sign s ∷ ps) = words_in ps

named_more : (w : Bytes) (names : List Bytes) (ps : List Piece) → AreNamed names ps → AreNamed (w ∷ names) ps
named_more w names [] h = tt
named_more w names (word v ∷ ps) h = ((suc h.0.0, h.0.1), named_more w names ps h.1)
named_more w names (number n ∷ ps) h = named_more w names ps h
named_more w names (sign s ∷ ps) h = named_more w names ps h

all_named : (ps : List Piece) → AreNamed (words_in ps) ps
all_named [] = tt
all_named (word w ∷ ps) = ((0, refl), named_more w (words_in ps) ps (all_named ps))
all_named (number n ∷ ps) = all_named ps
all_named (sign s ∷ ps) = all_named ps

-- pieces from the beginning to the end are a derivation's, under some names
pub some_derivation : (ts : List Piece) → after_all (Some begin) ts ≡ Some finish →
    (names : List Bytes) × (d : PlainDerivation) × SpellsDerivation names d ts []
some_derivation ts h =
    let t = at_nodes (words_in ts) (length ts) 1 ts (omega arith) (all_named ts) h in
    let o = first (words_in ts) 0 ts t.ds t.many t.spelled in
    (words_in ts, o.d, alone o.rest o.others o.behind o.spelled)
  where
    alone : {names : List Bytes} {d : PlainDerivation} {ts mid : List Piece} (ds : PlainDerivations) → count ds ≡ 0 →
        SpellsDerivations names ds mid [] → SpellsDerivation names d ts mid → SpellsDerivation names d ts []
    alone no_derivations e none d = d
    alone (and_derivation c cs) e all d = absurd (omega (arith, e))
