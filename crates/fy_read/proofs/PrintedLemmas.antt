-- What is printed of a derivation is a text of it, which opens no more parentheses at once than its types nest.
use Rattle.std.proofs.Common.{◌≡◌, ℕ, ◌+◌, ◌-◌, ◌≤◌, max, Bool, true, false, List, [], ◌∷◌, ◌++◌, codes, refl, ap, sym, ◌∙◌, subst, arith, append_assoc}
use Rattle.std.specs.Prelude.{unwrap_or, decimal}
use Rattle.std.proofs.lemmas.List.{append-nil}
use Rattle.fy_base.specs.Outside.{Bytes}
use Rattle.fy_types.specs.Print.{atom_text, name_text, enclosed, type_text, further_text}
use Rattle.fy_types.specs.Types.{PlainType, PlainTypes, no_types, and_type}
use Rattle.fy_types.specs.Types as types
use Rattle.fy_derive.specs.Derivations.{PlainDerivation, PlainDerivations, by_ns, sub, meets, alt, left, right, rule, no_derivations, and_derivation, count}
use Rattle.fy_derive.specs.Print.{derivation_text, derivations_text}
use Rattle.fy_read.proofs.ParenLemmas.{most_open}
use Rattle.fy_types.specs.Nested.{type_nesting, types_nesting}
use Rattle.fy_derive.specs.Limits.{deepest_type, deepest_of_all}
use Rattle.fy_types.specs.Fields.{IsNamed, AllFields, AllFieldsOf, HasFullMeets, HaveFullMeets}
use Rattle.fy_read.specs.Printable.{PrintedIsText}
use Rattle.fy_derive.specs.Printable.{IsPrintable, ArePrintable}
use Rattle.fy_read.specs.Spelling.{Piece, word, number, sign, Sign, TypeLevel, meet_of, SpellsType, an_arrow, no_arrow, members, a_field, no_field, ns, atom, group, MoreTypes, no_more, one_more, SpellsDerivation, a_ns, a_sub, a_meet, an_alt, a_left, a_right, a_rule, SpellsDerivations, none, and_one, AreSpelled, at_end, a_blank, a_piece, IsTextOf}

-- what may stand behind a word may stand behind a sign
weaker : {loose : Bool} {ps : List Piece} {text : Bytes} → AreSpelled loose ps text → AreSpelled false ps text
weaker at_end = at_end
weaker (a_blank b rest) = a_blank b rest
weaker (a_piece {p = p} fits rest) = a_piece {p = p} refl rest

-- so many parentheses are open at once at most, if no more are in what follows
record Opens (b : ℕ) (qs ps : List Piece) : Type 0 where
  most : (n m : ℕ) → n + b ≤ m → most_open n qs ≤ m → most_open n ps ≤ m

-- the text spells the type, before what may stand behind a word, and opens so many parentheses at most
record Printed (names : List Bytes) (l : TypeLevel) (A : PlainType) (b : ℕ) (text : Bytes) (qs : List Piece) (more : Bytes) : Type 0 where
  pieces : List Piece
  type : SpellsType names l A pieces qs
  spelled : AreSpelled false pieces (text ++ more)
  opens : Opens b qs pieces

record Prints (names : List Bytes) (l : TypeLevel) (A : PlainType) (b : ℕ) (text : Bytes) : Type 0 where
  before : (qs : List Piece) (more : Bytes) → AreSpelled true qs more → Printed names l A b text qs more

wider : {qs ps : List Piece} (b c : ℕ) → b ≤ c → Opens b qs ps → Opens c qs ps
wider b c le opens = record { most = λ n m low after. opens.most n m (omega (arith, le, low)) after }

wide : {names : List Bytes} {l : TypeLevel} {A : PlainType} {text : Bytes} (b c : ℕ) → b ≤ c → Prints names l A b text → Prints names l A c text
wide b c le p = record {
  before = λ qs more s.
      let t = p.before qs more s in record { pieces = t.pieces; type = t.type; spelled = t.spelled; opens = wider b c le t.opens };
}

-- a part is a member, a domain and a type
as_type : {names : List Bytes} {A : PlainType} {k : ℕ} {text : Bytes} → Prints names TypeLevel.primary A k text → Prints names TypeLevel.type A k text
as_type p =
    record {
      before = λ qs more s. let t = p.before qs more s in record {
        pieces = t.pieces;
        type = no_arrow
            (members (no_field t.type) no_more);
        spelled = t.spelled;
        opens = t.opens;
      };
    }

grouped : (k : ℕ) (qs ps : List Piece) → Opens k (sign Sign.close_paren ∷ qs) ps → Opens (1 + k) qs (sign Sign.open_paren ∷ ps)
grouped k qs ps opens = record {
  most = λ n m low after.
      let same : n + 1 - 1 ≡ n = omega arith in
      opens.most (n + 1) m (omega (arith, low)) (omega (arith, low, after, ap (λ i. most_open i qs) same));
}

in_parens : {names : List Bytes} {A : PlainType} {k : ℕ} (text : Bytes) → Prints names TypeLevel.type A k text →
    Prints names TypeLevel.primary A (1 + k) (codes "(" ++ text ++ codes ")")
in_parens {k = k} text p = record {
  before = λ qs more s.
      let t = p.before (sign Sign.close_paren ∷ qs) (41 ∷ more) (a_piece {p = sign Sign.close_paren} refl (weaker s)) in
      record {
        pieces = sign Sign.open_paren ∷ t.pieces;
        type = group t.type;
        spelled = subst (λ x. AreSpelled false (sign Sign.open_paren ∷ t.pieces) (40 ∷ x)) (sym (append_assoc text (41 ∷ []) more))
            (a_piece {p = sign Sign.open_paren} refl t.spelled);
        opens = grouped k qs t.pieces t.opens;
      };
}

-- one behind the other
both_open : {k : ℕ} {qs ps us : List Piece} → Opens k qs ps → Opens k ps us → Opens k qs us
both_open first second = record { most = λ n m low after. second.most n m low (first.most n m low after) }

-- a piece that is no parenthesis changes nothing
sign_opens : {k : ℕ} {qs ps : List Piece} (s : Sign) → ((n : ℕ) → most_open n (sign s ∷ ps) ≡ most_open n ps) → Opens k qs ps → Opens k qs (sign s ∷ ps)
sign_opens s same opens = record { most = λ n m low after. omega (arith, same n, opens.most n m low after) }

none_open : {k : ℕ} {qs : List Piece} → Opens k qs qs
none_open = record { most = λ n m low after. after }

arrow_prints : {names : List Bytes} {A B : PlainType} {k : ℕ} (a b : Bytes) → Prints names TypeLevel.primary A k a →
    Prints names TypeLevel.primary B k b → Prints names TypeLevel.type (types.arrow A B) k (a ++ codes " -> " ++ b)
arrow_prints a b p q = record {
  before = λ qs more s.
      let t = q.before qs more s in
      let u = p.before (sign Sign.arrow ∷ t.pieces) (32 ∷ 45 ∷ 62 ∷ 32 ∷ (b ++ more))
      (a_blank refl (a_piece {p = sign Sign.arrow} refl (a_blank refl t.spelled))) in
      record {
        pieces = u.pieces;
        type = an_arrow (members (no_field u.type) no_more) (no_arrow (members (no_field t.type) no_more));
        spelled = subst (AreSpelled false u.pieces) (sym (append_assoc (a ++ codes " -> ") b more ∙ append_assoc a (codes " -> ")
            (b ++ more))) u.spelled;
        opens = both_open (sign_opens Sign.arrow (λ n. refl) t.opens) u.opens;
      };
}

named_opens : {k : ℕ} {qs ps : List Piece} (w : Bytes) → Opens k qs ps → Opens k qs (word w ∷ sign Sign.colon ∷ ps)
named_opens w opens = record { most = λ n m low after. opens.most n m low after }

field_prints : {names : List Bytes} {A : PlainType} {k : ℕ} (i : ℕ) (a : Bytes) → IsNamed names i → Prints names TypeLevel.primary A k a →
    Prints names TypeLevel.type (types.field i A) k (name_text names i ++ codes " : " ++ a)
field_prints {names = names} {A = A} i a n p = record {
  before = λ qs more s.
      let t = p.before qs more s in
      let text : name_text names i ≡ n.name = ap (λ o. unwrap_or o []) n.numbered in
      let spelled : AreSpelled false (word n.name ∷ sign Sign.colon ∷ t.pieces) (n.name ++ 32 ∷ 58 ∷ 32 ∷ (a ++ more)) =
      a_piece {p = word n.name} refl (a_blank refl (a_piece {p = sign Sign.colon} refl (a_blank refl t.spelled))) in
      record {
        pieces = word n.name ∷ sign Sign.colon ∷ t.pieces;
        type = no_arrow (members (a_field n.numbered n.identifier (no_field t.type)) no_more);
        spelled = subst (AreSpelled false (word n.name ∷ sign Sign.colon ∷ t.pieces))
            (sym (ap (λ x. (x ++ codes " : " ++ a) ++ more) text
            ∙ (append_assoc (n.name ++ codes " : ") a more ∙ append_assoc n.name (codes " : ") (a ++ more)))) spelled;
        opens = named_opens n.name t.opens;
      };
}

-- the members of a meet behind the first
record PrintedMore (names : List Bytes) (As : PlainTypes) (b : ℕ) (text : Bytes) (qs : List Piece) (more : Bytes) : Type 0 where
  pieces : List Piece
  types : MoreTypes names As pieces qs
  spelled : AreSpelled true pieces (text ++ more)
  opens : Opens b qs pieces

record PrintsMore (names : List Bytes) (As : PlainTypes) (b : ℕ) (text : Bytes) : Type 0 where
  before : (qs : List Piece) (more : Bytes) → AreSpelled true qs more → PrintedMore names As b text qs more

wide_more : {names : List Bytes} {As : PlainTypes} {text : Bytes} (b c : ℕ) → b ≤ c → PrintsMore names As b text → PrintsMore names As c text
wide_more b c le p = record {
  before = λ qs more s.
      let t = p.before qs more s in record { pieces = t.pieces; types = t.types; spelled = t.spelled; opens = wider b c le t.opens };
}

none_prints : {names : List Bytes} {k : ℕ} → PrintsMore names no_types k []
none_prints = record { before = λ qs more s. record { pieces = qs; types = no_more; spelled = s; opens = none_open } }

more_prints : {names : List Bytes} {A : PlainType} {As : PlainTypes} {k : ℕ} (a as' : Bytes) → Prints names TypeLevel.primary A k a →
    PrintsMore names As k as' → PrintsMore names (and_type A As) k (codes " & " ++ a ++ as')
more_prints a as' p q = record {
  before = λ qs more s.
      let t = q.before qs more s in
      let u = p.before t.pieces (as' ++ more) t.spelled in
      record {
        pieces = sign Sign.ampersand ∷ u.pieces;
        types = one_more (no_field u.type) t.types;
        spelled = subst (λ x. AreSpelled true (sign Sign.ampersand ∷ u.pieces) (32 ∷ 38 ∷ 32 ∷ x)) (sym (append_assoc a as' more))
            (a_blank refl (a_piece {p = sign Sign.ampersand} refl (a_blank refl u.spelled)));
        opens = sign_opens Sign.ampersand (λ n. refl) (both_open t.opens u.opens);
      };
}

members_print : {names : List Bytes} {A : PlainType} {As : PlainTypes} {k : ℕ} (a as' : Bytes) → Prints names TypeLevel.primary A k a →
    PrintsMore names As k as' →
    Prints names TypeLevel.type (meet_of A As) k (a ++ as')
members_print a as' p q = record {
  before = λ qs more s.
      let t = q.before qs more s in
      let u = p.before t.pieces (as' ++ more) t.spelled in
      record {
        pieces = u.pieces;
        type = no_arrow (members (no_field u.type) t.types);
        spelled = subst (AreSpelled false u.pieces) (sym (append_assoc a as' more)) u.spelled;
        opens = both_open t.opens u.opens;
      };
}

word_opens : {k : ℕ} {qs : List Piece} (w : Bytes) → Opens k qs (word w ∷ qs)
word_opens w = record { most = λ n m low after. after }

word_prints : {names : List Bytes} {A : PlainType} {k : ℕ} (w : Bytes) → ((r : List Piece) → SpellsType names TypeLevel.primary A (word w ∷ r) r) →
    Prints names TypeLevel.primary A k w
word_prints w p =
    record { before = λ qs more s. record { pieces = word w ∷ qs; type = p qs; spelled = a_piece {p = word w} refl s; opens = word_opens w } }

arrow_parts : (names : List Bytes) (A B : PlainType) → Prints names TypeLevel.primary A (type_nesting A) (enclosed A (type_text names A)) →
    Prints names TypeLevel.primary B (type_nesting B) (enclosed B (type_text names B)) →
    Prints names TypeLevel.type (types.arrow A B) (max (type_nesting A) (type_nesting B)) (type_text names (types.arrow A B))
arrow_parts names A B a b =
    arrow_prints (enclosed A (type_text names A)) (enclosed B (type_text names B))
    (wide (type_nesting A) (max (type_nesting A) (type_nesting B)) (omega arith) a)
    (wide (type_nesting B) (max (type_nesting A) (type_nesting B)) (omega arith) b)

meet_parts : (names : List Bytes) (A : PlainType) (As : PlainTypes) →
    Prints names TypeLevel.primary A (type_nesting A) (enclosed A (type_text names A)) →
    PrintsMore names As (types_nesting As) (further_text names As) →
    Prints names TypeLevel.type (meet_of A As) (max (type_nesting A) (types_nesting As)) (enclosed A (type_text names A) ++ further_text names As)
meet_parts names A As a as' =
    members_print (enclosed A (type_text names A)) (further_text names As)
    (wide (type_nesting A) (max (type_nesting A) (types_nesting As)) (omega arith) a)
    (wide_more (types_nesting As) (max (type_nesting A) (types_nesting As)) (omega arith) as')

mutual
  part_prints : (names : List Bytes) (A : PlainType) → AllFields (IsNamed names) A → HasFullMeets A →
      Prints names TypeLevel.primary A (type_nesting A) (enclosed A (type_text names A))
  part_prints names types.ns h k = word_prints (codes "ns") (λ r. ns)
  part_prints names (types.atom a) h k = word_prints (atom_text a) (λ r. atom {a = a})
  part_prints names (types.arrow A B) h k = in_parens _ (arrow_parts names A B (part_prints names A h.0 k.0) (part_prints names B h.1 k.1))
  part_prints names (types.field i A) h k = in_parens _ (field_prints i (enclosed A (type_text names A)) h.0 (part_prints names A h.1 k))
  part_prints names (types.meet no_types) h k = absurd k.0
  part_prints names (types.meet (and_type A no_types)) h k = absurd k.0
  part_prints names (types.meet (and_type A (and_type B As))) h k =
      in_parens _ (meet_parts names A (and_type B As) (part_prints names A h.0 k.1.0) (further_print names (and_type B As) h.1 k.1.1))

  further_print : (names : List Bytes) (As : PlainTypes) → AllFieldsOf (IsNamed names) As → HaveFullMeets As →
      PrintsMore names As (types_nesting As) (further_text names As)
  further_print names no_types h k = none_prints
  further_print names (and_type A As) h k =
      more_prints (enclosed A (type_text names A)) (further_text names As)
      (wide (type_nesting A) (max (type_nesting A) (types_nesting As)) (omega arith) (part_prints names A h.0 k.0))
      (wide_more (types_nesting As) (max (type_nesting A) (types_nesting As)) (omega arith) (further_print names As h.1 k.1))

type_prints : (names : List Bytes) (A : PlainType) → AllFields (IsNamed names) A → HasFullMeets A →
    Prints names TypeLevel.type A (type_nesting A) (type_text names A)
type_prints names types.ns h k = as_type (word_prints (codes "ns") (λ r. ns))
type_prints names (types.atom a) h k = as_type (word_prints (atom_text a) (λ r. atom {a = a}))
type_prints names (types.arrow A B) h k =
    wide (max (type_nesting A) (type_nesting B)) (1 + max (type_nesting A) (type_nesting B)) (omega arith)
    (arrow_parts names A B (part_prints names A h.0 k.0) (part_prints names B h.1 k.1))
type_prints names (types.field i A) h k =
    wide (type_nesting A) (1 + type_nesting A) (omega arith) (field_prints i (enclosed A (type_text names A)) h.0 (part_prints names A h.1 k))
type_prints names (types.meet no_types) h k = absurd k.0
type_prints names (types.meet (and_type A no_types)) h k = absurd k.0
type_prints names (types.meet (and_type A (and_type B As))) h k =
    wide (max (type_nesting A) (types_nesting (and_type B As))) (1 + max (type_nesting A) (types_nesting (and_type B As))) (omega arith)
    (meet_parts names A (and_type B As) (part_prints names A h.0 k.1.0) (further_print names (and_type B As) h.1 k.1.1))

-- outside of types too
record Keeps (b : ℕ) (qs ps : List Piece) : Type 0 where
  most : (m : ℕ) → b ≤ m → most_open 0 qs ≤ m → most_open 0 ps ≤ m

-- the text spells the derivation, before what follows, and opens no more parentheses than its types nest
record Written (names : List Bytes) (d : PlainDerivation) (text : Bytes) (qs : List Piece) (more : Bytes) : Type 0 where
  pieces : List Piece
  derivation : SpellsDerivation names d pieces qs
  spelled : AreSpelled false pieces (text ++ more)
  opens : Keeps (deepest_type d) qs pieces

record AllWritten (names : List Bytes) (ds : PlainDerivations) (text : Bytes) (qs : List Piece) (more : Bytes) : Type 0 where
  pieces : List Piece
  derivations : SpellsDerivations names ds pieces qs
  spelled : AreSpelled false pieces (text ++ more)
  opens : Keeps (deepest_of_all ds) qs pieces

word_keeps : {b : ℕ} {qs ps : List Piece} (w : Bytes) → Keeps b qs ps → Keeps b qs (word w ∷ ps)
word_keeps w opens = record { most = λ m deep after. opens.most m deep after }

counted_keeps : {b : ℕ} {qs ps : List Piece} (w : Bytes) (n : ℕ) → Keeps b qs ps → Keeps b qs (word w ∷ number n ∷ ps)
counted_keeps w n opens = record { most = λ m deep after. opens.most m deep after }

none_keeps : {b : ℕ} {qs : List Piece} → Keeps b qs qs
none_keeps = record { most = λ m deep after. after }

typed_keeps : (T : PlainType) (b : ℕ) (qs ps us : List Piece) (w : Bytes) → Keeps b qs ps → Opens (type_nesting T) (sign Sign.close_bracket ∷ ps) us →
    Keeps (max (type_nesting T) b) qs (word w ∷ sign Sign.open_bracket ∷ us)
typed_keeps T b qs ps us w opens inside =
    record { most = λ m deep after. inside.most 0 m (omega (arith, deep)) (opens.most m (omega (arith, deep)) after) }

both_keep : (b c : ℕ) (qs ps us : List Piece) → Keeps c qs ps → Keeps b ps us → Keeps (max b c) qs us
both_keep b c qs ps us first second =
    record { most = λ m deep after. second.most m (omega (arith, deep)) (first.most m (omega (arith, deep)) after) }

-- a number on a line behind a word, and the lines that follow
number_line : (w : Bytes) (n : ℕ) (rest more : Bytes) (ps : List Piece) → AreSpelled false ps (rest ++ more) →
    AreSpelled false (word w ∷ number n ∷ ps) ((((w ++ codes " " ++ decimal n) ++ 10 ∷ []) ++ rest) ++ more)
number_line w n rest more ps s =
    let e : (((w ++ codes " " ++ decimal n) ++ 10 ∷ []) ++ rest) ++ more ≡ w ++ 32 ∷ (decimal n ++ 10 ∷ (rest ++ more)) =
    append_assoc ((w ++ codes " " ++ decimal n) ++ 10 ∷ []) rest more
    ∙ (append_assoc (w ++ codes " " ++ decimal n) (10 ∷ []) (rest ++ more)
    ∙ (append_assoc (w ++ codes " ") (decimal n) (10 ∷ (rest ++ more)) ∙ append_assoc w (codes " ") (decimal n ++ 10 ∷ (rest ++ more)))) in
    subst (AreSpelled false (word w ∷ number n ∷ ps)) (sym e) (a_piece {p = word w} refl (a_blank refl
    (a_piece {p = number n} refl (a_blank refl s))))

type_line_spelled : (names : List Bytes) (T : PlainType) (t rest more : Bytes) → Prints names TypeLevel.type T (type_nesting T) t → (ps : List Piece) →
    AreSpelled false ps (rest ++ more) →
    (us : List Piece) × SpellsType names TypeLevel.type T us (sign Sign.close_bracket ∷ ps)
    × Opens (type_nesting T) (sign Sign.close_bracket ∷ ps) us
    × AreSpelled false (word (codes "sub") ∷ sign Sign.open_bracket ∷ us) ((((codes "sub [" ++ t ++ codes "]") ++ 10 ∷ []) ++ rest) ++ more)
type_line_spelled names T t rest more p ps s =
    let u = p.before (sign Sign.close_bracket ∷ ps) (93 ∷ 10 ∷ (rest ++ more)) (a_piece {p = sign Sign.close_bracket} refl (a_blank refl s)) in
    let e : (((t ++ 93 ∷ []) ++ 10 ∷ []) ++ rest) ++ more ≡ t ++ 93 ∷ 10 ∷ (rest ++ more) =
    append_assoc ((t ++ 93 ∷ []) ++ 10 ∷ []) rest more
    ∙ (append_assoc (t ++ 93 ∷ []) (10 ∷ []) (rest ++ more) ∙ append_assoc t (93 ∷ []) (10 ∷ (rest ++ more))) in (
      u.pieces,
      u.type,
      u.opens,
      a_piece {p = word (codes "sub")} refl (a_blank refl (a_piece {p = sign Sign.open_bracket} refl
          (subst (AreSpelled false u.pieces) (sym e) u.spelled))),
    )

mutual
  writes : (names : List Bytes) (d : PlainDerivation) → IsPrintable names d → (qs : List Piece) (more : Bytes) → AreSpelled false qs more →
      Written names d (derivation_text names d) qs more
  writes names by_ns h qs more s =
      record {
        pieces = word (codes "ns") ∷ qs;
        derivation = a_ns;
        spelled = a_piece {p = word (codes "ns")} refl (a_blank refl s);
        opens = word_keeps (codes "ns") none_keeps;
      }
  writes names (sub T d) h qs more s =
      let t = writes names d h.2 qs more s in
      let u = type_line_spelled names T (type_text names T) (derivation_text names d) more (type_prints names T h.0 h.1) t.pieces t.spelled in
      record {
        pieces = word (codes "sub") ∷ sign Sign.open_bracket ∷ u.0;
        derivation = a_sub u.1 t.derivation;
        spelled = u.3;
        opens = typed_keeps T (deepest_type d) qs t.pieces u.0 (codes "sub") t.opens u.2;
      }
  writes names (meets ds) h qs more s =
      let t = all_write names ds h.2 qs more s in
      record {
        pieces = word (codes "meet") ∷ number (count ds) ∷ t.pieces;
        derivation = a_meet h.0 h.1 t.derivations;
        spelled = number_line (codes "meet") (count ds) (derivations_text names ds) more t.pieces t.spelled;
        opens = counted_keeps (codes "meet") (count ds) t.opens;
      }
  writes names (alt i d) h qs more s =
      let t = writes names d h.1 qs more s in
      record {
        pieces = word (codes "alt") ∷ number i ∷ t.pieces;
        derivation = an_alt h.0 t.derivation;
        spelled = number_line (codes "alt") i (derivation_text names d) more t.pieces t.spelled;
        opens = counted_keeps (codes "alt") i t.opens;
      }
  writes names (left d) h qs more s =
      let t = writes names d h qs more s in
      record {
        pieces = word (codes "left") ∷ t.pieces;
        derivation = a_left t.derivation;
        spelled = a_piece {p = word (codes "left")} refl
            (a_blank refl t.spelled);
        opens = word_keeps (codes "left") t.opens;
      }
  writes names (right d) h qs more s =
      let t = writes names d h qs more s in
      record {
        pieces = word (codes "right") ∷ t.pieces;
        derivation = a_right t.derivation;
        spelled = a_piece {p = word (codes "right")} refl
            (a_blank refl t.spelled);
        opens = word_keeps (codes "right") t.opens;
      }
  writes names (rule ds) h qs more s =
      let t = all_write names ds h.1 qs more s in
      record {
        pieces = word (codes "rule") ∷ number (count ds) ∷ t.pieces;
        derivation = a_rule h.0 t.derivations;
        spelled = number_line (codes "rule") (count ds) (derivations_text names ds) more t.pieces t.spelled;
        opens = counted_keeps (codes "rule") (count ds) t.opens;
      }

  all_write : (names : List Bytes) (ds : PlainDerivations) → ArePrintable names ds → (qs : List Piece) (more : Bytes) → AreSpelled false qs more →
      AllWritten names ds (derivations_text names ds) qs more
  all_write names no_derivations h qs more s = record { pieces = qs; derivations = none; spelled = s; opens = none_keeps }
  all_write names (and_derivation d ds) h qs more s =
      let t = all_write names ds h.1 qs more s in
      let u = writes names d h.0 t.pieces (derivations_text names ds ++ more) t.spelled in
      record {
        pieces = u.pieces;
        derivations = and_one u.derivation t.derivations;
        spelled = subst (AreSpelled false u.pieces) (sym (append_assoc (derivation_text names d) (derivations_text names ds) more)) u.spelled;
        opens = both_keep (deepest_type d) (deepest_of_all ds) qs t.pieces u.pieces t.opens u.opens;
      }

-- what is printed, with the parentheses that it opens
pub record IsPrinted (names : List Bytes) (d : PlainDerivation) : Type 0 where
  pub text : IsTextOf names d (derivation_text names d)
  pub parens : (m : ℕ) → deepest_type d ≤ m → most_open 0 text.pieces ≤ m

pub printed : (names : List Bytes) (d : PlainDerivation) → IsPrintable names d → IsPrinted names d
printed names d h =
    let t = writes names d h [] [] at_end in
    record {
      text = record {
        pieces = t.pieces;
        derivation = t.derivation;
        spelled = subst (AreSpelled false t.pieces) (append-nil (derivation_text names d)) t.spelled;
      };
      parens = λ m deep. t.opens.most m deep (omega arith);
    }

pub printed_is_text : PrintedIsText
printed_is_text names d h = (printed names d h).text
