-- The pieces of a derivation give it back, where names are distinct.
use Rattle.std.proofs.Common.{◌≡◌, ℕ, zero, suc, ◌+◌, ◌<◌, Bool, true, false, not, ◌||◌, if◌then◌else◌, IsTrue, List, [], ◌∷◌, ◌++◌, codes, refl, ap, sym, ◌∙◌, subst, append_assoc, arith, add-one, one-add}
use Rattle.std.specs.Prelude.{Option, Some, None, slice_get, nat_lt}
use Rattle.std.specs.Str.{bytes_eq}
use Rattle.std.proofs.lemmas.List.{append-nil}
use Rattle.std.proofs.lemmas.Bool.{lt-ltb, le-ltb}
use Rattle.std.proofs.lemmas.Slice.Eq.{bytes_eq-Decides}
use Rattle.fy_base.specs.Outside.{Bytes}
use Rattle.fy_types.specs.declared.types.Atom.{Atom}
use Rattle.fy_types.specs.declared.types.Atom.TheVariants as atoms
use Rattle.fy_types.specs.Names.{number_of, has, are_distinct}
use Rattle.fy_types.specs.Print.{atom_text}
use Rattle.fy_types.specs.Reading.{types_from}
use Rattle.fy_types.specs.Types.{PlainType, PlainTypes, no_types, and_type}
use Rattle.fy_types.specs.Types as types
use Rattle.fy_types.specs.Words.{is_name_like, is_word}
use Rattle.fy_read.specs.declared.counts.Counted.{Counted}
use Rattle.fy_read.specs.declared.counts.Counted.TheVariants as counted
use Rattle.fy_read.specs.declared.words.NodeWord.{NodeWord}
use Rattle.fy_read.specs.declared.words.NodeWord.TheVariants as node
use Rattle.fy_read.specs.declared.words.TypeWord.{TypeWord}
use Rattle.fy_read.specs.declared.words.TypeWord.TheVariants as part
use Rattle.fy_derive.specs.Derivations.{PlainDerivation, PlainDerivations, by_ns, meets, rule, no_derivations, and_derivation, count}
use Rattle.fy_read.specs.Opened.{PlainOpen, in_sub, in_alt, in_left, in_right, in_meet, in_rule, added, is_whole, is_waiting, PlainNodes, with_node, given_on, given, joined}
use Rattle.fy_read.specs.OpenTypes.{PlainLevel, no_level, in_arrows, meet_all, whole_type, with_field, with_part, with_domain}
use Rattle.fy_read.specs.Spelling.{Piece, word, number, sign, open_bracket, close_bracket, open_paren, close_paren, colon, arrow, ampersand, TypeLevel, type, inter, field, primary, meet_of, SpellsType, an_arrow, no_arrow, members, a_field, no_field, ns, atom, group, MoreTypes, no_more, one_more, SpellsDerivation, a_ns, a_sub, a_meet, an_alt, a_left, a_right, a_rule, SpellsDerivations, none, and_one, IsTextOf}
use Rattle.fy_read.specs.Steps.{node_word, type_word, part_type, node_words, type_words, begin, finish}
use Rattle.fy_read.proofs.LevelLemmas.{in_fields-push, in_arrows-push}
use Rattle.fy_read.proofs.OpenLemmas.{count-added, joined-added, joined-one}
use Rattle.fy_read.proofs.PieceLemmas.{after_whole}
use Rattle.fy_read.proofs.UniqueLemmas.{unique, all_step}
use Rattle.fy_read.proofs.ReadNodes.{opened}
use Rattle.fy_read.proofs.TypeDepth.{no_word}

-- ---- a name's number
either_true : (a b : Bool) → b ≡ true → (a || b) ≡ true
either_true true b h = refl
either_true false b h = h

has_at : (names : List Bytes) (i : ℕ) (w : Bytes) → slice_get names i ≡ Some w → has names w ≡ true
has_at [] i w h = absurd cc
has_at (name ∷ names) zero w h = let same : w ≡ name = cc in ap (λ b. b || has names w) ((bytes_eq-Decides w name).1 same)
has_at (name ∷ names) (suc i) w h = either_true (bytes_eq w name) (has names w) (has_at names i w h)

known_step : (names : List Bytes) (name w : Bytes) (i m : ℕ) (b : Bool) → bytes_eq w name ≡ b → not (has names name) ≡ true → has names w ≡ true →
    m ≡ i → (if b then 0 else m + 1) ≡ suc i
known_step names name w i m true e fresh there same =
    let is : w ≡ name = (bytes_eq-Decides w name).0 e in
    let no : false ≡ true = ap not (sym there ∙ ap (has names) is) ∙ fresh in absurd cc
known_step names name w i m false e fresh there same = ap (λ k. k + 1) same ∙ add-one i

pub number-known : (names : List Bytes) (i : ℕ) (w : Bytes) → IsTrue (are_distinct names) → slice_get names i ≡ Some w → number_of names w ≡ i
number-known [] i w distinct h = absurd cc
number-known (name ∷ names) zero w distinct h =
    let same : w ≡ name = cc in ap (λ b. if b then 0 else number_of names w + 1) ((bytes_eq-Decides w name).1 same)
number-known (name ∷ names) (suc i) w distinct h =
    let t = all_step (not (has names name)) (are_distinct names) distinct in
    known_step names name w i (number_of names w) (bytes_eq w name) refl t.0 (has_at names i w h) (number-known names i w t.1 h)

-- ---- what pieces give
data Value : Type 0 where
  at_node : PlainNodes → Value
  at_bracket : PlainNodes → Value
  at_number : Counted → PlainNodes → Value
  in_type : PlainNodes → PlainLevel → List PlainLevel → Value

abbrev behind_word : PlainNodes → Option NodeWord → Value
behind_word n None = at_node n
behind_word n (Some node.Ns) = at_node (given n.waiting by_ns)
behind_word n (Some node.Sub) = at_bracket n
behind_word n (Some node.Meet) = at_number counted.Members n
behind_word n (Some node.Alt) = at_number counted.Alternatives n
behind_word n (Some node.Left) = at_node (with_node in_left n)
behind_word n (Some node.Right) = at_node (with_node in_right n)
behind_word n (Some node.Rule) = at_number counted.Premises n

abbrev behind_number : PlainNodes → Counted → ℕ → Value
behind_number n counted.Members m = at_node (with_node (in_meet m no_derivations) n)
behind_number n counted.Alternatives m = at_node (with_node (in_alt m) n)
behind_number n counted.Premises zero = at_node (given n.waiting (rule no_derivations))
behind_number n counted.Premises (suc m) = at_node (with_node (in_rule (suc m) no_derivations) n)

abbrev behind_part : PlainNodes → PlainLevel → List PlainLevel → Option TypeWord → Value
behind_part n L O None = in_type n L O
behind_part n L O (Some x) = in_type n (with_part L (part_type x)) O

abbrev behind_close : PlainNodes → PlainLevel → List PlainLevel → Value
behind_close n M [] = in_type n M []
behind_close n M (L ∷ O) = in_type n (with_part L (whole_type M)) O

abbrev value_with : List Bytes → Value → Piece → Value
value_with names (at_node n) (word w) = behind_word n (node_word w)
value_with names (at_node n) (number m) = at_node n
value_with names (at_node n) (sign s) = at_node n
value_with names (at_bracket n) (sign s) = in_type n no_level []
value_with names (at_bracket n) (word w) = at_bracket n
value_with names (at_bracket n) (number m) = at_bracket n
value_with names (at_number c n) (number m) = behind_number n c m
value_with names (at_number c n) (word w) = at_number c n
value_with names (at_number c n) (sign s) = at_number c n
value_with names (in_type n L O) (number m) = in_type n L O
value_with names (in_type n L O) (word w) = if is_word w then behind_part n L O (type_word w) else in_type n (with_field L (number_of names w)) O
value_with names (in_type n L O) (sign open_bracket) = in_type n L O
value_with names (in_type n L O) (sign close_bracket) = at_node (with_node (in_sub (whole_type L)) n)
value_with names (in_type n L O) (sign open_paren) = in_type n no_level (L ∷ O)
value_with names (in_type n L O) (sign close_paren) = behind_close n L O
value_with names (in_type n L O) (sign colon) = in_type n L O
value_with names (in_type n L O) (sign arrow) = in_type n (with_domain L) O
value_with names (in_type n L O) (sign ampersand) = in_type n L O

abbrev values : List Bytes → Value → List Piece → Value
values names v [] = v
values names v (p ∷ ps) = values names (value_with names v p) ps

-- ---- types
record Meets (names : List Bytes) (A : PlainType) (n : PlainNodes) (Ds : List PlainType) (O : List PlainLevel) (ts r : List Piece) : Type 0 where
  Ms : List PlainType
  is : meet_all Ms ≡ A
  same : values names (in_type n (record { domains = Ds; members = []; fields = [] }) O) ts ≡ values names
      (in_type n (record { domains = Ds; members = Ms; fields = [] }) O) r

record Ends (names : List Bytes) (A : PlainType) (n : PlainNodes) (Ds : List PlainType) (O : List PlainLevel) (ts r : List Piece) : Type 0 where
  L : PlainLevel
  is : whole_type L ≡ in_arrows Ds A
  same : values names (in_type n (record { domains = Ds; members = []; fields = [] }) O) ts ≡ values names (in_type n L O) r

record More (names : List Bytes) (As : PlainTypes) (n : PlainNodes) (Ds Ms : List PlainType) (O : List PlainLevel) (ts r : List Piece) : Type 0 where
  Ns : List PlainType
  is : types_from Ns ≡ As
  same : values names (in_type n (record { domains = Ds; members = Ms; fields = [] }) O) ts ≡ values names
      (in_type n (record { domains = Ds; members = Ms ++ Ns; fields = [] }) O) r

abbrev Turns : List Bytes → TypeLevel → PlainType → List Piece → List Piece → Type 0
Turns names type A ts r = (n : PlainNodes) (Ds : List PlainType) (O : List PlainLevel) → Ends names A n Ds O ts r
Turns names inter A ts r = (n : PlainNodes) (Ds : List PlainType) (O : List PlainLevel) → Meets names A n Ds O ts r
Turns names field A ts r =
    (n : PlainNodes) (L : PlainLevel) (O : List PlainLevel) → values names (in_type n L O) ts ≡ values names (in_type n (with_part L A) O) r
Turns names primary A ts r =
    (n : PlainNodes) (L : PlainLevel) (O : List PlainLevel) → values names (in_type n L O) ts ≡ values names (in_type n (with_part L A) O) r

field_part : (L : PlainLevel) (i : ℕ) (A : PlainType) → with_part (with_field L i) A ≡ with_part L (types.field i A)
field_part L i A = ap (λ B. record { domains = L.domains; members = L.members ++ B ∷ []; fields = [] }) (in_fields-push L.fields i A)

atom_known : (a : Atom) → (is_word (atom_text a) ≡ true) × (type_word (atom_text a) ≡ Some (part.Atom a))
unfolding type_words
atom_known atoms.Int = (refl, refl)
atom_known a = (refl, refl)

ns_known : type_word (codes "ns") ≡ Some part.Ns
unfolding type_words
ns_known = refl

word_value : (names : List Bytes) (n : PlainNodes) (L : PlainLevel) (O : List PlainLevel) (w : Bytes) (x : TypeWord) (r : List Piece) →
    is_word w ≡ true → type_word w ≡ Some x →
    values names (in_type n L O) (word w ∷ r) ≡ values names (in_type n (with_part L (part_type x)) O) r
word_value names n L O w x r one known =
    ap (λ b. values names (if b then behind_part n L O (type_word w) else in_type n (with_field L (number_of names w)) O) r) one
    ∙ ap (λ o. values names (behind_part n L O o) r) known

-- ---- nodes
known : (node_word (codes "ns") ≡ Some node.Ns) × (node_word (codes "sub") ≡ Some node.Sub) × (node_word (codes "meet") ≡ Some node.Meet) ×
    (node_word (codes "alt") ≡ Some node.Alt)
    × (node_word (codes "left") ≡ Some node.Left) × (node_word (codes "right") ≡ Some node.Right) × (node_word (codes "rule") ≡ Some node.Rule)
unfolding node_words
known = (refl, refl, refl, refl, refl, refl, refl)

behind : (names : List Bytes) (n : PlainNodes) (w : Bytes) (x : NodeWord) (ts : List Piece) → node_word w ≡ Some x →
    values names (at_node n) (word w ∷ ts) ≡ values names (behind_word n (Some x)) ts
behind names n w x ts e = ap (λ o. values names (behind_word n o) ts) e

meet_given : (m : ℕ) (es : PlainDerivations) (os : List PlainOpen) (d : PlainDerivation) (b : Bool) → nat_lt (count (added es d)) m ≡ b →
    given (in_meet m es ∷ os) d ≡ given_on (if b then is_waiting (in_meet m (added es d)) else is_whole (meets (added es d))) os (given os)
meet_given m es os d b e = ap (λ b. given_on (if b then is_waiting (in_meet m (added es d)) else is_whole (meets (added es d))) os (given os)) e

rule_given : (m : ℕ) (es : PlainDerivations) (os : List PlainOpen) (d : PlainDerivation) (b : Bool) → nat_lt (count (added es d)) m ≡ b →
    given (in_rule m es ∷ os) d ≡ given_on (if b then is_waiting (in_rule m (added es d)) else is_whole (rule (added es d))) os (given os)
rule_given m es os d b e = ap (λ b. given_on (if b then is_waiting (in_rule m (added es d)) else is_whole (rule (added es d))) os (given os)) e

module _ (names : List Bytes) (distinct : IsTrue (are_distinct names)) where
  mutual
    turns : {l : TypeLevel} {A : PlainType} {ts r : List Piece} → SpellsType names l A ts r → Turns names l A ts r
    turns (an_arrow {B = E} D B) = λ n Ds O.
        let s = turns D n Ds O in
        let t = turns B n (Ds ++ meet_all s.Ms ∷ []) O in
        record { L = t.L; is = t.is ∙ (in_arrows-push Ds (meet_all s.Ms) E ∙ ap (λ X. in_arrows Ds (types.arrow X E)) s.is); same = s.same ∙ t.same }
    turns (no_arrow A) = λ n Ds O. let s = turns A n Ds O in record {
      L = record { domains = Ds; members = s.Ms; fields = [] };
      is = ap
          (in_arrows Ds) s.is;
      same = s.same;
    }
    turns (members {A = A} one all) = λ n Ds O.
        let t = more_turns all n Ds (A ∷ []) O in
        record { Ms = A ∷ t.Ns; is = ap (meet_of A) t.is; same = turns one n (record { domains = Ds; members = []; fields = [] }) O ∙ t.same }
    turns (a_field {i = i} {name = w} {A = A} {ts = ts} {r = r} numbered identifier one) = λ n L O.
        ap (λ b. values names (if b then behind_part n L O (type_word w) else in_type n (with_field L (number_of names w)) O) (sign colon ∷ ts))
        (no_word (is_name_like w) (is_word w) identifier)
        ∙ (ap (λ k. values names (in_type n (with_field L k) O) ts) (number-known names i w distinct numbered)
        ∙ (turns one n (with_field L i) O ∙ ap (λ M. values names (in_type n M O) r) (field_part L i A)))
    turns (no_field A) = turns A
    turns (ns {r = r}) = λ n L O. word_value names n L O (codes "ns") part.Ns r refl ns_known
    turns (atom {a = a} {r = r}) = λ n L O. word_value names n L O (atom_text a) (part.Atom a) r (atom_known a).0 (atom_known a).1
    turns (group {r = r} one) = λ n L O.
        let t = turns one n [] (L ∷ O) in t.same ∙ ap (λ T. values names (in_type n (with_part L T) O) r) t.is

    more_turns : {As : PlainTypes} {ts r : List Piece} → MoreTypes names As ts r → (n : PlainNodes) (Ds Ms : List PlainType) (O : List PlainLevel) →
        More names As n Ds Ms O ts r
    more_turns (no_more {r = r}) = λ n Ds Ms O.
        record {
          Ns = [];
          is = refl;
          same = ap (λ Xs. values names (in_type n (record { domains = Ds; members = Xs; fields = [] }) O) r)
              (sym (append-nil Ms));
        }
    more_turns (one_more {A = A} {r = r} one all) = λ n Ds Ms O.
        let t = more_turns all n Ds (Ms ++ A ∷ []) O in
        record {
          Ns = A ∷ t.Ns;
          is = ap (and_type A) t.is;
          same = turns one n (record { domains = Ds; members = Ms; fields = [] }) O
              ∙ (t.same ∙ ap (λ Xs. values names (in_type n (record { domains = Ds; members = Xs; fields = [] }) O) r)
              (append_assoc Ms (A ∷ []) t.Ns));
        }

  -- ---- derivations
  mutual
    derivation_value : {d : PlainDerivation} {ts r : List Piece} (os : List PlainOpen) → SpellsDerivation names d ts r →
        values names (at_node (opened os)) ts ≡ values names (at_node (given os d)) r
    derivation_value os (a_ns {r = r}) = behind names (opened os) (codes "ns") node.Ns r known.0
    derivation_value os (a_sub {T = T} {ts = ts} {m = m} one d) =
        let t = turns one (opened os) [] [] in
        behind names (opened os) (codes "sub") node.Sub (sign open_bracket ∷ ts) known.1
        ∙ (t.same ∙ (ap (λ X. values names (at_node (with_node (in_sub X) (opened os))) m) t.is ∙ derivation_value (in_sub T ∷ os) d))
    derivation_value os (a_meet {ds = ds} {ts = ts} low high all) =
        behind names (opened os) (codes "meet") node.Meet (number (count ds) ∷ ts) known.2
        ∙ meet_value os (count ds) no_derivations all (omega arith) (omega (arith, low))
    derivation_value os (an_alt {i = i} {ts = ts} small d) =
        behind names (opened os) (codes "alt") node.Alt (number i ∷ ts) known.3 ∙ derivation_value (in_alt i ∷ os) d
    derivation_value os (a_left {ts = ts} d) = behind names (opened os) (codes "left") node.Left ts known.4 ∙ derivation_value (in_left ∷ os) d
    derivation_value os (a_right {ts = ts} d) = behind names (opened os) (codes "right") node.Right ts known.5 ∙ derivation_value (in_right ∷ os) d
    derivation_value os (a_rule {ds = ds} {ts = ts} high all) =
        behind names (opened os) (codes "rule") node.Rule (number (count ds) ∷ ts) known.6 ∙ premises_value os all

    premises_value : {ds : PlainDerivations} {ts r : List Piece} (os : List PlainOpen) → SpellsDerivations names ds ts r →
        values names (behind_number (opened os) counted.Premises (count ds)) ts ≡ values names (at_node (given os (rule ds))) r
    premises_value os none = refl
    premises_value os (and_one {d = d} {ds = ds} {ts = ts} one all) =
        ap (λ m. values names (behind_number (opened os) counted.Premises m) ts) (one-add (count ds))
        ∙ (derivation_value (in_rule (suc (count ds)) no_derivations ∷ os) one ∙ rule_rest os (suc (count ds)) no_derivations d all (omega arith))

    meet_value : {ds : PlainDerivations} {ts r : List Piece} (os : List PlainOpen) (m : ℕ) (es : PlainDerivations) → SpellsDerivations names ds ts r →
        count es + count ds ≡ m → 0 < count ds →
        values names (at_node (opened (in_meet m es ∷ os))) ts ≡ values names (at_node (given os (meets (joined es ds)))) r
    meet_value os m es none many some = absurd (omega (arith, some))
    meet_value os m es (and_one {d = d} {ds = ds} {r = r} one all) many some = derivation_value (in_meet m es ∷ os) one ∙ meet_rest os m es d all many

    meet_rest : {ds : PlainDerivations} {ts r : List Piece} (os : List PlainOpen) (m : ℕ) (es : PlainDerivations) (d : PlainDerivation) →
        SpellsDerivations names ds ts r → count es + count (and_derivation d ds) ≡ m →
        values names (at_node (given (in_meet m es ∷ os) d)) ts ≡ values names (at_node (given os (meets (joined es (and_derivation d ds))))) r
    meet_rest os m es d (none {r = r}) many =
        ap (λ n. values names (at_node n) r) (meet_given m es os d false (le-ltb (count (added es d)) m (omega (arith, many, count-added es d)))
        ∙ ap (λ x. given os (meets x)) (sym (joined-one es d)))
    meet_rest os m es d (and_one {d = c} {ds = ds} {ts = ts} {r = r} one all) many =
        ap (λ n. values names (at_node n) ts) (meet_given m es os d true (lt-ltb (count (added es d)) m (omega (arith, many, count-added es d))))
        ∙ (derivation_value (in_meet m (added es d) ∷ os) one ∙ (meet_rest os m (added es d) c all (omega (arith, many, count-added es d))
        ∙ ap (λ x. values names (at_node (given os (meets x))) r) (joined-added es d (and_derivation c ds))))

    rule_rest : {ds : PlainDerivations} {ts r : List Piece} (os : List PlainOpen) (m : ℕ) (es : PlainDerivations) (d : PlainDerivation) →
        SpellsDerivations names ds ts r → count es + count (and_derivation d ds) ≡ m →
        values names (at_node (given (in_rule m es ∷ os) d)) ts ≡ values names (at_node (given os (rule (joined es (and_derivation d ds))))) r
    rule_rest os m es d (none {r = r}) many =
        ap (λ n. values names (at_node n) r) (rule_given m es os d false (le-ltb (count (added es d)) m (omega (arith, many, count-added es d)))
        ∙ ap (λ x. given os (rule x)) (sym (joined-one es d)))
    rule_rest os m es d (and_one {d = c} {ds = ds} {ts = ts} {r = r} one all) many =
        ap (λ n. values names (at_node n) ts) (rule_given m es os d true (lt-ltb (count (added es d)) m (omega (arith, many, count-added es d))))
        ∙ (derivation_value (in_rule m (added es d) ∷ os) one ∙ (rule_rest os m (added es d) c all (omega (arith, many, count-added es d))
        ∙ ap (λ x. values names (at_node (given os (rule x))) r) (joined-added es d (and_derivation c ds))))

-- the derivation that pieces gave
whole_of : Value → Option PlainDerivation
whole_of (at_node n) = n.whole
whole_of (at_bracket n) = None
whole_of (at_number c n) = None
whole_of (in_type n L O) = None

pub pieces_unique : (names : List Bytes) → IsTrue (are_distinct names) → (d e : PlainDerivation) (ps : List Piece) → SpellsDerivation names d ps [] →
    SpellsDerivation names e ps [] → d ≡ e
unfolding whole_of
pieces_unique names distinct d e ps s t =
    let same : Some d ≡ Some e = ap whole_of (sym (derivation_value names distinct [] s) ∙ derivation_value names distinct [] t) in cc

-- a text is one derivation's, under distinct names
pub text_unique : (names : List Bytes) (d e : PlainDerivation) (text : Bytes) → IsTrue (are_distinct names) → IsTextOf names d text →
    IsTextOf names e text → d ≡ e
text_unique names d e text distinct s t =
    let same = unique text begin finish finish s.spelled t.spelled refl (after_whole s.derivation) (after_whole t.derivation) in
    pieces_unique names distinct d e t.pieces (subst (λ ps. SpellsDerivation names d ps []) same s.derivation) t.derivation
