-- The depths of the nodes of a derivation are those of the words of its text.
use Rattle.std.proofs.Common.{◌≡◌, ℕ, zero, suc, ◌+◌, ◌-◌, Bool, true, false, max, List, [], ◌∷◌, ◌++◌, codes, length, take, refl, ap, sym, ◌∙◌, append_assoc, arith, length-append}
use Rattle.std.specs.Prelude.{Option, Some, None}
use Rattle.std.proofs.lemmas.List.{append-nil}
use Rattle.fy_base.specs.Outside.{Bytes}
use Rattle.fy_types.specs.Types.{PlainType, PlainTypes}
use Rattle.fy_read.specs.declared.words.NodeWord.{NodeWord}
use Rattle.fy_read.specs.declared.words.NodeWord.TheVariants as node
use Rattle.fy_derive.specs.Derivations.{PlainDerivation, PlainDerivations, by_ns, sub, meets, alt, left, right, rule, no_derivations, and_derivation, count, nodes, all_nodes, nesting, all_nesting}
use Rattle.fy_read.specs.Refusals.{first_nesting, all_first_nesting, words_from, node_words}
use Rattle.fy_read.specs.Shape.{Want, no_number, a_list, an_index, Shape, shape, first_shape, give, push, shape_of_word, shape_with, shape_after, out, outs, greatest}
use Rattle.fy_read.specs.Spelling.{Piece, word, number, sign, open_bracket, close_bracket, open_paren, close_paren, colon, arrow, ampersand, TypeLevel, SpellsType, an_arrow, no_arrow, members, a_field, no_field, ns, atom, group, MoreTypes, no_more, one_more, SpellsDerivation, a_ns, a_sub, a_meet, an_alt, a_left, a_right, a_rule, SpellsDerivations, none, and_one}
use Rattle.fy_read.specs.Steps.{node_word}
use Rattle.fy_read.proofs.WordTable.{words_known}

abbrev mutual
  -- the depths of the nodes in preorder, below so many nodes
  pub depths : ℕ → PlainDerivation → List ℕ
  depths k by_ns = suc k ∷ []
  depths k (sub T d) = suc k ∷ depths (suc k) d
  depths k (meets ds) = suc k ∷ all_depths (suc k) ds
  depths k (alt i d) = suc k ∷ depths (suc k) d
  depths k (left d) = suc k ∷ depths (suc k) d
  depths k (right d) = suc k ∷ depths (suc k) d
  depths k (rule ds) = suc k ∷ all_depths (suc k) ds

  pub all_depths : ℕ → PlainDerivations → List ℕ
  all_depths k no_derivations = []
  all_depths k (and_derivation d ds) = depths k d ++ all_depths k ds

mutual
  length-depths : (k : ℕ) (d : PlainDerivation) → length (depths k d) ≡ nodes d
  length-depths k by_ns = refl
  length-depths k (sub T d) = omega (arith, length-depths (suc k) d)
  length-depths k (meets ds) = omega (arith, length-all_depths (suc k) ds)
  length-depths k (alt i d) = omega (arith, length-depths (suc k) d)
  length-depths k (left d) = omega (arith, length-depths (suc k) d)
  length-depths k (right d) = omega (arith, length-depths (suc k) d)
  length-depths k (rule ds) = omega (arith, length-all_depths (suc k) ds)

  length-all_depths : (k : ℕ) (ds : PlainDerivations) → length (all_depths k ds) ≡ all_nodes ds
  length-all_depths k no_derivations = refl
  length-all_depths k (and_derivation d ds) = omega (arith, length-append (depths k d) (all_depths k ds), length-depths k d, length-all_depths k ds)

pub greatest-append : (xs ys : List ℕ) → greatest (xs ++ ys) ≡ max (greatest xs) (greatest ys)
greatest-append [] ys = omega arith
greatest-append (x ∷ xs) ys = omega (arith, greatest-append xs ys)

take-nil : (n : ℕ) → take {A = ℕ} n [] ≡ []
take-nil zero = refl
take-nil (suc n) = refl

zero_less : (n : ℕ) → 0 ≡ 0 - n
zero_less n = omega arith

none_less : (n : ℕ) → n - 0 ≡ n
none_less n = omega arith

both_less : (n m : ℕ) → n - m ≡ suc n - suc m
both_less n m = omega arith

take-append-both : (n : ℕ) (xs ys : List ℕ) → take n (xs ++ ys) ≡ take n xs ++ take (n - length xs) ys
take-append-both zero [] ys = refl
take-append-both zero (x ∷ xs) ys = ap (λ m. take m ys) (zero_less (length (x ∷ xs)))
take-append-both (suc n) [] ys = ap (λ m. take m ys) (sym (none_less (suc n)))
take-append-both (suc n) (x ∷ xs) ys = ap (λ l. x ∷ l) (take-append-both n xs ys ∙ ap (λ m. take n xs ++ take m ys) (both_less n (length xs)))

mutual
  greatest-depths : (k : ℕ) (d : PlainDerivation) → greatest (depths k d) ≡ k + nesting d
  greatest-depths k by_ns = omega arith
  greatest-depths k (sub T d) = omega (arith, greatest-depths (suc k) d)
  greatest-depths k (meets ds) = omega (arith, greatest-all_depths (suc k) ds)
  greatest-depths k (alt i d) = omega (arith, greatest-depths (suc k) d)
  greatest-depths k (left d) = omega (arith, greatest-depths (suc k) d)
  greatest-depths k (right d) = omega (arith, greatest-depths (suc k) d)
  greatest-depths k (rule ds) = omega (arith, greatest-all_depths (suc k) ds)

  greatest-all_depths : (k : ℕ) (ds : PlainDerivations) → max k (greatest (all_depths k ds)) ≡ k + all_nesting ds
  greatest-all_depths k no_derivations = omega arith
  greatest-all_depths k (and_derivation d ds) =
      omega (arith, greatest-append (depths k d) (all_depths k ds), greatest-depths k d, greatest-all_depths k ds)

mutual
  nesting-depths : (n k : ℕ) (d : PlainDerivation) → max k (greatest (take n (depths k d))) ≡ k + first_nesting n d
  nesting-depths zero k by_ns = omega arith
  nesting-depths zero k (sub T d) = omega arith
  nesting-depths zero k (meets ds) = omega arith
  nesting-depths zero k (alt i d) = omega arith
  nesting-depths zero k (left d) = omega arith
  nesting-depths zero k (right d) = omega arith
  nesting-depths zero k (rule ds) = omega arith
  nesting-depths (suc n) k by_ns = ap (λ xs. max k (max (suc k) (greatest xs))) (take-nil n) ∙ omega arith
  nesting-depths (suc n) k (sub T d) = omega (arith, nesting-depths n (suc k) d)
  nesting-depths (suc n) k (meets ds) = omega (arith, nesting-all_depths n (suc k) ds)
  nesting-depths (suc n) k (alt i d) = omega (arith, nesting-depths n (suc k) d)
  nesting-depths (suc n) k (left d) = omega (arith, nesting-depths n (suc k) d)
  nesting-depths (suc n) k (right d) = omega (arith, nesting-depths n (suc k) d)
  nesting-depths (suc n) k (rule ds) = omega (arith, nesting-all_depths n (suc k) ds)

  nesting-all_depths : (n k : ℕ) (ds : PlainDerivations) → max k (greatest (take n (all_depths k ds))) ≡ k + all_first_nesting n ds
  nesting-all_depths n k no_derivations = ap (λ xs. max k (greatest xs)) (take-nil n) ∙ omega arith
  nesting-all_depths n k (and_derivation d ds) =
      ap (λ xs. max k (greatest xs)) (take-append-both n (depths k d) (all_depths k ds)
      ∙ ap (λ m. take n (depths k d) ++ take (n - m) (all_depths k ds)) (length-depths k d))
      ∙ omega (
        arith,
        greatest-append (take n (depths k d)) (take (n - nodes d) (all_depths k ds)),
        nesting-depths n k d,
        nesting-all_depths
            (n - nodes d) k ds,
      )

-- ---- the words of a text
pub outs-append : (s : Shape) (ps qs : List Piece) → outs s (ps ++ qs) ≡ outs s ps ++ outs (shape_after s ps) qs
outs-append s [] qs = refl
outs-append s (p ∷ ps) qs =
    ap (λ xs. out s p ++ xs) (outs-append (shape_with s p) ps qs)
    ∙ sym (append_assoc (out s p) (outs (shape_with s p) ps) (outs (shape_after (shape_with s p) ps) qs))

pub shape-append : (s : Shape) (ps qs : List Piece) → shape_after s (ps ++ qs) ≡ shape_after (shape_after s ps) qs
shape-append s [] qs = refl
shape-append s (p ∷ ps) qs = shape-append (shape_with s p) ps qs

-- a type in brackets has no node, and changes nothing
mutual
  type_outs : {names : List Bytes} {l : TypeLevel} {A : PlainType} {ts r : List Piece} (S : List ℕ) (n : Want) → SpellsType names l A ts r →
      outs (shape S true n) ts ≡ outs (shape S true n) r
  type_outs S n (an_arrow D B) = type_outs S n D ∙ type_outs S n B
  type_outs S n (no_arrow A) = type_outs S n A
  type_outs S n (members A As) = type_outs S n A ∙ more_outs S n As
  type_outs S n (a_field numbered identifier A) = type_outs S n A
  type_outs S n (no_field A) = type_outs S n A
  type_outs S n ns = refl
  type_outs S n atom = refl
  type_outs S n (group A) = type_outs S n A

  more_outs : {names : List Bytes} {As : PlainTypes} {ts r : List Piece} (S : List ℕ) (n : Want) → MoreTypes names As ts r →
      outs (shape S true n) ts ≡ outs (shape S true n) r
  more_outs S n no_more = refl
  more_outs S n (one_more A As) = type_outs S n A ∙ more_outs S n As

count_more : (n : ℕ) → 1 + n ≡ suc n
count_more n = omega arith

give-push : (m : ℕ) (S : List ℕ) → give (suc m ∷ S) ≡ push m S
give-push zero S = refl
give-push (suc m) S = refl

-- behind a node's word
abbrev Behind : List ℕ → Bytes → NodeWord → Type 0
Behind S w x = (ts : List Piece) → outs (shape S false no_number) (word w ∷ ts) ≡ suc (length S) ∷ outs (shape_of_word S (Some x)) ts

behind : (S : List ℕ) (w : Bytes) (x : NodeWord) → node_word w ≡ Some x → Behind S w x
behind S w x e ts = ap (λ o. suc (length S) ∷ outs (shape_of_word S o) ts) e

mutual
  derivation_outs : {names : List Bytes} {d : PlainDerivation} {ts r : List Piece} (S : List ℕ) → SpellsDerivation names d ts r →
      outs (shape S false no_number) ts ≡ depths (length S) d ++ outs (shape (give S) false no_number) r
  derivation_outs S (a_ns {r = r}) = behind S (codes "ns") node.Ns words_known.0 r
  derivation_outs S (a_sub {ts = ts} T d) =
      behind S (codes "sub") node.Sub words_known.1 (sign open_bracket ∷ ts)
      ∙ ap (λ xs. suc (length S) ∷ xs) (type_outs S no_number T ∙ derivation_outs (1 ∷ S) d)
  derivation_outs S (a_meet {ds = ds} {ts = ts} low high all) =
      behind S (codes "meet") node.Meet words_known.2 (number (count ds) ∷ ts) ∙ ap (λ xs. suc (length S) ∷ xs) (derivations_outs S all)
  derivation_outs S (an_alt {i = i} {ts = ts} small d) =
      behind S (codes "alt") node.Alt words_known.3 (number i ∷ ts) ∙ ap (λ xs. suc (length S) ∷ xs) (derivation_outs (1 ∷ S) d)
  derivation_outs S (a_left {ts = ts} d) = behind S (codes "left") node.Left words_known.4 ts ∙ ap (λ xs. suc (length S) ∷ xs)
      (derivation_outs (1 ∷ S) d)
  derivation_outs S (a_right {ts = ts} d) = behind S (codes "right") node.Right words_known.5 ts ∙ ap (λ xs. suc (length S) ∷ xs)
      (derivation_outs (1 ∷ S) d)
  derivation_outs S (a_rule {ds = ds} {ts = ts} high all) =
      behind S (codes "rule") node.Rule words_known.6 (number (count ds) ∷ ts) ∙ ap (λ xs. suc (length S) ∷ xs) (derivations_outs S all)

  derivations_outs : {names : List Bytes} {ds : PlainDerivations} {ts r : List Piece} (S : List ℕ) → SpellsDerivations names ds ts r →
      outs (shape (push (count ds) S) false no_number) ts ≡ all_depths (suc (length S)) ds ++ outs (shape (give S) false no_number) r
  derivations_outs S none = refl
  derivations_outs S (and_one {d = d} {ds = ds} {ts = ts} {m = m} {r = r} one all) =
      ap (λ n. outs (shape (push n S) false no_number) ts) (count_more (count ds))
      ∙ (derivation_outs (suc (count ds) ∷ S) one
      ∙ (ap (λ R. depths (suc (length S)) d ++ outs (shape R false no_number) m) (give-push (count ds) S)
      ∙ (ap (λ xs. depths (suc (length S)) d ++ xs) (derivations_outs S all)
      ∙ sym (append_assoc (depths (suc (length S)) d) (all_depths (suc (length S)) ds) (outs (shape (give S) false no_number) r)))))

word-outs : (S : List ℕ) (o : Option NodeWord) (ps : List Piece) →
    ((S : List ℕ) (n : Want) → length (outs (shape S false n) ps) ≡ words_from false ps) →
    length (outs (shape_of_word S o) ps) ≡ words_from false ps
word-outs S None ps ih = ih S no_number
word-outs S (Some node.Ns) ps ih = ih (give S) no_number
word-outs S (Some node.Sub) ps ih = ih S no_number
word-outs S (Some node.Meet) ps ih = ih S a_list
word-outs S (Some node.Alt) ps ih = ih S an_index
word-outs S (Some node.Left) ps ih = ih (1 ∷ S) no_number
word-outs S (Some node.Right) ps ih = ih (1 ∷ S) no_number
word-outs S (Some node.Rule) ps ih = ih S a_list

-- as many nodes as words
length-outs : (S : List ℕ) (i : Bool) (n : Want) (ps : List Piece) → length (outs (shape S i n) ps) ≡ words_from i ps
length-outs S true n [] = refl
length-outs S false n [] = refl
length-outs S true n (word w ∷ ps) = length-outs S true n ps
length-outs S false n (word w ∷ ps) = omega (arith, word-outs S (node_word w) ps (λ S n. length-outs S false n ps))
length-outs S true n (number m ∷ ps) = length-outs S true n ps
length-outs S false no_number (number m ∷ ps) = length-outs S false no_number ps
length-outs S false a_list (number m ∷ ps) = length-outs (push m S) false no_number ps
length-outs S false an_index (number m ∷ ps) = length-outs (1 ∷ S) false no_number ps
length-outs S true n (sign open_bracket ∷ ps) = length-outs S true n ps
length-outs S false n (sign open_bracket ∷ ps) = length-outs S true n ps
length-outs S true n (sign close_bracket ∷ ps) = length-outs (1 ∷ S) false n ps
length-outs S false n (sign close_bracket ∷ ps) = length-outs (1 ∷ S) false n ps
length-outs S true n (sign open_paren ∷ ps) = length-outs S true n ps
length-outs S false n (sign open_paren ∷ ps) = length-outs S false n ps
length-outs S true n (sign close_paren ∷ ps) = length-outs S true n ps
length-outs S false n (sign close_paren ∷ ps) = length-outs S false n ps
length-outs S true n (sign colon ∷ ps) = length-outs S true n ps
length-outs S false n (sign colon ∷ ps) = length-outs S false n ps
length-outs S true n (sign arrow ∷ ps) = length-outs S true n ps
length-outs S false n (sign arrow ∷ ps) = length-outs S false n ps
length-outs S true n (sign ampersand ∷ ps) = length-outs S true n ps
length-outs S false n (sign ampersand ∷ ps) = length-outs S false n ps

pub node_words-outs : (ps : List Piece) → length (outs first_shape ps) ≡ node_words ps
node_words-outs ps = length-outs [] false no_number ps

take-front : (xs ys : List ℕ) → take (length xs) (xs ++ ys) ≡ xs
take-front [] ys = refl
take-front (x ∷ xs) ys = ap (λ l. x ∷ l) (take-front xs ys)

-- the greatest depth of the nodes whose words the pieces are is the same in each derivation that begins so
pub nesting-begun : {names : List Bytes} {d : PlainDerivation} (ps more : List Piece) → SpellsDerivation names d (ps ++ more) [] →
    first_nesting (node_words ps) d ≡ greatest (outs first_shape ps)
nesting-begun {d = d} ps more s =
    let whole : outs first_shape (ps ++ more) ≡ depths 0 d ++ [] = derivation_outs [] s in
    let split : depths 0 d ≡ outs first_shape ps ++ outs (shape_after first_shape ps) more = sym (append-nil (depths 0 d))
    ∙ (sym whole ∙ outs-append first_shape ps more) in
    let front : take (node_words ps) (depths 0 d) ≡ outs first_shape ps =
    ap (λ m. take m (depths 0 d)) (sym (node_words-outs ps))
    ∙ (ap (take (length (outs first_shape ps))) split ∙ take-front (outs first_shape ps) (outs (shape_after first_shape ps) more)) in
    omega (arith, nesting-depths (node_words ps) 0 d, ap greatest front)

-- and those of a whole text are its nodes
pub nodes-words : {names : List Bytes} {d : PlainDerivation} {ps : List Piece} → SpellsDerivation names d ps [] →
    (nodes d ≡ node_words ps) × (nesting d ≡ greatest (outs first_shape ps))
nodes-words {d = d} {ps = ps} s =
    let whole : outs first_shape ps ≡ depths 0 d = derivation_outs [] s ∙ append-nil (depths 0 d) in
    (sym (length-depths 0 d) ∙ (ap length (sym whole) ∙ node_words-outs ps), omega (arith, greatest-depths 0 d, ap greatest whole))
