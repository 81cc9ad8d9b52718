-- From a derivation: what it concludes is answered path by path, where each of its pairs of node and shape is in the table.
use Rattle.std.proofs.Common.{ℕ, zero, suc, ◌+◌, ◌≡◌, Bool, true, false, not, ◌&&◌, ◌||◌, nat_le, List, [], ◌∷◌, ◌++◌, length, replicate, cond, eqb, eqb-true, Option, Some, None, IfSome, option_map, refl, sym, ap, ◌∙◌, subst, inl, inr, arith}
use Rattle.fy_base.specs.declared.data.Place.{Place}
use Rattle.fy_base.specs.declared.data.BinOp.{BinOp}
use Rattle.fy_types.specs.declared.types.Atom.{Atom}
use Rattle.fy_types.specs.declared.types.Atom.TheVariants.{Int, Bool as Truth, Comm, Compl, IntAcc}
use Rattle.fy_types.specs.Types.{PlainType, PlainTypes, ns, atom, arrow, field as field_type, meet}
use Rattle.fy_types.specs.Paths.{PlainPath, PlainPaths, end, no_paths, and_path, paths, all_paths}
use Rattle.fy_types.specs.PathOrder.{HasBelow}
use Rattle.fy_types.specs.Reading.{types_from}
use Rattle.fy_types.proofs.Laws.{IsSubtype-paths}
use Rattle.fy_types.proofs.OnceLemmas.{both_true}
use Rattle.fy_phrase.specs.declared.phrase.DataTy.{DataTy}
use Rattle.fy_phrase.specs.declared.phrase.DataTy.TheVariants as data_type
use Rattle.fy_phrase.specs.declared.shapes.ShapeTable.{ShapeTable}
use Rattle.fy_phrase.specs.Tree.{Tree, Trees, no_trees, and_tree, var, lit, unary, binary, cond as conditional, case, lam, app, field, sel, merge, let_in, rec, skip, seq, assign, while_do, forever, new, cells, escape, accept, put, read, mark}
use Rattle.fy_phrase.specs.Sizes.{nodes}
use Rattle.fy_derive.specs.Atoms.{data_atom, acceptor_atom, cell_type, sequence_type, datum_atom, operand_atom, unary_atom, takes, binary_atom, put_atom, is_command}
use Rattle.fy_derive.specs.Kinds.{Kind, kind_of, begins, none_begins}
use Rattle.fy_derive.specs.Derivations.{PlainDerivation, PlainDerivations, by_ns, sub, meets, alt, left, right, rule, no_derivations, and_derivation, count, nodes as derivation_nodes}
use Rattle.fy_derive.specs.Subsumption.{is_below}
use Rattle.fy_derive.specs.Rules.{nothing, Premise, premises, of_parts, provided, is_atom, same_type, are_operands, fits_operator, all_same, applied, selected, command_behind, is_assignment, fits_assignment, conclusion}
use Rattle.fy_derive.specs.Judging.{Judged, concludes, stops, AllJudged, all_conclude, then_judge, then_others, at_node, from_premises, if_form, if_count, member, alternative, operands, under, judged, each_judged, refusal}
use Rattle.fy_derive.specs.Shapes.{PlainShape, erase, HasPath, first_path, later_path, HasPair, own, in_sub, in_meet, in_alt, in_left, in_right, in_rule, OneHasPair, this_one, other_one, PremiseHasPair, this_premise, later_premise}
use Rattle.fy_derive.specs.ShapeTables.{HasPairOf}
use Rattle.fy_derive.proofs.SubsumptionLemmas.{or_cases, is_below-iff}
use Rattle.fy_derive.proofs.RuleLemmas.{same_type-true}
use Rattle.fy_derive.proofs.JudgeLemmas.{rule_judged}
use Rattle.fy_derive.proofs.SoundLemmas.{append-none, append-push, some_same, provided-some, judge-inner, others-inner, node-inner, premises-inner, form-inner, all-same}
use Rattle.fy_derive.proofs.PathTyping.{EachPath}
use Rattle.fy_derive.proofs.TypedAnswers.{variable_paths, EachPath-self, EachPath-append, EachPath-both, EachPath-called, called-EachPath, EachPath-picked, picked-EachPath, EachPath-unit, not_true, paths_at-get}
use Rattle.pe_right.specs.Typed.{IsTableOf}
use Rattle.pe_right.proofs.Demanding.{Answers, EachAnswers}
use Rattle.pe_right.proofs.AnswerLemmas.{each-above}

-- ---- each path of a list

EachPath-three : {F H K L : PlainPath → Type 0} (P : PlainPaths) → ((p : PlainPath) → F p → H p → K p → L p) →
    EachPath F P → EachPath H P → EachPath K P → EachPath L P
EachPath-three no_paths f each more most = tt
EachPath-three (and_path p P) f each more most = (f p each.0 more.0 most.0, EachPath-three P f each.1 more.1 most.1)

EachPath-among : (F : PlainPath → Type 0) (P : PlainPaths) → ((p : PlainPath) → HasPath P p → F p) → EachPath F P
EachPath-among F no_paths f = tt
EachPath-among F (and_path p P) f = (f p first_path, EachPath-among F P (λ q among. f q (later_path among)))

EachPath-clear : (kind : Kind) (P : PlainPaths) → none_begins kind P ≡ true → EachPath (λ R. begins kind R ≡ false) P
EachPath-clear kind no_paths e = tt
EachPath-clear kind (and_path p P) e =
    let both = both_true (not (begins kind p)) (none_begins kind P) e in (not_true (begins kind p) both.0, EachPath-clear kind P both.1)

-- ---- what judging went on with

test-inner : (b : Bool) (j : Judged) (n : ℕ) (A : PlainType) → cond b j (stops n) ≡ concludes A → (b ≡ true) × (j ≡ concludes A)
test-inner true j n A e = (refl, e)
test-inner false j n A e = absurd cc

count-inner : (n k : ℕ) (Ps : List Premise) (j : Judged) (A : PlainType) → if_count n k Ps j ≡ concludes A → (k ≡ length Ps) × (j ≡ concludes A)
count-inner n k Ps j A e = let x = test-inner (eqb k (length Ps)) j n A e in (eqb-true k (length Ps) x.0, x.1)

-- ---- a conclusion has nothing to do with the number of the node

mutual
  pub judged-any : (d : PlainDerivation) (n m : ℕ) (G : List PlainType) (p : Tree) (A : PlainType) → judged d n G p ≡ concludes A → judged d m G p ≡ concludes A
  judged-any by_ns n m G p A e = e
  judged-any (sub B d) n m G p A e =
      let x = judge-inner (judged d (n + 1) G p) (λ A. at_node n (provided (is_below A B) B)) A e in
      let y = node-inner n (provided (is_below x.0 B) B) A x.2 in
      ap (λ (j : Judged). then_judge j (λ A. at_node m (provided (is_below A B) B))) (judged-any d (n + 1) (m + 1) G p x.0 x.1) ∙ ap (at_node m) y
  judged-any (meets ds) n m G p A e =
      let Ps = replicate (count ds) (nothing, p) in
      let all : List PlainType → Option PlainType = λ As. Some (meet (types_from As)) in
      let x = test-inner (nat_le 2 (count ds)) (from_premises n (each_judged ds (n + 1) G Ps []) all) n A e in
      let y = premises-inner n (each_judged ds (n + 1) G Ps []) all A x.1 in
      ap (λ (b : Bool). cond b (from_premises m (each_judged ds (m + 1) G Ps []) all) (stops m)) x.0
      ∙ ap (λ (j : AllJudged). from_premises m j all) (each_judged-any ds (n + 1) (m + 1) G Ps [] y.0 y.1)
      ∙ ap (at_node m) y.2
  judged-any (alt i d) n m G p A e =
      let x = form-inner n (alternative i p) (λ x. then_judge (judged d (n + 1) (x.0 ∷ G) x.1) (λ C. concludes (arrow x.0 C))) A e in
      let y = judge-inner (judged d (n + 1) (x.0.0 ∷ G) x.0.1) (λ C. concludes (arrow x.0.0 C)) A x.2 in
      ap (λ (o : Option (PlainType × Tree)). if_form m o (λ x. then_judge (judged d (m + 1) (x.0 ∷ G) x.1) (λ C. concludes (arrow x.0 C)))) x.1
      ∙ ap (λ (j : Judged). then_judge j (λ C. concludes (arrow x.0.0 C))) (judged-any d (n + 1) (m + 1) (x.0.0 ∷ G) x.0.1 y.0 y.1)
      ∙ y.2
  judged-any (left d) n m G p A e =
      let x = form-inner n (operands p) (λ x. then_judge (judged d (n + 1) G x.0) (λ A. at_node n (provided (none_begins x.2 (paths A)) A))) A e in
      let y = judge-inner (judged d (n + 1) G x.0.0) (λ A. at_node n (provided (none_begins x.0.2 (paths A)) A)) A x.2 in
      let z = node-inner n (provided (none_begins x.0.2 (paths y.0)) y.0) A y.2 in
      ap (λ (o : Option (Tree × Tree × Kind)). if_form m o (λ x. then_judge (judged d (m + 1) G x.0) (λ A. at_node m (provided (none_begins x.2 (paths A)) A)))) x.1
      ∙ ap (λ (j : Judged). then_judge j (λ A. at_node m (provided (none_begins x.0.2 (paths A)) A))) (judged-any d (n + 1) (m + 1) G x.0.0 y.0 y.1)
      ∙ ap (at_node m) z
  judged-any (right d) n m G p A e =
      let x = form-inner n (operands p) (λ x. judged d (n + 1) G x.1) A e in
      ap (λ (o : Option (Tree × Tree × Kind)). if_form m o (λ x. judged d (m + 1) G x.1)) x.1 ∙ judged-any d (n + 1) (m + 1) G x.0.1 A x.2
  judged-any (rule ds) n m G p A e =
      let x = form-inner n (premises p) (λ Ps. if_count n (count ds) Ps (from_premises n (each_judged ds (n + 1) G Ps []) (conclusion G p))) A e in
      let y = count-inner n (count ds) x.0 (from_premises n (each_judged ds (n + 1) G x.0 []) (conclusion G p)) A x.2 in
      let z = premises-inner n (each_judged ds (n + 1) G x.0 []) (conclusion G p) A y.1 in
      rule_judged ds m G p x.0 (all_conclude z.0) x.1 y.0 (each_judged-any ds (n + 1) (m + 1) G x.0 [] z.0 z.1) ∙ ap (at_node m) z.2

  each_judged-any : (ds : PlainDerivations) (n m : ℕ) (G : List PlainType) (Ps : List Premise) (As Cs : List PlainType) → each_judged ds n G Ps As ≡ all_conclude Cs →
      each_judged ds m G Ps As ≡ all_conclude Cs
  each_judged-any no_derivations n m G Ps As Cs e = e
  each_judged-any (and_derivation d ds) n m G [] As Cs e = e
  each_judged-any (and_derivation d ds) n m G (P ∷ Ps) As Cs e =
      let x = others-inner (judged d n (under P.0 As G) P.1) (λ A. each_judged ds (n + derivation_nodes d) G Ps (As ++ A ∷ [])) Cs e in
      ap (λ (j : Judged). then_others j (λ A. each_judged ds (m + derivation_nodes d) G Ps (As ++ A ∷ []))) (judged-any d n m (under P.0 As G) P.1 x.0 x.1)
      ∙ each_judged-any ds (n + derivation_nodes d) (m + derivation_nodes d) G Ps (As ++ x.0 ∷ []) Cs x.2

-- a derivation that isn't refused concludes `comm`
pub accepted-concludes : (j : Judged) → refusal j ≡ None → j ≡ concludes (atom Comm)
accepted-concludes (stops n) e = absurd cc
accepted-concludes (concludes A) e = by (is_atom Comm A) refl e
  where
    by : (b : Bool) → is_atom Comm A ≡ b → cond {A = Option ℕ} b None (Some 0) ≡ None → concludes A ≡ concludes (atom Comm)
    by true s f = ap concludes (same_type-true A (atom Comm) s)
    by false s f = absurd cc

module _ (T : ℕ → PlainShape → Type 0) where
  -- node m, which is the phrase, answers each path of the type
  abbrev pub AnswersType : List PlainType → ℕ → Tree → PlainType → Type 0
  AnswersType G m p A = EachPath (λ P. Answers T (variable_paths G) m p P) (paths A)

  -- the shapes of the type's paths are in the table
  abbrev pub HasPairs : ℕ → PlainType → Type 0
  HasPairs m A = EachPath (λ P. T m (erase P)) (paths A)

  -- it does where they are
  abbrev Concludes : List PlainType → ℕ → Tree → PlainType → Type 0
  Concludes G m p A = HasPairs m A → AnswersType G m p A

  -- the premises' parts answer these types, in the contexts that the types before them make; the first part has the number m
  abbrev PremisesAnswer : ℕ → List PlainType → List Premise → List PlainType → List PlainType → Type 0
  PremisesAnswer m G [] As [] = Unit {0}
  PremisesAnswer m G [] As (B ∷ Bs) = ⊥
  PremisesAnswer m G (P ∷ Ps) As [] = ⊥
  PremisesAnswer m G (P ∷ Ps) As (B ∷ Bs) = AnswersType (under P.0 As G) m P.1 B × PremisesAnswer (m + nodes P.1) G Ps (As ++ B ∷ []) Bs

  answers-as : (G : List PlainType) (m : ℕ) (p : Tree) (A C : PlainType) → A ≡ C → AnswersType G m p A → AnswersType G m p C
  answers-as G m p A C e h = subst (AnswersType G m p) e h

  concludes-as : (G : List PlainType) (m : ℕ) (p : Tree) (A C : PlainType) → A ≡ C → Concludes G m p A → Concludes G m p C
  concludes-as G m p A C e h = subst (Concludes G m p) e h

  -- a type that is an atom
  end-answers : (G : List PlainType) (m : ℕ) (p : Tree) (a : Atom) (A : PlainType) → is_atom a A ≡ true → AnswersType G m p A → Answers T (variable_paths G) m p (end a)
  end-answers G m p a A e h = (answers-as G m p A (atom a) (same_type-true A (atom a) e) h).0

  -- ---- the rule of a form

  operands-answer : (G : List PlainType) (m : ℕ) (op : BinOp) (p q : Tree) (at : Place) (D : DataTy) (A B : PlainType) → are_operands op D A B ≡ true →
      AnswersType G (m + 1) p A → AnswersType G (m + 1 + nodes p) q B → Concludes G m (binary op p q at) (atom (binary_atom op))
  operands-answer G m op p q at D A B e h k mine =
      let x = both_true (takes op D) (is_atom (data_atom D) A && is_atom (data_atom D) B) e in
      let y = both_true (is_atom (data_atom D) A) (is_atom (data_atom D) B) x.1 in
      ((mine.0, (D, x.0, refl, end-answers G (m + 1) p (data_atom D) A y.0 h, end-answers G (m + 1 + nodes p) q (data_atom D) B y.1 k)), tt)

  assignment-answers : (G : List PlainType) (m : ℕ) (p q : Tree) (at : Place) (D : DataTy) (A B : PlainType) → is_assignment D A B ≡ true →
      AnswersType G (m + 1) p A → AnswersType G (m + 1 + nodes p) q B → Concludes G m (assign p q at) (atom Comm)
  assignment-answers G m p q at D A B e h k mine =
      let y = both_true (is_atom (acceptor_atom D) A) (is_atom (data_atom D) B) e in
      ((mine.0, (D, refl, end-answers G (m + 1) p (acceptor_atom D) A y.0 h, end-answers G (m + 1 + nodes p) q (data_atom D) B y.1 k)), tt)

  -- the first type is the atom, and the second is a command's
  command-behind : (a : Atom) (A R C : PlainType) → command_behind a A R ≡ Some C →
      (is_atom a A ≡ true) × (R ≡ C) × ((b : Atom) × (is_command b ≡ true) × (R ≡ atom b))
  command-behind a A R C e =
      let x = provided-some (is_atom a A && (is_atom Comm R || is_atom Compl R)) R C e in
      let y = both_true (is_atom a A) (is_atom Comm R || is_atom Compl R) x.0 in (
        y.0,
        x.1,
        or_cases (is_atom Comm R) (is_atom Compl R) y.1
            (λ t. (Comm, refl, same_type-true R (atom Comm) t)) (λ t. (Compl, refl, same_type-true R (atom Compl) t)),
      )

  parts-answer : (G : List PlainType) (ps : Trees) (A : PlainType) (As Bs : List PlainType) (m : ℕ) → PremisesAnswer m G (of_parts ps) As Bs →
      all_same A Bs ≡ true → EachPath (λ R. EachAnswers T (variable_paths G) m ps R) (paths A)
  parts-answer G no_trees A As [] m t s = EachPath-unit (paths A)
  parts-answer G no_trees A As (B ∷ Bs) m t s = absurd t
  parts-answer G (and_tree p ps) A As [] m t s = absurd t
  parts-answer G (and_tree p ps) A As (B ∷ Bs) m t s =
      let x = both_true (same_type A B) (all_same A Bs) s in
      EachPath-both (paths A) (λ R x y. (x, y)) (answers-as G m p B A (sym (same_type-true A B x.0)) t.0)
      (parts-answer G ps A (As ++ B ∷ []) Bs (m + nodes p) t.1 x.1)

  applied-answers : (G : List PlainType) (m : ℕ) (p q : Tree) (at : Place) (F B C : PlainType) → applied F B ≡ Some C → AnswersType G (m + 1) p F →
      AnswersType G (m + 1 + nodes p) q B → Concludes G m (app p q at) C
  applied-answers G m p q at (arrow A D) B C e h k =
      let x = provided-some (same_type A B) D C e in
      let a = answers-as G (m + 1 + nodes p) q B A (sym (same_type-true A B x.0)) k in
      concludes-as G m (app p q at) D C x.1
      (λ mine. EachPath-both (paths D) (λ R t y. (t, (paths A, y, a))) mine
      (called-EachPath (λ P. Answers T (variable_paths G) (m + 1) p P) (paths A) (paths D) h))
  applied-answers G m p q at F B C e h k = absurd cc

  selected-answers : (G : List PlainType) (m : ℕ) (p : Tree) (i : ℕ) (at : Place) (F C : PlainType) → selected F i ≡ Some C → AnswersType G (m + 1) p F →
      Concludes G m (sel p i at) C
  selected-answers G m p i at (field_type j A) C e h =
      let x = provided-some (eqb i j) A C e in
      let a = answers-as G (m + 1) p (field_type j A) (field_type i A) (ap (λ (k : ℕ). field_type k A) (sym (eqb-true i j x.0))) h in
      concludes-as G m (sel p i at) A C x.1
      (λ mine. EachPath-both (paths A) (λ R t y. (t, y)) mine (picked-EachPath (λ P. Answers T (variable_paths G) (m + 1) p P) i (paths A) a))
  selected-answers G m p i at F C e h = absurd cc

  conclusion-answers : (G : List PlainType) (m : ℕ) (p : Tree) (Bs : List PlainType) (C : PlainType) →
      IfSome (premises p) (λ Ps. PremisesAnswer (m + 1) G Ps [] Bs) → conclusion G p Bs ≡ Some C → Concludes G m p C
  conclusion-answers G m (var k at) [] C t e = λ mine.
      EachPath-both (paths C) (λ R x y. (x, y)) mine
      (subst (λ D. EachPath (λ R. HasBelow D R) (paths C)) (sym (paths_at-get G k C e)) (EachPath-self (paths C)))
  conclusion-answers G m (var k at) (A ∷ As) C t e = absurd t
  conclusion-answers G m (lit v at) [] C t e =
      concludes-as G m (lit v at) (atom (datum_atom v)) C (some_same e) (λ mine. ((mine.0, refl), tt))
  conclusion-answers G m (lit v at) (A ∷ As) C t e = absurd t
  conclusion-answers G m (unary op p at) [] C t e = absurd t
  conclusion-answers G m (unary op p at) (A ∷ []) C t e =
      let x = provided-some (is_atom (operand_atom op) A) (atom (unary_atom op)) C e in
      concludes-as G m (unary op p at) (atom (unary_atom op)) C x.1
      (λ mine. ((mine.0, refl, end-answers G (m + 1) p (operand_atom op) A x.0 t.0), tt))
  conclusion-answers G m (unary op p at) (A ∷ B ∷ Bs) C t e = absurd t.1
  conclusion-answers G m (binary op p q at) [] C t e = absurd t
  conclusion-answers G m (binary op p q at) (A ∷ []) C t e = absurd t.1
  conclusion-answers G m (binary op p q at) (A ∷ B ∷ []) C t e =
      let x = provided-some (fits_operator op A B) (atom (binary_atom op)) C e in
      concludes-as G m (binary op p q at) (atom (binary_atom op)) C x.1
      (or_cases (are_operands op data_type.Int A B) (are_operands op data_type.Bool A B || are_operands op data_type.Char A B) x.0
      (λ s. operands-answer G m op p q at data_type.Int A B s t.0 t.1.0)
      (λ s. or_cases (are_operands op data_type.Bool A B) (are_operands op data_type.Char A B) s
      (λ r. operands-answer G m op p q at data_type.Bool A B r t.0 t.1.0) (λ r. operands-answer G m op p q at data_type.Char A B r t.0 t.1.0)))
  conclusion-answers G m (binary op p q at) (A ∷ B ∷ D ∷ Ds) C t e = absurd t.1.1
  conclusion-answers G m (conditional b p q at) [] C t e = absurd t
  conclusion-answers G m (conditional b p q at) (A ∷ []) C t e = absurd t.1
  conclusion-answers G m (conditional b p q at) (A ∷ B ∷ []) C t e = absurd t.1.1
  conclusion-answers G m (conditional b p q at) (A ∷ B ∷ D ∷ []) C t e =
      let x = provided-some (is_atom Truth A && same_type B D) B C e in
      let y = both_true (is_atom Truth A) (same_type B D) x.0 in
      let a = end-answers G (m + 1) b Truth A y.0 t.0 in
      let d = answers-as G (m + 1 + nodes b + nodes p) q D B (sym (same_type-true B D y.1)) t.1.1.0 in
      concludes-as G m (conditional b p q at) B C x.1
      (λ mine. EachPath-three (paths B) (λ R h x y. (h, a, x, y)) mine t.1.0 d)
  conclusion-answers G m (conditional b p q at) (A ∷ B ∷ D ∷ E ∷ Es) C t e = absurd t.1.1.1
  conclusion-answers G m (case e ps at) [] C t f = absurd t
  conclusion-answers G m (case e ps at) (E ∷ []) C t f = absurd cc
  conclusion-answers G m (case e no_trees at) (E ∷ A ∷ As) C t f = absurd t.1
  conclusion-answers G m (case e (and_tree p ps) at) (E ∷ A ∷ As) C t f =
      let x = provided-some (is_atom Int E && all_same A As) A C f in
      let y = both_true (is_atom Int E) (all_same A As) x.0 in
      let a = end-answers G (m + 1) e Int E y.0 t.0 in
      let more = parts-answer G ps A (E ∷ A ∷ []) As (m + 1 + nodes e + nodes p) t.1.1 y.1 in
      concludes-as G m (case e (and_tree p ps) at) A C x.1
      (λ mine. EachPath-three (paths A) (λ R h x y. (h, a, (x, y))) mine t.1.0 more)
  conclusion-answers G m (lam d As b at) Bs C t e = absurd cc
  conclusion-answers G m (app p q at) [] C t e = absurd t
  conclusion-answers G m (app p q at) (A ∷ []) C t e = absurd t.1
  conclusion-answers G m (app p q at) (A ∷ B ∷ []) C t e = applied-answers G m p q at A B C e t.0 t.1.0
  conclusion-answers G m (app p q at) (A ∷ B ∷ D ∷ Ds) C t e = absurd t.1.1
  conclusion-answers G m (field i p at) [] C t e = absurd t
  conclusion-answers G m (field i p at) (A ∷ []) C t e =
      concludes-as G m (field i p at) (field_type i A) C (some_same e)
      (λ mine. EachPath-picked (λ P. Answers T (variable_paths G) m (field i p at) P) i (paths A)
      (EachPath-both (paths A) (λ R h k. (h, (R, refl, k))) (picked-EachPath (λ P. T m (erase P)) i (paths A) mine) t.0))
  conclusion-answers G m (field i p at) (A ∷ B ∷ Bs) C t e = absurd t.1
  conclusion-answers G m (sel p i at) [] C t e = absurd t
  conclusion-answers G m (sel p i at) (A ∷ []) C t e = selected-answers G m p i at A C e t.0
  conclusion-answers G m (sel p i at) (A ∷ B ∷ Bs) C t e = absurd t.1
  conclusion-answers G m (merge p q at) Bs C t e = absurd cc
  conclusion-answers G m (let_in d p b at) [] C t e = absurd t
  conclusion-answers G m (let_in d p b at) (A ∷ []) C t e = absurd t.1
  conclusion-answers G m (let_in d p b at) (A ∷ B ∷ []) C t e =
      concludes-as G m (let_in d p b at) B C (some_same e) (λ mine. EachPath-both (paths B) (λ R h k. (h, (paths A, t.0, k))) mine t.1.0)
  conclusion-answers G m (let_in d p b at) (A ∷ B ∷ D ∷ Ds) C t e = absurd t.1.1
  conclusion-answers G m (rec d E b at) [] C t e = absurd t
  conclusion-answers G m (rec d E b at) (A ∷ []) C t e =
      let x = provided-some (same_type A E) E C e in
      let a = answers-as (E ∷ G) (m + 1) b A E (same_type-true A E x.0) t.0 in
      concludes-as G m (rec d E b at) E C x.1 (λ mine. EachPath-both (paths E) (λ R h some. (h, some, mine, a)) mine (EachPath-self (paths E)))
  conclusion-answers G m (rec d E b at) (A ∷ B ∷ Bs) C t e = absurd t.1
  conclusion-answers G m (skip at) [] C t e = concludes-as G m (skip at) (atom Comm) C (some_same e) (λ mine. ((mine.0, refl), tt))
  conclusion-answers G m (skip at) (A ∷ As) C t e = absurd t
  conclusion-answers G m (seq p q at) [] C t e = absurd t
  conclusion-answers G m (seq p q at) (A ∷ []) C t e = absurd t.1
  conclusion-answers G m (seq p q at) (A ∷ B ∷ []) C t e =
      let x = command-behind Comm A B C e in
      let q_answers = answers-as G (m + 1 + nodes p) q B (atom x.2.0) x.2.2 t.1.0 in
      concludes-as G m (seq p q at) B C x.1 (concludes-as G m (seq p q at) (atom x.2.0) B (sym x.2.2)
      (λ mine. ((mine.0, (x.2.0, x.2.1, refl), end-answers G (m + 1) p Comm A x.0 t.0, q_answers.0), tt)))
  conclusion-answers G m (seq p q at) (A ∷ B ∷ D ∷ Ds) C t e = absurd t.1.1
  conclusion-answers G m (assign p q at) [] C t e = absurd t
  conclusion-answers G m (assign p q at) (A ∷ []) C t e = absurd t.1
  conclusion-answers G m (assign p q at) (A ∷ B ∷ []) C t e =
      let x = provided-some (fits_assignment A B) (atom Comm) C e in
      concludes-as G m (assign p q at) (atom Comm) C x.1
      (or_cases (is_assignment data_type.Int A B) (is_assignment data_type.Bool A B || is_assignment data_type.Char A B) x.0
      (λ s. assignment-answers G m p q at data_type.Int A B s t.0 t.1.0)
      (λ s. or_cases (is_assignment data_type.Bool A B) (is_assignment data_type.Char A B) s
      (λ r. assignment-answers G m p q at data_type.Bool A B r t.0 t.1.0) (λ r. assignment-answers G m p q at data_type.Char A B r t.0 t.1.0)))
  conclusion-answers G m (assign p q at) (A ∷ B ∷ D ∷ Ds) C t e = absurd t.1.1
  conclusion-answers G m (while_do b c at) [] C t e = absurd t
  conclusion-answers G m (while_do b c at) (A ∷ []) C t e = absurd t.1
  conclusion-answers G m (while_do b c at) (A ∷ B ∷ []) C t e =
      let x = provided-some (is_atom Truth A && is_atom Comm B) (atom Comm) C e in
      let y = both_true (is_atom Truth A) (is_atom Comm B) x.0 in
      concludes-as G m (while_do b c at) (atom Comm) C x.1
      (λ mine. ((mine.0, refl, end-answers G (m + 1) b Truth A y.0 t.0, end-answers G (m + 1 + nodes b) c Comm B y.1 t.1.0), tt))
  conclusion-answers G m (while_do b c at) (A ∷ B ∷ D ∷ Ds) C t e = absurd t.1.1
  conclusion-answers G m (forever c at) [] C t e = absurd t
  conclusion-answers G m (forever c at) (A ∷ []) C t e =
      let x = provided-some (is_atom Comm A) (atom Compl) C e in
      concludes-as G m (forever c at) (atom Compl) C x.1
      (λ mine. ((mine.0, (Compl, refl, refl), end-answers G (m + 1) c Comm A x.0 t.0), tt))
  conclusion-answers G m (forever c at) (A ∷ B ∷ Bs) C t e = absurd t.1
  conclusion-answers G m (new d D p b at) [] C t e = absurd t
  conclusion-answers G m (new d D p b at) (A ∷ []) C t e = absurd t.1
  conclusion-answers G m (new d D p b at) (A ∷ B ∷ []) C t e =
      let x = command-behind (data_atom D) A B C e in
      let body = answers-as (cell_type D ∷ G) (m + 1 + nodes p) b B (atom x.2.0) x.2.2 t.1.0 in
      concludes-as G m (new d D p b at) B C x.1 (concludes-as G m (new d D p b at) (atom x.2.0) B (sym x.2.2)
      (λ mine. ((mine.0, (x.2.0, x.2.1, refl), end-answers G (m + 1) p (data_atom D) A x.0 t.0, body.0), tt)))
  conclusion-answers G m (new d D p b at) (A ∷ B ∷ E ∷ Es) C t e = absurd t.1.1
  conclusion-answers G m (cells d p b at) [] C t e = absurd t
  conclusion-answers G m (cells d p b at) (A ∷ []) C t e = absurd t.1
  conclusion-answers G m (cells d p b at) (A ∷ B ∷ []) C t e =
      let x = command-behind Int A B C e in
      let body = answers-as (sequence_type ∷ G) (m + 1 + nodes p) b B (atom x.2.0) x.2.2 t.1.0 in
      concludes-as G m (cells d p b at) B C x.1 (concludes-as G m (cells d p b at) (atom x.2.0) B (sym x.2.2)
      (λ mine. ((mine.0, (x.2.0, x.2.1, refl), end-answers G (m + 1) p Int A x.0 t.0, body.0), tt)))
  conclusion-answers G m (cells d p b at) (A ∷ B ∷ E ∷ Es) C t e = absurd t.1.1
  conclusion-answers G m (escape d b at) [] C t e = absurd t
  conclusion-answers G m (escape d b at) (A ∷ []) C t e =
      let x = provided-some (is_atom Comm A) (atom Comm) C e in
      concludes-as G m (escape d b at) (atom Comm) C x.1
      (λ mine. ((mine.0, refl, end-answers (atom Compl ∷ G) (m + 1) b Comm A x.0 t.0), tt))
  conclusion-answers G m (escape d b at) (A ∷ B ∷ Bs) C t e = absurd t.1
  conclusion-answers G m (accept d D b at) [] C t e = absurd t
  conclusion-answers G m (accept d D b at) (A ∷ []) C t e =
      let x = provided-some (is_atom Comm A) (atom (acceptor_atom D)) C e in
      concludes-as G m (accept d D b at) (atom (acceptor_atom D)) C x.1
      (λ mine. ((mine.0, refl, end-answers (atom (data_atom D) ∷ G) (m + 1) b Comm A x.0 t.0), tt))
  conclusion-answers G m (accept d D b at) (A ∷ B ∷ Bs) C t e = absurd t.1
  conclusion-answers G m (put kind p at) [] C t e = absurd t
  conclusion-answers G m (put kind p at) (A ∷ []) C t e =
      let x = provided-some (is_atom (put_atom kind) A) (atom Comm) C e in
      concludes-as G m (put kind p at) (atom Comm) C x.1
      (λ mine. ((mine.0, refl, end-answers G (m + 1) p (put_atom kind) A x.0 t.0), tt))
  conclusion-answers G m (put kind p at) (A ∷ B ∷ Bs) C t e = absurd t.1
  conclusion-answers G m (read p at) [] C t e = absurd t
  conclusion-answers G m (read p at) (A ∷ []) C t e =
      let x = provided-some (is_atom IntAcc A) (atom Comm) C e in
      concludes-as G m (read p at) (atom Comm) C x.1 (λ mine. ((mine.0, refl, end-answers G (m + 1) p IntAcc A x.0 t.0), tt))
  conclusion-answers G m (read p at) (A ∷ B ∷ Bs) C t e = absurd t.1
  conclusion-answers G m (mark k at) Bs C t e = absurd cc

  -- ---- abstractions and merges

  alternative-body : (i d : ℕ) (As : PlainTypes) (b : Tree) (at : Place) (x : PlainType × Tree) → alternative i (lam d As b at) ≡ Some x → b ≡ x.1
  alternative-body i d As b at x e = by (member As i) e
    where
      by : (o : Option PlainType) → option_map (λ A. (A, b)) o ≡ Some x → b ≡ x.1
      by None f = absurd cc
      by (Some A) f = let pair : (A, b) ≡ x = some_same f in ap (λ y. y.1) pair

  alternative-answers : (G : List PlainType) (m i : ℕ) (p : Tree) (x : PlainType × Tree) (C : PlainType) → alternative i p ≡ Some x →
      AnswersType (x.0 ∷ G) (m + 1) x.1 C → Concludes G m p (arrow x.0 C)
  alternative-answers G m i (lam d As b at) x C e h mine =
      let a = subst (λ q. AnswersType (x.0 ∷ G) (m + 1) q C) (sym (alternative-body i d As b at x e)) h in
      EachPath-called (λ P. Answers T (variable_paths G) m (lam d As b at) P) (paths x.0) (paths C)
      (EachPath-both (paths C) (λ R t k. (t, (paths x.0, R, refl, k))) (called-EachPath (λ P. T m (erase P)) (paths x.0) (paths C) mine) a)
  alternative-answers G m i p x C e h mine = absurd cc

  operands-kind : (p q : Tree) (at : Place) (x : Tree × Tree × Kind) → operands (merge p q at) ≡ Some x → (p ≡ x.0) × (q ≡ x.1) × (kind_of q ≡ Some x.2)
  operands-kind p q at x e = by (kind_of q) refl e
    where
      by : (o : Option Kind) → kind_of q ≡ o → option_map (λ k. (p, q, k)) o ≡ Some x → (p ≡ x.0) × (q ≡ x.1) × (kind_of q ≡ Some x.2)
      by None s f = absurd cc
      by (Some k) s f =
          let triple : (p, q, k) ≡ x = some_same f in
          (ap (λ y. y.0) triple, ap (λ y. y.1) triple, s ∙ ap (λ y. Some y.2) triple)

  left-answers : (G : List PlainType) (m : ℕ) (p : Tree) (x : Tree × Tree × Kind) (A : PlainType) → operands p ≡ Some x →
      AnswersType G (m + 1) x.0 A → none_begins x.2 (paths A) ≡ true → Concludes G m p A
  left-answers G m (merge p q at) x A e h clear mine =
      let y = operands-kind p q at x e in
      let a = subst (λ r. AnswersType G (m + 1) r A) (sym y.0) h in
      EachPath-three (paths A) (λ R t s k. (t, (x.2, y.2, inl (s, k)))) mine (EachPath-clear x.2 (paths A) clear) a
  left-answers G m p x A e h clear mine = absurd cc

  right-answers : (G : List PlainType) (m : ℕ) (p : Tree) (x : Tree × Tree × Kind) (A : PlainType) → operands p ≡ Some x →
      AnswersType G (m + 1 + nodes x.0) x.1 A → Concludes G m p A
  right-answers G m (merge p q at) x A e h mine =
      let y = operands-kind p q at x e in
      let a = subst (λ r. AnswersType G (m + 1 + nodes r) x.1 A) (sym y.0) h in
      let b = subst (λ r. AnswersType G (m + 1 + nodes p) r A) (sym y.1) a in
      EachPath-both (paths A) (λ R t k. (t, (x.2, y.2, inr k))) mine b
  right-answers G m p x A e h mine = absurd cc

  -- ---- derivations

  own-pairs : (d : PlainDerivation) (n m : ℕ) (G : List PlainType) (p : Tree) (A : PlainType) → judged d n G p ≡ concludes A →
      ((k : ℕ) (s : PlainShape) → HasPair d m G p k s → T k s) → HasPairs m A
  own-pairs d n m G p A e t = EachPath-among (λ P. T m (erase P)) (paths A) (λ P among. t m (erase P) (own (judged-any d n 0 G p A e) among))

  mutual
    pub derived-answers : (d : PlainDerivation) (n m : ℕ) (G : List PlainType) (p : Tree) (A : PlainType) → judged d n G p ≡ concludes A →
        ((k : ℕ) (s : PlainShape) → HasPair d m G p k s → T k s) → AnswersType G m p A
    derived-answers by_ns n m G p A e t = answers-as G m p ns A (cc) tt
    derived-answers (sub B d) n m G p A e t =
        let x = judge-inner (judged d (n + 1) G p) (λ A. at_node n (provided (is_below A B) B)) A e in
        let y = provided-some (is_below x.0 B) B A (node-inner n (provided (is_below x.0 B) B) A x.2) in
        answers-as G m p B A y.1
        (each-above T p (variable_paths G) m (paths x.0) (paths B) (IsSubtype-paths ((is_below-iff x.0 B).0 y.0))
        (derived-answers d (n + 1) m G p x.0 x.1 (λ k s h. t k s (in_sub h))))
    derived-answers (meets ds) n m G p A e t =
        let c = count ds in
        let x = test-inner (nat_le 2 c) (from_premises n (each_judged ds (n + 1) G (replicate c (nothing, p)) []) (λ As. Some (meet (types_from As)))) n A e in
        let y = premises-inner n (each_judged ds (n + 1) G (replicate c (nothing, p)) []) (λ As. Some (meet (types_from As))) A x.1 in
        let z = met-answers ds c (n + 1) m G p [] y.0 refl y.1 (λ k s h. t k s (in_meet h)) in
        answers-as G m p (meet (types_from z.0)) A (ap (λ Bs. meet (types_from Bs)) (sym z.1) ∙ some_same y.2) z.2
    derived-answers (alt i d) n m G p A e t =
        let x = form-inner n (alternative i p) (λ x. then_judge (judged d (n + 1) (x.0 ∷ G) x.1) (λ C. concludes (arrow x.0 C))) A e in
        let y = judge-inner (judged d (n + 1) (x.0.0 ∷ G) x.0.1) (λ C. concludes (arrow x.0.0 C)) A x.2 in
        let same : arrow x.0.0 y.0 ≡ A = cc in
        concludes-as G m p (arrow x.0.0 y.0) A same
        (alternative-answers G m i p x.0 y.0 x.1 (derived-answers d (n + 1) (m + 1) (x.0.0 ∷ G) x.0.1 y.0 y.1 (λ k s h. t k s (in_alt x.1 h))))
        (own-pairs (alt i d) n m G p A e t)
    derived-answers (left d) n m G p A e t =
        let x = form-inner n (operands p) (λ x. then_judge (judged d (n + 1) G x.0) (λ A. at_node n (provided (none_begins x.2 (paths A)) A))) A e in
        let y = judge-inner (judged d (n + 1) G x.0.0) (λ A. at_node n (provided (none_begins x.0.2 (paths A)) A)) A x.2 in
        let z = provided-some (none_begins x.0.2 (paths y.0)) y.0 A (node-inner n (provided (none_begins x.0.2 (paths y.0)) y.0) A y.2) in
        concludes-as G m p y.0 A z.1
        (left-answers G m p x.0 y.0 x.1 (derived-answers d (n + 1) (m + 1) G x.0.0 y.0 y.1 (λ k s h. t k s (in_left x.1 h))) z.0)
        (own-pairs (left d) n m G p A e t)
    derived-answers (right d) n m G p A e t =
        let x = form-inner n (operands p) (λ x. judged d (n + 1) G x.1) A e in
        right-answers G m p x.0 A x.1
        (derived-answers d (n + 1) (m + 1 + nodes x.0.0) G x.0.1 A x.2 (λ k s h. t k s (in_right x.1 h)))
        (own-pairs (right d) n m G p A e t)
    derived-answers (rule ds) n m G p A e t =
        let x = form-inner n (premises p) (λ Ps. if_count n (count ds) Ps (from_premises n (each_judged ds (n + 1) G Ps []) (conclusion G p))) A e in
        let y = count-inner n (count ds) x.0 (from_premises n (each_judged ds (n + 1) G x.0 []) (conclusion G p)) A x.2 in
        let z = premises-inner n (each_judged ds (n + 1) G x.0 []) (conclusion G p) A y.1 in
        let w = premises-answer ds (n + 1) (m + 1) G x.0 [] z.0 z.1 y.0 (λ k s h. t k s (in_rule x.1 h)) in
        conclusion-answers G m p w.0 A (subst (λ o. IfSome o (λ Ps. PremisesAnswer (m + 1) G Ps [] w.0)) (sym x.1) w.2)
        (ap (conclusion G p) (sym w.1) ∙ z.2) (own-pairs (rule ds) n m G p A e t)

    -- the types of a phrase that stands for each premise
    met-answers : (ds : PlainDerivations) (c n m : ℕ) (G : List PlainType) (p : Tree) (As Cs : List PlainType) → count ds ≡ c →
        each_judged ds n G (replicate c (nothing, p)) As ≡ all_conclude Cs → ((k : ℕ) (s : PlainShape) → OneHasPair ds m G p k s → T k s) →
        (Bs : List PlainType) × (Cs ≡ As ++ Bs) × AnswersType G m p (meet (types_from Bs))
    met-answers no_derivations c n m G p As Cs l e t = ([], all-same As Cs e ∙ sym (append-none As), tt)
    met-answers (and_derivation d ds) zero n m G p As Cs l e t = absurd (omega arith)
    met-answers (and_derivation d ds) (suc c) n m G p As Cs l e t =
        let x = others-inner (judged d n G p) (λ A. each_judged ds (n + derivation_nodes d) G (replicate c (nothing, p)) (As ++ A ∷ [])) Cs e in
        let y = met-answers ds c (n + derivation_nodes d) m G p (As ++ x.0 ∷ []) Cs (omega arith) x.2 (λ k s h. t k s (other_one h)) in (
          x.0 ∷ y.0,
          y.1 ∙ append-push As y.0 x.0,
          EachPath-append (λ P. Answers T (variable_paths G) m p P) (paths x.0) (all_paths (types_from y.0))
              (derived-answers d n m G p x.0 x.1 (λ k s h. t k s (this_one h))) y.2,
        )

    premises-answer : (ds : PlainDerivations) (n m : ℕ) (G : List PlainType) (Ps : List Premise) (As Cs : List PlainType) → each_judged ds n G Ps As ≡ all_conclude Cs →
        count ds ≡ length Ps → ((k : ℕ) (s : PlainShape) → PremiseHasPair ds m G Ps As k s → T k s) →
        (Bs : List PlainType) × (Cs ≡ As ++ Bs) × PremisesAnswer m G Ps As Bs
    premises-answer no_derivations n m G [] As Cs e l t = ([], all-same As Cs e ∙ sym (append-none As), tt)
    premises-answer no_derivations n m G (P ∷ Ps) As Cs e l t = absurd (omega arith)
    premises-answer (and_derivation d ds) n m G [] As Cs e l t = absurd (omega arith)
    premises-answer (and_derivation d ds) n m G (P ∷ Ps) As Cs e l t =
        let x = others-inner (judged d n (under P.0 As G) P.1) (λ A. each_judged ds (n + derivation_nodes d) G Ps (As ++ A ∷ [])) Cs e in
        let here = judged-any d n 0 (under P.0 As G) P.1 x.0 x.1 in
        let y = premises-answer ds (n + derivation_nodes d) (m + nodes P.1) G Ps (As ++ x.0 ∷ []) Cs x.2 (omega arith) (λ k s h. t k s (later_premise here h)) in
        (x.0 ∷ y.0, y.1 ∙ append-push As y.0 x.0, (derived-answers d n m (under P.0 As G) P.1 x.0 x.1 (λ k s h. t k s (this_premise h)), y.2))

-- the phrase of a table answers the end of a command
pub table-answers : (p : Tree) (table : ShapeTable) → IsTableOf p table → Answers (HasPairOf table) [] 0 p (end Comm)
table-answers p table t =
    (derived-answers (HasPairOf table) t.derivation 0 0 [] p (atom Comm) (accepted-concludes (judged t.derivation 0 [] p) t.accepted)
    (λ k s h. (t.pairs.same k s).1 h)).0
