-- What judging concludes is typed.
use Rattle.std.proofs.Common.{ℕ, zero, suc, ◌+◌, ◌≤◌, ◌≡◌, Bool, true, false, ◌&&◌, ◌||◌, nat_le, List, [], ◌∷◌, ◌++◌, length, replicate, cond, eqb, eqb-true, Option, Some, None, IfSome, option_map, refl, sym, ap, ◌∙◌, subst, arith}
use Rattle.std.proofs.lemmas.List.{length-replicate}
use Rattle.std.proofs.lemmas.Bool.{leb-true}
use Rattle.fy_base.specs.declared.data.Place.{Place}
use Rattle.fy_base.specs.declared.data.BinOp.{BinOp}
use Rattle.fy_types.specs.declared.types.Atom.{Atom}
use Rattle.fy_types.specs.declared.types.Atom.TheVariants.{Int, Bool as Truth, Comm, Compl, IntAcc}
use Rattle.fy_types.specs.Types.{PlainType, PlainTypes, ns, atom, arrow, field as field_type, meet, no_types, and_type}
use Rattle.fy_types.specs.Subtyping.{IsMember, IsSubtype}
use Rattle.fy_types.specs.Subtyping as subtyping
use Rattle.fy_types.specs.Paths.{paths}
use Rattle.fy_types.specs.Reading.{types_from}
use Rattle.fy_types.proofs.OnceLemmas.{both_true}
use Rattle.fy_phrase.specs.declared.phrase.DataTy.{DataTy}
use Rattle.fy_phrase.specs.declared.phrase.DataTy.TheVariants as data_type
use Rattle.fy_phrase.specs.Tree.{Tree, Trees, no_trees, and_tree, var, lit, unary, binary, cond as conditional, case, lam, app, field, sel, merge, let_in, rec, skip, seq, assign, while_do, forever, new, cells, escape, accept, put, read, mark}
use Rattle.fy_derive.specs.Atoms.{data_atom, acceptor_atom, cell_type, sequence_type, datum_atom, operand_atom, unary_atom, takes, binary_atom, put_atom, is_command}
use Rattle.fy_derive.specs.Kinds.{Kind, kind_of, none_begins}
use Rattle.fy_derive.specs.Typing as typing
use Rattle.fy_derive.specs.Typing.{HasType, HasEach, EachHasType, of_data}
use Rattle.fy_derive.specs.Derivations.{PlainDerivation, PlainDerivations, by_ns, sub, meets, alt, left, right, rule, no_derivations, and_derivation, count, nodes}
use Rattle.fy_derive.specs.Subsumption.{is_below}
use Rattle.fy_derive.specs.Rules.{nothing, Premise, premises, of_parts, provided, is_atom, same_type, are_operands, fits_operator, all_same, applied, selected, command_behind, is_assignment, fits_assignment, conclusion}
use Rattle.fy_derive.specs.Judging.{Judged, concludes, stops, AllJudged, all_conclude, one_stops, then_judge, then_others, at_node, from_premises, if_form, if_count, member, alternative, operands, under, judged, each_judged}
use Rattle.fy_derive.proofs.SubsumptionLemmas.{or_cases, is_below-iff}
use Rattle.fy_derive.proofs.RuleLemmas.{same_type-true}

-- the premises have these types, in the contexts that the types before them make
abbrev pub PremisesTyped : List PlainType → List Premise → List PlainType → List PlainType → Type 0
PremisesTyped G [] As [] = Unit {0}
PremisesTyped G [] As (B ∷ Bs) = ⊥
PremisesTyped G (P ∷ Ps) As [] = ⊥
PremisesTyped G (P ∷ Ps) As (B ∷ Bs) = HasType (under P.0 As G) P.1 B × PremisesTyped G Ps (As ++ B ∷ []) Bs

pub some_same : {X : Type 0} {x y : X} → Some x ≡ Some y → x ≡ y
some_same e = cc

pub provided-some : (b : Bool) (A C : PlainType) → provided b A ≡ Some C → (b ≡ true) × (A ≡ C)
provided-some true A C e = (refl, some_same e)
provided-some false A C e = absurd cc

-- a type that is an atom
atom-typed : (G : List PlainType) (p : Tree) (a : Atom) (A : PlainType) → is_atom a A ≡ true → HasType G p A → HasType G p (atom a)
atom-typed G p a A e h = subst (HasType G p) (same_type-true A (atom a) e) h

typed-as : (G : List PlainType) (p : Tree) (A C : PlainType) → A ≡ C → HasType G p A → HasType G p C
typed-as G p A C e h = subst (HasType G p) e h

operands-typed : (G : List PlainType) (op : BinOp) (p q : Tree) (at : Place) (D : DataTy) (A B : PlainType) → are_operands op D A B ≡ true →
    HasType G p A → HasType G q B → HasType G (binary op p q at) (atom (binary_atom op))
operands-typed G op p q at D A B e h k =
    let x = both_true (takes op D) (is_atom (data_atom D) A && is_atom (data_atom D) B) e in
    let y = both_true (is_atom (data_atom D) A) (is_atom (data_atom D) B) x.1 in
    typing.by_binary D x.0 (atom-typed G p (data_atom D) A y.0 h) (atom-typed G q (data_atom D) B y.1 k)

assignment-typed : (G : List PlainType) (p q : Tree) (at : Place) (D : DataTy) (A B : PlainType) → is_assignment D A B ≡ true →
    HasType G p A → HasType G q B → HasType G (assign p q at) (atom Comm)
assignment-typed G p q at D A B e h k =
    let y = both_true (is_atom (acceptor_atom D) A) (is_atom (data_atom D) B) e in
    typing.by_assign D (atom-typed G p (acceptor_atom D) A y.0 h) (atom-typed G q (data_atom D) B y.1 k)

-- a command's type, with the phrase that has it
command-typed : (a : Atom) (A R C : PlainType) → command_behind a A R ≡ Some C →
    (is_atom a A ≡ true) × (R ≡ C) × ((b : Atom) × (is_command b ≡ true) × (R ≡ atom b))
command-typed a A R C e =
    let x = provided-some (is_atom a A && (is_atom Comm R || is_atom Compl R)) R C e in
    let y = both_true (is_atom a A) (is_atom Comm R || is_atom Compl R) x.0 in (
      y.0,
      x.1,
      or_cases (is_atom Comm R) (is_atom Compl R) y.1
          (λ t. (Comm, refl, same_type-true R (atom Comm) t)) (λ t. (Compl, refl, same_type-true R (atom Compl) t)),
    )

-- the parts of a case
parts-typed : (G : List PlainType) (ps : Trees) (A : PlainType) (As Bs : List PlainType) → PremisesTyped G (of_parts ps) As Bs →
    all_same A Bs ≡ true → EachHasType G ps A
parts-typed G no_trees A As [] t s = typing.no_parts
parts-typed G no_trees A As (B ∷ Bs) t s = absurd t
parts-typed G (and_tree p ps) A As [] t s = absurd t
parts-typed G (and_tree p ps) A As (B ∷ Bs) t s =
    let x = both_true (same_type A B) (all_same A Bs) s in
    typing.and_part (subst (HasType G p) (sym (same_type-true A B x.0)) t.0) (parts-typed G ps A (As ++ B ∷ []) Bs t.1 x.1)

applied-typed : (G : List PlainType) (p q : Tree) (at : Place) (F B C : PlainType) → applied F B ≡ Some C → HasType G p F → HasType G q B → HasType G (app p q at) C
applied-typed G p q at (arrow A D) B C e h k =
    let x = provided-some (same_type A B) D C e in
    typed-as G (app p q at) D C x.1 (typing.by_app h (typed-as G q B A (sym (same_type-true A B x.0)) k))
applied-typed G p q at F B C e h k = absurd cc

selected-typed : (G : List PlainType) (p : Tree) (i : ℕ) (at : Place) (F C : PlainType) → selected F i ≡ Some C → HasType G p F → HasType G (sel p i at) C
selected-typed G p i at (field_type j A) C e h =
    let x = provided-some (eqb i j) A C e in
    typed-as G (sel p i at) A C x.1 (typing.by_sel (subst (λ k. HasType G p (field_type k A)) (sym (eqb-true i j x.0)) h))
selected-typed G p i at F C e h = absurd cc

-- the rule of a form
conclusion-sound : (G : List PlainType) (p : Tree) (Bs : List PlainType) (C : PlainType) → IfSome (premises p) (λ Ps. PremisesTyped G Ps [] Bs) →
    conclusion G p Bs ≡ Some C → HasType G p C
conclusion-sound G (var k at) [] C t e = typing.by_var e
conclusion-sound G (var k at) (A ∷ As) C t e = absurd t
conclusion-sound G (lit v at) [] C t e = typed-as G (lit v at) (atom (datum_atom v)) C (some_same e) typing.by_lit
conclusion-sound G (lit v at) (A ∷ As) C t e = absurd t
conclusion-sound G (unary op p at) [] C t e = absurd t
conclusion-sound G (unary op p at) (A ∷ []) C t e =
    let x = provided-some (is_atom (operand_atom op) A) (atom (unary_atom op)) C e in
    typed-as G (unary op p at) (atom (unary_atom op)) C x.1 (typing.by_unary (atom-typed G p (operand_atom op) A x.0 t.0))
conclusion-sound G (unary op p at) (A ∷ B ∷ Bs) C t e = absurd t.1
conclusion-sound G (binary op p q at) [] C t e = absurd t
conclusion-sound G (binary op p q at) (A ∷ []) C t e = absurd t.1
conclusion-sound G (binary op p q at) (A ∷ B ∷ []) C t e =
    let x = provided-some (fits_operator op A B) (atom (binary_atom op)) C e in
    typed-as G (binary op p q at) (atom (binary_atom op)) C x.1
    (or_cases (are_operands op data_type.Int A B) (are_operands op data_type.Bool A B || are_operands op data_type.Char A B) x.0
    (λ s. operands-typed G op p q at data_type.Int A B s t.0 t.1.0)
    (λ s. or_cases (are_operands op data_type.Bool A B) (are_operands op data_type.Char A B) s
    (λ r. operands-typed G op p q at data_type.Bool A B r t.0 t.1.0) (λ r. operands-typed G op p q at data_type.Char A B r t.0 t.1.0)))
conclusion-sound G (binary op p q at) (A ∷ B ∷ D ∷ Ds) C t e = absurd t.1.1
conclusion-sound G (conditional b p q at) [] C t e = absurd t
conclusion-sound G (conditional b p q at) (A ∷ []) C t e = absurd t.1
conclusion-sound G (conditional b p q at) (A ∷ B ∷ []) C t e = absurd t.1.1
conclusion-sound G (conditional b p q at) (A ∷ B ∷ D ∷ []) C t e =
    let x = provided-some (is_atom Truth A && same_type B D) B C e in
    let y = both_true (is_atom Truth A) (same_type B D) x.0 in
    typed-as G (conditional b p q at) B C x.1
    (typing.by_cond (atom-typed G b Truth A y.0 t.0) t.1.0 (typed-as G q D B (sym (same_type-true B D y.1)) t.1.1.0))
conclusion-sound G (conditional b p q at) (A ∷ B ∷ D ∷ E ∷ Es) C t e = absurd t.1.1.1
conclusion-sound G (case e ps at) [] C t f = absurd t
conclusion-sound G (case e ps at) (E ∷ []) C t f = absurd cc
conclusion-sound G (case e no_trees at) (E ∷ A ∷ As) C t f = absurd t.1
conclusion-sound G (case e (and_tree p ps) at) (E ∷ A ∷ As) C t f =
    let x = provided-some (is_atom Int E && all_same A As) A C f in
    let y = both_true (is_atom Int E) (all_same A As) x.0 in
    typed-as G (case e (and_tree p ps) at) A C x.1
    (typing.by_case (atom-typed G e Int E y.0 t.0) t.1.0 (parts-typed G ps A (E ∷ A ∷ []) As t.1.1 y.1))
conclusion-sound G (lam d As b at) Bs C t e = absurd cc
conclusion-sound G (app p q at) [] C t e = absurd t
conclusion-sound G (app p q at) (A ∷ []) C t e = absurd t.1
conclusion-sound G (app p q at) (A ∷ B ∷ []) C t e =
    applied-typed G p q at A B C e t.0 t.1.0
conclusion-sound G (app p q at) (A ∷ B ∷ D ∷ Ds) C t e = absurd t.1.1
conclusion-sound G (field i p at) [] C t e = absurd t
conclusion-sound G (field i p at) (A ∷ []) C t e =
    typed-as G (field i p at) (field_type i A) C (some_same e) (typing.by_field t.0)
conclusion-sound G (field i p at) (A ∷ B ∷ Bs) C t e = absurd t.1
conclusion-sound G (sel p i at) [] C t e = absurd t
conclusion-sound G (sel p i at) (A ∷ []) C t e =
    selected-typed G p i at A C e t.0
conclusion-sound G (sel p i at) (A ∷ B ∷ Bs) C t e = absurd t.1
conclusion-sound G (merge p q at) Bs C t e = absurd cc
conclusion-sound G (let_in d p b at) [] C t e = absurd t
conclusion-sound G (let_in d p b at) (A ∷ []) C t e = absurd t.1
conclusion-sound G (let_in d p b at) (A ∷ B ∷ []) C t e =
    typed-as G (let_in d p b at) B C (some_same e) (typing.by_let t.0 t.1.0)
conclusion-sound G (let_in d p b at) (A ∷ B ∷ D ∷ Ds) C t e = absurd t.1.1
conclusion-sound G (rec d T b at) [] C t e = absurd t
conclusion-sound G (rec d T b at) (A ∷ []) C t e =
    let x = provided-some (same_type A T) T C e in
    typed-as G (rec d T b at) T C x.1 (typing.by_rec (subst (HasType (T ∷ G) b) (same_type-true A T x.0) t.0))
conclusion-sound G (rec d T b at) (A ∷ B ∷ Bs) C t e = absurd t.1
conclusion-sound G (skip at) [] C t e = typed-as G (skip at) (atom Comm) C (some_same e) typing.by_skip
conclusion-sound G (skip at) (A ∷ As) C t e = absurd t
conclusion-sound G (seq p q at) [] C t e = absurd t
conclusion-sound G (seq p q at) (A ∷ []) C t e = absurd t.1
conclusion-sound G (seq p q at) (A ∷ B ∷ []) C t e =
    let x = command-typed Comm A B C e in
    typed-as G (seq p q at) B C x.1 (typed-as G (seq p q at) (atom x.2.0) B (sym x.2.2)
    (typing.by_seq x.2.1 (atom-typed G p Comm A x.0 t.0) (typed-as G q B (atom x.2.0) x.2.2 t.1.0)))
conclusion-sound G (seq p q at) (A ∷ B ∷ D ∷ Ds) C t e = absurd t.1.1
conclusion-sound G (assign p q at) [] C t e = absurd t
conclusion-sound G (assign p q at) (A ∷ []) C t e = absurd t.1
conclusion-sound G (assign p q at) (A ∷ B ∷ []) C t e =
    let x = provided-some (fits_assignment A B) (atom Comm) C e in
    typed-as G (assign p q at) (atom Comm) C x.1
    (or_cases (is_assignment data_type.Int A B) (is_assignment data_type.Bool A B || is_assignment data_type.Char A B) x.0
    (λ s. assignment-typed G p q at data_type.Int A B s t.0 t.1.0)
    (λ s. or_cases (is_assignment data_type.Bool A B) (is_assignment data_type.Char A B) s
    (λ r. assignment-typed G p q at data_type.Bool A B r t.0 t.1.0) (λ r. assignment-typed G p q at data_type.Char A B r t.0 t.1.0)))
conclusion-sound G (assign p q at) (A ∷ B ∷ D ∷ Ds) C t e = absurd t.1.1
conclusion-sound G (while_do b c at) [] C t e = absurd t
conclusion-sound G (while_do b c at) (A ∷ []) C t e = absurd t.1
conclusion-sound G (while_do b c at) (A ∷ B ∷ []) C t e =
    let x = provided-some (is_atom Truth A && is_atom Comm B) (atom Comm) C e in
    let y = both_true (is_atom Truth A) (is_atom Comm B) x.0 in
    typed-as G (while_do b c at) (atom Comm) C x.1 (typing.by_while (atom-typed G b Truth A y.0 t.0) (atom-typed G c Comm B y.1 t.1.0))
conclusion-sound G (while_do b c at) (A ∷ B ∷ D ∷ Ds) C t e = absurd t.1.1
conclusion-sound G (forever c at) [] C t e = absurd t
conclusion-sound G (forever c at) (A ∷ []) C t e =
    let x = provided-some (is_atom Comm A) (atom Compl) C e in
    typed-as G (forever c at) (atom Compl) C x.1 (typing.by_forever (atom-typed G c Comm A x.0 t.0))
conclusion-sound G (forever c at) (A ∷ B ∷ Bs) C t e = absurd t.1
conclusion-sound G (new d D p b at) [] C t e = absurd t
conclusion-sound G (new d D p b at) (A ∷ []) C t e = absurd t.1
conclusion-sound G (new d D p b at) (A ∷ B ∷ []) C t e =
    let x = command-typed (data_atom D) A B C e in
    typed-as G (new d D p b at) B C x.1 (typed-as G (new d D p b at) (atom x.2.0) B (sym x.2.2)
    (typing.by_new x.2.1 (atom-typed G p (data_atom D) A x.0 t.0) (typed-as (cell_type D ∷ G) b B (atom x.2.0) x.2.2 t.1.0)))
conclusion-sound G (new d D p b at) (A ∷ B ∷ E ∷ Es) C t e = absurd t.1.1
conclusion-sound G (cells d p b at) [] C t e = absurd t
conclusion-sound G (cells d p b at) (A ∷ []) C t e = absurd t.1
conclusion-sound G (cells d p b at) (A ∷ B ∷ []) C t e =
    let x = command-typed Int A B C e in
    typed-as G (cells d p b at) B C x.1 (typed-as G (cells d p b at) (atom x.2.0) B (sym x.2.2)
    (typing.by_cells x.2.1 (atom-typed G p Int A x.0 t.0) (typed-as (sequence_type ∷ G) b B (atom x.2.0) x.2.2 t.1.0)))
conclusion-sound G (cells d p b at) (A ∷ B ∷ E ∷ Es) C t e = absurd t.1.1
conclusion-sound G (escape d b at) [] C t e = absurd t
conclusion-sound G (escape d b at) (A ∷ []) C t e =
    let x = provided-some (is_atom Comm A) (atom Comm) C e in
    typed-as G (escape d b at) (atom Comm) C x.1 (typing.by_escape (atom-typed (atom Compl ∷ G) b Comm A x.0 t.0))
conclusion-sound G (escape d b at) (A ∷ B ∷ Bs) C t e = absurd t.1
conclusion-sound G (accept d D b at) [] C t e = absurd t
conclusion-sound G (accept d D b at) (A ∷ []) C t e =
    let x = provided-some (is_atom Comm A) (atom (acceptor_atom D)) C e in
    typed-as G (accept d D b at) (atom (acceptor_atom D)) C x.1 (typing.by_accept (atom-typed (of_data D ∷ G) b Comm A x.0 t.0))
conclusion-sound G (accept d D b at) (A ∷ B ∷ Bs) C t e = absurd t.1
conclusion-sound G (put kind p at) [] C t e = absurd t
conclusion-sound G (put kind p at) (A ∷ []) C t e =
    let x = provided-some (is_atom (put_atom kind) A) (atom Comm) C e in
    typed-as G (put kind p at) (atom Comm) C x.1 (typing.by_put (atom-typed G p (put_atom kind) A x.0 t.0))
conclusion-sound G (put kind p at) (A ∷ B ∷ Bs) C t e = absurd t.1
conclusion-sound G (read p at) [] C t e = absurd t
conclusion-sound G (read p at) (A ∷ []) C t e =
    let x = provided-some (is_atom IntAcc A) (atom Comm) C e in
    typed-as G (read p at) (atom Comm) C x.1 (typing.by_read (atom-typed G p IntAcc A x.0 t.0))
conclusion-sound G (read p at) (A ∷ B ∷ Bs) C t e = absurd t.1
conclusion-sound G (mark m at) Bs C t e = absurd cc

-- what judging went on with
pub judge-inner : (j : Judged) (f : PlainType → Judged) (A : PlainType) → then_judge j f ≡ concludes A → (B : PlainType) × (j ≡ concludes B) × (f B ≡ concludes A)
judge-inner (concludes B) f A e = (B, refl, e)
judge-inner (stops k) f A e = absurd cc

pub others-inner : (j : Judged) (f : PlainType → AllJudged) (As : List PlainType) → then_others j f ≡ all_conclude As →
    (B : PlainType) × (j ≡ concludes B) × (f B ≡ all_conclude As)
others-inner (concludes B) f As e = (B, refl, e)
others-inner (stops k) f As e = absurd cc

pub node-inner : (n : ℕ) (o : Option PlainType) (A : PlainType) → at_node n o ≡ concludes A → o ≡ Some A
node-inner n None A e = absurd cc
node-inner n (Some B) A e = cc

pub premises-inner : (n : ℕ) (j : AllJudged) (f : List PlainType → Option PlainType) (A : PlainType) → from_premises n j f ≡ concludes A →
    (Bs : List PlainType) × (j ≡ all_conclude Bs) × (f Bs ≡ Some A)
premises-inner n (all_conclude Bs) f A e = (Bs, refl, node-inner n (f Bs) A e)
premises-inner n (one_stops k) f A e = absurd cc

pub form-inner : {X : Type 0} (n : ℕ) (o : Option X) (f : X → Judged) (A : PlainType) → if_form n o f ≡ concludes A → (x : X) × (o ≡ Some x) × (f x ≡ concludes A)
form-inner n None f A e = absurd cc
form-inner n (Some x) f A e = (x, refl, e)

pub count-inner : (n k : ℕ) (Ps : List Premise) (j : Judged) (A : PlainType) → if_count n k Ps j ≡ concludes A → (k ≡ length Ps) × (j ≡ concludes A)
count-inner n k Ps j A e = by (eqb k (length Ps)) refl e
  where
    by : (b : Bool) → eqb k (length Ps) ≡ b → cond b j (stops n) ≡ concludes A → (k ≡ length Ps) × (j ≡ concludes A)
    by true s e = (eqb-true k (length Ps) s, e)
    by false s e = absurd cc

pub meet-inner : (b : Bool) (j : Judged) (n : ℕ) (A : PlainType) → cond b j (stops n) ≡ concludes A → (b ≡ true) × (j ≡ concludes A)
meet-inner true j n A e = (refl, e)
meet-inner false j n A e = absurd cc

member-inner : (As : PlainTypes) (i : ℕ) (A : PlainType) → member As i ≡ Some A → IsMember As A
member-inner no_types i A e = absurd cc
member-inner (and_type B As) zero A e = subst (IsMember (and_type B As)) (some_same e) subtyping.first
member-inner (and_type B As) (suc i) A e = subtyping.later (member-inner As i A e)

alternative-typed : (G : List PlainType) (i : ℕ) (p : Tree) (x : PlainType × Tree) (C : PlainType) → alternative i p ≡ Some x → HasType (x.0 ∷ G) x.1 C →
    HasType G p (arrow x.0 C)
alternative-typed G i (lam d As b at) x C e h = by (member As i) refl e
  where
    by : (o : Option PlainType) → member As i ≡ o → option_map (λ A. (A, b)) o ≡ Some x → HasType G (lam d As b at) (arrow x.0 C)
    by None s f = absurd cc
    by (Some A) s f =
        let pair : (A, b) ≡ x = some_same f in
        typing.by_lam (subst (IsMember As) (ap (λ y. y.0) pair) (member-inner As i A s)) (subst (λ q. HasType (x.0 ∷ G) q C) (sym (ap (λ y. y.1) pair)) h)
alternative-typed G i p x C e h = absurd cc

operands-left : (G : List PlainType) (p : Tree) (x : Tree × Tree × Kind) (A : PlainType) → operands p ≡ Some x → HasType G x.0 A →
    none_begins x.2 (paths A) ≡ true → HasType G p A
operands-left G (merge p q at) x A e h c = by (kind_of q) refl e
  where
    by : (o : Option Kind) → kind_of q ≡ o → option_map (λ k. (p, q, k)) o ≡ Some x → HasType G (merge p q at) A
    by None s f = absurd cc
    by (Some k) s f =
        let triple : (p, q, k) ≡ x = some_same f in
        typing.by_left s (subst (λ r. HasType G r A) (sym (ap (λ y. y.0) triple)) h) (subst (λ m. none_begins m (paths A) ≡ true) (sym (ap (λ y. y.2) triple)) c)
operands-left G p x A e h c = absurd cc

operands-right : (G : List PlainType) (p : Tree) (x : Tree × Tree × Kind) (A : PlainType) → operands p ≡ Some x → HasType G x.1 A → HasType G p A
operands-right G (merge p q at) x A e h = by (kind_of q) refl e
  where
    by : (o : Option Kind) → kind_of q ≡ o → option_map (λ k. (p, q, k)) o ≡ Some x → HasType G (merge p q at) A
    by None s f = absurd cc
    by (Some k) s f =
        let triple : (p, q, k) ≡ x = some_same f in
        typing.by_right s (subst (λ r. HasType G r A) (sym (ap (λ y. y.1) triple)) h)
operands-right G p x A e h = absurd cc

-- the types of a phrase that stands for each premise
each-typed : (G : List PlainType) (p : Tree) (k : ℕ) (As Bs : List PlainType) → PremisesTyped G (replicate k (nothing, p)) As Bs →
    HasEach G p (types_from Bs) × (length Bs ≡ k)
each-typed G p zero As [] t = (typing.no_more, refl)
each-typed G p zero As (B ∷ Bs) t = absurd t
each-typed G p (suc k) As [] t = absurd t
each-typed G p (suc k) As (B ∷ Bs) t =
    let x = each-typed G p k (As ++ B ∷ []) Bs t.1 in (typing.and_has t.0 x.0, omega (arith, x.1))

meet-typed : (G : List PlainType) (p : Tree) (Bs : List PlainType) → 2 ≤ length Bs → HasEach G p (types_from Bs) → HasType G p (meet (types_from Bs))
meet-typed G p [] l h = absurd (omega arith)
meet-typed G p (A ∷ []) l h = absurd (omega arith)
meet-typed G p (A ∷ B ∷ Bs) l (typing.and_has x (typing.and_has y z)) = typing.by_meet x y z

pub all-same : (As Cs : List PlainType) → all_conclude As ≡ all_conclude Cs → Cs ≡ As
all-same As Cs e = cc

pub append-none : (As : List PlainType) → As ++ [] ≡ As
append-none [] = refl
append-none (A ∷ As) = ap (λ xs. A ∷ xs) (append-none As)

pub append-push : (As Bs : List PlainType) (B : PlainType) → (As ++ B ∷ []) ++ Bs ≡ As ++ B ∷ Bs
append-push [] Bs B = refl
append-push (A ∷ As) Bs B = ap (λ xs. A ∷ xs) (append-push As Bs B)

mutual
  pub judged-sound : (d : PlainDerivation) (n : ℕ) (G : List PlainType) (p : Tree) (A : PlainType) → judged d n G p ≡ concludes A → HasType G p A
  judged-sound by_ns n G p A e = typed-as G p ns A (cc) typing.by_ns
  judged-sound (sub B d) n G p A e =
      let x = judge-inner (judged d (n + 1) G p) (λ A. at_node n (provided (is_below A B) B)) A e in
      let y = provided-some (is_below x.0 B) B A (node-inner n (provided (is_below x.0 B) B) A x.2) in
      typed-as G p B A y.1 (typing.by_subsumption (judged-sound d (n + 1) G p x.0 x.1) ((is_below-iff x.0 B).0 y.0))
  judged-sound (meets ds) n G p A e =
      let k = count ds in
      let x = meet-inner (nat_le 2 k) (from_premises n (each_judged ds (n + 1) G (replicate k (nothing, p)) []) (λ As. Some (meet (types_from As)))) n A e in
      let y = premises-inner n (each_judged ds (n + 1) G (replicate k (nothing, p)) []) (λ As. Some (meet (types_from As))) A x.1 in
      let z = each-sound ds (n + 1) G (replicate k (nothing, p)) [] y.0 y.1 (sym (length-replicate k (nothing, p))) in
      let w = each-typed G p k [] z.0 z.2 in
      typed-as G p (meet (types_from z.0)) A (ap (λ Bs. meet (types_from Bs)) (sym z.1) ∙ some_same y.2)
      (meet-typed G p z.0 (omega (arith, w.1, leb-true 2 k x.0)) w.0)
  judged-sound (alt i d) n G p A e =
      let x = form-inner n (alternative i p) (λ x. then_judge (judged d (n + 1) (x.0 ∷ G) x.1) (λ C. concludes (arrow x.0 C))) A e in
      let y = judge-inner (judged d (n + 1) (x.0.0 ∷ G) x.0.1) (λ C. concludes (arrow x.0.0 C)) A x.2 in
      typed-as G p (arrow x.0.0 y.0) A (cc) (alternative-typed G i p x.0 y.0 x.1 (judged-sound d (n + 1) (x.0.0 ∷ G) x.0.1 y.0 y.1))
  judged-sound (left d) n G p A e =
      let x = form-inner n (operands p) (λ x. then_judge (judged d (n + 1) G x.0) (λ A. at_node n (provided (none_begins x.2 (paths A)) A))) A e in
      let y = judge-inner (judged d (n + 1) G x.0.0) (λ A. at_node n (provided (none_begins x.0.2 (paths A)) A)) A x.2 in
      let z = provided-some (none_begins x.0.2 (paths y.0)) y.0 A (node-inner n (provided (none_begins x.0.2 (paths y.0)) y.0) A y.2) in
      typed-as G p y.0 A z.1 (operands-left G p x.0 y.0 x.1 (judged-sound d (n + 1) G x.0.0 y.0 y.1) z.0)
  judged-sound (right d) n G p A e =
      let x = form-inner n (operands p) (λ x. judged d (n + 1) G x.1) A e in
      operands-right G p x.0 A x.1 (judged-sound d (n + 1) G x.0.1 A x.2)
  judged-sound (rule ds) n G p A e =
      let x = form-inner n (premises p) (λ Ps. if_count n (count ds) Ps (from_premises n (each_judged ds (n + 1) G Ps []) (conclusion G p))) A e in
      let y = count-inner n (count ds) x.0 (from_premises n (each_judged ds (n + 1) G x.0 []) (conclusion G p)) A x.2 in
      let z = premises-inner n (each_judged ds (n + 1) G x.0 []) (conclusion G p) A y.1 in
      let w = each-sound ds (n + 1) G x.0 [] z.0 z.1 y.0 in
      conclusion-sound G p w.0 A (subst (λ o. IfSome o (λ Ps. PremisesTyped G Ps [] w.0)) (sym x.1) w.2) (ap (conclusion G p) (sym w.1) ∙ z.2)

  each-sound : (ds : PlainDerivations) (n : ℕ) (G : List PlainType) (Ps : List Premise) (As Cs : List PlainType) → each_judged ds n G Ps As ≡ all_conclude Cs →
      count ds ≡ length Ps → (Bs : List PlainType) × (Cs ≡ As ++ Bs) × PremisesTyped G Ps As Bs
  each-sound no_derivations n G [] As Cs e l = ([], all-same As Cs e ∙ sym (append-none As), tt)
  each-sound no_derivations n G (P ∷ Ps) As Cs e l = absurd (omega arith)
  each-sound (and_derivation d ds) n G [] As Cs e l = absurd (omega arith)
  each-sound (and_derivation d ds) n G (P ∷ Ps) As Cs e l =
      let x = others-inner (judged d n (under P.0 As G) P.1) (λ A. each_judged ds (n + nodes d) G Ps (As ++ A ∷ [])) Cs e in
      let y = each-sound ds (n + nodes d) G Ps (As ++ x.0 ∷ []) Cs x.2 (omega arith) in
      (x.0 ∷ y.0, y.1 ∙ append-push As y.0 x.0, (judged-sound d n (under P.0 As G) P.1 x.0 x.1, y.2))
