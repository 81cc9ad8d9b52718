-- What a form passes to its parts its premises conclude: from the path of a rule's conclusion, one form at a time.
use Rattle.std.proofs.Common.{ℕ, ◌+◌, ◌≡◌, true, false, not, ◌&&◌, ◌||◌, eqb, eqb-true, eq-eqb, List, [], ◌∷◌, Option, option_map, Some, None, IfSome, refl, sym, ap, ◌∙◌, subst}
use Rattle.fy_base.specs.declared.data.Place.{Place}
use Rattle.fy_base.specs.declared.data.UnOp.{UnOp}
use Rattle.fy_base.specs.declared.data.UnOp.TheVariants.{Neg}
use Rattle.fy_base.specs.declared.data.BinOp.{BinOp}
use Rattle.fy_base.specs.declared.data.PutKind.{PutKind}
use Rattle.fy_base.specs.declared.data.PutKind.TheVariants as put_kind
use Rattle.fy_types.specs.declared.types.Atom.{Atom}
use Rattle.fy_types.specs.declared.types.Atom.TheVariants.{Int, Bool as Truth, Comm, Compl, IntAcc}
use Rattle.fy_types.specs.Types.{PlainType, atom, arrow, field as field_type}
use Rattle.fy_types.specs.Paths.{PlainPath, PlainPaths, end, call, pick, paths}
use Rattle.fy_types.proofs.OnceLemmas.{both_true}
use Rattle.fy_phrase.specs.declared.phrase.DataTy.{DataTy}
use Rattle.fy_phrase.specs.declared.phrase.DataTy.TheVariants as data_type
use Rattle.fy_phrase.specs.Tree.{Tree, Trees, lam, field, accept, merge}
use Rattle.fy_phrase.specs.Sizes.{nodes}
use Rattle.fy_derive.specs.Atoms.{data_atom, acceptor_atom, operand_atom, unary_atom, takes, binary_atom, put_atom, is_acceptor}
use Rattle.fy_derive.specs.Kinds.{Kind, of_call, of_field, of_assignment, kind_of, begins, none_begins}
use Rattle.fy_derive.specs.Derivations.{PlainDerivation, PlainDerivations}
use Rattle.fy_derive.specs.Tables.{type_at}
use Rattle.fy_derive.specs.Rules.{nothing, Premise, premises, of_parts as parts_premises, provided, is_atom, same_type, are_operands, fits_operator, chosen, all_same, picked_type, applied, selected, command_behind, is_assignment, fits_assignment, conclusion}
use Rattle.fy_derive.specs.Judging.{concludes, alternative, operands, judged}
use Rattle.fy_derive.specs.Shapes.{EndShape, a_value, an_assignment, a_run, PlainShape, at_end, a_call, a_field, end_shape, erase, HasPath, first_path, later_path, HasPair, own, PremiseHasPair, this_premise, later_premise, shape_begins, PassesEach, to_this, to_later, Passes, of_app, of_sel, of_lam, of_definition, of_right, of_left, of_let, of_rec, of_test, of_then, of_else, of_index, of_parts, of_unary, of_operand, of_operand_behind, of_put, of_target, of_value, of_read, of_first, of_second, of_forever, of_escape, of_accept, of_while_test, of_while_body, of_new_value, of_new_body, of_cells_count, of_cells_body}
use Rattle.fy_derive.proofs.SubsumptionLemmas.{or_cases}
use Rattle.fy_derive.proofs.RuleLemmas.{same_type-true}
use Rattle.fy_derive.proofs.PathTyping.{World, EachPath, Answers}
use Rattle.fy_derive.proofs.TypedAnswers.{variable_paths, typed-answers, not_true}
use Rattle.fy_derive.proofs.SoundLemmas.{judged-sound}
use Rattle.pe_shapes.proofs.JudgedLemmas.{some_same, provided-inner, ArePremisesJudged, and_judged}
use Rattle.pe_shapes.proofs.RuleBelow.{called-path, picked-path, path-picked}

-- ---- what the rules' tests mean

applied-inner : (F B C : PlainType) → applied F B ≡ Some C → (A : PlainType) × (F ≡ arrow A C)
applied-inner (arrow A D) B C e = let x = provided-inner (same_type A B) D C e in (A, ap (arrow A) x.1)
applied-inner F B C e = absurd cc

selected-inner : (F : PlainType) (i : ℕ) (C : PlainType) → selected F i ≡ Some C → F ≡ field_type i C
selected-inner (field_type j A) i C e =
    let x = provided-inner (eqb i j) A C e in ap (λ k. field_type k A) (sym (eqb-true i j x.0)) ∙ ap (field_type i) x.1
selected-inner F i C e = absurd cc

chosen-inner : (B A D C : PlainType) → chosen B A D ≡ Some C → (is_atom Truth B ≡ true) × (A ≡ C) × (D ≡ C)
chosen-inner B A D C e =
    let x = provided-inner (is_atom Truth B && same_type A D) A C e in
    let y = both_true (is_atom Truth B) (same_type A D) x.0 in
    (y.0, x.1, sym (same_type-true A D y.1) ∙ x.1)

-- the end of a command's type is that of a run
command-inner : (a : Atom) (A R C : PlainType) → command_behind a A R ≡ Some C →
    (is_atom a A ≡ true) × ((b : Atom) × (is_atom b R ≡ true) × (end_shape b ≡ a_run))
command-inner a A R C e =
    let x = provided-inner (is_atom a A && (is_atom Comm R || is_atom Compl R)) R C e in
    let y = both_true (is_atom a A) (is_atom Comm R || is_atom Compl R) x.0 in
    (y.0, or_cases (is_atom Comm R) (is_atom Compl R) y.1 (λ is. (Comm, is, refl)) (λ is. (Compl, is, refl)))

both_atoms : (a b : Atom) (A B C D : PlainType) → provided (is_atom a A && is_atom b B) C ≡ Some D → (is_atom a A ≡ true) × (is_atom b B ≡ true)
both_atoms a b A B C D e = both_true (is_atom a A) (is_atom b B) (provided-inner (is_atom a A && is_atom b B) C D e).0

-- the two data of an operator, or the acceptor and the datum of an assignment
abbrev HasAtoms : (DataTy → Atom) → PlainType → PlainType → Type 0
HasAtoms f A B = (D : DataTy) × (is_atom (f D) A ≡ true) × (is_atom (data_atom D) B ≡ true)

are_operands-inner : (op : BinOp) (D : DataTy) (A B : PlainType) → are_operands op D A B ≡ true → HasAtoms data_atom A B
are_operands-inner op D A B e =
    let x = both_true (takes op D) (is_atom (data_atom D) A && is_atom (data_atom D) B) e in
    let y = both_true (is_atom (data_atom D) A) (is_atom (data_atom D) B) x.1 in
    (D, y.0, y.1)

operands-inner : (op : BinOp) (A B C D : PlainType) → provided (fits_operator op A B) C ≡ Some D → HasAtoms data_atom A B
operands-inner op A B C D e =
    or_cases (are_operands op data_type.Int A B) (are_operands op data_type.Bool A B || are_operands op data_type.Char A B)
    (provided-inner (fits_operator op A B) C D e).0
    (λ s. are_operands-inner op data_type.Int A B s)
    (λ s. or_cases (are_operands op data_type.Bool A B) (are_operands op data_type.Char A B) s
    (λ r. are_operands-inner op data_type.Bool A B r) (λ r. are_operands-inner op data_type.Char A B r))

is_assignment-inner : (D : DataTy) (A B : PlainType) → is_assignment D A B ≡ true → HasAtoms acceptor_atom A B
is_assignment-inner D A B e = let x = both_true (is_atom (acceptor_atom D) A) (is_atom (data_atom D) B) e in (D, x.0, x.1)

assignment-inner : (A B C D : PlainType) → provided (fits_assignment A B) C ≡ Some D → HasAtoms acceptor_atom A B
assignment-inner A B C D e =
    or_cases (is_assignment data_type.Int A B) (is_assignment data_type.Bool A B || is_assignment data_type.Char A B)
    (provided-inner (fits_assignment A B) C D e).0
    (λ s. is_assignment-inner data_type.Int A B s)
    (λ s. or_cases (is_assignment data_type.Bool A B) (is_assignment data_type.Char A B) s
    (λ r. is_assignment-inner data_type.Bool A B r) (λ r. is_assignment-inner data_type.Char A B r))

-- each of the types is the one
abbrev AreAll : PlainType → List PlainType → Type 0
AreAll C [] = Unit {0}
AreAll C (A ∷ As) = (A ≡ C) × AreAll C As

all_same-inner : (A C : PlainType) (As : List PlainType) → A ≡ C → all_same A As ≡ true → AreAll C As
all_same-inner A C [] e f = tt
all_same-inner A C (B ∷ As) e f =
    let x = both_true (same_type A B) (all_same A As) f in
    (sym (same_type-true A B x.0) ∙ e, all_same-inner A C As e x.1)

picked-inner : (E : PlainType) (As : List PlainType) (C : PlainType) → picked_type (E ∷ As) ≡ Some C → (is_atom Int E ≡ true) × AreAll C As
picked-inner E [] C e = absurd cc
picked-inner E (A ∷ As) C e =
    let x = provided-inner (is_atom Int E && all_same A As) A C e in
    let y = both_true (is_atom Int E) (all_same A As) x.0 in
    (y.0, (x.1, all_same-inner A C As x.1 y.1))

-- ---- shapes of ends

data_atom-shape : (D : DataTy) → end_shape (data_atom D) ≡ a_value
data_atom-shape data_type.Int = refl
data_atom-shape D = refl

acceptor_atom-shape : (D : DataTy) → end_shape (acceptor_atom D) ≡ an_assignment
acceptor_atom-shape data_type.Int = refl
acceptor_atom-shape D = refl

operand_atom-shape : (op : UnOp) → end_shape (operand_atom op) ≡ a_value
operand_atom-shape Neg = refl
operand_atom-shape op = refl

put_atom-shape : (kind : PutKind) → end_shape (put_atom kind) ≡ a_value
put_atom-shape put_kind.Int = refl
put_atom-shape kind = refl

call_same : {s t : PlainShape} → a_call s ≡ a_call t → s ≡ t
call_same e = cc

field_same : {i j : ℕ} {s t : PlainShape} → a_field i s ≡ a_field j t → s ≡ t
field_same e = cc

-- ---- the pairs of premises

pub asked : {d : PlainDerivation} {m : ℕ} {G : List PlainType} {p : Tree} {B : PlainType} {s : PlainShape} (A : PlainType) (P : PlainPath) → B ≡ A →
    judged d 0 G p ≡ concludes B → HasPath (paths A) P → erase P ≡ s → HasPair d m G p m s
asked {d = d} {m = m} {G = G} {p = p} A P f e among g = subst (HasPair d m G p m) g (own (e ∙ ap concludes f) among)

first-asked : {ds : PlainDerivations} {m : ℕ} {G As Bs : List PlainType} {P : Premise} {Ps : List Premise} {s : PlainShape} (A : PlainType) (Q : PlainPath) →
    type_at Bs 0 ≡ A → HasPath (paths A) Q → erase Q ≡ s → ArePremisesJudged ds G (P ∷ Ps) As Bs → PremiseHasPair ds m G (P ∷ Ps) As m s
first-asked A Q f among g (and_judged e more) = this_premise (asked A Q f e among g)

second-asked : {ds : PlainDerivations} {m : ℕ} {G As Bs : List PlainType} {P R : Premise} {Ps : List Premise} {s : PlainShape} (A : PlainType) (Q : PlainPath) →
    type_at Bs 1 ≡ A → HasPath (paths A) Q → erase Q ≡ s → ArePremisesJudged ds G (P ∷ R ∷ Ps) As Bs →
    PremiseHasPair ds m G (P ∷ R ∷ Ps) As (m + nodes P.1) s
second-asked A Q f among g (and_judged e more) = later_premise e (first-asked A Q f among g more)

third-asked : {ds : PlainDerivations} {m : ℕ} {G As Bs : List PlainType} {P R S : Premise} {Ps : List Premise} {s : PlainShape} (A : PlainType) (Q : PlainPath) →
    type_at Bs 2 ≡ A → HasPath (paths A) Q → erase Q ≡ s → ArePremisesJudged ds G (P ∷ R ∷ S ∷ Ps) As Bs →
    PremiseHasPair ds m G (P ∷ R ∷ S ∷ Ps) As (m + nodes P.1 + nodes R.1) s
third-asked A Q f among g (and_judged e more) = later_premise e (second-asked A Q f among g more)

first-ends : {ds : PlainDerivations} {m : ℕ} {G As Bs : List PlainType} {P : Premise} {Ps : List Premise} {s : EndShape} (a : Atom) →
    is_atom a (type_at Bs 0) ≡ true → end_shape a ≡ s → ArePremisesJudged ds G (P ∷ Ps) As Bs → PremiseHasPair ds m G (P ∷ Ps) As m (at_end s)
first-ends {Bs = Bs} a is f h = first-asked (atom a) (end a) (same_type-true (type_at Bs 0) (atom a) is) first_path (ap at_end f) h

second-ends : {ds : PlainDerivations} {m : ℕ} {G As Bs : List PlainType} {P R : Premise} {Ps : List Premise} {s : EndShape} (a : Atom) →
    is_atom a (type_at Bs 1) ≡ true → end_shape a ≡ s → ArePremisesJudged ds G (P ∷ R ∷ Ps) As Bs →
    PremiseHasPair ds m G (P ∷ R ∷ Ps) As (m + nodes P.1) (at_end s)
second-ends {Bs = Bs} a is f h = second-asked (atom a) (end a) (same_type-true (type_at Bs 1) (atom a) is) first_path (ap at_end f) h

-- the index and the parts of a case
index-asked : {ds : PlainDerivations} {m : ℕ} {G Bs : List PlainType} {p : Tree} {Ps : List Premise} {C : PlainType} → picked_type Bs ≡ Some C →
    ArePremisesJudged ds G ((nothing, p) ∷ Ps) [] Bs → PremiseHasPair ds m G ((nothing, p) ∷ Ps) [] m (at_end a_value)
index-asked {C = C} c (and_judged {Bs = Bs} {B = E} e more) = first-ends Int (picked-inner E Bs C c).0 refl (and_judged e more)

part-asked : {m k : ℕ} {ps : Trees} {s t : PlainShape} {ds : PlainDerivations} {G As Bs : List PlainType} (A : PlainType) (Q : PlainPath) →
    PassesEach m ps s k t → ArePremisesJudged ds G (parts_premises ps) As Bs → AreAll A Bs → HasPath (paths A) Q → erase Q ≡ s →
    PremiseHasPair ds m G (parts_premises ps) As k t
part-asked A Q to_this (and_judged e more) all among g = this_premise (asked A Q all.0 e among g)
part-asked A Q (to_later passes) (and_judged e more) all among g = later_premise e (part-asked A Q passes more all.1 among g)

parts-asked : {m k : ℕ} {p : Tree} {ps : Trees} {s t : PlainShape} {ds : PlainDerivations} {G Bs : List PlainType} (A : PlainType) (Q : PlainPath) →
    PassesEach (m + nodes p) ps s k t → picked_type Bs ≡ Some A → HasPath (paths A) Q → erase Q ≡ s →
    ArePremisesJudged ds G ((nothing, p) ∷ parts_premises ps) [] Bs → PremiseHasPair ds m G ((nothing, p) ∷ parts_premises ps) [] k t
parts-asked A Q passes c among g (and_judged {Bs = Bs} {B = E} e more) =
    later_premise e (part-asked A Q passes more (picked-inner E Bs A c).1 among g)

-- ---- the forms with rules

pub rule-passes : {m j : ℕ} {p : Tree} {s t : PlainShape} → Passes m p s j t → (ds : PlainDerivations) (G Bs : List PlainType) (A : PlainType) (Q : PlainPath) →
    conclusion G p Bs ≡ Some A → HasPath (paths A) Q → erase Q ≡ s →
    IfSome (premises p) (λ Ps. ArePremisesJudged ds G Ps [] Bs → PremiseHasPair ds (m + 1) G Ps [] j t)
rule-passes of_app ds G Bs A Q c among g =
    let x = applied-inner (type_at Bs 0) (type_at Bs 1) A c in
    λ h. first-asked (arrow x.0 A) (call (paths x.0) Q) x.1 (called-path (paths x.0) among) (ap a_call g) h
rule-passes (of_sel {i = i}) ds G Bs A Q c among g =
    λ h. first-asked (field_type i A) (pick i Q) (selected-inner (type_at Bs 0) i A c) (picked-path i among) (ap (a_field i) g) h
rule-passes of_lam ds G Bs A Q c among g = tt
rule-passes (of_definition {i = i}) ds G Bs A Q c among g =
    let x = path-picked i (paths (type_at Bs 0)) (subst (λ B. HasPath (paths B) Q) (sym (some_same c)) among) in
    λ h. first-asked (type_at Bs 0) x.0 refl x.1 (field_same (ap erase (sym x.2) ∙ g)) h
rule-passes (of_right k b) ds G Bs A Q c among g = tt
rule-passes (of_left k b) ds G Bs A Q c among g = tt
rule-passes of_let ds G Bs A Q c among g = λ h. second-asked A Q (some_same c) among g h
rule-passes (of_rec {T = T}) ds G Bs A Q c among g =
    let x = provided-inner (same_type (type_at Bs 0) T) T A c in
    λ h. first-asked A Q (same_type-true (type_at Bs 0) T x.0 ∙ x.1) among g h
rule-passes of_test ds G Bs A Q c among g = λ h. first-ends Truth (chosen-inner (type_at Bs 0) (type_at Bs 1) (type_at Bs 2) A c).0 refl h
rule-passes of_then ds G Bs A Q c among g = λ h. second-asked A Q (chosen-inner (type_at Bs 0) (type_at Bs 1) (type_at Bs 2) A c).1 among g h
rule-passes of_else ds G Bs A Q c among g = λ h. third-asked A Q (chosen-inner (type_at Bs 0) (type_at Bs 1) (type_at Bs 2) A c).2 among g h
rule-passes of_index ds G Bs A Q c among g = λ h. index-asked c h
rule-passes (of_parts passes) ds G Bs A Q c among g = λ h. parts-asked A Q passes c among g h
rule-passes (of_unary {op = op}) ds G Bs A Q c among g =
    let x = provided-inner (is_atom (operand_atom op) (type_at Bs 0)) (atom (unary_atom op)) A c in
    λ h. first-ends (operand_atom op) x.0 (operand_atom-shape op) h
rule-passes (of_operand {op = op}) ds G Bs A Q c among g =
    let x = operands-inner op (type_at Bs 0) (type_at Bs 1) (atom (binary_atom op)) A c in
    λ h. first-ends (data_atom x.0) x.1 (data_atom-shape x.0) h
rule-passes (of_operand_behind {op = op}) ds G Bs A Q c among g =
    let x = operands-inner op (type_at Bs 0) (type_at Bs 1) (atom (binary_atom op)) A c in
    λ h. second-ends (data_atom x.0) x.2 (data_atom-shape x.0) h
rule-passes (of_put {kind = kind}) ds G Bs A Q c among g =
    λ h. first-ends (put_atom kind) (provided-inner (is_atom (put_atom kind) (type_at Bs 0)) (atom Comm) A c).0 (put_atom-shape kind) h
rule-passes of_target ds G Bs A Q c among g =
    let x = assignment-inner (type_at Bs 0) (type_at Bs 1) (atom Comm) A c in
    λ h. first-ends (acceptor_atom x.0) x.1 (acceptor_atom-shape x.0) h
rule-passes of_value ds G Bs A Q c among g =
    let x = assignment-inner (type_at Bs 0) (type_at Bs 1) (atom Comm) A c in
    λ h. second-ends (data_atom x.0) x.2 (data_atom-shape x.0) h
rule-passes of_read ds G Bs A Q c among g = λ h. first-ends IntAcc (provided-inner (is_atom IntAcc (type_at Bs 0)) (atom Comm) A c).0 refl h
rule-passes of_first ds G Bs A Q c among g = λ h. first-ends Comm (command-inner Comm (type_at Bs 0) (type_at Bs 1) A c).0 refl h
rule-passes of_second ds G Bs A Q c among g =
    let x = command-inner Comm (type_at Bs 0) (type_at Bs 1) A c in
    λ h. second-ends x.1.0 x.1.1 x.1.2 h
rule-passes of_forever ds G Bs A Q c among g = λ h. first-ends Comm (provided-inner (is_atom Comm (type_at Bs 0)) (atom Compl) A c).0 refl h
rule-passes of_escape ds G Bs A Q c among g = λ h. first-ends Comm (provided-inner (is_atom Comm (type_at Bs 0)) (atom Comm) A c).0 refl h
rule-passes (of_accept {D = D}) ds G Bs A Q c among g =
    λ h. first-ends Comm (provided-inner (is_atom Comm (type_at Bs 0)) (atom (acceptor_atom D)) A c).0 refl h
rule-passes of_while_test ds G Bs A Q c among g = λ h. first-ends Truth (both_atoms Truth Comm (type_at Bs 0) (type_at Bs 1) (atom Comm) A c).0 refl h
rule-passes of_while_body ds G Bs A Q c among g = λ h. second-ends Comm (both_atoms Truth Comm (type_at Bs 0) (type_at Bs 1) (atom Comm) A c).1 refl h
rule-passes (of_new_value {D = D}) ds G Bs A Q c among g =
    λ h. first-ends (data_atom D) (command-inner (data_atom D) (type_at Bs 0) (type_at Bs 1) A c).0 (data_atom-shape D) h
rule-passes (of_new_body {D = D}) ds G Bs A Q c among g =
    let x = command-inner (data_atom D) (type_at Bs 0) (type_at Bs 1) A c in
    λ h. second-ends x.1.0 x.1.1 x.1.2 h
rule-passes of_cells_count ds G Bs A Q c among g = λ h. first-ends Int (command-inner Int (type_at Bs 0) (type_at Bs 1) A c).0 refl h
rule-passes of_cells_body ds G Bs A Q c among g =
    let x = command-inner Int (type_at Bs 0) (type_at Bs 1) A c in
    λ h. second-ends x.1.0 x.1.1 x.1.2 h

-- ---- abstractions and merges

-- of a call an abstraction passes the rest
pub lam-passes : (F : ℕ → PlainShape → Type 0) {m j : ℕ} {p : Tree} {s t : PlainShape} → Passes m p s j t → (i : ℕ) (x : PlainType × Tree) (r : PlainShape) →
    alternative i p ≡ Some x → s ≡ a_call r → F (m + 1) r → F j t
lam-passes F (of_lam {m = m}) i x r e f h = subst (F (m + 1)) (sym (call_same f)) h
lam-passes F pass i x r e f h = absurd cc

merge-same : (p q : Tree) (at : Place) (kind : Kind) (x : Tree × Tree × Kind) → kind_of q ≡ Some kind → operands (merge p q at) ≡ Some x → x ≡ (p, q, kind)
merge-same p q at kind x k e = some_same (sym e ∙ ap (option_map (λ z. (p, q, z))) k)

-- a merge passes a demand of its kind to the right operand alone, and every other to the left one alone
pub left-passes : (F : ℕ → PlainShape → Type 0) {m j : ℕ} {p : Tree} {s t : PlainShape} → Passes m p s j t → (x : Tree × Tree × Kind) →
    operands p ≡ Some x → shape_begins x.2 s ≡ false → F (m + 1) s → F j t
left-passes F (of_left k b) x e c h = h
left-passes F (of_right {p = p} {q = q} {at = at} {kind = kind} {s = s} k b) x e c h =
    let clash = sym b ∙ ap (λ y. shape_begins y.2 s) (sym (merge-same p q at kind x k e)) ∙ c in absurd cc
left-passes F pass x e c h = absurd cc

pub right-passes : (F : ℕ → PlainShape → Type 0) {m j : ℕ} {p : Tree} {s t : PlainShape} → Passes m p s j t → (x : Tree × Tree × Kind) →
    operands p ≡ Some x → shape_begins x.2 s ≡ true → F (m + 1 + nodes x.0) s → F j t
right-passes F (of_right {m = m} {p = p} {q = q} {at = at} {kind = kind} {s = s} k b) x e c h =
    subst (λ y. F (m + 1 + nodes y.0) s) (merge-same p q at kind x k e) h
right-passes F (of_left {p = p} {q = q} {at = at} {kind = kind} {s = s} k b) x e c h =
    let clash = sym b ∙ ap (λ y. shape_begins y.2 s) (sym (merge-same p q at kind x k e)) ∙ c in absurd cc
right-passes F pass x e c h = absurd cc

-- ---- the kind of a demand

acceptor-begins : (a : Atom) → shape_begins of_assignment (at_end (end_shape a)) ≡ is_acceptor a
acceptor-begins Int = refl
acceptor-begins a = refl

-- a shape begins as its path does
pub erase-begins : (k : Kind) (q : PlainPath) → shape_begins k (erase q) ≡ begins k q
erase-begins of_assignment (end a) = acceptor-begins a
erase-begins of_call (call D q) = refl
erase-begins (of_field i) (pick j q) = refl
erase-begins k q = refl

pub clear-begins : (k : Kind) {P : PlainPaths} {q : PlainPath} → HasPath P q → none_begins k P ≡ true → begins k q ≡ false
clear-begins k (first_path {p = p} {P = P}) e = not_true (begins k p) (both_true (not (begins k p)) (none_begins k P) e).0
clear-begins k (later_path {p = p} {P = P} among) e = clear-begins k among (both_true (not (begins k p)) (none_begins k P) e).1

-- the kind of the right operand of a merge
pub operands-kind : (p : Tree) (x : Tree × Tree × Kind) → operands p ≡ Some x → kind_of x.1 ≡ Some x.2
operands-kind (merge q r at) x e = by (kind_of r) refl e
  where
    by : (o : Option Kind) → kind_of r ≡ o → option_map (λ k. (q, r, k)) o ≡ Some x → kind_of x.1 ≡ Some x.2
    by None s f = absurd cc
    by (Some k) s f = let same : (q, r, k) ≡ x = some_same f in subst (λ y. kind_of y.1 ≡ Some y.2) same s
operands-kind p x e = absurd cc

acceptor_atom-accepts : (D : DataTy) → is_acceptor (acceptor_atom D) ≡ true
acceptor_atom-accepts data_type.Int = refl
acceptor_atom-accepts D = refl

-- a right operand answers only what begins with its kind
kind-begins : (q : Tree) (k : Kind) (W : World) (G : List PlainPaths) (P : PlainPath) → kind_of q ≡ Some k → Answers W G q P → begins k P ≡ true
kind-begins (lam d As b at) k W G P e h = let f : of_call ≡ k = cc in ap (λ j. begins j P) (sym f) ∙ ap (begins of_call) h.2
kind-begins (field i p at) k W G P e h =
    let f : of_field i ≡ k = cc in ap (λ j. begins j P) (sym f) ∙ ap (begins (of_field i)) h.1 ∙ eq-eqb i i refl
kind-begins (accept d D b at) k W G P e h =
    let f : of_assignment ≡ k = cc in ap (λ j. begins j P) (sym f) ∙ ap (begins of_assignment) h.0 ∙ acceptor_atom-accepts D
kind-begins q k W G P e h = absurd cc

each-path : (F : PlainPath → Type 0) {P : PlainPaths} {q : PlainPath} → HasPath P q → EachPath F P → F q
each-path F first_path each = each.0
each-path F (later_path among) each = each-path F among each.1

-- so does each path of what is concluded for it
pub right-begins : (d : PlainDerivation) (G : List PlainType) (p : Tree) (k : Kind) (A : PlainType) {q : PlainPath} → kind_of p ≡ Some k →
    judged d 0 G p ≡ concludes A → HasPath (paths A) q → begins k q ≡ true
right-begins d G p k A {q = q} e f among =
    kind-begins p k [] (variable_paths G) q e
    (each-path (λ R. Answers [] (variable_paths G) p R) among (typed-answers [] (judged-sound d 0 G p A f)))
