-- What is typed is concluded by some derivation.
use Rattle.std.proofs.Common.{ℕ, suc, ◌+◌, ◌≤◌, ◌≡◌, Bool, true, ◌||◌, List, [], ◌∷◌, ◌++◌, length, replicate, cond, eqb, eq-eqb, Option, Some, option_map, refl, sym, ap, ◌∙◌, arith}
use Rattle.std.proofs.lemmas.Bool.{and_from, or_left, or_right, le-leb}
use Rattle.fy_base.specs.declared.data.BinOp.{BinOp}
use Rattle.fy_types.specs.declared.types.Atom.{Atom}
use Rattle.fy_types.specs.declared.types.Atom.TheVariants.{Int, Bool as Truth, Char, Comm, Compl, IntAcc, BoolAcc, CharAcc}
use Rattle.fy_types.specs.Types.{PlainType, PlainTypes, atom, arrow, field as field_type, meet, no_types, and_type}
use Rattle.fy_types.specs.Subtyping.{IsMember}
use Rattle.fy_types.specs.Subtyping as subtyping
use Rattle.fy_types.specs.Once.{place}
use Rattle.fy_types.specs.Paths.{paths}
use Rattle.fy_types.specs.Reading.{types_from}
use Rattle.fy_phrase.specs.declared.phrase.DataTy.{DataTy}
use Rattle.fy_phrase.specs.declared.phrase.DataTy.TheVariants as data_type
use Rattle.fy_phrase.specs.Tree.{Tree, Trees, no_trees, and_tree, var, lit, unary, binary, cond as conditional, case, app, field, sel, let_in, rec, skip, seq, assign, while_do, forever, new, cells, escape, accept, put, read}
use Rattle.fy_derive.specs.Atoms.{data_atom, acceptor_atom, cell_type, sequence_type, datum_atom, operand_atom, unary_atom, takes, binary_atom, put_atom, is_command}
use Rattle.fy_derive.specs.Kinds.{Kind, none_begins}
use Rattle.fy_derive.specs.Typing as typing
use Rattle.fy_derive.specs.Typing.{HasType, HasEach, EachHasType, of_data}
use Rattle.fy_derive.specs.Derivations.{PlainDerivation, PlainDerivations, by_ns, sub, meets, alt, left, right, rule, no_derivations, and_derivation, count, nodes}
use Rattle.fy_derive.specs.Subsumption.{is_below}
use Rattle.fy_derive.specs.Rules.{Binder, nothing, first, given, premises, of_parts, provided, is_atom, same_type, fits_operator, all_same, picked_type, command_behind, fits_assignment, conclusion}
use Rattle.fy_derive.specs.Judging.{concludes, stops, all_conclude, then_judge, then_others, at_node, from_premises, if_form, member, under, judged, each_judged}
use Rattle.fy_derive.proofs.SubsumptionLemmas.{is_below-iff}
use Rattle.fy_derive.proofs.RuleLemmas.{same_type-refl}
use Rattle.fy_derive.proofs.JudgeLemmas.{rule_judged}
use Rattle.fy_derive.proofs.SoundLemmas.{append-none, append-push}

-- some derivation concludes the type, from whatever number its first node has
abbrev pub IsDerived : List PlainType → Tree → PlainType → Type 0
IsDerived G p A = (d : PlainDerivation) × ((n : ℕ) → judged d n G p ≡ concludes A)

abbrev listed : PlainTypes → List PlainType
listed no_types = []
listed (and_type A As) = A ∷ listed As

types_from-listed : (As : PlainTypes) → types_from (listed As) ≡ As
types_from-listed no_types = refl
types_from-listed (and_type A As) = ap (and_type A) (types_from-listed As)

abbrev AreDerived : List PlainType → Tree → PlainTypes → Type 0
AreDerived G p As = (ds : PlainDerivations) × ((n : ℕ) (Bs : List PlainType) →
    each_judged ds n G (replicate (count ds) (nothing, p)) Bs ≡ all_conclude (Bs ++ listed As))

-- one copy of the type for each part
abbrev pub copies : Trees → PlainType → List PlainType
copies no_trees A = []
copies (and_tree p ps) A = A ∷ copies ps A

pub all_same-copies : (ps : Trees) (A : PlainType) → all_same A (copies ps A) ≡ true
all_same-copies no_trees A = refl
all_same-copies (and_tree p ps) A = and_from _ _ (same_type-refl A) (all_same-copies ps A)

abbrev PartsDerived : List PlainType → Trees → PlainType → Type 0
PartsDerived G ps A = (ds : PlainDerivations) × (count ds ≡ length (of_parts ps)) × ((n : ℕ) (Bs : List PlainType) →
    each_judged ds n G (of_parts ps) Bs ≡ all_conclude (Bs ++ copies ps A))

-- rules with no premise, one, two and three
pub no-premise : (G : List PlainType) (p : Tree) (C : PlainType) (n : ℕ) → premises p ≡ Some [] → conclusion G p [] ≡ Some C →
    judged (rule no_derivations) n G p ≡ concludes C
no-premise G p C n e c = rule_judged no_derivations n G p [] (all_conclude []) e refl refl ∙ ap (at_node n) c

pub one-premise : (G : List PlainType) (p q : Tree) (b : Binder) (d : PlainDerivation) (A C : PlainType) (n : ℕ) → premises p ≡ Some ((b, q) ∷ []) →
    judged d (n + 1) (under b [] G) q ≡ concludes A → conclusion G p (A ∷ []) ≡ Some C →
    judged (rule (and_derivation d no_derivations)) n G p ≡ concludes C
one-premise G p q b d A C n e h c =
    rule_judged (and_derivation d no_derivations) n G p ((b, q) ∷ []) (all_conclude (A ∷ [])) e refl
    (ap (λ j. then_others j (λ B. all_conclude (B ∷ []))) h) ∙ ap (at_node n) c

pub two-premises : (G : List PlainType) (p q r : Tree) (b c : Binder) (d e : PlainDerivation) (A B C : PlainType) (n : ℕ) →
    premises p ≡ Some ((b, q) ∷ (c, r) ∷ []) → judged d (n + 1) (under b [] G) q ≡ concludes A →
    judged e (n + 1 + nodes d) (under c (A ∷ []) G) r ≡ concludes B → conclusion G p (A ∷ B ∷ []) ≡ Some C →
    judged (rule (and_derivation d (and_derivation e no_derivations))) n G p ≡ concludes C
two-premises G p q r b c d e A B C n f h k g =
    rule_judged (and_derivation d (and_derivation e no_derivations)) n G p ((b, q) ∷ (c, r) ∷ []) (all_conclude (A ∷ B ∷ [])) f refl
    (ap (λ j. then_others j (λ X. then_others (judged e (n + 1 + nodes d) (under c (X ∷ []) G) r) (λ Y. all_conclude (X ∷ Y ∷ [])))) h
    ∙ ap (λ j. then_others j (λ Y. all_conclude (A ∷ Y ∷ []))) k) ∙ ap (at_node n) g

pub three-premises : (G : List PlainType) (p q r s : Tree) (d e f : PlainDerivation) (A B D C : PlainType) (n : ℕ) →
    premises p ≡ Some ((nothing, q) ∷ (nothing, r) ∷ (nothing, s) ∷ []) → judged d (n + 1) G q ≡ concludes A →
    judged e (n + 1 + nodes d) G r ≡ concludes B → judged f (n + 1 + nodes d + nodes e) G s ≡ concludes D → conclusion G p (A ∷ B ∷ D ∷ []) ≡ Some C →
    judged (rule (and_derivation d (and_derivation e (and_derivation f no_derivations)))) n G p ≡ concludes C
three-premises G p q r s d e f A B D C n g h k l c =
    rule_judged (and_derivation d (and_derivation e (and_derivation f no_derivations))) n G p ((nothing, q) ∷ (nothing, r) ∷ (nothing, s) ∷ [])
    (all_conclude (A ∷ B ∷ D ∷ [])) g refl
    (ap (λ j. then_others j (λ X. then_others (judged e (n + 1 + nodes d) G r) (λ Y. then_others (judged f (n + 1 + nodes d + nodes e) G s) (λ Z. all_conclude (X ∷ Y ∷ Z ∷ []))))) h
    ∙ (ap (λ j. then_others j (λ Y. then_others (judged f (n + 1 + nodes d + nodes e) G s) (λ Z. all_conclude (A ∷ Y ∷ Z ∷ [])))) k
    ∙ ap (λ j. then_others j (λ Z. all_conclude (A ∷ B ∷ Z ∷ []))) l)) ∙ ap (at_node n) c

-- the tests of the rules
pub same_atom : (a : Atom) → is_atom a (atom a) ≡ true
same_atom a = eq-eqb (place a) (place a) refl

pub when : (b : Bool) (A : PlainType) → b ≡ true → provided b A ≡ Some A
when b A e = ap (λ x. provided x A) e

pub operator-fits : (op : BinOp) (D : DataTy) → takes op D ≡ true → fits_operator op (of_data D) (of_data D) ≡ true
operator-fits op data_type.Int e = or_left _ _ (and_from _ _ e refl)
operator-fits op data_type.Bool e = or_right _ _ (or_left _ _ (and_from _ _ e refl))
operator-fits op data_type.Char e = or_right _ _ (or_right _ _ (and_from _ _ e refl))

pub assignment-fits : (D : DataTy) → fits_assignment (atom (acceptor_atom D)) (of_data D) ≡ true
assignment-fits data_type.Int = refl
assignment-fits data_type.Bool = refl
assignment-fits data_type.Char = refl

pub command-fits : (R : Atom) → is_command R ≡ true → is_atom Comm (atom R) || is_atom Compl (atom R) ≡ true
command-fits Comm e = refl
command-fits Compl e = refl
command-fits Int e = absurd cc
command-fits Truth e = absurd cc
command-fits Char e = absurd cc
command-fits IntAcc e = absurd cc
command-fits BoolAcc e = absurd cc
command-fits CharAcc e = absurd cc

pub command-concludes : (a R : Atom) → is_command R ≡ true → command_behind a (atom a) (atom R) ≡ Some (atom R)
command-concludes a R e = when _ (atom R) (and_from _ _ (same_atom a) (command-fits R e))

member-at : {As : PlainTypes} {A : PlainType} → IsMember As A → (i : ℕ) × (member As i ≡ Some A)
member-at subtyping.first = (0, refl)
member-at (subtyping.later h) = let x = member-at h in (suc x.0, x.1)

-- one derivation more of a phrase
abbrev and-derived : (G : List PlainType) (p : Tree) (A : PlainType) (As : PlainTypes) → IsDerived G p A → AreDerived G p As → AreDerived G p (and_type A As)
and-derived G p A As x xs = (
  and_derivation x.0 xs.0,
  λ n Bs.
      let more : 1 + count xs.0 ≡ suc (count xs.0) = omega arith in
      ap (λ m. each_judged (and_derivation x.0 xs.0) n G (replicate m (nothing, p)) Bs) more
      ∙ (ap (λ j. then_others j (λ B. each_judged xs.0 (n + nodes x.0) G (replicate (count xs.0) (nothing, p)) (Bs ++ B ∷ []))) (x.1 n)
      ∙ (xs.1 (n + nodes x.0) (Bs ++ A ∷ []) ∙ ap all_conclude (append-push Bs (listed As) A))),
)

meet-derived : (G : List PlainType) (p : Tree) (As : PlainTypes) (x : AreDerived G p As) → 2 ≤ count x.0 → IsDerived G p (meet As)
meet-derived G p As x l = (
  meets x.0,
  λ n.
      let f : List PlainType → Option PlainType = λ Bs. Some (meet (types_from Bs)) in
      ap (λ b. cond b (from_premises n (each_judged x.0 (n + 1) G (replicate (count x.0) (nothing, p)) []) f) (stops n)) (le-leb 2 (count x.0) l)
      ∙ (ap (λ j. from_premises n j f) (x.1 (n + 1) []) ∙ ap (λ Bs. concludes (meet Bs)) (types_from-listed As)),
)

two-derived : (G : List PlainType) (p : Tree) (A B : PlainType) (As : PlainTypes) → IsDerived G p A → IsDerived G p B → AreDerived G p As →
    IsDerived G p (meet (and_type A (and_type B As)))
two-derived G p A B As x y xs =
    meet-derived G p (and_type A (and_type B As)) (and-derived G p A (and_type B As) x (and-derived G p B As y xs)) more
  where
    more : 2 ≤ 1 + (1 + count xs.0)
    more = omega arith

and-part : (G : List PlainType) (p : Tree) (ps : Trees) (A : PlainType) → IsDerived G p A → PartsDerived G ps A → PartsDerived G (and_tree p ps) A
and-part G p ps A x xs = (
  and_derivation x.0 xs.0,
  omega (arith, xs.1),
  λ n Bs.
      ap (λ j. then_others j (λ B. each_judged xs.0 (n + nodes x.0) G (of_parts ps) (Bs ++ B ∷ []))) (x.1 n)
      ∙ (xs.2 (n + nodes x.0) (Bs ++ A ∷ []) ∙ ap all_conclude (append-push Bs (copies ps A) A)),
)

case-derived : (G : List PlainType) (e p : Tree) (ps : Trees) (A : PlainType) (q : Tree) → premises q ≡ Some ((nothing, e) ∷ (nothing, p) ∷ of_parts ps) →
    ((As : List PlainType) → conclusion G q As ≡ picked_type As) → IsDerived G e (atom Int) → IsDerived G p A → PartsDerived G ps A → IsDerived G q A
case-derived G e p ps A q f g x y z = (
  rule (and_derivation x.0 (and_derivation y.0 z.0)),
  λ n.
      rule_judged (and_derivation x.0 (and_derivation y.0 z.0)) n G q ((nothing, e) ∷ (nothing, p) ∷ of_parts ps) (all_conclude (atom Int ∷ A ∷ copies ps A)) f
      (omega (arith, z.1))
      (ap (λ j. then_others j (λ X. then_others (judged y.0 (n + 1 + nodes x.0) G p) (λ Y. each_judged z.0 (n + 1 + nodes x.0 + nodes y.0) G (of_parts ps) (X ∷ Y ∷ [])))) (x.1 (n + 1))
      ∙ (ap (λ j. then_others j (λ Y. each_judged z.0 (n + 1 + nodes x.0 + nodes y.0) G (of_parts ps) (atom Int ∷ Y ∷ []))) (y.1 (n + 1 + nodes x.0))
      ∙ z.2 (n + 1 + nodes x.0 + nodes y.0) (atom Int ∷ A ∷ [])))
      ∙ ap (at_node n) (g (atom Int ∷ A ∷ copies ps A) ∙ when (all_same A (copies ps A)) A (all_same-copies ps A)),
)

mutual
  pub typed-derived : {G : List PlainType} {p : Tree} {A : PlainType} → HasType G p A → IsDerived G p A
  typed-derived typing.by_ns = (by_ns, λ n. refl)
  typed-derived (typing.by_subsumption {G = G} {p = p} {A = A} {B = B} h low) =
      let x = typed-derived h in
      (sub B x.0, λ n. ap (λ j. then_judge j (λ A. at_node n (provided (is_below A B) B))) (x.1 (n + 1)) ∙ ap (at_node n) (when (is_below A B) B ((is_below-iff A B).1 low)))
  typed-derived (typing.by_meet {G = G} {p = p} {A = A} {B = B} {As = As} h k r) =
      two-derived G p A B As (typed-derived h) (typed-derived k) (each-derived r)
  typed-derived (typing.by_var {G = G} {k = k} {at = at} {A = A} e) = (rule no_derivations, λ n. no-premise G (var k at) A n refl e)
  typed-derived (typing.by_lit {G = G} {v = v} {at = at}) = (rule no_derivations, λ n. no-premise G (lit v at) (atom (datum_atom v)) n refl refl)
  typed-derived (typing.by_unary {G = G} {op = op} {p = p} {at = at} h) =
      let x = typed-derived h in
      (rule (and_derivation x.0 no_derivations), λ n. one-premise G (unary op p at) p nothing x.0 (atom (operand_atom op)) (atom (unary_atom op)) n refl (x.1 (n + 1)) (when (is_atom (operand_atom op) (atom (operand_atom op))) (atom (unary_atom op)) (same_atom (operand_atom op))))
  typed-derived (typing.by_binary {G = G} {op = op} {p = p} {q = q} {at = at} D t h k) =
      let x = typed-derived h in
      let y = typed-derived k in (
        rule (and_derivation x.0 (and_derivation y.0 no_derivations)),
        λ n.
            two-premises G (binary op p q at) p q nothing nothing x.0 y.0 (of_data D) (of_data D) (atom (binary_atom op)) n refl (x.1 (n + 1)) (y.1 (n + 1 + nodes x.0)) (when (fits_operator op (of_data D) (of_data D)) (atom (binary_atom op)) (operator-fits op D t)),
      )
  typed-derived (typing.by_cond {G = G} {b = b} {p = p} {q = q} {at = at} {A = A} h k l) =
      let x = typed-derived h in
      let y = typed-derived k in
      let z = typed-derived l in (
        rule (and_derivation x.0 (and_derivation y.0 (and_derivation z.0 no_derivations))),
        λ n.
            three-premises G (conditional b p q at) b p q x.0 y.0 z.0 (atom Truth) A A A n refl (x.1 (n + 1)) (y.1 (n + 1 + nodes x.0)) (z.1 (n + 1 + nodes x.0 + nodes y.0))
            (when (same_type A A) A (same_type-refl A)),
      )
  typed-derived (typing.by_case {G = G} {e = e} {p = p} {ps = ps} {at = at} {A = A} h k r) =
      case-derived G e p ps A (case e (and_tree p ps) at) refl (λ As. refl) (typed-derived h) (typed-derived k) (parts-derived r)
  typed-derived (typing.by_lam {G = G} {As = As} {b = b} {A = A} {C = C} m h) =
      let i = member-at m in
      let x = typed-derived h in (
        alt i.0 x.0,
        λ n.
            ap (λ o. if_form {X = PlainType × Tree} n (option_map (λ A. (A, b)) o) (λ x'. then_judge (judged x.0 (n + 1) (x'.0 ∷ G) x'.1) (λ C. concludes (arrow x'.0 C)))) i.1
            ∙ ap (λ j. then_judge j (λ C. concludes (arrow A C))) (x.1 (n + 1)),
      )
  typed-derived (typing.by_app {G = G} {p = p} {q = q} {at = at} {A = A} {C = C} h k) =
      let x = typed-derived h in
      let y = typed-derived k in (
        rule (and_derivation x.0 (and_derivation y.0 no_derivations)),
        λ n.
            two-premises G (app p q at) p q nothing nothing x.0 y.0 (arrow A C) A C n refl (x.1 (n + 1)) (y.1 (n + 1 + nodes x.0)) (when (same_type A A) C (same_type-refl A)),
      )
  typed-derived (typing.by_field {G = G} {i = i} {p = p} {at = at} {A = A} h) =
      let x = typed-derived h in
      (rule (and_derivation x.0 no_derivations), λ n. one-premise G (field i p at) p nothing x.0 A (field_type i A) n refl (x.1 (n + 1)) refl)
  typed-derived (typing.by_sel {G = G} {i = i} {p = p} {at = at} {A = A} h) =
      let x = typed-derived h in
      (rule (and_derivation x.0 no_derivations), λ n. one-premise G (sel p i at) p nothing x.0 (field_type i A) A n refl (x.1 (n + 1)) (when (eqb i i) A (eq-eqb i i refl)))
  typed-derived (typing.by_left {G = G} {p = p} {q = q} {k = k} {A = A} m h c) =
      let x = typed-derived h in (
        left x.0,
        λ n.
            ap (λ o. if_form {X = Tree × Tree × Kind} n (option_map (λ k. (p, q, k)) o) (λ x'. then_judge (judged x.0 (n + 1) G x'.0) (λ A. at_node n (provided (none_begins x'.2 (paths A)) A)))) m
            ∙ (ap (λ j. then_judge j (λ A. at_node n (provided (none_begins k (paths A)) A))) (x.1 (n + 1)) ∙ ap (at_node n) (when _ A c)),
      )
  typed-derived (typing.by_right {G = G} {p = p} {q = q} {k = k} m h) =
      let x = typed-derived h in
      (right x.0, λ n. ap (λ o. if_form {X = Tree × Tree × Kind} n (option_map (λ k. (p, q, k)) o) (λ x'. judged x.0 (n + 1) G x'.1)) m ∙ x.1 (n + 1))
  typed-derived (typing.by_let {G = G} {d = d} {p = p} {b = b} {at = at} {A = A} {C = C} h k) =
      let x = typed-derived h in
      let y = typed-derived k in (
        rule (and_derivation x.0 (and_derivation y.0 no_derivations)),
        λ n.
            two-premises G (let_in d p b at) p b nothing first x.0 y.0 A C C n refl (x.1 (n + 1)) (y.1 (n + 1 + nodes x.0)) refl,
      )
  typed-derived (typing.by_rec {G = G} {d = d} {T = T} {b = b} {at = at} h) =
      let x = typed-derived h in
      (rule (and_derivation x.0 no_derivations), λ n. one-premise G (rec d T b at) b (given T) x.0 T T n refl (x.1 (n + 1)) (when (same_type T T) T (same_type-refl T)))
  typed-derived (typing.by_skip {G = G} {at = at}) = (rule no_derivations, λ n. no-premise G (skip at) (atom Comm) n refl refl)
  typed-derived (typing.by_seq {G = G} {p = p} {q = q} {at = at} {R = R} c h k) =
      let x = typed-derived h in
      let y = typed-derived k in (
        rule (and_derivation x.0 (and_derivation y.0 no_derivations)),
        λ n.
            two-premises G (seq p q at) p q nothing nothing x.0 y.0 (atom Comm) (atom R) (atom R) n refl (x.1 (n + 1)) (y.1 (n + 1 + nodes x.0)) (command-concludes Comm R c),
      )
  typed-derived (typing.by_assign {G = G} {p = p} {q = q} {at = at} D h k) =
      let x = typed-derived h in
      let y = typed-derived k in (
        rule (and_derivation x.0 (and_derivation y.0 no_derivations)),
        λ n.
            two-premises G (assign p q at) p q nothing nothing x.0 y.0 (atom (acceptor_atom D)) (of_data D) (atom Comm) n refl (x.1 (n + 1)) (y.1 (n + 1 + nodes x.0)) (when (fits_assignment (atom (acceptor_atom D)) (of_data D)) (atom Comm) (assignment-fits D)),
      )
  typed-derived (typing.by_while {G = G} {b = b} {c = c} {at = at} h k) =
      let x = typed-derived h in
      let y = typed-derived k in (
        rule (and_derivation x.0 (and_derivation y.0 no_derivations)),
        λ n.
            two-premises G (while_do b c at) b c nothing nothing x.0 y.0 (atom Truth) (atom Comm) (atom Comm) n refl (x.1 (n + 1)) (y.1 (n + 1 + nodes x.0)) refl,
      )
  typed-derived (typing.by_forever {G = G} {c = c} {at = at} h) =
      let x = typed-derived h in
      (rule (and_derivation x.0 no_derivations), λ n. one-premise G (forever c at) c nothing x.0 (atom Comm) (atom Compl) n refl (x.1 (n + 1)) refl)
  typed-derived (typing.by_new {G = G} {d = d} {D = D} {e = e} {b = b} {at = at} {R = R} c h k) =
      let x = typed-derived h in
      let y = typed-derived k in (
        rule (and_derivation x.0 (and_derivation y.0 no_derivations)),
        λ n.
            two-premises G (new d D e b at) e b nothing (given (cell_type D)) x.0 y.0 (of_data D) (atom R) (atom R) n refl (x.1 (n + 1)) (y.1 (n + 1 + nodes x.0)) (command-concludes (data_atom D) R c),
      )
  typed-derived (typing.by_cells {G = G} {d = d} {e = e} {b = b} {at = at} {R = R} c h k) =
      let x = typed-derived h in
      let y = typed-derived k in (
        rule (and_derivation x.0 (and_derivation y.0 no_derivations)),
        λ n.
            two-premises G (cells d e b at) e b nothing (given sequence_type) x.0 y.0 (atom Int) (atom R) (atom R) n refl (x.1 (n + 1)) (y.1 (n + 1 + nodes x.0)) (command-concludes Int R c),
      )
  typed-derived (typing.by_escape {G = G} {d = d} {b = b} {at = at} h) =
      let x = typed-derived h in
      (rule (and_derivation x.0 no_derivations), λ n. one-premise G (escape d b at) b (given (atom Compl)) x.0 (atom Comm) (atom Comm) n refl (x.1 (n + 1)) refl)
  typed-derived (typing.by_accept {G = G} {d = d} {D = D} {b = b} {at = at} h) =
      let x = typed-derived h in
      (rule (and_derivation x.0 no_derivations), λ n. one-premise G (accept d D b at) b (given (of_data D)) x.0 (atom Comm) (atom (acceptor_atom D)) n refl (x.1 (n + 1)) refl)
  typed-derived (typing.by_put {G = G} {kind = kind} {p = p} {at = at} h) =
      let x = typed-derived h in
      (rule (and_derivation x.0 no_derivations), λ n. one-premise G (put kind p at) p nothing x.0 (atom (put_atom kind)) (atom Comm) n refl (x.1 (n + 1)) (when (is_atom (put_atom kind) (atom (put_atom kind))) (atom Comm) (same_atom (put_atom kind))))
  typed-derived (typing.by_read {G = G} {p = p} {at = at} h) =
      let x = typed-derived h in
      (rule (and_derivation x.0 no_derivations), λ n. one-premise G (read p at) p nothing x.0 (atom IntAcc) (atom Comm) n refl (x.1 (n + 1)) refl)

  each-derived : {G : List PlainType} {p : Tree} {As : PlainTypes} → HasEach G p As → AreDerived G p As
  each-derived typing.no_more = (no_derivations, λ n Bs. ap all_conclude (sym (append-none Bs)))
  each-derived (typing.and_has {G = G} {p = p} {A = A} {As = As} h r) = and-derived G p A As (typed-derived h) (each-derived r)

  parts-derived : {G : List PlainType} {ps : Trees} {A : PlainType} → EachHasType G ps A → PartsDerived G ps A
  parts-derived typing.no_parts = (no_derivations, refl, λ n Bs. ap all_conclude (sym (append-none Bs)))
  parts-derived (typing.and_part {G = G} {p = p} {ps = ps} {A = A} h r) = and-part G p ps A (typed-derived h) (parts-derived r)
