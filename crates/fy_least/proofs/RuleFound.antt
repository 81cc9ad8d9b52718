-- What is found of forms whose premises are atoms.
use Rattle.std.proofs.lemmas.Bool.{or_left, or_right}
use Rattle.std.proofs.Common.{ℕ, ◌+◌, ◌≤◌, ◌≡◌, max, Bool, true, false, ◌&&◌, List, [], ◌∷◌, inl, inr, refl, sym, ap, ◌∙◌, subst, arith, if◌then◌else◌}
use Rattle.fy_base.specs.declared.data.Place.{Place}
use Rattle.fy_base.specs.Outside.{Bytes}
use Rattle.fy_base.specs.declared.data.Datum.{Datum}
use Rattle.fy_base.specs.declared.data.UnOp.{UnOp}
use Rattle.fy_base.specs.declared.data.BinOp.{BinOp}
use Rattle.fy_base.specs.declared.data.PutKind.{PutKind}
use Rattle.fy_types.specs.declared.types.Atom.TheVariants.{Int, Bool as Truth, Comm, Compl, IntAcc}
use Rattle.fy_types.specs.Types.{atom}
use Rattle.fy_types.specs.Paths.{PlainPaths, no_paths, paths}
use Rattle.fy_types.specs.PathOrder.{ArePathsBelow}
use Rattle.fy_types.specs.Reading.{plain_paths}
use Rattle.fy_types.specs.Fields.{IsNamed}
use Rattle.fy_types.proofs.Order.{ArePathsBelow-refl}
use Rattle.fy_types.proofs.OnceLemmas.{both_true}
use Rattle.fy_phrase.specs.declared.phrase.DataTy.{DataTy}
use Rattle.fy_phrase.specs.declared.phrase.DataTy.TheVariants as data_type
use Rattle.fy_phrase.specs.declared.phrase.MarkKind.{MarkKind}
use Rattle.fy_phrase.specs.Tree.{Tree, lit, unary, binary, seq, assign, while_do, forever, new, cells, escape, accept, put, read, skip, mark}
use Rattle.fy_phrase.specs.Sizes.{nesting}
use Rattle.fy_phrase.specs.Sizes as sizes
use Rattle.fy_derive.specs.Atoms.{data_atom, acceptor_atom, cell_type, sequence_type, datum_atom, operand_atom, unary_atom, takes, binary_atom, put_atom, is_command}
use Rattle.fy_derive.specs.Derivations.{by_ns, rule, no_derivations, and_derivation, nodes}
use Rattle.fy_derive.specs.Derivations as derivations
use Rattle.fy_derive.specs.Rules.{nothing, given, is_atom, fits_operator, fits_assignment}
use Rattle.fy_derive.specs.Tables.{type_at}
use Rattle.fy_derive.specs.Typing.{of_data}
use Rattle.fy_derive.specs.Least.{one_end, if_passed, has, some_data, has_operands, has_assignment, command_of, least_type}
use Rattle.fy_derive.proofs.CompleteLemmas.{no-premise, when, operator-fits, assignment-fits, command-concludes}
use Rattle.fy_least.specs.declared.found.Found.{Found}
use Rattle.fy_least.specs.Derived.{rule_of, rule_of_both, derived_if, ConcludesBelow, most_made_nesting}
use Rattle.fy_derive.specs.Limits.{deepest_type}
use Rattle.fy_derive.specs.Printable.{IsPrintable}
use Rattle.fy_least.specs.Layers.{met, IsLayered}
use Rattle.fy_phrase.specs.CoreLimits.{deepest_written}
use Rattle.fy_least.specs.Rules.{have_atoms, end_of_command, serves_operator, serves_assignment, IsOperated, IsAssigned}
use Rattle.fy_least.specs.Writable.{IsWritable}
use Rattle.fy_least.specs.Visited.{IsFound, IsMade, blame_at, has_atom, derivation_of, as_atom}
use Rattle.fy_least.specs.Pairs.{HasPairsAbove}
use Rattle.fy_least.proofs.LayerLemmas.{ns-layered, none-layered, two-layered}
use Rattle.fy_least.proofs.LeastFields.{part-writable, both-writable, sequence-fields}
use Rattle.fy_least.proofs.PairLemmas.{no_premises, and_plain, and_given, provided-solid, command-solid, none-pairs, sub-pairs, rule-pairs, solid-pairs, mark-pairs}
use Rattle.fy_least.proofs.PrintableLemmas.{none-printable, two-printable}
use Rattle.fy_least.proofs.FoundLemmas.{none-found, two-found, atom-found, atoms-found, atoms-derived, none-derived}

-- a rule without premises
pub lit-found : (G : List PlainPaths) (v : Datum) (at : Place) (f : Found) → IsMade (one_end (datum_atom v)) at 0 f →
    derivation_of f ≡ rule no_derivations → IsFound G (lit v at) f
lit-found G v at f made e =
    none-found G (lit v at) at f (rule no_derivations) made refl refl refl (λ m. refl) e
    (λ H i n. (atom (datum_atom v), no-premise H (lit v at) (atom (datum_atom v)) n refl refl, ArePathsBelow-refl (one_end (datum_atom v)))) refl refl
    (omega arith) refl none-layered none-printable (none-pairs G (lit v at) (rule no_derivations) refl)

pub skip-found : (G : List PlainPaths) (at : Place) (f : Found) → IsMade (one_end Comm) at 0 f →
    derivation_of f ≡ rule no_derivations → IsFound G (skip at) f
skip-found G at f made e =
    none-found G (skip at) at f (rule no_derivations) made refl refl refl (λ m. refl) e
    (λ H i n. (atom Comm, no-premise H (skip at) (atom Comm) n refl refl, ArePathsBelow-refl (one_end Comm))) refl refl (omega arith) refl none-layered none-printable
    (none-pairs G (skip at) (rule no_derivations) refl)

pub mark-found : (G : List PlainPaths) (k : MarkKind) (at : Place) (f : Found) → IsMade no_paths at 0 f → derivation_of f ≡ by_ns →
    IsFound G (mark k at) f
mark-found G k at f made e =
    none-found G (mark k at) at f by_ns made refl refl refl (λ m. refl) e (none-derived G (mark k at) refl) refl refl (omega arith) refl ns-layered (λ names. tt)
    (mark-pairs G k at by_ns)

-- rules of one premise
pub unary-found : (G : List PlainPaths) (op : UnOp) (p : Tree) (at : Place) (part f : Found) → IsFound G p part →
    IsMade (if_passed (has_atom part (operand_atom op)) (one_end (unary_atom op))) (blame_at part at) part.total f →
    derivation_of f ≡ derived_if (has_atom part (operand_atom op)) (rule_of (as_atom (operand_atom op) part)) → IsFound G (unary op p at) f
unary-found G op p at part f h =
    atom-found G G p (unary op p at) nothing (operand_atom op) (unary_atom op) at part f h refl refl refl refl (λ m. refl) refl refl refl (λ H i. i)
    (λ H As. refl) (λ names text. part-writable names G p text.around text.named text.full text.few) (λ d x. and_plain x no_premises)

pub forever-found : (G : List PlainPaths) (p : Tree) (at : Place) (part f : Found) → IsFound G p part →
    IsMade (if_passed (has_atom part Comm) (one_end Compl)) (blame_at part at) part.total f →
    derivation_of f ≡ derived_if (has_atom part Comm) (rule_of (as_atom Comm part)) → IsFound G (forever p at) f
forever-found G p at part f h =
    atom-found G G p (forever p at) nothing Comm Compl at part f h refl refl refl refl (λ m. refl) refl refl refl (λ H i. i) (λ H As. refl)
    (λ names text. part-writable names G p text.around text.named text.full text.few) (λ d x. and_plain x no_premises)

pub escape-found : (G : List PlainPaths) (d : ℕ) (p : Tree) (at : Place) (part f : Found) → IsFound (one_end Compl ∷ G) p part →
    IsMade (if_passed (has_atom part Comm) (one_end Comm)) (blame_at part at) part.total f →
    derivation_of f ≡ derived_if (has_atom part Comm) (rule_of (as_atom Comm part)) → IsFound G (escape d p at) f
escape-found G d p at part f h =
    atom-found G (one_end Compl ∷ G) p (escape d p at) (given (atom Compl)) Comm Comm at part f h refl refl refl refl (λ m. refl) refl refl refl
    (λ H i. ap (λ X. one_end Compl ∷ X) i) (λ H As. refl)
    (λ names text. part-writable names (one_end Compl ∷ G) p ((tt, tt), text.around) text.named text.full text.few) (λ d x. and_given x no_premises)

pub accept-found : (G : List PlainPaths) (d : ℕ) (D : DataTy) (p : Tree) (at : Place) (part f : Found) → IsFound (one_end (data_atom D) ∷ G) p part →
    IsMade (if_passed (has_atom part Comm) (one_end (acceptor_atom D))) (blame_at part at) part.total f →
    derivation_of f ≡ derived_if (has_atom part Comm) (rule_of (as_atom Comm part)) → IsFound G (accept d D p at) f
accept-found G d D p at part f h =
    atom-found G (one_end (data_atom D) ∷ G) p (accept d D p at) (given (atom (data_atom D))) Comm (acceptor_atom D) at part f h
    refl refl refl refl (λ m. refl) refl refl refl (λ H i. ap (λ X. one_end (data_atom D) ∷ X) i) (λ H As. refl)
    (λ names text. part-writable names (one_end (data_atom D) ∷ G) p ((tt, tt), text.around) text.named text.full text.few)
    (λ d x. and_given x no_premises)

pub put-found : (G : List PlainPaths) (kind : PutKind) (p : Tree) (at : Place) (part f : Found) → IsFound G p part →
    IsMade (if_passed (has_atom part (put_atom kind)) (one_end Comm)) (blame_at part at) part.total f →
    derivation_of f ≡ derived_if (has_atom part (put_atom kind)) (rule_of (as_atom (put_atom kind) part)) → IsFound G (put kind p at) f
put-found G kind p at part f h =
    atom-found G G p (put kind p at) nothing (put_atom kind) Comm at part f h refl refl refl refl (λ m. refl) refl refl refl (λ H i. i)
    (λ H As. refl) (λ names text. part-writable names G p text.around text.named text.full text.few) (λ d x. and_plain x no_premises)

pub read-found : (G : List PlainPaths) (p : Tree) (at : Place) (part f : Found) → IsFound G p part →
    IsMade (if_passed (has_atom part IntAcc) (one_end Comm)) (blame_at part at) part.total f →
    derivation_of f ≡ derived_if (has_atom part IntAcc) (rule_of (as_atom IntAcc part)) → IsFound G (read p at) f
read-found G p at part f h =
    atom-found G G p (read p at) nothing IntAcc Comm at part f h refl refl refl refl (λ m. refl) refl refl refl (λ H i. i) (λ H As. refl)
    (λ names text. part-writable names G p text.around text.named text.full text.few) (λ d x. and_plain x no_premises)

-- rules of two premises
pub while-found : (G : List PlainPaths) (p q : Tree) (at : Place) (f g r : Found) → IsFound G p f → IsFound G q g →
    IsMade (if_passed (have_atoms f g Truth Comm) (one_end Comm)) (blame_at f (blame_at g at)) (f.total + g.total) r →
    derivation_of r ≡ derived_if (have_atoms f g Truth Comm) (rule_of_both (as_atom Truth f) (as_atom Comm g)) → IsFound G (while_do p q at) r
while-found G p q at f g r hf hg =
    atoms-found G G p q (while_do p q at) nothing Truth Comm Comm at f g r (λ m. m + 1 + sizes.nodes p) hf hg refl refl refl refl (λ m. refl) refl
    refl refl
    (λ H A i. i) (λ H. refl) (λ names text. both-writable names G G p q text.around text.around text.named text.full text.few)
    (λ I Bs A. provided-solid (is_atom Truth (type_at Bs 0) && is_atom Comm (type_at Bs 1)) Comm A) (λ d e x y. and_plain x (and_plain y no_premises))

pub command-same : (x : Bool) (Q : PlainPaths) → if_passed x (command_of Q)
    ≡ if_passed (x && has Q (if has Q Compl then Compl else Comm)) (one_end (if has Q Compl then Compl else Comm))
command-same false Q = refl
command-same true Q = cases (has Q Compl) refl
  where
    cases : (b : Bool) → has Q Compl ≡ b → (if b then one_end Compl else if_passed (has Q Comm) (one_end Comm))
        ≡ if_passed (has Q (if b then Compl else Comm)) (one_end (if b then Compl else Comm))
    cases true e = ap (λ c. if_passed c (one_end Compl)) (sym e)
    cases false e = refl

command-is : (b : Bool) → is_command (if b then Compl else Comm) ≡ true
command-is true = refl
command-is false = refl

command-at : (G' : List PlainPaths) (q : Tree) (g : Found) (x : Bool) → IsFound G' q g → if_passed x (command_of (least_type G' q))
    ≡ if_passed (x && has (least_type G' q) (end_of_command g)) (one_end (end_of_command g))
command-at G' q g x h =
    subst (λ Q. if_passed x (command_of Q) ≡ if_passed (x && has Q (end_of_command g)) (one_end (end_of_command g))) h.paths
    (command-same x (plain_paths g.paths))

pub seq-found : (G : List PlainPaths) (p q : Tree) (at : Place) (f g r : Found) → IsFound G p f → IsFound G q g →
    IsMade (if_passed (have_atoms f g Comm (end_of_command g)) (one_end (end_of_command g))) (blame_at f (blame_at g at)) (f.total + g.total) r →
    derivation_of r ≡ derived_if (have_atoms f g Comm (end_of_command g)) (rule_of_both (as_atom Comm f) (as_atom (end_of_command g) g)) →
    IsFound G (seq p q at) r
seq-found G p q at f g r hf hg =
    atoms-found G G p q (seq p q at) nothing Comm (end_of_command g) (end_of_command g) at f g r (λ m. m + 1 + sizes.nodes p) hf hg
    (command-at G q g (has (least_type G p) Comm) hg) refl refl refl (λ m. refl) refl refl refl (λ H A i. i)
    (λ H. command-concludes Comm (end_of_command g) (command-is (has_atom g Compl)))
    (λ names text. both-writable names G G p q text.around text.around text.named text.full text.few)
    (λ I Bs A. command-solid Comm (type_at Bs 0) (type_at Bs 1) A) (λ d e x y. and_plain x (and_plain y no_premises))

pub new-found : (G : List PlainPaths) (d : ℕ) (D : DataTy) (p q : Tree) (at : Place) (f g r : Found) → IsFound G p f →
    IsFound (paths (cell_type D) ∷ G) q g →
    IsMade (if_passed (have_atoms f g (data_atom D) (end_of_command g)) (one_end (end_of_command g))) (blame_at f (blame_at g at)) (f.total + g.total)
    r →
    derivation_of r ≡ derived_if (have_atoms f g (data_atom D) (end_of_command g))
    (rule_of_both (as_atom (data_atom D) f) (as_atom (end_of_command g) g)) →
    IsFound G (new d D p q at) r
new-found G d D p q at f g r hf hg =
    atoms-found G (paths (cell_type D) ∷ G) p q (new d D p q at) (given (cell_type D)) (data_atom D) (end_of_command g) (end_of_command g) at f g r
    (λ m. m + 1 + sizes.nodes p) hf hg
    (command-at (paths (cell_type D) ∷ G) q g (has (least_type G p) (data_atom D)) hg) refl refl refl (λ m. refl) refl refl refl
    (λ H A i. ap (λ X. paths (cell_type D) ∷ X) i)
    (λ H. command-concludes (data_atom D) (end_of_command g) (command-is (has_atom g Compl)))
    (λ names text. both-writable names G (paths (cell_type D) ∷ G) p q text.around ((tt, (tt, tt)), text.around) text.named text.full text.few)
    (λ I Bs A. command-solid (data_atom D) (type_at Bs 0) (type_at Bs 1) A) (λ d e x y. and_plain x (and_given y no_premises))

pub cells-found : (G : List PlainPaths) (d : ℕ) (p q : Tree) (at : Place) (f g r : Found) → IsFound G p f →
    IsFound (paths sequence_type ∷ G) q g →
    IsMade (if_passed (have_atoms f g Int (end_of_command g)) (one_end (end_of_command g))) (blame_at f (blame_at g at)) (f.total + g.total) r →
    derivation_of r ≡ derived_if (have_atoms f g Int (end_of_command g)) (rule_of_both (as_atom Int f) (as_atom (end_of_command g) g)) →
    IsFound G (cells d p q at) r
cells-found G d p q at f g r hf hg =
    atoms-found G (paths sequence_type ∷ G) p q (cells d p q at) (given sequence_type) Int (end_of_command g) (end_of_command g) at f g r
    (λ m. m + 1 + sizes.nodes p) hf hg
    (command-at (paths sequence_type ∷ G) q g (has (least_type G p) Int) hg) refl refl refl (λ m. refl) refl refl refl
    (λ H A i. ap (λ X. paths sequence_type ∷ X) i)
    (λ H. command-concludes Int (end_of_command g) (command-is (has_atom g Compl)))
    (λ names text. both-writable names G (paths sequence_type ∷ G) p q text.around (sequence-fields (IsNamed names) text.named.0, text.around) (text.named.1, text.named.2) text.full text.few)
    (λ I Bs A. command-solid Int (type_at Bs 0) (type_at Bs 1) A) (λ d e x y. and_plain x (and_given y no_premises))

data-some : (t : DataTy → Bool) (D : DataTy) → t D ≡ true → some_data t ≡ true
data-some t data_type.Int e = or_left _ _ e
data-some t data_type.Bool e = or_right _ _ (or_left _ _ e)
data-some t data_type.Char e = or_right _ _ (or_right _ _ e)

-- rules of two premises that share a data type
pub binary-found : (G : List PlainPaths) (op : BinOp) (p q : Tree) (at : Place) (f g r : Found) → IsFound G p f → IsFound G q g →
    IsMade (if_passed (serves_operator op f g) (one_end (binary_atom op))) (blame_at f (blame_at g at)) (f.total + g.total) r →
    IsOperated op f g (derivation_of r) → IsFound G (binary op p q at) r
binary-found G op p q at f g r hf hg made choice =
    two-found G G p q (binary op p q at) at f g r (derivation_of r) (λ m. m + 1 + sizes.nodes p) hf hg
    (subst (λ P. IsMade P (blame_at f (blame_at g at)) (f.total + g.total) r) (sym test) made) refl refl refl (λ m. refl) refl refl
    (derived choice) (few choice) (shallow choice) (types choice) (layers choice) (λ names text. prints names text choice)
    (paired choice)
  where
    test : least_type G (binary op p q at) ≡ if_passed (serves_operator op f g) (one_end (binary_atom op))
    test =
        ap (λ P. if_passed (some_data (has_operands op P (least_type G q))) (one_end (binary_atom op))) (sym hf.paths)
        ∙ ap (λ Q. if_passed (some_data (has_operands op (plain_paths f.paths) Q)) (one_end (binary_atom op))) (sym hg.paths)

    paired : IsOperated op f g (derivation_of r) → ConcludesBelow G (binary op p q at) (derivation_of r) → HasPairsAbove G (binary op p q at) (derivation_of r)
    paired (inl x) =
        solid-pairs G (binary op p q at) ((nothing, p) ∷ (nothing, q) ∷ []) (derivation_of r) refl
        (test ∙ ap (λ b. if_passed b (one_end (binary_atom op))) x.0) (λ I Bs A. provided-solid (fits_operator op (type_at Bs 0) (type_at Bs 1)) (binary_atom op) A)
    paired (inr x) =
        subst (λ d. ConcludesBelow G (binary op p q at) d → HasPairsAbove G (binary op p q at) d) (sym x.2)
        (rule-pairs G (binary op p q at) ((nothing, p) ∷ (nothing, q) ∷ [])
        (and_derivation (as_atom (data_atom x.0) f) (and_derivation (as_atom (data_atom x.0) g) no_derivations)) refl
        (and_plain (sub-pairs G p (atom (data_atom x.0)) (derivation_of f) hf.pairs)
        (and_plain (sub-pairs G q (atom (data_atom x.0)) (derivation_of g) hg.pairs) no_premises)))

    serves : (D : DataTy) → has_operands op (plain_paths f.paths) (plain_paths g.paths) D ≡ true → serves_operator op f g ≡ true
    serves D e = data-some (has_operands op (plain_paths f.paths) (plain_paths g.paths)) D e

    derived : IsOperated op f g (derivation_of r) → ConcludesBelow G (binary op p q at) (derivation_of r)
    derived (inl x) =
        subst (ConcludesBelow G (binary op p q at)) (sym x.1)
        (none-derived G (binary op p q at) (test ∙ ap (λ b. if_passed b (one_end (binary_atom op))) x.0))
    derived (inr x) =
        let D = x.0 in
        let both = both_true (takes op D) (has_atom f (data_atom D) && has_atom g (data_atom D)) x.1 in
        let each = both_true (has_atom f (data_atom D)) (has_atom g (data_atom D)) both.1 in
        subst (ConcludesBelow G (binary op p q at)) (sym x.2)
        (λ H i n. (
          atom (binary_atom op),
          atoms-derived G G p q (binary op p q at) nothing (data_atom D) (data_atom D) (binary_atom op) f g hf hg refl (λ K A j. j)
              (λ K. when (fits_operator op (of_data D) (of_data D)) (atom (binary_atom op)) (operator-fits op D both.0)) each.0 each.1 H i n,
          subst (λ P. ArePathsBelow (one_end (binary_atom op)) P)
              (sym (test ∙ ap (λ b. if_passed b (one_end (binary_atom op))) (serves D x.1))) (ArePathsBelow-refl (one_end (binary_atom op))),
        ))

    prints : (names : List Bytes) → IsWritable names G (binary op p q at) → IsOperated op f g (derivation_of r) → IsPrintable names (derivation_of r)
    prints names text (inl x) = subst (IsPrintable names) (sym x.1) tt
    prints names text (inr x) =
        let each = both-writable names G G p q text.around text.around text.named text.full text.few in
        subst (IsPrintable names) (sym x.2)
        (two-printable names (atom (data_atom x.0)) (atom (data_atom x.0)) (derivation_of f) (derivation_of g) (tt, tt) (tt, tt)
        (hf.printable names each.0) (hg.printable names each.1))

    layers : IsOperated op f g (derivation_of r) → IsLayered met (derivation_of r)
    layers (inl x) = subst (IsLayered met) (sym x.1) ns-layered
    layers (inr x) = subst (IsLayered met) (sym x.2)
        (two-layered (atom (data_atom x.0)) (atom (data_atom x.0)) (derivation_of f) (derivation_of g) hf.layered hg.layered)

    types : IsOperated op f g (derivation_of r) → deepest_type (derivation_of r)
        ≤ max (max (deepest_written p) (deepest_written q)) most_made_nesting
    types (inl x) = omega (arith, ap deepest_type x.1)
    types (inr x) = omega (arith, ap deepest_type x.2, hf.types, hg.types)

    few : IsOperated op f g (derivation_of r) → nodes (derivation_of r) ≤ 4 + nodes (derivation_of f) + nodes (derivation_of g)
    few (inl x) = omega (arith, ap nodes x.1)
    few (inr x) = omega (arith, ap nodes x.2)

    shallow : IsOperated op f g (derivation_of r) → derivations.nesting (derivation_of r)
        ≤ 3 + max (derivations.nesting (derivation_of f)) (derivations.nesting (derivation_of g))
    shallow (inl x) = omega (arith, ap derivations.nesting x.1)
    shallow (inr x) = omega (arith, ap derivations.nesting x.2)

pub assign-found : (G : List PlainPaths) (p q : Tree) (at : Place) (f g r : Found) → IsFound G p f → IsFound G q g →
    IsMade (if_passed (serves_assignment f g) (one_end Comm)) (blame_at f (blame_at g at)) (f.total + g.total) r →
    IsAssigned f g (derivation_of r) → IsFound G (assign p q at) r
assign-found G p q at f g r hf hg made choice =
    two-found G G p q (assign p q at) at f g r (derivation_of r) (λ m. m + 1 + sizes.nodes p) hf hg
    (subst (λ P. IsMade P (blame_at f (blame_at g at)) (f.total + g.total) r) (sym test) made) refl refl refl (λ m. refl) refl refl
    (derived choice) (few choice) (shallow choice) (types choice) (layers choice) (λ names text. prints names text choice)
    (paired choice)
  where
    test : least_type G (assign p q at) ≡ if_passed (serves_assignment f g) (one_end Comm)
    test =
        ap (λ P. if_passed (some_data (has_assignment P (least_type G q))) (one_end Comm)) (sym hf.paths)
        ∙ ap (λ Q. if_passed (some_data (has_assignment (plain_paths f.paths) Q)) (one_end Comm)) (sym hg.paths)

    paired : IsAssigned f g (derivation_of r) → ConcludesBelow G (assign p q at) (derivation_of r) → HasPairsAbove G (assign p q at) (derivation_of r)
    paired (inl x) =
        solid-pairs G (assign p q at) ((nothing, p) ∷ (nothing, q) ∷ []) (derivation_of r) refl
        (test ∙ ap (λ b. if_passed b (one_end Comm)) x.0) (λ I Bs A. provided-solid (fits_assignment (type_at Bs 0) (type_at Bs 1)) Comm A)
    paired (inr x) =
        subst (λ d. ConcludesBelow G (assign p q at) d → HasPairsAbove G (assign p q at) d) (sym x.2)
        (rule-pairs G (assign p q at) ((nothing, p) ∷ (nothing, q) ∷ [])
        (and_derivation (as_atom (acceptor_atom x.0) f) (and_derivation (as_atom (data_atom x.0) g) no_derivations)) refl
        (and_plain (sub-pairs G p (atom (acceptor_atom x.0)) (derivation_of f) hf.pairs)
        (and_plain (sub-pairs G q (atom (data_atom x.0)) (derivation_of g) hg.pairs) no_premises)))

    serves : (D : DataTy) → has_assignment (plain_paths f.paths) (plain_paths g.paths) D ≡ true → serves_assignment f g ≡ true
    serves D e = data-some (has_assignment (plain_paths f.paths) (plain_paths g.paths)) D e

    derived : IsAssigned f g (derivation_of r) → ConcludesBelow G (assign p q at) (derivation_of r)
    derived (inl x) =
        subst (ConcludesBelow G (assign p q at)) (sym x.1)
        (none-derived G (assign p q at) (test ∙ ap (λ b. if_passed b (one_end Comm)) x.0))
    derived (inr x) =
        let D = x.0 in
        let each = both_true (has_atom f (acceptor_atom D)) (has_atom g (data_atom D)) x.1 in
        subst (ConcludesBelow G (assign p q at)) (sym x.2)
        (λ H i n. (
          atom Comm,
          atoms-derived G G p q (assign p q at) nothing (acceptor_atom D) (data_atom D) Comm f g hf hg refl (λ K A j. j)
              (λ K. when (fits_assignment (atom (acceptor_atom D)) (of_data D)) (atom Comm) (assignment-fits D)) each.0 each.1 H i n,
          subst (λ P. ArePathsBelow (one_end Comm) P)
              (sym (test ∙ ap (λ b. if_passed b (one_end Comm)) (serves D x.1))) (ArePathsBelow-refl (one_end Comm)),
        ))

    prints : (names : List Bytes) → IsWritable names G (assign p q at) → IsAssigned f g (derivation_of r) → IsPrintable names (derivation_of r)
    prints names text (inl x) = subst (IsPrintable names) (sym x.1) tt
    prints names text (inr x) =
        let each = both-writable names G G p q text.around text.around text.named text.full text.few in
        subst (IsPrintable names) (sym x.2)
        (two-printable names (atom (acceptor_atom x.0)) (atom (data_atom x.0)) (derivation_of f) (derivation_of g) (tt, tt) (tt, tt)
        (hf.printable names each.0) (hg.printable names each.1))

    layers : IsAssigned f g (derivation_of r) → IsLayered met (derivation_of r)
    layers (inl x) = subst (IsLayered met) (sym x.1) ns-layered
    layers (inr x) = subst (IsLayered met) (sym x.2)
        (two-layered (atom (acceptor_atom x.0)) (atom (data_atom x.0)) (derivation_of f) (derivation_of g) hf.layered hg.layered)

    types : IsAssigned f g (derivation_of r) → deepest_type (derivation_of r)
        ≤ max (max (deepest_written p) (deepest_written q)) most_made_nesting
    types (inl x) = omega (arith, ap deepest_type x.1)
    types (inr x) = omega (arith, ap deepest_type x.2, hf.types, hg.types)

    few : IsAssigned f g (derivation_of r) → nodes (derivation_of r) ≤ 4 + nodes (derivation_of f) + nodes (derivation_of g)
    few (inl x) = omega (arith, ap nodes x.1)
    few (inr x) = omega (arith, ap nodes x.2)

    shallow : IsAssigned f g (derivation_of r) → derivations.nesting (derivation_of r)
        ≤ 3 + max (derivations.nesting (derivation_of f)) (derivations.nesting (derivation_of g))
    shallow (inl x) = omega (arith, ap derivations.nesting x.1)
    shallow (inr x) = omega (arith, ap derivations.nesting x.2)
