-- A constant is evaluated by fewer steps of the copy rule than twice its nodes, and nothing but the focus changes.
use Rattle.std.proofs.Common.{ℕ, suc, true, false, ◌+◌, ◌*◌, ◌≤◌, ◌≡◌, ◌⊎◌, Some, refl, ap, ◌∙◌, subst, inl, inr, arith}
use Rattle.fy_base.specs.declared.data.Place.{Place}
use Rattle.fy_base.specs.declared.data.Datum.{Datum}
use Rattle.fy_base.specs.declared.data.Datum.TheVariants as datum
use Rattle.fy_base.specs.declared.data.BinOp.{BinOp}
use Rattle.fy_base.specs.declared.data.BinOp.TheVariants.{And, Or}
use Rattle.fy_base.specs.declared.arithmetic.Applied.{Applied}
use Rattle.fy_base.specs.declared.arithmetic.Applied.TheVariants.{Gives}
use Rattle.fy_base.specs.Arithmetic.{binary_result}
use Rattle.fy_phrase.specs.Tree.{Tree, lit, unary, binary}
use Rattle.fy_phrase.specs.Sizes.{nodes}
use Rattle.fy_phrase.specs.Contexts.{op_1, op_l, op_r}
use Rattle.fy_phrase.specs.Copy.{CopyState, left_meets, operated, pushed, focused, focus_on, push}
use Rattle.pe_right.specs.Constants.{value_of}
use Rattle.pe_right.proofs.ConstantLemmas.{unary-of, binary-of}
use Rattle.pe_right.proofs.Moves.{Steps, no_step, and_step}

pub joined : {i j : ℕ} {c d e : CopyState} → Steps i c d → Steps j d e → Steps (i + j) c e
joined {j = j} {d = d} {e = e} no_step y = let z : j ≡ 0 + j = omega arith in subst (λ (n : ℕ). Steps n d e) z y
joined {j = j} {c = c} {e = e} (and_step {j = i} h x) y = let z : suc (i + j) ≡ suc i + j = omega arith in subst (λ (n : ℕ). Steps n c e) z (and_step h (joined x y))

-- from the phrase to its value
abbrev pub Evaluates : Tree → Datum → CopyState → Type 0
Evaluates q v c = (j : ℕ) × (at : Place) × (j + 2 ≤ 2 * nodes q) × Steps j (focus_on q c) (focus_on (lit v at) c)

-- the left operand's value asks for the right one, is passed over for it, or is the result
abbrev Asks : BinOp → Datum → Type 0
Asks op u = (here : Place) (q : Tree) (at : Place) (s : CopyState) → left_meets op u here q at s ≡ pushed (op_r op u at) q s

abbrev Passes : BinOp → Datum → Type 0
Passes op u = (here : Place) (q : Tree) (at : Place) (s : CopyState) → left_meets op u here q at s ≡ focused q s

abbrev Decides : BinOp → Datum → Type 0
Decides op u = (here : Place) (q : Tree) (at : Place) (s : CopyState) → left_meets op u here q at s ≡ focused (lit u here) s

decided : (op : BinOp) (u w v : Datum) → binary_result op u w ≡ Gives v → Asks op u ⊎ ((Passes op u × (w ≡ v)) ⊎ (Decides op u × (u ≡ v)))
decided And (datum.Bool true) (datum.Bool b) v e = inr (inl ((λ here q at s. refl), cc))
decided And (datum.Bool false) (datum.Bool b) v e = inr (inr ((λ here q at s. refl), cc))
decided And (datum.Int x) (datum.Int y) v e = absurd cc
decided And (datum.Int x) (datum.Char y) v e = absurd cc
decided And (datum.Int x) (datum.Bool y) v e = absurd cc
decided And (datum.Char x) (datum.Int y) v e = absurd cc
decided And (datum.Char x) (datum.Char y) v e = absurd cc
decided And (datum.Char x) (datum.Bool y) v e = absurd cc
decided And (datum.Bool x) (datum.Int y) v e = absurd cc
decided And (datum.Bool x) (datum.Char y) v e = absurd cc
decided Or (datum.Bool true) (datum.Bool b) v e = inr (inr ((λ here q at s. refl), cc))
decided Or (datum.Bool false) (datum.Bool b) v e = inr (inl ((λ here q at s. refl), cc))
decided Or (datum.Int x) (datum.Int y) v e = absurd cc
decided Or (datum.Int x) (datum.Char y) v e = absurd cc
decided Or (datum.Int x) (datum.Bool y) v e = absurd cc
decided Or (datum.Char x) (datum.Int y) v e = absurd cc
decided Or (datum.Char x) (datum.Char y) v e = absurd cc
decided Or (datum.Char x) (datum.Bool y) v e = absurd cc
decided Or (datum.Bool x) (datum.Int y) v e = absurd cc
decided Or (datum.Bool x) (datum.Char y) v e = absurd cc
decided op u w v e = inl (λ here q at s. refl)

pub nodes-some : (q : Tree) → 1 ≤ nodes q
nodes-some (lit v at) = omega arith
nodes-some q = omega arith

pub evaluated : (q : Tree) (v : Datum) → value_of q ≡ Some v → (c : CopyState) → Evaluates q v c
evaluated (lit u at) v e c =
    let f : u ≡ v = cc in
    (0, at, omega arith, subst (λ (w : Datum). Steps 0 (focus_on (lit u at) c) (focus_on (lit w at) c)) f no_step)
evaluated (unary op p at) v e c =
    let x = unary-of op (value_of p) v e in
    let i = evaluated p x.0 x.1 (push (op_1 op at) c) in
    (suc (i.0 + 1), at, omega (arith, i.2), and_step refl (joined i.3 (and_step (ap (λ (r : Applied). operated r at (focus_on (lit x.0 i.1) c)) x.2) no_step)))
evaluated (binary op p q at) v e c =
    let x = binary-of op (value_of p) (value_of q) v e in
    let i = evaluated p x.0 x.2 (push (op_l op q at) c) in
    elim (decided op x.0 x.1 v x.4) [
      | inl asks ↦
          let j = evaluated q x.1 x.3 (push (op_r op x.0 at) c) in (
            suc (i.0 + suc (j.0 + 1)),
            at,
            omega (arith, i.2, j.2),
            and_step refl (joined i.3 (and_step (asks i.1 q at (focus_on (lit x.0 i.1) c))
                (joined j.3 (and_step (ap (λ (r : Applied). operated r at (focus_on (lit x.1 j.1) c)) x.4) no_step)))),
          )
      | inr other ↦ elim other [
        | inl passes ↦
            let j = evaluated q x.1 x.3 c in (
              suc (i.0 + suc j.0),
              j.1,
              omega (arith, i.2, j.2),
              and_step refl (joined i.3 (and_step (passes.0 i.1 q at (focus_on (lit x.0 i.1) c))
                  (subst (λ (w : Datum). Steps j.0 (focus_on q c) (focus_on (lit w j.1) c)) passes.1 j.3))),
            )
        | inr decides ↦ (
          suc (i.0 + 1),
          i.1,
          (let h : 1 ≤ nodes q = nodes-some q in omega (arith, i.2, h)),
          and_step refl (joined i.3 (and_step (decides.0 i.1 q at (focus_on (lit x.0 i.1) c) ∙ ap (λ (w : Datum). focused (lit w i.1) c) decides.1) no_step)),
        )
      ]
    ]
evaluated q v e c = absurd cc
