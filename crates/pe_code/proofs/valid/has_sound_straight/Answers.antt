use Rattle.std.proofs.Common.{◌≡◌, ◌≢◌, ℕ, List, None, refl, subst}
use Rattle.pe_code.specs.declared.code.StraightPart.{StraightPart}
use Rattle.pe_code.specs.declared.code.Purpose.{Purpose}
use Rattle.pe_code.specs.declared.code.PeInsn.{PeInsn}
use Rattle.pe_code.specs.declared.code.PeInsn.TheVariants as insn
use Rattle.pe_code.specs.Code.{straight_of}
use Rattle.pe_code.specs.Valid.{IsSoundStraight}
use Rattle.pe_code.proofs.valid.has_sound_straight.Goals as goal

pub returns-in-Eval : goal.returns-in-Eval
returns-in-Eval c = rw c.in-Eval.is (
  λ t ss e. let same : c.in-Eval.parts ≡ ss = cc in subst (IsSoundStraight c.args.code.now c.args.depth) same (rw c.as_slice.ensures at (c.is_sound_straight.ensures.0 t)),
  λ h. c.is_sound_straight.ensures.1 (rw c.as_slice.ensures (h c.in-Eval.parts refl)),
)

pub returns-in-Set : goal.returns-in-Set
returns-in-Set c = rw c.in-Set.is (
  λ t ss e. let same : c.in-Set.parts ≡ ss = cc in subst (IsSoundStraight c.args.code.now c.args.depth) same (rw c.as_slice-in-Set.ensures at (c.is_sound_straight-in-Set.ensures.0 t)),
  λ h. c.is_sound_straight-in-Set.ensures.1 (rw c.as_slice-in-Set.ensures (h c.in-Set.parts refl)),
)

pub returns-in-EvalFor : goal.returns-in-EvalFor
returns-in-EvalFor c = rw c.in-EvalFor.is (
  λ t ss e. let same : c.in-EvalFor.parts ≡ ss = cc in subst (IsSoundStraight c.args.code.now c.args.depth) same (rw c.as_slice-in-EvalFor.ensures at (c.is_sound_straight-in-EvalFor.ensures.0 t)),
  λ h. c.is_sound_straight-in-EvalFor.ensures.1 (rw c.as_slice-in-EvalFor.ensures (h c.in-EvalFor.parts refl)),
)

-- another instruction runs none
none_run : (i : PeInsn) → ((ss : List StraightPart) → i ≢ insn.Eval ss) → ((k : ℕ) (ss : List StraightPart) → i ≢ insn.Set k ss) → ((ss : List StraightPart) (u : Purpose) → i ≢ insn.EvalFor ss u) → straight_of i ≡ None
none_run (insn.Eval ss) a b c = absurd (a ss refl)
none_run (insn.Set k ss) a b c = absurd (b k ss refl)
none_run (insn.EvalFor ss u) a b c = absurd (c ss u refl)
none_run i a b c = refl

pub returns-in_default : goal.returns-in_default
returns-in_default c =
    let none = none_run c.args.insn.now c.in_default.not-Eval c.in_default.not-Set c.in_default.not-EvalFor in
    rw none (λ t ss e. absurd cc, λ h. refl)
