-- Truth values are put as their text, and runs end as they should.
use Rattle.std.proofs.Common.{◌≡◌, ℕ, true, false, List, [], ◌∷◌, refl, subst, append_assoc, arith}
use Rattle.fy_base.specs.Arithmetic.{truth_text}
use Rattle.rv_word.specs.declared.micros.Register.TheVariants.{Second}
use Rattle.rv_word.specs.declared.micros.Micro.{Micro}
use Rattle.rv_word.specs.declared.micros.Micro.TheVariants.{Set, Jump, Put}
use Rattle.rv_word.specs.Word.{Data, Code}
use Rattle.rv_runtime.specs.Routines.{meet, put_true, put_false}
use Rattle.rv_runtime.specs.Laws.{HoldsRoutines, Puts, TruthsArePut, at_block}
use Rattle.rv_runtime.proofs.Runs.{Comes, at, from, join, wider}
use Rattle.rv_runtime.proofs.Straight.{behind_all, straight, jumps}
use Rattle.rv_runtime.proofs.Held.{put_true-is, put_false-is}
use Rattle.rv_runtime.proofs.Digits.{Writes}
use Rattle.rv_runtime.proofs.Ints.{puts}

abbrev putting : List ℕ → List Micro
putting [] = []
putting (byte ∷ bytes) = Set Second byte ∷ Put Second ∷ putting bytes

module _ (code : Code) (h : HoldsRoutines code) where
  writes_true : (e : Data) → Writes code put_true 100 (truth_text true) e
  writes_true e =
      let micros : List Micro = putting (truth_text true) in
      let put : Comes code (at_block code put_true e) (at (Jump meet ∷ []) (behind_all micros e)) 8 16 = from (put_true-is code h) (straight code micros (Jump meet ∷ []) e refl) in
      record {
        after = behind_all micros e;
        comes = wider 1 100 (omega arith) (omega arith) (join put (jumps code meet [] (behind_all micros e)));
        output = simp append_assoc;
        keeps = record { frame = refl; context = refl; top = refl; words = refl; input = refl };
      }

  writes_false : (e : Data) → Writes code put_false 100 (truth_text false) e
  writes_false e =
      let micros : List Micro = putting (truth_text false) in
      let put : Comes code (at_block code put_false e) (at (Jump meet ∷ []) (behind_all micros e)) 10 20 = from (put_false-is code h) (straight code micros (Jump meet ∷ []) e refl) in
      record {
        after = behind_all micros e;
        comes = wider 1 100 (omega arith) (omega arith) (join put (jumps code meet [] (behind_all micros e)));
        output = simp append_assoc;
        keeps = record { frame = refl; context = refl; top = refl; words = refl; input = refl };
      }

pub truths_are_put : TruthsArePut
truths_are_put code true text e h is = let same : truth_text true ≡ text = (cc) in subst (λ t. Puts code put_true 100 t e) same (puts (writes_true code h e))
truths_are_put code false text e h is = let same : truth_text false ≡ text = (cc) in subst (λ t. Puts code put_false 100 t e) same (puts (writes_false code h e))
