use Rattle.std.proofs.Common.{◌≡◌, ℕ, sym, ap, subst, ◌∙◌, Some, None, slice_get, ◌∷◌, [], IsTrue}
use Rattle.fy_lexer.specs.declared.error.LexError.TheVariants.{BadByte}
use Rattle.fy_lexer.specs.Reading.{PieceFault, begins_other}
use Rattle.fy_lexer.specs.Spellings.{symbol_of}
use Rattle.fy_lexer.proofs.ReadingLemmas.{Took-next, first-byte, IfOk-ok_or, IfErr-ok_or}
use Rattle.fy_lexer.proofs.WordLemmas.{takes-long-symbol, takes-short-symbol, bad-symbol}
use Rattle.fy_lexer.proofs.reader.Reader.symbol.Goals as goal
use Rattle.fy_lexer.proofs.reader.Reader.symbol.Goals.{in-Some-peek+in_default-symbol_of, in_default-peek}

pub returns-in-Some-symbol_of-clause-ok : goal.returns-in-Some-symbol_of-clause-ok
returns-in-Some-symbol_of-clause-ok c =
    takes-long-symbol c.args.self.now c.next.new.self c.next-in-Some-symbol_of.new.self c.in-Some.first c.in-Some-peek.second c.in-Some-symbol_of.symbol c.in-Some.ensures
    (Took-next c.next.new.self c.next-in-Some-symbol_of.new.self c.next-in-Some-symbol_of.result c.in-Some-peek.second (sym c.in-Some-peek.ensures) c.next-in-Some-symbol_of.ensures)
    (sym c.in-Some-symbol_of.ensures)

-- the next byte makes no symbol of two bytes
no_long : (c : goal.After-ok_or) → (b : ℕ) → slice_get c.next.new.self.rest 0 ≡ Some b → symbol_of (c.in-Some.first ∷ b ∷ []) ≡ None
no_long c b h =
    elim c.match-peek.branch [
      | in-Some-peek+in_default-symbol_of w ↦
          let e : Some w.in-Some-peek.second ≡ Some b = w.in-Some-peek.ensures ∙ h in
          let i : w.in-Some-peek.second ≡ b = cc in
          ap (λ x. symbol_of (c.in-Some.first ∷ x ∷ [])) (sym i) ∙ sym w.in_default-symbol_of.ensures
      | in_default-peek w ↦ let e : None ≡ Some b = w.in_default-peek.ensures ∙ h in cc
    ]

pub returns-clause-ok : goal.returns-clause-ok
returns-clause-ok c =
    IfOk-ok_or _ c.symbol_of-2.result _ c.ok_or.result c.ok_or.ensures.value
    (λ s h. takes-short-symbol c.args.self.now c.next.new.self c.in-Some.first s c.in-Some.ensures (sym c.symbol_of-2.ensures ∙ h) (no_long c))

pub returns-clause-err : goal.returns-clause-err
returns-clause-err c =
    IfErr-ok_or _ c.symbol_of-2.result _ c.ok_or.result c.ok_or.ensures.value
    (λ h.
    subst (λ p. PieceFault c.args.self.now (BadByte p)) (sym c.place-place.ensures)
    (bad-symbol c.args.self.now c.next.new.self c.in-Some.first c.in-Some.ensures
    (first-byte (λ b. IsTrue (begins_other b)) c.args.self.now.rest c.next.new.self.rest c.in-Some.first c.requires c.in-Some.ensures.0) (sym c.symbol_of-2.ensures ∙ h)))
