use Rattle.std.proofs.Common.{◌≡◌, ◌+◌, ◌-◌, ℕ, false, sym, subst, ◌∙◌, arith, refl}
use Rattle.pe_code.specs.declared.code.Entry.{Entry}
use Rattle.pe_code.specs.Entries.{is_before}
use Rattle.pe_code.proofs.ValidLemmas.{once-rising, once-falling}
use Rattle.std.proofs.Common.{get_or}
use Rattle.pe_code.proofs.valid.are_once.Goals as goal

pub returns-then-not-is_before : goal.returns-then-not-is_before
returns-then-not-is_before c =
    let es = c.args.entries.now in
    let d : Entry = record { node = 0; shape = 0; address = 0 } in
    let next : c.loop-i.i - 1 + 1 ≡ c.loop-i.i = omega arith in
    let flat : is_before (get_or es c.loop-i.i d).node (get_or es c.loop-i.i d).shape (get_or es (c.loop-i.i - 1) d) ≡ false = sym c.is_before.ensures ∙ c.if-not-is_before.true in (
      λ t. absurd (cc),
      λ h. absurd (once-falling es (c.loop-i.i - 1) d c.requires h (omega arith) (subst (λ (n : ℕ). is_before (get_or es n d).node (get_or es n d).shape (get_or es (c.loop-i.i - 1) d) ≡ false) (sym next) flat)),
    )

pub returns : goal.returns
returns c =
    let up = c.loop-i.invariant in
    (λ t. once-rising c.args.entries.now c.requires (λ k d lt. up k d (omega arith)), λ h. refl)
